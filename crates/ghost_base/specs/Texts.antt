-- How a text lies in its 64 places: its bytes, and zeros in the places after them. So the bytes give the places back.
use Rattle.std.specs.Prelude.{◌≡◌, ℕ, ◌-◌, ◌≤◌, List, ◌++◌, length, take, drop, replicate}
use Rattle.std.proofs.Common.{ap, ap₂, sym, subst, ◌∙◌, take-append-drop, length-take-le}
use Rattle.ghost_base.specs.declared.text.Text64.TheInside.{Inside}

-- the state of the places that each text keeps
pub record IsPadded (text : Inside) : Type 0 where
  pub fits : text.len ≤ 64
  pub whole : length text.bytes ≡ 64
  pub spare : drop text.len text.bytes ≡ replicate (64 - text.len) 0

abbrev pub places : List ℕ → ℕ → Inside
places bytes len = record { bytes = bytes; len = len }

-- the places that a text of these bytes has
abbrev pub fields_of : List ℕ → Inside
fields_of text = places (text ++ replicate (64 - length text) 0) (length text)

-- the bytes of a text give back its places
pub fields_are : (text : Inside) → IsPadded text → fields_of (take text.len text.bytes) ≡ text
fields_are text h =
    let count : length (take text.len text.bytes) ≡ text.len = length-take-le text.len text.bytes (subst (λ n. text.len ≤ n) (sym h.whole) h.fits) in
    let whole : take text.len text.bytes ++ replicate (64 - length (take text.len text.bytes)) 0 ≡ text.bytes =
    ap (λ n. take text.len text.bytes ++ replicate (64 - n) 0) count
    ∙ ap (λ rest. take text.len text.bytes ++ rest) (sym h.spare)
    ∙ take-append-drop text.len text.bytes in
    ap₂ places whole count
