-- The field of a file at a place, found record by record.
use Rattle.std.proofs.Common.{arith, ◌≡◌, ℕ, zero, suc, ◌+◌, ◌-◌, Bool, true, false, List, [], ◌∷◌, drop, slice_get, Option, Some, option_map, option_and_then, sym, ap, ◌∙◌}
use Rattle.csv.specs.Records as csv
use Rattle.ghost_model.specs.core.Database.{records_of}
use Rattle.csv_split.specs.Records.{Reads}
use Rattle.csv_split.specs.declared.faults.Place.{Place}
use Rattle.key_inputs.specs.Naming.{shown, field_at}
use Rattle.key_inputs.specs.declared.shown.Shown.{Shown}

-- the first of what is left is the element at its place, and those after it are left
pub next_of : {X : Type 0} (whole : List X) (n : ℕ) (x : X) (later : List X) → drop n whole ≡ x ∷ later
    → (slice_get whole n ≡ Some x) × (later ≡ drop (n + 1) whole)
next_of [] zero x later h = absurd (cc (h))
next_of [] (suc n) x later h = absurd (cc (h))
next_of (y ∷ whole) zero x later h =
    let same : y ≡ x = cc (h) in let rest : whole ≡ later = cc (h) in (ap Some same, sym rest)
next_of (y ∷ whole) (suc n) x later h =
    let read = next_of whole n x later h in
    let next : suc n + 1 ≡ suc (n + 1) = omega arith in
    (read.0, read.1 ∙ ap (λ k. drop k (y ∷ whole)) (sym next))

-- a record was read
pub record_read : (found : Bool) (before after : List (List (List ℕ))) (fields : List (List ℕ)) (whole : List (List (List ℕ))) (n : ℕ)
    → found ≡ true → Reads found before fields after → before ≡ drop n whole
    → (slice_get whole n ≡ Some fields) × (after ≡ drop (n + 1) whole)
record_read true before after fields whole n is reads left = next_of whole n fields after (sym left ∙ reads)
record_read false before after fields whole n is reads left = absurd (cc (is))

field_got : (fields : List (List ℕ)) (i : ℕ) (text : List ℕ) → csv.field_at fields i ≡ Some text → slice_get fields i ≡ Some text
unfolding csv.field_at
field_got [] i text h = absurd (cc (h))
field_got (x ∷ fields) zero text h = h
field_got (x ∷ fields) (suc i) text h = field_got fields i text h

-- the value that is shown is that of the field
pub field_found : (file : List ℕ) (at : Place) (n : ℕ) (fields : List (List ℕ)) (text : List ℕ) (value : Shown) → n ≡ at.rec - 1
    → slice_get (records_of file) n ≡ Some fields → csv.field_at fields at.column ≡ Some text → value ≡ shown text
    → option_map shown (field_at file at) ≡ Some value
field_found file at n fields text value is found got shows =
    let one : slice_get (records_of file) (at.rec - 1) ≡ Some fields = ap (slice_get (records_of file)) (sym is) ∙ found in
    ap (λ (o : Option (List (List ℕ))). option_map shown (option_and_then (λ (fs : List (List ℕ)). slice_get fs at.column) o)) one
    ∙ ap (option_map shown) (field_got fields at.column text got) ∙ ap Some (sym shows)
