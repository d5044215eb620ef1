-- However the stream is cut: a piece that is not longer than what the frame at hand lacks is judged once, with its last
-- byte.
use Rattle.std.proofs.Common.{◌≡◌, ℕ, ◌+◌, ◌-◌, ◌<◌, ◌≤◌, Bool, true, false, not, nat_lt, List, [], ◌∷◌, ◌++◌, length, if◌then◌else◌, refl, ap, ◌∙◌, arith, append_assoc}
use Rattle.std.proofs.lemmas.Bool.Decides.{nat_tests}
use Rattle.std.proofs.lemmas.List.{length-append}
use Rattle.ghost_model.specs.core.Channel.{Catalog}
use Rattle.ghost_model.specs.core.Asks.{NumberedAsk}
use Rattle.ghost_model.specs.forms.Frames.{size_in, frame_in}
use Rattle.ghost_model.specs.core.NextMove.{Awaits, AwaitsCatalog, AwaitsReply, AwaitsNothing, Heard, Verdict, Lacking, Complete, Invalid, verdict, header_fits, payload_fits, hear, hear_all, heard_as}
use Rattle.channel_pump.proofs.JournalLemmas.{hear_none, hear_more}

-- the tests of a verdict, over plain values
abbrev picked : (short header part payload : Bool) (m n : ℕ) → Verdict
picked short header part payload m n =
    if short then Lacking m
    else if not header then Invalid
    else if part then Lacking n
    else if payload then Complete
    else Invalid

data Way (short header part : Bool) (m n k : ℕ) : Type 0 where
  in_header : short ≡ true → m ≡ k → Way short header part m n k
  in_payload : short ≡ false → header ≡ true → part ≡ true → n ≡ k → Way short header part m n k

same_short : (m k : ℕ) → Lacking m ≡ Lacking k → m ≡ k
same_short m k e = cc

not_invalid : (k : ℕ) → Invalid ≡ Lacking k → ⊥
not_invalid k e = cc

not_whole : (k : ℕ) → Complete ≡ Lacking k → ⊥
not_whole k e = cc

way : (short header part payload : Bool) (m n k : ℕ) → picked short header part payload m n ≡ Lacking k → Way short header part m n k
way true header part payload m n k e = in_header refl (same_short m k e)
way false false part payload m n k e = absurd (not_invalid k e)
way false true true payload m n k e = in_payload refl refl refl (same_short n k e)
way false true false true m n k e = absurd (not_whole k e)
way false true false false m n k e = absurd (not_invalid k e)

pick_header : (short header part payload : Bool) (m n : ℕ) → short ≡ true → picked short header part payload m n ≡ Lacking m
pick_header true header part payload m n e = refl
pick_header false header part payload m n e = cc

pick_payload : (short header part payload : Bool) (m n : ℕ) → short ≡ false → header ≡ true → part ≡ true → picked short header part payload m n ≡ Lacking n
pick_payload true header part payload m n a b c = cc
pick_payload false false part payload m n a b c = cc
pick_payload false true true payload m n a b c = refl
pick_payload false true false payload m n a b c = cc

lt_false : (a b : ℕ) → nat_lt a b ≡ false → b ≤ a
lt_false a b e = grind (arith, nat_tests)

lt_true : (a b : ℕ) → nat_lt a b ≡ true → a < b
lt_true a b e = grind (arith, nat_tests)

is_lt : (a b : ℕ) → a < b → nat_lt a b ≡ true
is_lt a b h = grind (arith, nat_tests)

not_lt : (a b : ℕ) → b ≤ a → nat_lt a b ≡ false
not_lt a b h = grind (arith, nat_tests)

-- what follows a header leaves what the header says
header_same : (catalog : Catalog) (awaits : Awaits) (part more : List ℕ) → 8 ≤ length part
    → header_fits catalog awaits (part ++ more) ≡ header_fits catalog awaits part
header_same catalog (AwaitsCatalog bytes) (a ∷ b ∷ c ∷ d ∷ e ∷ f ∷ g ∷ h ∷ part) more m = refl
header_same catalog (AwaitsReply asked serial later count last) (a ∷ b ∷ c ∷ d ∷ e ∷ f ∷ g ∷ h ∷ part) more m = refl
header_same catalog AwaitsNothing (a ∷ b ∷ c ∷ d ∷ e ∷ f ∷ g ∷ h ∷ part) more m = refl
header_same catalog awaits _ more m = absurd (omega (arith, m))

size_same : (part more : List ℕ) → 8 ≤ length part → size_in (part ++ more) ≡ size_in part
size_same (a ∷ b ∷ c ∷ d ∷ part) more m = refl
size_same _ more m = absurd (omega (arith, m))

-- of two or more missing bytes one came
short_on : (catalog : Catalog) (awaits : Awaits) (part : List ℕ) (byte missing : ℕ) → 2 ≤ missing → verdict catalog awaits part ≡ Lacking missing
    → verdict catalog awaits (part ++ byte ∷ []) ≡ Lacking (missing - 1)
short_on catalog awaits part byte missing some e =
    let longer : length (part ++ byte ∷ []) ≡ length part + 1 = length-append part (byte ∷ []) in
    elim (way (nat_lt (length part) 8) (header_fits catalog awaits part) (nat_lt (length part) (8 + size_in part)) (payload_fits catalog awaits (frame_in part))
    (8 - length part) (8 + size_in part - length part) missing e) [
      | in_header s k ↦
          (pick_header (nat_lt (length (part ++ byte ∷ [])) 8) (header_fits catalog awaits (part ++ byte ∷ [])) (nat_lt (length (part ++ byte ∷ [])) (8 + size_in (part ++ byte ∷ [])))
          (payload_fits catalog awaits (frame_in (part ++ byte ∷ []))) (8 - length (part ++ byte ∷ [])) (8 + size_in (part ++ byte ∷ []) - length (part ++ byte ∷ []))
          (is_lt (length (part ++ byte ∷ [])) 8 (omega (arith, longer, k, some)))
          ∙ ap (λ (n : ℕ). Lacking n) (omega (arith, longer, k, some)))
      | in_payload s h p k ↦
          (let long : 8 ≤ length part = lt_false (length part) 8 s in
          let size : size_in (part ++ byte ∷ []) ≡ size_in part = size_same part (byte ∷ []) long in
          pick_payload (nat_lt (length (part ++ byte ∷ [])) 8) (header_fits catalog awaits (part ++ byte ∷ [])) (nat_lt (length (part ++ byte ∷ [])) (8 + size_in (part ++ byte ∷ [])))
          (payload_fits catalog awaits (frame_in (part ++ byte ∷ []))) (8 - length (part ++ byte ∷ [])) (8 + size_in (part ++ byte ∷ []) - length (part ++ byte ∷ []))
          (not_lt (length (part ++ byte ∷ [])) 8 (omega (arith, longer, long)))
          (header_same catalog awaits part (byte ∷ []) long ∙ h)
          (is_lt (length (part ++ byte ∷ [])) (8 + size_in (part ++ byte ∷ [])) (omega (arith, longer, size, k, some)))
          ∙ ap (λ (n : ℕ). Lacking n) (omega (arith, longer, size, k, some)))
    ]

module _ (catalog : Catalog) (asks : List NumberedAsk) where
  hear_unbroken : (h : Heard) (byte : ℕ) (broken : Bool) → broken ≡ false
      → (if broken then h else heard_as catalog asks h (h.part ++ byte ∷ []) (verdict catalog h.awaits (h.part ++ byte ∷ [])))
      ≡ heard_as catalog asks h (h.part ++ byte ∷ []) (verdict catalog h.awaits (h.part ++ byte ∷ []))
  hear_unbroken h byte true e = cc
  hear_unbroken h byte false e = refl

  same_heard : (h : Heard) (front part : List ℕ) (v : Verdict) → heard_as catalog asks (record h { part = front }) part v ≡ heard_as catalog asks h part v
  same_heard h front part (Lacking n) = refl
  same_heard h front part Complete = refl
  same_heard h front part Invalid = refl

  pub cut : (h : Heard) (piece : List ℕ) (missing : ℕ) → h.broken ≡ false → verdict catalog h.awaits h.part ≡ Lacking missing
      → 0 < length piece → length piece ≤ missing
      → hear_all catalog asks h piece ≡ heard_as catalog asks h (h.part ++ piece) (verdict catalog h.awaits (h.part ++ piece))
  cut h [] missing whole e some fits = absurd (omega (arith, some))
  cut h (byte ∷ []) missing whole e some fits =
      hear_more catalog asks h byte [] ∙ (hear_none catalog asks (hear catalog asks h byte) ∙ hear_unbroken h byte h.broken whole)
  cut h (byte ∷ next ∷ later) missing whole e some fits =
      let rest : List ℕ = next ∷ later in
      let two : 2 ≤ missing = omega (arith, fits) in
      let short : verdict catalog h.awaits (h.part ++ byte ∷ []) ≡ Lacking (missing - 1) = short_on catalog h.awaits h.part byte missing two e in
      let step : hear catalog asks h byte ≡ record h { part = h.part ++ byte ∷ [] } =
      hear_unbroken h byte h.broken whole ∙ ap (heard_as catalog asks h (h.part ++ byte ∷ [])) short in
      hear_more catalog asks h byte (next ∷ later)
      ∙ (ap (λ (x : Heard). hear_all catalog asks x (next ∷ later)) step
      ∙ (cut (record h { part = h.part ++ byte ∷ [] }) (next ∷ later) (missing - 1) whole short (omega arith) (omega (arith, fits))
      ∙ (same_heard h (h.part ++ byte ∷ []) ((h.part ++ byte ∷ []) ++ next ∷ later) (verdict catalog h.awaits ((h.part ++ byte ∷ []) ++ next ∷ later))
      ∙ ap (λ (x : List ℕ). heard_as catalog asks h x (verdict catalog h.awaits x)) (append_assoc h.part (byte ∷ []) (next ∷ later)))))

-- what is missing and no more
pub exact : (catalog : Catalog) (awaits : Awaits) (part piece : List ℕ) (missing : ℕ) → verdict catalog awaits part ≡ Lacking missing → length piece ≤ missing
    → 8 + size_in (part ++ piece) ≤ length (part ++ piece) → length (part ++ piece) ≡ 8 + size_in (part ++ piece)
exact catalog awaits part piece missing e fits whole =
    let longer : length (part ++ piece) ≡ length part + length piece = length-append part piece in
    elim (way (nat_lt (length part) 8) (header_fits catalog awaits part) (nat_lt (length part) (8 + size_in part)) (payload_fits catalog awaits (frame_in part))
    (8 - length part) (8 + size_in part - length part) missing e) [
      | in_header s k ↦ (let short : length part < 8 = lt_true (length part) 8 s in omega (arith, longer, k, fits, whole, short))
      | in_payload s h p k ↦
          (let long : 8 ≤ length part = lt_false (length part) 8 s in
          let size : size_in (part ++ piece) ≡ size_in part = size_same part piece long in
          let more : length part < 8 + size_in part = lt_true (length part) (8 + size_in part) p in
          omega (arith, longer, size, k, fits, whole, more))
    ]
