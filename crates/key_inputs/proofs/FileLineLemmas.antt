-- The first lines of a file, byte by byte, and the records of a text, counted one by one.
use Rattle.std.proofs.Common.{◌≡◌, ◌≢◌, ℕ, zero, suc, ◌+◌, ◌-◌, ◌<◌, ◌≤◌, ◌==◌, Bool, true, false, nat_le, List, [], ◌∷◌, ◌++◌, length, take, drop, slice_index, if◌then◌else◌, inl, inr, refl, ap, sym, ◌∙◌, append-nil, arith}
use Rattle.std.proofs.lemmas.Bool.{ne_eqb}
use Rattle.std.proofs.lemmas.Bool.Decides.{leb_tells}
use Rattle.csv_split.specs.Records.{Reads}
use Rattle.key_inputs.specs.FileLines.{first_lines}

-- no line
none_left : (text : List ℕ) → first_lines 0 text ≡ []
unfolding first_lines
none_left text = refl

-- of an empty text
pub all_read : (count : ℕ) → first_lines count [] ≡ []
unfolding first_lines
all_read zero = refl
all_read (suc count) = refl

pub lines_done : (file : List ℕ) (count at left : ℕ) → left ≡ 0
    → first_lines count file ≡ take at file ++ first_lines left (drop at file) → take at file ≡ first_lines count file
lines_done file count at left none so_far =
    sym (so_far ∙ ap (λ n. take at file ++ first_lines n (drop at file)) none ∙ ap (λ rest. take at file ++ rest) (none_left (drop at file)) ∙ append-nil (take at file))

pub file_done : (file : List ℕ) (count at left : ℕ) → length file ≤ at
    → first_lines count file ≡ take at file ++ first_lines left (drop at file) → file ≡ first_lines count file
file_done file count at left whole so_far =
    sym (so_far ∙ whole_of file at left whole)
  where
    whole_of : (file : List ℕ) (at left : ℕ) → length file ≤ at → take at file ++ first_lines left (drop at file) ≡ file
    whole_of [] zero left h = all_read left
    whole_of [] (suc at) left h = all_read left
    whole_of (byte ∷ file) zero left h = absurd (omega (arith, h))
    whole_of (byte ∷ file) (suc at) left h = ap (λ rest. byte ∷ rest) (whole_of file at left (omega (arith, h)))

-- the next byte ends a line, or does not
abbrev pub lines_after : (byte left : ℕ) → ℕ
lines_after byte left = if byte == 10 then left - 1 else left

next_suc : (file : List ℕ) (at left : ℕ) → at < length file → 0 < left
    → take at file ++ first_lines left (drop at file)
    ≡ take (suc at) file ++ first_lines (lines_after (slice_index file at) left) (drop (suc at) file)
unfolding first_lines
next_suc [] at left h some = absurd (omega (arith, h))
next_suc (byte ∷ file) zero zero h some = absurd (omega (arith, some))
next_suc (byte ∷ file) zero (suc left) h some =
    let one : suc left - 1 ≡ left = omega arith in
    ap (λ (n : ℕ). byte ∷ first_lines (if byte == 10 then n else suc left) file) (sym one)
next_suc (byte ∷ file) (suc at) left h some = ap (λ rest. byte ∷ rest) (next_suc file at left (omega (arith, h)) some)

pub next_byte : (file : List ℕ) (at left : ℕ) → at < length file → 0 < left
    → take at file ++ first_lines left (drop at file)
    ≡ take (at + 1) file ++ first_lines (lines_after (slice_index file at) left) (drop (at + 1) file)
next_byte file at left h some =
    let one : suc at ≡ at + 1 = omega arith in
    next_suc file at left h some
    ∙ ap (λ (n : ℕ). take n file ++ first_lines (lines_after (slice_index file at) left) (drop n file)) one

-- a record was read, so that there are more than were read before
record_suc : {X : Type 0} (whole : List X) (n : ℕ) (x : X) (later : List X) → drop n whole ≡ x ∷ later
    → (suc n ≤ length whole) × (later ≡ drop (suc n) whole)
record_suc [] zero x later h = absurd (cc (h))
record_suc [] (suc n) x later h = absurd (cc (h))
record_suc (y ∷ whole) zero x later h = let rest : whole ≡ later = cc (h) in (omega arith, sym rest)
record_suc (y ∷ whole) (suc n) x later h = let more = record_suc whole n x later h in (omega (arith, more.0), more.1)

pub record_counted : {X : Type 0} (whole : List X) (n : ℕ) (x : X) (later : List X) → drop n whole ≡ x ∷ later
    → (suc n ≤ length whole) × (later ≡ drop (n + 1) whole)
record_counted whole n x later h =
    let one : suc n ≡ n + 1 = omega arith in
    let more = record_suc whole n x later h in
    (more.0, more.1 ∙ ap (λ (k : ℕ). drop k whole) one)

-- none is left
pub none_counted : {X : Type 0} (whole : List X) (n : ℕ) → drop n whole ≡ [] → length whole ≤ n
none_counted [] n h = omega arith
none_counted (y ∷ whole) zero h = absurd (cc (h))
none_counted (y ∷ whole) (suc n) h = let rest = none_counted whole n h in omega (arith, rest)

pub not_so_many : (count len n : ℕ) → len ≤ n → n < count → nat_le count len ≡ false
not_so_many count len n few h = elim (leb_tells count len) [ inl w ↦ absurd (omega (arith, w.1, few, h)) | inr w ↦ w.0 ]

pub so_many : (count len : ℕ) → count ≤ len → nat_le count len ≡ true
so_many count len h = elim (leb_tells count len) [ inl w ↦ w.0 | inr w ↦ absurd (omega (arith, w.1, h)) ]

pub one_counted : (found : Bool) (before after : List (List (List ℕ))) (fields : List (List ℕ)) (whole : List (List (List ℕ))) (n : ℕ)
    → found ≡ true → Reads found before fields after → before ≡ drop n whole
    → (suc n ≤ length whole) × (after ≡ drop (n + 1) whole)
one_counted true before after fields whole n is reads left = record_counted whole n fields after (sym left ∙ reads)
one_counted false before after fields whole n is reads left = absurd (cc (is))

pub all_counted : (found : Bool) (before after : List (List (List ℕ))) (fields : List (List ℕ)) (whole : List (List (List ℕ))) (n : ℕ)
    → found ≡ false → Reads found before fields after → before ≡ drop n whole → length whole ≤ n
all_counted true before after fields whole n is reads left = absurd (cc (is))
all_counted false before after fields whole n is reads left = none_counted whole n (sym left ∙ reads)

pub after_end : (byte left next : ℕ) → byte ≡ 10 → next ≡ left - 1 → lines_after byte left ≡ next
after_end byte left next is one = ap (λ b. if b == 10 then left - 1 else left) is ∙ sym one

pub after_other : (byte left next : ℕ) → byte ≢ 10 → next ≡ left → lines_after byte left ≡ next
after_other byte left next is same = ap (λ ends. if ends then left - 1 else left) (ne_eqb byte 10 is) ∙ sym same
