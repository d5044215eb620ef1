-- Reading a list stays within its run: so what it gets to is the same where the run's pages are.
use Rattle.std.proofs.Common.{◌≡◌, ◌∙◌, ℕ, zero, suc, ◌+◌, ◌*◌, ◌/◌, ◌%◌, ◌<◌, ◌&&◌, ◌==◌, Bool, true, false, nat_lt, List, drop, get_or, ap, sym, refl, subst, arith}
use Rattle.std.specs.Prelude.{IfSome, Option, Some, None, if◌then◌else◌, option_and_then, option_map}
use Rattle.std.proofs.lemmas.Bool.{and_parts, eqb-true, ltb-true}
use Rattle.ghost_model.specs.forms.Runs.{Run}
use Rattle.ghost_model.specs.forms.Gaps.{Reading, after_code, are_codes, bytes_at, code_in, is_filling, past_filling, read_on, reading_at, reading_of, rest_at, within}
use Rattle.flash_pages.proofs.ListFrames.{KeepsRun, bytes_at_codes, bytes_at_record, reading_of_codes, reading_of_record}
use Rattle.flash_pages.proofs.RunFrames.{record_kept}

abbrev IsInside : (room : ℕ) → Reading → Type 0
IsInside room reading = reading.place < room

-- behind a code, with filling or without it
past_inside : (page : ℕ → List ℕ) (first room place : ℕ) → place < room → past_filling page first room place < room
past_inside page first room place low = by (is_filling page first room place) refl
  where
    by : (filled : Bool) → is_filling page first room place ≡ filled → (if filled then (place / 2048 + 1) * 2048 else place) < room
    by true is =
        let end = nat_lt ((place / 2048 + 1) * 2048) room in
        let begins = get_or (rest_at page first place) 0 0 == 128 in
        let late = nat_lt 2045 (place % 2048) in
        let parts = and_parts (late && end) begins is in
        ltb-true ((place / 2048 + 1) * 2048) room (and_parts late end parts.0).1
    by false is = low

module _ (page : ℕ → List ℕ) (first room : ℕ) where
  code_inside : (reading : Reading) (code : Option (ℕ × ℕ)) → IfSome (option_map (after_code page first room reading) (option_and_then (within room reading.place) code)) (IsInside room)
  code_inside reading None = tt
  code_inside reading (Some code) = by (nat_lt (reading.place + code.1) room) refl
    where
      by : (fits : Bool) → nat_lt (reading.place + code.1) room ≡ fits → IfSome (option_map (after_code page first room reading) (if fits then Some code else None)) (IsInside room)
      by true is = past_inside page first room (reading.place + code.1) (ltb-true (reading.place + code.1) room is)
      by false is = tt

  then_inside : (reading : Option Reading) → IfSome (option_and_then (read_on page first room) reading) (IsInside room)
  then_inside None = tt
  then_inside (Some reading) = code_inside reading (code_in (rest_at page first reading.place))

  all_inside : (begin i : ℕ) → begin < room → IfSome (reading_at page first room begin i) (IsInside room)
  unfolding reading_at
  all_inside begin zero low = low
  all_inside begin (suc i) low = then_inside (reading_at page first room begin i)

-- where reading a list gets to is inside of its run
place_of : Option Reading → ℕ
place_of None = 0
place_of (Some reading) = reading.place

inside_by :
    (page : ℕ → List ℕ) (run : Run) (begin i place last : ℕ) (codes : Bool) → are_codes run ≡ codes → begin + i < run.count
    → reading_of page run begin i ≡ Some (record { place = place; last = last }) → place < run.count
unfolding place_of
inside_by page run begin i place last true is low gets =
    let P : Option Reading → Type 0 = λ reading. IfSome reading (IsInside run.count) in
    subst P (sym (reading_of_codes page run begin i is) ∙ gets) (all_inside page run.first run.count begin i (omega (arith, low)))
inside_by page run begin zero place last false is low gets = let at : begin ≡ place = ap place_of gets in omega (arith, at, low)
inside_by page run begin (suc i) place last false is low gets =
    let at : begin + suc i ≡ place = ap place_of (sym (reading_of_record page run begin i is) ∙ gets) in omega (arith, at, low)

pub place_inside :
    (page : ℕ → List ℕ) (run : Run) (begin i place last : ℕ) → begin + i < run.count
    → reading_of page run begin i ≡ Some (record { place = place; last = last }) → place < run.count
place_inside page run begin i place last low gets = inside_by page run begin i place last (are_codes run) refl low gets

-- and what stands there is the same
kept_by : (page now : ℕ → List ℕ) (run : Run) (place : ℕ) (codes : Bool) → are_codes run ≡ codes → place < run.count → KeepsRun page now run
    → bytes_at now run place ≡ bytes_at page run place
kept_by page now run place true is low same =
    let P : ℕ → Type 0 = λ w. now (run.first + place / (2048 / w)) ≡ page (run.first + place / (2048 / w)) in
    bytes_at_codes now run place is
    ∙ (ap (drop (place % 2048)) (subst P (eqb-true run.width 1 is) (same place low)) ∙ sym (bytes_at_codes page run place is))
kept_by page now run place false is low same =
    bytes_at_record now run place is ∙ (record_kept page now run place (same place low) ∙ sym (bytes_at_record page run place is))

pub bytes_kept : (page now : ℕ → List ℕ) (run : Run) (place : ℕ) → place < run.count → KeepsRun page now run → bytes_at now run place ≡ bytes_at page run place
bytes_kept page now run place low same = kept_by page now run place (are_codes run) refl low same
