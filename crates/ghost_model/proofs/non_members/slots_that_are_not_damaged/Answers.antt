use Rattle.std.proofs.Common.{◌≡◌, refl, ap, sym, subst, arith, inl, inr, ℕ, zero, suc, ◌+◌, ◌/◌, ◌%◌, ◌<◌, ◌≤◌, List, [], ◌∷◌, drop, Bool, true, false, Option, Some, None}
use Rattle.std.specs.Prelude.{nat_lt, option_map}
use Rattle.std.specs.Fmt.{digits}
use Rattle.std.proofs.lemmas.Bool.Decides.{nat_tests}
use Rattle.ghost_model.specs.core.Schema.{places_from, ancestor}
use Rattle.ghost_model.specs.forms.Layout.{first_page, run_of_file, File, Cells, Subtrees, IndexHeader, IndexDirectory, IndexLevel, IdDirectory, IdLevel}
use Rattle.ghost_model.specs.forms.Runs.{page_of, slot_of, number_in, record_at, found_in}
use Rattle.ghost_model.specs.forms.Gaps.{Reading, code_at, last_of, reading_at}
use Rattle.ghost_model.specs.forms.Slots.{has_file, may_stand, may_follow, before_slot, in_slot, slots_in, code_stands, IsWrong, IsWrongRecord, IsBrokenCode}
use Rattle.ghost_model.specs.examples.Clinic.{note_schema, note_catalog}
use Rattle.ghost_model.specs.examples.NonMembers.{note_page, bad_page, led_page, long_page}
use Rattle.ghost_model.proofs.non_members.slots_that_are_not_damaged.Goals as goal

thrice : (P : ℕ → Type 0) → P 0 → P 1 → P 2 → (i : ℕ) → i < 3 → P i
thrice P a b c zero low = a
thrice P a b c (suc zero) low = b
thrice P a b c (suc (suc zero)) low = c
thrice P a b c (suc (suc (suc i))) low = absurd (omega (arith, low))

once : (P : ℕ → Type 0) → P 0 → (i : ℕ) → i < 1 → P i
once P a zero low = a
once P a (suc i) low = absurd (omega (arith, low))

one_level : (level : ℕ) → nat_lt (suc level) 1 ≡ true → ⊥
one_level level h = grind (arith, nat_tests)

no_level : (level : ℕ) → nat_lt level 0 ≡ true → ⊥
no_level level h = grind (arith, nat_tests)

-- the notes have these four files
of_notes : (P : File → Type 0) → P (Cells 0 2) → P (IndexHeader 0 2) → P (IndexDirectory 0 2) → P (IndexLevel 0 2 0)
    → (file : File) → has_file note_schema file ≡ true → P file
unfolding places_from ancestor
of_notes P a b c d (Cells zero zero) h = absurd (cc (h))
of_notes P a b c d (Cells zero (suc zero)) h = absurd (cc (h))
of_notes P a b c d (Cells zero (suc (suc zero))) h = a
of_notes P a b c d (Cells zero (suc (suc (suc column)))) h = absurd (cc (h))
of_notes P a b c d (Cells (suc table) column) h = absurd (cc (h))
of_notes P a b c d (IndexHeader zero zero) h = absurd (cc (h))
of_notes P a b c d (IndexHeader zero (suc zero)) h = absurd (cc (h))
of_notes P a b c d (IndexHeader zero (suc (suc zero))) h = b
of_notes P a b c d (IndexHeader zero (suc (suc (suc column)))) h = absurd (cc (h))
of_notes P a b c d (IndexHeader (suc table) column) h = absurd (cc (h))
of_notes P a b c d (IndexDirectory zero zero) h = absurd (cc (h))
of_notes P a b c d (IndexDirectory zero (suc zero)) h = absurd (cc (h))
of_notes P a b c d (IndexDirectory zero (suc (suc zero))) h = c
of_notes P a b c d (IndexDirectory zero (suc (suc (suc column)))) h = absurd (cc (h))
of_notes P a b c d (IndexDirectory (suc table) column) h = absurd (cc (h))
of_notes P a b c d (IndexLevel zero zero level) h = absurd (cc (h))
of_notes P a b c d (IndexLevel zero (suc zero) level) h = absurd (cc (h))
of_notes P a b c d (IndexLevel zero (suc (suc zero)) zero) h = d
of_notes P a b c d (IndexLevel zero (suc (suc zero)) (suc level)) h = absurd (one_level level h)
of_notes P a b c d (IndexLevel zero (suc (suc (suc column))) level) h = absurd (cc (h))
of_notes P a b c d (IndexLevel (suc table) column level) h = absurd (cc (h))
of_notes P a b c d (Subtrees zero) h = absurd (cc (h))
of_notes P a b c d (Subtrees (suc table)) h = absurd (cc (h))
of_notes P a b c d (IdDirectory zero) h = absurd (cc (h))
of_notes P a b c d (IdDirectory (suc table)) h = absurd (cc (h))
of_notes P a b c d (IdLevel zero level) h = absurd (no_level level h)
of_notes P a b c d (IdLevel (suc table) level) h = absurd (no_level level h)

-- a record of a file may not be as it is, or a code of the level file
abbrev Damaged : (page : ℕ → List ℕ) → File → ℕ → Type 0
Damaged page file place = IsWrong page note_catalog file place

undamaged : (page : ℕ → List ℕ) (file : File) (place : ℕ) → may_stand note_catalog file (in_slot page note_catalog file place) ≡ true
    → may_follow note_catalog file (before_slot page note_catalog file place) (in_slot page note_catalog file place) ≡ true
    → IsWrongRecord page note_catalog file place → ⊥
undamaged page file place stands follows (inl bad) = absurd (cc)
undamaged page file place stands follows (inr broken) = absurd (cc)

-- the code at a place after the last identifier, which has to be of one of three rows
abbrev Stands : (page : ℕ → List ℕ) (place last : ℕ) → Bool
Stands page place last = code_stands 3 (option_map (λ code. (last + code.0, code.1)) (code_at page 259 2048 place))

abbrev place_or_none : Option Reading → ℕ
place_or_none None = 0
place_or_none (Some reading) = reading.place

abbrev Gets : (page : ℕ → List ℕ) (begin i place last : ℕ) → Type 0
Gets page begin i place last = reading_at page 259 2048 begin i ≡ Some (record { place = place; last = last })

-- reading of a list with one identifier, which begins at a place, stands before it at that place
at_begin : (page : ℕ → List ℕ) (begin place last i : ℕ) → i < 1 → Gets page begin i place last → (begin ≡ place) × (0 ≡ last)
unfolding reading_at
at_begin page begin place last zero low gets = (ap place_or_none gets, ap last_of gets)
at_begin page begin place last (suc i) low gets = absurd (omega (arith, low))

stands_there : (page : ℕ → List ℕ) (begin place last i : ℕ) → i < 1 → Gets page begin i place last
    → Stands page begin 0 ≡ true → Stands page place last ≡ false → ⊥
stands_there page begin place last i low gets stands broken =
    let same = at_begin page begin place last i low gets in
    let is : Stands page begin 0 ≡ false =
    subst (λ n. Stands page begin n ≡ false) (sym same.1) (subst (λ p. Stands page p last ≡ false) (sym same.0) broken) in
    absurd (cc)

-- the level file of the index of bodies is broken at a place
abbrev IsBroken : (page : ℕ → List ℕ) (place : ℕ) → Type 0
IsBroken page place = IsBrokenCode page note_catalog (IndexLevel 0 2 0) (IndexDirectory 0 2) 8 3 place

-- what the directory says of a list: its place and how many identifiers it has
abbrev list_first : (page : ℕ → List ℕ) (entry : ℕ) → ℕ
list_first page entry = number_in (drop 8 (in_slot page note_catalog (IndexDirectory 0 2) entry)) 0

abbrev list_count : (page : ℕ → List ℕ) (entry : ℕ) → ℕ
list_count page entry = number_in (drop 8 (in_slot page note_catalog (IndexDirectory 0 2) entry)) 4

unbroken : (place : ℕ) → IsBroken note_page place → ⊥
unfolding digits places_from ancestor number_in record_at first_page
unbroken place is =
    thrice (λ entry. (i : ℕ) → i < list_count note_page entry → (last : ℕ) → Gets note_page (list_first note_page entry) i place last
    → Stands note_page place last ≡ false → ⊥)
    (λ i low last gets broken. stands_there note_page 0 place last i low gets refl broken)
    (λ i low last gets broken. stands_there note_page 1 place last i low gets refl broken)
    (λ i low last gets broken. stands_there note_page 2 place last i low gets refl broken)
    is.entry is.there is.i is.within is.last is.gets is.broken

whole : (file : File) → has_file note_schema file ≡ true → (place : ℕ) → place < slots_in note_page note_catalog file
    → Damaged note_page file place → ⊥
unfolding digits places_from ancestor number_in record_at first_page
whole = of_notes (λ file. (place : ℕ) → place < slots_in note_page note_catalog file → Damaged note_page file place → ⊥)
    (thrice (λ place. Damaged note_page (Cells 0 2) place → ⊥) (undamaged note_page (Cells 0 2) 0 refl refl)
    (undamaged note_page (Cells 0 2) 1 refl refl) (undamaged note_page (Cells 0 2) 2 refl refl))
    (once (λ place. Damaged note_page (IndexHeader 0 2) place → ⊥) (undamaged note_page (IndexHeader 0 2) 0 refl refl))
    (thrice (λ place. Damaged note_page (IndexDirectory 0 2) place → ⊥) (undamaged note_page (IndexDirectory 0 2) 0 refl refl)
    (undamaged note_page (IndexDirectory 0 2) 1 refl refl) (undamaged note_page (IndexDirectory 0 2) 2 refl refl))
    (λ place low. unbroken place)

-- on the bad page, the slot before the last one
abbrev IsAt : File → (number slot place : ℕ) → Type 0
IsAt file number slot place = (number ≡ page_of (run_of_file note_catalog file) place) × (slot ≡ slot_of (run_of_file note_catalog file) place)

before : (file : File) → has_file note_schema file ≡ true → (place : ℕ) → place < slots_in bad_page note_catalog file
    → IsAt file 258 1 place → Damaged bad_page file place → ⊥
unfolding digits places_from ancestor number_in record_at first_page
before = of_notes (λ file. (place : ℕ) → place < slots_in bad_page note_catalog file → IsAt file 258 1 place → Damaged bad_page file place → ⊥)
    (thrice (λ place. IsAt (Cells 0 2) 258 1 place → Damaged bad_page (Cells 0 2) place → ⊥)
    (λ at. let clash : 258 ≡ 256 = at.0 in absurd (omega (arith, clash))) (λ at. let clash : 258 ≡ 256 = at.0 in absurd (omega (arith, clash)))
    (λ at. let clash : 258 ≡ 256 = at.0 in absurd (omega (arith, clash))))
    (once (λ place. IsAt (IndexHeader 0 2) 258 1 place → Damaged bad_page (IndexHeader 0 2) place → ⊥)
    (λ at. let clash : 258 ≡ 257 = at.0 in absurd (omega (arith, clash))))
    (thrice (λ place. IsAt (IndexDirectory 0 2) 258 1 place → Damaged bad_page (IndexDirectory 0 2) place → ⊥)
    (λ at. let clash : 1 ≡ 0 = at.1 in absurd (omega (arith, clash))) (λ at. undamaged bad_page (IndexDirectory 0 2) 1 refl refl)
    (λ at. let clash : 1 ≡ 2 = at.1 in absurd (omega (arith, clash))))
    (λ place low at. let clash : 258 ≡ 259 + place / 2048 = at.0 in absurd (omega (arith, clash)))

-- where a slot is that one, its first bytes are these
abbrev Found : File → (found place : ℕ) → Type 0
Found file found place = found ≡ found_in (in_slot bad_page note_catalog file place)

bytes_there : (file : File) → has_file note_schema file ≡ true → (place : ℕ) → place < slots_in bad_page note_catalog file
    → IsAt file 258 2 place → Found file 0 place → ⊥
unfolding digits places_from ancestor number_in record_at found_in first_page
bytes_there = of_notes (λ file. (place : ℕ) → place < slots_in bad_page note_catalog file → IsAt file 258 2 place → Found file 0 place → ⊥)
    (thrice (λ place. IsAt (Cells 0 2) 258 2 place → Found (Cells 0 2) 0 place → ⊥)
    (λ at. let clash : 258 ≡ 256 = at.0 in absurd (omega (arith, clash))) (λ at. let clash : 258 ≡ 256 = at.0 in absurd (omega (arith, clash)))
    (λ at. let clash : 258 ≡ 256 = at.0 in absurd (omega (arith, clash))))
    (once (λ place. IsAt (IndexHeader 0 2) 258 2 place → Found (IndexHeader 0 2) 0 place → ⊥)
    (λ at. let clash : 258 ≡ 257 = at.0 in absurd (omega (arith, clash))))
    (thrice (λ place. IsAt (IndexDirectory 0 2) 258 2 place → Found (IndexDirectory 0 2) 0 place → ⊥)
    (λ at. let clash : 2 ≡ 0 = at.1 in absurd (omega (arith, clash))) (λ at. let clash : 2 ≡ 1 = at.1 in absurd (omega (arith, clash)))
    (λ at found. let clash : 0 ≡ 0x7a00000000000000 = found in absurd (omega (arith, clash))))
    (λ place low at. let clash : 258 ≡ 259 + place / 2048 = at.0 in absurd (omega (arith, clash)))

-- a damaged slot on the page of the level file is a broken code
level_slot : (page : ℕ → List ℕ) (slot : ℕ) (file : File) → has_file note_schema file ≡ true → (place : ℕ) → place < slots_in page note_catalog file
    → IsAt file 259 slot place → Damaged page file place → IsBroken page slot
unfolding digits places_from ancestor number_in record_at first_page
level_slot page slot = of_notes (λ file. (place : ℕ) → place < slots_in page note_catalog file → IsAt file 259 slot place → Damaged page file place → IsBroken page slot)
    (λ place low at. let few : place < 3 = low in let clash : 259 ≡ 256 + place / 256 = at.0 in absurd (omega (arith, few, clash)))
    (λ place low at. let few : place < 1 = low in let clash : 259 ≡ 257 + place / 512 = at.0 in absurd (omega (arith, few, clash)))
    (λ place low at. let few : place < 3 = omega (arith, low) in let clash : 259 ≡ 258 + place / 128 = at.0 in absurd (omega (arith, few, clash)))
    (λ place low at broken.
    let within : place < 2048 = low in
    let there : slot ≡ place % 2048 = at.1 in
    let same : place ≡ slot = omega (arith, within, there) in
    subst (IsBroken page) same broken)

-- reading of the first two lists does not get to the byte, and the third entry may not stand
led_by_none : IsBroken (led_page (31 ∷ [])) 5 → ⊥
unfolding digits places_from ancestor number_in record_at first_page
led_by_none is =
    let page = led_page (31 ∷ []) in
    thrice (λ entry. may_stand note_catalog (IndexDirectory 0 2) (in_slot page note_catalog (IndexDirectory 0 2) entry) ≡ true
    → (i : ℕ) → i < list_count page entry → (last : ℕ) → Gets page (list_first page entry) i 5 last → ⊥)
    (λ stands i low last gets. let same = at_begin page 0 5 last i low gets in let clash = same.0 in absurd (omega (arith, clash)))
    (λ stands i low last gets. let same = at_begin page 1 5 last i low gets in let clash = same.0 in absurd (omega (arith, clash)))
    (λ stands i low last gets. absurd (cc (stands)))
    is.entry is.there is.stands is.i is.within is.last is.gets

-- reading of the first list gets there by a number past the rows
behind_long : IsBroken long_page 2 → ⊥
unfolding digits places_from ancestor number_in record_at first_page reading_at
behind_long is =
    thrice (λ entry. (i : ℕ) → i < list_count long_page entry → (last : ℕ) → Gets long_page (list_first long_page entry) i 2 last → last ≤ 3 → ⊥)
    (thrice (λ i. (last : ℕ) → Gets long_page 0 i 2 last → last ≤ 3 → ⊥)
    (λ last gets kept. let clash : 0 ≡ 2 = ap place_or_none gets in absurd (omega (arith, clash)))
    (λ last gets kept. let clash : 1 ≡ 2 = ap place_or_none gets in absurd (omega (arith, clash)))
    (λ last gets kept. let sum : 6 ≡ last = ap last_of gets in absurd (omega (arith, sum, kept))))
    (λ i low last gets kept. let same = at_begin long_page 0 2 last i low gets in let clash = same.0 in absurd (omega (arith, clash)))
    (λ i low last gets kept. let same = at_begin long_page 0 2 last i low gets in let clash = same.0 in absurd (omega (arith, clash)))
    is.entry is.there is.i is.within is.last is.gets is.kept

pub returns : goal.returns
unfolding digits places_from ancestor number_in record_at found_in first_page reading_at
returns c = record {
  none_of_whole_pages = λ number slot found d. whole d.file d.at.has d.place d.at.within d.at.damaged;
  one_of_a_bad_page = record {
    file = IndexDirectory 0 2;
    place = 2;
    at = record {
      has = refl;
      within = omega arith;
      page_is = refl;
      slot_is = refl;
      damaged = inr refl;
      found_is = refl;
    };
  };
  none_before_it = λ found d. before d.file d.at.has d.place d.at.within (d.at.page_is, d.at.slot_is) d.at.damaged;
  no_other_bytes = λ d. bytes_there d.file d.at.has d.place d.at.within (d.at.page_is, d.at.slot_is) d.at.found_is;
  led_to_by_an_entry = record {
    file = IndexLevel 0 2 0;
    place = 5;
    at = record {
      has = refl;
      within = omega arith;
      page_is = refl;
      slot_is = refl;
      damaged = record { entry = 2; there = omega arith; stands = refl; i = 0; within = omega arith; last = 0; gets = refl; kept = omega arith; broken = refl };
      found_is = refl;
    };
  };
  by_a_damaged_entry = λ found d.
      led_by_none (level_slot (led_page (31 ∷ [])) 5 d.file d.at.has d.place d.at.within (d.at.page_is, d.at.slot_is) d.at.damaged);
  the_entry_itself = record {
    file = IndexDirectory 0 2;
    place = 2;
    at = record {
      has = refl;
      within = omega arith;
      page_is = refl;
      slot_is = refl;
      damaged = inl refl;
      found_is = refl;
    };
  };
  past_the_rows = record {
    file = IndexLevel 0 2 0;
    place = 1;
    at = record {
      has = refl;
      within = omega arith;
      page_is = refl;
      slot_is = refl;
      damaged = record { entry = 0; there = omega arith; stands = refl; i = 1; within = omega arith; last = 3; gets = refl; kept = omega arith; broken = refl };
      found_is = refl;
    };
  };
  behind_it = λ found d. behind_long (level_slot long_page 2 d.file d.at.has d.place d.at.within (d.at.page_is, d.at.slot_is) d.at.damaged);
}
