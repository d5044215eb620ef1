use Rattle.std.proofs.Common.{◌≡◌, refl, ap, subst, ℕ, zero, suc, ◌+◌, ◌-◌, ◌*◌, ◌<◌, Bool, true, false, ◌||◌, ◌==◌, List, [], ◌∷◌, ◌++◌, length, slice_index_or, drop, map, replicate, slice_index, get_or, Contains, arith}
use Rattle.std.specs.Prelude.{nat_lt, if◌then◌else◌}
use Rattle.std.specs.List.{concat, AllByRecursion}
use Rattle.std.specs.List.Sorted.{IsStrictlySortedBy}
use Rattle.std.specs.Cmp.Lexicographic.{slice_cmp}
use Rattle.std.specs.Ordering.{nat_cmp}
use Rattle.std.specs.Fmt.{digits}
use Rattle.std.proofs.lemmas.Bool.Decides.{nat_tests}
use Rattle.ghost_model.specs.core.Schema.{places_from, ancestor}
use Rattle.ghost_model.specs.core.Database.{leads_within}
use Rattle.ghost_model.specs.forms.Runs.{Run, number_cell, record_at, records_in, Stores}
use Rattle.ghost_model.specs.forms.Gaps.{StoresBytes, with_codes, with_lists, level_bytes}
use Rattle.ghost_model.specs.forms.Layout.{levels_of, above_of, is_hidden, first_page, column_file, subtree_table}
use Rattle.ghost_model.specs.laws.ShortWords.{index_header, index_directory, index_level, id_directory, id_level}
use Rattle.ghost_model.specs.forms.Flash.{HoldsCatalog, HoldsFresh, HoldsColumns, HoldsSubtrees, HoldsIndex, HoldsIdIndexes, AreValues, catalog_page, hidden_cells, subtree_record, ids, directory_records, value_lists, id_lists}
use Rattle.ghost_model.specs.examples.Clinic.{clinic_schema, clinic_catalog}
use Rattle.ghost_model.specs.examples.Flash.{hidden_clinic, countries, names, purposes, doctors, key, doctor_files, patient_files, visit_files, small, of_gate, filled, clinic_page, changed}
use Rattle.ghost_model.proofs.flash.holdings_of_the_clinic.Goals as goal

once : (P : ℕ → Type 0) → P 0 → (i : ℕ) → i < 1 → P i
once P a zero low = a
once P a (suc i) low = absurd (omega (arith, low))

twice : (P : ℕ → Type 0) → P 0 → P 1 → (i : ℕ) → i < 2 → P i
twice P a b zero low = a
twice P a b (suc zero) low = b
twice P a b (suc (suc i)) low = absurd (omega (arith, low))

thrice : (P : ℕ → Type 0) → P 0 → P 1 → P 2 → (i : ℕ) → i < 3 → P i
thrice P a b c zero low = a
thrice P a b c (suc zero) low = b
thrice P a b c (suc (suc zero)) low = c
thrice P a b c (suc (suc (suc i))) low = absurd (omega (arith, low))

four_times : (P : ℕ → Type 0) → P 0 → P 1 → P 2 → P 3 → (i : ℕ) → i < 4 → P i
four_times P a b c d zero low = a
four_times P a b c d (suc zero) low = b
four_times P a b c d (suc (suc zero)) low = c
four_times P a b c d (suc (suc (suc zero))) low = d
four_times P a b c d (suc (suc (suc (suc i)))) low = absurd (omega (arith, low))

-- the pages of the clinic have a byte of a level file, and 0xFF behind the last one in a page
abbrev level_run : Run → (lists : List (List ℕ)) → Run
level_run run lists = record run { count = length (level_bytes lists) }

abbrev IsByte : Run → (lists : List (List ℕ)) → ℕ → Type 0
IsByte run lists i = record_at clinic_page (level_run run lists) i ≡ get_or (map (λ byte. byte ∷ []) (level_bytes lists)) i []

abbrev IsBlank : Run → (lists : List (List ℕ)) → ℕ → Type 0
IsBlank run lists i =
    drop (records_in (level_run run lists) i * run.width) (clinic_page (run.first + i)) ≡ replicate (2048 - records_in (level_run run lists) i * run.width) 0xff

-- what each hidden column has
of_hidden : (P : ℕ → ℕ → Type 0) → P 0 2 → P 1 2 → P 2 2 → P 2 3 → P 2 4 → (table column : ℕ) → is_hidden clinic_schema table column ≡ true → P table column
of_hidden P a b c d e zero zero h = absurd (cc (h))
of_hidden P a b c d e zero (suc zero) h = absurd (cc (h))
of_hidden P a b c d e zero (suc (suc zero)) h = a
of_hidden P a b c d e zero (suc (suc (suc column))) h = absurd (cc (h))
of_hidden P a b c d e (suc zero) zero h = absurd (cc (h))
of_hidden P a b c d e (suc zero) (suc zero) h = absurd (cc (h))
of_hidden P a b c d e (suc zero) (suc (suc zero)) h = b
of_hidden P a b c d e (suc zero) (suc (suc (suc column))) h = absurd (cc (h))
of_hidden P a b c d e (suc (suc zero)) zero h = absurd (cc (h))
of_hidden P a b c d e (suc (suc zero)) (suc zero) h = absurd (cc (h))
of_hidden P a b c d e (suc (suc zero)) (suc (suc zero)) h = c
of_hidden P a b c d e (suc (suc zero)) (suc (suc (suc zero))) h = d
of_hidden P a b c d e (suc (suc zero)) (suc (suc (suc (suc zero)))) h = e
of_hidden P a b c d e (suc (suc zero)) (suc (suc (suc (suc (suc column))))) h = absurd (cc (h))
of_hidden P a b c d e (suc (suc (suc table))) column h = absurd (cc (h))

-- values that are among cells, and cells that are among values
each_among : (xs ys : List (List ℕ)) → AllByRecursion (λ x. Contains ys x) xs → (x : List ℕ) (k : ℕ) → k < length xs → slice_index_or xs k x ≡ x → Contains ys x
each_among [] ys all x k low is = absurd (omega (arith, low))
each_among (x ∷ xs) ys all y zero low is = subst (Contains ys) is all.0
each_among (x ∷ xs) ys all y (suc k) low is = each_among xs ys all.1 y k (omega (arith, low)) is

values_of : (cells values : List (List ℕ)) → IsStrictlySortedBy (slice_cmp nat_cmp) values → AllByRecursion (λ x. Contains cells x) values
    → AllByRecursion (λ x. Contains values x) cells → AreValues cells values
values_of cells values sorted here there = record {
  ascending = sorted;
  only = λ value h. each_among values cells here value h.0 h.1 h.2;
  all = λ cell h. each_among cells values there cell h.0 h.1 h.2;
}

catalog : HoldsCatalog clinic_page clinic_catalog
catalog place low =
    let below : nat_lt place 64 ≡ true = grind (arith, nat_tests) in
    ap (λ b.
    if b then catalog_page clinic_catalog place
    else if nat_lt place 256 then filled (of_gate 1 1 place)
    else filled (concat (get_or (doctor_files ++ (patient_files ++ visit_files)) (place - 256) []))) below

-- behind the catalog's pages, public, and neither the gate nor its header
blank_there : (before after : List ℕ) (of_catalog public gate header : Bool) → of_catalog ≡ false → public ≡ true → (gate || header) ≡ false
    → (if of_catalog then before else if public then filled (if gate then 1 ∷ [] else if header then small 1 ++ small 0 else []) else after)
    ≡ replicate 2048 0xff
blank_there before after true public gate header h g k = absurd (cc (h))
blank_there before after false false gate header h g k = absurd (cc (g))
blank_there before after false true true header h g k = absurd (cc (k))
blank_there before after false true false true h g k = absurd (cc (k))
blank_there before after false true false false h g k = refl

fresh : HoldsFresh clinic_page clinic_catalog
fresh = record {
  counts = record { gate = refl; header = refl };
  blank = λ place low high neither.
      let behind : nat_lt place 64 ≡ false = grind (arith, nat_tests) in
      let public : nat_lt place 256 ≡ true = grind (arith, nat_tests) in
      blank_there (catalog_page clinic_catalog place) (filled (concat (get_or (doctor_files ++ (patient_files ++ visit_files)) (place - 256) [])))
      (nat_lt place 64) (nat_lt place 256) (place == 64) (place == 192) behind public neither;
}

columns : HoldsColumns clinic_page clinic_catalog hidden_clinic
unfolding places_from ancestor leads_within record_at IsStrictlySortedBy first_page
columns =
    of_hidden (λ table column. Stores clinic_page (column_file clinic_catalog table column) (hidden_cells clinic_schema hidden_clinic table column))
    (record { has = record { count = refl; each = thrice (λ i. record_at clinic_page (column_file clinic_catalog 0 2) i ≡ get_or (hidden_cells clinic_schema hidden_clinic 0 2) i []) refl refl refl }; rest = once (λ i. drop (records_in (column_file clinic_catalog 0 2) i * (column_file clinic_catalog 0 2).width) (clinic_page ((column_file clinic_catalog 0 2).first + i)) ≡ replicate (2048 - records_in (column_file clinic_catalog 0 2) i * (column_file clinic_catalog 0 2).width) 0xff) refl })
    (record { has = record { count = refl; each = twice (λ i. record_at clinic_page (column_file clinic_catalog 1 2) i ≡ get_or (hidden_cells clinic_schema hidden_clinic 1 2) i []) refl refl }; rest = once (λ i. drop (records_in (column_file clinic_catalog 1 2) i * (column_file clinic_catalog 1 2).width) (clinic_page ((column_file clinic_catalog 1 2).first + i)) ≡ replicate (2048 - records_in (column_file clinic_catalog 1 2) i * (column_file clinic_catalog 1 2).width) 0xff) refl })
    (record { has = record { count = refl; each = four_times (λ i. record_at clinic_page (column_file clinic_catalog 2 2) i ≡ get_or (hidden_cells clinic_schema hidden_clinic 2 2) i []) refl refl refl refl }; rest = once (λ i. drop (records_in (column_file clinic_catalog 2 2) i * (column_file clinic_catalog 2 2).width) (clinic_page ((column_file clinic_catalog 2 2).first + i)) ≡ replicate (2048 - records_in (column_file clinic_catalog 2 2) i * (column_file clinic_catalog 2 2).width) 0xff) refl })
    (record { has = record { count = refl; each = four_times (λ i. record_at clinic_page (column_file clinic_catalog 2 3) i ≡ get_or (hidden_cells clinic_schema hidden_clinic 2 3) i []) refl refl refl refl }; rest = once (λ i. drop (records_in (column_file clinic_catalog 2 3) i * (column_file clinic_catalog 2 3).width) (clinic_page ((column_file clinic_catalog 2 3).first + i)) ≡ replicate (2048 - records_in (column_file clinic_catalog 2 3) i * (column_file clinic_catalog 2 3).width) 0xff) refl })
    (record { has = record { count = refl; each = four_times (λ i. record_at clinic_page (column_file clinic_catalog 2 4) i ≡ get_or (hidden_cells clinic_schema hidden_clinic 2 4) i []) refl refl refl refl }; rest = once (λ i. drop (records_in (column_file clinic_catalog 2 4) i * (column_file clinic_catalog 2 4).width) (clinic_page ((column_file clinic_catalog 2 4).first + i)) ≡ replicate (2048 - records_in (column_file clinic_catalog 2 4) i * (column_file clinic_catalog 2 4).width) 0xff) refl })

subtrees : HoldsSubtrees clinic_page clinic_catalog hidden_clinic
unfolding places_from ancestor leads_within record_at IsStrictlySortedBy first_page
subtrees zero low h = absurd (cc (h))
subtrees (suc zero) low h = absurd (cc (h))
subtrees (suc (suc zero)) low h =
    record { has = record { count = refl; each = four_times (λ i. record_at clinic_page (subtree_table clinic_catalog 2) i ≡ get_or (map (subtree_record clinic_schema hidden_clinic 2) (ids 4)) i []) refl refl refl refl }; rest = once (λ i. drop (records_in (subtree_table clinic_catalog 2) i * (subtree_table clinic_catalog 2).width) (clinic_page ((subtree_table clinic_catalog 2).first + i)) ≡ replicate (2048 - records_in (subtree_table clinic_catalog 2) i * (subtree_table clinic_catalog 2).width) 0xff) refl }
subtrees (suc (suc (suc table))) low h = absurd (omega (arith, low))

patients : List (List ℕ)
patients = key 1 ∷ key 2 ∷ []

country_index : HoldsIndex clinic_page clinic_catalog hidden_clinic 0 2
unfolding places_from ancestor leads_within record_at IsStrictlySortedBy patients first_page with_codes with_lists
country_index = record {
  values = countries;
  are_values = values_of (hidden_cells clinic_schema hidden_clinic 0 2) countries ((refl, tt), (tt, tt)) ((1, omega arith, refl), ((0, omega arith, refl), tt)) ((1, omega arith, refl), ((0, omega arith, refl), ((0, omega arith, refl), tt)));
  fits = omega arith;
  header = record { has = record { count = refl; each = once (λ i. record_at clinic_page (index_header clinic_catalog 0 2) i ≡ get_or (number_cell 2 ∷ []) i []) refl }; rest = once (λ i. drop (records_in (index_header clinic_catalog 0 2) i * (index_header clinic_catalog 0 2).width) (clinic_page ((index_header clinic_catalog 0 2).first + i)) ≡ replicate (2048 - records_in (index_header clinic_catalog 0 2) i * (index_header clinic_catalog 0 2).width) 0xff) refl };
  entries = record {
    places = record { has = record { count = refl; each = twice (λ i. record_at clinic_page (record (index_directory clinic_catalog 0 2) { count = 2 }) i ≡ get_or (directory_records countries (levels_of clinic_schema 0) (value_lists clinic_catalog hidden_clinic 0 2 countries)) i []) refl refl }; rest = once (λ i. drop (records_in (record (index_directory clinic_catalog 0 2) { count = 2 }) i * (record (index_directory clinic_catalog 0 2) { count = 2 }).width) (clinic_page ((record (index_directory clinic_catalog 0 2) { count = 2 }).first + i)) ≡ replicate (2048 - records_in (record (index_directory clinic_catalog 0 2) { count = 2 }) i * (record (index_directory clinic_catalog 0 2) { count = 2 }).width) 0xff) refl };
    levels = twice (λ level. StoresBytes clinic_page (index_level clinic_catalog 0 2 level) (level_bytes (value_lists clinic_catalog hidden_clinic 0 2 countries (slice_index (levels_of clinic_schema 0) level))))
        (record { has = record { count = refl; each = thrice (IsByte (index_level clinic_catalog 0 2 0) (value_lists clinic_catalog hidden_clinic 0 2 countries (slice_index (levels_of clinic_schema 0) 0))) refl refl refl }; rest = once (IsBlank (index_level clinic_catalog 0 2 0) (value_lists clinic_catalog hidden_clinic 0 2 countries (slice_index (levels_of clinic_schema 0) 0))) refl })
        (record { has = record { count = refl; each = four_times (IsByte (index_level clinic_catalog 0 2 1) (value_lists clinic_catalog hidden_clinic 0 2 countries (slice_index (levels_of clinic_schema 0) 1))) refl refl refl refl }; rest = once (IsBlank (index_level clinic_catalog 0 2 1) (value_lists clinic_catalog hidden_clinic 0 2 countries (slice_index (levels_of clinic_schema 0) 1))) refl });
  };
}

name_index : HoldsIndex clinic_page clinic_catalog hidden_clinic 1 2
unfolding places_from ancestor leads_within record_at IsStrictlySortedBy patients first_page with_codes with_lists
name_index = record {
  values = names;
  are_values = values_of (hidden_cells clinic_schema hidden_clinic 1 2) names ((refl, tt), (tt, tt)) ((0, omega arith, refl), ((1, omega arith, refl), tt)) ((0, omega arith, refl), ((1, omega arith, refl), tt));
  fits = omega arith;
  header = record { has = record { count = refl; each = once (λ i. record_at clinic_page (index_header clinic_catalog 1 2) i ≡ get_or (number_cell 2 ∷ []) i []) refl }; rest = once (λ i. drop (records_in (index_header clinic_catalog 1 2) i * (index_header clinic_catalog 1 2).width) (clinic_page ((index_header clinic_catalog 1 2).first + i)) ≡ replicate (2048 - records_in (index_header clinic_catalog 1 2) i * (index_header clinic_catalog 1 2).width) 0xff) refl };
  entries = record {
    places = record { has = record { count = refl; each = twice (λ i. record_at clinic_page (record (index_directory clinic_catalog 1 2) { count = 2 }) i ≡ get_or (directory_records names (levels_of clinic_schema 1) (value_lists clinic_catalog hidden_clinic 1 2 names)) i []) refl refl }; rest = once (λ i. drop (records_in (record (index_directory clinic_catalog 1 2) { count = 2 }) i * (record (index_directory clinic_catalog 1 2) { count = 2 }).width) (clinic_page ((record (index_directory clinic_catalog 1 2) { count = 2 }).first + i)) ≡ replicate (2048 - records_in (record (index_directory clinic_catalog 1 2) { count = 2 }) i * (record (index_directory clinic_catalog 1 2) { count = 2 }).width) 0xff) refl };
    levels = twice (λ level. StoresBytes clinic_page (index_level clinic_catalog 1 2 level) (level_bytes (value_lists clinic_catalog hidden_clinic 1 2 names (slice_index (levels_of clinic_schema 1) level))))
        (record { has = record { count = refl; each = twice (IsByte (index_level clinic_catalog 1 2 0) (value_lists clinic_catalog hidden_clinic 1 2 names (slice_index (levels_of clinic_schema 1) 0))) refl refl }; rest = once (IsBlank (index_level clinic_catalog 1 2 0) (value_lists clinic_catalog hidden_clinic 1 2 names (slice_index (levels_of clinic_schema 1) 0))) refl })
        (record { has = record { count = refl; each = four_times (IsByte (index_level clinic_catalog 1 2 1) (value_lists clinic_catalog hidden_clinic 1 2 names (slice_index (levels_of clinic_schema 1) 1))) refl refl refl refl }; rest = once (IsBlank (index_level clinic_catalog 1 2 1) (value_lists clinic_catalog hidden_clinic 1 2 names (slice_index (levels_of clinic_schema 1) 1))) refl });
  };
}

purpose_index : HoldsIndex clinic_page clinic_catalog hidden_clinic 2 2
unfolding places_from ancestor leads_within record_at IsStrictlySortedBy patients first_page with_codes with_lists
purpose_index = record {
  values = purposes;
  are_values = values_of (hidden_cells clinic_schema hidden_clinic 2 2) purposes ((refl, tt), (tt, tt)) ((1, omega arith, refl), ((0, omega arith, refl), tt)) ((1, omega arith, refl), ((0, omega arith, refl), ((1, omega arith, refl), ((1, omega arith, refl), tt))));
  fits = omega arith;
  header = record { has = record { count = refl; each = once (λ i. record_at clinic_page (index_header clinic_catalog 2 2) i ≡ get_or (number_cell 2 ∷ []) i []) refl }; rest = once (λ i. drop (records_in (index_header clinic_catalog 2 2) i * (index_header clinic_catalog 2 2).width) (clinic_page ((index_header clinic_catalog 2 2).first + i)) ≡ replicate (2048 - records_in (index_header clinic_catalog 2 2) i * (index_header clinic_catalog 2 2).width) 0xff) refl };
  entries = record {
    places = record { has = record { count = refl; each = twice (λ i. record_at clinic_page (record (index_directory clinic_catalog 2 2) { count = 2 }) i ≡ get_or (directory_records purposes (levels_of clinic_schema 2) (value_lists clinic_catalog hidden_clinic 2 2 purposes)) i []) refl refl }; rest = once (λ i. drop (records_in (record (index_directory clinic_catalog 2 2) { count = 2 }) i * (record (index_directory clinic_catalog 2 2) { count = 2 }).width) (clinic_page ((record (index_directory clinic_catalog 2 2) { count = 2 }).first + i)) ≡ replicate (2048 - records_in (record (index_directory clinic_catalog 2 2) { count = 2 }) i * (record (index_directory clinic_catalog 2 2) { count = 2 }).width) 0xff) refl };
    levels = once (λ level. StoresBytes clinic_page (index_level clinic_catalog 2 2 level) (level_bytes (value_lists clinic_catalog hidden_clinic 2 2 purposes (slice_index (levels_of clinic_schema 2) level))))
        (record { has = record { count = refl; each = four_times (IsByte (index_level clinic_catalog 2 2 0) (value_lists clinic_catalog hidden_clinic 2 2 purposes (slice_index (levels_of clinic_schema 2) 0))) refl refl refl refl }; rest = once (IsBlank (index_level clinic_catalog 2 2 0) (value_lists clinic_catalog hidden_clinic 2 2 purposes (slice_index (levels_of clinic_schema 2) 0))) refl });
  };
}

doctor_index : HoldsIndex clinic_page clinic_catalog hidden_clinic 2 3
unfolding places_from ancestor leads_within record_at IsStrictlySortedBy patients first_page with_codes with_lists
doctor_index = record {
  values = doctors;
  are_values = values_of (hidden_cells clinic_schema hidden_clinic 2 3) doctors ((refl, (refl, tt)), ((refl, tt), (tt, tt))) ((0, omega arith, refl), ((3, omega arith, refl), ((1, omega arith, refl), tt))) ((0, omega arith, refl), ((2, omega arith, refl), ((2, omega arith, refl), ((1, omega arith, refl), tt))));
  fits = omega arith;
  header = record { has = record { count = refl; each = once (λ i. record_at clinic_page (index_header clinic_catalog 2 3) i ≡ get_or (number_cell 3 ∷ []) i []) refl }; rest = once (λ i. drop (records_in (index_header clinic_catalog 2 3) i * (index_header clinic_catalog 2 3).width) (clinic_page ((index_header clinic_catalog 2 3).first + i)) ≡ replicate (2048 - records_in (index_header clinic_catalog 2 3) i * (index_header clinic_catalog 2 3).width) 0xff) refl };
  entries = record {
    places = record { has = record { count = refl; each = thrice (λ i. record_at clinic_page (record (index_directory clinic_catalog 2 3) { count = 3 }) i ≡ get_or (directory_records doctors (levels_of clinic_schema 2) (value_lists clinic_catalog hidden_clinic 2 3 doctors)) i []) refl refl refl }; rest = once (λ i. drop (records_in (record (index_directory clinic_catalog 2 3) { count = 3 }) i * (record (index_directory clinic_catalog 2 3) { count = 3 }).width) (clinic_page ((record (index_directory clinic_catalog 2 3) { count = 3 }).first + i)) ≡ replicate (2048 - records_in (record (index_directory clinic_catalog 2 3) { count = 3 }) i * (record (index_directory clinic_catalog 2 3) { count = 3 }).width) 0xff) refl };
    levels = once (λ level. StoresBytes clinic_page (index_level clinic_catalog 2 3 level) (level_bytes (value_lists clinic_catalog hidden_clinic 2 3 doctors (slice_index (levels_of clinic_schema 2) level))))
        (record { has = record { count = refl; each = four_times (IsByte (index_level clinic_catalog 2 3 0) (value_lists clinic_catalog hidden_clinic 2 3 doctors (slice_index (levels_of clinic_schema 2) 0))) refl refl refl refl }; rest = once (IsBlank (index_level clinic_catalog 2 3 0) (value_lists clinic_catalog hidden_clinic 2 3 doctors (slice_index (levels_of clinic_schema 2) 0))) refl });
  };
}

patient_index : HoldsIndex clinic_page clinic_catalog hidden_clinic 2 4
unfolding places_from ancestor leads_within record_at IsStrictlySortedBy patients first_page with_codes with_lists
patient_index = record {
  values = patients;
  are_values = values_of (hidden_cells clinic_schema hidden_clinic 2 4) patients ((refl, tt), (tt, tt)) ((0, omega arith, refl), ((1, omega arith, refl), tt)) ((0, omega arith, refl), ((1, omega arith, refl), ((0, omega arith, refl), ((1, omega arith, refl), tt))));
  fits = omega arith;
  header = record { has = record { count = refl; each = once (λ i. record_at clinic_page (index_header clinic_catalog 2 4) i ≡ get_or (number_cell 2 ∷ []) i []) refl }; rest = once (λ i. drop (records_in (index_header clinic_catalog 2 4) i * (index_header clinic_catalog 2 4).width) (clinic_page ((index_header clinic_catalog 2 4).first + i)) ≡ replicate (2048 - records_in (index_header clinic_catalog 2 4) i * (index_header clinic_catalog 2 4).width) 0xff) refl };
  entries = record {
    places = record { has = record { count = refl; each = twice (λ i. record_at clinic_page (record (index_directory clinic_catalog 2 4) { count = 2 }) i ≡ get_or (directory_records patients (levels_of clinic_schema 2) (value_lists clinic_catalog hidden_clinic 2 4 patients)) i []) refl refl }; rest = once (λ i. drop (records_in (record (index_directory clinic_catalog 2 4) { count = 2 }) i * (record (index_directory clinic_catalog 2 4) { count = 2 }).width) (clinic_page ((record (index_directory clinic_catalog 2 4) { count = 2 }).first + i)) ≡ replicate (2048 - records_in (record (index_directory clinic_catalog 2 4) { count = 2 }) i * (record (index_directory clinic_catalog 2 4) { count = 2 }).width) 0xff) refl };
    levels = once (λ level. StoresBytes clinic_page (index_level clinic_catalog 2 4 level) (level_bytes (value_lists clinic_catalog hidden_clinic 2 4 patients (slice_index (levels_of clinic_schema 2) level))))
        (record { has = record { count = refl; each = four_times (IsByte (index_level clinic_catalog 2 4 0) (value_lists clinic_catalog hidden_clinic 2 4 patients (slice_index (levels_of clinic_schema 2) 0))) refl refl refl refl }; rest = once (IsBlank (index_level clinic_catalog 2 4 0) (value_lists clinic_catalog hidden_clinic 2 4 patients (slice_index (levels_of clinic_schema 2) 0))) refl });
  };
}

indexes : (table column : ℕ) → is_hidden clinic_catalog.schema table column ≡ true → HoldsIndex clinic_page clinic_catalog hidden_clinic table column
indexes = of_hidden (HoldsIndex clinic_page clinic_catalog hidden_clinic) country_index name_index purpose_index doctor_index patient_index

id_indexes : HoldsIdIndexes clinic_page clinic_catalog hidden_clinic
unfolding places_from ancestor leads_within record_at IsStrictlySortedBy first_page with_codes with_lists
id_indexes zero low h = record {
  places = record { has = record { count = refl; each = thrice (λ i. record_at clinic_page (id_directory clinic_catalog 0) i ≡ get_or (directory_records (replicate 3 []) (above_of clinic_schema 0) (id_lists clinic_catalog hidden_clinic 0)) i []) refl refl refl }; rest = once (λ i. drop (records_in (id_directory clinic_catalog 0) i * (id_directory clinic_catalog 0).width) (clinic_page ((id_directory clinic_catalog 0).first + i)) ≡ replicate (2048 - records_in (id_directory clinic_catalog 0) i * (id_directory clinic_catalog 0).width) 0xff) refl };
  levels = once (λ level. StoresBytes clinic_page (id_level clinic_catalog 0 level) (level_bytes (id_lists clinic_catalog hidden_clinic 0 (slice_index (above_of clinic_schema 0) level))))
      (record { has = record { count = refl; each = four_times (IsByte (id_level clinic_catalog 0 0) (id_lists clinic_catalog hidden_clinic 0 (slice_index (above_of clinic_schema 0) 0))) refl refl refl refl }; rest = once (IsBlank (id_level clinic_catalog 0 0) (id_lists clinic_catalog hidden_clinic 0 (slice_index (above_of clinic_schema 0) 0))) refl });
}
id_indexes (suc zero) low h = record {
  places = record { has = record { count = refl; each = twice (λ i. record_at clinic_page (id_directory clinic_catalog 1) i ≡ get_or (directory_records (replicate 2 []) (above_of clinic_schema 1) (id_lists clinic_catalog hidden_clinic 1)) i []) refl refl }; rest = once (λ i. drop (records_in (id_directory clinic_catalog 1) i * (id_directory clinic_catalog 1).width) (clinic_page ((id_directory clinic_catalog 1).first + i)) ≡ replicate (2048 - records_in (id_directory clinic_catalog 1) i * (id_directory clinic_catalog 1).width) 0xff) refl };
  levels = once (λ level. StoresBytes clinic_page (id_level clinic_catalog 1 level) (level_bytes (id_lists clinic_catalog hidden_clinic 1 (slice_index (above_of clinic_schema 1) level))))
      (record { has = record { count = refl; each = four_times (IsByte (id_level clinic_catalog 1 0) (id_lists clinic_catalog hidden_clinic 1 (slice_index (above_of clinic_schema 1) 0))) refl refl refl refl }; rest = once (IsBlank (id_level clinic_catalog 1 0) (id_lists clinic_catalog hidden_clinic 1 (slice_index (above_of clinic_schema 1) 0))) refl });
}
id_indexes (suc (suc zero)) low h = absurd (cc (h))
id_indexes (suc (suc (suc table))) low h = absurd (omega (arith, low))

-- the directory of the index of doctor.country begins with a country, FR or ES, whatever its values are
begins_otherwise : (value rest : List ℕ) (k : ℕ) → k < 3 → slice_index_or (hidden_cells clinic_schema hidden_clinic 0 2) k value ≡ value → 0 ≡ slice_index (value ++ rest) 0 → ⊥
unfolding places_from
begins_otherwise value rest zero low is clash = let begins : 70 ≡ slice_index (value ++ rest) 0 = ap (λ bytes. slice_index (bytes ++ rest) 0) is in omega (arith, begins, clash)
begins_otherwise value rest (suc zero) low is clash = let begins : 69 ≡ slice_index (value ++ rest) 0 = ap (λ bytes. slice_index (bytes ++ rest) 0) is in omega (arith, begins, clash)
begins_otherwise value rest (suc (suc zero)) low is clash = let begins : 69 ≡ slice_index (value ++ rest) 0 = ap (λ bytes. slice_index (bytes ++ rest) 0) is in omega (arith, begins, clash)
begins_otherwise value rest (suc (suc (suc k))) low is clash = omega (arith, low)

another_entry : (values : List (List ℕ)) → AreValues (hidden_cells clinic_schema hidden_clinic 0 2) values
    → ((i : ℕ) → i < length values
    → record_at (changed 258 0) (record (index_directory clinic_catalog 0 2) { count = length values }) i
    ≡ get_or (directory_records values (levels_of clinic_schema 0) (value_lists clinic_catalog hidden_clinic 0 2 values)) i [])
    → ⊥
unfolding places_from ancestor leads_within record_at first_page
another_entry [] are each = let there : Contains [] (70 ∷ 82 ∷ []) = are.all (70 ∷ 82 ∷ []) (0, omega arith, refl) in let low = there.1 in omega (arith, low)
another_entry (value ∷ values) are each =
    let there : Contains (hidden_cells clinic_schema hidden_clinic 0 2) value = are.only value (0, omega arith, refl) in
    begins_otherwise value _ there.0 there.1 there.2 (ap (λ bytes. slice_index bytes 0) (each 0 (omega arith)))

pub returns : goal.returns
unfolding places_from ancestor leads_within record_at digits first_page with_codes with_lists
returns c = record {
  whole = record { catalog = catalog; fresh = λ is. fresh; files = record { columns = columns; subtrees = subtrees; indexes = indexes; id_indexes = id_indexes } };
  another_catalog = λ h. let clash : 0 ≡ 71 = ap (λ bytes. slice_index bytes 0) (h.catalog 0 (omega arith)) in absurd (omega (arith, clash));
  the_other_header = λ h. let clash : 0 ≡ 1 = ap (λ bytes. slice_index bytes 0) (h.fresh refl).counts.gate in absurd (omega (arith, clash));
  another_generation = λ h. let clash : 1 ≡ 0 = ap (λ bytes. slice_index bytes 0) (h.fresh refl).counts.header in absurd (omega (arith, clash));
  both_headers = λ h. let clash : 0 ≡ 255 = ap (λ bytes. slice_index bytes 0) ((h.fresh refl).blank 128 (omega arith) (omega arith) refl) in absurd (omega (arith, clash));
  a_page_behind_the_gate = λ h. let clash : 0 ≡ 255 = ap (λ bytes. slice_index bytes 0) ((h.fresh refl).blank 65 (omega arith) (omega arith) refl) in absurd (omega (arith, clash));
  another_country = λ h. let clash : 0 ≡ 70 = ap (λ bytes. slice_index bytes 0) ((h.files.columns 0 2 refl).has.each 0 (omega arith)) in absurd (omega (arith, clash));
  another_entry_of_an_index = λ h. let index = h.files.indexes 0 2 refl in another_entry index.values index.are_values index.entries.places.has.each;
  another_place_of_visits = λ h. let clash : 1 ≡ 0 = ap (λ bytes. slice_index bytes 0) ((h.files.id_indexes 0 (omega arith) refl).places.has.each 0 (omega arith)) in absurd (omega (arith, clash));
  another_visit_of_a_doctor = λ h. let clash : 3 ≡ 1 = ap (λ bytes. slice_index bytes 0) (((h.files.id_indexes 0 (omega arith) refl).levels 0 (omega arith)).has.each 0 (omega arith)) in absurd (omega (arith, clash));
  another_doctor = λ h. let clash : 1 ≡ 0 = ap (λ bytes. slice_index bytes 0) ((h.files.subtrees 2 (omega arith) refl).has.each 0 (omega arith)) in absurd (omega (arith, clash));
}
