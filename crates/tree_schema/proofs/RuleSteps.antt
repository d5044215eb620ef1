-- The rules place by place: the first place that breaks one, and the length that digits write.
use Rattle.std.proofs.Common.{◌≡◌, ℕ, zero, suc, ◌+◌, ◌-◌, ◌*◌, ◌<◌, ◌≤◌, Bool, true, false, cond, ◌&&◌, ◌||◌, ◌==◌, nat_le, List, [], ◌∷◌, ◌++◌, length, map, take, drop, find, slice_get, bytes_eq, Option, Some, None, option_map, Bor, refl, ap, sym, ◌∙◌, add-one, get_or, drop-cons, inl, inr, arith}
use Rattle.std.specs.List.{list_any, fold, count_by, sum_by}
use Rattle.std.specs.Option.{option_or}
use Rattle.std.proofs.lemmas.Bool.{ne_eqb}
use Rattle.std.proofs.lemmas.Bool.Decides.{leb_tells}
use Rattle.std.proofs.lemmas.List.{drop_all, take-map}
use Rattle.std.proofs.lemmas.List.Folds.{find-append, fold-map}
use Rattle.std.proofs.lemmas.List.Sums.{sum_by-cons}
use Rattle.std.specs.Slice.{IsItemAt}
use Rattle.std.proofs.lemmas.Option.{slice_get-map, slice_get_read, slice_get_past}
use Rattle.ghost_model.specs.refusals.Tokens.{is_between}
use Rattle.ghost_model.specs.core.Query.{Field}
use Rattle.ghost_model.specs.core.Schema.{places_from, places_of}
use Rattle.ghost_model.specs.refusals.Rules.{broken_if}
use Rattle.ghost_model.specs.refusals.SchemaGrammar.{TableText, SchemaText}
use Rattle.ghost_model.specs.refusals.SchemaMeaning.{columns_written}
use Rattle.ghost_model.specs.refusals.SchemaFaults.{is_this_name, repeats, declared_name, columns_at, is_duplicate, fields, fields_from, is_over, SchemaFault, OverLimit, DuplicateName, NoId}
use Rattle.ghost_model.specs.laws.ShortWords.{is_unknown, table_repeats, lacks_id, duplicate_at as duplicate_fault, unknown_at as unknown_fault}
use Rattle.tree_schema.specs.declared.syntax.ColumnDraft.{ColumnDraft}
use Rattle.tree_schema.specs.Drafts as drafts
use Rattle.tree_schema.specs.Faults.{field_at, fault_of_texts}

pub any_mapped : {X Y : Type 0} (view : X → Y) (test : Y → Bool) (xs : List X) → list_any (λ x. test (view x)) xs ≡ list_any test (map view xs)
any_mapped view test [] = refl
any_mapped view test (x ∷ xs) = ap (λ rest. test (view x) || rest) (any_mapped view test xs)

abbrev pub with_digit : ℕ → ℕ → ℕ
with_digit number digit = number * 10 + (digit - 48)

grows : (digits : List ℕ) (number : ℕ) → number ≤ fold with_digit number digits
grows [] number = omega arith
grows (d ∷ ds) number = let more : number * 10 + (d - 48) ≤ fold with_digit (with_digit number d) ds = grows ds (with_digit number d) in omega (arith, more)

pub not_le : (a b : ℕ) → b < a → nat_le a b ≡ false
not_le a b h = elim (leb_tells a b) [ inl w ↦ absurd (omega (arith, w.1, h)) | inr w ↦ w.0 ]

and_false : (a b : Bool) → b ≡ false → (a && b) ≡ false
and_false true b e = e
and_false false b e = refl

-- whatever digits follow, the number is too great
pub too_long : (digits : List ℕ) (number : ℕ) → 64 < number → is_between 1 64 (fold with_digit number digits) ≡ false
too_long digits number h =
    let more : number ≤ fold with_digit number digits = grows digits number in
    and_false (nat_le 1 (fold with_digit number digits)) _ (not_le (fold with_digit number digits) 64 (omega (arith, more, h)))

abbrev pub all : {X : Type 0} → X → Bool
all _ = true

-- no place before this one passes
pub record Searched {X : Type 0} (test : ℕ → Bool) (xs : List X) (at : ℕ) : Type 0 where
  pub none : find test (places_of xs) ≡ find test (places_from (λ _. true) at (drop at xs))

pub search_begins : {X : Type 0} (test : ℕ → Bool) (xs : List X) → Searched test xs 0
search_begins test xs = record { none = refl }

here : {X : Type 0} (xs : List X) (at : ℕ) → at < length xs → (x : X) × (drop at xs ≡ x ∷ drop (suc at) xs)
here [] at h = absurd (let no : at < 0 = h in omega (arith, no))
here (x ∷ xs) zero h = (x, refl)
here (x ∷ xs) (suc at) h = here xs at (omega (arith, h))

pub place_next : {X : Type 0} (xs : List X) (at : ℕ) → at < length xs → places_from (λ (_ : X). true) at (drop at xs) ≡ at ∷ places_from (λ (_ : X). true) (at + 1) (drop (at + 1) xs)
unfolding places_from
place_next xs at within =
    ap (places_from (λ _. true) at) (here xs at within).1
    ∙ ap (λ n. at ∷ places_from (λ _. true) (at + 1) (drop n xs)) (sym (add-one at))

pub places_end : {X : Type 0} (xs : List X) (at : ℕ) → length xs ≤ at → places_from (λ (_ : X). true) at (drop at xs) ≡ []
unfolding places_from
places_end xs at past = ap (places_from (λ _. true) at) (drop_all at xs past)

one_place : {X : Type 0} (test : ℕ → Bool) (xs : List X) (at : ℕ) → at < length xs
    → find test (places_from (λ _. true) at (drop at xs)) ≡ cond (test at) (Some at) (find test (places_from (λ _. true) (at + 1) (drop (at + 1) xs)))
unfolding places_from
one_place test xs at within =
    ap (λ ys. find test (places_from (λ _. true) at ys)) (here xs at within).1
    ∙ ap (λ n. cond (test at) (Some at) (find test (places_from (λ _. true) (at + 1) (drop n xs)))) (sym (add-one at))

pub search_next : {X : Type 0} (test : ℕ → Bool) (xs : List X) (at : ℕ) → Searched test xs at → at < length xs → test at ≡ false → Searched test xs (at + 1)
search_next test xs at s within e =
    record { none = s.none ∙ one_place test xs at within ∙ ap (λ t. cond t (Some at) (find test (places_from (λ _. true) (at + 1) (drop (at + 1) xs)))) e }

pub search_found : {X : Type 0} (test : ℕ → Bool) (xs : List X) (at : ℕ) → Searched test xs at → at < length xs → test at ≡ true → find test (places_of xs) ≡ Some at
search_found test xs at s within e =
    s.none ∙ one_place test xs at within ∙ ap (λ t. cond t (Some at) (find test (places_from (λ _. true) (at + 1) (drop (at + 1) xs)))) e

pub search_fails : {X : Type 0} (test : ℕ → Bool) (xs : List X) (at : ℕ) → Searched test xs at → length xs ≤ at → find test (places_of xs) ≡ None
unfolding places_from
search_fails test xs at s past = s.none ∙ ap (λ ys. find test (places_from (λ _. true) at ys)) (drop_all at xs past)

pub or_right : (found first rest : Bool) → found ≡ rest → first ≡ false → found ≡ (first || rest)
or_right found true rest e f = absurd (cc)
or_right found false rest e f = e

pub folds_on : (digits : List ℕ) (at number : ℕ) → at < length digits → fold with_digit number (drop at digits) ≡ fold with_digit (with_digit number (get_or digits at 0)) (drop (at + 1) digits)
folds_on digits at number within =
    ap (fold with_digit number) (drop-cons digits at 0 within)
    ∙ ap (λ n. fold with_digit (with_digit number (get_or digits at 0)) (drop n digits)) (sym (add-one at))

pub too_wide_by : (found long wide first others : Bool) → long ≡ false → wide ≡ false → first ≡ false → found ≡ others → found ≡ (long || wide || (first || others))
too_wide_by found false false false others e f g h = h
too_wide_by found true wide first others e f g h = absurd (cc)
too_wide_by found false true first others e f g h = absurd (cc)
too_wide_by found false false true others e f g h = absurd (cc)

-- names

nothing_passes : {X : Type 0} (xs : List X) → list_any (λ (_ : X). false) xs ≡ false
nothing_passes [] = refl
nothing_passes (x ∷ xs) = nothing_passes xs

-- whether the name of an item stands before it
pub repeats_at : {X : Type 0} (name : X → List ℕ) (xs : List X) (place : ℕ) (x : X) → slice_get xs place ≡ Some x
    → list_any (λ y. bytes_eq (name x) (name y)) (take place xs) ≡ repeats (map name xs) place
repeats_at name xs place x e =
    any_mapped name (bytes_eq (name x)) (take place xs)
    ∙ ap (list_any (bytes_eq (name x))) (sym (take-map name place xs))
    ∙ ap (λ o. list_any (is_this_name o) (take place (map name xs))) (sym (slice_get-map name xs place ∙ ap (option_map name) e))

pub repeats_past : {X : Type 0} (name : X → List ℕ) (xs : List X) (place : ℕ) → slice_get xs place ≡ None → repeats (map name xs) place ≡ false
repeats_past name xs place e =
    ap (λ o. list_any (is_this_name o) (take place (map name xs))) (slice_get-map name xs place ∙ ap (option_map name) e)
    ∙ nothing_passes (take place (map name xs))

-- fields

find_mapped : {X Y : Type 0} (test : Y → Bool) (f : X → Y) (xs : List X) → find test (map f xs) ≡ option_map f (find (λ x. test (f x)) xs)
find_mapped test f [] = refl
find_mapped test f (x ∷ xs) = found (test (f x)) (find_mapped test f xs)
  where
    found : (b : Bool) → find test (map f xs) ≡ option_map f (find (λ y. test (f y)) xs)
        → cond b (Some (f x)) (find test (map f xs)) ≡ option_map f (cond b (Some x) (find (λ y. test (f y)) xs))
    found true e = refl
    found false e = e

fields_of : (tables : SchemaText) (at k : ℕ) → k < length tables
    → fields_from at (drop k tables) ≡ map (field_at at) (places_of (columns_at (slice_get tables k))) ++ fields_from (at + 1) (drop (suc k) tables)
unfolding fields_from
fields_of [] at k h = absurd (let no : k < 0 = h in omega (arith, no))
fields_of (t ∷ ts) at zero h = refl
fields_of (t ∷ ts) at (suc k) h = fields_of ts at k (omega (arith, h))

-- no field of a table before this one passes
pub record FieldsSearched (test : Field → Bool) (tables : SchemaText) (at : ℕ) : Type 0 where
  pub none : find test (fields tables) ≡ find test (fields_from at (drop at tables))

pub fields_begin : (test : Field → Bool) (tables : SchemaText) → FieldsSearched test tables 0
fields_begin test tables = record { none = refl }

fields_split : (test : Field → Bool) (tables : SchemaText) (at : ℕ) → at < length tables
    → find test (fields_from at (drop at tables))
    ≡ option_or (option_map (field_at at) (find (λ column. test (field_at at column)) (places_of (columns_at (slice_get tables at)))))
    (find test (fields_from (at + 1) (drop (at + 1) tables)))
fields_split test tables at within =
    ap (find test) (fields_of tables at at within)
    ∙ find-append test (map (field_at at) (places_of (columns_at (slice_get tables at)))) (fields_from (at + 1) (drop (suc at) tables))
    ∙ ap (λ o. option_or o (find test (fields_from (at + 1) (drop (suc at) tables)))) (find_mapped test (field_at at) (places_of (columns_at (slice_get tables at))))
    ∙ ap (λ n. option_or (option_map (field_at at) (find (λ column. test (field_at at column)) (places_of (columns_at (slice_get tables at))))) (find test (fields_from (at + 1) (drop n tables)))) (sym (add-one at))

pub fields_next : (test : Field → Bool) (tables : SchemaText) (at : ℕ) → FieldsSearched test tables at → at < length tables
    → find (λ column. test (field_at at column)) (places_of (columns_at (slice_get tables at))) ≡ None → FieldsSearched test tables (at + 1)
fields_next test tables at s within e =
    record { none = s.none ∙ fields_split test tables at within ∙ ap (λ o. option_or (option_map (field_at at) o) (find test (fields_from (at + 1) (drop (at + 1) tables)))) e }

pub fields_found : (test : Field → Bool) (tables : SchemaText) (at column : ℕ) → FieldsSearched test tables at → at < length tables
    → find (λ column. test (field_at at column)) (places_of (columns_at (slice_get tables at))) ≡ Some column → find test (fields tables) ≡ Some (field_at at column)
fields_found test tables at column s within e =
    s.none ∙ fields_split test tables at within ∙ ap (λ o. option_or (option_map (field_at at) o) (find test (fields_from (at + 1) (drop (at + 1) tables)))) e

pub fields_fail : (test : Field → Bool) (tables : SchemaText) (at : ℕ) → FieldsSearched test tables at → length tables ≤ at → find test (fields tables) ≡ None
unfolding fields_from
fields_fail test tables at s past = s.none ∙ ap (λ ts. find test (fields_from at ts)) (drop_all at tables past)

-- the columns of a table

pub duplicate_nowhere : (tables : SchemaText) (table column : ℕ) → slice_get tables table ≡ None → is_duplicate tables (field_at table column) ≡ false
duplicate_nowhere tables table column e =
    neither_of _ _ (no_name column) (ap (λ o. repeats (map declared_name (columns_at o)) column) e ∙ nothing_repeats column)
  where
    nothing_repeats : (place : ℕ) → repeats [] place ≡ false
    nothing_repeats zero = refl
    nothing_repeats (suc place) = refl

    no_name : (place : ℕ) → (place == 0 && table_repeats tables table) ≡ false
    no_name zero = repeats_past (λ (t : TableText). t.name) tables table e
    no_name (suc place) = ap (λ b. b && table_repeats tables table) (ne_eqb (suc place) 0 (λ e. absurd (omega (arith, e))))

    neither_of : (a b : Bool) → a ≡ false → b ≡ false → (a || b) ≡ false
    neither_of true b f g = f
    neither_of false b f g = g

pub duplicate_at : (tables : SchemaText) (table column : ℕ) (t : TableText) → slice_get tables table ≡ Some t
    → is_duplicate tables (field_at table column) ≡ ((column == 0 && table_repeats tables table) || repeats (map declared_name (columns_written t)) column)
duplicate_at tables table column t e = ap (λ o. (column == 0 && table_repeats tables table) || repeats (map declared_name (columns_at o)) column) e

-- what a slice has at a place

pub item_at : {X : Type 0} (xs : List X) (at : ℕ) (item : Bor X) → IsItemAt xs at (Some item) → slice_get xs at ≡ Some item.now
item_at xs at item l = slice_get_read xs (length xs) at item.now refl l.3.0 l.1

pub no_item : {X : Type 0} (xs : List X) (at : ℕ) → IsItemAt xs at None → slice_get xs at ≡ None
no_item xs at l = slice_get_past xs at l.3

pub mapped_item : {X Y : Type 0} (view : X → Y) (xs : List X) (at : ℕ) (o : Option X) → slice_get xs at ≡ o → slice_get (map view xs) at ≡ option_map view o
mapped_item view xs at o e = slice_get-map view xs at ∙ ap (option_map view) e

pub map_twice : {X Y Z : Type 0} (g : Y → Z) (f : X → Y) (xs : List X) → map g (map f xs) ≡ map (λ x. g (f x)) xs
map_twice g f [] = refl
map_twice g f (x ∷ xs) = ap (λ ys. g (f x) ∷ ys) (map_twice g f xs)

abbrev name_in : ColumnDraft → List ℕ
name_in column = declared_name (drafts.column_of column)

names_in : (first : ColumnDraft) (others : List ColumnDraft) → map name_in (first ∷ others) ≡ declared_name (drafts.column_of first) ∷ map declared_name (map drafts.column_of others)
names_in first others = ap (λ names. name_in first ∷ names) (sym (map_twice declared_name drafts.column_of others))

pub no_column_repeats : (first : ColumnDraft) (others : List ColumnDraft) (place k : ℕ) → place ≡ suc k → slice_get others k ≡ None
    → repeats (declared_name (drafts.column_of first) ∷ map declared_name (map drafts.column_of others)) place ≡ false
no_column_repeats first others place k e h =
    ap (λ names. repeats names place) (sym (names_in first others)) ∙ repeats_past name_in (first ∷ others) place (ap (slice_get (first ∷ others)) e ∙ h)

pub column_repeats_by : (first : ColumnDraft) (others : List ColumnDraft) (place k : ℕ) (column : ColumnDraft) → place ≡ suc k → slice_get others k ≡ Some column
    → repeats (declared_name (drafts.column_of first) ∷ map declared_name (map drafts.column_of others)) place
    ≡ (bytes_eq (name_in column) (name_in first) || list_any (λ other. bytes_eq (name_in column) (name_in other)) (take k others))
column_repeats_by first others place k column e h =
    ap (λ names. repeats names place) (sym (names_in first others))
    ∙ ap (repeats (map name_in (first ∷ others))) e
    ∙ sym (repeats_at name_in (first ∷ others) (suc k) column h)

-- the rules in their order

abbrev duplicates : SchemaText → Option SchemaFault
duplicates tables = option_map duplicate_fault (find (is_duplicate tables) (fields tables))

abbrev unknowns : SchemaText → Option SchemaFault
unknowns tables = option_map unknown_fault (find (is_unknown tables) (fields tables))

pub texts_over : (tables : SchemaText) → is_over tables ≡ true → fault_of_texts tables ≡ Some OverLimit
texts_over tables e =
    ap (λ b. option_or (broken_if b OverLimit) (option_or (duplicates tables) (option_or (option_map NoId (find (lacks_id tables) (places_of tables))) (unknowns tables)))) e

within_limits : (tables : SchemaText) → is_over tables ≡ false → fault_of_texts tables ≡ option_or (duplicates tables) (option_or (option_map NoId (find (lacks_id tables) (places_of tables))) (unknowns tables))
within_limits tables e =
    ap (λ b. option_or (broken_if b OverLimit) (option_or (duplicates tables) (option_or (option_map NoId (find (lacks_id tables) (places_of tables))) (unknowns tables)))) e

pub texts_duplicate : (tables : SchemaText) (field : Field) → is_over tables ≡ false → find (is_duplicate tables) (fields tables) ≡ Some field
    → fault_of_texts tables ≡ Some (DuplicateName field.table field.column)
texts_duplicate tables field e f =
    within_limits tables e ∙ ap (λ o. option_or (option_map duplicate_fault o) (option_or (option_map NoId (find (lacks_id tables) (places_of tables))) (unknowns tables))) f

named_once : (tables : SchemaText) → is_over tables ≡ false → find (is_duplicate tables) (fields tables) ≡ None
    → fault_of_texts tables ≡ option_or (option_map NoId (find (lacks_id tables) (places_of tables))) (unknowns tables)
named_once tables e f =
    within_limits tables e ∙ ap (λ o. option_or (option_map duplicate_fault o) (option_or (option_map NoId (find (lacks_id tables) (places_of tables))) (unknowns tables))) f

pub texts_without_id : (tables : SchemaText) (table : ℕ) → is_over tables ≡ false → find (is_duplicate tables) (fields tables) ≡ None
    → find (lacks_id tables) (places_of tables) ≡ Some table → fault_of_texts tables ≡ Some (NoId table)
texts_without_id tables table e f g = named_once tables e f ∙ ap (λ o. option_or (option_map NoId o) (unknowns tables)) g

pub texts_by_reference : (tables : SchemaText) (found : Option Field) → is_over tables ≡ false → find (is_duplicate tables) (fields tables) ≡ None
    → find (lacks_id tables) (places_of tables) ≡ None → find (is_unknown tables) (fields tables) ≡ found → fault_of_texts tables ≡ option_map unknown_fault found
texts_by_reference tables found e f g h = named_once tables e f ∙ ap (λ o. option_or (option_map NoId o) (unknowns tables)) g ∙ ap (option_map unknown_fault) h

-- counts

pub counted_mapped : {X Y : Type 0} (view : X → Y) (test : Y → Bool) (xs : List X) → count_by test (map view xs) ≡ count_by (λ x. test (view x)) xs
counted_mapped view test xs = fold-map (λ a y. a + cond (test y) 1 0) view 0 xs

pub summed_mapped : {X Y : Type 0} (view : X → Y) (f : Y → ℕ) (xs : List X) → sum_by f (map view xs) ≡ sum_by (λ x. f (view x)) xs
summed_mapped view f xs = fold-map (λ a y. a + f y) view 0 xs

one_more : (b : Bool) (at : ℕ) (places : List ℕ) → length (cond b (at ∷ places) places) ≡ cond b 1 0 + length places
one_more true at places = omega arith
one_more false at places = omega arith

pub places_counted : {X : Type 0} (test : X → Bool) (xs : List X) (at : ℕ) → length (places_from test at xs) ≡ count_by test xs
unfolding places_from
places_counted test [] at = refl
places_counted test (x ∷ xs) at =
    one_more (test x) at (places_from test (at + 1) xs) ∙ ap (λ n. cond (test x) 1 0 + n) (places_counted test xs (at + 1))
    ∙ sym (sum_by-cons (λ y. cond (test y) 1 0) x xs)
