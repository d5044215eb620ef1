-- Conditions are read one by one, and bytes that name too many columns or conditions spell no ask.
use Rattle.std.proofs.Common.{◌≡◌, ℕ, zero, suc, ◌+◌, ◌-◌, ◌<◌, ◌≤◌, ◌&&◌, nat_lt, Bool, true, List, [], ◌∷◌, ◌++◌, length, map, take, drop, flat_map, slice_index, Option, Some, None, ap, ap₂, sym, refl, ◌∙◌, arith, ltb-true, leb-true, append_assoc}
use Rattle.std.specs.Prelude.{slice_get}
use Rattle.std.proofs.lemmas.List.{map-append, append-nil}
use Rattle.std.specs.List.{list_all}
use Rattle.std.specs.Cmp.{first_so, second_so}
use Rattle.std.proofs.lemmas.Option.{slice_get_within}
use Rattle.std.proofs.Math.Seq.{drop-append_seam}
use Rattle.ghost_model.specs.core.Schema.{Schema, Column, Kind, columns_of, column_at, is_visible, is_shown}
use Rattle.ghost_model.specs.core.Values.{Value}
use Rattle.ghost_model.specs.core.Query.{Test}
use Rattle.ghost_model.specs.core.Channel as channel
use Rattle.ghost_model.specs.forms.Cells.{cell_width}
use Rattle.ghost_model.specs.readings.CellReading.{decode_cell}
use Rattle.ghost_model.specs.core.Asks as asks
use Rattle.ghost_model.specs.readings.AskReading as reading
use Rattle.ghost_model.specs.readings.AskReading.{test_in, test_width}
use Rattle.ghost_model.specs.laws.ChannelLaws as laws
use Rattle.ghost_base.specs.Views as base
use Rattle.channel_codec.specs.declared.ask.ColumnTest.{ColumnTest}
use Rattle.channel_codec.specs.AskViews.{test_view}

abbrev test_with : ℕ → Test → Bool → channel.ColumnTest
test_with column test more = record { column = column; test = test; more = more }

-- the width of its literal
pub width_read : (schema : Schema) (table : ℕ) (rest : List ℕ) (width code : ℕ) (kind : Kind) → width ≡ reading.literal_width kind code
    → code ≡ reading.code_in (slice_index rest 1) → kind ≡ asks.kind_at schema table (slice_index rest 0) → width ≡ test_width schema table rest
width_read schema table rest width code kind w c k = w ∙ ap₂ reading.literal_width k c

-- a condition that was read is the one that the bytes may spell
pub test_read : (schema : Schema) (table : ℕ) (rest : List ℕ) (test : ColumnTest) (column code width : ℕ) (kind : Kind) (cell : List ℕ)
    → test.column ≡ column → column ≡ slice_index rest 0 → code ≡ reading.code_in (slice_index rest 1) → test.more ≡ reading.says_more (slice_index rest 1)
    → kind ≡ asks.kind_at schema table column → width ≡ reading.literal_width kind code → cell ≡ take width (drop 2 rest)
    → base.test_of test.test ≡ reading.test_with kind code cell
    → test_view test ≡ test_in schema table rest
test_read schema table rest test column code width kind cell a b c d e f g h =
    let of_kind : kind ≡ asks.kind_at schema table (slice_index rest 0) = e ∙ ap (asks.kind_at schema table) b in
    let bytes : cell ≡ take (test_width schema table rest) (drop 2 rest) = g ∙ ap (λ (n : ℕ). take n (drop 2 rest)) (width_read schema table rest width code kind f c of_kind) in
    ap₂ (λ (n : ℕ) (b : Bool). test_with n (base.test_of test.test) b) (a ∙ b) d
    ∙ ap (λ (t : Test). test_with (slice_index rest 0) t (reading.says_more (slice_index rest 1)))
    (h ∙ (ap₂ (λ (k : Kind) (n : ℕ). reading.test_with k n cell) of_kind c
    ∙ ap (reading.test_with (asks.kind_at schema table (slice_index rest 0)) (reading.code_in (slice_index rest 1))) bytes))

no_tests : (schema : Schema) (table : ℕ) (rest : List ℕ) → reading.tests_in schema table 0 rest ≡ []
unfolding reading.tests_in
no_tests schema table rest = refl

-- all conditions were read
pub all_read : (schema : Schema) (table left : ℕ) (rest : List ℕ) (tests : List ColumnTest) (all : List channel.ColumnTest) → left ≡ 0
    → map test_view tests ++ reading.tests_in schema table left rest ≡ all → map test_view tests ≡ all
all_read schema table left rest tests all h told =
    sym (ap (λ (xs : List channel.ColumnTest). map test_view tests ++ xs) (ap (λ (n : ℕ). reading.tests_in schema table n rest) h ∙ no_tests schema table rest) ∙ append-nil (map test_view tests)) ∙ told

tests_more : (schema : Schema) (table left : ℕ) (rest : List ℕ) → 0 < left
    → reading.tests_in schema table left rest ≡ test_in schema table rest ∷ reading.tests_in schema table (left - 1) (drop (2 + test_width schema table rest) rest)
unfolding reading.tests_in
tests_more schema table zero rest h = absurd (omega (arith, h))
tests_more schema table (suc left) rest h =
    let e : suc left - 1 ≡ left = omega arith in
    ap (λ (n : ℕ). test_in schema table rest ∷ reading.tests_in schema table n (drop (2 + test_width schema table rest) rest)) (sym e)

-- one more condition was read
pub more_read : (schema : Schema) (table left : ℕ) (rest later : List ℕ) (tests new : List ColumnTest) (test : ColumnTest) (all : List channel.ColumnTest)
    → 0 < left → new ≡ tests ++ test ∷ [] → test_view test ≡ test_in schema table rest → later ≡ drop (2 + test_width schema table rest) rest
    → map test_view tests ++ reading.tests_in schema table left rest ≡ all
    → map test_view new ++ reading.tests_in schema table (left - 1) later ≡ all
more_read schema table left rest later tests new test all h e t l told =
    ap (λ (xs : List ColumnTest). map test_view xs ++ reading.tests_in schema table (left - 1) later) e
    ∙ (ap (λ (xs : List channel.ColumnTest). xs ++ reading.tests_in schema table (left - 1) later) (map-append test_view tests (test ∷ []))
    ∙ (append_assoc (map test_view tests) (test_view test ∷ []) (reading.tests_in schema table (left - 1) later)
    ∙ (ap (λ (x : channel.ColumnTest). map test_view tests ++ x ∷ reading.tests_in schema table (left - 1) later) t
    ∙ (ap (λ (bs : List ℕ). map test_view tests ++ test_in schema table rest ∷ reading.tests_in schema table (left - 1) bs) l
    ∙ (ap (λ (xs : List channel.ColumnTest). map test_view tests ++ xs) (sym (tests_more schema table left rest h)) ∙ told)))))

-- ---- bytes that spell no ask

shown_is_there : (xs : List Column) (at : ℕ) (o : Option Column) → o ≡ slice_get xs at → is_shown o ≡ true → at < length xs
shown_is_there xs at None e s = cc
shown_is_there xs at (Some column) e s = slice_get_within xs at column (sym e)

ascent_is_short : (visible : ℕ → Bool) (most before : ℕ) (xs : List ℕ) → ((x : ℕ) → visible x ≡ true → x < most)
    → list_all visible xs ≡ true → asks.ascend_from before xs ≡ true → before < most → before + length xs < most
ascent_is_short visible most before [] within shown up h = omega (arith, h)
ascent_is_short visible most before (x ∷ xs) within shown up h =
    let higher : before < x = ltb-true before x (first_so (nat_lt before x) (asks.ascend_from x xs) up) in
    let rest : x + length xs < most = ascent_is_short visible most x xs within (second_so (visible x) _ shown) (second_so (nat_lt before x) _ up) (within x (first_so (visible x) _ shown)) in
    omega (arith, higher, rest)

pub record IsFew (ask : channel.Ask) : Type 0 where
  pub columns : length ask.columns < 24
  pub tests : length ask.tests ≤ 16

few : (schema : Schema) (ask : channel.Ask) → ((table : ℕ) → length (columns_of schema table) ≤ 24) → asks.is_proper_ask schema ask ≡ true → IsFew ask
few schema ask narrow proper =
    let four = first_so _ _ (first_so _ _ (first_so _ _ proper)) in
    let three = first_so _ _ four in
    let visible = second_so (nat_lt ask.table (length schema)) _ (first_so _ _ three) in
    let within : (x : ℕ) → is_visible schema ask.table x ≡ true → x < 24 =
    λ x s. (let there : x < length (columns_of schema ask.table) = shown_is_there (columns_of schema ask.table) x (column_at schema ask.table x) refl (second_so (nat_lt 0 x) _ s) in
    omega (arith, there, narrow ask.table)) in
    record {
      columns = omega (arith, ascent_is_short (is_visible schema ask.table) 24 0 ask.columns within visible (second_so (nat_lt ask.table (length schema) && list_all (is_visible schema ask.table) ask.columns) (asks.ascend_from 0 ask.columns) three) (omega arith));
      tests = leb-true (length ask.tests) 16 (second_so _ _ four);
    }

none_if : (o : Option channel.Ask) → ((ask : channel.Ask) → o ≡ Some ask → ⊥) → o ≡ None
none_if None h = refl
none_if (Some ask) h = absurd (h ask refl)

pub no_ask_of_columns : (schema : Schema) (payload : List ℕ) → ((table : ℕ) → length (columns_of schema table) ≤ 24) → laws.AsksHaveOneSpelling
    → 24 < slice_index payload 1 → reading.ask_in schema payload ≡ None
no_ask_of_columns schema payload narrow law h =
    none_if (reading.ask_in schema payload) (λ ask e.
    (let short = few schema ask narrow (law.read_is_proper schema payload ask e) in
    let count : length ask.columns ≡ slice_index payload 1 = ap (λ (bs : List ℕ). slice_index bs 1) (law.read_is_spelled schema payload ask e) in
    omega (arith, h, count, short.columns)))

at_tests : (schema : Schema) (ask : channel.Ask) → slice_index (drop (2 + length ask.columns) (asks.ask_payload schema ask)) 0 ≡ length ask.tests
at_tests schema ask =
    let two : 2 + length ask.columns ≡ suc (suc (length ask.columns)) = omega arith in
    ap (λ (n : ℕ). slice_index (drop n (asks.ask_payload schema ask)) 0) two
    ∙ ap (λ (bs : List ℕ). slice_index bs 0) (drop-append_seam ask.columns (length ask.tests ∷ flat_map (asks.test_bytes schema ask.table) ask.tests))

pub no_ask_of_tests : (schema : Schema) (payload : List ℕ) → ((table : ℕ) → length (columns_of schema table) ≤ 24) → laws.AsksHaveOneSpelling
    → 16 < slice_index (drop (2 + slice_index payload 1) payload) 0 → reading.ask_in schema payload ≡ None
no_ask_of_tests schema payload narrow law h =
    none_if (reading.ask_in schema payload) (λ ask e.
    (let short = few schema ask narrow (law.read_is_proper schema payload ask e) in
    let count : length ask.tests ≡ slice_index (drop (2 + slice_index payload 1) payload) 0 =
    sym (at_tests schema ask) ∙ ap (λ (bs : List ℕ). slice_index (drop (2 + slice_index bs 1) bs) 0) (law.read_is_spelled schema payload ask e) in
    omega (arith, h, count, short.tests)))
