-- Databases of pages some of whose slots spell no value.
use Rattle.std.proofs.Common.{◌≡◌, refl, ap, sym, ◌∙◌, subst, pos, negsuc, ℕ, zero, suc, ◌+◌, ◌-◌, ◌≤◌, Bool, true, false, ◌&&◌, nat_eq, nat_lt, List, [], ◌∷◌, length, take, drop, Option, Some, None, slice_get, slice_index, unwrap_or, option_and_then, arith, leb-true, le-leb}
use Rattle.std.specs.Prelude.{◌*◌, option_map, nat_le, if◌then◌else◌}
use Rattle.std.specs.List.{list_all}
use Rattle.std.proofs.lemmas.List.{length-map}
use Rattle.std.proofs.lemmas.Bool.Decides.{nat_tests}
use Rattle.ghost_model.specs.core.Schema.{Column, Kind, Integer, Chars, IntegerOrNull, CharsOrNull, columns_of, column_at}
use Rattle.ghost_model.specs.core.Values.{Value, Null, Number, Text, Row, Database}
use Rattle.ghost_model.specs.core.Channel.{Catalog}
use Rattle.ghost_model.specs.core.Database.{IsDatabase, rows_of, row_count, row_counts, is_of_kind, is_row_among, value_at_row}
use Rattle.ghost_model.specs.core.Asks.{kind_or_none, kind_at}
use Rattle.ghost_model.specs.core.Split.{Public, IsPublic}
use Rattle.ghost_model.specs.readings.CellReading.{decode_cell}
use Rattle.ghost_model.specs.laws.SplitByFlags.{PartsByFlags}
use Rattle.ghost_model.specs.laws.FlashLaws.{HiddenValuesOfDatabases}
use Rattle.ghost_model.specs.laws.SchemaTrees.{IsTree}
use Rattle.ghost_model.specs.laws.LayoutLaws.{IsLimited}
use Rattle.ghost_model.specs.forms.Runs.{Run, page_of, slot_of, record_at}
use Rattle.ghost_model.specs.forms.Layout.{is_hidden, count_of, column_file}
use Rattle.ghost_model.specs.forms.Slots.{child_at, child_or_none, child_rows, is_in_range, only_in_range}
use Rattle.ghost_model.proofs.FlashLemmas.Values.{count_there}
use Rattle.ghost_model.proofs.MeaningLemmas.Leading.{get_within}
use Rattle.ghost_base.specs.CellLaws.{CellsSpellOneValue}
use Rattle.hidden_columns.specs.Laws.{value_on}
use Rattle.key_exec.specs.Reading.{KnowsBut}
use Rattle.key_exec.specs.Filled.{HaveBytes, CanHaveRows, MayStand, MayFill, IsFilled, IsThere, CanBeFilled, HaveBoth, value_filled, is_slot}
use Rattle.key_exec.proofs.FilledDatabases.{made, is_database, counts_are, public_is, value_is, within}

-- ---- what slots spell

abbrev is_byte : ℕ → Bool
is_byte byte = nat_lt byte 256

both_true : (a b : Bool) → (a && b) ≡ true → (a ≡ true) × (b ≡ true)
both_true true b h = (refl, h)
both_true false b h = absurd (cc (h))

and_true : (a b : Bool) → a ≡ true → b ≡ true → (a && b) ≡ true
and_true true b e h = h
and_true false b e h = absurd (cc (e))

all_dropped : (n : ℕ) (xs : List ℕ) → list_all is_byte xs ≡ true → list_all is_byte (drop n xs) ≡ true
all_dropped zero xs h = h
all_dropped (suc n) [] h = refl
all_dropped (suc n) (x ∷ xs) h = all_dropped n xs (both_true (is_byte x) (list_all is_byte xs) h).1

all_taken : (n : ℕ) (xs : List ℕ) → list_all is_byte xs ≡ true → list_all is_byte (take n xs) ≡ true
all_taken zero xs h = refl
all_taken (suc n) [] h = refl
all_taken (suc n) (x ∷ xs) h =
    let both = both_true (is_byte x) (list_all is_byte xs) h in
    and_true (is_byte x) (list_all is_byte (take n xs)) both.0 (all_taken n xs both.1)

record_has_bytes : (page : ℕ → List ℕ) (run : Run) (i : ℕ) → HaveBytes page → list_all is_byte (record_at page run i) ≡ true
unfolding record_at
record_has_bytes page run i bytes = all_taken (slot_of run i * run.width + run.width - slot_of run i * run.width) (drop (slot_of run i * run.width) (page (page_of run i))) (all_dropped (slot_of run i * run.width) (page (page_of run i)) (bytes (page_of run i)))

from_test : (b : Bool) (one value : Value) → (if b then Some one else None) ≡ Some value → (b ≡ true) × (one ≡ value)
from_test true one value e = (refl, ap (λ o. unwrap_or o one) e)
from_test false one value e = absurd (cc (e))

in_range : (rows : Option ℕ) (o : Option Value) (value : Value) → only_in_range rows o ≡ Some value → (o ≡ Some value) × (is_in_range rows value ≡ true)
in_range rows None value e = absurd (cc (e))
in_range rows (Some one) value e =
    let found = from_test (is_in_range rows one) one value e in
    (ap Some found.1, ap (is_in_range rows) (sym found.1) ∙ found.0)

-- the value that a slot spells may stand there, and so may what is there in its place
module _ (cells : CellsSpellOneValue) (page : ℕ → List ℕ) (cat : Catalog) (bytes : HaveBytes page) where
  spelled_stands : (table column identifier : ℕ) (value : Value) → value_on page cat table column identifier ≡ Some value → MayStand cat table column value
  spelled_stands table column identifier value e =
      let found = in_range (child_rows cat table column) (decode_cell (kind_at cat.schema table column) (record_at page (column_file cat table column) (identifier - 1))) value e in
      record {
        kind = (cells.spells_a_cell (kind_at cat.schema table column) (record_at page (column_file cat table column) (identifier - 1)) value (record_has_bytes page (column_file cat table column) (identifier - 1) bytes) found.0).held;
        range = found.1;
      }

  one_stands : (table column : ℕ) (o : Option Value) (value : Value) → ((one : Value) → o ≡ Some one → MayStand cat table column one)
      → MayStand cat table column value → MayStand cat table column (unwrap_or o value)
  one_stands table column None value of_slot stands = stands
  one_stands table column (Some one) value of_slot stands = of_slot one refl

  filled_stands : (fill : (table column identifier : ℕ) → Value) → MayFill cat fill → MayFill cat (value_filled page cat fill)
  filled_stands fill may table column identifier h some few =
      one_stands table column (value_on page cat table column identifier) (fill table column identifier) (spelled_stands table column identifier) (may table column identifier h some few)

few_of : (counts : List ℕ) → list_all (λ count. nat_le count 1000000) counts ≡ true → (table : ℕ) → slice_index counts table ≤ 1000000
few_of [] few table = omega arith
few_of (count ∷ counts) few zero = leb-true count 1000000 (both_true (nat_le count 1000000) (list_all (λ n. nat_le n 1000000) counts) few).0
few_of (count ∷ counts) few (suc table) = few_of counts (both_true (nat_le count 1000000) (list_all (λ n. nat_le n 1000000) counts) few).1 table

-- ---- the database

pub filled : CellsSpellOneValue → PartsByFlags → (page : ℕ → List ℕ) (cat : Catalog) (public : Public) (fill : (table column identifier : ℕ) → Value)
    → HaveBytes page → IsLimited cat → CanHaveRows cat → IsPublic cat public → MayFill cat fill → IsThere page cat public fill
filled cells parts page cat public fill bytes limited can is may =
    let may_all = filled_stands cells page cat bytes fill may in
    let small = few_of cat.counts limited.few_rows in
    record {
      database = made cat public (value_filled page cat fill) limited.tree can is small may_all;
      is = record {
        is = is_database cat public (value_filled page cat fill) limited.tree can is small may_all;
        counts = counts_are cat public (value_filled page cat fill) limited.tree can is small may_all;
        shown = public_is cat public (value_filled page cat fill) limited.tree can is small may_all parts;
        values = value_is cat public (value_filled page cat fill) limited.tree can is small may_all;
      };
    }

pub filled_known : HiddenValuesOfDatabases → (page : ℕ → List ℕ) (cat : Catalog) (public : Public) (fill : (table column identifier : ℕ) → Value) (database : Database)
    → IsTree cat.schema → IsFilled page cat public fill database → KnowsBut true page cat database
filled_known values page cat public fill database tree is = record {
  is_told = refl;
  is = is.is;
  counts = is.counts;
  columns = λ table column h identifier some few value e.
      values cat.schema database tree is.is table identifier column h
      ∙ (is.values table column identifier h some few ∙ ap (λ o. Some (unwrap_or o (fill table column identifier))) e);
}

-- ---- what may stand in a slot

value_for : Option ℕ → Kind → Value
value_for (Some rows) kind = Number (pos 1)
value_for None Integer = Number (pos 0)
value_for None (Chars most) = Text []
value_for None IntegerOrNull = Number (pos 0)
value_for None (CharsOrNull most) = Text []

kind_for : (kind : Kind) → is_of_kind kind (value_for None kind) ≡ true
unfolding value_for
kind_for Integer = refl
kind_for (Chars most) = and_true (nat_le 0 most) true (le-leb 0 most (omega arith)) refl
kind_for IntegerOrNull = refl
kind_for (CharsOrNull most) = and_true (nat_le 0 most) true (le-leb 0 most (omega arith)) refl

key_for : (rows : ℕ) → 1 ≤ rows → is_row_among rows (Number (pos 1)) ≡ true
key_for rows some = and_true true (nat_le 1 rows) refl (le-leb 1 rows some)

stands_for : (cat : Catalog) (tree : IsTree cat.schema) (table column : ℕ) (child : Option ℕ) (kind : Kind)
    → ((place : ℕ) → child ≡ Some place → (1 ≤ count_of cat place) × (kind ≡ Integer))
    → (is_of_kind kind (value_for (option_map (count_of cat) child) kind) ≡ true) × (is_in_range (option_map (count_of cat) child) (value_for (option_map (count_of cat) child) kind) ≡ true)
unfolding value_for
stands_for cat tree table column None kind of_child = (kind_for kind, refl)
stands_for cat tree table column (Some place) kind of_child =
    let some = of_child place refl in
    (subst (λ k. is_of_kind k (Number (pos 1)) ≡ true) (sym some.1) refl, key_for (count_of cat place) some.0)

key_kind : (o : Option Column) (place : ℕ) → child_or_none o ≡ Some place → ((held : Column) → o ≡ Some held → held.child ≡ Some place → held.kind ≡ Integer) → kind_or_none o ≡ Integer
key_kind None place e of_column = absurd (cc (e))
key_kind (Some held) place e of_column = of_column held refl e

pub can_be_filled : (cat : Catalog) → IsTree cat.schema → CanHaveRows cat → CanBeFilled cat
can_be_filled cat tree can = record {
  fill = λ table column identifier. value_for (child_rows cat table column) (kind_at cat.schema table column);
  may = λ table column identifier h some few.
      let stands = stands_for cat tree table column (child_at cat.schema table column) (kind_at cat.schema table column)
      (λ place named. (
        can.named table column place (omega (arith, some, few)) named,
        key_kind (column_at cat.schema table column) place named (λ held there names. tree.references_are_integers table column place held there names),
      )) in
      record { kind = stands.0; range = stands.1 };
}

-- a value in one slot, and others elsewhere
abbrev put_at : (table column identifier : ℕ) → Value → (fill : (table column identifier : ℕ) → Value) → (table column identifier : ℕ) → Value
put_at table column identifier value fill other_table other_column other =
    if is_slot table column identifier other_table other_column other then value else fill other_table other_column other

same_number : (a b : ℕ) → nat_eq a b ≡ true → a ≡ b
same_number a b h = grind (arith, nat_tests)

is_same : (n : ℕ) → nat_eq n n ≡ true
is_same n = grind (arith, nat_tests)

slot_itself : (table column identifier : ℕ) → is_slot table column identifier table column identifier ≡ true
slot_itself table column identifier = and_true _ _ (and_true _ _ (is_same table) (is_same column)) (is_same identifier)

chosen : (cat : Catalog) (table column : ℕ) (b : Bool) (value other : Value) → (b ≡ true → MayStand cat table column value) → MayStand cat table column other
    → MayStand cat table column (if b then value else other)
chosen cat table column true value other one stands = one refl
chosen cat table column false value other one stands = stands

put_may : (cat : Catalog) (table column identifier : ℕ) (value : Value) (fill : (table column identifier : ℕ) → Value) → MayStand cat table column value → MayFill cat fill
    → MayFill cat (put_at table column identifier value fill)
put_may cat table column identifier value fill stands may other_table other_column other h some few =
    chosen cat other_table other_column (is_slot table column identifier other_table other_column other) value (fill other_table other_column other)
    (λ e. let parts = both_true _ _ e in
    let places = both_true _ _ parts.0 in
    subst (λ t. MayStand cat t other_column value) (sym (same_number other_table table places.0))
    (subst (λ c. MayStand cat table c value) (sym (same_number other_column column places.1)) stands))
    (may other_table other_column other h some few)

module _ (cells : CellsSpellOneValue) (parts : PartsByFlags) (hidden : HiddenValuesOfDatabases) (page : ℕ → List ℕ) (cat : Catalog) (public : Public)
    (bytes : HaveBytes page) (limited : IsLimited cat) (can : CanHaveRows cat) (is : IsPublic cat public)
    (table column identifier : ℕ) (h : is_hidden cat.schema table column ≡ true) (some : 1 ≤ identifier) (few : identifier ≤ count_of cat table)
    (none : value_on page cat table column identifier ≡ None) where
  there : (value : Value) → MayStand cat table column value
      → IsThere page cat public (put_at table column identifier value (can_be_filled cat limited.tree can).fill)
  there value stands =
      filled cells parts page cat public (put_at table column identifier value (can_be_filled cat limited.tree can).fill) bytes limited can is
      (put_may cat table column identifier value (can_be_filled cat limited.tree can).fill stands (can_be_filled cat limited.tree can).may)

  has_it : (value : Value) (stands : MayStand cat table column value) → value_at_row (there value stands).database table identifier column ≡ Some value
  has_it value stands =
      (there value stands).is.values table column identifier h some few
      ∙ (ap (λ o. Some (unwrap_or o (put_at table column identifier value (can_be_filled cat limited.tree can).fill table column identifier))) none
      ∙ ap (λ b. Some (if b then value else (can_be_filled cat limited.tree can).fill table column identifier)) (slot_itself table column identifier))

  pub have_both : (value other : Value) → MayStand cat table column value → MayStand cat table column other → HaveBoth page cat public table column identifier value other
  have_both value other stands other_stands =
      let one = there value stands in
      let another = there other other_stands in
      record {
        one = one.database;
        other = another.database;
        known = filled_known hidden page cat public _ one.database limited.tree one.is;
        other_known = filled_known hidden page cat public _ another.database limited.tree another.is;
        shown = one.is.shown;
        other_shown = another.is.shown;
        has = has_it value stands;
        other_has = has_it other other_stands;
        alike = λ at_table at_column at there_hidden first last elsewhere.
            let fill = (can_be_filled cat limited.tree can).fill in
            let of_one : value_at_row one.database at_table at at_column ≡ Some (unwrap_or (value_on page cat at_table at_column at) (fill at_table at_column at)) =
            one.is.values at_table at_column at there_hidden first last
            ∙ ap (λ b. Some (unwrap_or (value_on page cat at_table at_column at) (if b then value else fill at_table at_column at))) elsewhere in
            let of_other : value_at_row another.database at_table at at_column ≡ Some (unwrap_or (value_on page cat at_table at_column at) (fill at_table at_column at)) =
            another.is.values at_table at_column at there_hidden first last
            ∙ ap (λ b. Some (unwrap_or (value_on page cat at_table at_column at) (if b then other else fill at_table at_column at))) elsewhere in
            of_one ∙ sym of_other;
      }

-- ---- other numbers of rows

none_among : (value : Value) → is_row_among 0 value ≡ true → ⊥
none_among Null h = absurd (cc (h))
none_among (Text text) h = absurd (cc (h))
none_among (Number (negsuc n)) h = absurd (cc (h))
none_among (Number (pos zero)) h = absurd (cc (h))
none_among (Number (pos (suc n))) h = let parts = both_true (nat_le 1 (suc n)) (nat_le (suc n) 0) h in let low = leb-true (suc n) 0 parts.1 in absurd (omega (arith, low))

some_rows : (rows : ℕ) (value : Value) → is_row_among rows value ≡ true → 1 ≤ rows
some_rows zero value h = absurd (none_among value h)
some_rows (suc rows) value h = omega arith

named_there : (o : Option Column) (child : ℕ) → child_or_none o ≡ Some child → (held : Column) × (o ≡ Some held) × (held.child ≡ Some child)
named_there None child e = absurd (cc (e))
named_there (Some held) child e = (held, refl, e)

pub only_these : (cat : Catalog) (database : Database) → IsDatabase cat.schema database → row_counts database ≡ cat.counts → CanHaveRows cat
only_these cat database is counts = record {
  counted = ap length (sym counts) ∙ (length-map database length ∙ is.tables);
  named = λ table column child some names.
      let count_is = λ (t : ℕ). sym (count_there database t) ∙ ap (λ ns. slice_index ns t) counts in
      let of_table : row_count database table ≡ count_of cat table = count_is table in
      let of_child : row_count database child ≡ count_of cat child = count_is child in
      let held = named_there (column_at cat.schema table column) child names in
      let row = get_within (rows_of database table) 0 (omega (arith, some, of_table)) in
      let wide = is.widths table 1 row.0 row.1 in
      let low = within (columns_of cat.schema table) column held.0 held.1 in
      let value = get_within row.0 column (omega (arith, wide, low)) in
      let found : value_at_row database table 1 column ≡ Some value.0 = ap (λ o. option_and_then (λ (r : Row). slice_get r column) o) row.1 ∙ value.1 in
      let rows = some_rows (row_count database child) value.0 (is.references table 1 column child value.0 held.0 found held.1 held.2) in
      omega (arith, rows, of_child);
}

no_value : (rows : Option ℕ) (o : Option Value) → rows ≡ Some 0 → only_in_range rows o ≡ None
no_value rows None e = refl
no_value rows (Some value) e =
    let range : is_in_range rows value ≡ is_row_among 0 value = ap (λ n. is_in_range n value) e in
    no_test (is_in_range rows value) value (λ h. none_among value (sym range ∙ h))
  where
    no_test : (b : Bool) (value : Value) → (b ≡ true → ⊥) → (if b then Some value else None) ≡ None
    no_test true value never = absurd (never refl)
    no_test false value never = refl

pub no_slot_spells : (page : ℕ → List ℕ) (cat : Catalog) (table column child : ℕ) → child_at cat.schema table column ≡ Some child → count_of cat child ≡ 0
    → (identifier : ℕ) → value_on page cat table column identifier ≡ None
no_slot_spells page cat table column child names empty identifier =
    no_value (child_rows cat table column) (decode_cell (kind_at cat.schema table column) (record_at page (column_file cat table column) (identifier - 1)))
    (ap (option_map (count_of cat)) names ∙ ap Some empty)
