-- Rows of the top table meet terms exactly where conditions hold along them.
use Rattle.std.proofs.Common.{◌≡◌, ◌∙◌, refl, ap, ap₂, sym, ℕ, zero, suc, ◌+◌, ◌-◌, pos, Bool, true, false, ◌&&◌, nat_eq, nat_lt, List, [], ◌∷◌, filter, slice_get, Option, Some, None, option_and_then, if◌then◌else◌, arith}
use Rattle.std.specs.Prelude.{◌||◌, not}
use Rattle.std.proofs.lemmas.Bool.{lt-ltb}
use Rattle.std.proofs.lemmas.Bool.Decides.{nat_tests}
use Rattle.std.specs.List.{list_all}
use Rattle.std.specs.Option.{option_map_or}
use Rattle.ghost_model.specs.core.Schema.{Schema, Column, column_at, columns_of, is_nullable, is_shown, is_visible, IsAtOrBelow}
use Rattle.ghost_model.specs.core.Values.{Value, Number, Row, Database, is_null}
use Rattle.ghost_model.specs.core.Channel.{Catalog}
use Rattle.ghost_model.specs.core.Database.{holds, leads, row_of, value_at_row}
use Rattle.ghost_model.specs.core.Meaning.{compares, meets_test}
use Rattle.ghost_model.specs.core.Asks.{kind_at, kind_or_none}
use Rattle.ghost_model.specs.core.Query.{Field, Operator, Test, Compared, IsNull, IsNotNull, Condition, OneOf, Join, members_in, compared, tested}
use Rattle.ghost_model.specs.core.Replies as replies
use Rattle.ghost_model.specs.core.Replies.{known_value, hidden_value, replied_value}
use Rattle.ghost_model.specs.core.Split.{hidden_of}
use Rattle.ghost_model.specs.refusals.QueryMeaning.{field}
use Rattle.ghost_model.specs.forms.Layout.{is_hidden}
use Rattle.ghost_model.specs.laws.LayoutLaws.{LevelsAreAncestors}
use Rattle.ghost_model.specs.laws.MeaningLaws.{LeadsFollowKeys}
use Rattle.ghost_model.specs.laws.FlashLaws.{HiddenValuesOfDatabases}
use Rattle.ghost_model.proofs.MeaningLemmas.OneRow.{both_true}
use Rattle.ghost_model.proofs.MeaningLemmas.Leading.{get_within, place_within}
use Rattle.ghost_laws.specs.Scans.{led_value, known_along, holds_or_asked_along, stands_along}
use Rattle.climbing_index.specs.declared.index.ClimbingIndex.{ClimbingIndex}
use Rattle.climbing_index.specs.declared.index.IdIndex.{IdIndex}
use Rattle.climbing_index.specs.declared.search.Group.{Group}
use Rattle.flash_layout.specs.Ranges.{IsRowOf}
use Rattle.condition_lists.specs.declared.bounds.Bounds.{Bounds}
use Rattle.condition_lists.specs.declared.term.Term.{Term}
use Rattle.condition_lists.specs.declared.term.GroupTerm.{GroupTerm}
use Rattle.condition_lists.specs.declared.term.Term.TheVariants.{Ranges, Entries, Identifiers, TopReply, Reply}
use Rattle.condition_lists.specs.Bounds.{AreBoundsOf, lies_within}
use Rattle.condition_lists.specs.Terms.{AreRangesOf, AreNoRanges, AreEntriesOf, AreIdentifiersOf, IsRangesTerm, IsIdentifiersTerm, IsTermOfTest, IsReplyTermOf, AreTermsOf, is_in_one, is_listed, listed_members, meets, meets_all, nothing}
use Rattle.condition_lists.specs.Laws.{IsOver}
use Rattle.condition_lists.proofs.RowLemmas.{unseen, some_column, never_hidden, never_null, null_if_allowed, below_by, is_row, led}
use Rattle.condition_lists.proofs.GroupLemmas.{none_in}
use Rattle.condition_lists.proofs.TermLemmas.{all_listed}
use Rattle.condition_lists.proofs.LoneLemmas.{each_alone, lone_terms}

none_met : (test : Test) → meets_test test None ≡ false
none_met (Compared operator literal) = refl
none_met IsNull = refl
none_met IsNotNull = refl

pub by_value : (nullable : Bool) (test : Test) (bounds : Bounds) → AreBoundsOf nullable test bounds → (o : Option Value)
    → ((value : Value) → o ≡ Some value → is_null value ≡ true → nullable ≡ true) → option_map_or (lies_within bounds) o false ≡ meets_test test o
by_value nullable test bounds are None may = sym (none_met test)
by_value nullable test bounds are (Some value) may = are.admits value (may value refl)

-- a column with a row's identifier, or a hidden one, is not visible
kept_hidden : (schema : Schema) (table before : ℕ) → (nat_eq (suc before) 0 || is_hidden schema table (suc before)) ≡ true → is_hidden schema table (suc before) ≡ true
kept_hidden schema table before kept =
    let other : nat_eq (suc before) 0 ≡ false = grind (arith, nat_tests) in
    sym (ap (λ b. b || is_hidden schema table (suc before)) other) ∙ kept

pub kept_unseen : (schema : Schema) (table column : ℕ) → (nat_eq column 0 || is_hidden schema table column) ≡ true → is_visible schema table column ≡ false
kept_unseen schema table zero kept = refl
kept_unseen schema table (suc before) kept = unseen schema table (suc before) (kept_hidden schema table before kept)

-- a column that is not visible is hidden
unseen_hidden : (schema : Schema) (table before : ℕ) (held : Column) → column_at schema table (suc before) ≡ Some held → is_visible schema table (suc before) ≡ false
    → is_hidden schema table (suc before) ≡ true
unseen_hidden schema table before held there e =
    let after : nat_lt 0 (suc before) ≡ true = lt-ltb 0 (suc before) (omega arith) in
    ap (λ o. option_map_or (λ (one : Column). one.hidden) o false) there
    ∙ is_not held.hidden (sym (ap₂ (λ b o. b && is_shown o) after there) ∙ e)
  where
    is_not : (b : Bool) → not b ≡ false → b ≡ true
    is_not true e = refl
    is_not false e = absurd (cc (e))

module _ (cat : Catalog) (database : Database) (over : IsOver cat database) (given : List replies.Reply) (top identifier : ℕ) (row : IsRowOf cat top identifier)
    (levels : LevelsAreAncestors) (keys : LeadsFollowKeys cat.schema database) (values : HiddenValuesOfDatabases) where
  abbrev known : Field → Option Value
  known = known_along cat.schema database given top identifier

  abbrev holds_here : Condition → Bool
  holds_here = holds_or_asked_along cat.schema known

  -- the key knows the hidden values of the database
  hidden_known : (table column reached : ℕ) → is_hidden cat.schema table column ≡ true
      → known_value cat.schema (hidden_of cat.schema database) given table reached column ≡ value_at_row database table reached column
  hidden_known table zero reached h = absurd (never_hidden cat.schema over.tree table h)
  hidden_known table (suc before) reached h =
      ap (λ b. if b then replied_value given table reached (suc before) else hidden_value cat.schema (hidden_of cat.schema database) table reached (suc before)) (unseen cat.schema table (suc before) h)
      ∙ values cat.schema database over.tree over.is table reached (suc before) h

  led_known : (wanted : Field) → is_hidden cat.schema wanted.table wanted.column ≡ true → (o : Option ℕ)
      → option_and_then (λ reached. known_value cat.schema (hidden_of cat.schema database) given wanted.table reached wanted.column) o
      ≡ option_and_then (λ reached. value_at_row database wanted.table reached wanted.column) o
  led_known wanted h None = refl
  led_known wanted h (Some reached) = hidden_known wanted.table wanted.column reached h

  -- they are NULL only where the column may be
  led_null : (wanted : Field) → is_hidden cat.schema wanted.table wanted.column ≡ true → (o : Option ℕ) (value : Value)
      → option_and_then (λ reached. value_at_row database wanted.table reached wanted.column) o ≡ Some value → is_null value ≡ true
      → is_nullable (kind_at cat.schema wanted.table wanted.column) ≡ true
  led_null wanted h None value e null = absurd (cc (e))
  led_null wanted h (Some reached) value e null = null_if_allowed cat database over wanted.table reached wanted.column h value e null

  -- a condition on an identifier
  identified : (wanted : Field) (operator : Operator) (literal : Value) (reached : ℕ) → wanted.column ≡ 0
      → leads cat.schema database top identifier wanted.table ≡ Some reached → holds_here (compared wanted operator literal) ≡ holds operator (Number (pos reached)) literal
  identified wanted operator literal reached first e =
      ap (λ n. if is_visible cat.schema wanted.table n then true
      else compares operator (option_and_then (λ r. known_value cat.schema (hidden_of cat.schema database) given wanted.table r n) (leads cat.schema database top identifier wanted.table)) (Some literal)) first
      ∙ ap (λ o. compares operator (option_and_then (λ r. known_value cat.schema (hidden_of cat.schema database) given wanted.table r 0) o) (Some literal)) e

  of_ranges : (wanted : Field) (operator : Operator) (literal : Value) (first second : Group) → AreRangesOf cat top wanted.table wanted.column operator literal first second
      → is_in_one first second (identifier - 1) ≡ holds_here (compared wanted operator literal)
  of_ranges wanted operator literal first second are =
      let some = row.some in
      let within = row.within in
      let e : identifier - 1 + 1 ≡ identifier = omega (arith, some) in
      are.ids.admits (identifier - 1) (omega (arith, some, within))
      ∙ ap (λ n. holds operator (Number (pos n)) literal) e
      ∙ sym (identified wanted operator literal identifier are.column_is (ap (leads cat.schema database top identifier) are.table_is ∙ keys.to_itself top identifier))

  of_entries : (wanted : Field) (test : Test) (index : ClimbingIndex) (level : ℕ) (bounds : Bounds)
      → AreEntriesOf cat top wanted.table wanted.column test index level bounds
      → option_map_or (lies_within bounds) (led_value cat.schema database top identifier (field wanted.table wanted.column)) false ≡ holds_here (OneOf (tested wanted test) [])
  of_entries wanted test index level bounds are =
      let hidden = are.index_at.hidden in
      by_value (is_nullable (kind_at cat.schema wanted.table wanted.column)) test bounds are.bounds_are
      (led_value cat.schema database top identifier (field wanted.table wanted.column)) (led_null wanted hidden (leads cat.schema database top identifier wanted.table))
      ∙ ap (meets_test test) (sym (led_known wanted hidden (leads cat.schema database top identifier wanted.table)))
      ∙ sym (ap (λ b. if b then true else meets_test test (known wanted)) (unseen cat.schema wanted.table wanted.column hidden))

  -- no row has NULL in a column that cannot be NULL
  null_at : (table column : ℕ) → (nat_eq column 0 || is_hidden cat.schema table column) ≡ true → is_nullable (kind_at cat.schema table column) ≡ false
      → (reached : ℕ) → meets_test IsNull (known_value cat.schema (hidden_of cat.schema database) given table reached column) ≡ false
  null_at table zero kept plain reached = refl
  null_at table (suc before) kept plain reached =
      let hidden = kept_hidden cat.schema table before kept in
      let held = some_column (column_at cat.schema table (suc before)) hidden in
      ap (meets_test IsNull) (hidden_known table (suc before) reached hidden)
      ∙ by held.0 held.1 (sym (ap (λ o. is_nullable (kind_or_none o)) held.1) ∙ plain) (value_at_row database table reached (suc before)) refl
    where
      by : (held : Column) → column_at cat.schema table (suc before) ≡ Some held → is_nullable held.kind ≡ false
          → (o : Option Value) → value_at_row database table reached (suc before) ≡ o → meets_test IsNull o ≡ false
      by held there plain None at = refl
      by held there plain (Some value) at = never_null cat database over table reached (suc before) held there plain value at

  of_nothing : (wanted : Field) (first second : Group) → AreNoRanges cat.schema wanted.table wanted.column first second
      → is_in_one first second (identifier - 1) ≡ holds_here (OneOf (tested wanted IsNull) [])
  of_nothing wanted first second are =
      ap₂ (λ a b. is_in_one a b (identifier - 1)) are.first_is are.second_is
      ∙ ap (λ b. b || b) (none_in nothing refl (identifier - 1))
      ∙ sym (unled (leads cat.schema database top identifier wanted.table))
      ∙ sym (ap (λ b. if b then true else meets_test IsNull (known wanted)) (kept_unseen cat.schema wanted.table wanted.column are.kept))
    where
      unled : (o : Option ℕ)
          → meets_test IsNull (option_and_then (λ reached. known_value cat.schema (hidden_of cat.schema database) given wanted.table reached wanted.column) o) ≡ false
      unled None = refl
      unled (Some reached) = null_at wanted.table wanted.column are.kept are.plain reached

  -- and each row has a value there
  some_at : (table column : ℕ) (held : Column) → column_at cat.schema table column ≡ Some held → is_nullable held.kind ≡ false → is_visible cat.schema table column ≡ false
      → (reached : ℕ) (found : Row) → row_of database table reached ≡ Some found
      → meets_test IsNotNull (known_value cat.schema (hidden_of cat.schema database) given table reached column) ≡ true
  some_at table zero held there plain e reached found at = refl
  some_at table (suc before) held there plain e reached found at =
      let wide = over.is.widths table reached found at in
      let near = place_within (columns_of cat.schema table) (suc before) held there in
      let has = get_within found (suc before) (omega (arith, wide, near)) in
      let is = ap (option_and_then (λ (row : Row). slice_get row (suc before))) at ∙ has.1 in
      ap (meets_test IsNotNull) (hidden_known table (suc before) reached (unseen_hidden cat.schema table before held there e) ∙ is)
      ∙ ap not (never_null cat database over table reached (suc before) held there plain has.0 is)

  pub always_held : (wanted : Field) (held : Column) → column_at cat.schema wanted.table wanted.column ≡ Some held → is_nullable held.kind ≡ false
      → IsAtOrBelow cat.schema top wanted.table → holds_here (OneOf (tested wanted IsNotNull) []) ≡ true
  always_held wanted held there plain below = by (is_visible cat.schema wanted.table wanted.column) refl
    where
      by : (b : Bool) → is_visible cat.schema wanted.table wanted.column ≡ b → holds_here (OneOf (tested wanted IsNotNull) []) ≡ true
      by true e = ap (λ b. if b then true else meets_test IsNotNull (known wanted)) e
      by false e =
          let lands = led cat database over keys top wanted.table identifier below row in
          ap (λ b. if b then true else meets_test IsNotNull (known wanted)) e
          ∙ ap (λ o. meets_test IsNotNull (option_and_then (λ reached. known_value cat.schema (hidden_of cat.schema database) given wanted.table reached wanted.column) o)) lands.led
          ∙ some_at wanted.table wanted.column held there plain e lands.reached lands.row lands.stands

  of_identifiers : (wanted : Field) (operator : Operator) (literal : Value) (index : IdIndex) (level : ℕ) (first second : Group)
      → AreIdentifiersOf cat top wanted.table wanted.column operator literal index level first second
      → option_map_or (λ reached. is_in_one first second (reached - 1)) (leads cat.schema database top identifier wanted.table) false ≡ holds_here (compared wanted operator literal)
  of_identifiers wanted operator literal index level first second are =
      let below = below_by levels cat database over top wanted.table level are.index_at.there are.index_at.level_is in
      let lands = led cat database over keys top wanted.table identifier below row in
      let is = is_row cat database over wanted.table lands.reached lands.row lands.stands in
      let some = is.some in
      let within = is.within in
      let e : lands.reached - 1 + 1 ≡ lands.reached = omega (arith, some) in
      ap (λ o. option_map_or (λ reached. is_in_one first second (reached - 1)) o false) lands.led
      ∙ are.ids.admits (lands.reached - 1) (omega (arith, some, within))
      ∙ ap (λ n. holds operator (Number (pos n)) literal) e
      ∙ sym (identified wanted operator literal lands.reached are.column_is lands.led)

  met_ranges : (wanted : Field) (test : Test) (first second : Group) → IsRangesTerm cat top wanted test first second
      → is_in_one first second (identifier - 1) ≡ holds_here (OneOf (tested wanted test) [])
  met_ranges wanted (Compared operator literal) first second is = of_ranges wanted operator literal first second is
  met_ranges wanted IsNull first second is = of_nothing wanted first second is
  met_ranges wanted IsNotNull first second is = absurd is

  met_identifiers : (wanted : Field) (test : Test) (index : IdIndex) (level : ℕ) (first second : Group) → IsIdentifiersTerm cat top wanted test index level first second
      → option_map_or (λ reached. is_in_one first second (reached - 1)) (leads cat.schema database top identifier wanted.table) false ≡ holds_here (OneOf (tested wanted test) [])
  met_identifiers wanted (Compared operator literal) index level first second is = of_identifiers wanted operator literal index level first second is
  met_identifiers wanted IsNull index level first second is = absurd is
  met_identifiers wanted IsNotNull index level first second is = absurd is

  met_test : (wanted : Field) (test : Test) (term : Term) → IsTermOfTest cat top wanted test term
      → meets cat.schema database given top identifier term ≡ holds_here (OneOf (tested wanted test) [])
  met_test wanted test (Ranges first second) is = met_ranges wanted test first second is
  met_test wanted test (Entries table column index level bounds) is =
      ap₂ (λ t c. option_map_or (lies_within bounds) (led_value cat.schema database top identifier (field t c)) false) is.0 is.1
      ∙ of_entries wanted test index level bounds is.2
  met_test wanted test (Identifiers table index level first second) is =
      ap (λ t. option_map_or (λ reached. is_in_one first second (reached - 1)) (leads cat.schema database top identifier t) false) is.0
      ∙ met_identifiers wanted test index level first second is.1
  met_test wanted test TopReply is = absurd is
  met_test wanted test (Reply table index level) is = absurd is

  met_reply : (table : ℕ) (term : Term) → IsReplyTermOf cat top table term
      → meets cat.schema database given top identifier term ≡ stands_along cat.schema database given top identifier table
  met_reply table TopReply is = ap (stands_along cat.schema database given top identifier) (sym is)
  met_reply table (Reply other index level) is = ap (stands_along cat.schema database given top identifier) is.0
  met_reply table (Ranges first second) is = absurd is
  met_reply table (Entries other column index level bounds) is = absurd is
  met_reply table (Identifiers other index level first second) is = absurd is

  each_met : (conditions : List Condition) → list_all (is_listed cat.schema top) conditions ≡ true → (tables : List ℕ) (terms : List GroupTerm)
      → AreTermsOf cat top (members_in conditions) tables terms
      → list_all (λ (one : GroupTerm). meets cat.schema database given top identifier one.term) terms
      ≡ (list_all holds_here conditions && list_all (stands_along cat.schema database given top identifier) tables)
  each_met [] listed [] [] are = refl
  each_met [] listed [] (term ∷ terms) are = absurd are
  each_met [] listed (table ∷ tables) [] are = absurd are
  each_met [] listed (table ∷ tables) (term ∷ terms) are = ap₂ (λ a b. a && b) (met_reply table term.term are.0.is) (each_met [] refl tables terms are.1)
  each_met (OneOf first [] ∷ conditions) listed tables [] are = absurd are
  each_met (OneOf first [] ∷ conditions) listed tables (term ∷ terms) are =
      ap₂ (λ a b. a && b) (met_test first.field first.test term.term are.0.is)
      (each_met conditions (both_true (is_listed cat.schema top (OneOf first [])) (list_all (is_listed cat.schema top) conditions) listed).1 tables terms are.1)
      ∙ grouped (holds_here (OneOf first [])) _ _
    where
      grouped : (a b c : Bool) → (a && (b && c)) ≡ ((a && b) && c)
      grouped true b c = refl
      grouped false b c = refl
  each_met (OneOf first (next ∷ others) ∷ conditions) listed tables terms are = absurd (cc (listed))
  each_met (Join one other ∷ conditions) listed tables terms are = absurd (cc (listed))

  pub all_met : (conditions : List Condition) (tables : List ℕ) (terms : List GroupTerm) → AreTermsOf cat top (listed_members cat.schema top conditions) tables terms
      → meets_all cat.schema database given top identifier terms
      ≡ (list_all (holds_or_asked_along cat.schema (known_along cat.schema database given top identifier)) (filter (is_listed cat.schema top) conditions)
      && list_all (stands_along cat.schema database given top identifier) tables)
  all_met conditions tables terms are =
      each_alone (λ (one : GroupTerm). meets cat.schema database given top identifier one.term) terms (lone_terms cat top conditions tables terms are)
      ∙ each_met (filter (is_listed cat.schema top) conditions) (all_listed cat.schema top conditions) tables terms are
