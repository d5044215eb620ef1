-- The lists of a term have exactly the rows that meet it.
use Rattle.std.proofs.Common.{◌≡◌, ◌∙◌, refl, ap, ap₂, sym, subst, ℕ, zero, suc, ◌+◌, ◌-◌, ◌<◌, ◌≤◌, inl, inr, Bool, true, false, List, [], ◌∷◌, length, filter, map, get_or, slice_get, slice_index, Contains, bytes_eq, Option, Some, None, option_and_then, if◌then◌else◌, arith}
use Rattle.std.specs.Prelude.{◌↔◌, ◌||◌, ◌==◌, is_some, filter_map}
use Rattle.std.specs.List.{cons_option}
use Rattle.std.specs.Option.{option_map, option_map_or}
use Rattle.std.proofs.lemmas.Bool.{eqb-true}
use Rattle.std.proofs.lemmas.Bool.Decides.{nat_tests}
use Rattle.std.specs.List.Sorted.{IsStrictlySortedBy}
use Rattle.std.specs.Cmp.Lexicographic.{slice_cmp}
use Rattle.std.specs.Ordering.{nat_cmp, ordering_reverse}
use Rattle.std.specs.declared.cmp.Ordering.{Ordering}
use Rattle.std.specs.declared.cmp.Ordering.TheVariants.{Less, Greater}
use Rattle.std.proofs.lemmas.Cmp.{nat_list_cmp_total}
use Rattle.std.proofs.lemmas.Map.Keys.{Less-from_sorted}
use Rattle.std.proofs.lemmas.Bool.{cases_lt}
use Rattle.ghost_base.specs.CellLaws.{CellOrderIsValueOrder}
use Rattle.std.proofs.lemmas.List.Elements.{Contains-get_or}
use Rattle.std.proofs.lemmas.Option.{slice_get_within}
use Rattle.std.proofs.lemmas.Slice.Eq.{bytes_eq-Decides}
use Rattle.ghost_model.specs.core.Schema as schema
use Rattle.ghost_model.specs.core.Schema.{Column, columns_of, column_at, is_nullable, is_table}
use Rattle.ghost_model.specs.core.Values.{Value, Row, Database}
use Rattle.ghost_model.specs.core.Channel.{Catalog}
use Rattle.ghost_model.specs.core.Database.{is_of_kind, rows_of, row_of, value_at_row, leads}
use Rattle.ghost_model.specs.core.Asks.{kind_at, kind_or_none}
use Rattle.ghost_model.specs.core.Query.{Test}
use Rattle.ghost_model.specs.core.Replies as replies
use Rattle.ghost_model.specs.core.Replies.{reply_about, row_replied}
use Rattle.ghost_model.specs.core.Split.{Hidden, hidden_of, RowValues}
use Rattle.ghost_model.specs.forms.Cells.{encode_cell}
use Rattle.ghost_model.specs.forms.Flash.{AreValues, hidden_cells, cell_led_to, leads_to, ids, value_lists, id_lists}
use Rattle.ghost_model.specs.forms.Layout.{is_hidden, count_of, levels_of, above_of}
use Rattle.ghost_model.specs.refusals.QueryMeaning.{field}
use Rattle.ghost_model.specs.laws.LayoutLaws.{LevelsAreAncestors}
use Rattle.ghost_model.specs.laws.MeaningLaws.{LeadsFollowKeys}
use Rattle.ghost_model.specs.laws.FlashLaws.{HiddenCellsOfDatabases, RowsLeadByHiddenValues}
use Rattle.ghost_model.proofs.MeaningLemmas.OneRow.{Among, child_is, either_true}
use Rattle.ghost_model.proofs.MeaningLemmas.Leading.{get_within, place_within, to_itself_within}
use Rattle.ghost_laws.specs.Scans.{led_value, stands_along, is_kept_row}
use Rattle.ghost_base.specs.Views.{kind_of}
use Rattle.ghost_base.specs.declared.kind.Kind.{Kind}
use Rattle.climbing_index.specs.declared.index.ClimbingIndex.{ClimbingIndex}
use Rattle.climbing_index.specs.declared.index.IdIndex.{IdIndex}
use Rattle.climbing_index.specs.declared.search.Group.{Group}
use Rattle.climbing_index.specs.Holding.{values_at, ids_at}
use Rattle.climbing_index.specs.Searches.{IsBetween, is_between}
use Rattle.flash_layout.specs.Ranges.{IsRowOf}
use Rattle.condition_lists.specs.declared.bounds.Between.{Between}
use Rattle.condition_lists.specs.declared.bounds.Bounds.{Bounds}
use Rattle.condition_lists.specs.declared.term.Term.TheVariants.{Ranges, Entries, Identifiers, TopReply, Reply}
use Rattle.condition_lists.specs.Bounds.{AreBoundsOf, AreOfKind, IsPairOfKind, IsSecondOfKind, first_of, lies_between, lies_in_second, lies_within, second_of}
use Rattle.condition_lists.specs.Terms.{IsIndexAt, IsIdIndexAt, IsBehind, is_in, is_in_one}
use Rattle.ghost_model.specs.forms.QueryWork.{values_of}
use Rattle.condition_lists.specs.Laws.{IsOver, BoundsAreOfValues, AreGroupsOf, IsSecondGroup, IsListed, IsListedOf, IsEntryOf, IsMet, AreReplied, replied_ids}
use Rattle.condition_lists.proofs.GroupLemmas.{in_group, to_group, agree, none_in, within_of}
use Rattle.condition_lists.proofs.MemberLemmas.{among_of, contains_of, kept_row, row_kept, mapped_at, mapped_get, mapped_ids, ids_many, mapped_many, indexed, indexed_above, got}
use Rattle.condition_lists.proofs.RowLemmas.{some_column, below_by, is_row, led}

-- ---- rows of a reply

differ : (n x : ℕ) → n ≡ x → (n == x) ≡ false → ⊥
differ n x same e = let is : (n == x) ≡ true = grind (arith, nat_tests) in let clash : true ≡ false = sym is ∙ e in cc

pub replied_some : (x : ℕ) (rows : List RowValues) → Among x (map (λ row. row.identifier) rows) → is_some (row_replied x rows) ≡ true
replied_some x [] among = absurd among
replied_some x (row ∷ rows) among =
    elim among [
      | inl same ↦ by (row.identifier == x) refl (λ e. absurd (differ row.identifier x same e))
      | inr later ↦ by (row.identifier == x) refl (λ e. replied_some x rows later)
    ]
  where
    by : (b : Bool) → (row.identifier == x) ≡ b → (b ≡ false → is_some (row_replied x rows) ≡ true) → is_some (if row.identifier == x then Some row else row_replied x rows) ≡ true
    by true e rest = ap (λ b. is_some (if b then Some row else row_replied x rows)) e
    by false e rest = ap (λ b. is_some (if b then Some row else row_replied x rows)) e ∙ rest refl

replied_among : (x : ℕ) (rows : List RowValues) → is_some (row_replied x rows) ≡ true → Among x (map (λ row. row.identifier) rows)
replied_among x [] e = absurd (cc (e))
replied_among x (row ∷ rows) e = by (row.identifier == x) refl (λ differs. replied_among x rows (sym (ap (λ b. is_some (if b then Some row else row_replied x rows)) differs) ∙ e))
  where
    by : (b : Bool) → (row.identifier == x) ≡ b → ((row.identifier == x) ≡ false → Among x (map (λ row. row.identifier) rows)) → Among x (map (λ row. row.identifier) (row ∷ rows))
    by true same rest = inl (eqb-true row.identifier x same)
    by false differs rest = inr (rest differs)

-- ---- ranges

in_one_within : (first second : Group) (rows : ℕ) → first.first + first.count ≤ rows → second.first + second.count ≤ rows → (entry : ℕ) → is_in_one first second entry ≡ true → entry < rows
in_one_within first second rows a b entry e =
    elim (either_true (is_in first entry) (is_in second entry) e) [
      | inl one ↦ within_of first rows a entry one
      | inr other ↦ within_of second rows b entry other
    ]

pub ranges : (cat : Catalog) (database : Database) (given : List replies.Reply) (top : ℕ) (first second : Group)
    → first.first + first.count ≤ count_of cat top → second.first + second.count ≤ count_of cat top
    → (identifier : ℕ) → IsEntryOf first second identifier ↔ IsMet cat database given top (Ranges first second) identifier
ranges cat database given top first second a b identifier = (to, from)
  where
    to : IsEntryOf first second identifier → IsMet cat database given top (Ranges first second) identifier
    to is =
        let e = is.is in
        let low = in_one_within first second (count_of cat top) a b is.entry is.among in
        let same : identifier - 1 ≡ is.entry = omega (arith, e) in
        record {
          row = record { some = omega (arith, e); within = omega (arith, e, low) };
          met = ap (is_in_one first second) same ∙ is.among;
        }

    from : IsMet cat database given top (Ranges first second) identifier → IsEntryOf first second identifier
    from is = let some = is.row.some in record { entry = identifier - 1; is = omega (arith, some); among = is.met }

-- ---- lists of identifiers

module _ (cat : Catalog) (database : Database) (over : IsOver cat database) (levels : LevelsAreAncestors) (keys : LeadsFollowKeys cat.schema database)
    (alike : RowsLeadByHiddenValues) (given : List replies.Reply) (top table : ℕ) where
  abbrev hidden : Hidden
  hidden = hidden_of cat.schema database

  abbrev leads_here : ℕ → Option ℕ
  leads_here identifier = leads cat.schema database top identifier table

  same_lead : (identifier : ℕ) → leads_to cat.schema hidden top identifier table ≡ leads_here identifier
  same_lead identifier = alike cat.schema database over.tree over.is top identifier table

  module _ (index : IdIndex) (level : ℕ) (at : IsIdIndexAt cat top table index level) where
    -- the list of an identifier of the table
    pub list_is : (entry : ℕ) → entry < count_of cat table
        → get_or (ids_at cat hidden table (level - 1)) entry [] ≡ filter (λ other. is_table (1 + entry) (leads_to cat.schema hidden top other table)) (ids (count_of cat top))
    list_is entry low =
        ap (λ from. get_or (id_lists cat hidden table from) entry []) (indexed_above (levels_of cat.schema table) level top at.above at.level_is)
        ∙ mapped_ids (λ identifier. filter (λ other. is_table identifier (leads_to cat.schema hidden top other table)) (ids (count_of cat top))) (count_of cat table) entry [] low

    pub many : length (ids_at cat hidden table (level - 1)) ≡ count_of cat table
    many =
        ids_many (λ identifier. filter (λ other. is_table identifier (leads_to cat.schema hidden (slice_index (above_of cat.schema table) (level - 1)) other table)) (ids (count_of cat (slice_index (above_of cat.schema table) (level - 1)))))
        (count_of cat table)

    -- a number in it is a row of the top table that leads to the identifier
    record IsLed (entry identifier : ℕ) : Type 0 where
      row : IsRowOf cat top identifier
      leads_is : leads_here identifier ≡ Some (1 + entry)

    in_list : (entry : ℕ) → entry < count_of cat table → (identifier : ℕ) → Contains (get_or (ids_at cat hidden table (level - 1)) entry []) identifier → IsLed entry identifier
    in_list entry low identifier held =
        let is = kept_row (λ other. is_table (1 + entry) (leads_to cat.schema hidden top other table)) (count_of cat top) identifier
        (subst (λ xs. Contains xs identifier) (list_is entry low) held) in
        record {
          row = record { some = is.some; within = is.within };
          leads_is = sym (same_lead identifier) ∙ child_is (1 + entry) (leads_to cat.schema hidden top identifier table) is.passes;
        }

    to_list : (entry : ℕ) → entry < count_of cat table → (identifier : ℕ) → IsLed entry identifier → Contains (get_or (ids_at cat hidden table (level - 1)) entry []) identifier
    to_list entry low identifier is =
        subst (λ xs. Contains xs identifier) (sym (list_is entry low))
        (row_kept (λ other. is_table (1 + entry) (leads_to cat.schema hidden top other table)) (count_of cat top) identifier
        (record {
          some = is.row.some;
          within = is.row.within;
          passes = ap (is_table (1 + entry)) (same_lead identifier ∙ is.leads_is) ∙ itself (1 + entry);
        }))
      where
        itself : (n : ℕ) → (n == n) ≡ true
        itself n = grind (arith, nat_tests)

    -- the row of the table to which a row of the top table leads
    record Reached (identifier : ℕ) : Type 0 where
      entry : ℕ
      low : entry < count_of cat table
      led_to : leads_here identifier ≡ Some (1 + entry)

    reach : (identifier : ℕ) → IsRowOf cat top identifier → Reached identifier
    reach identifier row =
        let lands = led cat database over keys top table identifier (below_by levels cat database over top table level at.there at.level_is) row in
        let is = is_row cat database over table lands.reached lands.row lands.stands in
        let some = is.some in
        let within = is.within in
        let e : lands.reached ≡ 1 + (lands.reached - 1) = omega (arith, some) in
        record { entry = lands.reached - 1; low = omega (arith, some, within); led_to = lands.led ∙ ap Some e }

    pub identifiers : (first second : Group) (identifier : ℕ) → first.first + first.count ≤ count_of cat table → second.first + second.count ≤ count_of cat table
        → IsListed (ids_at cat (hidden_of cat.schema database) table (level - 1)) first second identifier
        ↔ IsMet cat database given top (Identifiers table index level first second) identifier
    identifiers first second identifier a b = (to, from)
      where
        met_at : (entry : ℕ) → leads_here identifier ≡ Some (1 + entry)
            → option_map_or (λ reached. is_in_one first second (reached - 1)) (leads_here identifier) false ≡ is_in_one first second entry
        met_at entry e =
            let same : 1 + entry - 1 ≡ entry = omega arith in
            ap (λ o. option_map_or (λ reached. is_in_one first second (reached - 1)) o false) e ∙ ap (is_in_one first second) same

        to : IsListed (ids_at cat hidden table (level - 1)) first second identifier → IsMet cat database given top (Identifiers table index level first second) identifier
        to is =
            let within = is.within in
            let size = many in
            let one = in_list is.entry (omega (arith, within, size)) identifier is.listed in
            record { row = one.row; met = met_at is.entry one.leads_is ∙ is.among }

        from : IsMet cat database given top (Identifiers table index level first second) identifier → IsListed (ids_at cat hidden table (level - 1)) first second identifier
        from is =
            let r = reach identifier is.row in
            let low = r.low in
            let size = many in
            record {
              entry = r.entry;
              within = omega (arith, low, size);
              among = sym (met_at r.entry r.led_to) ∙ is.met;
              listed = to_list r.entry r.low identifier (record { row = is.row; leads_is = r.led_to });
            }

    pub reply : (one : replies.Reply) → AreReplied cat given table one → (identifier : ℕ)
        → IsListedOf (ids_at cat (hidden_of cat.schema database) table (level - 1)) (replied_ids one) identifier
        ↔ IsMet cat database given top (Reply table index level) identifier
    reply one are identifier = (to, from)
      where
        stands_at : (reached : ℕ) → leads_here identifier ≡ Some reached → stands_along cat.schema database given top identifier table ≡ is_some (row_replied reached one.rows)
        stands_at reached e = ap₂ is_kept_row e are.about

        to : IsListedOf (ids_at cat hidden table (level - 1)) (replied_ids one) identifier → IsMet cat database given top (Reply table index level) identifier
        to is =
            let row = are.rows is.other is.among in
            let some = row.some in
            let within = row.within in
            let same : 1 + (is.other - 1) ≡ is.other = omega (arith, some) in
            let held = in_list (is.other - 1) (omega (arith, some, within)) identifier is.listed in
            record {
              row = held.row;
              met = stands_at is.other (held.leads_is ∙ ap Some same) ∙ replied_some is.other one.rows (among_of (replied_ids one) is.other is.among);
            }

        from : IsMet cat database given top (Reply table index level) identifier → IsListedOf (ids_at cat hidden table (level - 1)) (replied_ids one) identifier
        from is =
            let r = reach identifier is.row in
            let same : 1 + r.entry - 1 ≡ r.entry = omega arith in
            record {
              other = 1 + r.entry;
              among = contains_of (replied_ids one) (1 + r.entry) (replied_among (1 + r.entry) one.rows (sym (stands_at (1 + r.entry) r.led_to) ∙ is.met));
              listed = subst (λ n. Contains (get_or (ids_at cat hidden table (level - 1)) n []) identifier) (sym same) (to_list r.entry r.low identifier (record { row = is.row; leads_is = r.led_to }));
            }

pub top_reply : (cat : Catalog) (database : Database) (given : List replies.Reply) (top : ℕ) (one : replies.Reply) → AreReplied cat given top one
    → (identifier : ℕ) → Contains (replied_ids one) identifier ↔ IsMet cat database given top TopReply identifier
top_reply cat database given top one are identifier = (to, from)
  where
    stands : stands_along cat.schema database given top identifier top ≡ is_some (row_replied identifier one.rows)
    stands = ap₂ is_kept_row (to_itself_within cat.schema database cat.schema top identifier top refl) are.about

    to : Contains (replied_ids one) identifier → IsMet cat database given top TopReply identifier
    to held = record { row = are.rows identifier held; met = stands ∙ replied_some identifier one.rows (among_of (replied_ids one) identifier held) }

    from : IsMet cat database given top TopReply identifier → Contains (replied_ids one) identifier
    from is = contains_of (replied_ids one) identifier (replied_among identifier one.rows (sym stands ∙ is.met))

-- ---- entries of values

-- the value of a row is one of the column's
pub in_column : (column : ℕ) (rows : List Row) (place : ℕ) (row : Row) (value : Value) → slice_get rows place ≡ Some row → slice_get row column ≡ Some value
    → Among value (filter_map (λ r. slice_get r column) rows)
in_column column [] place row value there e = absurd (cc (there))
in_column column (first ∷ rows) zero row value there e = by (slice_get first column) (ap (λ r. slice_get r column) (same there) ∙ e)
  where
    same : Some first ≡ Some row → first ≡ row
    same h = cc

    by : (o : Option Value) → o ≡ Some value → Among value (cons_option o (filter_map (λ r. slice_get r column) rows))
    by None is = absurd (cc (is))
    by (Some v) is = inl (let it : v ≡ value = cc in it)
in_column column (first ∷ rows) (suc place) row value there e = by (slice_get first column) (in_column column rows place row value there e)
  where
    by : (o : Option Value) → Among value (filter_map (λ r. slice_get r column) rows) → Among value (cons_option o (filter_map (λ r. slice_get r column) rows))
    by None a = a
    by (Some v) a = inr a

-- a cell of a hidden column spells a value of the column's kind
record IsSpelled (cat : Catalog) (database : Database) (table column place : ℕ) (row : Row) : Type 0 where
  value : Value
  at : slice_get row column ≡ Some value
  kind : is_of_kind (kind_at cat.schema table column) value ≡ true
  cell : get_or (hidden_cells cat.schema (hidden_of cat.schema database) table column) place [] ≡ encode_cell (kind_at cat.schema table column) value

-- of values that ascend, a lower one stands before a higher one
ascends : (values : List (List ℕ)) → IsStrictlySortedBy (slice_cmp nat_cmp) values → (entry later : ℕ) → entry < length values
    → slice_cmp nat_cmp (get_or values entry []) (get_or values later []) ≡ Less → entry < later
ascends values sorted entry later low less =
    elim (cases_lt entry later) [
      | inl under ↦ under
      | inr over ↦ (elim (cases_lt later entry) [
        | inl past ↦ (
            let back = Less-from_sorted (slice_cmp nat_cmp) values later entry [] sorted past low in
            absurd (not_both (nat_list_cmp_total.antisymm (get_or values entry []) (get_or values later []) ∙ ap ordering_reverse back) less))
        | inr same ↦ (
            let it : later ≡ entry = omega (arith, over, same) in
            let self = ap (λ n. slice_cmp nat_cmp (get_or values entry []) (get_or values n [])) (sym it) ∙ less in
            absurd (not_both (nat_list_cmp_total.antisymm (get_or values entry []) (get_or values entry []) ∙ ap ordering_reverse self) self))
      ])
    ]
  where
    not_both : {at : Ordering} → at ≡ Greater → at ≡ Less → ⊥
    not_both g l = cc

module _ (cat : Catalog) (database : Database) (over : IsOver cat database) (cells_are : HiddenCellsOfDatabases) (table column : ℕ)
    (h : is_hidden cat.schema table column ≡ true) where
  abbrev cells : List (List ℕ)
  cells = hidden_cells cat.schema (hidden_of cat.schema database) table column

  abbrev kind : schema.Kind
  kind = kind_at cat.schema table column

  abbrev cell_in : Row → List ℕ
  cell_in row = option_map_or (encode_cell kind) (slice_get row column) []

  are_cells : cells ≡ map cell_in (rows_of database table)
  are_cells = cells_are cat.schema database over.tree over.is table column h

  spelled : (place : ℕ) (row : Row) → slice_get (rows_of database table) place ≡ Some row → IsSpelled cat database table column place row
  spelled place row there =
      let held = some_column (column_at cat.schema table column) h in
      let near = slice_get_within (columns_of cat.schema table) column held.0 held.1 in
      let wide = over.is.widths table (suc place) row there in
      let found = get_within row column (omega (arith, near, wide)) in
      let value_is : value_at_row database table (suc place) column ≡ Some found.0 = ap (option_and_then (λ r. slice_get r column)) there ∙ found.1 in
      record {
        value = found.0;
        at = found.1;
        kind = ap (λ o. is_of_kind (kind_or_none o) found.0) held.1 ∙ over.is.kinds table (suc place) column found.0 held.0 value_is held.1;
        cell = ap (λ cs. get_or cs place []) are_cells ∙ mapped_at cell_in (rows_of database table) place row [] there
            ∙ ap (λ o. option_map_or (encode_cell kind) o []) found.1;
      }

  as_many : length cells ≡ length (rows_of database table)
  as_many = ap length are_cells ∙ mapped_many cell_in (rows_of database table)

  -- what lies between bounds
  module _ (bounds_are : BoundsAreOfValues) (o : Option Kind) (kind_is : option_map kind_of o ≡ Some kind) where
    of_pair : (pair : Between) → IsPairOfKind o pair → (value : Value) → is_of_kind kind value ≡ true
        → is_between o pair.low pair.high (encode_cell kind value) ≡ lies_between pair value
    of_pair pair are value fits = by o kind_is are
      where
        by : (o : Option Kind) → option_map kind_of o ≡ Some kind → IsPairOfKind o pair → is_between o pair.low pair.high (encode_cell kind value) ≡ lies_between pair value
        by None e are = absurd (cc (e))
        by (Some one) e are =
            let same : kind_of one ≡ kind = cc in
            ap (λ k. is_between (Some one) pair.low pair.high (encode_cell k value)) (sym same)
            ∙ bounds_are.cells one pair are value (ap (λ k. is_of_kind k value) same ∙ fits)

    module _ (bounds : Bounds) (of_kind : AreOfKind o bounds) (values : List (List ℕ)) (first second : Group) (groups : AreGroupsOf o bounds values first second)
        (entry : ℕ) (low : entry < length values) (value : Value) (fits : is_of_kind kind value ≡ true) (cell : get_or values entry [] ≡ encode_cell kind value) where
      in_by : (pair : Between) (group : Group) → IsPairOfKind o pair → IsBetween o pair.low pair.high values group → is_in group entry ≡ lies_between pair value
      in_by pair group are is =
          agree (is_in group entry) (is_between o pair.low pair.high (get_or values entry [])) (λ e. is.found entry (in_group group entry e)) (λ e. to_group group entry (is.all entry low e))
          ∙ ap (is_between o pair.low pair.high) cell
          ∙ of_pair pair are value fits

      in_first : is_in first entry ≡ lies_between (first_of bounds) value
      in_first = in_by (first_of bounds) first of_kind.first groups.first_is

      in_second : is_in second entry ≡ lies_in_second (second_of bounds) value
      in_second = by (second_of bounds) of_kind.second groups.second_is
        where
          by : (pair : Option Between) → IsSecondOfKind o pair → IsSecondGroup o pair values second → is_in second entry ≡ lies_in_second pair value
          by None are none = none_in second none entry
          by (Some pair) are is = in_by pair second are is

      pub in_one : is_in_one first second entry ≡ lies_within bounds value
      in_one = ap₂ (λ a b. a || b) in_first in_second

  -- the value of an entry
  pub record IsValued (values : List (List ℕ)) (entry : ℕ) : Type 0 where
    pub value : Value
    pub fits : is_of_kind kind value ≡ true
    pub cell : get_or values entry [] ≡ encode_cell kind value
    pub among : Among value (values_of database (field table column))

  pub its_value : (values : List (List ℕ)) → AreValues cells values → (entry : ℕ) → entry < length values → IsValued values entry
  its_value values values_are entry low =
      let held = values_are.only (get_or values entry []) (Contains-get_or values entry [] low) in
      let near = held.1 in
      let size = as_many in
      let row = get_within (rows_of database table) held.0 (omega (arith, near, size)) in
      let is = spelled held.0 row.0 row.1 in
      record {
        value = is.value;
        fits = is.kind;
        cell = sym (got cells held.0 [] (get_or values entry []) near ∙ held.2) ∙ is.cell;
        among = in_column column (rows_of database table) held.0 row.0 is.value row.1 is.at;
      }

  -- the row of the table to which a row of the top table leads
  record HasCell (top identifier : ℕ) : Type 0 where
    value : Value
    value_is : led_value cat.schema database top identifier (field table column) ≡ Some value
    fits : is_of_kind kind value ≡ true
    cell : cell_led_to cat.schema (hidden_of cat.schema database) table column top identifier ≡ encode_cell kind value
    among : Contains cells (cell_led_to cat.schema (hidden_of cat.schema database) table column top identifier)

  module _ (levels : LevelsAreAncestors) (keys : LeadsFollowKeys cat.schema database) (alike : RowsLeadByHiddenValues) (top : ℕ) (index : ClimbingIndex) (level : ℕ)
      (at : IsIndexAt cat top table column index level) where
    cell_of : (identifier : ℕ) → IsRowOf cat top identifier → HasCell top identifier
    cell_of identifier row =
        let lands = led cat database over keys top table identifier (below_by levels cat database over top table level at.there at.level_is) row in
        by lands.reached lands.row lands.led lands.stands
      where
        by : (reached : ℕ) (r : Row) → leads cat.schema database top identifier table ≡ Some reached → row_of database table reached ≡ Some r → HasCell top identifier
        by zero r leads_is stands = absurd (cc (stands))
        by (suc place) r leads_is stands =
            let is = spelled place r stands in
            let same : suc place - 1 ≡ place = omega arith in
            let cell : cell_led_to cat.schema (hidden_of cat.schema database) table column top identifier ≡ get_or cells place [] =
            ap (λ o. option_map_or (λ n. get_or cells (n - 1) []) o []) (alike cat.schema database over.tree over.is top identifier table ∙ leads_is)
            ∙ ap (λ n. get_or cells n []) same in
            let size = as_many in
            let near = place_within (rows_of database table) place r stands in
            record {
              value = is.value;
              value_is = ap (option_and_then (λ reached. value_at_row database table reached column)) leads_is
                  ∙ ap (option_and_then (λ r. slice_get r column)) stands ∙ is.at;
              fits = is.kind;
              cell = cell ∙ is.cell;
              among = subst (Contains cells) (sym cell) (Contains-get_or cells place [] (omega (arith, size, near)));
            }

    -- the list of an entry
    module _ (values : List (List ℕ)) where
      pub value_list_is : (entry : ℕ) → entry < length values
          → get_or (values_at cat (hidden_of cat.schema database) table column values level) entry []
          ≡ filter (λ identifier. bytes_eq (cell_led_to cat.schema (hidden_of cat.schema database) table column top identifier) (get_or values entry [])) (ids (count_of cat top))
      value_list_is entry low =
          ap (λ from. get_or (value_lists cat (hidden_of cat.schema database) table column values from) entry []) (indexed (levels_of cat.schema table) level top at.level_is)
          ∙ mapped_get (λ value. filter (λ identifier. bytes_eq (cell_led_to cat.schema (hidden_of cat.schema database) table column top identifier) value) (ids (count_of cat top))) values entry [] [] low

      pub value_lists_many : length (values_at cat (hidden_of cat.schema database) table column values level) ≡ length values
      value_lists_many = mapped_many _ values

      pub entries : BoundsAreOfValues → (given : List replies.Reply) (bounds : Bounds) → AreOfKind index.directory.kind bounds
          → AreValues (hidden_cells cat.schema (hidden_of cat.schema database) table column) values
          → (first second : Group) → AreGroupsOf index.directory.kind bounds values first second → (identifier : ℕ)
          → IsListed (values_at cat (hidden_of cat.schema database) table column values level) first second identifier
          ↔ IsMet cat database given top (Entries table column index level bounds) identifier
      entries bounds_are given bounds of_kind are first second groups identifier = (to, from)
        where
          to : IsListed (values_at cat (hidden_of cat.schema database) table column values level) first second identifier
              → IsMet cat database given top (Entries table column index level bounds) identifier
          to is =
              let within = is.within in
              let size = value_lists_many in
              let low : is.entry < length values = omega (arith, within, size) in
              let kept = kept_row _ (count_of cat top) identifier (subst (λ xs. Contains xs identifier) (value_list_is is.entry low) is.listed) in
              let row : IsRowOf cat top identifier = record { some = kept.some; within = kept.within } in
              let has = cell_of identifier row in
              let same = (bytes_eq-Decides (cell_led_to cat.schema (hidden_of cat.schema database) table column top identifier) (get_or values is.entry [])).0 kept.passes in
              record {
                row = row;
                met = ap (λ o. option_map_or (lies_within bounds) o false) has.value_is
                    ∙ sym (in_one bounds_are index.directory.kind at.index_is.kind_is bounds of_kind values first second groups is.entry low has.value has.fits (sym same ∙ has.cell))
                    ∙ is.among;
              }

          from : IsMet cat database given top (Entries table column index level bounds) identifier
              → IsListed (values_at cat (hidden_of cat.schema database) table column values level) first second identifier
          from is =
              let has = cell_of identifier is.row in
              let key = cell_led_to cat.schema (hidden_of cat.schema database) table column top identifier in
              let found = are.all key has.among in
              let low = found.1 in
              let size = value_lists_many in
              let same : get_or values found.0 [] ≡ key = got values found.0 [] key low ∙ found.2 in
              record {
                entry = found.0;
                within = omega (arith, low, size);
                among = in_one bounds_are index.directory.kind at.index_is.kind_is bounds of_kind values first second groups found.0 low has.value has.fits (same ∙ has.cell)
                    ∙ sym (ap (λ o. option_map_or (lies_within bounds) o false) has.value_is)
                    ∙ is.met;
                listed = subst (λ xs. Contains xs identifier) (sym (value_list_is found.0 low))
                    (row_kept _ (count_of cat top) identifier
                    (record { some = is.row.some; within = is.row.within; passes = (bytes_eq-Decides key (get_or values found.0 [])).1 (sym same) }));
              }

  pub ascend : BoundsAreOfValues → CellOrderIsValueOrder → (o : Option Kind) → option_map kind_of o ≡ Some (kind_at cat.schema table column)
      → (test : Test) (bounds : Bounds) → AreBoundsOf (is_nullable (kind_at cat.schema table column)) test bounds → AreOfKind o bounds
      → (values : List (List ℕ)) → AreValues (hidden_cells cat.schema (hidden_of cat.schema database) table column) values
      → (first second : Group) → AreGroupsOf o bounds values first second → second.first + second.count ≤ length values → IsBehind first second
  ascend bounds_are ordered o kind_is test bounds are of_kind values values_are first second groups within some more =
      let last = first.first + first.count - 1 in
      let ends : is_in first last ≡ true = to_group first last (omega (arith, some), omega (arith, some)) in
      let begins : is_in second second.first ≡ true = to_group second second.first (omega arith, omega (arith, more)) in
      let low = within_of first (length values) groups.first_is.within last ends in
      let high = within_of second (length values) within second.first begins in
      let one = its_value values values_are last low in
      let other = its_value values values_are second.first high in
      let less = ordered kind one.value other.value one.fits other.fits
      ∙ are.ascend one.value other.value
      (sym (in_first bounds_are o kind_is bounds of_kind values first second groups last low one.value one.fits one.cell) ∙ ends)
      (sym (in_second bounds_are o kind_is bounds of_kind values first second groups second.first high other.value other.fits other.cell) ∙ begins) in
      let up = ascends values values_are.ascending last second.first low (ap₂ (slice_cmp nat_cmp) one.cell other.cell ∙ less) in
      omega (arith, some, up)
