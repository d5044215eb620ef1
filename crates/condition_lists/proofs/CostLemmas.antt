-- The lists of a term are as many as its cost counts, with as many identifiers.
use Rattle.std.proofs.Common.{◌≡◌, ◌∙◌, refl, ap, sym, subst, ℕ, ◌+◌, ◌-◌, ◌<◌, ◌≤◌, inl, inr, Bool, true, false, List, [], ◌++◌, length, filter, map, get_or, Contains, bytes_eq, Option, Some, None, length-append, arith}
use Rattle.std.specs.Prelude.{◌||◌}
use Rattle.std.specs.Option.{option_map_or}
use Rattle.std.specs.List.{concat, range_with_len}
use Rattle.std.specs.List.Sorted.{IsStrictlySortedBy}
use Rattle.std.specs.Cmp.Lexicographic.{slice_cmp}
use Rattle.std.specs.Ordering.{nat_cmp, ordering_reverse}
use Rattle.std.specs.declared.cmp.Ordering.{Ordering}
use Rattle.std.specs.declared.cmp.Ordering.TheVariants.{Less}
use Rattle.std.proofs.lemmas.Bool.{cases_lt}
use Rattle.std.proofs.lemmas.Cmp.{nat_list_cmp_total, nat_list_eq_equiv}
use Rattle.std.proofs.lemmas.List.{map-append}
use Rattle.std.proofs.lemmas.List.FromFn.{length-range_with_len}
use Rattle.std.proofs.lemmas.Map.Keys.{Less-from_sorted}
use Rattle.std.proofs.lemmas.Slice.Eq.{bytes_eq-Decides}
use Rattle.ghost_model.specs.core.Schema.{Kind, is_table}
use Rattle.ghost_model.specs.core.Values.{Value, Database}
use Rattle.ghost_model.specs.core.Channel.{Catalog}
use Rattle.ghost_model.specs.core.Asks.{kind_at}
use Rattle.ghost_model.specs.core.Query.{Operator}
use Rattle.ghost_model.specs.core.Replies as replies
use Rattle.ghost_model.specs.core.Split.{hidden_of}
use Rattle.ghost_model.specs.forms.Cells.{encode_cell}
use Rattle.ghost_model.specs.forms.Flash.{AreValues, hidden_cells, cell_led_to, leads_to, ids}
use Rattle.ghost_model.specs.forms.Layout.{is_hidden, count_of}
use Rattle.ghost_model.specs.laws.FlashLaws.{HiddenCellsOfDatabases, RowsLeadByHiddenValues}
use Rattle.ghost_model.specs.laws.LayoutLaws.{LevelsAreAncestors}
use Rattle.ghost_model.specs.laws.MeaningLaws.{LeadsFollowKeys}
use Rattle.ghost_model.specs.refusals.QueryMeaning.{field}
use Rattle.ghost_model.proofs.MeaningLemmas.OneRow.{Among, among-filter, child_is, from_append, from_map}
use Rattle.climbing_index.specs.declared.index.ClimbingIndex.{ClimbingIndex}
use Rattle.climbing_index.specs.declared.index.IdIndex.{IdIndex}
use Rattle.climbing_index.specs.declared.search.Group.{Group}
use Rattle.climbing_index.specs.Holding.{values_at, ids_at}
use Rattle.flash_layout.specs.Ranges.{IsRowOf}
use Rattle.condition_lists.specs.declared.bounds.Between.{Between}
use Rattle.condition_lists.specs.declared.bounds.Bounds.{Bounds}
use Rattle.condition_lists.specs.declared.term.Term.TheVariants.{Entries, Identifiers, Reply}
use Rattle.condition_lists.specs.Bounds.{AreOfKind, lies_within, second_of}
use Rattle.condition_lists.specs.Terms.{AreIdsOf, IsIndexAt, IsIdIndexAt, IsBehind, is_in, is_in_one, meets}
use Rattle.condition_lists.specs.Laws.{IsOver, BoundsAreOfValues, AreGroupsOf, IsSecondGroup, AreReplied, ListsAreOfTerms, lists_in, replied_ids}
use Rattle.ghost_model.specs.forms.QueryWork.{values_of, count_values}
use Rattle.condition_lists.specs.Costs.{rows_meeting, values_within, replied_count}
use Rattle.condition_lists.specs.CostLaws.{AreWithin, AreAscending}
use Rattle.condition_lists.proofs.CountLemmas.{in_range, ranges_once, distinct_by_place, ascending_once, map_once, lists_within, counted}
use Rattle.condition_lists.proofs.GroupLemmas.{to_group}
use Rattle.condition_lists.proofs.ListLemmas.{list_is, many, its_value, value_list_is, value_lists_many, in_one}
use Rattle.condition_lists.proofs.MemberLemmas.{contains_of, got, mapped_many}

-- ---- the entries of two groups

abbrev pub entries_in : (first second : Group) → List ℕ
entries_in first second = range_with_len first.first first.count ++ range_with_len second.first second.count

or_true : (b : Bool) → (b || true) ≡ true
or_true true = refl
or_true false = refl

pub in_groups : (first second : Group) (entry : ℕ) → Among entry (entries_in first second) → is_in_one first second entry ≡ true
in_groups first second entry among =
    elim (from_append entry (range_with_len first.first first.count) (range_with_len second.first second.count) among) [
      | inl one ↦ ap (λ b. b || is_in second entry) (to_group first entry (in_range entry first.first first.count one))
      | inr other ↦ (ap (λ b. is_in first entry || b) (to_group second entry (in_range entry second.first second.count other)) ∙ or_true (is_in first entry))
    ]

pub ends_within : (first second : Group) (most entry : ℕ) → first.first + first.count ≤ most → (0 < second.count → second.first + second.count ≤ most)
    → Among entry (entries_in first second) → entry < most
ends_within first second most entry a b among =
    elim (from_append entry (range_with_len first.first first.count) (range_with_len second.first second.count) among) [
      | inl one ↦ (let high = (in_range entry first.first first.count one).1 in omega (arith, a, high))
      | inr other ↦ (
          let low = (in_range entry second.first second.count other).0 in
          let high = (in_range entry second.first second.count other).1 in
          let end = b (omega (arith, low, high)) in
          omega (arith, end, high))
    ]

pub both_many : (first second : Group) → length (entries_in first second) ≡ first.count + second.count
both_many first second =
    let a = length-append (range_with_len first.first first.count) (range_with_len second.first second.count) in
    let b = length-range_with_len first.first first.count in
    let c = length-range_with_len second.first second.count in
    omega (arith, a, b, c)

-- the lists of two groups are those of their entries
abbrev list_at : (lists : List (List ℕ)) → (entry : ℕ) → List ℕ
list_at lists entry = get_or lists entry []

both_are : (lists : List (List ℕ)) (first second : Group) → lists_in lists first ++ lists_in lists second ≡ map (list_at lists) (entries_in first second)
both_are lists first second = sym (map-append (list_at lists) (range_with_len first.first first.count) (range_with_len second.first second.count))

lists_many : (lists : List (List ℕ)) (first second : Group) → length (lists_in lists first ++ lists_in lists second) ≡ first.count + second.count
lists_many lists first second = ap length (both_are lists first second) ∙ mapped_many (list_at lists) (entries_in first second) ∙ both_many first second

pub row_among : (cat : Catalog) (table x : ℕ) → Among x (ids (count_of cat table)) → IsRowOf cat table x
row_among cat table x among =
    let is = in_range x 1 (count_of cat table) among in
    let low = is.0 in
    let high = is.1 in
    record { some = low; within = omega (arith, high) }

-- ---- identifiers and replies

module _ (cat : Catalog) (database : Database) (over : IsOver cat database) (levels : LevelsAreAncestors) (keys : LeadsFollowKeys cat.schema database)
    (alike : RowsLeadByHiddenValues) (given : List replies.Reply) (top table : ℕ) (laws : ListsAreOfTerms) (index : IdIndex) (level : ℕ) (at : IsIdIndexAt cat top table index level) where
  abbrev lists : List (List ℕ)
  lists = ids_at cat (hidden_of cat.schema database) table (level - 1)

  abbrev tells : (entry x : ℕ) → Bool
  tells entry x = is_table (1 + entry) (leads_to cat.schema (hidden_of cat.schema database) top x table)

  lists_size : length lists ≡ count_of cat table
  lists_size = many cat database over levels keys alike given top table index level at

  its_list : (entry : ℕ) → entry < count_of cat table → get_or lists entry [] ≡ filter (tells entry) (ids (count_of cat top))
  its_list entry low = list_is cat database over levels keys alike given top table index level at entry low

  one_entry : (x entry other : ℕ) → tells entry x ≡ true → tells other x ≡ true → other ≡ entry
  one_entry x entry other a b =
      let one = child_is (1 + entry) (leads_to cat.schema (hidden_of cat.schema database) top x table) a in
      let two = child_is (1 + other) (leads_to cat.schema (hidden_of cat.schema database) top x table) b in
      let same : 1 + entry ≡ 1 + other = some_is (sym one ∙ two) in
      omega (arith, same)
    where
      some_is : {m n : ℕ} → Some m ≡ Some n → m ≡ n
      some_is h = cc

  listed : (entry x : ℕ) → entry < count_of cat table → Among x (ids (count_of cat top)) → tells entry x ≡ true → Contains (get_or lists entry []) x
  listed entry x low among e =
      subst (λ xs. Contains xs x) (sym (its_list entry low))
      (contains_of (filter (tells entry) (ids (count_of cat top))) x (among-filter (tells entry) x (ids (count_of cat top)) among e))

  pub identifiers_within : (operator : Operator) (literal : Value) (first second : Group) → AreIdsOf (count_of cat table) operator literal first second
      → AreWithin (lists_in (ids_at cat (hidden_of cat.schema database) table (level - 1)) first ++ lists_in (ids_at cat (hidden_of cat.schema database) table (level - 1)) second)
      (first.count + second.count) (rows_meeting cat database given top (Identifiers table index level first second))
  identifiers_within operator literal first second are = record {
    few = (let size = lists_many lists first second in omega (arith, size));
    short = subst (λ xs. length (concat xs) ≤ rows_meeting cat database given top (Identifiers table index level first second)) (sym (both_are lists first second))
        (lists_within (list_at lists) tells (λ identifier. meets cat.schema database given top identifier (Identifiers table index level first second))
        (entries_in first second) (ids (count_of cat top))
        (ranges_once first.first first.count second.first second.count are.behind)
        (λ entry i. its_list entry (low entry i))
        (λ x entry other a i j. one_entry x entry other)
        (λ x entry a i e. ((laws.identifiers cat database over given top table index level first second at are.first_within are.second_within x).0
        (record {
          entry = entry;
          within = (let small = low entry i in let size = lists_size in omega (arith, small, size));
          among = in_groups first second entry i;
          listed = listed entry x (low entry i) a e;
        })).met));
  }
    where
      low : (entry : ℕ) → Among entry (entries_in first second) → entry < count_of cat table
      low entry = ends_within first second (count_of cat table) entry are.first_within (λ _. are.second_within)

  pub reply_within : (reply : replies.Reply) → AreReplied cat given table reply → AreAscending (replied_ids reply)
      → AreWithin (map (λ other. get_or (ids_at cat (hidden_of cat.schema database) table (level - 1)) (other - 1) []) (replied_ids reply))
      (replied_count given table) (rows_meeting cat database given top (Reply table index level))
  reply_within reply are up = record {
    few =
        (let size = mapped_many (λ other. get_or lists (other - 1) []) (replied_ids reply) in
        let rows = mapped_many (λ row. row.identifier) reply.rows in
        let count = ap (λ o. option_map_or (λ one. length one.rows) o 0) are.about in
        omega (arith, size, rows, count));
    short =
        lists_within (λ other. get_or lists (other - 1) []) (λ other. tells (other - 1)) (λ identifier. meets cat.schema database given top identifier (Reply table index level))
        (replied_ids reply) (ids (count_of cat top))
        (ascending_once (replied_ids reply) up)
        (λ other i. its_list (other - 1) (low other i))
        (λ x one other a i j e f. same x one other i j e f)
        (λ x other a i e. ((laws.reply cat database over given top table index level reply at are x).0
        (record { other = other; among = contains_of (replied_ids reply) other i; listed = listed (other - 1) x (low other i) a e })).met);
  }
    where
      row : (other : ℕ) → Among other (replied_ids reply) → IsRowOf cat table other
      row other i = are.rows other (contains_of (replied_ids reply) other i)

      low : (other : ℕ) → Among other (replied_ids reply) → other - 1 < count_of cat table
      low other i = let some = (row other i).some in let within = (row other i).within in omega (arith, some, within)

      same : (x one other : ℕ) → Among one (replied_ids reply) → Among other (replied_ids reply) → tells (one - 1) x ≡ true → tells (other - 1) x ≡ true → other ≡ one
      same x one other i j e f =
          let is = one_entry x (one - 1) (other - 1) e f in
          let a = (row one i).some in
          let b = (row other j).some in
          omega (arith, is, a, b)

pub top_reply_counted : (cat : Catalog) (given : List replies.Reply) (top : ℕ) (reply : replies.Reply) → AreReplied cat given top reply
    → length (replied_ids reply) ≡ replied_count given top
top_reply_counted cat given top reply are =
    mapped_many (λ row. row.identifier) reply.rows ∙ sym (ap (λ o. option_map_or (λ one. length one.rows) o 0) are.about)

-- ---- entries of values

same_cells : (a b : List ℕ) → bytes_eq a b ≡ true → a ≡ b
same_cells a b e = (bytes_eq-Decides a b).0 e

-- values that ascend differ
differ : (values : List (List ℕ)) → IsStrictlySortedBy (slice_cmp nat_cmp) values → (i j : ℕ) → i < j → j < length values → get_or values i [] ≡ get_or values j [] → ⊥
differ values sorted i j before within same =
    let less = Less-from_sorted (slice_cmp nat_cmp) values i j [] sorted before within in
    let self : slice_cmp nat_cmp (get_or values i []) (get_or values i []) ≡ Less = ap (slice_cmp nat_cmp (get_or values i [])) same ∙ less in
    let back = nat_list_cmp_total.antisymm (get_or values i []) (get_or values i []) in
    clash (slice_cmp nat_cmp (get_or values i []) (get_or values i [])) self back
  where
    clash : (o : Ordering) → o ≡ Less → o ≡ ordering_reverse o → ⊥
    clash o less back = let turned : Less ≡ ordering_reverse Less = sym less ∙ back ∙ ap ordering_reverse less in cc

one_place : (values : List (List ℕ)) → IsStrictlySortedBy (slice_cmp nat_cmp) values → (i j : ℕ) → i < length values → j < length values → get_or values j [] ≡ get_or values i [] → j ≡ i
one_place values sorted i j a b same =
    elim (cases_lt i j) [
      | inl less ↦ absurd (differ values sorted i j less b (sym same))
      | inr most ↦ (elim (cases_lt j i) [
        | inl less ↦ absurd (differ values sorted j i less a same)
        | inr least ↦ omega (arith, most, least)
      ])
    ]

module _ (cat : Catalog) (database : Database) (over : IsOver cat database) (cells_are : HiddenCellsOfDatabases) (table column : ℕ)
    (h : is_hidden cat.schema table column ≡ true) (values : List (List ℕ))
    (are : AreValues (hidden_cells cat.schema (hidden_of cat.schema database) table column) values) where
  abbrev kind_here : Kind
  kind_here = kind_at cat.schema table column

  pub values_within_column : length values ≤ count_values (values_of database (field table column))
  values_within_column =
      counted bytes_eq nat_list_eq_equiv same_cells (encode_cell kind_here) values (values_of database (field table column))
      (distinct_by_place [] values (differ values are.ascending))
      (λ k among.
      let held = contains_of values k among in
      let is = its_value cat database over cells_are table column h values are held.0 held.1 in
      (is.value, is.among, sym held.2 ∙ sym (got values held.0 [] k held.1) ∙ is.cell))

  module _ (levels : LevelsAreAncestors) (keys : LeadsFollowKeys cat.schema database) (alike : RowsLeadByHiddenValues) (given : List replies.Reply) (top : ℕ) (laws : ListsAreOfTerms)
      (bounds_are : BoundsAreOfValues) (index : ClimbingIndex) (level : ℕ) (at : IsIndexAt cat top table column index level) (bounds : Bounds) (of_kind : AreOfKind index.directory.kind bounds)
      (first second : Group) (groups : AreGroupsOf index.directory.kind bounds values first second) (behind : IsBehind first second) where
    abbrev value_lists_here : List (List ℕ)
    value_lists_here = values_at cat (hidden_of cat.schema database) table column values level

    abbrev has_cell : (entry x : ℕ) → Bool
    has_cell entry x = bytes_eq (cell_led_to cat.schema (hidden_of cat.schema database) table column top x) (get_or values entry [])

    low_entry : (entry : ℕ) → Among entry (entries_in first second) → entry < length values
    low_entry entry = ends_within first second (length values) entry groups.first_is.within (second_within (second_of bounds) groups.second_is)
      where
        second_within : (pair : Option Between) → IsSecondGroup index.directory.kind pair values second → 0 < second.count → second.first + second.count ≤ length values
        second_within None none more = absurd (omega (arith, none, more))
        second_within (Some pair) is more = is.within

    value_listed : (entry x : ℕ) → entry < length values → Among x (ids (count_of cat top)) → has_cell entry x ≡ true → Contains (get_or value_lists_here entry []) x
    value_listed entry x low among e =
        subst (λ xs. Contains xs x) (sym (value_list_is cat database over cells_are table column h levels keys alike top index level at values entry low))
        (contains_of (filter (has_cell entry) (ids (count_of cat top))) x (among-filter (has_cell entry) x (ids (count_of cat top)) among e))

    one_cell : (x entry other : ℕ) → Among entry (entries_in first second) → Among other (entries_in first second) → has_cell entry x ≡ true → has_cell other x ≡ true → other ≡ entry
    one_cell x entry other i j e f =
        let key = cell_led_to cat.schema (hidden_of cat.schema database) table column top x in
        one_place values are.ascending entry other (low_entry entry i) (low_entry other j)
        (sym (same_cells key (get_or values other []) f) ∙ same_cells key (get_or values entry []) e)

    values_few : first.count + second.count ≤ values_within database (field table column) bounds
    values_few =
        let few = counted bytes_eq nat_list_eq_equiv same_cells (encode_cell kind_here) (map (list_at values) (entries_in first second))
        (filter (lies_within bounds) (values_of database (field table column)))
        (map_once (list_at values) (entries_in first second) (ranges_once first.first first.count second.first second.count behind)
        (λ i j a b. one_place values are.ascending i j (low_entry i a) (low_entry j b)))
        (λ k among.
        let from = from_map (list_at values) k (entries_in first second) among in
        let low = low_entry from.0 from.1 in
        let is = its_value cat database over cells_are table column h values are from.0 low in
        let within = sym (in_one cat database over cells_are table column h bounds_are index.directory.kind at.index_is.kind_is bounds of_kind values first second groups from.0 low is.value is.fits is.cell)
        ∙ in_groups first second from.0 from.1 in
        (is.value, among-filter (lies_within bounds) is.value (values_of database (field table column)) is.among within, sym from.2 ∙ is.cell)) in
        let size = mapped_many (list_at values) (entries_in first second) in
        let both = both_many first second in
        omega (arith, few, size, both)

    pub entries_within : AreWithin
        (lists_in (values_at cat (hidden_of cat.schema database) table column values level) first ++ lists_in (values_at cat (hidden_of cat.schema database) table column values level) second)
        (values_within database (field table column) bounds) (rows_meeting cat database given top (Entries table column index level bounds))
    entries_within = record {
      few = (let size = lists_many value_lists_here first second in let few = values_few in omega (arith, size, few));
      short = subst (λ xs. length (concat xs) ≤ rows_meeting cat database given top (Entries table column index level bounds)) (sym (both_are value_lists_here first second))
          (lists_within (list_at value_lists_here) has_cell (λ identifier. meets cat.schema database given top identifier (Entries table column index level bounds))
          (entries_in first second) (ids (count_of cat top))
          (ranges_once first.first first.count second.first second.count behind)
          (λ entry i. value_list_is cat database over cells_are table column h levels keys alike top index level at values entry (low_entry entry i))
          (λ x entry other a i j. one_cell x entry other i j)
          (λ x entry a i e. ((laws.entries cat database over given top table column index level bounds at of_kind values are first second groups x).0
          (record {
            entry = entry;
            within = (let small = low_entry entry i in let size = value_lists_many cat database over cells_are table column h levels keys alike top index level at values in omega (arith, small, size));
            among = in_groups first second entry i;
            listed = value_listed entry x (low_entry entry i) a e;
          })).met));
    }
