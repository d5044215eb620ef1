-- The lists of a term have exactly the rows that meet it.
use Rattle.std.proofs.Common.{◌≡◌, ◌∙◌, ap, sym, subst, ℕ, ◌+◌, ◌-◌, ◌<◌, ◌≤◌, List, [], length, map, get_or, arith}
use Rattle.std.specs.Prelude.{◌↔◌}
use Rattle.std.proofs.lemmas.Option.{slice_get_within}
use Rattle.std.proofs.lemmas.List.{length-append}
use Rattle.std.proofs.lemmas.List.FromFn.{length-range_with_len}
use Rattle.ghost_model.specs.core.Schema.{Kind}
use Rattle.ghost_model.specs.core.Values.{Value, Database}
use Rattle.ghost_model.specs.core.Channel.{Catalog}
use Rattle.ghost_model.specs.core.Query.{Operator, Test}
use Rattle.ghost_model.specs.core.Replies as replies
use Rattle.ghost_model.specs.core.Split.{hidden_of}
use Rattle.ghost_model.specs.forms.Flash.{ids}
use Rattle.ghost_model.specs.forms.QueryWork.{union_work}
use Rattle.ghost_model.specs.forms.Layout.{count_of, levels_of, above_of}
use Rattle.climbing_index.specs.declared.index.ClimbingIndex.{ClimbingIndex}
use Rattle.climbing_index.specs.declared.index.IdIndex.{IdIndex}
use Rattle.climbing_index.specs.declared.search.Group.{Group}
use Rattle.climbing_index.specs.Holding.{HoldsIndexWhole, HoldsIndexBut, HoldsIdIndexWhole, HoldsIdIndexBut, values_at, ids_at}
use Rattle.climbing_index.specs.Laws.{IsOf}
use Rattle.visible_spool.specs.Replies.{AreRows, HoldsRows, id_of, id_of_bytes, kinds_of}
use Rattle.spill_pass.specs.ListCalls.{ids_of}
use Rattle.spill_pass.specs.PassContents.{InLists}
use Rattle.entry_lists.specs.declared.entries.EntryLists.{EntryLists}
use Rattle.entry_lists.specs.declared.replies.ReplyLists.{ReplyLists}
use Rattle.entry_lists.specs.Entries.{EntriesHave, entries_in}
use Rattle.entry_lists.specs.Laws.{EntriesHaveValueLists, EntriesHaveIdLists, lists_in, lists_of, rows_at}
use Rattle.entry_lists.specs.Replied.{RepliesHave}
use Rattle.entry_lists.specs.ReplyLaws as reply_laws
use Rattle.entry_lists.specs.ReplyLaws.{RepliesHaveIdLists}
use Rattle.condition_lists.specs.declared.bounds.Bounds.{Bounds}
use Rattle.condition_lists.specs.declared.term.Term.TheVariants as of_term
use Rattle.condition_lists.specs.CostLaws.{AreAscending, AreWithin, ListsAreWithinCosts, WorkGrows}
use Rattle.condition_lists.specs.Costs.{replied_count, rows_meeting}
use Rattle.condition_lists.specs.Laws.{AreReplied, GroupsAscend, IsListed, IsMet, IsOver, ListsAreOfTerms, ListsComeInOrder, replied_ids}
use Rattle.condition_lists.specs.Terms.{AreEntriesOf, AreIdsOf, IsIdIndexAt}
use Rattle.candidate_gathering.specs.declared.searching.term_lists.TermLists.TheVariants.{Entries, Replies}
use Rattle.candidate_gathering.specs.searching.Begun.{AreListsAt, AreRepliesAt, EndsBy}
use Rattle.candidate_gathering.specs.searching.Laws.{HaveRows}
use Rattle.candidate_gathering.specs.searching.Searching.{AreEntries}
use Rattle.candidate_gathering.proofs.searching_lemmas.Places.{both, in_one, indexed, indexed_above, many, mapped_get, mapped_twice, within_above}
use Rattle.ghost_model.proofs.LayoutLemmas.Limited.{limited_by}

over_of : {cat : Catalog} {database : Database} → IsOf cat database → IsOver cat database
over_of {cat = cat} of = record { tree = (limited_by cat of.proper).tree; is = of.is; counts = of.counts }

-- the lists of entries as they come, by the groups and the level that they begin with
began :
    (at : (level : ℕ) → List (List ℕ)) (level : ℕ) (first second : Group) (lists : EntryLists) (id : ℕ) (M : Type 0)
    → lists.level ≡ level → lists.first ≡ first → lists.second ≡ second
    → InLists (lists_of (at level) first second) id ↔ M → InLists (lists_of (at lists.level) lists.first lists.second) id ↔ M
began at level first second lists id M level_is first_is second_is are =
    subst (λ l. InLists (lists_of (at l) lists.first lists.second) id ↔ M) (sym level_is)
    (subst (λ (g : Group). InLists (lists_of (at level) g lists.second) id ↔ M) (sym first_is)
    (subst (λ (g : Group). InLists (lists_of (at level) first g) id ↔ M) (sym second_is) are))

listed :
    ListsComeInOrder → (all : List (List ℕ)) (first second : Group) (count id : ℕ) (M : Type 0) → length all ≡ count → EndsBy count first → EndsBy count second
    → IsListed all first second id ↔ M → InLists (lists_of all first second) id ↔ M
listed order all first second count id M size low high are =
    both (in_one (lists_of all first second) id)
    (both (order.groups all first second (omega (arith, size, low)) (omega (arith, size, high)) id) are)

-- as many lists as entries, which are no more than what is counted
lists_many : (all : List (List ℕ)) (first second : Group) → length (lists_of all first second) ≡ first.count + second.count
lists_many all first second =
    let at : ℕ → List ℕ = λ entry. get_or all entry [] in
    omega (
      arith,
      length-append (lists_in all first) (lists_in all second),
      many at (entries_in first),
      many at (entries_in second),
      length-range_with_len first.first first.count,
      length-range_with_len second.first second.count,
    )

within_of :
    WorkGrows → (at : (level : ℕ) → List (List ℕ)) (level : ℕ) (first second : Group) (lists : EntryLists) (most rows : ℕ)
    → lists.level ≡ level → lists.first ≡ first → lists.second ≡ second → AreWithin (lists_of (at level) first second) most rows
    → union_work (lists.first.count + lists.second.count) (ids_of (lists_of (at lists.level) lists.first lists.second)) ≤ union_work most rows
within_of grows at level first second lists most rows level_is first_is second_is within =
    let here =
    subst (λ l. AreWithin (lists_of (at l) lists.first lists.second) most rows) (sym level_is)
    (subst (λ (g : Group). AreWithin (lists_of (at level) g lists.second) most rows) (sym first_is)
    (subst (λ (g : Group). AreWithin (lists_of (at level) first g) most rows) (sym second_is) within)) in
    grows.union (lists.first.count + lists.second.count) most (ids_of (lists_of (at lists.level) lists.first lists.second)) rows
    (omega (arith, here.few, lists_many (at lists.level) lists.first lists.second)) here.short

behind_of :
    {first second : Group} (lists : EntryLists) → lists.first ≡ first → lists.second ≡ second
    → (0 < first.count → 0 < second.count → first.first + first.count ≤ second.first)
    → 0 < lists.first.count → 0 < lists.second.count → lists.first.first + lists.first.count ≤ lists.second.first
behind_of {first = first} lists first_is second_is behind =
    subst (λ (g : Group). 0 < g.count → 0 < lists.second.count → g.first + g.count ≤ lists.second.first) (sym first_is)
    (subst (λ (g : Group). 0 < first.count → 0 < g.count → first.first + first.count ≤ g.first) (sym second_is) behind)

pub entries :
    EntriesHaveValueLists → GroupsAscend → ListsAreOfTerms → ListsComeInOrder → ListsAreWithinCosts → WorkGrows
    → (page right : ℕ → List ℕ) (cat : Catalog) (database : Database) → IsOf cat database
    → (given : List replies.Reply) (top table column : ℕ) (test : Test) (index : ClimbingIndex) (level : ℕ) (bounds : Bounds)
    → AreEntriesOf cat top table column test index level bounds
    → (values : List (List ℕ)) → HoldsIndexWhole right cat (hidden_of cat.schema database) table column values
    → HoldsIndexBut page cat (hidden_of cat.schema database) table column values
    → (first second : Group) → AreEntries index.directory.kind bounds values first second
    → (lists : EntryLists) → AreListsAt index.directory level first second (count_of cat top) lists
    → HaveRows page right cat database given top (of_term.Entries table column index level bounds) (Entries lists)
entries have ascend of_terms order costs grows page right cat database of given top table column test index level bounds are values whole but first second found lists begun =
    let at = are.index_at in
    let over = over_of of in
    let hidden = hidden_of cat.schema database in
    let level_is = begun.level_is in
    let near = slice_get_within (levels_of cat.schema table) level top at.level_is in
    let behind = ascend cat database over top table column index level at test bounds are.bounds_are are.kind values whole.are_values first second found.groups in
    let rows_are : rows_at cat (levels_of cat.schema table) lists.level ≡ count_of cat top =
    ap (rows_at cat (levels_of cat.schema table)) level_is ∙ ap (count_of cat) (indexed (levels_of cat.schema table) level top at.level_is) in
    let has = have page right cat database of table column at.hidden values whole but index at.index_is lists
    (record {
      directory_is = begun.directory_is;
      level = omega (arith, level_is, near);
      first = subst (EndsBy (length values)) (sym begun.first_is) found.first_within;
      second = subst (EndsBy (length values)) (sym begun.second_is) found.second_within;
    })
    (record {
      apart = behind_of lists begun.first_is begun.second_is behind;
      room = omega (arith, rows_are, begun.room);
    }) in
    record {
      ids = lists_of (values_at cat hidden table column values lists.level) lists.first lists.second;
      has = subst (λ rows. EntriesHave page right rows lists (lists_of (values_at cat hidden table column values lists.level) lists.first lists.second)) rows_are has;
      all = λ id.
          began (values_at cat hidden table column values) level first second lists id _ level_is begun.first_is begun.second_is
          (listed order (values_at cat hidden table column values level) first second (length values) id _ (many _ values) found.first_within found.second_within
          (of_terms.entries cat database over given top table column index level bounds at are.kind values whole.are_values first second found.groups id));
      cost =
          within_of grows (values_at cat hidden table column values) level first second lists _ _ level_is begun.first_is begun.second_is
          (costs.entries cat database over given top table column index level bounds at are.kind values whole.are_values first second found.groups behind);
    }

ids_many : {Y : Type 0} (f : ℕ → Y) (count : ℕ) → length (map f (ids count)) ≡ count
ids_many f count = many f (ids count) ∙ length-range_with_len 1 count

pub identifiers :
    EntriesHaveIdLists → ListsAreOfTerms → ListsComeInOrder → ListsAreWithinCosts → WorkGrows
    → (page right : ℕ → List ℕ) (cat : Catalog) (database : Database) → IsOf cat database
    → (given : List replies.Reply) (top table : ℕ) (operator : Operator) (literal : Value) (index : IdIndex) (level : ℕ) (first second : Group)
    → IsIdIndexAt cat top table index level → AreIdsOf (count_of cat table) operator literal first second
    → HoldsIdIndexWhole right cat (hidden_of cat.schema database) table
    → HoldsIdIndexBut page cat (hidden_of cat.schema database) table
    → (lists : EntryLists) → AreListsAt index.directory (level - 1) first second (count_of cat top) lists
    → HaveRows page right cat database given top (of_term.Identifiers table index level first second) (Entries lists)
identifiers have of_terms order costs grows page right cat database of given top table operator literal index level first second at are whole but lists begun =
    let over = over_of of in
    let hidden = hidden_of cat.schema database in
    let level_is = begun.level_is in
    let near = within_above (levels_of cat.schema table) level top at.above at.level_is in
    let rows_are : rows_at cat (above_of cat.schema table) lists.level ≡ count_of cat top =
    ap (rows_at cat (above_of cat.schema table)) level_is ∙ ap (count_of cat) (indexed_above (levels_of cat.schema table) level top at.above at.level_is) in
    let has = have page right cat database of table at.there whole but index at.index_is lists
    (record {
      directory_is = begun.directory_is;
      level = omega (arith, level_is, near);
      first = subst (EndsBy (count_of cat table)) (sym begun.first_is) are.first_within;
      second = subst (EndsBy (count_of cat table)) (sym begun.second_is) are.second_within;
    })
    (record {
      apart = behind_of lists begun.first_is begun.second_is are.behind;
      room = omega (arith, rows_are, begun.room);
    }) in
    record {
      ids = lists_of (ids_at cat hidden table lists.level) lists.first lists.second;
      has = subst (λ rows. EntriesHave page right rows lists (lists_of (ids_at cat hidden table lists.level) lists.first lists.second)) rows_are has;
      all = λ id.
          began (ids_at cat hidden table) (level - 1) first second lists id _ level_is begun.first_is begun.second_is
          (listed order (ids_at cat hidden table (level - 1)) first second (count_of cat table) id _ (ids_many _ (count_of cat table)) are.first_within are.second_within
          (of_terms.identifiers cat database over given top table index level first second at are.first_within are.second_within id));
      cost =
          within_of grows (ids_at cat hidden table) (level - 1) first second lists _ _ level_is begun.first_is begun.second_is
          (costs.identifiers cat database over given top table index level at operator literal first second are);
    }

-- the identifiers of a reply ascend
ids_ascend :
    (most : ℕ) (kinds : List Kind) (held : List (List ℕ)) (all : List ℕ) → AreRows most kinds held → map id_of_bytes held ≡ all → AreAscending all
ids_ascend most kinds held all rows same = subst AreAscending same up
  where
    id_is : (place : ℕ) → place < length held → get_or (map id_of_bytes held) place 0 ≡ id_of held place
    id_is place low = mapped_get id_of_bytes held place [] 0 low

    up : AreAscending (map id_of_bytes held)
    up i j less within =
        let low : j < length held = omega (arith, within, many id_of_bytes held) in
        omega (arith, rows.ascend i j less low, id_is i (omega (arith, less, low)), id_is j low)

pub replied :
    RepliesHaveIdLists → ListsAreOfTerms → ListsComeInOrder → ListsAreWithinCosts → WorkGrows
    → (page right : ℕ → List ℕ) (cat : Catalog) (database : Database) → IsOf cat database
    → (given : List replies.Reply) (top table : ℕ) (index : IdIndex) (level : ℕ) (reply : replies.Reply)
    → IsIdIndexAt cat top table index level → AreReplied cat given table reply
    → HoldsIdIndexWhole right cat (hidden_of cat.schema database) table
    → HoldsIdIndexBut page cat (hidden_of cat.schema database) table
    → (lists : ReplyLists) → AreRepliesAt index.directory (level - 1) (count_of cat table) (count_of cat top) lists
    → (held : List (List ℕ)) → HoldsRows page lists.reply held → map id_of_bytes held ≡ replied_ids reply
    → HaveRows page right cat database given top (of_term.Reply table index level) (Replies lists)
replied have of_terms order costs grows page right cat database of given top table index level reply at are whole but lists begun held rows same =
    let over = over_of of in
    let hidden = hidden_of cat.schema database in
    let level_is = begun.level_is in
    let near = within_above (levels_of cat.schema table) level top at.above at.level_is in
    let rows_are : rows_at cat (above_of cat.schema table) lists.level ≡ count_of cat top =
    ap (rows_at cat (above_of cat.schema table)) level_is ∙ ap (count_of cat) (indexed_above (levels_of cat.schema table) level top at.above at.level_is) in
    let all_at : ℕ → List (List ℕ) = ids_at cat hidden table in
    let has = have page right cat database of table at.there whole but index at.index_is lists
    (record {
      directory_is = begun.directory_is;
      level = omega (arith, level_is, near);
      sound = begun.sound;
      rows = omega (arith, begun.most_is);
    })
    (record { given = begun.given; ids = begun.ids; last = begun.last; room = omega (arith, rows_are, begun.room) }) held rows in
    let lists_are : reply_laws.lists_of (all_at lists.level) held ≡ map (λ other. get_or (all_at (level - 1)) (other - 1) []) (replied_ids reply) =
    ap (λ l. reply_laws.lists_of (all_at l) held) level_is
    ∙ sym (mapped_twice (λ other. get_or (all_at (level - 1)) (other - 1) []) id_of_bytes held)
    ∙ ap (λ all. map (λ other. get_or (all_at (level - 1)) (other - 1) []) all) same in
    record {
      ids = reply_laws.lists_of (all_at lists.level) held;
      has = subst (λ n. RepliesHave page right n lists (reply_laws.lists_of (all_at lists.level) held)) rows_are has;
      all = λ id.
          subst (λ all. InLists all id ↔ IsMet cat database given top (of_term.Reply table index level) id) (sym lists_are)
          (both (in_one (map (λ other. get_or (all_at (level - 1)) (other - 1) []) (replied_ids reply)) id)
          (both (order.identifiers (all_at (level - 1)) (replied_ids reply) id)
          (of_terms.reply cat database over given top table index level reply at are id)));
      cost =
          let within =
          subst (λ all. AreWithin all (replied_count given table) (rows_meeting cat database given top (of_term.Reply table index level))) (sym lists_are)
          (costs.reply cat database over given top table index level at reply are
          (ids_ascend lists.reply.rows (kinds_of lists.reply) held (replied_ids reply) rows.are same)) in
          let at_row : List ℕ → List ℕ = λ row. get_or (all_at lists.level) (id_of_bytes row - 1) [] in
          grows.union (lists.reply.run.count - lists.given) (replied_count given table) (ids_of (reply_laws.lists_of (all_at lists.level) held))
          (rows_meeting cat database given top (of_term.Reply table index level))
          (omega (arith, within.few, many at_row held, rows.has.count)) within.short;
    }
