use Rattle.std.proofs.Common.{◌≡◌, ◌∙◌, ◌+◌, ◌<◌, ◌*◌, ◌^◌, ap, refl, length, arith, rules}
use Rattle.std.proofs.lemmas.List.FromFn.{length-map-range_with_len}
use Rattle.ghost_model.specs.laws.ShortWords as short
use Rattle.ghost_model.specs.forms.Layout as layout
use Rattle.ghost_model.specs.laws.LayoutSums as sums
use Rattle.flash_layout.proofs.ByPlace.{at_place}
use Rattle.flash_layout.proofs.layout.Layout.index_begin.Goals as goal

pub offset_bounds-deref-column : goal.offset_bounds-deref-column
offset_bounds-deref-column c =
    let laid = c.laws.ensures.layout in
    let there = laid.order.there_are c.args.table c.args.column c.requires.hidden in
    let few = laid.narrow.columns c.args.table in
    let low : c.args.column * 4 < 2 ^ 64 = omega (arith, there.1, few) in
    search (rules, low)

pub bounds-deref-column : goal.bounds-deref-column
bounds-deref-column c =
    let cat = c.args.self.now in
    let table = c.args.table in
    let there = c.laws.ensures.layout.order.there_are table c.args.column c.requires.hidden in
    let count : length c.deref.result.now ≡ short.column_count cat.schema table =
    ap length (c.deref.ensures.0 ∙ c.places.ensures.places.indexes) ∙ length-map-range_with_len (sums.index_begin cat table) 0 (short.column_count cat.schema table) in
    omega (arith, there.1, count)

pub returns-clause-value : goal.returns-clause-value
returns-clause-value c =
    let cat = c.args.self.now in
    let table = c.args.table in
    let there = c.laws.ensures.layout.order.there_are table c.args.column c.requires.hidden in
    at_place (sums.index_begin cat table) (short.column_count cat.schema table) c.args.column c.deref.result.now 0 (c.deref.ensures.0 ∙ c.places.ensures.places.indexes) there.1

pub returns-clause-most : goal.returns-clause-most
returns-clause-most c =
    let cat = c.args.self.now in
    let table = c.args.table in
    let column = c.args.column in
    let laid = c.laws.ensures.layout in
    let there = laid.order.there_are table column c.requires.hidden in
    let begins = laid.few.table_begin table (omega (arith, there.0, laid.tree.few_tables)) in
    let before = laid.few.indexes_before table column (omega (arith, there.1, laid.narrow.columns table)) in
    let begin : sums.index_begin cat table column ≡ sums.table_begin cat table + sums.columns_pages cat table + sums.subtree_pages cat table + sums.index_pages_before cat table column = refl in
    let value = at_place (sums.index_begin cat table) (short.column_count cat.schema table) column c.deref.result.now 0 (c.deref.ensures.0 ∙ c.places.ensures.places.indexes) there.1 in
    omega (arith, value ∙ begin, begins, laid.few.columns table, laid.few.subtree table, before)
