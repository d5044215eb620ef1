use Rattle.std.proofs.Common.{◌≡◌, ◌+◌, ◌<◌, ◌≤◌, length, refl, sym, ◌∙◌, lit<, arith, rules}
use Rattle.tree_schema.proofs.Ancestors.{way_is_short, table_on_way, walk_begins, walk_goes, walk_ends}
use Rattle.tree_schema.proofs.schema.Schema.path_by.Goals as goal

pub loop-next-init : goal.loop-next-init
loop-next-init c = walk_begins c.args.self.now c.args.table _ _ c.new-path.ensures refl

pub push-requires : goal.push-requires
push-requires c =
    let tree = c.schemas_are_trees.ensures c.args.self.now c.tables.ensures.declared in
    let short : length c.loop-next.path.items < length c.args.self.now = way_is_short c.args.self.now c.args.table _ c.in-Some.here tree.no_cycle c.requires.there (sym c.loop-next.invariant.ahead ∙ c.in-Some.is) in
    let few : length c.args.self.now ≤ 12 = tree.few_tables in
    let room : length c.loop-next.path.items < 12 = omega (arith, short, few) in
    (lit< tt, room)

pub loop-next-smaller : goal.loop-next-smaller
loop-next-smaller c =
    let tree = c.schemas_are_trees.ensures c.args.self.now c.tables.ensures.declared in
    let short : length c.loop-next.path.items < length c.args.self.now = way_is_short c.args.self.now c.args.table _ c.in-Some.here tree.no_cycle c.requires.there (sym c.loop-next.invariant.ahead ∙ c.in-Some.is) in
    let longer : length c.push.new.self.items ≡ length c.loop-next.path.items + 1 = c.push.ensures.len in
    omega (arith, short, longer)

pub loop-next-preserved : goal.loop-next-preserved
loop-next-preserved c = walk_goes c.args.self.now c.args.table c.loop-next.path.items _ c.in-Some.here c.loop-next.next _ c.loop-next.invariant c.in-Some.is c.push.ensures.items (c.requires.parents c.in-Some.here (table_on_way c.args.self.now c.args.table (length c.loop-next.path.items) c.in-Some.here c.requires.there (sym c.loop-next.invariant.ahead ∙ c.in-Some.is)))

pub returns : goal.returns
returns c = record { way = walk_ends c.args.self.now c.args.table c.loop-next.path.items c.loop-next.next c.loop-next.invariant c.in_default.is }

pub bounds-parents-here : goal.bounds-parents-here
bounds-parents-here c =
    let there : c.in-Some.here < length c.args.self.now = table_on_way c.args.self.now c.args.table (length c.loop-next.path.items) c.in-Some.here c.requires.there (sym c.loop-next.invariant.ahead ∙ c.in-Some.is) in
    omega (arith, there, c.tables.ensures.count, c.tables.ensures.few)

pub offset_bounds-parents-here : goal.offset_bounds-parents-here
offset_bounds-parents-here c =
    let there : c.in-Some.here < length c.args.self.now = table_on_way c.args.self.now c.args.table (length c.loop-next.path.items) c.in-Some.here c.requires.there (sym c.loop-next.invariant.ahead ∙ c.in-Some.is) in
    let few : c.in-Some.here < 12 = omega (arith, there, c.tables.ensures.count, c.tables.ensures.few) in
    search rules
