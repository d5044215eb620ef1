use Rattle.spj_parse.specs.Drafts.{item_of}
use Rattle.spj_parse.specs.Items.{items_in}
use Rattle.spj_parse.specs.Resolved.{item_tables}
use Rattle.spj_parse.specs.Walks.{items_left}
use Rattle.spj_parse.proofs.ResolveLemmas.{gathers_more}
use Rattle.spj_parse.proofs.resolve.from_tables.Goals as goal

pub loop-item-preserved : goal.loop-item-preserved
loop-item-preserved c =
    gathers_more (λ table. table) 12 (item_tables c.args.schema.now) (items_in c.args.text.now) (items_left c.loop-item.walk) (items_left c.next.new.self) (item_of c.in-Some.item)
    c.loop-item.from.items c.add_table.new.from.items c.loop-item.invariant c.in-Some.ensures.steps c.add_table.ensures.added
