use Rattle.spj_parse.specs.Drafts.{item_of}
use Rattle.spj_parse.specs.Items.{items_in}
use Rattle.spj_parse.specs.Resolved.{item_members}
use Rattle.spj_parse.specs.Views.{member_of}
use Rattle.spj_parse.specs.Walks.{items_left}
use Rattle.spj_parse.proofs.ResolveLemmas.{gathers_more}
use Rattle.spj_parse.proofs.resolve.members.Goals as goal

pub loop-item-preserved : goal.loop-item-preserved
loop-item-preserved c =
    gathers_more member_of 16 (item_members c.args.schema.now c.args.from.now) (items_in c.args.text.now) (items_left c.loop-item.walk) (items_left c.next.new.self) (item_of c.in-Some.item)
    c.loop-item.kept.items c.add_item.new.kept.items c.loop-item.invariant c.in-Some.ensures.steps c.add_item.ensures.added
