use Rattle.std.proofs.Common.{◌∙◌, ap, arith}
use Rattle.visible_spool.specs.Sides.{is_marked}
use Rattle.visible_spool.specs.Spools.{area_at}
use Rattle.visible_spool.proofs.Spooling.{some_text, writes_in_area, writes_as, lies_as}
use Rattle.visible_spool.proofs.spool.Spool.done.Goals as goal

pub returns-clause-writes : goal.returns-clause-writes
returns-clause-writes g c =
    let before = g.F.Flash.state c.args.flash.now in
    let after = g.F.Flash.state c.close.new.flash in
    let old = c.args.self.now in
    let text = c.if-self-text.false in
    let table = c.if-self-table.false in
    let held = c.requires.spooling.hand (some_text old.hand.text (omega (arith, text, c.requires.some))) in
    writes_as before after (area_at old old.hand.table) (area_at old c.args.table) old.hand.text c.args.text c.close.result
    (ap (λ t. area_at old t) table) text
    (writes_in_area before after before old c.close.result held (c.requires.spooling.areas old.hand.table held.there) c.close.ensures.writes)

pub returns-clause-lies : goal.returns-clause-lies
returns-clause-lies g c = λ at unmarked.
    let old = c.args.self.now in
    let text = c.if-self-text.false in
    let table = c.if-self-table.false in
    let held = c.requires.spooling.hand (some_text old.hand.text (omega (arith, text, c.requires.some))) in
    lies_as old c.args.text c.args.table held (c.requires.spooling.areas old.hand.table held.there) text table c.close.new.self.sides
    (c.close.ensures.lies (ap (λ n. is_marked c.close.new.self.sides n) text ∙ unmarked))
