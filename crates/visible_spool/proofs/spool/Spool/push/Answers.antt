use Rattle.std.proofs.Common.{◌∙◌, ◌++◌, ◌∷◌, [], ap, List, drop, arith}
use Rattle.ghost_model.specs.core.Schema.{Kind}
use Rattle.ghost_model.specs.core.NextMove.{are_cells}
use Rattle.visible_spool.specs.declared.area.Area.{Area}
use Rattle.visible_spool.specs.Replies.{kinds_of}
use Rattle.visible_spool.specs.Sides.{is_marked}
use Rattle.visible_spool.specs.Spools.{IsSpooling, area_at, is_at}
use Rattle.visible_spool.proofs.Spooling.{some_text, writes_in_area, writes_as, same_area, still_at, now_pushed, last_here}
use Rattle.visible_spool.proofs.spool.Spool.push.Goals as goal

pub overflow_cast-row : goal.overflow_cast-row
overflow_cast-row g c = omega (arith, c.requires.asked.narrow_row)

pub write-requires-clause-spooling : goal.write-requires-clause-spooling
write-requires-clause-spooling g c = c.take.ensures.spooling (g.F.Flash.state c.args.flash.now) c.args.pool.now c.requires.spooling

pub write-requires-clause-within : goal.write-requires-clause-within
write-requires-clause-within g c =
    let now = c.take.new.self in
    let spooling : IsSpooling (g.F.Flash.state c.args.flash.now) c.args.pool.now now = c.take.ensures.spooling (g.F.Flash.state c.args.flash.now) c.args.pool.now c.requires.spooling in
    let held = spooling.hand (some_text now.hand.text (omega (arith, c.take.ensures.text, c.requires.asked.some))) in
    let rows = held.rows in
    let same = ap (λ (a : Area). a.rows) (same_area c.args.self.now now now.hand.table c.args.table c.take.ensures.same.areas c.take.ensures.table) in
    omega (arith, rows, same, c.requires.next.within)

pub returns-clause-pushed : goal.returns-clause-pushed
returns-clause-pushed g c = λ rows pushed cells unmarked.
    let now = c.take.new.self in
    let at = still_at now c.write.new.self c.args.text c.args.table c.write.ensures.text c.write.ensures.table c.take.ensures.at in
    now_pushed g.F.Flash.told (g.F.Flash.state c.write.new.flash).page c.write.new.pool c.write.new.self (rows ++ c.args.row.now ∷ []) (is_at c.write.new.self c.args.text c.args.table) at
    (c.write.ensures.pushed rows (c.take.ensures.rows g.F.Flash.told (g.F.Flash.state c.args.flash.now).page c.args.pool.now rows pushed)
    (ap (λ (k : List Kind). are_cells k (drop 4 c.args.row.now)) c.take.ensures.kinds ∙ cells)
    (ap (λ n. is_marked c.write.new.self.sides n) c.take.ensures.text ∙ unmarked))

pub returns-clause-writes : goal.returns-clause-writes
returns-clause-writes g c =
    let before = g.F.Flash.state c.args.flash.now in
    let after = g.F.Flash.state c.write.new.flash in
    let now = c.take.new.self in
    let spooling : IsSpooling before c.args.pool.now now = c.take.ensures.spooling before c.args.pool.now c.requires.spooling in
    let held = spooling.hand (some_text now.hand.text (omega (arith, c.take.ensures.text, c.requires.asked.some))) in
    writes_as before after (area_at now now.hand.table) (area_at c.args.self.now c.args.table) now.hand.text c.args.text c.write.result
    (same_area c.args.self.now now now.hand.table c.args.table c.take.ensures.same.areas c.take.ensures.table) c.take.ensures.text
    (writes_in_area before after before now c.write.result held (spooling.areas now.hand.table held.there) c.write.ensures.writes)

pub returns-clause-dropped : goal.returns-clause-dropped
returns-clause-dropped g c = λ marked.
    c.write.ensures.dropped (ap (λ n. is_marked c.take.new.self.sides n) c.take.ensures.text ∙ (c.take.ensures.same.mark ∙ marked))

pub returns-clause-last : goal.returns-clause-last
returns-clause-last g c =
    let now = c.write.new.self in
    let at = still_at c.take.new.self now c.args.text c.args.table c.write.ensures.text c.write.ensures.table c.take.ensures.at in
    let e = last_here now (is_at now c.args.text c.args.table) at in
    let last = c.write.ensures.last in
    omega (arith, e, last)

pub returns-clause-kinds : goal.returns-clause-kinds
returns-clause-kinds g c = ap kinds_of c.write.ensures.reply ∙ c.take.ensures.kinds
