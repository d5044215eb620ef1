use Rattle.std.proofs.Common.{◌∙◌, Bool, subst, arith}
use Rattle.edge_traits.proofs.DeviceFrames.{changes_wider}
use Rattle.visible_spool.specs.Hands.{area_end}
use Rattle.flash_pages.specs.Writing.{IsEntered, page_calls}
use Rattle.flash_pages.specs.Writers.{next_page, fills}
use Rattle.visible_spool.specs.Replies.{kinds_of}
use Rattle.visible_spool.proofs.HandLemmas.{for_pages, few_page_calls, begin_kept, pages_left, can_write, reach_within, rows_more, last_more}
use Rattle.visible_spool.proofs.hand.Hand.put.Goals as goal

pub put-requires-clause-can : goal.put-requires-clause-can
put-requires-clause-can g c =
    let can = c.requires.can in
    can_write (g.F.Flash.state c.args.flash.now) c.args.self.now can
    (pages_left (g.F.Flash.state c.args.flash.now) c.args.self.now can (omega (arith, can.few, c.requires.above, c.requires.within)))

pub put-requires-clause-room : goal.put-requires-clause-room
put-requires-clause-room g c =
    let can = c.requires.can in
    omega (arith, can.few, c.requires.above, c.requires.within, can.begins.most)

pub returns-in-Err-clause-others : goal.returns-in-Err-clause-others
returns-in-Err-clause-others g c =
    let can = c.requires.can in
    let left = pages_left (g.F.Flash.state c.args.flash.now) c.args.self.now can (omega (arith, can.few, c.requires.above, c.requires.within)) in
    changes_wider c.put.ensures.writes.others c.args.self.now.reply.run.first (area_end c.args.self.now.reply) (omega (arith, can.first))
    (reach_within (g.F.Flash.state c.args.flash.now) c.args.self.now can left)

pub returns-in-Ok-clause-others : goal.returns-in-Ok-clause-others
returns-in-Ok-clause-others g c =
    let can = c.requires.can in
    let left = pages_left (g.F.Flash.state c.args.flash.now) c.args.self.now can (omega (arith, can.few, c.requires.above, c.requires.within)) in
    changes_wider c.put.ensures.writes.others c.args.self.now.reply.run.first (area_end c.args.self.now.reply) (omega (arith, can.first))
    (reach_within (g.F.Flash.state c.args.flash.now) c.args.self.now can left)

pub returns-in-Ok-clause-appended : goal.returns-in-Ok-clause-appended
returns-in-Ok-clause-appended g c = λ rows was cells.
    let last = c.number_at-self.ensures in
    let more = last_more c.args.self.now.reply.rows (kinds_of c.args.self.now.reply) rows c.args.row.now c.args.self.now.last was.are was.last c.requires.above c.requires.within cells in
    record {
      put = c.in-Ok.ensures.appended rows was.put;
      are = rows_more c.args.self.now.reply.rows (kinds_of c.args.self.now.reply) rows c.args.row.now c.args.self.now.last was.are was.last c.requires.above c.requires.within cells;
      last = λ place there. let h = more place there in omega (arith, h, last);
    }

pub returns-in-Ok-clause-can : goal.returns-in-Ok-clause-can
returns-in-Ok-clause-can g c =
    let can = c.requires.can in
    let put = c.in-Ok.ensures in
    let same = put.same in
    let count = put.more.count in
    let few = can.few in
    let above = c.requires.above in
    let within = c.requires.within in
    let last = c.number_at-self.ensures in
    record {
      begins = begin_kept (g.F.Flash.state c.args.flash.now) (g.F.Flash.state c.put.new.flash) c.args.self.now.reply put.writes.others.page_count can.begins;
      first = same.first ∙ can.first;
      width = same.width ∙ can.width;
      erase = same.erase ∙ can.erase;
      few = omega (arith, count, few, above, last);
      within = omega (arith, last, within);
      entered = subst (λ (erase : Bool). IsEntered (g.F.Flash.state c.put.new.flash) (next_page c.put.new.self.filler) erase) (same.erase ∙ can.erase) put.entered;
    }

pub returns-in-Ok-clause-completes : goal.returns-in-Ok-clause-completes
returns-in-Ok-clause-completes g c =
    let f = c.args.self.now.writer.filler in
    for_pages (fills f) (page_calls (next_page f) f.erase) f.pages c.put.new.self.filler.pages (g.F.Flash.state c.args.flash.now).calls (g.F.Flash.state c.put.new.flash).calls
    c.put.ensures.writes.at_most (few_page_calls (next_page f) f.erase) c.in-Ok.ensures.more.pages
