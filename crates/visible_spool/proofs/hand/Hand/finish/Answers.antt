use Rattle.std.proofs.Common.{refl}
use Rattle.flash_pages.specs.Writing.{page_calls}
use Rattle.flash_pages.specs.Writers.{next_page, waits}
use Rattle.visible_spool.proofs.HandLemmas.{no_call, finish_can, finish_changes, ended_readable, ended_within}
use Rattle.visible_spool.proofs.hand.Hand.finish.Goals as goal

pub finish-requires-clause-can : goal.finish-requires-clause-can
finish-requires-clause-can g c = λ waits. finish_can (g.F.Flash.state c.args.flash.now) c.args.self.now c.requires.can waits

pub returns-in-Err-clause-others : goal.returns-in-Err-clause-others
returns-in-Err-clause-others g c =
    finish_changes (g.F.Flash.state c.args.flash.now) (g.F.Flash.state c.finish.new.flash) c.args.self.now c.requires.can c.finish.ensures.unwritten c.finish.ensures.writes.others

pub returns-in-Ok-clause-others : goal.returns-in-Ok-clause-others
returns-in-Ok-clause-others g c =
    finish_changes (g.F.Flash.state c.args.flash.now) (g.F.Flash.state c.finish.new.flash) c.args.self.now c.requires.can c.finish.ensures.unwritten c.finish.ensures.writes.others

pub returns-in-Ok-clause-holds : goal.returns-in-Ok-clause-holds
returns-in-Ok-clause-holds g c = λ told rows was. record { has = (c.in-Ok.ensures.stores told rows was.put).has; are = was.are }

pub returns-in-Ok-clause-readable : goal.returns-in-Ok-clause-readable
returns-in-Ok-clause-readable g c =
    let run = c.in-Ok.ensures.run in
    ended_readable (g.F.Flash.state c.args.flash.now) (g.F.Flash.state c.finish.new.flash) c.args.self.now _ c.requires.can c.finish.ensures.writes.others.page_count
    (record { first = run.first; count = run.count; width = run.width; rows = refl; cells = refl; kinds = refl })

pub returns-in-Ok-clause-lies : goal.returns-in-Ok-clause-lies
returns-in-Ok-clause-lies g c =
    let run = c.in-Ok.ensures.run in
    ended_within (g.F.Flash.state c.args.flash.now) c.args.self.now _ c.requires.can
    (record { first = run.first; count = run.count; width = run.width; rows = refl; cells = refl; kinds = refl })

pub returns-in-Ok-clause-quiet : goal.returns-in-Ok-clause-quiet
returns-in-Ok-clause-quiet g c = λ none.
    let f = c.args.self.now.writer.filler in
    no_call (waits f) (page_calls (next_page f) f.erase) (g.F.Flash.state c.args.flash.now).calls (g.F.Flash.state c.finish.new.flash).calls none
    c.finish.ensures.writes.others.never_falls c.finish.ensures.writes.at_most

pub returns-in-Err-clause-quiet : goal.returns-in-Err-clause-quiet
returns-in-Err-clause-quiet g c = λ none.
    let f = c.args.self.now.writer.filler in
    no_call (waits f) (page_calls (next_page f) f.erase) (g.F.Flash.state c.args.flash.now).calls (g.F.Flash.state c.finish.new.flash).calls none
    c.finish.ensures.writes.others.never_falls c.finish.ensures.writes.at_most
