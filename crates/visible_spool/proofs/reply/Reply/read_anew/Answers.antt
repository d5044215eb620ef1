use Rattle.std.proofs.Common.{arith}
use Rattle.page_pool.specs.Pools.{page_at}
use Rattle.visible_spool.proofs.OwnPages.{own_after}
use Rattle.visible_spool.proofs.Readable.{page_there}
use Rattle.visible_spool.proofs.reply.Reply.read_anew.Goals as goal

pub overflow_add-self : goal.overflow_add-self
overflow_add-self g c =
    let there = page_there (g.F.Flash.state c.args.flash.now) c.args.self.now c.requires.readable c.near_page-page.result c.near_page-page.ensures.within in
    let small = c.requires.readable.has.small in
    omega (arith, there, small)

pub load-requires-clause-in_range : goal.load-requires-clause-in_range
load-requires-clause-in_range g c =
    page_there (g.F.Flash.state c.args.flash.now) c.args.self.now c.requires.readable c.near_page-page.result c.near_page-page.ensures.within

pub returns-clause-page : goal.returns-clause-page
returns-clause-page g c =
    own_after c.args.self.now c.requires.readable.sound (page_at c.args.pool.now c.args.lease.now) (page_at c.load.new.pool c.args.lease.now) c.near_page-page.result c.near_page-page.ensures.within
    c.load.result c.load.ensures.read.holds
