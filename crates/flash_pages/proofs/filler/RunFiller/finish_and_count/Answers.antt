use Rattle.std.proofs.Common.{refl, arith}
use Rattle.flash_pages.proofs.WriterLemmas.{stored}
use Rattle.flash_pages.proofs.filler.RunFiller.finish_and_count.Goals as goal

pub returns-then-self-eq0-clause-stores : goal.returns-then-self-eq0-clause-stores
returns-then-self-eq0-clause-stores g c = λ told records was.
    stored (g.F.Flash.state c.args.flash.now).page told c.args.self.now.not_full c.args.self.now.counted was
    (λ number below. refl) (λ waits. absurd (omega arith))

pub returns-clause-stores : goal.returns-clause-stores
returns-clause-stores g c = λ told records was.
    stored (g.F.Flash.state c.write_next.new.flash).page told c.args.self.now.not_full c.args.self.now.counted was
    (λ number below. (c.in_ok-write_next.ensures.others.below number below).bytes)
    (λ waits. c.in_ok-write_next.ensures.written told)
