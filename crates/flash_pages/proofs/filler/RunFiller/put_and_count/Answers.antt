use Rattle.std.proofs.Common.{arith}
use Rattle.flash_pages.proofs.WriterLemmas.{one_more, page_done}
use Rattle.flash_pages.proofs.filler.RunFiller.put_and_count.Goals as goal

pub returns-then-self-per_page-clause-appended : goal.returns-then-self-per_page-clause-appended
returns-then-self-per_page-clause-appended g c = λ records was.
    one_more c.requires.width was c.put_cell.ensures.front c.put_cell.ensures.cell c.put_cell.ensures.rest

pub returns-clause-appended : goal.returns-clause-appended
returns-clause-appended g c = λ records was.
    page_done (g.F.Flash.state c.write_next.new.flash).page (omega arith) (omega arith)
    (one_more c.requires.width was c.put_cell.ensures.front c.put_cell.ensures.cell c.put_cell.ensures.rest)
    (λ told number below. (c.in_ok-write_next.ensures.others.below number below).bytes)
    c.in_ok-write_next.ensures.written
