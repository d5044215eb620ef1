use Rattle.std.proofs.Common.{arith}
use Rattle.edge_traits.proofs.MarkLemmas.{block_set, block_other}
use Rattle.edge_traits.proofs.marks.set_block.Goals as goal

pub returns-clause-marked : goal.returns-clause-marked
returns-clause-marked c = λ page low high. block_set c.args.marks.now c.args.block page c.requires (omega arith)

pub returns-clause-below : goal.returns-clause-below
returns-clause-below c = λ page low. block_other c.args.marks.now c.args.block _ page (λ e. omega arith)

pub returns-clause-above : goal.returns-clause-above
returns-clause-above c = λ page high. block_other c.args.marks.now c.args.block _ page (λ e. omega arith)
