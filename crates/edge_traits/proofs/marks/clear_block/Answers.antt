use Rattle.std.proofs.Common.{arith}
use Rattle.edge_traits.proofs.MarkLemmas.{block_cleared, block_other}
use Rattle.edge_traits.proofs.marks.clear_block.Goals as goal

pub returns-clause-cleared : goal.returns-clause-cleared
returns-clause-cleared c = λ page low high. block_cleared c.args.marks.now c.args.block page c.requires (omega arith)

pub returns-clause-below : goal.returns-clause-below
returns-clause-below c = λ page low. block_other c.args.marks.now c.args.block _ page (λ e. omega arith)

pub returns-clause-above : goal.returns-clause-above
returns-clause-above c = λ page high. block_other c.args.marks.now c.args.block _ page (λ e. omega arith)
