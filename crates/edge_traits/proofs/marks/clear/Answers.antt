use Rattle.edge_traits.proofs.MarkLemmas.{page_cleared, page_kept}
use Rattle.edge_traits.proofs.marks.clear.Goals as goal

pub returns-clause-cleared : goal.returns-clause-cleared
returns-clause-cleared c = page_cleared c.args.marks.now c.args.page c.requires

pub returns-clause-others : goal.returns-clause-others
returns-clause-others c = λ other apart. page_kept c.args.marks.now c.args.page other c.requires apart
