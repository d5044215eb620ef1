use Rattle.tree_schema.proofs.NoStep.{after_integer}
use Rattle.tree_schema.proofs.syntax.after_integer.Goals as goal

pub returns-in_default : goal.returns-in_default
returns-in_default c = after_integer _ _ _ _ _ c.in_default.not-Hidden c.in_default.not-References c.in_default.not-Primary c.in_default.not-Null c.in_default.not-Open
