use Rattle.std.proofs.Common.{subst}
use Rattle.spj_parse.specs.Resolved.{IsRead}
use Rattle.spj_parse.proofs.query.Query.from.Goals as goal

pub returns-clause-read : goal.returns-clause-read
returns-clause-read c = subst IsRead c.self.view_is c.self.invariant.0
