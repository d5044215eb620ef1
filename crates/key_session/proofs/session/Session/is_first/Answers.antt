use Rattle.std.proofs.Common.{arith}
use Rattle.key_session.proofs.session.Session.is_first.Goals as goal

pub comes_first-requires : goal.comes_first-requires
comes_first-requires c = (let few = c.args.self.now.teller.few in omega (arith, few))
