use Rattle.host_exec.proofs.Ahead.{left_ahead}
use Rattle.host_exec.proofs.piece.Piece.pass.Goals as goal

pub returns-clause-ahead : goal.returns-clause-ahead
returns-clause-ahead c = λ file start place is.
    left_ahead c.args.width c.args.self.now.at c.args.self.now.rows c.args.passed c.args.self.now.bytes file start place c.requires.within is
