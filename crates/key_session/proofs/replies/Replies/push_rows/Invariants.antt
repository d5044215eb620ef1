use Rattle.std.proofs.Common.{◌≡◌, length}
use Rattle.key_session.specs.Pushing.{CanPush}
use Rattle.key_session.proofs.PushRows.{GoesOn}
use Rattle.key_session.proofs.PushCalls.{CountsCalls}
use Rattle.key_session.proofs.replies.Replies.push_rows.Given as goal

abbrev pub invariant-rows : goal.invariant-rows
invariant-rows g l = record {
  can : CanPush (g.F.Flash.state l.flash) l.pool l.self.spool l.self.hand;
  hand : l.self.hand ≡ l.fn.self.hand;
  is_open : l.self.is_open ≡ l.fn.self.is_open;
  goes : GoesOn g.F.Flash.told (g.F.Flash.state l.fn.flash) (g.F.Flash.state l.flash) l.fn.pool l.pool l.fn.self.hand l.fn.self.spool l.self.spool l.payload l.rest;
  counts : CountsCalls g.F.Flash.told (g.F.Flash.state l.fn.flash) (g.F.Flash.state l.flash) l.fn.pool l.fn.self.hand l.fn.self.spool l.self.spool l.payload;
}

abbrev pub decreases-rows : goal.decreases-rows
decreases-rows g l = length l.rest
