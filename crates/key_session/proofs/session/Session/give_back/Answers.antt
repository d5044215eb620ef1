use Rattle.std.proofs.Common.{sym, subst}
use Rattle.key_session.specs.Kept.{lease_of}
use Rattle.key_session.specs.Going.{IsLive}
use Rattle.key_session.specs.declared.buffers.Buffers.TheVariants as buffers
use Rattle.key_session.specs.declared.replies.Replies.{Replies}
use Rattle.key_session.proofs.Leasing.{live_given}
use Rattle.key_session.proofs.session.Session.give_back.Goals as goal

pub returns-in-Ended-clause-live : goal.returns-in-Ended-clause-live
returns-in-Ended-clause-live c = λ plan told texts journal since now live.
    subst (λ (replies : Replies). IsLive plan told texts journal since now c.give-in-Ended-2.new.self (record (c.args.self.now) { frame = c.take.new.dest; replies = replies; buffers = buffers.GivenBack })) (sym c.give.ensures.given)
    (live_given plan told texts journal since now c.args.pool.now c.give-in-Ended-2.new.self (lease_of c.give.new.self) c.take.new.dest c.args.self.now c.requires.taken live)
