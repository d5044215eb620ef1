use Rattle.std.proofs.Common.{[], ◌∷◌, sym, subst}
use Rattle.page_pool.specs.Pools.{IsOut}
use Rattle.page_pool.proofs.Leases.{lease_outs, other_out}
use Rattle.key_session.specs.Going.{IsLive}
use Rattle.key_session.specs.declared.buffers.Buffers.TheVariants as buffers
use Rattle.key_session.specs.declared.replies.Replies.{Replies}
use Rattle.key_session.proofs.Leasing.{live_taken}
use Rattle.key_session.proofs.session.Session.take_buffers.Goals as goal

pub returns-in-Some-lease-clause-live : goal.returns-in-Some-lease-clause-live
returns-in-Some-lease-clause-live c = λ plan told texts journal since now live.
    let outs = lease_outs c.lease.new.self c.in-Some-lease.frame (c.in-Some.lease ∷ []) c.in-Some-lease.ensures.leased c.in-Some-lease.ensures.was_free (c.in-Some.ensures.is_out, tt) in
    let out : IsOut c.lease-in-Untaken.new.self c.in-Some.lease =
    record { within = outs.1.0.within; out = other_out c.lease-in-Untaken.new.self (c.in-Some-lease.frame ∷ []) c.in-Some.lease outs.1.0.out } in
    subst (λ (replies : Replies). IsLive plan told texts journal since now c.lease-in-Untaken.new.self (record (c.args.self.now) { frame = c.in-Some-lease.frame; replies = replies; buffers = buffers.Taken })) (sym c.take.ensures.taken)
    (live_taken plan told texts journal since now c.args.pool.now c.lease-in-Untaken.new.self c.in-Some.lease c.in-Some-lease.frame c.args.self.now c.in-Untaken.is out live)
