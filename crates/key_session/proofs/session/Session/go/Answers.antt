use Rattle.std.proofs.Common.{◌+◌, ◌++◌, ◌∷◌, [], ℕ, arith, refl, sym, subst}
use Rattle.leakless_plan.specs.declared.plan.Plan.{Plan}
use Rattle.std.specs.Prelude.{◌≢◌}
use Rattle.page_pool.specs.Pools.{bytes_at}
use Rattle.key_session.specs.Kept.{lease_of}
use Rattle.key_session.specs.Going.{CanRun, Speaks, Stands, leases_of}
use Rattle.key_session.specs.declared.buffers.Buffers.{Buffers}
use Rattle.key_session.proofs.Leasing.{taken_amid, taken_channel}
use Rattle.key_session.proofs.Moving.{alone_kept}
use Rattle.key_session.proofs.Attending.{owed_behind}
use Rattle.key_session.proofs.Unsent.{far_unsent}
use Rattle.key_session.proofs.Stepping.{still_suffices}
use Rattle.key_session.proofs.session.Session.go.Goals as goal

pub returns-clause-live : goal.returns-clause-live
returns-clause-live g c = λ plan texts journal since sink near live.
    let amid = taken_amid plan g.F.Flash.told texts journal since (record { sink = sink; flash = g.F.Flash.state c.args.flash.now }) c.args.pool.now c.args.self.now c.requires.taken live in
    let channel = taken_channel c.args.self.now.cat.now c.args.self.now.at.now texts journal c.args.pool.now c.args.self.now.frame c.args.self.now.pump c.args.self.now.buffers c.requires.taken live.channel in
    let run = subst (λ (by : Plan). CanRun by g.F.Flash.told c.args.self.now.cat.now (g.F.Flash.state c.args.flash.now) c.args.pool.now (c.args.self.now.teller.count + 1) (lease_of c.args.self.now.replies) c.args.self.now.teller.running) amid.plan c.requires.can.has.run in
    let moved = c.make_move-refusal.ensures.moved plan texts journal since sink c.args.self.now.teller c.spared.ensures.spared near channel amid live.refusal_is run c.requires.can.has.apart in
    record {
      made = moved.made;
      went = moved.went;
      event = c.make_move-refusal.result.1;
      page = bytes_at c.make_move-refusal.new.pool c.args.self.now.frame;
      tells = moved.tells;
      paced = c.moved.ensures.paced;
      few = c.make_move-refusal.ensures.few;
      fills = moved.fills;
      counts = (let calls = c.make_move-refusal.ensures.writes.never_falls in let faults = c.make_move-refusal.ensures.never_falls in record { calls = omega (arith, calls); faults = omega (arith, faults) });
      cat = refl;
      teller = refl;
      live = record {
        channel = subst (λ (b : Buffers). Speaks b c.args.self.now.cat.now c.args.self.now.at.now texts (journal ++ moved.made ∷ []) c.make_move-refusal.new.pool c.args.self.now.frame c.make_move-refusal.new.pump) (sym c.requires.taken) moved.channel;
        amid = subst (λ (b : Buffers). Stands b plan g.F.Flash.told c.args.self.now.cat.now texts (journal ++ moved.made ∷ []) since (record { sink = sink; flash = g.F.Flash.state c.make_move-refusal.new.flash }) c.make_move-refusal.new.pool
            c.make_move-refusal.new.pump c.args.self.now.teller c.make_move-refusal.new.replies) (sym c.requires.taken) moved.amid;
        refusal_is = moved.refusal_is;
        owed = owed_behind c.args.self.now.cat.now _ c.make_move-refusal.result.1 _ _ _ _ _ moved.tells moved.same_ask c.moved.ensures.paced.owed;
        far = far_unsent c.args.self.now.cat.now c.args.self.now.at.now texts journal moved.made _ c.make_move-refusal.result.1 c.args.self.now.teller.count c.make_move-refusal.new.pump moved.channel.after moved.channel.proper near moved.tells moved.same_ask;
      };
    }

pub make_move-refusal-requires-clause-some : goal.make_move-refusal-requires-clause-some
make_move-refusal-requires-clause-some g c = record { teller = c.args.self.now.teller; spared = c.spared.ensures.spared; apart = c.requires.can.has.apart; move = c.requires.some }

pub returns-clause-can : goal.returns-clause-can
returns-clause-can g c = record {
  version = c.requires.can.version;
  suffices = still_suffices c.args.self.now.cat.now (g.F.Flash.state c.args.flash.now) (g.F.Flash.state c.make_move-refusal.new.flash) c.make_move-refusal.ensures.writes.page_count c.requires.can.suffices;
  has = record {
    run = subst (λ (lease : ℕ). CanRun c.args.self.now.teller.plan g.F.Flash.told c.args.self.now.cat.now (g.F.Flash.state c.make_move-refusal.new.flash) c.make_move-refusal.new.pool (c.args.self.now.teller.count + 1) lease c.args.self.now.teller.running) (sym c.make_move-refusal.ensures.lease) (c.make_move-refusal.ensures.can c.args.self.now.teller.plan c.args.self.now.teller c.spared.ensures.spared c.requires.some c.requires.can.has.apart c.requires.can.has.run);
    apart = record {
      out = alone_kept (leases_of c.args.self.now.teller.running) c.args.self.now.frame c.args.pool.now c.make_move-refusal.new.pool c.make_move-refusal.ensures.out c.requires.can.has.apart.out;
      replies = subst (λ (lease : ℕ). c.args.self.now.frame ≢ lease) (sym c.make_move-refusal.ensures.lease) c.requires.can.has.apart.replies;
    };
  };
}
