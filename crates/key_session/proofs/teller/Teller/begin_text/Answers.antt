use Rattle.std.proofs.Common.{◌+◌, ap, refl, sym, subst, arith, ℕ, List}
use Rattle.std.specs.Prelude.{◌%◌, is_some, option_map, Option, []}
use Rattle.std.specs.List.{cons_option}
use Rattle.ghost_model.specs.core.Asks.{asked_of}
use Rattle.session_laws.specs.TextEnds.{heard_in}
use Rattle.key_session.proofs.Beginning.{taken_now, none_taken}
use Rattle.key_session.specs.Going.{IsOutAlone}
use Rattle.leakless_plan.specs.declared.plan.Plan.{Plan}
use Rattle.key_exec.specs.Telling.{IsUnderWay}
use Rattle.key_session.proofs.Steps.{begun_left, alone_of, room_of, below_two}
use Rattle.key_session.proofs.teller.Teller.begin_text.Goals as goal

pub returns-clause-can : goal.returns-clause-can
returns-clause-can c = λ told device pool lease suffices half run.
    let alone = alone_of c.args.self.now.plan told c.args.cat.now device pool _ lease c.args.self.now.running c.requires.none run in record {
      can = c.begin.ensures.can told ((c.args.self.now.count + 1) % 2) device pool (below_two _) suffices (rw c.half-half.ensures.half half) (room_of pool lease [] alone);
      alone = subst (λ (leases : List ℕ). IsOutAlone leases pool lease) (sym c.begin.ensures.leases) alone;
    }

pub returns-clause-told : goal.returns-clause-told
returns-clause-told c = λ plan told texts journal since now pool suffices bytes can after next amid.
    let going = none_taken plan told c.args.cat.now texts journal since now pool c.args.pump.now c.args.self.now c.args.replies.now c.requires.none amid in
    let left = ap (λ (ahead : Option _). cons_option (option_map (λ text. text.now) ahead) c.args.self.now.texts) c.in-Some.is in
    let state_is = c.reply_state-state.ensures c.args.cat.now (asked_of c.args.cat.now.schema texts) journal after in
    let half = c.kept_halves_are_halves.ensures.half told now.flash pool c.args.cat.now (heard_in c.args.cat.now texts journal) (c.args.self.now.count + 1) going.top (c.args.self.now.count + 1) c.args.replies.now going.telling.kept (omega arith) in
    let alone = alone_of plan told c.args.cat.now now.flash pool _ _ c.args.self.now.running c.requires.none can in
    let under_way = c.begin.ensures.under_way told ((c.args.self.now.count + 1) % 2) now.flash now.sink pool (below_two _) suffices (rw c.half-half.ensures.half half) (room_of pool _ [] alone) in
    record {
      plan = amid.plan;
      first = now;
      going = going;
      next = next.settled;
      state = c.reply_state-state.result;
      half = _;
      telling = c.begin.result;
      runs = refl;
      taken = taken_now (record {
        whole = c.replies_are_whole.ensures;
        to_asks = c.whole_replies_are_all.ensures.asks;
        of_asked = c.whole_replies_are_of_asked.ensures.asked;
        of_all = c.whole_replies_are_of_asked.ensures.all;
        given = c.kept_are_given.ensures.given;
        rows = c.kept_are_given.ensures.rows;
      }) c.texts_are_decided.ensures plan told c.args.cat.now texts journal bytes since now pool c.args.pump.now _ c.args.self.now.count c.args.self.now.counts
          c.args.replies.now c.in-Some.text.now c.args.self.now.texts c.reply_state-state.result c.begin.result going left next state_is c.begin.ensures.number
          (rw (sym c.half-half.ensures.half, sym c.is_marked-is_marked.ensures.marked) (subst (λ (by : Plan). IsUnderWay by told c.args.cat.now ((c.args.self.now.count + 1) % 2) c.in-Some.text.now c.reply_state-state.result c.is_marked-is_marked.result c.half-half.result now.flash now.flash now.sink now.sink pool c.begin.result) amid.plan under_way));
    }

pub returns-clause-fewer : goal.returns-clause-fewer
returns-clause-fewer c =
    begun_left _ (is_some c.args.self.now.ahead) (is_some c.args.self.now.running) _ _ c.requires.left c.requires.none
    c.begin.ensures.left
