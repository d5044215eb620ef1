-- What stays of a text that is told where others use other pages and buffers.
use Rattle.std.proofs.Common.{◌∙◌, ◌<◌, ℕ, Bool, List, refl, arith}
use Rattle.ghost_model.specs.core.Channel.{Catalog}
use Rattle.ghost_model.specs.core.Query.{Query}
use Rattle.edge_traits.specs.Devices.{Device}
use Rattle.edge_traits.proofs.DeviceFrames.{same_trans}
use Rattle.page_pool.specs.Pools.{Pool, AreOut}
use Rattle.visible_spool.specs.declared.half.Half.{Half}
use Rattle.visible_spool.specs.Sparing.{SparesHalf}
use Rattle.key_lines.specs.Handing.{Handed}
use Rattle.key_exec.specs.declared.job.Job.{Job}
use Rattle.key_exec.specs.declared.job.Phase.{Phase}
use Rattle.key_exec.specs.declared.job.Phase.TheVariants.{Begun, Scanning, Linking, Walking, Over}
use Rattle.key_exec.specs.Jobs as jobs
use Rattle.key_exec.specs.Ready.{IsReady, IsAtPhase, Spares}
use Rattle.leakless_plan.specs.declared.plan.Plan.{Plan}
use Rattle.key_exec.specs.Reading.{KeepsBy}
use Rattle.key_exec.specs.Laws.{JobStaysGiven, JobStaysReady, JobStillStands, JobStillCosts}
use Rattle.key_exec.specs.Telling.{CanTell, CanGoOn, NeedsIn, HasGiven, leases_of}
use Rattle.key_exec.specs.declared.telling.Telling.{Telling}
use Rattle.key_exec.proofs.HalfLemmas.{jobs_spare}
use Rattle.key_exec.proofs.RoomLemmas.{room_spared, out_spared}

pub spares_first : (cat : Catalog) (side : ℕ) (device : Device) → SparesHalf cat side device device
spares_first cat side device = record {
  page_count = refl;
  static = λ number within. record { bytes = refl; blank = refl };
  half = λ number from to. record { bytes = refl; blank = refl };
  never_falls = omega arith;
  gave = λ at page bytes gave. gave;
}

pub spares_on : {cat : Catalog} {side : ℕ} {a b c : Device} → SparesHalf cat side a b → SparesHalf cat side b c → SparesHalf cat side a c
spares_on first second = record {
  page_count = second.page_count ∙ first.page_count;
  static = λ number within. same_trans (first.static number within) (second.static number within);
  half = λ number from to. same_trans (first.half number from to) (second.half number from to);
  never_falls = omega (arith, first.never_falls, second.never_falls);
  gave = λ at page bytes gave. second.gave at page bytes (first.gave at page bytes gave);
}

pub spares_after : (by : Plan) {cat : Catalog} {side : ℕ} {a b c : Device} → side < 2 → SparesHalf cat side a b → KeepsBy by cat b c → SparesHalf cat side a c
spares_after by {cat = cat} {side = side} {b = b} {c = c} low first kept = spares_on first (jobs_spare by cat side b c low kept)

-- the leases of a job that is ready are out
pub out_ready : (cat : Catalog) (asked : Query) (side : ℕ) (told : Bool) (device : Device) (pool : Pool) (job : Job) → IsReady cat asked side told device pool job → AreOut pool (jobs.leases_of job)
out_ready cat asked side told device pool job ready = at job.phase ready.at
  where
    at : (phase : Phase) → IsAtPhase job.by cat asked side told device pool job.at.half job.at.plan job.at.rows job.left job.at.given job.at.spent job.at.work phase → AreOut pool (jobs.leases_in phase)
    at Begun is = tt
    at (Scanning leases scan) is = is.1.1.usable.out
    at (Linking linking) is = is.1.is.buffers.out
    at (Walking leases merge scan) is = is.1.0.out
    at Over is = tt

-- a text that is told may go on
module _ (by : Plan) (told : Bool) (cat : Catalog) (side : ℕ) (before now : Device) (pool later : Pool) where
  pub able : (telling : Telling) → (needs : NeedsIn by told cat side before pool telling.stage → NeedsIn by told cat side now later telling.stage)
      → Spares cat side before now pool later (leases_of telling) → CanTell by told cat side before pool telling → CanTell by told cat side now later telling
  able telling needs spares can = record {
    needs = needs can.needs;
    out = out_spared pool later (leases_of telling) spares.out can.out;
    room = room_spared pool later (leases_of telling) spares.out can.room;
  }

  pub job_able : (job : Job) → JobStaysReady job → Spares cat side before now pool later (jobs.leases_of job) → CanGoOn by told cat side before pool job
      → CanGoOn by told cat side now later job
  job_able job ready spares needs = record {
    by_is = needs.by_is;
    asked = needs.asked;
    ready = ready cat needs.asked side told before now pool later spares needs.ready;
    going = needs.going;
  }

  module _ (text : List ℕ) (half : Half) (start : Device) (first last : Handed) where
    pub given_spared : (job : Job) → JobStaysReady job → JobStillStands job → JobStaysGiven job → JobStillCosts job → Spares cat side before now pool later (jobs.leases_of job)
        → HasGiven by told cat side text half start before first last pool job → HasGiven by told cat side text half start now first last later job
    given_spared job ready stand reads cost spares has = record {
      asked = has.asked;
      read = has.read;
      tree = has.tree;
      by_is = has.by_is;
      half_is = has.half_is;
      ready = ready cat has.asked side told before now pool later spares has.ready;
      reads = reads cat has.asked side told before now pool later spares has.ready start.calls has.reads;
      given = has.given;
      handed_on = has.handed_on;
      counted = has.counted;
      left = λ database replies knows.
          let were = has.left database replies knows in
          record {
            answer = were.answer;
            stands = stand cat has.asked side told before now pool later database replies spares has.ready were.stands;
          };
      paid = λ is database replies knows honest.
          let were = has.paid is database replies knows honest in
          record {
            still = were.still;
            costs = cost cat has.asked side told before now pool later database replies were.still spares has.ready were.costs;
            enough = were.enough;
          };
    }
