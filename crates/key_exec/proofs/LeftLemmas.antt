-- How many steps are left of a text at most.
use Rattle.std.proofs.Common.{◌≡◌, ◌^◌, ◌≤◌, ℕ, Bool, false, arith, Option}
use Rattle.ghost_model.specs.core.Channel.{Catalog}
use Rattle.ghost_model.specs.core.Query.{Query}
use Rattle.edge_traits.specs.Devices.{Device}
use Rattle.page_pool.specs.Pools.{Pool}
use Rattle.visible_spool.specs.declared.half.Half.{Half}
use Rattle.leakless_plan.specs.declared.form.Form.{Form}
use Rattle.leakless_plan.specs.declared.plan.Plan.{Plan}
use Rattle.leakless_plan.specs.declared.plan.Plan.TheVariants as plans
use Rattle.candidate_rows.specs.declared.plan.RowPlan.{RowPlan}
use Rattle.candidate_rows.specs.declared.work.RowWork.{RowWork}
use Rattle.key_exec.specs.declared.job.Phase.{Phase}
use Rattle.key_exec.specs.declared.job.Phase.TheVariants.{Begun, Scanning, Linking, Walking, Over}
use Rattle.key_exec.specs.Jobs as jobs
use Rattle.key_exec.specs.Ready.{IsAtPhase}
use Rattle.key_exec.specs.Telling.{CanTell, NeedsIn, left_of, left_in}
use Rattle.key_exec.specs.declared.telling.Telling.{Telling}
use Rattle.key_exec.specs.declared.telling.Stage.{Stage}
use Rattle.key_exec.specs.declared.telling.Stage.TheVariants.{Refused, Broken, Marked, Answering}

scan_few : (cat : Catalog) (asked : Query) (side : ℕ) (told : Bool) (device : Device) (pool : Pool) (half : Half) (plan : RowPlan) (rows left given spent : ℕ) (work : RowWork) (phase : Phase)
    → rows ≤ 1000000 → IsAtPhase plans.Scan cat asked side told device pool half plan rows left given spent work phase → jobs.scan_left plan rows work phase ≤ 2 ^ 61
scan_few cat asked side told device pool half plan rows left given spent work Begun small at = omega (arith, small)
scan_few cat asked side told device pool half plan rows left given spent work (Scanning leases scan) small at = omega (arith, small, at.1.0.bound)
scan_few cat asked side told device pool half plan rows left given spent work (Linking linking) small at = omega arith
scan_few cat asked side told device pool half plan rows left given spent work (Walking leases merge scan) small at = omega arith
scan_few cat asked side told device pool half plan rows left given spent work Over small at = omega arith

not_scan : (forced : Option Form) → plans.Linked forced ≡ plans.Scan → ⊥
not_scan forced e = cc

-- by the indexes a job that goes on counts them
index_few : (forced : Option Form) (cat : Catalog) (asked : Query) (side : ℕ) (told : Bool) (device : Device) (pool : Pool) (half : Half) (plan : RowPlan) (rows left given spent : ℕ) (work : RowWork) (phase : Phase)
    → jobs.is_ended phase ≡ false → IsAtPhase (plans.Linked forced) cat asked side told device pool half plan rows left given spent work phase → left ≤ 2 ^ 61
index_few forced cat asked side told device pool half plan rows left given spent work Begun going at = absurd (not_scan forced at.0)
index_few forced cat asked side told device pool half plan rows left given spent work (Scanning leases scan) going at = absurd (not_scan forced at.0)
index_few forced cat asked side told device pool half plan rows left given spent work (Linking linking) going at = omega (arith, at.1.counted.most)
index_few forced cat asked side told device pool half plan rows left given spent work (Walking leases merge scan) going at = omega (arith, at.1.1.most)
index_few forced cat asked side told device pool half plan rows left given spent work Over going at = cc

job_few : (by : Plan) (cat : Catalog) (asked : Query) (side : ℕ) (told : Bool) (device : Device) (pool : Pool) (half : Half) (plan : RowPlan) (rows left given spent : ℕ) (work : RowWork) (phase : Phase)
    → rows ≤ 1000000 → jobs.is_ended phase ≡ false → IsAtPhase by cat asked side told device pool half plan rows left given spent work phase
    → jobs.left_in by plan rows left work phase ≤ 2 ^ 61
job_few plans.Scan cat asked side told device pool half plan rows left given spent work phase small going at =
    scan_few cat asked side told device pool half plan rows left given spent work phase small at
job_few (plans.Linked forced) cat asked side told device pool half plan rows left given spent work phase small going at =
    index_few forced cat asked side told device pool half plan rows left given spent work phase going at

pub few_left : (by : Plan) (told : Bool) (cat : Catalog) (side : ℕ) (device : Device) (pool : Pool) (one : Telling) → CanTell by told cat side device pool one → left_of one ≤ 2 ^ 61
few_left by told cat side device pool one can = at one.stage can.needs
  where
    at : (stage : Stage) → NeedsIn by told cat side device pool stage → left_in stage ≤ 2 ^ 61
    at (Refused refusal) needs = omega arith
    at (Broken state) needs = omega arith
    at Marked needs = omega arith
    at (Answering job) needs =
        job_few job.by cat needs.asked side told device pool job.at.half job.at.plan job.at.rows job.left job.at.given job.at.spent job.at.work job.phase needs.ready.is_for.small needs.going needs.ready.at
