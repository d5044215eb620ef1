-- The names of the plans in a command line.
use Rattle.std.specs.Prelude.{ℕ, List, Option, Some, None, codes, bytes_eq, if◌then◌else◌}
use Rattle.leakless_plan.specs.declared.form.Form.TheVariants as form
use Rattle.leakless_plan.specs.declared.plan.Plan.{Plan}
use Rattle.leakless_plan.specs.declared.plan.Plan.TheVariants as plan

abbrev pub plan_named : List ℕ → Option Plan
plan_named name =
    if bytes_eq name (codes "auto") then Some (plan.Linked None)
    else if bytes_eq name (codes "scan") then Some plan.Scan
    else if bytes_eq name (codes "pre") then Some (plan.Linked (Some form.Pre))
    else if bytes_eq name (codes "post") then Some (plan.Linked (Some form.Post))
    else if bytes_eq name (codes "cross-pre") then Some (plan.Linked (Some form.CrossPre))
    else if bytes_eq name (codes "cross-post") then Some (plan.Linked (Some form.CrossPost)) else None
