use Rattle.std.proofs.Common.{◌≡◌, ℕ, true, false, Option, inl, inr, refl}
use Rattle.ghost_model.specs.core.Channel.{Catalog}
use Rattle.ghost_model.specs.core.Query.{Query}
use Rattle.ghost_model.specs.forms.Layout.{Cells, column_file}
use Rattle.edge_traits.specs.Devices.{Device}
use Rattle.visible_spool.specs.declared.half.Half.{Half}
use Rattle.leakless_plan.specs.declared.form.Form.{Form}
use Rattle.leakless_plan.specs.declared.plan.Plan.{Plan}
use Rattle.leakless_plan.specs.declared.plan.Plan.TheVariants as plans
use Rattle.candidate_gathering.specs.known.Found.{InFile, InReplies, InScratch, WasFoundByForms, WasFoundInFile}
use Rattle.key_exec.specs.Blaming.{IsReadBy, WasDamaged}
use Rattle.key_exec.proofs.ReadLemmas.{at_run}
use Rattle.key_exec.proofs.laws.damage_lies_in_files.Goals as goal

not_untold : true ≡ false → ⊥
not_untold e = cc

in_file : (since : ℕ) (device : Device) (cat : Catalog) (asked : Query) (forced : Option Form) (top side number slot found : ℕ)
    → WasFoundByForms true since device cat asked forced top side number slot found → WasFoundInFile since device cat (IsReadBy (plans.Linked forced) cat asked top) number slot found
in_file since device cat asked forced top side number slot found (InFile file) = record { file = file.file; has = file.has; read_for = file.read_for; at = file.at }
in_file since device cat asked forced top side number slot found (InReplies untold between) = absurd (not_untold untold)
in_file since device cat asked forced top side number slot found (InScratch untold between) = absurd (not_untold untold)

lies : (by : Plan) (since : ℕ) (device : Device) (cat : Catalog) (asked : Query) (top side : ℕ) (half : Half) (number slot found : ℕ)
    → WasDamaged by true since device cat asked top side half number slot found → WasFoundInFile since device cat (IsReadBy by cat asked top) number slot found
lies plans.Scan since device cat asked top side half number slot found (inl is) =
    let cell = is.cell in
    let run = column_file cat is.table is.column in
    record {
      file = Cells is.table is.column;
      has = cell.hidden;
      read_for = is.read_for;
      at = at_run since device run run refl cell.place number slot found cell.bytes cell.within cell.page_is cell.slot_is cell.read cell.found_is;
    }
lies plans.Scan since device cat asked top side half number slot found (inr is) = absurd (not_untold is.row.untold)
lies (plans.Linked forced) since device cat asked top side half number slot found was = in_file since device cat asked forced top side number slot found was

pub returns : goal.returns
returns c = record { files = lies }
