use Rattle.std.proofs.Common.{◌≡◌, ℕ, List, true, IfOk, subst}
use Rattle.ghost_base.specs.Runs.{run_of}
use Rattle.ghost_model.specs.forms.Runs.{Stores}
use Rattle.flash_pages.specs.Writers.{HasWritten}
use Rattle.flash_pages.proofs.writer.RunWriter.finish_and_count.Goals as goal

pub returns-clause-stores : goal.returns-clause-stores
returns-clause-stores g c =
    subst (λ (bytes : List ℕ). IfOk c.finish_and_count.result (λ run. g.F.Flash.told ≡ true → (records : List (List ℕ))
    → HasWritten g.F.Flash.told (g.F.Flash.state c.args.flash.now).page bytes c.args.self.now.filler records
    → Stores (g.F.Flash.state c.finish_and_count.new.flash).page (run_of run) records))
    c.page.ensures.bytes c.finish_and_count.ensures.stores
