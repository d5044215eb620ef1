-- Where lists of candidates lie that stand.
use Rattle.std.specs.Prelude.{ℕ, ◌≤◌, ◌⊎◌}
use Rattle.ghost_model.specs.core.Channel.{Catalog}
use Rattle.ghost_model.specs.forms.Layout.{scratch_end, spool_end}
use Rattle.edge_traits.specs.Devices.{Device}
use Rattle.candidate_lists.specs.declared.closing.Closed.{Closed}
use Rattle.candidate_lists.specs.Outside.{ClosedOutside}
use Rattle.candidate_gathering.specs.cross_forms.Stages.{Stands}

-- in scratch, so outside of what lies before and behind it
abbrev pub StandingListsLieInScratch : Type 0
StandingListsLieInScratch =
    (cat : Catalog) (table : ℕ) (device : Device) (closed : Closed) → Stands cat table device closed
    → (low high : ℕ) → (high ≤ spool_end cat) ⊎ (scratch_end cat ≤ low) → ClosedOutside low high closed
