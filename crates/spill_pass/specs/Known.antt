-- Lists of which a slot may be blamed, or that are in order.
use Rattle.std.specs.Prelude.{ℕ, ⊤, List, Option, None, Some, Result, Ok, Err}
use Rattle.ghost_base.specs.declared.runs.ListRef.{ListRef}
use Rattle.ghost_base.specs.Runs.{run_of}
use Rattle.flash_pages.specs.declared.fault.PageFault.{PageFault}
use Rattle.id_merge.specs.Since.{Since, MayBlame}
use Rattle.spill_pass.specs.Lists.{IsOrdered}

-- a slot of the list's run may be blamed; or pages are told, and its identifiers ascend, from 1 to the rows
abbrev pub KnowsList : (since : Since) (page : ℕ → List ℕ) (rows : ℕ) → ListRef → Type 0
KnowsList since page rows list = MayBlame since (run_of list.run) (IsOrdered page page rows list)

-- of a list that was answered a slot may be blamed, or its identifiers ascend, from 1 to the rows
abbrev pub KnowsAnswer : (since : Since) (page : ℕ → List ℕ) (rows : ℕ) → Result (Option ListRef) PageFault → Type 0
KnowsAnswer since page rows (Ok None) = ⊤
KnowsAnswer since page rows (Ok (Some list)) = KnowsList since page rows list
KnowsAnswer since page rows (Err fault) = ⊤

-- what is at hand was still read since then, whatever the answer
pub record KnowsNext (given : Type 0) (since : Since) (page : ℕ → List ℕ) (rows : ℕ) (result : Result (Option ListRef) PageFault) : Type 0 where
  pub still : given
  pub list : KnowsAnswer since page rows result
