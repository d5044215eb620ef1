-- A region of pages that others write: what is read and written for a filter lies outside of it.
use Rattle.std.specs.Prelude.{ℕ}
use Rattle.spill_pass.specs.Lists.{ListOutside}
use Rattle.spill_pass.specs.Sparing.{MergingOutside}
use Rattle.candidate_filter.specs.declared.filling.Filling.{Filling}
use Rattle.candidate_filter.specs.declared.sifting.Sifting.{Sifting}
use Rattle.candidate_filter.specs.Sifts.{TableBeside}

-- no page of the list's run lies in a region
abbrev pub FillingOutside : (low high : ℕ) → Filling → Type 0
FillingOutside low high filling = ListOutside low high filling.cursor.list

-- no page of the lists, of the area and of the subtree key table lies there
pub record SiftingOutside (low high : ℕ) (sifting : Sifting) : Type 0 where
  pub merging : MergingOutside low high sifting.into
  pub keys : TableBeside low high sifting.keys
