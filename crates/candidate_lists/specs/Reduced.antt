-- The one list that passes over lists leave, as a list of candidates.
use Rattle.std.specs.Prelude.{ℕ, ◌^◌, ◌<◌, ◌≤◌, ◌↔◌, List}
use Rattle.ghost_base.specs.declared.runs.Run.{Run}
use Rattle.spill_pass.specs.Lists.{InList, IsOrdered}
use Rattle.spill_pass.specs.PassContents.{InLists}
use Rattle.spill_pass.specs.ReduceContents.{IsUnion}
use Rattle.spill_pass.specs.Reducing.{whole_list}
use Rattle.candidate_lists.specs.Held.{IsRow, over}

-- the run, from page `low` on, has exactly the identifiers of lists of the rows
pub record IsReduced (page : ℕ → List ℕ) (low rows : ℕ) (lists : List (List ℕ)) (run : Run) : Type 0 where
  pub union : IsUnion page lists run
  pub rows_are : (id : ℕ) → InLists lists id → IsRow rows id
  pub few : rows < 2 ^ 32
  pub from : low ≤ run.first

abbrev pub ReducedIsOrdered : Type 0
ReducedIsOrdered =
    (right page : ℕ → List ℕ) (low rows : ℕ) (lists : List (List ℕ)) (run : Run) → IsReduced page low rows lists run
    → IsOrdered page (over right page low) rows (whole_list run)

abbrev pub ReducedHas : Type 0
ReducedHas =
    (right page : ℕ → List ℕ) (low rows : ℕ) (lists : List (List ℕ)) (run : Run) → IsReduced page low rows lists run
    → (id : ℕ) → InList (over right page low) (whole_list run) id ↔ InLists lists id
