-- A spill: three lists, the two that the first pass writes with their places, and the one that the last pass leaves; and how many
-- calls passes make at most.
use Rattle.std.specs.Prelude.{◌≡◌, ℕ, ◌==◌, List, [], ◌∷◌, ◌++◌, map, if◌then◌else◌}
use Rattle.std.specs.List.{concat}
use Rattle.ghost_model.specs.forms.Runs.{number_cell}
use Rattle.ghost_model.specs.examples.Flash.{filled}
use Rattle.ghost_base.specs.declared.runs.Run.{Run}
use Rattle.spill_pass.specs.declared.groups.PlacedLists.{PlacedLists}
use Rattle.spill_pass.specs.Calls.{pass_calls}
use Rattle.spill_pass.specs.Grouping.{places_of}
use Rattle.spill_pass.specs.PassContents.{StandsAll}
use Rattle.spill_pass.specs.ReduceContents.{IsUnion}

abbrev pub three_lists : List (List ℕ)
three_lists = (2 ∷ 5 ∷ []) ∷ (3 ∷ 5 ∷ []) ∷ (1 ∷ []) ∷ []

-- the first two are one group, and the third is the last one
abbrev pub two_lists : List (List ℕ)
two_lists = (2 ∷ 3 ∷ 5 ∷ []) ∷ (1 ∷ []) ∷ []

abbrev pub one_list : List ℕ
one_list = 1 ∷ 2 ∷ 3 ∷ 5 ∷ []

abbrev pub run : (first count width : ℕ) → Run
run first count width = record { first = first; count = count; width = width }

-- the runs of the two lists and of their places, and that of the one
abbrev pub placed : PlacedLists
placed = record { lists = run 512 4 4; places = run 576 2 8 }

abbrev pub united : Run
united = run 640 4 4

-- what the three areas have, each in its first page
abbrev pub spilled_page : (number : ℕ) → List ℕ
spilled_page number =
    if number == 512 then filled (concat (map number_cell (concat two_lists)))
    else if number == 576 then filled (concat (places_of 0 two_lists))
    else filled (concat (map number_cell one_list))

pub record SpillOfThreeLists : Type 0 where
  pub places : places_of 0 two_lists ≡ (number_cell 0 ++ number_cell 3) ∷ (number_cell 3 ++ number_cell 1) ∷ []
  pub first_pass : StandsAll spilled_page 5 three_lists placed
  pub last_pass : IsUnion spilled_page three_lists united
  pub a_place_is_left_out : StandsAll spilled_page 5 three_lists (record placed { places = run 576 1 8 }) → ⊥
  pub an_identifier_is_left_out : IsUnion spilled_page three_lists (run 640 3 4) → ⊥

pub record CallsOfPasses : Type 0 where
  pub no_list : pass_calls 0 0 ≡ 8
  pub one_page : pass_calls 1 512 ≡ 19
  pub one_identifier_less : pass_calls 1 511 ≡ 16
  pub a_hundred_lists : pass_calls 100 6400 ≡ 844
