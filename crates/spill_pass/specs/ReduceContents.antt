-- What the lists of all passes have together, and the one list at their end.
use Rattle.std.specs.Prelude.{ℕ, ◌↔◌, Bool, ⊤, List, map, Option, Some, None, Result, Ok, Err, IfSome}
use Rattle.ghost_model.specs.forms.Runs as runs
use Rattle.ghost_base.specs.declared.runs.Run.{Run}
use Rattle.ghost_base.specs.Runs.{run_of}
use Rattle.page_pool.specs.Pools.{Pool}
use Rattle.flash_pages.specs.declared.fault.PageFault.{PageFault}
use Rattle.spill_pass.specs.declared.groups.Groups.{Groups}
use Rattle.spill_pass.specs.Merging.{AreAscending, IsOneOf}
use Rattle.spill_pass.specs.PassContents.{HasAll, InLists}

-- where pages are told: by right pages the lists of the pass at hand have together what all lists have
pub record ReduceHas (has : (ℕ → List ℕ) → List (List ℕ) → Type 0) (told : Bool) (page : ℕ → List ℕ) (pool : Pool) (groups : Groups) (lists : List (List ℕ)) : Type 0 where
  pub right : ℕ → List ℕ
  pub ids : List (List ℕ)
  pub holds : HasAll (has right) told right page pool groups ids
  pub all : (id : ℕ) → InLists lists id ↔ InLists ids id

-- the run has exactly the identifiers of the lists, each once and ascending
pub record IsUnion (page : ℕ → List ℕ) (lists : List (List ℕ)) (run : Run) : Type 0 where
  pub ids : List ℕ
  pub stores : runs.Stores page (run_of run) (map runs.number_cell ids)
  pub ascending : AreAscending ids
  pub all : (id : ℕ) → InLists lists id ↔ IsOneOf ids id

abbrev pub TurnHas : (has : (ℕ → List ℕ) → List (List ℕ) → Type 0) (told : Bool) (page : ℕ → List ℕ) → Pool → Groups → (lists : List (List ℕ)) → Option Run → Result (Option ℕ) PageFault → Type 0
TurnHas has told page pool groups lists run (Ok (Some calls)) = ReduceHas has told page pool groups lists
TurnHas has told page pool groups lists run (Ok None) = IfSome run (IsUnion page lists)
TurnHas has told page pool groups lists run (Err fault) = ⊤
