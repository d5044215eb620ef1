-- The lists of the next pass have what those of the last one had, and the one list has it.
use Rattle.std.proofs.Common.{◌≡◌, ℕ, ◌≤◌, ◌↔◌, inl, inr, Bool, List, [], ◌∷◌, length, map, sym, subst, arith}
use Rattle.std.specs.Prelude.{Option, Some, None, IfSome}
use Rattle.std.proofs.lemmas.List.{append-nil}
use Rattle.ghost_model.specs.forms.Runs.{Stores, number_cell}
use Rattle.ghost_base.specs.declared.runs.Run.{Run}
use Rattle.ghost_base.specs.Runs.{run_of}
use Rattle.page_pool.specs.Pools.{Pool}
use Rattle.spill_pass.specs.declared.groups.Groups.{Groups}
use Rattle.spill_pass.specs.declared.groups.PlacedLists.{PlacedLists}
use Rattle.spill_pass.specs.declared.passes.PassTurn.{PassTurn}
use Rattle.spill_pass.specs.declared.passes.PassTurn.TheVariants.{Went, Placed}
use Rattle.spill_pass.specs.Grouping.{AreRowLists, IsGrouped, StoresLists}
use Rattle.spill_pass.specs.PassContents.{HasAll, InLists, PassHas, StandsAll}
use Rattle.spill_pass.specs.ReduceContents.{IsUnion, ReduceHas, TurnHas}
use Rattle.std.specs.Prelude.{Ok}
use Rattle.spill_pass.proofs.PassContents.{begun_has, in_cons, in_first, in_none}
use Rattle.spill_pass.proofs.PlacedContents.{count_places}

both_ways : {lists ids done : List (List ℕ)} → ((id : ℕ) → InLists lists id ↔ InLists ids id) → ((id : ℕ) → InLists ids id ↔ InLists done id) → (id : ℕ) → InLists lists id ↔ InLists done id
both_ways one two id = (λ x. (two id).0 ((one id).0 x), λ x. (one id).1 ((two id).1 x))

pub stands_on : {page : ℕ → List ℕ} {rows : ℕ} {lists ids : List (List ℕ)} {placed : PlacedLists} → ((id : ℕ) → InLists lists id ↔ InLists ids id) → StandsAll page rows ids placed → StandsAll page rows lists placed
stands_on same stands = record { done = stands.done; stores = stands.stores; ordered = stands.ordered; all = both_ways same stands.all }

-- at most one list
one_ids :
    (page : ℕ → List ℕ) (rows : ℕ) (lists done : List (List ℕ)) (placed : PlacedLists) → length done ≤ 1 → StoresLists page done placed → AreRowLists rows done
    → ((id : ℕ) → InLists lists id ↔ InLists done id) → IsUnion page lists placed.lists
one_ids page rows lists [] placed few stores ordered all = record {
  ids = [];
  stores = stores.ids;
  ascending = λ i j before within. absurd (omega (arith, within));
  all = λ id. (λ x. absurd (in_none id ((all id).0 x)), λ one. absurd (omega (arith, one.within)));
}
one_ids page rows lists (first ∷ []) placed few stores ordered all =
    let P : List ℕ → Type 0 = λ ids. Stores page (run_of placed.lists) (map number_cell ids) in
    record {
      ids = first;
      stores = subst P (append-nil first) stores.ids;
      ascending = (ordered 0 (omega arith)).ascending;
      all = λ id. (
        λ x. elim (in_cons first [] id ((all id).0 x)) [ inl one ↦ one | inr none ↦ absurd (in_none id none) ],
        λ one. (all id).1 (in_first first [] id one),
      );
    }
one_ids page rows lists (first ∷ second ∷ rest) placed few stores ordered all = absurd (omega (arith, few))

pub one_list : {page : ℕ → List ℕ} {rows : ℕ} {lists : List (List ℕ)} {placed : PlacedLists} → placed.places.count ≤ 1 → StandsAll page rows lists placed → IsUnion page lists placed.lists
one_list {page = page} {rows = rows} {lists = lists} {placed = placed} few stands =
    one_ids page rows lists stands.done placed (omega (arith, few, stands.stores.places.has.count, count_places 0 stands.done)) stands.stores stands.ordered stands.all

-- the next pass
pub next_has :
    {told : Bool} {page : ℕ → List ℕ} {pool : Pool} {groups : Groups} {lists : List (List ℕ)} {rows : ℕ} {placed : PlacedLists} (has : (ℕ → List ℕ) → List (List ℕ) → Type 0)
    (stands : StandsAll page rows lists placed) → has page stands.done → groups.into.merge.unions.items ≡ 0 ∷ []
    → IsGrouped told page groups.into.merge [] page pool groups → ReduceHas has told page pool groups lists
next_has {page = page} has stands left union grouped = record {
  right = page;
  ids = stands.done;
  holds = begun_has (has page) stands.done left union grouped;
  all = stands.all;
}

-- a turn of the pass
pub went_all :
    {has : List (List ℕ) → Type 0} {told : Bool} {right page : ℕ → List ℕ} {pool : Pool} {groups : Groups} (rows : ℕ) {lists : List (List ℕ)} {turn : PassTurn} {calls : ℕ}
    → turn ≡ Went calls → PassHas has told right page pool groups rows lists (Ok turn) → HasAll has told right page pool groups lists
went_all {has = has} {told = told} {right = right} {page = page} {pool = pool} {groups = groups} rows {lists = lists} is turned =
    let P : PassTurn → Type 0 = λ t. PassHas has told right page pool groups rows lists (Ok t) in subst P is turned

pub placed_all :
    (has : List (List ℕ) → Type 0) (told : Bool) (right : ℕ → List ℕ) {page : ℕ → List ℕ} (pool : Pool) (groups : Groups) {rows : ℕ} {lists : List (List ℕ)} {turn : PassTurn} {placed : PlacedLists} {calls : ℕ}
    → turn ≡ Placed placed calls → PassHas has told right page pool groups rows lists (Ok turn) → StandsAll page rows lists placed
placed_all has told right {page = page} pool groups {rows = rows} {lists = lists} is turned =
    let P : PassTurn → Type 0 = λ t. PassHas has told right page pool groups rows lists (Ok t) in subst P is turned

pub run_has : {page : ℕ → List ℕ} {lists : List (List ℕ)} {run : Option Run} {list : Run} → run ≡ Some list → IsUnion page lists list → IfSome run (IsUnion page lists)
run_has {page = page} {lists = lists} is union = let P : Option Run → Type 0 = λ o. IfSome o (IsUnion page lists) in subst P (sym is) union

-- a turn of the passes
pub turned_has :
    {has : (ℕ → List ℕ) → List (List ℕ) → Type 0} {told : Bool} {page : ℕ → List ℕ} {pool : Pool} {groups : Groups} {lists : List (List ℕ)} (run : Option Run) {answer : Option ℕ} {calls : ℕ}
    → answer ≡ Some calls → TurnHas has told page pool groups lists run (Ok answer) → ReduceHas has told page pool groups lists
turned_has {has = has} {told = told} {page = page} {pool = pool} {groups = groups} {lists = lists} run is turned =
    let P : Option ℕ → Type 0 = λ a. TurnHas has told page pool groups lists run (Ok a) in subst P is turned

pub ended_has :
    (has : (ℕ → List ℕ) → List (List ℕ) → Type 0) (told : Bool) (page : ℕ → List ℕ) (pool : Pool) (groups : Groups) (lists : List (List ℕ)) (run : Option Run) {answer : Option ℕ}
    → answer ≡ None → TurnHas has told page pool groups lists run (Ok answer) → IfSome run (IsUnion page lists)
ended_has has told page pool groups lists run is turned =
    let P : Option ℕ → Type 0 = λ a. TurnHas has told page pool groups lists run (Ok a) in subst P is turned
