-- Several turns one after another, at the same areas.
use Rattle.std.proofs.Common.{◌≡◌, ℕ, ◌<◌, ◌≤◌, Bool, sym, subst, arith}
use Rattle.std.specs.Prelude.{Option, Some, IfSome}
use Rattle.ghost_base.specs.declared.runs.Run.{Run}
use Rattle.edge_traits.specs.Devices.{Device}
use Rattle.page_pool.specs.Pools.{Pool}
use Rattle.spill_pass.specs.declared.groups.Groups.{Groups}
use Rattle.spill_pass.specs.declared.reduce.Areas.{Areas}
use Rattle.spill_pass.specs.Reducing.{IsReducing, ReduceGoes, ReduceTells, ReduceTurned}
use Rattle.spill_pass.specs.Sources.{Source}
use Rattle.spill_pass.proofs.ReduceTurning.{reduce_goes_on}

-- several turns, at the same areas
pub reduce_again :
    {areas areas' : Areas} {a b c : Device} {pool mid later : Pool} {one two three : Source} {old new last : Groups}
    → areas' ≡ areas → ReduceGoes areas a b pool mid one two old new → ReduceGoes areas' b c mid later two three new last
    → ReduceGoes areas a c pool later one three old last
reduce_again {b = b} {c = c} {mid = mid} {later = later} {two = two} {three = three} {new = new} {last = last} same first second =
    let P : Areas → Type 0 = λ x. ReduceGoes x b c mid later two three new last in reduce_goes_on first (subst P same second)

pub still_reducing :
    {told : Bool} {now : Device} {later : Pool} {rest : Source} {areas areas' : Areas} {groups : Groups} {fan fan' : ℕ} {merging : Bool}
    → areas' ≡ areas → fan' ≡ fan → IsReducing told now later rest areas groups fan merging → IsReducing told now later rest areas' groups fan' merging
still_reducing {told = told} {now = now} {later = later} {rest = rest} {areas' = areas'} {groups = groups} {fan = fan} {merging = merging} same same_fan is =
    let P : Areas → Type 0 = λ x. IsReducing told now later rest x groups fan merging in
    let Q : ℕ → Type 0 = λ f. IsReducing told now later rest areas' groups f merging in
    subst Q (sym same_fan) (subst P (sym same) is)

pub less_than : (a b c d : ℕ) → a ≡ b → b < c → c ≤ d → a < d
less_than a b c d same less few = omega (arith, same, less, few)

pub some_holds : {A P : Type 0} {answer : Option A} {value : A} → answer ≡ Some value → IfSome answer (λ _. P) → P
some_holds {A = A} {P = P} is holds = let Q : Option A → Type 0 = λ o. IfSome o (λ _. P) in subst Q is holds

pub at_most_of : (a b : ℕ) → a < b → a ≤ b
at_most_of a b less = omega (arith, less)

pub reduce_turned :
    {told : Bool} {before now : Device} {pool later : Pool} {source rest : Source} {areas : Areas} {old new : Groups} {fan : ℕ} {was merging : Bool} (run : Option Run) {answer : Option ℕ} {calls : ℕ}
    → answer ≡ Some calls → ReduceTells told before now pool later source rest areas old new fan was merging run answer
    → ReduceTurned told before now pool later source rest areas old new fan was merging calls
reduce_turned {told = told} {before = before} {now = now} {pool = pool} {later = later} {source = source} {rest = rest} {areas = areas} {old = old} {new = new} {fan = fan} {was = was} {merging = merging} run is tells =
    let P : Option ℕ → Type 0 = ReduceTells told before now pool later source rest areas old new fan was merging run in subst P is tells
