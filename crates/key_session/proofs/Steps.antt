-- How many steps are left.
use Rattle.std.proofs.Common.{◌≡◌, ◌≤◌, ◌<◌, ℕ, ◌+◌, ◌*◌, arith, Bool, true, false, List, [], ◌∷◌, length, refl, Option, Some, None}
use Rattle.std.specs.Prelude.{◌%◌, if◌then◌else◌, not, ◌&&◌, is_some, option_map, count_by}
use Rattle.std.specs.List.{cons_option}
use Rattle.ghost_model.specs.core.Channel.{Catalog}
use Rattle.edge_traits.specs.Devices.{Device}
use Rattle.page_pool.specs.Pools.{Pool, others_out}
use Rattle.leakless_plan.specs.declared.plan.Plan.{Plan}
use Rattle.key_session.specs.Going.{CanRun, IsOutAlone}
use Rattle.key_exec.specs.Laws.{most_left}
use Rattle.key_exec.specs.Telling.{HasRoom}
use Rattle.key_exec.specs.declared.telling.Telling.{Telling}

-- a text that was begun takes as many as it may at most
pub begun_left : (n : ℕ) (ahead running : Bool) (steps before : ℕ) → ahead ≡ true → running ≡ false → steps ≤ most_left
    → most_left * (n + (if ahead && not true then 1 else 0)) + steps ≤ most_left * (n + (if ahead && not running then 1 else 0)) + before
begun_left n true false steps before e f few = omega (arith, few)
begun_left n true true steps before e f few = cc
begun_left n false running steps before e f few = cc

pub unbegun_same : (some : Bool) (n m : ℕ) → (if some then 1 else 0) + n ≡ m → n + (if some && not false then 1 else 0) ≡ m
unbegun_same true n m e = omega (arith, e)
unbegun_same false n m e = omega (arith, e)

-- the first of the texts that are left
pub first_ahead : {X : Type 0} (f : X → List ℕ) (ahead : Option X) (texts : List (List ℕ)) → is_some ahead ≡ true → (text : List ℕ) × (cons_option (option_map f ahead) texts ≡ text ∷ texts)
first_ahead f None texts e = cc
first_ahead f (Some text) texts e = (f text, refl)

-- no text is told
pub alone_of : (plan : Plan) (told : Bool) (cat : Catalog) (device : Device) (pool : Pool) (number lease : ℕ) (running : Option Telling) → is_some running ≡ false → CanRun plan told cat device pool number lease running → IsOutAlone [] pool lease
alone_of plan told cat device pool number lease None none run = run.alone
alone_of plan told cat device pool number lease (Some telling) none run = absurd (not_none none)
  where
    not_none : true ≡ false → ⊥
    not_none e = cc

-- there is room for a text that begins
pub room_of : (pool : Pool) (lease : ℕ) (leases : List ℕ) → IsOutAlone leases pool lease → HasRoom leases pool
room_of pool lease leases alone = record {
  enough = alone.enough;
  free = (let free : count_by not (others_out pool leases) + 2 ≡ length pool.pages = alone.free in omega (arith, free));
}

pub below_two : (n : ℕ) → n % 2 < 2
below_two n = omega arith
