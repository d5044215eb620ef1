-- Passes over lists as what works in steps.
use Rattle.std.specs.Prelude.{◌≡◌, ℕ, ◌+◌, ◌<◌, ◌≤◌, ◌⊎◌, Bool, true, false, List, IfSome}
use Rattle.std.proofs.Common.{◌∙◌, inl, inr, refl, arith}
use Rattle.ghost_base.specs.declared.runs.ListRef.{ListRef}
use Rattle.edge_traits.specs.Devices.{Device}
use Rattle.page_pool.specs.Pools.{Pool, AreOut}
use Rattle.id_merge.specs.Since.{Since}
use Rattle.spill_pass.specs.declared.reduce.Reduce.{Reduce}
use Rattle.spill_pass.specs.Given.{KnowsRun, ReduceGiven}
use Rattle.spill_pass.specs.Grouping.{AreApart}
use Rattle.spill_pass.specs.ListCalls.{ReduceCounts}
use Rattle.spill_pass.specs.Listings.{damaged_in, has_in, may_in, ready_in, source_in}
use Rattle.spill_pass.specs.Merging.{area_pages}
use Rattle.spill_pass.specs.Passing.{AreOfSource, pass_held}
use Rattle.spill_pass.specs.ReduceContents.{IsUnion, ReduceHas}
use Rattle.spill_pass.specs.Reducing.{IsOutside, IsReducing, ReduceOutside, RunStands, reduce_left}
use Rattle.spill_pass.specs.Sources.{Source}
use Rattle.spill_pass.specs.Works.{Goal}

-- the lists of the pass at hand, as a source
abbrev pub pass_source : {S : Type 0} → (S → Source) → Reduce S → Source
pass_source source reduce = source_in source reduce.pass.lists

-- a step may be made
pub record ReduceReady {S : Type 0} (source : S → Source) (ready : Bool → Device → Pool → S → Type 0) (told : Bool) (device : Device) (pool : Pool) (reduce : Reduce S) : Type 0 where
  pub lists : ready_in ready told device pool reduce.pass.lists
  pub reducing :
      IsReducing told device pool (pass_source source reduce) reduce.areas reduce.pass.groups reduce.pass.fan reduce.pass.merging

-- a step may be made, or the one list stands
abbrev pub reduce_ready : {S : Type 0} → (S → Source) → (Bool → Device → Pool → S → Type 0) → (told : Bool) → Device → Pool → Reduce S → (done : Bool) → Type 0
reduce_ready source ready told device pool reduce false = ReduceReady source ready told device pool reduce
reduce_ready source ready told device pool reduce true = RunStands reduce.areas reduce.pass.groups.into.rows reduce.run

-- where pages are told: the lists have together what all lists have, and those of the group at hand are of the source
pub record ReduceHolds {S : Type 0} (has : (ℕ → List ℕ) → (ℕ → List ℕ) → ℕ → S → List (List ℕ) → Type 0) (may : (ℕ → List ℕ) → S → ListRef → Type 0) (told : Bool) (page : ℕ → List ℕ) (pool : Pool) (reduce : Reduce S) (goal : Goal) : Type 0 where
  pub has_all : ReduceHas (λ right. has_in has page right reduce.pass.groups.into.rows reduce.pass.lists) told page pool reduce.pass.groups goal.lists
  pub of_source : AreOfSource (may_in may page reduce.pass.lists) reduce.pass.groups

-- where pages are told: the lists have together what all lists have, or the one list has it
abbrev pub reduce_has : {S : Type 0} → ((ℕ → List ℕ) → (ℕ → List ℕ) → ℕ → S → List (List ℕ) → Type 0) → ((ℕ → List ℕ) → S → ListRef → Type 0) → (told : Bool) → (page : ℕ → List ℕ) → Pool → Reduce S → (done : Bool) → Goal → Type 0
reduce_has has may told page pool reduce false goal = ReduceHolds has may told page pool reduce goal
reduce_has has may told page pool reduce true goal = IfSome reduce.run (IsUnion page goal.lists)

-- the pass at hand was given, or the one list is in order, or a slot of it may be blamed
abbrev pub reduce_given : {S : Type 0} → (Since → Device → Pool → ℕ → S → Type 0) → Since → (size : ℕ) → Device → Pool → Reduce S → (done : Bool) → Type 0
reduce_given given since size device pool reduce false = ReduceGiven given since device pool reduce
reduce_given given since size device pool reduce true = KnowsRun since device.page reduce.pass.groups.into.rows reduce.run

abbrev pub reduce_damaged : {S : Type 0} → ((ℕ → List ℕ) → ℕ → S → ℕ → ℕ → ℕ → Type 0) → (page : ℕ → List ℕ) → (rows : ℕ) → Reduce S → (number slot found : ℕ) → Type 0
reduce_damaged damaged page rows reduce = damaged_in damaged page rows reduce.pass.lists

abbrev pub reduce_rows : {S : Type 0} → Reduce S → ℕ
reduce_rows reduce = reduce.pass.groups.into.rows

abbrev pub reduce_costs : {S : Type 0} → (S → Source) → ((ℕ → List ℕ) → (ℕ → List ℕ) → ℕ → S → List (List ℕ) → Type 0) → (told : Bool) → (page : ℕ → List ℕ) → Pool → Reduce S → Goal → (left : ℕ) → Type 0
reduce_costs source has told page pool reduce goal left =
    ReduceCounts (λ right. has_in has page right reduce.pass.groups.into.rows reduce.pass.lists) told page pool (pass_source source reduce) reduce.areas
    reduce.pass.groups goal.lists left

abbrev pub left_in : {S : Type 0} → (S → Source) → Pool → Reduce S → ℕ
left_in source pool reduce = reduce_left pool (pass_source source reduce) reduce.areas reduce.pass.groups reduce.pass.merging

abbrev pub reduce_leases : {S : Type 0} → (S → Source) → Reduce S → List ℕ
reduce_leases source reduce = pass_held (pass_source source reduce) reduce.pass.groups

abbrev pub reduce_unwritten : {S : Type 0} → Reduce S → (page : ℕ) → Type 0
reduce_unwritten reduce = λ page. IsOutside reduce.areas reduce.pass.groups.into.rows reduce.pass.groups.size page

abbrev pub reduce_outside : {S : Type 0} → (S → Source) → Reduce S → (low high : ℕ) → Type 0
reduce_outside source reduce = λ low high. ReduceOutside low high (pass_source source reduce) reduce.areas reduce.pass.groups

-- the lists are written into the same areas, as many are merged at once, and no more are left
pub record SameReduce {S : Type 0} (old new : Reduce S) : Type 0 where
  pub areas : new.areas ≡ old.areas
  pub fan : new.pass.fan ≡ old.pass.fan
  pub size : new.pass.groups.size ≤ old.pass.groups.size

pub reduce_held :
    {S : Type 0} (source : S → Source) (ready : Bool → Device → Pool → S → Type 0) (told : Bool) (device : Device) (pool : Pool) (reduce : Reduce S)
    → reduce_ready source ready told device pool reduce false → AreOut pool (reduce_leases source reduce)
reduce_held source ready told device pool reduce is = is.reducing.passing.leases

-- no page of a region that shares none with an area is one of the area
beside_page : (page first end low high : ℕ) → AreApart first end low high → low ≤ page → page < high → (page < first) ⊎ (end ≤ page)
beside_page page first end low high (inl before) from below = inr (omega (arith, before, from))
beside_page page first end low high (inr behind) from below = inl (omega (arith, behind, below))

pub reduce_apart :
    {S : Type 0} (source : S → Source) (reduce : Reduce S) (low high page : ℕ) → reduce_outside source reduce low high → low ≤ page → page < high
    → reduce_unwritten reduce page
reduce_apart source reduce low high page outside from below = record {
  lists = λ first is.
      beside_page page first (first + area_pages reduce.pass.groups.into.rows) low high (outside.areas_lists first is) from below;
  places = λ first is. beside_page page first (first + area_pages reduce.pass.groups.size) low high (outside.areas_places first is) from below;
}

pub reduce_itself : {S : Type 0} (reduce : Reduce S) → SameReduce reduce reduce
reduce_itself reduce = record { areas = refl; fan = refl; size = omega arith }

pub reduce_again : {S : Type 0} (old between new : Reduce S) → SameReduce old between → SameReduce between new → SameReduce old new
reduce_again old between new one two = record {
  areas = two.areas ∙ one.areas;
  fan = two.fan ∙ one.fan;
  size = omega (arith, one.size, two.size);
}
