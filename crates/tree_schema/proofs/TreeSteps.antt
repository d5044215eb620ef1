-- The rules of trees, table by table.
use Rattle.std.proofs.Common.{◌≡◌, ℕ, suc, ◌+◌, ◌<◌, ◌≤◌, Bool, true, false, cond, ◌||◌, length, drop, find, not, Option, Some, None, is_none, option_map, option_and_then, refl, ap, sym, ◌∙◌, add-one, arith}
use Rattle.std.specs.List.{list_any, count_by}
use Rattle.std.specs.Option.{is_some, option_or}
use Rattle.std.proofs.lemmas.List.Sums.{sum_by-cons}
use Rattle.std.proofs.lemmas.Bool.{ne_eqb}
use Rattle.ghost_model.specs.core.Schema.{Schema, is_table, parent, places_from, places_of, ancestor}
use Rattle.ghost_model.specs.refusals.Rules.{broken_if}
use Rattle.ghost_model.specs.laws.ShortWords as short
use Rattle.ghost_model.specs.refusals.SchemaFaults as faults
use Rattle.ghost_model.specs.refusals.SchemaFaults.{returns, roots_of}
use Rattle.tree_schema.specs.Faults.{is_shared, fault_of_tree}
use Rattle.tree_schema.proofs.RuleSteps.{place_next, places_end}

-- whether a table stands at a place of its own way up, so many steps and one from it
abbrev pub comes_back : Schema → ℕ → ℕ → Bool
comes_back schema table steps = is_table table (ancestor schema (suc steps) table)

-- after so many steps, none of which came back
pub record Climbs (schema : Schema) (table step : ℕ) (here : Option ℕ) : Type 0 where
  pub place : here ≡ ancestor schema step table
  pub not_yet : returns schema table ≡ list_any (comes_back schema table) (places_from (λ _. true) step (drop step schema))

pub climb_begins : (schema : Schema) (table : ℕ) → Climbs schema table 0 (Some table)
unfolding ancestor
climb_begins schema table = record { place = refl; not_yet = refl }

climbed : (schema : Schema) (table step : ℕ) (here next : Option ℕ) → Climbs schema table step here → next ≡ option_and_then (parent schema) here
    → next ≡ ancestor schema (suc step) table
unfolding ancestor
climbed schema table step here next w e = e ∙ ap (option_and_then (parent schema)) w.place

one_step : (schema : Schema) (table step : ℕ) (here next : Option ℕ) (back : Bool) → Climbs schema table step here → next ≡ option_and_then (parent schema) here
    → is_table table next ≡ back → step < length schema
    → returns schema table ≡ (back || list_any (comes_back schema table) (places_from (λ _. true) (step + 1) (drop (step + 1) schema)))
one_step schema table step here next back w e f within =
    w.not_yet ∙ ap (list_any (comes_back schema table)) (place_next schema step within)
    ∙ ap (λ b. b || list_any (comes_back schema table) (places_from (λ _. true) (step + 1) (drop (step + 1) schema)))
    (ap (is_table table) (sym (climbed schema table step here next w e)) ∙ f)

pub climb_returns : (schema : Schema) (table step : ℕ) (here next : Option ℕ) → Climbs schema table step here → next ≡ option_and_then (parent schema) here
    → is_table table next ≡ true → step < length schema → returns schema table ≡ true
climb_returns schema table step here next w e f within = one_step schema table step here next true w e f within

pub climb_goes : (schema : Schema) (table step : ℕ) (here next : Option ℕ) → Climbs schema table step here → next ≡ option_and_then (parent schema) here
    → is_table table next ≡ false → step < length schema → Climbs schema table (step + 1) next
climb_goes schema table step here next w e f within =
    record {
      place = climbed schema table step here next w e ∙ ap (λ n. ancestor schema n table) (sym (add-one step));
      not_yet = one_step schema table step here next false w e f within;
    }

pub climb_ends : (schema : Schema) (table step : ℕ) (here : Option ℕ) → Climbs schema table step here → length schema ≤ step → returns schema table ≡ false
climb_ends schema table step here w past = w.not_yet ∙ ap (list_any (comes_back schema table)) (places_end schema step past)

abbrev pub is_root : Schema → ℕ → Bool
is_root schema table = is_none (parent schema table)

pub none_by : (o : Option ℕ) (tested answer : Bool) → is_some o ≡ not tested → tested ≡ answer → is_none o ≡ answer
none_by None true answer e f = f
none_by (Some x) false answer e f = f
none_by None false answer e f = absurd (cc)
none_by (Some x) true answer e f = absurd (cc)

-- the roots among the tables before a place
pub record CountsRoots (schema : Schema) (roots at : ℕ) : Type 0 where
  pub left : roots + count_by (is_root schema) (places_from (λ _. true) at (drop at schema)) ≡ roots_of schema

pub roots_begin : (schema : Schema) → CountsRoots schema 0 0
roots_begin schema = record { left = omega arith }

next_root : (schema : Schema) (at : ℕ) → at < length schema
    → count_by (is_root schema) (places_from (λ _. true) at (drop at schema))
    ≡ cond (is_root schema at) 1 0 + count_by (is_root schema) (places_from (λ _. true) (at + 1) (drop (at + 1) schema))
next_root schema at within = ap (count_by (is_root schema)) (place_next schema at within) ∙ sum_by-cons (λ table. cond (is_root schema table) 1 0) at (places_from (λ _. true) (at + 1) (drop (at + 1) schema))

pub one_root : (schema : Schema) (roots at : ℕ) → CountsRoots schema roots at → at < length schema → is_root schema at ≡ true → CountsRoots schema (roots + 1) (at + 1)
one_root schema roots at w within e =
    let split = next_root schema at within ∙ ap (λ b. cond b 1 0 + count_by (is_root schema) (places_from (λ _. true) (at + 1) (drop (at + 1) schema))) e in
    record { left = omega (arith, split, w.left) }

pub no_root : (schema : Schema) (roots at : ℕ) → CountsRoots schema roots at → at < length schema → is_root schema at ≡ false → CountsRoots schema roots (at + 1)
no_root schema roots at w within e =
    let split = next_root schema at within ∙ ap (λ b. cond b 1 0 + count_by (is_root schema) (places_from (λ _. true) (at + 1) (drop (at + 1) schema))) e in
    record { left = omega (arith, split, w.left) }

pub roots_end : (schema : Schema) (roots at : ℕ) → CountsRoots schema roots at → length schema ≤ at → roots ≡ roots_of schema
roots_end schema roots at w past = omega (arith, ap (count_by (is_root schema)) (places_end schema at past), w.left)

-- the rules in their order

abbrev after_shared : Schema → Option ℕ → Option faults.SchemaFault
after_shared schema shared =
    option_or (option_map faults.TwoParents shared)
    (option_or (option_map faults.Cycle (find (returns schema) (places_of schema))) (short.wrong_roots (roots_of schema)))

pub tree_shared : (schema : Schema) (child : ℕ) → find (is_shared schema) (places_of schema) ≡ Some child → fault_of_tree schema ≡ Some (faults.TwoParents child)
tree_shared schema child e = ap (after_shared schema) e

abbrev after_cycle : Schema → Option ℕ → Option faults.SchemaFault
after_cycle schema table = option_or (option_map faults.Cycle table) (short.wrong_roots (roots_of schema))

pub tree_cycle : (schema : Schema) (table : ℕ) → find (is_shared schema) (places_of schema) ≡ None → find (returns schema) (places_of schema) ≡ Some table
    → fault_of_tree schema ≡ Some (faults.Cycle table)
tree_cycle schema table e f = ap (after_shared schema) e ∙ ap (after_cycle schema) f

by_roots : (schema : Schema) → find (is_shared schema) (places_of schema) ≡ None → find (returns schema) (places_of schema) ≡ None
    → fault_of_tree schema ≡ short.wrong_roots (roots_of schema)
by_roots schema e f = ap (after_shared schema) e ∙ ap (after_cycle schema) f

pub tree_roots : (schema : Schema) (roots : ℕ) → find (is_shared schema) (places_of schema) ≡ None → find (returns schema) (places_of schema) ≡ None
    → roots ≡ roots_of schema → (roots ≡ 1 → ⊥) → fault_of_tree schema ≡ Some (faults.NotOneRoot roots)
tree_roots schema roots e f g h =
    by_roots schema e f ∙ ap short.wrong_roots (sym g) ∙ ap (λ b. broken_if (not b) (faults.NotOneRoot roots)) (ne_eqb roots 1 h)

pub tree_fine : (schema : Schema) (roots : ℕ) → find (is_shared schema) (places_of schema) ≡ None → find (returns schema) (places_of schema) ≡ None
    → roots ≡ roots_of schema → roots ≡ 1 → fault_of_tree schema ≡ None
tree_fine schema roots e f g h = by_roots schema e f ∙ ap short.wrong_roots (sym g ∙ h)
