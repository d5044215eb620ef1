use Rattle.std.proofs.Common.{◌≡◌, ◌+◌, ◌-◌, ◌<◌, ◌∙◌, ◌∷◌, ◌++◌, [], refl, ap, sym, subst, get_or, length, map, arith, List, ℕ, Some, Vec}
use Rattle.std.specs.Global.{Global}
use Rattle.std.proofs.lemmas.List.{length-map, get_or-map}
use Rattle.ghost_model.specs.core.Schema.{parent, ancestor}
use Rattle.ghost_model.specs.forms.Layout as layout
use Rattle.flash_build.specs.Levels.{RankedAbove, items_of}
use Rattle.flash_build.proofs.Leading.{level_is, level_up, own_level, ranked_itself, ranked_more}
use Rattle.flash_build.proofs.Entries.{long_at}
use Rattle.flash_build.proofs.levels.level_ranks.Goals as goal

pub loop-level-init : goal.loop-level-init
loop-level-init c =
    let cat = c.args.laid.now in
    let hidden = c.args.hidden.now in
    let tree = c.layout_laws.ensures.layout.tree in
    let own = c.args.own.items in
    let first : 0 < length (layout.levels_of cat.schema c.args.table) = omega (arith, c.levels-levels.ensures.own, ap length c.levels-levels.ensures.tables) in
    let is : c.push.new.self.items ≡ c.args.own ∷ [] =
    c.in_ok-push.ensures.items ∙ ap (λ (xs : List (Vec ℕ Global)). xs ++ c.args.own ∷ []) c.in_ok-all.ensures.items in
    let one : RankedAbove cat hidden c.args.table own (get_or (layout.levels_of cat.schema c.args.table) 0 0) own =
    subst (λ (from : ℕ). RankedAbove cat hidden c.args.table own from own)
    (sym (own_level cat.schema c.levels_are_ancestors.ensures tree c.args.table c.requires.there first))
    (ranked_itself cat hidden tree c.requires.part c.args.table own c.requires.long) in
    record {
      some = omega arith;
      count = ap length is;
      each = ranked_more cat hidden c.args.table own (layout.levels_of cat.schema c.args.table) [] c.push.new.self.items c.args.own 0 is refl
          (λ k low. absurd (omega (arith, low))) one;
    }

pub taken_up-requires-clause-above : goal.taken_up-requires-clause-above
taken_up-requires-clause-above c =
    let schema = c.args.laid.now.schema in
    let level = c.loop-level.level in
    let levels = layout.levels_of schema c.args.table in
    let is = c.levels-levels.ensures.tables in
    let low : level - 1 + 1 < length levels = omega (arith, c.loop-level-test.true, c.loop-level.invariant.some, ap length is) in
    let e : level - 1 + 1 ≡ level = omega (arith, c.loop-level.invariant.some) in
    ap (λ (xs : List ℕ). parent schema (get_or xs (level - 1) 0)) is
    ∙ (level_up schema c.levels_are_ancestors.ensures c.layout_laws.ensures.layout.tree c.args.table (level - 1) c.requires.there low
    ∙ (ap (λ n. Some (get_or levels n 0)) e ∙ ap (λ (xs : List ℕ). Some (get_or xs level 0)) (sym is)))

pub taken_up-requires-clause-long : goal.taken_up-requires-clause-long
taken_up-requires-clause-long c =
    let cat = c.args.laid.now in
    let hidden = c.args.hidden.now in
    let level = c.loop-level.level in
    let own = c.args.own.items in
    let all = c.loop-level.all.items in
    let levels = layout.levels_of cat.schema c.args.table in
    let less : level - 1 < length all = omega (arith, c.loop-level.invariant.some, c.loop-level.invariant.count) in
    let at : get_or (map items_of all) (level - 1) [] ≡ c.index.result.now.items = get_or-map items_of all (level - 1) c.index.result.now [] less ∙ ap items_of (sym c.index.ensures) in
    let was : RankedAbove cat hidden c.args.table own (get_or levels (level - 1) 0) c.deref.result.now =
    subst (λ (ranks : List ℕ). RankedAbove cat hidden c.args.table own (get_or levels (level - 1) 0) ranks) (at ∙ sym c.deref.ensures.value)
    (c.loop-level.invariant.each (level - 1) (omega (arith, c.loop-level.invariant.some))) in
    long_at cat hidden c.args.table own (get_or levels (level - 1) 0) c.deref.result.now was
    ∙ ap (λ (xs : List ℕ). layout.count_of cat (get_or xs (level - 1) 0)) (sym c.levels-levels.ensures.tables)

pub loop-level-preserved : goal.loop-level-preserved
loop-level-preserved c =
    let cat = c.args.laid.now in
    let hidden = c.args.hidden.now in
    let level = c.loop-level.level in
    let own = c.args.own.items in
    let all = c.loop-level.all.items in
    let levels = layout.levels_of cat.schema c.args.table in
    let is = c.levels-levels.ensures.tables in
    let less : level - 1 < length all = omega (arith, c.loop-level.invariant.some, c.loop-level.invariant.count) in
    let at : get_or (map items_of all) (level - 1) [] ≡ c.index.result.now.items = get_or-map items_of all (level - 1) c.index.result.now [] less ∙ ap items_of (sym c.index.ensures) in
    let was : RankedAbove cat hidden c.args.table own (get_or levels (level - 1) 0) c.deref.result.now =
    subst (λ (ranks : List ℕ). RankedAbove cat hidden c.args.table own (get_or levels (level - 1) 0) ranks) (at ∙ sym c.deref.ensures.value)
    (c.loop-level.invariant.each (level - 1) (omega (arith, c.loop-level.invariant.some))) in
    let here : RankedAbove cat hidden c.args.table own (get_or c.levels-levels.result.now (level - 1) 0) c.deref.result.now =
    subst (λ (xs : List ℕ). RankedAbove cat hidden c.args.table own (get_or xs (level - 1) 0) c.deref.result.now) (sym is) was in
    let low : level - 1 < length levels = omega (arith, c.loop-level-test.true, ap length is) in
    let way : ancestor cat.schema (level - 1) c.args.table ≡ Some (get_or c.levels-levels.result.now (level - 1) 0) =
    level_is cat.schema c.levels_are_ancestors.ensures c.layout_laws.ensures.layout.tree c.args.table (level - 1) c.requires.there low
    ∙ ap (λ (xs : List ℕ). Some (get_or xs (level - 1) 0)) (sym is) in
    let one : RankedAbove cat hidden c.args.table own (get_or levels level 0) c.in_ok-ranks.ranks.items =
    subst (λ (xs : List ℕ). RankedAbove cat hidden c.args.table own (get_or xs level 0) c.in_ok-ranks.ranks.items) is
    (c.in_ok-ranks.ensures.ranked c.args.table own (level - 1, way) here) in
    record {
      some = omega arith;
      count = ap length c.in_ok-push-2.ensures.items ∙ (length-push all c.in_ok-ranks.ranks ∙ ap (λ n. n + 1) c.loop-level.invariant.count);
      each = ranked_more cat hidden c.args.table own levels all c.push-in-loop-level.new.self.items c.in_ok-ranks.ranks level c.in_ok-push-2.ensures.items
          c.loop-level.invariant.count c.loop-level.invariant.each one;
    }
  where
    length-push : (xs : List (Vec ℕ Global)) (x : Vec ℕ Global) → length (xs ++ x ∷ []) ≡ length xs + 1
    length-push [] x = refl
    length-push (y ∷ ys) x = let later = length-push ys x in omega (arith, later)

pub returns : goal.returns
returns c =
    let end : c.loop-level.level ≡ length (layout.levels_of c.args.laid.now.schema c.args.table) =
    omega (arith, c.loop-level.auto.level-end, c.loop-level-test.false, c.levels-levels.ensures.own, ap length c.levels-levels.ensures.tables) in
    record {
      ranked = record {
        count = length-map c.loop-level.all.items items_of ∙ (c.loop-level.invariant.count ∙ end);
        each = λ level low. c.loop-level.invariant.each level (omega (arith, low, end));
      };
    }
