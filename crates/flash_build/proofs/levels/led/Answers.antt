use Rattle.std.proofs.Common.{◌≡◌, ◌+◌, ◌∙◌, ap, sym, subst, get_or, length, arith, List, ℕ, Some}
use Rattle.std.specs.List.{range_with_len}
use Rattle.ghost_model.specs.core.Schema.{parent}
use Rattle.ghost_model.specs.forms.Layout as layout
use Rattle.index_lists.specs.Laws.{LeadAs}
use Rattle.flash_build.proofs.KeyNumbers.{rows_counted}
use Rattle.flash_build.proofs.Leading.{lead_itself, level_is, level_up, own_level, level_found}
use Rattle.flash_build.proofs.levels.led.Goals as goal

pub loop-level-init : goal.loop-level-init
loop-level-init c =
    let cat = c.args.laid.now in
    let tree = c.layout_laws.ensures.layout.tree in
    let rows : c.rows.result ≡ layout.count_of cat c.args.table =
    c.rows.ensures.count ∙ rows_counted cat c.args.hidden.now c.hidden_parts_go_with_catalogs.ensures c.requires.part c.args.table in
    let items = c.in_ok-reached.ensures.numbers ∙ ap (range_with_len 1) rows in
    let own = own_level cat.schema c.levels_are_ancestors.ensures tree c.args.table c.requires.there (omega (arith, c.requires.steps)) in
    record {
      lead = subst (λ (from : ℕ). LeadAs cat c.args.hidden.now from c.args.table c.in_ok-reached.reached.items) (sym own)
          (subst (λ (xs : List ℕ). LeadAs cat c.args.hidden.now c.args.table c.args.table xs) (sym items) (lead_itself cat c.args.hidden.now tree c.requires.part c.args.table));
    }

pub taken_up-requires-clause-above : goal.taken_up-requires-clause-above
taken_up-requires-clause-above c =
    let schema = c.args.laid.now.schema in
    let level = c.loop-level.level in
    let here = c.levels-levels.ensures.tables in
    let next = c.levels-levels.ensures.tables in
    ap (λ (xs : List ℕ). parent schema (get_or xs level 0)) here
    ∙ (level_up schema c.levels_are_ancestors.ensures c.layout_laws.ensures.layout.tree c.args.table level c.requires.there (omega (arith, c.requires.steps, c.loop-level-test.true))
    ∙ ap (λ (xs : List ℕ). Some (get_or xs (level + 1) 0)) (sym next))

pub taken_up-requires-clause-long : goal.taken_up-requires-clause-long
taken_up-requires-clause-long c =
    let here = c.levels-levels.ensures.tables in
    ap length c.deref.ensures.value
    ∙ (c.loop-level.invariant.lead.long ∙ ap (λ (xs : List ℕ). layout.count_of c.args.laid.now (get_or xs c.loop-level.level 0)) (sym here))

pub loop-level-preserved : goal.loop-level-preserved
loop-level-preserved c =
    let cat = c.args.laid.now in
    let level = c.loop-level.level in
    let hidden = c.args.hidden.now in
    let here = c.levels-levels.ensures.tables in
    let next = c.levels-levels.ensures.tables in
    let below = get_or c.levels-levels.result.now level 0 in
    let way =
    level_is cat.schema c.levels_are_ancestors.ensures c.layout_laws.ensures.layout.tree c.args.table level c.requires.there (omega (arith, c.requires.steps, c.loop-level-test.true))
    ∙ ap (λ (xs : List ℕ). Some (get_or xs level 0)) (sym here) in
    let was : LeadAs cat hidden below c.args.table c.deref.result.now =
    subst (λ (xs : List ℕ). LeadAs cat hidden below c.args.table xs) (sym c.deref.ensures.value)
    (subst (λ (xs : List ℕ). LeadAs cat hidden (get_or xs level 0) c.args.table c.loop-level.reached.items) (sym here) c.loop-level.invariant.lead) in
    record {
      lead = subst (λ (xs : List ℕ). LeadAs cat hidden (get_or xs (level + 1) 0) c.args.table c.in_ok-reached-2.reached.items) next
          (c.in_ok-reached-2.ensures.led c.args.table (level, way) was);
    }

pub returns : goal.returns
returns c =
    let cat = c.args.laid.now in
    let end : c.loop-level.level ≡ c.args.steps = omega (arith, c.loop-level.auto.level-end, c.loop-level-test.false) in
    record {
      led = λ from h.
          let found =
          level_found cat.schema c.levels_are_ancestors.ensures c.layout_laws.ensures.layout.tree c.args.table c.args.steps from c.requires.there c.requires.steps h in
          subst (λ (n : ℕ). LeadAs cat c.args.hidden.now n c.args.table c.loop-level.reached.items)
          (ap (λ k. get_or (layout.levels_of cat.schema c.args.table) k 0) end ∙ found) c.loop-level.invariant.lead;
    }
