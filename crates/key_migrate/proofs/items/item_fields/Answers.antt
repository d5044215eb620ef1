use Rattle.std.proofs.Common.{◌∙◌, ◌+◌, sym, ap, map, subst, arith, [], ◌∷◌, Some, Bor, List, ℕ}
use Rattle.std.proofs.lemmas.List.{map-append}
use Rattle.std.proofs.lemmas.Grind.{common_steps}
use Rattle.spj_parse.specs.Views.{field_of}
use Rattle.key_migrate.proofs.ItemLemmas.{AreSoFar, all_taken, get_mapped, one_more, one_refused}
use Rattle.key_migrate.proofs.items.item_fields.Goals as goal

pub returns-in-None-clause-refused : goal.returns-in-None-clause-refused
returns-in-None-clause-refused c =
    let now = λ (item : Bor (List ℕ)). item.now in
    let fields = c.loop-item.fields.items in
    one_refused c.args.schema.now (map now c.args.items.now) c.loop-item.item-index (map field_of fields) _ c.loop-item.invariant
    (grind (arith, common_steps)) (get_mapped now c.args.items.now c.loop-item.item-index _ [] c.loop-item-test.true)
    (map field_of c.deref.result.now) (ap (map field_of) c.deref.ensures.0) c.in-None.ensures.refused
    ∙ ap (λ n. Some (n + 1)) (grind (arith, common_steps))

pub loop-item-preserved : goal.loop-item-preserved
loop-item-preserved c =
    let now = λ (item : Bor (List ℕ)). item.now in
    let items = map now c.args.items.now in
    let fields = c.loop-item.fields.items in
    let one = c.in-Some.field in
    subst (AreSoFar c.args.schema.now items (c.loop-item.item-index + 1))
    (sym (ap (map field_of) c.push.ensures.items ∙ map-append field_of fields (one ∷ [])))
    (one_more c.args.schema.now items c.loop-item.item-index (map field_of fields) _ (field_of one) c.loop-item.invariant
    (grind (arith, common_steps)) (get_mapped now c.args.items.now c.loop-item.item-index _ [] c.loop-item-test.true)
    (map field_of c.deref.result.now) (ap (map field_of) c.deref.ensures.0) c.in-Some.ensures.taken)

pub returns-clause-taken : goal.returns-clause-taken
returns-clause-taken c =
    let items = map (λ (item : Bor (List ℕ)). item.now) c.args.items.now in
    all_taken c.args.schema.now items c.loop-item.item-index (map field_of c.loop-item.fields.items) c.loop-item.invariant
    (grind (arith, common_steps))
