use Rattle.std.proofs.Common.{◌≡◌, ◌∙◌, ap, length, List, rules, subst, sym, true}
use Rattle.std.specs.List.{refill}
use Rattle.tree_schema.specs.Nulls.{may_be_null, with_null}
use Rattle.tree_schema.specs.Schemas.{IsDeclared}
use Rattle.tree_schema.specs.Views.{schema_of}
use Rattle.tree_schema.specs.declared.schema.Table.{Table}
use Rattle.tree_schema.proofs.NullLemmas.{refilled, still_declared}
use Rattle.tree_schema.proofs.schema.Schema.with_null.Goals as goal

pub invariant_of-result : goal.invariant_of-result
invariant_of-result c =
    let before = c.self.inside.tables.items in
    let after = c.allow_at.new.tables in
    let same : refill (length before) before after ≡ after = refilled before after (c.allow_at.ensures.size ∙ ap length c.as_mut_slice.ensures.value) in
    let may : may_be_null (schema_of before) c.args.table c.args.column ≡ true = search rules in
    let is : schema_of after ≡ with_null (schema_of before) c.args.table c.args.column =
    c.allow_at.ensures.tables ∙ ap (λ (tables : List Table). with_null (schema_of tables) c.args.table c.args.column) c.as_mut_slice.ensures.value in
    subst (λ (tables : List Table). IsDeclared (schema_of tables)) (sym same)
    (subst IsDeclared (sym is) (still_declared c.one_schema_reading.ensures c.tokens_are_spelled.ensures (schema_of before) c.args.table c.args.column c.self.invariant may))

pub returns : goal.returns
returns c =
    let before = c.self.inside.tables.items in
    let after = c.allow_at.new.tables in
    let same : refill (length before) before after ≡ after = refilled before after (c.allow_at.ensures.size ∙ ap length c.as_mut_slice.ensures.value) in
    let is : schema_of after ≡ with_null (schema_of before) c.args.table c.args.column =
    c.allow_at.ensures.tables ∙ ap (λ (tables : List Table). with_null (schema_of tables) c.args.table c.args.column) c.as_mut_slice.ensures.value in
    rw (← c.self.view_is) (record { schema = ap (λ (tables : List Table). schema_of tables) same ∙ is })
