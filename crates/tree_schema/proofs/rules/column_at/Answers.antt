use Rattle.std.proofs.Common.{◌≡◌, ◌-◌, suc, slice_get, ◌∙◌, sym, ap, arith}
use Rattle.ghost_model.specs.refusals.SchemaMeaning.{columns_written}
use Rattle.tree_schema.specs.Drafts.{column_of, table_of}
use Rattle.tree_schema.proofs.RuleSteps.{item_at, mapped_item}
use Rattle.tree_schema.proofs.rules.column_at.Goals as goal

pub returns-in-Some : goal.returns-in-Some
returns-in-Some c =
    let behind : c.args.place ≡ suc (c.args.place - 1) = omega (arith, c.if-place-eq0.false) in
    record {
      column = sym (ap (slice_get (columns_written (table_of c.args.table.now))) behind
          ∙ mapped_item column_of c.args.table.now.others.items (c.args.place - 1) _
          (ap (λ columns. slice_get columns (c.args.place - 1)) (sym c.deref.ensures.0) ∙ item_at _ _ c.in-Some.column c.in-Some.ensures.lookup));
    }
