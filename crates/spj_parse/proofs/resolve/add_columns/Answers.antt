use Rattle.std.proofs.Common.{◌≡◌, suc, ◌+◌, length, ap, subst, ◌∙◌, arith}
use Rattle.ghost_model.specs.core.Schema.{columns_of}
use Rattle.spj_parse.specs.Adding.{Adds}
use Rattle.spj_parse.specs.Views.{field_of}
use Rattle.spj_parse.proofs.ResolveLemmas.{adds_one, adds_more, fields_below, all_below}
use Rattle.spj_parse.proofs.resolve.add_columns.Goals as goal

pub loop-column-preserved : goal.loop-column-preserved
loop-column-preserved c =
    subst (Adds field_of 32 c.args.select.now.items c.keep.new.kept.items)
    (ap (fields_below c.args.table) (let e : suc c.loop-column.column ≡ c.loop-column.column + 1 = omega arith in e))
    (adds_more field_of 32 c.args.select.now.items c.loop-column.select.items c.keep.new.kept.items (fields_below c.args.table c.loop-column.column) _ c.loop-column.invariant
    (adds_one field_of 32 _ _ _ c.keep.ensures.room c.keep.ensures.full))

pub returns : goal.returns
returns c = record {
  added = subst (Adds field_of 32 c.args.select.now.items c.loop-column.select.items)
      (ap (fields_below c.args.table) (let e : c.loop-column.column ≡ length (columns_of c.args.schema.now c.args.table) = omega (arith, c.columns-column-end.ensures, c.loop-column-test.false, c.loop-column.auto.column-end) in e)
      ∙ all_below c.args.schema.now c.args.table)
      c.loop-column.invariant;
}
