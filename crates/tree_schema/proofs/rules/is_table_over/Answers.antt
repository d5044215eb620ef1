use Rattle.std.proofs.Common.{◌<◌, ◌≤◌, suc, length, map, sym, ap, ◌∙◌, arith}
use Rattle.std.specs.Char.{to_ascii_lowercase}
use Rattle.std.specs.List.{list_any}
use Rattle.std.proofs.lemmas.List.{length-map}
use Rattle.ghost_model.specs.refusals.Tokens.{in_lower_case}
use Rattle.ghost_model.specs.refusals.SchemaFaults as faults
use Rattle.tree_schema.specs.Drafts.{column_of}
use Rattle.tree_schema.proofs.RuleSteps.{any_mapped, not_le, too_wide_by}
use Rattle.tree_schema.proofs.rules.is_table_over.Goals as goal

pub returns : goal.returns
returns c =
    let short : length c.args.table.now.name.now ≤ 32 = c.if-table-gt-MAX_NAME.false in
    let name : length (in_lower_case c.args.table.now.name.now) < 33 = omega (arith, short, length-map c.args.table.now.name.now to_ascii_lowercase) in
    let few : length c.deref.result.now ≤ 23 = c.deref.ensures.1 in
    let columns : suc (length (map column_of c.args.table.now.others.items)) < 25 = omega (arith, few, ap length c.deref.ensures.0, length-map c.args.table.now.others.items column_of) in
    record {
      over = too_wide_by _ _ _ _ _ (not_le 33 (length (in_lower_case c.args.table.now.name.now)) name) (not_le 25 (suc (length (map column_of c.args.table.now.others.items))) columns)
          (sym c.is_column_over.ensures.over ∙ c.if-is_column_over.false)
          (c.is_one_over.ensures.over ∙ ap (λ columns. list_any (λ column. faults.is_column_over (column_of column)) columns) c.deref.ensures.0 ∙ any_mapped column_of faults.is_column_over c.args.table.now.others.items);
    }
