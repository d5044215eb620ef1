use Rattle.std.proofs.Common.{◌+◌, ◌<◌, ◌≤◌, length, is_none, ap, sym, subst, ◌∙◌, arith}
use Rattle.std.proofs.lemmas.List.{length-map}
use Rattle.tree_schema.specs.Views.{schema_of, table_of}
use Rattle.tree_schema.proofs.TreeSteps.{CountsRoots, none_by, one_root, no_root, roots_end}
use Rattle.tree_schema.proofs.trees.roots_of.Goals as goal
use Rattle.tree_schema.proofs.trees.roots_of.Goals.{then-is_none, else-is_none}

pub loop-table-preserved : goal.loop-table-preserved
loop-table-preserved c =
    let within : c.loop-table.table < length (schema_of c.args.tables.now) = omega (arith, c.loop-table-test.true, length-map c.args.tables.now table_of) in
    elim c.if-is_none.branch [
      | then-is_none w ↦ record {
        counted = subst (λ n. CountsRoots (schema_of c.args.tables.now) n (c.loop-table.table + 1)) (sym w.roots-is)
            (one_root (schema_of c.args.tables.now) c.loop-table.roots c.loop-table.table c.loop-table.invariant.counted within (ap is_none (sym c.parent_in.ensures.parent) ∙ none_by c.parent_in.result _ _ c.is_none.ensures w.if-is_none.true));
        few = omega (arith, w.roots-is, c.loop-table.invariant.few);
      }
      | else-is_none w ↦ record {
        counted = subst (λ n. CountsRoots (schema_of c.args.tables.now) n (c.loop-table.table + 1)) (sym w.roots-is)
            (no_root (schema_of c.args.tables.now) c.loop-table.roots c.loop-table.table c.loop-table.invariant.counted within (ap is_none (sym c.parent_in.ensures.parent) ∙ none_by c.parent_in.result _ _ c.is_none.ensures w.if-is_none.false));
        few = omega (arith, w.roots-is, c.loop-table.invariant.few);
      }
    ]

pub returns : goal.returns
returns c =
    let past : length (schema_of c.args.tables.now) ≤ c.loop-table.table = omega (arith, c.loop-table-test.false, length-map c.args.tables.now table_of) in
    record { roots = roots_end (schema_of c.args.tables.now) c.loop-table.roots c.loop-table.table c.loop-table.invariant.counted past }
