use Rattle.std.proofs.Common.{refl, sym, ◌∙◌, inl, inr}
use Rattle.std.proofs.lemmas.Bool.{eqb-true}
use Rattle.tree_schema.proofs.ReaderSteps.{another}
use Rattle.tree_schema.proofs.syntax.Reader.other_columns.Goals as goal

pub loop-follows-preserved-then-is_full : goal.loop-follows-preserved-then-is_full
loop-follows-preserved-then-is_full c =
    another _ _ _ _ _ _ _ _ _ _ c.in_ok-column.column c.loop-follows.invariant c.loop-follows-test.true c.in_ok-column.ensures.read c.in_ok-column.ensures.fewer
    (inl (refl, eqb-true _ _ (sym c.is_full.ensures.value ∙ c.if-is_full.true)))

pub loop-follows-preserved : goal.loop-follows-preserved
loop-follows-preserved c =
    another _ _ _ _ _ _ _ _ _ _ c.in_ok-column.column c.loop-follows.invariant c.loop-follows-test.true c.in_ok-column.ensures.read c.in_ok-column.ensures.fewer
    (inr (refl, c.push.ensures.items))
