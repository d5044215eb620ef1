use Rattle.std.proofs.Common.{sym, subst, ◌∙◌, inl, inr}
use Rattle.std.proofs.lemmas.Bool.{eqb-true}
use Rattle.tree_schema.specs.Drafts.{KeepsTables}
use Rattle.tree_schema.proofs.ReaderSteps.{over_next, kept_next, text_ends, text_stops, text_out, table_stops}
use Rattle.tree_schema.proofs.syntax.read_tables.Goals as goal
use Rattle.tree_schema.proofs.syntax.read_tables.Goals.{then-over, else-over}

pub returns-in_default-clause-stops : goal.returns-in_default-clause-stops
returns-in_default-clause-stops c = text_out _ _ _ _ _ c.loop-token.invariant c.in_default.ensures.none

pub returns-in-End-clause-read : goal.returns-in-End-clause-read
returns-in-End-clause-read c =
    record {
      tables = c.loop-token.invariant.tables;
      reads = text_ends _ _ _ _ _ _ c.loop-token.invariant c.in-Some.ensures.read c.in-End.is (c.in-Some.ensures.last c.in-End.is);
      keeps = elim c.if-over.branch [
        | then-over w ↦ subst (λ kept. KeepsTables kept c.loop-token.invariant.tables) (sym w.result-is) (c.loop-token.invariant.many w.if-over.true)
        | else-over w ↦ subst (λ kept. KeepsTables kept c.loop-token.invariant.tables) (sym w.result-is) (c.loop-token.invariant.whole w.if-over.false)
      ];
    }

pub returns-in_default-mark : goal.returns-in_default-mark
returns-in_default-mark c = record {
  read = tt;
  stops = text_stops _ _ _ _ _ _ c.loop-token.invariant c.in-Some.ensures.read c.in_default-mark.not-End c.in_default-mark.not-Create;
}

pub returns-in-Err-clause-stops : goal.returns-in-Err-clause-stops
returns-in-Err-clause-stops c = table_stops _ _ _ _ _ _ _ c.loop-token.invariant c.in-Some.ensures.read c.in-Create.is c.in-Err.ensures.stops

pub loop-token-preserved-in-None : goal.loop-token-preserved-in-None
loop-token-preserved-in-None c = over_next _ _ _ _ _ _ _ _ _ c.loop-token.invariant c.in-Some.ensures.read c.in-Create.is c.in-Ok.ensures.read (inl c.in-None.is)

pub loop-token-preserved-then-is_full : goal.loop-token-preserved-then-is_full
loop-token-preserved-then-is_full c =
    over_next _ _ _ _ _ _ _ _ _ c.loop-token.invariant c.in-Some.ensures.read c.in-Create.is c.in-Ok.ensures.read (inr (eqb-true _ _ (sym c.is_full.ensures.value ∙ c.if-is_full.true)))

pub loop-token-preserved : goal.loop-token-preserved
loop-token-preserved c =
    kept_next _ _ _ _ _ _ _ _ _ _ c.loop-token.invariant c.in-Some.ensures.read c.in-Create.is c.in-Ok.ensures.read c.in-Some-kept.is c.push.ensures.items
