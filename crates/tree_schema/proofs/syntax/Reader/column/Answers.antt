use Rattle.std.proofs.Common.{refl, sym, ◌∙◌, ap, arith}
use Rattle.ghost_model.specs.readings.SchemaPlaces as places
use Rattle.tree_schema.specs.Drafts.{in_column_of, place_of}
use Rattle.tree_schema.proofs.ReaderSteps.{leads, stops, is_out}
use Rattle.tree_schema.proofs.syntax.Reader.column.Goals as goal

pub loop-token-init : goal.loop-token-init
loop-token-init c = record { leads = λ tables name columns. refl; fewer = omega arith }

pub returns-in_default-clause-stops : goal.returns-in_default-clause-stops
returns-in_default-clause-stops c = λ tables name columns.
    c.loop-token.invariant.leads tables name columns
    ∙ is_out (places.Within tables name columns (in_column_of c.loop-token.last)) _ _ c.in_default.ensures.none refl

pub returns-in-Ends-clause-read : goal.returns-in-Ends-clause-read
returns-in-Ends-clause-read c = λ tables name columns.
    c.loop-token.invariant.leads tables name columns
    ∙ leads (places.Within tables name columns (in_column_of c.loop-token.last)) _ _ _ _ c.in-Some.ensures.read
    (sym (c.step_within.ensures tables name columns) ∙ ap (place_of tables name columns) c.in-Ends.is)

pub loop-token-preserved : goal.loop-token-preserved
loop-token-preserved c =
    record {
      leads = λ tables name columns.
          c.loop-token.invariant.leads tables name columns
          ∙ leads (places.Within tables name columns (in_column_of c.loop-token.last)) _ _ _ _ c.in-Some.ensures.read
          (sym (c.step_within.ensures tables name columns) ∙ ap (place_of tables name columns) c.in-Goes.is);
      fewer = omega (arith, c.loop-token.invariant.fewer, c.in-Some.ensures.fewer);
    }

pub returns-in-Stops-clause-stops : goal.returns-in-Stops-clause-stops
returns-in-Stops-clause-stops c = λ tables name columns.
    c.loop-token.invariant.leads tables name columns
    ∙ stops (places.Within tables name columns (in_column_of c.loop-token.last)) _ _ _ c.in-Some.ensures.read
    (sym (ap (place_of tables name columns) c.in-Stops.is) ∙ c.step_within.ensures tables name columns)
