use Rattle.std.proofs.Common.{refl}
use Rattle.ghost_model.specs.readings.SchemaPlaces as places
use Rattle.tree_schema.proofs.ReaderSteps.{by_mark, stops, is_out, no_parenthesis}
use Rattle.tree_schema.proofs.syntax.Reader.parenthesis.Goals as goal

pub returns-in_default-clause-stops : goal.returns-in_default-clause-stops
returns-in_default-clause-stops c = λ name tables. is_out (places.AfterName tables name) _ _ c.in_default.ensures.none refl

pub returns-in-Open-clause-read : goal.returns-in-Open-clause-read
returns-in-Open-clause-read c = λ name tables. by_mark (places.AfterName tables name) _ _ _ _ _ c.in-Some.ensures.read c.in-Open.is refl

pub returns-in_default-mark : goal.returns-in_default-mark
returns-in_default-mark c = record {
  read = tt;
  fewer = tt;
  stops = λ name tables. stops (places.AfterName tables name) _ _ _ c.in-Some.ensures.read (no_parenthesis tables name _ _ c.in_default-mark.not-Open);
}
