use Rattle.std.proofs.Common.{refl}
use Rattle.ghost_model.specs.readings.SchemaPlaces as places
use Rattle.tree_schema.proofs.ReaderSteps.{by_mark, stops, is_out, no_semicolon}
use Rattle.tree_schema.proofs.syntax.Reader.semicolon.Goals as goal

pub returns-in_default-clause-stops : goal.returns-in_default-clause-stops
returns-in_default-clause-stops c = λ tables name columns last. is_out (places.AfterColumns tables name columns last) _ _ c.in_default.ensures.none refl

pub returns-in-Semicolon-clause-read : goal.returns-in-Semicolon-clause-read
returns-in-Semicolon-clause-read c = λ tables name columns last. by_mark (places.AfterColumns tables name columns last) _ _ _ _ _ c.in-Some.ensures.read c.in-Semicolon.is refl

pub returns-in_default-mark : goal.returns-in_default-mark
returns-in_default-mark c = record {
  read = tt;
  fewer = tt;
  stops = λ tables name columns last. stops (places.AfterColumns tables name columns last) _ _ _ c.in-Some.ensures.read (no_semicolon tables name columns last _ _ c.in_default-mark.not-Semicolon);
}
