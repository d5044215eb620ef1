use Rattle.std.proofs.Common.{refl}
use Rattle.ghost_model.specs.readings.SchemaPlaces as places
use Rattle.tree_schema.proofs.ReaderSteps.{by_mark, stops, is_out, no_column_name}
use Rattle.tree_schema.proofs.syntax.Reader.column_name.Goals as goal

pub returns-in_default-clause-stops : goal.returns-in_default-clause-stops
returns-in_default-clause-stops c = λ tables name columns. is_out (places.WantsDeclaration tables name columns) _ _ c.in_default.ensures.none refl

pub returns-in-Name-clause-read : goal.returns-in-Name-clause-read
returns-in-Name-clause-read c = λ tables name columns. by_mark (places.WantsDeclaration tables name columns) _ _ _ _ _ c.in-Some.ensures.read c.in-Name.is refl

pub returns-in_default-mark : goal.returns-in_default-mark
returns-in_default-mark c = record {
  read = tt;
  fewer = tt;
  stops = λ tables name columns. stops (places.WantsDeclaration tables name columns) _ _ _ c.in-Some.ensures.read (no_column_name tables name columns _ _ c.in_default-mark.not-Name);
}
