use Rattle.std.proofs.Common.{refl}
use Rattle.std.specs.Fmt.{digits}
use Rattle.csv.specs.Reading.{records_from, strip_bom}
use Rattle.csv.specs.Machine.{next_record}
use Rattle.csv.specs.Writing.{escaped, fields_text, is_blank}
use Rattle.ghost_model.specs.core.Schema.{places_from, ancestor}
use Rattle.ghost_model.specs.refusals.Tokens.{tokens_from, quoted_from}
use Rattle.ghost_model.specs.readings.SchemaPlaces.{syntax_from}
use Rattle.ghost_model.specs.refusals.SchemaFaults.{fields_from}
use Rattle.ghost_model.specs.refusals.LoadFaults.{files_faults, rows_faults, field_faults, references_from, table_references, row_reference_faults}
use Rattle.ghost_model.proofs.generated.generated_files.Goals as goal

pub returns : goal.returns
unfolding digits records_from strip_bom next_record escaped fields_text is_blank tokens_from quoted_from syntax_from places_from ancestor fields_from files_faults rows_faults field_faults references_from table_references row_reference_faults
returns c = record {
  schema = refl;
  least = refl;
  least_of_the_greatest_seed = refl;
  twenty = refl;
  visits_of_the_greatest_seed = refl;
  no_fault = refl;
}
