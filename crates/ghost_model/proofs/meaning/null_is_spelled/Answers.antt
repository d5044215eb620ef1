use Rattle.std.proofs.Common.{refl}
use Rattle.csv.specs.Reading.{records_from, strip_bom}
use Rattle.csv.specs.Machine.{next_record}
use Rattle.ghost_model.specs.refusals.LoadFaults.{files_faults, rows_faults, field_faults, references_from, table_references, row_reference_faults}
use Rattle.ghost_model.proofs.meaning.null_is_spelled.Goals as goal

pub returns : goal.returns
unfolding records_from strip_bom next_record files_faults rows_faults field_faults references_from table_references row_reference_faults
returns c = record {
  spelled = refl;
  no_fault = refl;
  in_quotes = refl;
  no_identifier = refl;
}
