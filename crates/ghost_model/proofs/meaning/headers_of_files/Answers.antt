use Rattle.std.proofs.Common.{refl}
use Rattle.csv.specs.Reading.{records_from, strip_bom}
use Rattle.csv.specs.Machine.{next_record}
use Rattle.ghost_model.specs.refusals.LoadFaults.{files_faults, rows_faults, field_faults, references_from, table_references, row_reference_faults}
use Rattle.ghost_model.proofs.meaning.headers_of_files.Goals as goal

pub returns : goal.returns
unfolding records_from strip_bom next_record files_faults rows_faults field_faults references_from table_references row_reference_faults
returns c = record {
  upper_case = refl;
  no_record = refl;
  blank_lines_alone = refl;
  another_name = refl;
  another_first_name = refl;
  another_order = refl;
  too_few_names = refl;
  too_many_names = refl;
  no_row = refl;
}
