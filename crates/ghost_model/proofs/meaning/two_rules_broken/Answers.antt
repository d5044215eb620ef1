use Rattle.std.proofs.Common.{refl}
use Rattle.csv.specs.Reading.{records_from, strip_bom}
use Rattle.csv.specs.Machine.{next_record}
use Rattle.ghost_model.specs.refusals.LoadFaults.{files_faults, rows_faults, field_faults, references_from, table_references, row_reference_faults}
use Rattle.ghost_model.proofs.meaning.two_rules_broken.Goals as goal

pub returns : goal.returns
unfolding records_from strip_bom next_record files_faults rows_faults field_faults references_from table_references row_reference_faults
returns c = record {
  header_then_fields = refl;
  row_limit_then_field_count = refl;
  field_count_then_number = refl;
  number_then_integer = refl;
  number_then_text = refl;
  integer_then_text = refl;
  text_then_integer = refl;
  text_then_next_record = refl;
  text_then_next_file = refl;
  reference_after_all_files = refl;
  reference_alone = refl;
  references_by_record = refl;
  references_by_column = refl;
}
