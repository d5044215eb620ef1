use Rattle.std.proofs.Common.{refl}
use Rattle.csv.specs.Reading.{records_from, strip_bom}
use Rattle.csv.specs.Machine.{next_record}
use Rattle.ghost_model.specs.refusals.LoadFaults.{files_faults, rows_faults, field_faults, references_from, table_references, row_reference_faults}
use Rattle.ghost_model.proofs.meaning.one_rule_broken.Goals as goal

pub returns : goal.returns
unfolding records_from strip_bom next_record files_faults rows_faults field_faults references_from table_references row_reference_faults
returns c = record {
  too_few_fields = refl;
  too_many_fields = refl;
  another_number = refl;
  the_number_in_other_digits = refl;
  no_number = refl;
  above_the_greatest = refl;
  an_empty_integer = refl;
  an_empty_text = refl;
  too_long = refl;
  no_character = refl;
  a_line_end_within = refl;
  blank_lines_are_not_counted = refl;
  no_such_doctor = refl;
  no_doctor_zero = refl;
  no_doctor_below_zero = refl;
  no_patient = refl;
  the_last_row = refl;
  one_row_more = refl;
}
