use Rattle.std.proofs.Common.{refl}
use Rattle.csv.specs.Reading.{records_from, strip_bom}
use Rattle.csv.specs.Machine.{next_record}
use Rattle.ghost_model.proofs.meaning.records_of_files.Goals as goal

pub returns : goal.returns
unfolding records_from strip_bom next_record
returns c = record {
  nothing = refl;
  no_line_end_at_the_end = refl;
  three_line_ends = refl;
  blank_lines = refl;
  a_byte_order_mark = refl;
  a_quote_inside = refl;
  bytes_after_a_quoted_field = refl;
  a_quoted_line_end = refl;
  no_closing_quote = refl;
  a_quoted_empty_field = refl;
}
