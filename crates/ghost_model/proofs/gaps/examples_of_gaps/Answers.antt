use Rattle.std.proofs.Common.{refl}
use Rattle.ghost_model.specs.forms.Runs.{record_at, number_in}
use Rattle.ghost_model.specs.forms.Gaps.{with_codes, with_lists, reading_at, listed, listed_from}
use Rattle.ghost_model.proofs.gaps.examples_of_gaps.Goals as goal

pub returns : goal.returns
unfolding record_at number_in with_codes with_lists reading_at listed listed_from
returns c = record {
  codes = refl;
  read = refl;
  broken = refl;
  fillings = refl;
  filled = refl;
  gaps = refl;
  bytes = refl;
  begins = refl;
  places = refl;
  first_list = refl;
  last_list = refl;
  stands = refl;
  behind_the_last = refl;
  before_the_broken = refl;
  nowhere = refl;
  over_filling = refl;
  no_filling_so_early = refl;
  no_filling_in_the_last_page = refl;
  to_the_files_end = refl;
  told = refl;
  to_the_end = refl;
  records = refl;
  before_records = refl;
  a_record = refl;
}
