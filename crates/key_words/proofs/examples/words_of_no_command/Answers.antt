use Rattle.std.proofs.Common.{refl}
use Rattle.clap.specs.Walk.{walked, bundle_met}
use Rattle.clap.specs.Takes.{walk_passes, flags_pass}
use Rattle.clap.specs.Faults.{walk_fault, flags_fault, defaults_fault}
use Rattle.key_words.proofs.examples.words_of_no_command.Goals as goal

pub returns : goal.returns
unfolding walked bundle_met walk_passes flags_pass walk_fault flags_fault defaults_fault
returns c = record {
  no_words = refl;
  no_command = refl;
  a_needed_option_is_left_out = refl;
  an_option_stands_twice = refl;
  a_stray_word = refl;
  no_such_option = refl;
  no_such_plan = refl;
  a_pace_without_a_number = refl;
  a_pace_above_the_limit = refl;
  too_few_buffers = refl;
  a_number_of_ten_digits = refl;
  the_flash_would_be_replaced = refl;
  the_visible_file_would_be_replaced = refl;
  thirty_three_items = refl;
}
