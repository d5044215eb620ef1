use Rattle.std.proofs.Common.{refl}
use Rattle.clap.specs.Walk.{walked, bundle_met}
use Rattle.clap.specs.Takes.{walk_passes, flags_pass}
use Rattle.clap.specs.Faults.{walk_fault, flags_fault, defaults_fault}
use Rattle.key_words.proofs.examples.words_of_commands.Goals as goal

pub returns : goal.returns
unfolding walked bundle_met walk_passes flags_pass walk_fault flags_fault defaults_fault
returns c = record { plain = refl; left_out = refl; all_said = refl; blocks = refl; no_items = refl; items = refl; crosswise = refl }
