-- What the files that the words of `local` name spell.
use Rattle.edge_traits.specs.Files.{Files}
use Rattle.key_inputs.specs.Openings.{Opening}
use Rattle.key_inputs.specs.Whole.{WholeInput, whole_opening}
use Rattle.key_words.specs.Words.{Local}

abbrev pub local_opening : Files → Local → Opening WholeInput
local_opening files names = whole_opening files names.schema names.tables names.script
