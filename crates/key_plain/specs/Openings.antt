-- What the files that the words of `plain` name spell, and what it prints of them.
use Rattle.std.specs.Prelude.{ℕ, List}
use Rattle.ghost_model.specs.core.Database.{database_of}
use Rattle.ghost_model.specs.core.Printed.{printed}
use Rattle.ghost_model.specs.core.Texts.{texts_of}
use Rattle.edge_traits.specs.Files.{Files}
use Rattle.key_words.specs.Words.{Plain}
use Rattle.key_inputs.specs.Openings.{Opening}
use Rattle.key_inputs.specs.Whole.{WholeInput, whole_opening}

abbrev pub plain_opening : Files → Plain → Opening WholeInput
plain_opening files names = whole_opening files names.schema names.tables names.script

-- the bytes that an input prints
abbrev pub printed_by : WholeInput → List ℕ
printed_by input = printed input.schema (texts_of input.script) (database_of input.schema input.files)
