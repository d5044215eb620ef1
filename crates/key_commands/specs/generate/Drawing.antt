-- The clinic that the words of `gen` say, the script over it, and the session that is held over them.
use Rattle.std.specs.Prelude.{ℕ, List, [], None}
use Rattle.ghost_model.specs.core.Database.{database_of}
use Rattle.ghost_model.specs.core.Generated.{files, script}
use Rattle.ghost_model.specs.core.Texts.{texts_of}
use Rattle.ghost_model.specs.core.Values.{Database}
use Rattle.ghost_model.specs.examples.Clinic.{clinic_schema}
use Rattle.key_words.specs.Words.{Gen, Local}
use Rattle.key_commands.specs.local.Sessions.{Subject, subject}

-- the database that the drawn files spell
abbrev pub drawn_database : Gen → Database
drawn_database words = database_of clinic_schema (files words.seed words.rows)

abbrev pub drawn_texts : Gen → List (List ℕ)
drawn_texts words = texts_of (script words.texts)

-- the words of `local` for the same session: no file is named but the flash, and no journal is kept
abbrev pub session_words : Gen → Local
session_words words = record {
  schema = [];
  tables = [];
  flash = words.flash;
  script = [];
  journal = None;
  plan = words.plan;
  pace = words.pace;
  buffers = words.buffers;
}

abbrev pub drawn_subject : Gen → Subject
drawn_subject words = subject clinic_schema (drawn_database words) (drawn_texts words) (session_words words)
