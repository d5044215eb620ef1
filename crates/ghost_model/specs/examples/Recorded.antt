-- What an audit finds in the file of a session over the clinic, and in parts of it.
use Rattle.std.specs.Prelude.{List, ℕ, ◌++◌, [], codes, take, drop, true, false}
use Rattle.ghost_model.specs.core.Moves.{lines}
use Rattle.ghost_model.specs.core.Recorded.{AuditFinds, Proper, Wrong, NoLine}
use Rattle.ghost_model.specs.examples.Clinic.{clinic_catalog}
use Rattle.ghost_model.specs.examples.Channel.{cardio_journal, cardio_asks}

-- the first lines of the file, and those behind some of them
abbrev pub first_lines : (count : ℕ) → List ℕ
first_lines count = lines (take count cardio_journal)

abbrev pub lines_behind : (count : ℕ) → List ℕ
lines_behind count = lines (drop count cardio_journal)

pub record FindingsOfTheClinic : Type 0 where
  pub the_file : AuditFinds clinic_catalog cardio_asks (lines cardio_journal) (Proper 12 true)
  -- the eighth line is that of the frame MORE
  pub a_frame_that_is_not_sent : AuditFinds clinic_catalog cardio_asks (first_lines 7 ++ lines_behind 8) (Wrong 8)
  pub first_moves : AuditFinds clinic_catalog cardio_asks (first_lines 4) (Proper 4 false)
  pub no_last_end : AuditFinds clinic_catalog cardio_asks (first_lines 11 ++ codes "close") (NoLine 12)
  pub nothing : AuditFinds clinic_catalog cardio_asks [] (Proper 0 false)
