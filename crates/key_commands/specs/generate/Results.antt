-- What a call of `gen` did, by its result.
use Rattle.std.specs.Prelude.{◌≡◌, Bool, true, false, not, List, None, Result, Ok, Err}
use Rattle.edge_traits.specs.Written.{grown}
use Rattle.key_inputs.specs.Outside.{Outside, Verdicts, Risen, Same, Untold, outside, verdicts}
use Rattle.key_lines.specs.Handing.{Hands, handed}
use Rattle.key_lines.specs.Told.{told_in}
use Rattle.key_lines.specs.declared.told.ToldText.{ToldText}
use Rattle.key_words.specs.Words.{Gen}
use Rattle.key_commands.specs.generate.Counting.{counted_lines, rows_given, rows_meant}
use Rattle.key_commands.specs.generate.Drawing.{drawn_subject}
use Rattle.key_commands.specs.generate.Ends.{EndsAs, is_sink}
use Rattle.key_commands.specs.local.Results.{IsUnmade}
use Rattle.key_commands.specs.local.Sessions.{Ran}
use Rattle.key_commands.specs.declared.local.ends.LocalEnd.{LocalEnd}
use Rattle.key_commands.specs.declared.generate.ends.GenEnd.{GenEnd}
use Rattle.key_commands.specs.declared.generate.ends.GenEnd.TheVariants as ends
use Rattle.key_commands.specs.declared.generate.ends.GenRun.{GenRun}
use Rattle.key_commands.specs.declared.generate.ends.GenFailure.{GenFailure}
use Rattle.key_commands.specs.declared.generate.ends.GenFailure.TheVariants as failure

-- the outside of a session whose lines go nowhere
abbrev pub unheard : Outside → Outside
unheard now = outside now.files now.depot_faults now.append_faults now.device None 0

-- The session that `local` holds over the drawn files was held, its lines going nowhere, and then the lines were handed on that count its
-- texts and its moves.
pub record RanDrawn (told : Bool) (words : Gen) (end : GenEnd) (before after : Outside) (entries : List ToldText) : Type 0 where
  pub session_end : LocalEnd
  pub session : Ran told (drawn_subject words) session_end (unheard before) (unheard after) entries
  pub as_session : EndsAs end session_end
  pub handed_on : Hands (counted_lines (rows_given entries) (rows_meant words) session.journal)
      (handed false before.sink_faults before.written) (handed (is_sink end) after.sink_faults after.written)
  -- where all went well each text has given the rows of its answer
  pub printed : told ≡ true → end ≡ ends.Ok
      → after.written ≡ grown before.written (counted_lines (rows_meant words) (rows_meant words) session.journal)

abbrev pub EndsGen : (told : Bool) → Gen → Result GenRun GenFailure → (before after : Outside) → Type 0
EndsGen told words (Ok run) before after = RanDrawn told words run.end before after (told_in run.told)
EndsGen told words (Err failure.NoMemory) before after = IsUnmade (drawn_subject words) before after
EndsGen told words (Err failure.Flash) before after = IsUnmade (drawn_subject words) before after

-- whether a call ends so before the session, and so without a write to the sink
abbrev pub is_failure : Result GenRun GenFailure → Bool
is_failure (Ok run) = false
is_failure (Err _) = true

-- what an end tells of the counts of faults of the sink, the depot, its appends and the flash: behind `Sink`, which is told first, a call
-- on the flash may have failed too
abbrev pub told_by_end : GenEnd → Verdicts
told_by_end ends.Ok = verdicts Same Same Same Same
told_by_end ends.Sink = verdicts Risen Same Same Untold
told_by_end ends.Flash = verdicts Same Same Same Risen
told_by_end (ends.Damaged damage) = verdicts Same Same Same Same

abbrev pub told_by : Result GenRun GenFailure → Verdicts
told_by (Ok run) = told_by_end run.end
told_by (Err failure.NoMemory) = verdicts Same Same Same Same
told_by (Err failure.Flash) = verdicts Same Same Same Risen

-- whether a call can end so where nothing failed: damage only where the flash does not tell its pages
abbrev pub is_faultless_end : (told : Bool) → GenEnd → Bool
is_faultless_end told ends.Ok = true
is_faultless_end told (ends.Damaged damage) = not told
is_faultless_end told _ = false

abbrev pub is_faultless : (told : Bool) → Result GenRun GenFailure → Bool
is_faultless told (Ok run) = is_faultless_end told run.end
is_faultless told (Err failure.NoMemory) = true
is_faultless told _ = false
