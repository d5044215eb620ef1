-- A link of one move, which it answers as a line tells.
use Rattle.std.specs.Prelude.{◌≡◌, List, ℕ}
use Rattle.ghost_model.specs.core.Channel.{Entry}
use Rattle.ghost_model.specs.core.Recorded.{Tells}
use Rattle.channel_audit.specs.Lines.{entry_of}
use Rattle.channel_audit.specs.declared.line.Line.{Line}
use Rattle.channel_audit.specs.declared.replay.Replay.{Replay}

-- where the move made is that of the line, it was answered as the line tells
abbrev pub AnswersAs : Line → Entry → Type 0
AnswersAs line made = (text : List ℕ) → Tells text (entry_of line) → made.move ≡ (entry_of line).move → made ≡ entry_of line

pub record Replayed (before : Replay) (made : Entry) (after : Replay) : Type 0 where
  pub same : after.line ≡ before.line
  pub answered : AnswersAs before.line made
