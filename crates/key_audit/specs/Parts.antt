-- What comes of reading a line, part by part.
use Rattle.std.specs.Prelude.{◌≡◌, ℕ, ◌+◌, ◌<◌, ◌≤◌, true, List, [], ◌∷◌, ◌++◌, length, take, Option}
use Rattle.ghost_model.specs.core.Recorded.{lacks}
use Rattle.edge_traits.specs.Files.{Files, HasFile}
use Rattle.channel_audit.specs.Lines.{Cuts}
use Rattle.key_audit.specs.Windows.{StandsBehind}
use Rattle.key_audit.specs.declared.lines.Front.{Front}
use Rattle.key_audit.specs.declared.lines.Front.TheVariants as front
use Rattle.key_audit.specs.declared.lines.Part.{Part}
use Rattle.key_audit.specs.declared.lines.Part.TheVariants as part
use Rattle.key_audit.specs.declared.window.Window.{Window}

-- an LF ends the line
pub record EndsPart (line ahead line_after ahead_after : List ℕ) : Type 0 where
  pub first : List ℕ
  pub cuts : Cuts 10 ahead first ahead_after
  pub line_is : line_after ≡ line ++ first

-- no LF is ahead, and all of it was put to the line
pub record TakesAll (line ahead line_after ahead_after : List ℕ) : Type 0 where
  pub lacking : lacks 10 ahead ≡ true
  pub line_is : line_after ≡ line ++ ahead
  pub within : length line_after ≤ 4200
  pub ahead_is : ahead_after ≡ []

-- the line would have more than 4,200 bytes before an LF
abbrev pub IsEndless : List ℕ → Type 0
IsEndless bytes = lacks 10 (take 4201 bytes) ≡ true

pub record IsTooLong (line ahead : List ℕ) : Type 0 where
  pub long : 4200 < length line + length ahead
  pub endless : lacks 10 line ≡ true → IsEndless (line ++ ahead)

-- what comes of a part of a line
abbrev pub TakesPart : Part → (line ahead line_after ahead_after : List ℕ) → Type 0
TakesPart part.Ended line ahead line_after ahead_after = EndsPart line ahead line_after ahead_after
TakesPart part.More line ahead line_after ahead_after = TakesAll line ahead line_after ahead_after
TakesPart part.TooLong line ahead line_after ahead_after = IsTooLong line ahead

-- a line of a file was read and passed, with its LF
pub record ReadsLine (contents : Option Files) (name passed line : List ℕ) (window : Window) : Type 0 where
  pub lacking : lacks 10 line ≡ true
  pub stands : StandsBehind contents name (passed ++ (line ++ 10 ∷ [])) window

-- behind the bytes that were passed stand some, and no line
pub record ReadsNoLine (contents : Option Files) (name passed : List ℕ) : Type 0 where
  pub rest : List ℕ
  pub is_file : HasFile contents name (passed ++ rest)
  pub some : 0 < length rest
  pub endless : IsEndless rest

-- what stands behind the bytes of a file that were passed
abbrev pub ReadsFront : Option Files → (name passed line : List ℕ) → Window → Front → Type 0
ReadsFront contents name passed line window front.Line = ReadsLine contents name passed line window
ReadsFront contents name passed line window front.End = HasFile contents name passed
ReadsFront contents name passed line window front.NoLine = ReadsNoLine contents name passed
