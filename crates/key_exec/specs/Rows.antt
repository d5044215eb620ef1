-- What is handed on of a text.
use Rattle.std.specs.Prelude.{◌≡◌, ℕ, List}
use Rattle.ghost_model.specs.core.Causes.{Rose}
use Rattle.ghost_model.specs.core.Values.{Row}
use Rattle.ghost_model.specs.core.Printed.{row_line, count_line, word_line}
use Rattle.key_lines.specs.Handing.{Handed, Hands}

-- some bytes were handed to the sink
pub record PrintsSome (before after : Handed) : Type 0 where
  pub piece : List ℕ
  pub handed : Hands piece before after

-- a line that a text may have: that of a row, that of the number of rows, or that of a word
pub data IsLine (line : List ℕ) : Type 0 where
  OfRow : (row : Row) → line ≡ row_line row → IsLine line
  OfCount : (number rows : ℕ) → line ≡ count_line number rows → IsLine line
  OfWord : (number : ℕ) (word : List ℕ) → line ≡ word_line number word → IsLine line

-- one line was handed to the sink, or none and the flash was called
pub data TakesTurn (before after : Handed) (called now : ℕ) : Type 0 where
  HandsLine : (line : List ℕ) → IsLine line → Hands line before after → TakesTurn before after called now
  MadeCall : after ≡ before → Rose called now → TakesTurn before after called now
