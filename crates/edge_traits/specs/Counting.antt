-- What the moves of a link do to its count of failed calls: it rose where one of them failed, and else it is as it was.
use Rattle.std.specs.Prelude.{◌≡◌, ℕ, ◌≤◌, Bool, true, false, List}
use Rattle.std.specs.List.{list_any}
use Rattle.ghost_model.specs.core.Causes.{Rose}
use Rattle.ghost_model.specs.core.Channel.{Answer, Made, Port, Piece, End, Failed, Journal}
use Rattle.ghost_model.specs.core.Moves.{answers}

abbrev pub is_failure : Answer → Bool
is_failure Made = false
is_failure (Port _) = false
is_failure (Piece _) = false
is_failure End = false
is_failure Failed = true

-- whether a move failed
abbrev pub has_failed : Journal → Bool
has_failed journal = list_any is_failure (answers journal)

-- the count before and after the moves of a journal
pub record FaultsTell (before now : ℕ) (journal : Journal) : Type 0 where
  pub never_falls : before ≤ now
  pub rose : has_failed journal ≡ true → Rose before now
  pub same : has_failed journal ≡ false → now ≡ before

-- a link went by these moves, and its count tells of them
pub record WentCounting (went : Journal → Type 0) (before now : ℕ) (journal : Journal) : Type 0 where
  pub gone : went journal
  pub counts : FaultsTell before now journal
