-- What comes of pieces that are handed to a sink one after another. After the first failed write nothing more is
-- written, and the pieces go on all the same. So the sink has taken a front of them, and all of them where no write
-- failed.
use Rattle.std.specs.Prelude.{◌≡◌, ℕ, ◌≤◌, Bool, true, false, List, [], ◌++◌, Option}
use Rattle.ghost_model.specs.core.Causes.{Rose}
use Rattle.edge_traits.specs.Written.{grown, GrowsByFront}

-- whether a write failed, the sink's count of faults, and what it tells to have taken
pub record Handed : Type 0 where
  pub failed : Bool
  pub faults : ℕ
  pub written : Option (List ℕ)

abbrev pub handed : Bool → ℕ → Option (List ℕ) → Handed
handed failed faults written = record { failed = failed; faults = faults; written = written }

-- the sink took all of a piece, and its count of faults stayed
pub record TakesWhole (piece : List ℕ) (before after : Handed) : Type 0 where
  pub not_failed : before.failed ≡ false
  pub written : after.written ≡ grown before.written piece
  pub faults : after.faults ≡ before.faults

-- a piece was handed on
pub record Hands (piece : List ℕ) (before after : Handed) : Type 0 where
  pub nothing_more : before.failed ≡ true → after ≡ before
  pub whole : after.failed ≡ false → TakesWhole piece before after
  pub front : GrowsByFront before.written piece after.written
  pub rose : before.failed ≡ false → after.failed ≡ true → Rose before.faults after.faults
  pub never_falls : before.faults ≤ after.faults

-- pieces that were handed on one after another are one piece, and none is the empty piece
pub record PiecesJoin : Type 0 where
  pub none : (state : Handed) → Hands [] state state
  pub two : (first second : List ℕ) (before between after : Handed)
      → Hands first before between → Hands second between after → Hands (first ++ second) before after
