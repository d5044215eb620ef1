-- What a sink has been written, where it tells it: `Some` of all its bytes so far, or `None` for a sink that tells
-- nothing. Each word here goes from the telling before a call to the telling after it, so that one clause serves both.
use Rattle.std.specs.Prelude.{◌≡◌, ℕ, List, ◌++◌, Option, None, Some}

-- the told bytes with a piece at their end
abbrev pub grown : Option (List ℕ) → List ℕ → Option (List ℕ)
grown None piece = None
grown (Some bytes) piece = Some (bytes ++ piece)

-- a text begins with a front
pub record Begins (front whole : List ℕ) : Type 0 where
  pub rest : List ℕ
  pub joined : whole ≡ front ++ rest

-- what was told has grown by some front of a piece: by nothing, by a part of it, or by all of it
pub record GrowsByFront (before : Option (List ℕ)) (piece : List ℕ) (after : Option (List ℕ)) : Type 0 where
  pub front : List ℕ
  pub begins : Begins front piece
  pub grew : after ≡ grown before front
