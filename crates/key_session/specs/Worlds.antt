-- What whoever sees the channel of a session can learn from it. Take two sessions of one script with one catalog at one address,
-- each over a flash of its own, with hidden columns, page buffers, plan and pace of its own, and with whatever host. As long as the
-- hosts answer the same, the moves and all their bytes are the same; and with the same answers to the end, the whole journal is.
use Rattle.std.specs.Prelude.{◌≡◌, ℕ, ◌+◌, ◌<◌, Bool, List, length, take}
use Rattle.ghost_model.specs.core.Channel.{Catalog, Journal}
use Rattle.ghost_model.specs.core.Moves.{answers}
use Rattle.ghost_model.specs.laws.ShortWords.{moves}
use Rattle.leakless_plan.specs.declared.plan.Plan.{Plan}
use Rattle.key_session.specs.Running.{HasRun}
use Rattle.key_session.specs.Telling.{SessionSide}
use Rattle.key_session.specs.declared.tally.Tally.{Tally}

-- two journals are the same up to and with the move after the first answers that are the same, and where all are
pub record AreAlike (one other : Journal) : Type 0 where
  pub so_far :
      (i : ℕ) → i < length one → i < length other → answers (take i one) ≡ answers (take i other)
      → moves (take (i + 1) one) ≡ moves (take (i + 1) other)
  pub whole : answers one ≡ answers other → one ≡ other

-- whatever links they went by
abbrev pub SessionsAreAlike : (goes other_goes : Journal → Type 0) → Type 0
SessionsAreAlike goes other_goes =
    (catalog : Catalog) (at : List ℕ) (texts : List (List ℕ)) (failed fails other_failed other_fails : ℕ) (by other_by : Plan) (told other_told : Bool)
    (since now other_since other_now : SessionSide) (tally other_tally : Tally)
    → (one : HasRun goes failed fails by told catalog at texts since now tally)
    → (other : HasRun other_goes other_failed other_fails other_by other_told catalog at texts other_since other_now other_tally)
    → AreAlike one.journal other.journal
