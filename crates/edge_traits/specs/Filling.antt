-- A buffer that is filled from a link by one take after another.
use Rattle.std.specs.Prelude.{◌≡◌, ℕ, ◌-◌, true, false, ⊤, nat_lt, List, [], ◌∷◌, length, take, Result, IfOk, OnErr}
use Rattle.std.specs.List.{list_any}
use Rattle.ghost_model.specs.core.Channel.{Entry, Journal}
use Rattle.ghost_model.specs.core.Channel as channel
use Rattle.ghost_model.specs.core.Moves.{piece_of, answers, taken}
use Rattle.ghost_model.specs.core.NextMove.{is_stop}
use Rattle.edge_traits.specs.Counting.{has_failed}

-- one move of a filling: it asks for what is missing, and after the end of the stream or a failure there is no other
pub record IsTakeOf (missing : ℕ) (made : Entry) (more : Journal) : Type 0 where
  pub asks : made.move ≡ channel.Take missing
  pub stops : is_stop made.answer ≡ true → more ≡ []

-- all moves ask for what is missing, and there is none after the end of the stream or a failure
abbrev pub AreTakes : (missing : ℕ) → Journal → Type 0
AreTakes missing [] = ⊤
AreTakes missing (made ∷ more) = IsTakeOf missing made more × AreTakes (missing - length (piece_of made.answer)) more

-- a buffer was filled: what was taken stands at its front, and it is full unless the stream ended or a move failed
pub record Fills {E : Type 0} (Went : Journal → Type 0) (most : ℕ) (result : Result ℕ E) (buffer : List ℕ) : Type 0 where
  pub journal : Journal
  pub went : Went journal
  pub takes : AreTakes most journal
  pub front : take (length (taken journal)) buffer ≡ taken journal
  pub counted : IfOk result (λ count. count ≡ length (taken journal))
  pub ended : IfOk result (λ count. list_any is_stop (answers journal) ≡ nat_lt count most)
  pub failed : OnErr result (list_any is_stop (answers journal) ≡ true)
  -- a move failed exactly where the filling did
  pub calm : IfOk result (λ _. has_failed journal ≡ false)
  pub broken : OnErr result (has_failed journal ≡ true)
