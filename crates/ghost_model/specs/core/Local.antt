-- A session whose host is in the key's own process: no move fails, each take is given all that it asks for, and what is
-- taken begins what the host sends for the key's bytes. Together with the next move this leaves one journal.
use Rattle.std.specs.Prelude.{◌≡◌, ℕ, Bool, true, false, ◌==◌, List, ◌++◌, length}
use Rattle.std.specs.List.{list_all, concat}
use Rattle.ghost_model.specs.core.Channel.{Move, Listen, Accept, Take, Answer, Made, Piece, Entry, Journal}
use Rattle.ghost_model.specs.core.Moves.{taken, sent}
use Rattle.ghost_model.specs.core.Host.{Holding, host_sends}

abbrev pub is_made : Answer → Bool
is_made Made = true
is_made _ = false

-- whether a move was answered in full; only a host listens and accepts
abbrev pub is_answered_in_full : Move → Answer → Bool
is_answered_in_full (Listen _) answer = false
is_answered_in_full Accept answer = false
is_answered_in_full (Take most) (Piece bytes) = length bytes == most
is_answered_in_full (Take most) _ = false
is_answered_in_full _ answer = is_made answer

abbrev pub is_full : Entry → Bool
is_full entry = is_answered_in_full entry.move entry.answer

pub record IsServedBy (held : Holding) (journal : Journal) : Type 0 where
  pub full : list_all is_full journal ≡ true
  -- what the host said and the key did not take
  pub rest : List ℕ
  pub said : taken journal ++ rest ≡ host_sends held (concat (sent journal))
