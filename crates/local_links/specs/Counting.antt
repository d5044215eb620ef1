-- A link that counts the moves and the bytes of another. What a journal counts: its moves, the bytes that were handed over to
-- be sent, whether sending them went well or failed, and the bytes that were taken.
use Rattle.std.specs.Prelude.{◌≡◌, ℕ, ◌+◌, min, length}
use Rattle.std.specs.List.{concat}
use Rattle.ghost_model.specs.core.Causes.{last_count}
use Rattle.ghost_model.specs.core.Channel.{Journal}
use Rattle.ghost_model.specs.core.Moves.{taken, sent}
use Rattle.local_links.specs.declared.counts.Counts.{Counts}
use Rattle.local_links.specs.declared.counted.Counted.{Counted}

abbrev pub moves_in : Journal → ℕ
moves_in journal = length journal

abbrev pub bytes_sent : Journal → ℕ
bytes_sent journal = length (concat (sent journal))

abbrev pub bytes_taken : Journal → ℕ
bytes_taken journal = length (taken journal)

-- a count with so many more, which stays at its last value
abbrev pub with_more : (count more : ℕ) → ℕ
with_more count more = min (count + more) last_count

-- what a link has counted
abbrev pub counts_of : {L : Type 0} → Counted L → Counts
counts_of link = link.counts

-- nothing is counted yet
pub record HaveNothing (counts : Counts) : Type 0 where
  pub moves : counts.moves ≡ 0
  pub sent : counts.sent ≡ 0
  pub taken : counts.taken ≡ 0

-- one move was counted, which sent and took so many bytes
pub record CountOne (before : Counts) (sends takes : ℕ) (after : Counts) : Type 0 where
  pub moves : after.moves ≡ with_more before.moves 1
  pub sent : after.sent ≡ with_more before.sent sends
  pub taken : after.taken ≡ with_more before.taken takes

-- the moves of a journal were counted
pub record CountAll (before : Counts) (journal : Journal) (after : Counts) : Type 0 where
  pub moves : after.moves ≡ with_more before.moves (moves_in journal)
  pub sent : after.sent ≡ with_more before.sent (bytes_sent journal)
  pub taken : after.taken ≡ with_more before.taken (bytes_taken journal)

-- the other link went by these moves, and they were counted
pub record IsCounted {L : Type 0} (Went : L → Journal → L → Type 0) (before : Counted L) (journal : Journal) (after : Counted L) : Type 0 where
  pub same_link : after.link.ghost_name ≡ before.link.ghost_name
  pub moved : Went before.link.now journal after.link.now
  pub counted : CountAll (counts_of before) journal (counts_of after)
