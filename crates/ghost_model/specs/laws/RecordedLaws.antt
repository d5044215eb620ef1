-- What holds of a journal's file and of its lines.
use Rattle.std.specs.Prelude.{◌≡◌, ℕ, ◌≤◌, ◌^◌, Bool, true, false, ◌&&◌, nat_lt, nat_le, List, [], length}
use Rattle.std.specs.List.{list_all}
use Rattle.ghost_model.specs.core.Channel.{Catalog, Move, Dial, Send, Take, Close, Answer, Made, Piece, Failed, Entry, Journal}
use Rattle.ghost_model.specs.core.Asks.{NumberedAsk}
use Rattle.ghost_model.specs.core.Moves.{line, lines}
use Rattle.ghost_model.specs.core.NextMove.{IsProperWith, standing_after, is_stop}
use Rattle.ghost_model.specs.core.Local.{is_made}
use Rattle.ghost_model.specs.core.Recorded.{Tells, lacks, most_journal, Finding, Proper, AuditFinds}

-- a line that tells a move has no LF
abbrev pub LinesHaveNoEnd : Type 0
LinesHaveNoEnd = (text : List ℕ) (made : Entry) → Tells text made → lacks 10 text ≡ true

-- a line tells one move with one answer
abbrev pub LinesTellOneMove : Type 0
LinesTellOneMove = (text : List ℕ) (made other : Entry) → Tells text made → Tells text other → made ≡ other

-- a file has one finding
abbrev pub FilesHaveOneFinding : Type 0
FilesHaveOneFinding =
    (catalog : Catalog) (asks : List NumberedAsk) (file : List ℕ) (one other : Finding)
    → AuditFinds catalog asks file one → AuditFinds catalog asks file other → one ≡ other

abbrev pub is_byte : ℕ → Bool
is_byte byte = nat_lt byte 256

abbrev pub is_done : Answer → Bool
is_done Made = true
is_done Failed = true
is_done _ = false

abbrev pub is_given : (most : ℕ) → Answer → Bool
is_given most (Piece bytes) = nat_lt 0 (length bytes) && (nat_le (length bytes) most && list_all is_byte bytes)
is_given most answer = is_stop answer

-- whether a key's move that was answered so has a line that tells it
abbrev pub is_told_move : Move → Answer → Bool
is_told_move (Dial []) answer = is_done answer
is_told_move (Send bytes) answer = list_all is_byte bytes && is_done answer
is_told_move (Take most) answer = nat_lt most (2 ^ 64) && is_given most answer
is_told_move Close answer = is_made answer
is_told_move _ answer = false

abbrev pub is_told : Entry → Bool
is_told made = is_told_move made.move made.answer && nat_le (length (line made)) 4201

-- an audit finds the moves of a proper journal in the file of its lines
abbrev pub ProperFilesAreFound : Type 0
ProperFilesAreFound =
    (catalog : Catalog) (asks : List NumberedAsk) (journal : Journal) → IsProperWith catalog [] asks journal
    → list_all is_told journal ≡ true → length (lines journal) ≤ most_journal
    → AuditFinds catalog asks (lines journal) (Proper (length journal) (standing_after catalog asks journal).closed)
