-- A journal's two sides, and its file. What one end took is the pieces of its takes, joined; what it sent is the list
-- of the byte strings that it handed over. The file has one line for each move, which ends with LF: `dial ok`,
-- `dial failed`, `send HEX ok`, `send HEX failed`, `take N HEX`, `take N end`, `take N failed`, `close`. N is what was
-- asked for in decimal, HEX is in lower case without spaces. Only the key keeps such a file, so the host's own moves
-- have no line.
use Rattle.std.specs.Prelude.{ℕ, List, [], ◌∷◌, ◌++◌, flat_map, map, codes, decimal}
use Rattle.hex.specs.Hex.{encode_lower}
use Rattle.ghost_model.specs.core.Channel.{Move, Dial, Send, Take, Close, Answer, Made, Port, Piece, End, Failed, Entry, Journal}

abbrev pub piece_of : Answer → List ℕ
piece_of (Piece bytes) = bytes
piece_of _ = []

-- the byte strings that a move sent, one or none
abbrev pub sent_by : Move → List (List ℕ)
sent_by (Send bytes) = bytes ∷ []
sent_by _ = []

abbrev pub answers : Journal → List Answer
answers journal = map (λ entry. entry.answer) journal

-- the pieces joined
abbrev pub taken : Journal → List ℕ
taken journal = flat_map (λ entry. piece_of entry.answer) journal

abbrev pub sent : Journal → List (List ℕ)
sent journal = flat_map (λ entry. sent_by entry.move) journal

-- the last word of a line: how a move was answered
abbrev pub answer_text : Answer → List ℕ
answer_text Made = codes "ok"
answer_text (Port port) = decimal port
answer_text (Piece bytes) = encode_lower bytes
answer_text End = codes "end"
answer_text Failed = codes "failed"

abbrev pub line_end : List ℕ
line_end = 10 ∷ []

abbrev pub line_of : Move → Answer → List ℕ
line_of (Dial _) answer = codes "dial " ++ (answer_text answer ++ line_end)
line_of (Send bytes) answer = codes "send " ++ (encode_lower bytes ++ (codes " " ++ (answer_text answer ++ line_end)))
line_of (Take most) answer = codes "take " ++ (decimal most ++ (codes " " ++ (answer_text answer ++ line_end)))
line_of Close answer = codes "close" ++ line_end
line_of _ answer = []

abbrev pub line : Entry → List ℕ
line entry = line_of entry.move entry.answer

-- the bytes of the journal's file
abbrev pub lines : Journal → List ℕ
lines journal = flat_map line journal
