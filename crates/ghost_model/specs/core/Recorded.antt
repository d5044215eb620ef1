-- Whether the file of a journal is one that a key may have left. Each line of such a file tells a move and its answer, in the
-- words of the journal, and ends with LF: `dial ok`, `dial failed`, `send HEX ok`, `send HEX failed`, `take N HEX`,
-- `take N end`, `take N failed`, `close`. HEX is in lower case, and has two digits for each byte; N has no leading zeros, and any
-- number of digits. What was taken is some bytes, and no more than were asked for. The address that was dialled stands in no
-- line, and counts as empty here.
use Rattle.std.specs.Prelude.{◌≡◌, ℕ, ◌+◌, ◌-◌, ◌*◌, ◌<◌, ◌≤◌, ◌^◌, Bool, true, false, not, ◌&&◌, ◌==◌, nat_le, List, [], ◌∷◌, ◌++◌, length, flat_map, codes, Some}
use Rattle.std.specs.List.{list_all}
use Rattle.hex.specs.Hex.{encode_lower}
use Rattle.ghost_model.specs.core.Channel.{Catalog, Move, Dial, Send, Take, Close, Answer, Made, Piece, End, Failed, Entry, Journal}
use Rattle.ghost_model.specs.core.Asks.{NumberedAsk}
use Rattle.ghost_model.specs.core.Moves.{line_end}
use Rattle.ghost_model.specs.core.NextMove.{IsProperWith, next_with, standing_after}
use Rattle.ghost_model.specs.forms.Frames.{AreBytes}

-- no byte of a text is this one
abbrev pub lacks : (byte : ℕ) → List ℕ → Bool
lacks byte text = list_all (λ one. not (one == byte)) text

-- the limits of a line, its LF not counted, and of a journal's file
abbrev pub most_line : ℕ
most_line = 4200

abbrev pub most_journal : ℕ
most_journal = 2 ^ 32

abbrev pub is_digit : ℕ → Bool
is_digit byte = nat_le 48 byte && nat_le byte 57

-- decimal digits, without leading zeros
abbrev pub is_number : List ℕ → Bool
is_number [] = false
is_number (digit ∷ []) = is_digit digit
is_number (digit ∷ later) = is_digit digit && not (digit == 48) && list_all is_digit later

abbrev pub number_behind : (before : ℕ) → List ℕ → ℕ
number_behind before [] = before
number_behind before (digit ∷ later) = number_behind (before * 10 + (digit - 48)) later

-- the number that digits spell
abbrev pub number : List ℕ → ℕ
number digits = number_behind 0 digits

-- the word for the answer of a move that gives nothing
abbrev pub TellsDone : Answer → (word : List ℕ) → Type 0
TellsDone Made word = word ≡ codes "ok"
TellsDone Failed word = word ≡ codes "failed"
TellsDone _ word = ⊥

-- some bytes were taken, and no more than were asked for
pub record TellsPiece (most : ℕ) (bytes word : List ℕ) : Type 0 where
  pub some : 0 < length bytes
  pub within : length bytes ≤ most
  pub are_bytes : AreBytes bytes
  pub word_is : word ≡ encode_lower bytes

-- the word for the answer of a take
abbrev pub TellsGiven : (most : ℕ) → Answer → (word : List ℕ) → Type 0
TellsGiven most (Piece bytes) word = TellsPiece most bytes word
TellsGiven most End word = word ≡ codes "end"
TellsGiven most Failed word = word ≡ codes "failed"
TellsGiven most _ word = ⊥

pub record TellsDial (answer : Answer) (text : List ℕ) : Type 0 where
  pub word : List ℕ
  pub done : TellsDone answer word
  pub text_is : text ≡ codes "dial " ++ word

pub record TellsSend (bytes : List ℕ) (answer : Answer) (text : List ℕ) : Type 0 where
  pub are_bytes : AreBytes bytes
  pub word : List ℕ
  pub done : TellsDone answer word
  pub text_is : text ≡ codes "send " ++ (encode_lower bytes ++ (codes " " ++ word))

pub record TellsTake (most : ℕ) (answer : Answer) (text : List ℕ) : Type 0 where
  pub digits : List ℕ
  pub numeral : is_number digits ≡ true
  pub value : number digits ≡ most
  pub word : List ℕ
  pub given : TellsGiven most answer word
  pub text_is : text ≡ codes "take " ++ (digits ++ (codes " " ++ word))

abbrev pub TellsClose : Answer → (text : List ℕ) → Type 0
TellsClose Made text = text ≡ codes "close"
TellsClose _ text = ⊥

-- the text of a line, without its LF, that tells how a move was answered
abbrev pub TellsMove : Move → Answer → (text : List ℕ) → Type 0
TellsMove (Dial []) answer text = TellsDial answer text
TellsMove (Send bytes) answer text = TellsSend bytes answer text
TellsMove (Take most) answer text = TellsTake most answer text
TellsMove Close answer text = TellsClose answer text
TellsMove _ answer text = ⊥

-- a line, without its LF, tells a move and its answer
pub record Tells (text : List ℕ) (made : Entry) : Type 0 where
  pub short : length text ≤ most_line
  pub tells : TellsMove made.move made.answer text

-- each of these lines tells the move beside it
abbrev pub EachTells : List (List ℕ) → Journal → Type 0
EachTells [] [] = Unit {0}
EachTells (text ∷ texts) (made ∷ journal) = Tells text made × EachTells texts journal
EachTells _ _ = ⊥

abbrev pub ended_line : List ℕ → List ℕ
ended_line text = text ++ line_end

-- the bytes of these lines, each with its LF
abbrev pub all_lines : List (List ℕ) → List ℕ
all_lines texts = flat_map ended_line texts

-- the file begins with the lines of a journal each of whose moves is the next one after those before it, and this is the rest
pub record BeginsProperly (catalog : Catalog) (asks : List NumberedAsk) (file : List ℕ) (journal : Journal) (rest : List ℕ) : Type 0 where
  pub texts : List (List ℕ)
  pub tell : EachTells texts journal
  pub begins : file ≡ all_lines texts ++ rest
  pub within : length (all_lines texts) ≤ most_journal
  pub proper : IsProperWith catalog [] asks journal

-- behind so many bytes of a file the next line tells this move, and ends within the limit of a file
pub record GoesOnWith (before : ℕ) (rest : List ℕ) (made : Entry) : Type 0 where
  pub text : List ℕ
  pub later : List ℕ
  pub tells : Tells text made
  pub begins : rest ≡ ended_line text ++ later
  pub within : before + length (ended_line text) ≤ most_journal

-- the file is a proper journal of so many moves, closed or not
pub record IsProperFile (catalog : Catalog) (asks : List NumberedAsk) (file : List ℕ) (moves : ℕ) (closed : Bool) : Type 0 where
  pub journal : Journal
  pub whole : BeginsProperly catalog asks file journal []
  pub counted : moves ≡ length journal
  pub ends : closed ≡ (standing_after catalog asks journal).closed

-- the move with this number, from 1, is the first that is not the next one
pub record IsWrongAt (catalog : Catalog) (asks : List NumberedAsk) (file : List ℕ) (at : ℕ) : Type 0 where
  pub journal : Journal
  pub rest : List ℕ
  pub before : BeginsProperly catalog asks file journal rest
  pub made : Entry
  pub there : GoesOnWith (length (all_lines before.texts)) rest made
  pub wrong : next_with catalog [] asks journal ≡ Some made.move → ⊥
  pub place : at ≡ length journal + 1

-- behind proper moves stands something that is no line, at the line with this number, from 1
pub record IsNoLineAt (catalog : Catalog) (asks : List NumberedAsk) (file : List ℕ) (at : ℕ) : Type 0 where
  pub journal : Journal
  pub rest : List ℕ
  pub before : BeginsProperly catalog asks file journal rest
  pub some : 0 < length rest
  pub no_line : (made : Entry) → GoesOnWith (length (all_lines before.texts)) rest made → ⊥
  pub place : at ≡ length journal + 1

-- what an audit finds in a file: proper moves, so many, closed or not; the first move that is not the next one; or the first
-- line that is none, where no move before it was wrong
pub data Finding : Type 0 where
  Proper : (moves : ℕ) (closed : Bool) → Finding
  Wrong : (at : ℕ) → Finding
  NoLine : (at : ℕ) → Finding

abbrev pub AuditFinds : Catalog → (asks : List NumberedAsk) → (file : List ℕ) → Finding → Type 0
AuditFinds catalog asks file (Proper moves closed) = IsProperFile catalog asks file moves closed
AuditFinds catalog asks file (Wrong at) = IsWrongAt catalog asks file at
AuditFinds catalog asks file (NoLine at) = IsNoLineAt catalog asks file at
