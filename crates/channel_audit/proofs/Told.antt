-- What the parts of a line tell.
use Rattle.std.proofs.Common.{◌≡◌, ℕ, ◌≤◌, ◌<◌, ◌⊎◌, min, get_or, Bool, true, List, [], ◌∷◌, ◌++◌, length, take, drop, codes, refl, sym, ap, subst, ◌∙◌, arith}
use Rattle.hex.specs.Hex.{encode_lower, lower_digits}
use Rattle.hex.proofs.HexLemmas.{length-encode_with}
use Rattle.ghost_model.specs.core.Channel.{Answer, Made, Port, Piece, End, Failed, Entry, Move, Dial, Listen, Accept, Send, Take, Close}
use Rattle.ghost_model.specs.forms.Frames.{AreBytes}
use Rattle.ghost_model.specs.core.Recorded.{Tells, TellsMove, TellsDial, TellsSend, TellsTake, TellsGiven, TellsPiece, TellsDone, is_number, is_digit, number, lacks}
use Rattle.channel_audit.specs.Lines.{Cuts, done_as}
use Rattle.ghost_model.proofs.RecordedLemmas.Texts.{cut_once, passes_lack, hex_lacks, hex_once, has_byte, number_digits}

-- no word for an answer
pub not_done : (word : List ℕ) → (word ≡ codes "ok" → ⊥) → (word ≡ codes "failed" → ⊥) → (answer : Answer) → TellsDone answer word → ⊥
not_done word ok failed Made tells = ok tells
not_done word ok failed (Port _) tells = tells
not_done word ok failed (Piece _) tells = tells
not_done word ok failed End tells = tells
not_done word ok failed Failed tells = failed tells

pub not_given : (most : ℕ) (word : List ℕ) → (word ≡ codes "end" → ⊥) → (word ≡ codes "failed" → ⊥) → ((bytes : List ℕ) → TellsPiece most bytes word → ⊥)
    → (answer : Answer) → TellsGiven most answer word → ⊥
not_given most word ended failed piece Made tells = tells
not_given most word ended failed piece (Port _) tells = tells
not_given most word ended failed piece (Piece bytes) tells = piece bytes tells
not_given most word ended failed piece End tells = ended tells
not_given most word ended failed piece Failed tells = failed tells

-- a text behind `send ` that has no blank
pub no_send : (text : List ℕ) → lacks 32 text ≡ true → (bytes : List ℕ) (answer : Answer) → TellsSend bytes answer (codes "send " ++ text) → ⊥
no_send text none bytes answer tells = has_byte 32 (encode_lower bytes) tells.word text none (ap (drop 5) tells.text_is)

-- a text behind `send ` that is cut at its first blank
pub send_parts : (text first rest : List ℕ) → Cuts 32 text first rest → (bytes : List ℕ) (answer : Answer) → TellsSend bytes answer (codes "send " ++ text)
    → (first ≡ encode_lower bytes) × TellsDone answer rest
send_parts text first rest cuts bytes answer tells =
    let parts = cut_once 32 first rest (encode_lower bytes) tells.word cuts.lacking (hex_lacks 32 refl bytes tells.are_bytes)
    (sym cuts.joined ∙ ap (drop 5) tells.text_is) in
    (parts.0, subst (TellsDone answer) (sym parts.1) tells.done)

pub send_read : (text first rest : List ℕ) → Cuts 32 text first rest → (well : Bool) → TellsDone (done_as well) rest → (bytes : List ℕ) → encode_lower bytes ≡ first → AreBytes bytes
    → TellsSend bytes (done_as well) (codes "send " ++ text)
send_read text first rest cuts well done bytes spelled are = record {
  are_bytes = are;
  word = rest;
  done = done;
  text_is = ap (λ (xs : List ℕ). codes "send " ++ xs) (cuts.joined ∙ ap (λ (xs : List ℕ). xs ++ 32 ∷ rest) (sym spelled));
}

-- a text behind `take ` that has no blank
pub no_take : (text : List ℕ) → lacks 32 text ≡ true → (most : ℕ) (answer : Answer) → TellsTake most answer (codes "take " ++ text) → ⊥
no_take text none most answer tells = has_byte 32 tells.digits tells.word text none (ap (drop 5) tells.text_is)

-- the digits and the last word of a take
pub record TakeParts (most : ℕ) (answer : Answer) (first rest : List ℕ) : Type 0 where
  pub numeral : is_number first ≡ true
  pub value : number first ≡ most
  pub given : TellsGiven most answer rest

pub take_parts : (text first rest : List ℕ) → Cuts 32 text first rest → (most : ℕ) (answer : Answer) → TellsTake most answer (codes "take " ++ text)
    → TakeParts most answer first rest
take_parts text first rest cuts most answer tells =
    let parts = cut_once 32 first rest tells.digits tells.word cuts.lacking (passes_lack is_digit 32 refl tells.digits (number_digits tells.digits tells.numeral))
    (sym cuts.joined ∙ ap (drop 5) tells.text_is) in
    record {
      numeral = ap is_number parts.0 ∙ tells.numeral;
      value = ap number parts.0 ∙ tells.value;
      given = subst (TellsGiven most answer) (sym parts.1) tells.given;
    }

-- a limit beyond all pieces of a line does not matter
pub given_up_to : (most : ℕ) (word : List ℕ) → length word ≤ 4200 → (answer : Answer) → TellsGiven most answer word → TellsGiven (min most 100000) answer word
given_up_to most word short Made tells = tells
given_up_to most word short (Port _) tells = tells
given_up_to most word short (Piece bytes) tells =
    let twice = length-encode_with lower_digits bytes in
    let is = ap length tells.word_is in
    record { some = tells.some; within = (let less = tells.within in omega (arith, twice, is, less)); are_bytes = tells.are_bytes; word_is = tells.word_is }
given_up_to most word short End tells = tells
given_up_to most word short Failed tells = tells

pub given_beyond : (most : ℕ) (word : List ℕ) (answer : Answer) → TellsGiven (min most 100000) answer word → TellsGiven most answer word
given_beyond most word Made tells = tells
given_beyond most word (Port _) tells = tells
given_beyond most word (Piece bytes) tells =
    record { some = tells.some; within = (let less = tells.within in omega (arith, less)); are_bytes = tells.are_bytes; word_is = tells.word_is }
given_beyond most word End tells = tells
given_beyond most word Failed tells = tells

pub take_read : (text first rest : List ℕ) → Cuts 32 text first rest → is_number first ≡ true → (answer : Answer) → TellsGiven (number first) answer rest
    → TellsTake (number first) answer (codes "take " ++ text)
take_read text first rest cuts numeral answer given = record {
  digits = first;
  numeral = numeral;
  value = refl;
  word = rest;
  given = given;
  text_is = ap (λ (xs : List ℕ). codes "take " ++ xs) cuts.joined;
}

-- another piece is spelled otherwise
pub other_piece : (most : ℕ) (word bytes : List ℕ) → encode_lower bytes ≡ word → AreBytes bytes → ((length bytes ≡ 0) ⊎ (most < length bytes))
    → (piece : List ℕ) → TellsPiece most piece word → ⊥
other_piece most word bytes spelled are misfit piece tells =
    let same : bytes ≡ piece = hex_once bytes piece are tells.are_bytes (spelled ∙ tells.word_is) in
    let long = ap length same in
    let some = tells.some in
    let within = tells.within in
    omega (arith, long, some, within, misfit)

-- a text that is none of the four kinds
pub no_kind : (text : List ℕ) → (text ≡ codes "close" → ⊥) → ((rest : List ℕ) → text ≡ codes "dial " ++ rest → ⊥) → ((rest : List ℕ) → text ≡ codes "send " ++ rest → ⊥)
    → ((rest : List ℕ) → text ≡ codes "take " ++ rest → ⊥) → (made : Entry) → Tells text made → ⊥
no_kind text close dial send take made tells = by made.move made.answer tells.tells
  where
    by : (move : Move) (answer : Answer) → TellsMove move answer text → ⊥
    by (Dial []) answer t = dial t.word t.text_is
    by (Dial (_ ∷ _)) answer t = t
    by (Listen _) answer t = t
    by Accept answer t = t
    by (Send bytes) answer t = send _ t.text_is
    by (Take most) answer t = take _ t.text_is
    by Close Made t = close t
    by Close (Port _) t = t
    by Close (Piece _) t = t
    by Close End t = t
    by Close Failed t = t

-- a text behind `dial ` that tells no dial tells nothing
pub no_dial_line : (rest : List ℕ) → ((answer : Answer) → TellsDial answer (codes "dial " ++ rest) → ⊥) → (made : Entry) → Tells (codes "dial " ++ rest) made → ⊥
no_dial_line rest none made tells = by made.move made.answer tells.tells
  where
    by : (move : Move) (answer : Answer) → TellsMove move answer (codes "dial " ++ rest) → ⊥
    by (Dial []) answer t = none answer t
    by (Dial (_ ∷ _)) answer t = t
    by (Listen _) answer t = t
    by Accept answer t = t
    by (Send bytes) answer t = (let e : 100 ≡ 115 = ap (λ (xs : List ℕ). get_or xs 0 0) t.text_is in omega (arith, e))
    by (Take most) answer t = (let e : 100 ≡ 116 = ap (λ (xs : List ℕ). get_or xs 0 0) t.text_is in omega (arith, e))
    by Close Made t = (let e : 100 ≡ 99 = ap (λ (xs : List ℕ). get_or xs 0 0) t in omega (arith, e))
    by Close (Port _) t = t
    by Close (Piece _) t = t
    by Close End t = t
    by Close Failed t = t

pub no_send_line : (rest : List ℕ) → ((bytes : List ℕ) (answer : Answer) → TellsSend bytes answer (codes "send " ++ rest) → ⊥) → (made : Entry) → Tells (codes "send " ++ rest) made → ⊥
no_send_line rest none made tells = by made.move made.answer tells.tells
  where
    by : (move : Move) (answer : Answer) → TellsMove move answer (codes "send " ++ rest) → ⊥
    by (Dial []) answer t = (let e : 115 ≡ 100 = ap (λ (xs : List ℕ). get_or xs 0 0) t.text_is in omega (arith, e))
    by (Dial (_ ∷ _)) answer t = t
    by (Listen _) answer t = t
    by Accept answer t = t
    by (Send bytes) answer t = none bytes answer t
    by (Take most) answer t = (let e : 115 ≡ 116 = ap (λ (xs : List ℕ). get_or xs 0 0) t.text_is in omega (arith, e))
    by Close Made t = (let e : 115 ≡ 99 = ap (λ (xs : List ℕ). get_or xs 0 0) t in omega (arith, e))
    by Close (Port _) t = t
    by Close (Piece _) t = t
    by Close End t = t
    by Close Failed t = t

pub no_take_line : (rest : List ℕ) → ((most : ℕ) (answer : Answer) → TellsTake most answer (codes "take " ++ rest) → ⊥) → (made : Entry) → Tells (codes "take " ++ rest) made → ⊥
no_take_line rest none made tells = by made.move made.answer tells.tells
  where
    by : (move : Move) (answer : Answer) → TellsMove move answer (codes "take " ++ rest) → ⊥
    by (Dial []) answer t = (let e : 116 ≡ 100 = ap (λ (xs : List ℕ). get_or xs 0 0) t.text_is in omega (arith, e))
    by (Dial (_ ∷ _)) answer t = t
    by (Listen _) answer t = t
    by Accept answer t = t
    by (Send bytes) answer t = (let e : 116 ≡ 115 = ap (λ (xs : List ℕ). get_or xs 0 0) t.text_is in omega (arith, e))
    by (Take most) answer t = none most answer t
    by Close Made t = (let e : 116 ≡ 99 = ap (λ (xs : List ℕ). get_or xs 0 0) t in omega (arith, e))
    by Close (Port _) t = t
    by Close (Piece _) t = t
    by Close End t = t
    by Close Failed t = t
