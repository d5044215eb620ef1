-- The lines that a journal's file has of its moves.
use Rattle.std.proofs.Common.{◌≡◌, ℕ, zero, suc, ◌+◌, ◌-◌, ◌*◌, ◌%◌, ◌<◌, ◌≤◌, ◌^◌, ◌==◌, nat_le, nat_lt, true, not, ◌&&◌, List, [], ◌∷◌, ◌++◌, length, get_or, map, codes, decimal, refl, sym, ap, subst, ◌∙◌, arith, append_assoc, append-nil, length-append, true≢false}
use Rattle.std.specs.List.{list_all}
use Rattle.std.proofs.lemmas.Bool.{and_parts, and_from}
use Rattle.std.proofs.lemmas.Bool.Decides.{nat_tests}
use Rattle.std.proofs.lemmas.Fmt.{decimal_by_steps}
use Rattle.hex.specs.Hex.{encode_lower}
use Rattle.ghost_model.specs.core.Channel.{Catalog, Answer, Made, Port, Piece, End, Failed, Entry, Journal, Move, Dial, Listen, Accept, Send, Take, Close}
use Rattle.ghost_model.specs.core.Asks.{NumberedAsk}
use Rattle.ghost_model.specs.core.Moves.{answer_text, line_end, line_of, line, lines}
use Rattle.ghost_model.specs.core.NextMove.{IsProperWith, standing_after}
use Rattle.ghost_model.specs.forms.Frames.{AreBytes}
use Rattle.ghost_model.specs.core.Recorded.{Tells, TellsMove, TellsDone, TellsGiven, EachTells, ended_line, all_lines, most_journal, is_digit, is_number, number_behind, number, BeginsProperly, IsProperFile}
use Rattle.ghost_model.specs.laws.RecordedLaws.{is_byte, is_done, is_given, is_told_move, is_told}

number_append : (before : ℕ) (digits : List ℕ) (digit : ℕ) → number_behind before (digits ++ digit ∷ []) ≡ number_behind before digits * 10 + (digit - 48)
number_append before [] digit = refl
number_append before (first ∷ digits) digit = number_append (before * 10 + (first - 48)) digits digit

digits_append : (digits : List ℕ) (digit : ℕ) → list_all is_digit digits ≡ true → is_digit digit ≡ true → list_all is_digit (digits ++ digit ∷ []) ≡ true
digits_append [] digit all is = and_from _ _ is refl
digits_append (first ∷ digits) digit all is = and_from _ _ (and_parts _ _ all).0 (digits_append digits digit (and_parts _ _ all).1 is)

-- digits that spell a number, the first of them not 0 where the number is not
record Spells (n : ℕ) (digits : List ℕ) : Type 0 where
  pub all : list_all is_digit digits ≡ true
  pub value : number digits ≡ n
  pub some : 0 < length digits
  pub first : 0 < n → 48 < get_or digits 0 0
  pub alone : n ≡ 0 → length digits ≡ 1

one_digit : (m : ℕ) → m < 10 → is_digit (48 + m) ≡ true
one_digit m low = grind (arith, nat_tests)

first_append : (digits : List ℕ) (digit : ℕ) → 0 < length digits → get_or (digits ++ digit ∷ []) 0 0 ≡ get_or digits 0 0
first_append [] digit some = absurd (omega (arith, some))
first_append (first ∷ digits) digit some = refl

spelled : (n : ℕ) → n < 2 ^ 64 → Spells n (decimal n)
spelled = decimal_by_steps Spells
    (λ m low. record {
      all = and_from _ _ (one_digit m low) refl;
      value = (let e : 0 * 10 + ((48 + m) - 48) ≡ m = omega arith in e);
      some = omega arith;
      first = λ some. (let e : 48 < 48 + m = omega (arith, some) in e);
      alone = λ none. refl;
    })
    (λ m digits high of. record {
      all = digits_append digits (48 + m % 10) of.all (one_digit (m % 10) (omega arith));
      value = number_append 0 digits (48 + m % 10) ∙ (let e = of.value in omega (arith, e));
      some = (let long = length-append digits ((48 + m % 10) ∷ []) in omega (arith, long));
      first = λ some. (let one = of.first (omega (arith, high)) in let e = first_append digits (48 + m % 10) of.some in omega (arith, one, e));
      alone = λ none. absurd (omega (arith, high, none));
    })

numeral_of : (n : ℕ) (digits : List ℕ) → Spells n digits → is_number digits ≡ true
numeral_of n [] of = absurd (let some = of.some in omega (arith, some))
numeral_of n (digit ∷ []) of = (and_parts _ _ of.all).0
numeral_of zero (digit ∷ next ∷ later) of = absurd (let one = of.alone refl in omega (arith, one))
numeral_of (suc n) (digit ∷ next ∷ later) of =
    let parts = and_parts (is_digit digit) (list_all is_digit (next ∷ later)) of.all in
    let first : 48 < digit = of.first (omega arith) in
    let other : not (digit == 48) ≡ true = grind (arith, nat_tests, first) in
    and_from (is_digit digit && not (digit == 48)) (list_all is_digit (next ∷ later)) (and_from (is_digit digit) (not (digit == 48)) parts.0 other) parts.1

bytes_are : (bytes : List ℕ) → list_all is_byte bytes ≡ true → AreBytes bytes
bytes_are [] all i = omega arith
bytes_are (byte ∷ bytes) all zero = (let is = (and_parts (is_byte byte) (list_all is_byte bytes) all).0 in grind (arith, nat_tests, is))
bytes_are (byte ∷ bytes) all (suc i) = bytes_are bytes (and_parts (is_byte byte) (list_all is_byte bytes) all).1 i

-- the text of a line, without its LF
abbrev text_by : Move → Answer → List ℕ
text_by (Dial _) answer = codes "dial " ++ answer_text answer
text_by (Send bytes) answer = codes "send " ++ (encode_lower bytes ++ (codes " " ++ answer_text answer))
text_by (Take most) answer = codes "take " ++ (decimal most ++ (codes " " ++ answer_text answer))
text_by Close answer = codes "close"
text_by _ answer = []

abbrev text_of : Entry → List ℕ
text_of made = text_by made.move made.answer

ended_text : (move : Move) (answer : Answer) → is_told_move move answer ≡ true → line_of move answer ≡ ended_line (text_by move answer)
ended_text (Dial _) answer told = refl
ended_text (Listen _) answer told = cc told
ended_text Accept answer told = cc told
ended_text (Send bytes) answer told = ap (λ (xs : List ℕ). codes "send " ++ xs) (sym (append_assoc (encode_lower bytes) (codes " " ++ answer_text answer) line_end))
ended_text (Take most) answer told = ap (λ (xs : List ℕ). codes "take " ++ xs) (sym (append_assoc (decimal most) (codes " " ++ answer_text answer) line_end))
ended_text Close answer told = refl

done_told : (answer : Answer) → is_done answer ≡ true → TellsDone answer (answer_text answer)
done_told Made told = refl
done_told (Port _) told = absurd (true≢false (sym told))
done_told (Piece _) told = absurd (true≢false (sym told))
done_told End told = absurd (true≢false (sym told))
done_told Failed told = refl

given_told : (most : ℕ) (answer : Answer) → is_given most answer ≡ true → TellsGiven most answer (answer_text answer)
given_told most Made told = absurd (true≢false (sym told))
given_told most (Port _) told = absurd (true≢false (sym told))
given_told most (Piece bytes) told =
    let one = and_parts (nat_lt 0 (length bytes)) (nat_le (length bytes) most && list_all is_byte bytes) told in
    let two = and_parts (nat_le (length bytes) most) (list_all is_byte bytes) one.1 in
    record {
      some = (let e = one.0 in grind (arith, nat_tests, e));
      within = (let e = two.0 in grind (arith, nat_tests, e));
      are_bytes = bytes_are bytes two.1;
      word_is = refl;
    }
given_told most End told = refl
given_told most Failed told = refl

tells_by : (move : Move) (answer : Answer) → is_told_move move answer ≡ true → TellsMove move answer (text_by move answer)
tells_by (Dial []) answer told = record { word = answer_text answer; done = done_told answer told; text_is = refl }
tells_by (Dial (_ ∷ _)) answer told = absurd (true≢false (sym told))
tells_by (Listen _) answer told = absurd (true≢false (sym told))
tells_by Accept answer told = absurd (true≢false (sym told))
tells_by (Send bytes) answer told =
    let parts = and_parts (list_all is_byte bytes) (is_done answer) told in
    record { are_bytes = bytes_are bytes parts.0; word = answer_text answer; done = done_told answer parts.1; text_is = refl }
tells_by (Take most) answer told =
    let parts = and_parts (nat_lt most (2 ^ 64)) (is_given most answer) told in
    let small : most < 2 ^ 64 = (let e = parts.0 in grind (arith, nat_tests, e)) in
    let spells = spelled most small in
    record { digits = decimal most; numeral = numeral_of most (decimal most) spells; value = spells.value; word = answer_text answer; given = given_told most answer parts.1; text_is = refl }
tells_by Close Made told = refl
tells_by Close (Port _) told = absurd (true≢false (sym told))
tells_by Close (Piece _) told = absurd (true≢false (sym told))
tells_by Close End told = absurd (true≢false (sym told))
tells_by Close Failed told = absurd (true≢false (sym told))

pub told_tells : (made : Entry) → is_told made ≡ true → Tells (text_of made) made
told_tells made told =
    let parts = and_parts (is_told_move made.move made.answer) (nat_le (length (line made)) 4201) told in
    let is = ap length (ended_text made.move made.answer parts.0) in
    let long = length-append (text_of made) line_end in
    let short : length (line made) ≤ 4201 = (let e = parts.1 in grind (arith, nat_tests, e)) in
    record { short = omega (arith, is, long, short); tells = tells_by made.move made.answer parts.0 }

each_told : (journal : Journal) → list_all is_told journal ≡ true → EachTells (map text_of journal) journal
each_told [] told = tt
each_told (made ∷ journal) told =
    let parts = and_parts (is_told made) (list_all is_told journal) told in (told_tells made parts.0, each_told journal parts.1)

lines_told : (journal : Journal) → list_all is_told journal ≡ true → lines journal ≡ all_lines (map text_of journal)
lines_told [] told = refl
lines_told (made ∷ journal) told =
    let parts = and_parts (is_told made) (list_all is_told journal) told in
    let one = and_parts (is_told_move made.move made.answer) (nat_le (length (line made)) 4201) parts.0 in
    ap (λ (xs : List ℕ). xs ++ lines journal) (ended_text made.move made.answer one.0)
    ∙ ap (λ (xs : List ℕ). ended_line (text_of made) ++ xs) (lines_told journal parts.1)

-- the lines of a proper journal, and whatever stands behind them
pub front_of : (catalog : Catalog) (asks : List NumberedAsk) (journal : Journal) (rest : List ℕ) → IsProperWith catalog [] asks journal → list_all is_told journal ≡ true
    → length (lines journal) ≤ most_journal → BeginsProperly catalog asks (lines journal ++ rest) journal rest
front_of catalog asks journal rest proper told within = record {
  texts = map text_of journal;
  tell = each_told journal told;
  begins = ap (λ (xs : List ℕ). xs ++ rest) (lines_told journal told);
  within = subst (λ (xs : List ℕ). length xs ≤ most_journal) (lines_told journal told) within;
  proper = proper;
}

pub whole_file : (catalog : Catalog) (asks : List NumberedAsk) (journal : Journal) → IsProperWith catalog [] asks journal → list_all is_told journal ≡ true
    → length (lines journal) ≤ most_journal → IsProperFile catalog asks (lines journal) (length journal) (standing_after catalog asks journal).closed
whole_file catalog asks journal proper told within = record {
  journal = journal;
  whole = subst (λ (file : List ℕ). BeginsProperly catalog asks file journal []) (append-nil (lines journal)) (front_of catalog asks journal [] proper told within);
  counted = refl;
  ends = refl;
}

-- what is computed of lengths
pub within_of : (small large : ℕ) → nat_le small large ≡ true → small ≤ large
within_of small large e = grind (arith, nat_tests, e)

pub front_within : (catalog : Catalog) (asks : List NumberedAsk) (file : List ℕ) (journal : Journal) (rest : List ℕ) (begins : BeginsProperly catalog asks file journal rest) (most more limit : ℕ)
    → nat_le (length file) most ≡ true → nat_le (most + more) limit ≡ true → length (all_lines begins.texts) + more ≤ limit
front_within catalog asks file journal rest begins most more limit short within =
    let e = ap length begins.begins in
    let long = length-append (all_lines begins.texts) rest in
    let low : length file ≤ most = within_of (length file) most short in
    let high : most + more ≤ limit = within_of (most + more) limit within in
    omega (arith, e, long, low, high)
