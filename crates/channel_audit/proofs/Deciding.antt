-- Each line tells a move or none, and so each file has a finding.
use Rattle.std.proofs.Common.{◌≡◌, ℕ, zero, suc, ◌+◌, ◌<◌, ◌≤◌, ◌⊎◌, inl, inr, ◌==◌, Bool, true, false, not, List, [], ◌∷◌, ◌++◌, length, drop, get_or, codes, Option, Some, None, Ok, Err, Result, refl, sym, ap, subst, ◌∙◌, arith, append_assoc, append-nil, length-append, true≢false}
use Rattle.std.specs.Prelude.{nat_le, nat_lt, bytes_eq}
use Rattle.std.specs.List.{list_all}
use Rattle.std.specs.Bool.{Decides}
use Rattle.std.proofs.lemmas.Bool.{and_parts, and_from, eqb-true}
use Rattle.std.proofs.lemmas.Bool.Decides.{nat_tests, Decides-eqb}
use Rattle.std.proofs.lemmas.Slice.Eq.{bytes_eq-Decides}
use Rattle.hex.specs.Hex.{encode_lower, decode_of}
use Rattle.hex.specs.declared.error.FromHexError.{FromHexError}
use Rattle.hex.proofs.HexLemmas.{decode_of-encode_lower, decode_of-same}
use Rattle.ghost_model.specs.core.Channel.{Catalog, Answer, Made, Piece, End, Failed, Entry, Journal, Move, Dial, Listen, Accept, Send, Take, Close}
use Rattle.ghost_model.specs.core.Asks.{NumberedAsk}
use Rattle.ghost_model.specs.core.NextMove.{next_with, standing_after, GoesOn}
use Rattle.ghost_model.specs.forms.Frames.{AreBytes}
use Rattle.ghost_model.specs.core.Recorded.{Tells, TellsDone, TellsGiven, TellsDial, TellsSend, TellsTake, ended_line, all_lines, most_line, most_journal, is_number, number, lacks, BeginsProperly, GoesOnWith, Proper, Wrong, NoLine}
use Rattle.ghost_model.specs.laws.RecordedLaws.{is_byte}
use Rattle.ghost_model.proofs.RecordedLemmas.Texts.{cut_once, has_byte}
use Rattle.ghost_model.proofs.RecordedLemmas.Ends.{told_lacks, lines_more, ended_rest}
use Rattle.channel_audit.specs.Laws.{HasFinding}
use Rattle.channel_audit.specs.Lines.{Cuts, entry}
use Rattle.channel_audit.proofs.Steps.{each_more}
use Rattle.channel_audit.proofs.Told.{not_done, not_given, no_send, send_parts, no_take, take_parts, other_piece, no_kind, no_dial_line, no_send_line, no_take_line}

abbrev Decided : Type 0 → Type 0
Decided P = P ⊎ (P → ⊥)

false_is_true : false ≡ true → ⊥
false_is_true e = true≢false (sym e)

decided_by : {P : Type 0} → (r : Bool) → Decides r P → Decided P
decided_by true d = inl (d.0 refl)
decided_by false d = inr (λ p. false_is_true (d.1 p))

same : (one other : List ℕ) → Decided (one ≡ other)
same one other = decided_by (bytes_eq one other) (bytes_eq-Decides one other)

-- a text begins with a front
record IsBehind (front text : List ℕ) : Type 0 where
  pub rest : List ℕ
  pub joined : text ≡ front ++ rest

behind : (front text : List ℕ) → IsBehind front text ⊎ ((rest : List ℕ) → text ≡ front ++ rest → ⊥)
behind [] text = inl (record { rest = text; joined = refl })
behind (x ∷ front) [] = inr (λ rest e. (let long = ap length e in omega (arith, long)))
behind (x ∷ front) (y ∷ text) =
    elim (decided_by (y == x) (Decides-eqb y x)) [
      | inl first ↦
          elim (behind front text) [
            | inl there ↦
                inl (record { rest = there.rest; joined = ap (λ (n : ℕ). n ∷ text) first ∙ ap (λ (l : List ℕ). x ∷ l) there.joined })
            | inr none ↦ inr (λ rest e. none rest (ap (drop 1) e))
          ]
      | inr other ↦ inr (λ rest e. other (ap (λ (l : List ℕ). get_or l 0 0) e))
    ]

-- a text is cut at the first byte of a value, or lacks it
record IsCut (byte : ℕ) (text : List ℕ) : Type 0 where
  pub first : List ℕ
  pub rest : List ℕ
  pub cuts : Cuts byte text first rest

differs : (x byte : ℕ) → (x ≡ byte → ⊥) → not (x == byte) ≡ true
differs x byte other = by (x == byte) (eqb-true x byte)
  where
    by : (b : Bool) → (b ≡ true → x ≡ byte) → not b ≡ true
    by true is = absurd (other (is refl))
    by false is = refl

cut : (byte : ℕ) (text : List ℕ) → (lacks byte text ≡ true) ⊎ IsCut byte text
cut byte [] = inl refl
cut byte (x ∷ text) =
    elim (decided_by (x == byte) (Decides-eqb x byte)) [
      | inl here ↦ inr (record { first = []; rest = text; cuts = record { joined = ap (λ (n : ℕ). n ∷ text) here; lacking = refl } })
      | inr other ↦
          elim (cut byte text) [
            | inl none ↦ inl (and_from (not (x == byte)) (lacks byte text) (differs x byte other) none)
            | inr there ↦
                inr (record {
                  first = x ∷ there.first;
                  rest = there.rest;
                  cuts = record {
                    joined = ap (λ (l : List ℕ). x ∷ l) there.cuts.joined;
                    lacking = and_from (not (x == byte)) (lacks byte there.first) (differs x byte other) there.cuts.lacking;
                  };
                })
          ]
    ]

-- a text spells bytes, or none
record IsSpelled (text : List ℕ) : Type 0 where
  pub bytes : List ℕ
  pub are : AreBytes bytes
  pub spelled : encode_lower bytes ≡ text

bytes_are : (bytes : List ℕ) → list_all is_byte bytes ≡ true → AreBytes bytes
bytes_are [] all i = omega arith
bytes_are (byte ∷ bytes) all zero = (let is = (and_parts (is_byte byte) (list_all is_byte bytes) all).0 in grind (arith, nat_tests, is))
bytes_are (byte ∷ bytes) all (suc i) = bytes_are bytes (and_parts (is_byte byte) (list_all is_byte bytes) all).1 i

all_bytes : (bytes : List ℕ) → AreBytes bytes → list_all is_byte bytes ≡ true
all_bytes [] are = refl
all_bytes (byte ∷ bytes) are =
    and_from (is_byte byte) (list_all is_byte bytes) (let low = are 0 in grind (arith, nat_tests, low)) (all_bytes bytes (λ i. are (suc i)))

ok_is_no_error : (bytes : List ℕ) (e : FromHexError) → Ok bytes ≡ Err e → ⊥
ok_is_no_error bytes e same = cc same

hex : (text : List ℕ) → IsSpelled text ⊎ ((bytes : List ℕ) → AreBytes bytes → encode_lower bytes ≡ text → ⊥)
hex text = by (decode_of text) refl
  where
    decoded : (bytes : List ℕ) → AreBytes bytes → encode_lower bytes ≡ text → decode_of text ≡ Ok bytes
    decoded bytes are is = ap decode_of (sym is) ∙ decode_of-encode_lower bytes are

    or_not : (found : List ℕ) (all : Bool) → decode_of text ≡ Ok found → encode_lower found ≡ text → list_all is_byte found ≡ all
        → IsSpelled text ⊎ ((bytes : List ℕ) → AreBytes bytes → encode_lower bytes ≡ text → ⊥)
    or_not found true is spelled all = inl (record { bytes = found; are = bytes_are found all; spelled = spelled })
    or_not found false is spelled all =
        inr (λ bytes are e. false_is_true (sym all ∙ (ap (list_all is_byte) (decode_of-same text found bytes is (decoded bytes are e)) ∙ all_bytes bytes are)))

    by : (result : Result (List ℕ) FromHexError) → decode_of text ≡ result → IsSpelled text ⊎ ((bytes : List ℕ) → AreBytes bytes → encode_lower bytes ≡ text → ⊥)
    by (Err error) is = inr (λ bytes are e. ok_is_no_error bytes error (sym (decoded bytes are e) ∙ is))
    by (Ok found) is =
        elim (same (encode_lower found) text) [
          | inl spelled ↦ or_not found (list_all is_byte found) is spelled refl
          | inr other ↦ inr (λ bytes are e. other (ap encode_lower (decode_of-same text found bytes is (decoded bytes are e)) ∙ e))
        ]

record IsDone (word : List ℕ) : Type 0 where
  pub answer : Answer
  pub tells : TellsDone answer word

done : (word : List ℕ) → IsDone word ⊎ ((answer : Answer) → TellsDone answer word → ⊥)
done word =
    elim (same word (codes "ok")) [
      | inl ok ↦ inl (record { answer = Made; tells = ok })
      | inr other ↦
          elim (same word (codes "failed")) [
            | inl failed ↦ inl (record { answer = Failed; tells = failed })
            | inr neither ↦ inr (not_done word other neither)
          ]
    ]

record IsGiven (most : ℕ) (word : List ℕ) : Type 0 where
  pub answer : Answer
  pub tells : TellsGiven most answer word

piece : (most : ℕ) (word : List ℕ) → (word ≡ codes "end" → ⊥) → (word ≡ codes "failed" → ⊥) → IsSpelled word → IsGiven most word ⊎ ((answer : Answer) → TellsGiven most answer word → ⊥)
piece most word ended failed is = by (nat_lt 0 (length is.bytes)) (nat_le (length is.bytes) most) refl refl
  where
    by : (some within : Bool) → nat_lt 0 (length is.bytes) ≡ some → nat_le (length is.bytes) most ≡ within → IsGiven most word ⊎ ((answer : Answer) → TellsGiven most answer word → ⊥)
    by true true some within =
        inl (record {
          answer = Piece is.bytes;
          tells = record { some = grind (arith, nat_tests, some); within = grind (arith, nat_tests, within); are_bytes = is.are; word_is = sym is.spelled };
        })
    by false within some e = inr (not_given most word ended failed (other_piece most word is.bytes is.spelled is.are (inl (grind (arith, nat_tests, some)))))
    by true false some e = inr (not_given most word ended failed (other_piece most word is.bytes is.spelled is.are (inr (grind (arith, nat_tests, e)))))

given : (most : ℕ) (word : List ℕ) → IsGiven most word ⊎ ((answer : Answer) → TellsGiven most answer word → ⊥)
given most word =
    elim (same word (codes "end")) [
      | inl ended ↦ inl (record { answer = End; tells = ended })
      | inr other ↦
          elim (same word (codes "failed")) [
            | inl failed ↦ inl (record { answer = Failed; tells = failed })
            | inr neither ↦
                elim (hex word) [
                  | inl is ↦ piece most word other neither is
                  | inr none ↦ inr (not_given most word other neither (λ bytes tells. none bytes tells.are_bytes (sym tells.word_is)))
                ]
          ]
    ]

-- a line tells a move, or none
record IsTold (text : List ℕ) : Type 0 where
  pub made : Entry
  pub tells : Tells text made

abbrev Untold : List ℕ → Type 0
Untold text = (made : Entry) → Tells text made → ⊥

module _ (text : List ℕ) (short : length text ≤ most_line) where
  dialled : (rest : List ℕ) → text ≡ codes "dial " ++ rest → IsTold text ⊎ Untold text
  dialled rest is =
      elim (done rest) [
        | inl word ↦ inl (record { made = entry (Dial []) word.answer; tells = record { short = short; tells = record { word = rest; done = word.tells; text_is = is } } })
        | inr none ↦
            inr (λ made tells.
            no_dial_line rest (λ answer told. none answer (subst (TellsDone answer) (sym (ap (drop 5) told.text_is)) told.done)) made
            (subst (λ (t : List ℕ). Tells t made) is tells))
      ]

  sent : (rest : List ℕ) → text ≡ codes "send " ++ rest → IsTold text ⊎ Untold text
  sent rest is =
      elim (cut 32 rest) [
        | inl lacking ↦ inr (λ made tells. no_send_line rest (no_send rest lacking) made (subst (λ (t : List ℕ). Tells t made) is tells))
        | inr parts ↦
            elim (done parts.rest) [
              | inr none ↦
                  inr (λ made tells.
                  no_send_line rest (λ bytes answer told. none answer (send_parts rest parts.first parts.rest parts.cuts bytes answer told).1) made
                  (subst (λ (t : List ℕ). Tells t made) is tells))
              | inl word ↦
                  elim (hex parts.first) [
                    | inr none ↦
                        inr (λ made tells.
                        no_send_line rest (λ bytes answer told. none bytes told.are_bytes (sym (send_parts rest parts.first parts.rest parts.cuts bytes answer told).0)) made
                        (subst (λ (t : List ℕ). Tells t made) is tells))
                    | inl spelled ↦
                        inl (record {
                          made = entry (Send spelled.bytes) word.answer;
                          tells = record {
                            short = short;
                            tells = record {
                              are_bytes = spelled.are;
                              word = parts.rest;
                              done = word.tells;
                              text_is = is ∙ ap (λ (l : List ℕ). codes "send " ++ l) (parts.cuts.joined ∙ ap (λ (l : List ℕ). l ++ 32 ∷ parts.rest) (sym spelled.spelled));
                            };
                          };
                        })
                  ]
            ]
      ]

  taken_of : (rest : List ℕ) → text ≡ codes "take " ++ rest → (parts : IsCut 32 rest) → is_number parts.first ≡ true → IsTold text ⊎ Untold text
  taken_of rest is parts numeral =
      elim (given (number parts.first) parts.rest) [
        | inl word ↦
            inl (record {
              made = entry (Take (number parts.first)) word.answer;
              tells = record {
                short = short;
                tells = record {
                  digits = parts.first;
                  numeral = numeral;
                  value = refl;
                  word = parts.rest;
                  given = word.tells;
                  text_is = is ∙ ap (λ (l : List ℕ). codes "take " ++ l) parts.cuts.joined;
                };
              };
            })
        | inr none ↦
            inr (λ made tells.
            no_take_line rest (λ most answer told.
            let those = take_parts rest parts.first parts.rest parts.cuts most answer told in
            none answer (subst (λ (n : ℕ). TellsGiven n answer parts.rest) (sym those.value) those.given)) made
            (subst (λ (t : List ℕ). Tells t made) is tells))
      ]

  taken : (rest : List ℕ) → text ≡ codes "take " ++ rest → IsTold text ⊎ Untold text
  taken rest is =
      elim (cut 32 rest) [
        | inl lacking ↦ inr (λ made tells. no_take_line rest (no_take rest lacking) made (subst (λ (t : List ℕ). Tells t made) is tells))
        | inr parts ↦ by parts (is_number parts.first) refl
      ]
    where
      by : (parts : IsCut 32 rest) (numeral : Bool) → is_number parts.first ≡ numeral → IsTold text ⊎ Untold text
      by parts true numeral = taken_of rest is parts numeral
      by parts false numeral =
          inr (λ made tells.
          no_take_line rest (λ most answer told. false_is_true (sym numeral ∙ (take_parts rest parts.first parts.rest parts.cuts most answer told).numeral)) made
          (subst (λ (t : List ℕ). Tells t made) is tells))

  any_kind : IsTold text ⊎ Untold text
  any_kind =
      elim (same text (codes "close")) [
        | inl is ↦ inl (record { made = entry Close Made; tells = record { short = short; tells = is } })
        | inr no_close ↦
            elim (behind (codes "dial ") text) [
              | inl there ↦ dialled there.rest there.joined
              | inr no_dial ↦
                  elim (behind (codes "send ") text) [
                    | inl there ↦ sent there.rest there.joined
                    | inr no_sending ↦
                        elim (behind (codes "take ") text) [
                          | inl there ↦ taken there.rest there.joined
                          | inr no_taking ↦ inr (no_kind text no_close no_dial no_sending no_taking)
                        ]
                  ]
            ]
      ]

line : (text : List ℕ) → IsTold text ⊎ Untold text
line text = by (nat_le (length text) 4200) refl
  where
    by : (fits : Bool) → nat_le (length text) 4200 ≡ fits → IsTold text ⊎ Untold text
    by true fits = any_kind text (grind (arith, nat_tests, fits))
    by false fits = inr (λ made tells. (let short = tells.short in false_is_true (sym fits ∙ grind (arith, nat_tests, short))))

-- two moves are the same or not, by a list of numbers that each has
numbers : Move → List ℕ
numbers (Dial at) = 0 ∷ at
numbers (Listen at) = 1 ∷ at
numbers Accept = 2 ∷ []
numbers (Send bytes) = 3 ∷ bytes
numbers (Take most) = 4 ∷ most ∷ []
numbers Close = 5 ∷ []

move_with : List ℕ → Move
move_with (zero ∷ at) = Dial at
move_with (suc zero ∷ at) = Listen at
move_with (suc (suc zero) ∷ _) = Accept
move_with (suc (suc (suc zero)) ∷ bytes) = Send bytes
move_with (suc (suc (suc (suc zero))) ∷ most ∷ _) = Take most
move_with _ = Close

move_again : (move : Move) → move_with (numbers move) ≡ move
unfolding numbers move_with
move_again (Dial at) = refl
move_again (Listen at) = refl
move_again Accept = refl
move_again (Send bytes) = refl
move_again (Take most) = refl
move_again Close = refl

same_move : (one other : Move) → Decided (one ≡ other)
same_move one other =
    elim (same (numbers one) (numbers other)) [
      | inl is ↦ inl (sym (move_again one) ∙ (ap move_with is ∙ move_again other))
      | inr differ ↦ inr (λ e. differ (ap numbers e))
    ]

none_is_some : (move : Move) → None ≡ Some move → ⊥
none_is_some move e = cc e

some_once : (one other : Move) → Some one ≡ Some other → one ≡ other
some_once one other e = cc e

is_next : (next : Option Move) (move : Move) → Decided (next ≡ Some move)
is_next None move = inr (none_is_some move)
is_next (Some next) move =
    elim (same_move next move) [
      | inl is ↦ inl (ap Some is)
      | inr other ↦ inr (λ e. other (some_once next move e))
    ]

module _ (catalog : Catalog) (asks : List NumberedAsk) where
  goes_more : (before journal : Journal) (made : Entry) → GoesOn catalog [] asks before journal → next_with catalog [] asks (before ++ journal) ≡ Some made.move
      → GoesOn catalog [] asks before (journal ++ made ∷ [])
  goes_more before [] made goes is = (ap (next_with catalog [] asks) (sym (append-nil before)) ∙ is, tt)
  goes_more before (first ∷ journal) made goes is =
      (goes.0, goes_more (before ++ first ∷ []) journal made goes.1 (ap (next_with catalog [] asks) (append_assoc before (first ∷ []) journal) ∙ is))

  module _ (file : List ℕ) where
    no_line : (journal : Journal) (rest : List ℕ) (begins : BeginsProperly catalog asks file journal rest) → 0 < length rest
        → ((made : Entry) → GoesOnWith (length (all_lines begins.texts)) rest made → ⊥) → HasFinding catalog asks file
    no_line journal rest begins some none = record {
      finding = NoLine (length journal + 1);
      finds = record { journal = journal; rest = rest; before = begins; some = some; no_line = none; place = refl };
    }

    same_text : (before : ℕ) (rest : List ℕ) (parts : IsCut 10 rest) (made : Entry) → (goes : GoesOnWith before rest made) → parts.first ≡ goes.text
    same_text before rest parts made goes =
        (cut_once 10 parts.first parts.rest goes.text goes.later parts.cuts.lacking (told_lacks goes.text made goes.tells)
        (sym parts.cuts.joined ∙ (goes.begins ∙ sym (ended_rest goes.text goes.later)))).0

    some_bytes : (rest : List ℕ) (parts : IsCut 10 rest) → length parts.rest < length rest
    some_bytes rest parts =
        let long = ap length parts.cuts.joined in
        let sum = length-append parts.first (10 ∷ parts.rest) in
        omega (arith, long, sum)

    one_more : (journal : Journal) (rest : List ℕ) (begins : BeginsProperly catalog asks file journal rest) (parts : IsCut 10 rest) (told : IsTold parts.first)
        → next_with catalog [] asks journal ≡ Some told.made.move → length (all_lines begins.texts) + length (ended_line parts.first) ≤ most_journal
        → BeginsProperly catalog asks file (journal ++ told.made ∷ []) parts.rest
    one_more journal rest begins parts told is within = record {
      texts = begins.texts ++ parts.first ∷ [];
      tell = each_more begins.texts journal parts.first told.made begins.tell told.tells;
      begins = begins.begins ∙ (ap (λ (xs : List ℕ). all_lines begins.texts ++ xs) (parts.cuts.joined ∙ ended_rest parts.first parts.rest)
          ∙ (sym (append_assoc (all_lines begins.texts) (ended_line parts.first) parts.rest)
          ∙ ap (λ (xs : List ℕ). xs ++ parts.rest) (sym (lines_more begins.texts parts.first))));
      within = (let long = ap length (lines_more begins.texts parts.first) ∙ length-append (all_lines begins.texts) (ended_line parts.first) in omega (arith, long, within));
      proper = goes_more [] journal told.made begins.proper is;
    }

    -- behind a line: it tells the next move, and what is found is found behind it; or another; or it ends too late
    behind_line : (journal : Journal) (rest : List ℕ) (begins : BeginsProperly catalog asks file journal rest) (parts : IsCut 10 rest) (told : IsTold parts.first) → 0 < length rest
        → (BeginsProperly catalog asks file (journal ++ told.made ∷ []) parts.rest → HasFinding catalog asks file) → HasFinding catalog asks file
    behind_line journal rest begins parts told some later = by (nat_le (length (all_lines begins.texts) + length (ended_line parts.first)) most_journal) refl
      where
        by : (fits : Bool) → nat_le (length (all_lines begins.texts) + length (ended_line parts.first)) most_journal ≡ fits → HasFinding catalog asks file
        by false fits =
            no_line journal rest begins some (λ made goes.
            let same = ap (λ (t : List ℕ). length (ended_line t)) (same_text _ rest parts made goes) in
            let within = goes.within in
            false_is_true (sym fits ∙ grind (arith, nat_tests, same, within)))
        by true fits =
            elim (is_next (next_with catalog [] asks journal) told.made.move) [
              | inl is ↦ later (one_more journal rest begins parts told is (grind (arith, nat_tests, fits)))
              | inr wrong ↦
                  record {
                    finding = Wrong (length journal + 1);
                    finds = record {
                      journal = journal;
                      rest = rest;
                      before = begins;
                      made = told.made;
                      there = record {
                        text = parts.first;
                        later = parts.rest;
                        tells = told.tells;
                        begins = parts.cuts.joined ∙ ended_rest parts.first parts.rest;
                        within = grind (arith, nat_tests, fits);
                      };
                      wrong = wrong;
                      place = refl;
                    };
                  }
            ]

    -- what is found behind proper moves, in so many bytes at most
    found_behind : (most : ℕ) (journal : Journal) (rest : List ℕ) → BeginsProperly catalog asks file journal rest → length rest ≤ most → HasFinding catalog asks file
    found_behind most journal [] begins low = record {
      finding = Proper (length journal) (standing_after catalog asks journal).closed;
      finds = record { journal = journal; whole = begins; counted = refl; ends = refl };
    }
    found_behind zero journal (byte ∷ rest) begins low = absurd (omega (arith, low))
    found_behind (suc most) journal (byte ∷ rest) begins low =
        elim (cut 10 (byte ∷ rest)) [
          | inl lacking ↦
              no_line journal (byte ∷ rest) begins (omega arith) (λ made goes.
              has_byte 10 goes.text goes.later (byte ∷ rest) lacking (goes.begins ∙ sym (ended_rest goes.text goes.later)))
          | inr parts ↦
              elim (line parts.first) [
                | inr none ↦
                    no_line journal (byte ∷ rest) begins (omega arith) (λ made goes.
                    none made (subst (λ (t : List ℕ). Tells t made) (sym (same_text _ (byte ∷ rest) parts made goes)) goes.tells))
                | inl told ↦
                    behind_line journal (byte ∷ rest) begins parts told (omega arith) (λ more.
                    found_behind most (journal ++ told.made ∷ []) parts.rest more (let less = some_bytes (byte ∷ rest) parts in omega (arith, less, low)))
              ]
        ]

pub each_has_one : (catalog : Catalog) (asks : List NumberedAsk) (file : List ℕ) → HasFinding catalog asks file
each_has_one catalog asks file =
    found_behind catalog asks file (length file) [] file (record { texts = []; tell = tt; begins = refl; within = omega arith; proper = tt }) (omega arith)
