-- No line has an LF before its end, and lines that are joined.
use Rattle.std.proofs.Common.{◌≡◌, ℕ, true, List, [], ◌∷◌, ◌++◌, codes, refl, sym, ap, ◌∙◌, append_assoc, append-nil}
use Rattle.std.proofs.lemmas.Grind.{flat_map-append}
use Rattle.hex.specs.Hex.{encode_lower}
use Rattle.ghost_model.specs.core.Channel.{Answer, Made, Port, Piece, End, Failed, Entry, Move, Dial, Listen, Accept, Send, Take, Close}
use Rattle.ghost_model.specs.core.Recorded.{Tells, TellsMove, TellsDone, TellsGiven, ended_line, all_lines, is_digit, lacks}
use Rattle.ghost_model.proofs.RecordedLemmas.Texts.{passes_lack, lacks_append, hex_lacks, number_digits}

done_lacks : (answer : Answer) (word : List ℕ) → TellsDone answer word → lacks 10 word ≡ true
done_lacks Made word e = ap (lacks 10) e
done_lacks (Port _) word e = absurd e
done_lacks (Piece _) word e = absurd e
done_lacks End word e = absurd e
done_lacks Failed word e = ap (lacks 10) e

given_lacks : (most : ℕ) (answer : Answer) (word : List ℕ) → TellsGiven most answer word → lacks 10 word ≡ true
given_lacks most Made word e = absurd e
given_lacks most (Port _) word e = absurd e
given_lacks most (Piece bytes) word t = ap (lacks 10) t.word_is ∙ hex_lacks 10 refl bytes t.are_bytes
given_lacks most End word e = ap (lacks 10) e
given_lacks most Failed word e = ap (lacks 10) e

-- no line has an LF before its end
pub told_lacks : (text : List ℕ) (made : Entry) → Tells text made → lacks 10 text ≡ true
told_lacks text made tells = by made.move made.answer tells.tells
  where
    by : (move : Move) (answer : Answer) → TellsMove move answer text → lacks 10 text ≡ true
    by (Dial []) answer t = ap (lacks 10) t.text_is ∙ done_lacks answer t.word t.done
    by (Dial (_ ∷ _)) answer t = absurd t
    by (Listen _) answer t = absurd t
    by Accept answer t = absurd t
    by (Send bytes) answer t =
        ap (lacks 10) t.text_is ∙ lacks_append 10 (encode_lower bytes) (codes " " ++ t.word) (hex_lacks 10 refl bytes t.are_bytes) (done_lacks answer t.word t.done)
    by (Take most) answer t =
        ap (lacks 10) t.text_is
        ∙ lacks_append 10 t.digits (codes " " ++ t.word) (passes_lack is_digit 10 refl t.digits (number_digits t.digits t.numeral)) (given_lacks most answer t.word t.given)
    by Close Made t = ap (lacks 10) t
    by Close (Port _) t = absurd t
    by Close (Piece _) t = absurd t
    by Close End t = absurd t
    by Close Failed t = absurd t

pub lines_more : (texts : List (List ℕ)) (text : List ℕ) → all_lines (texts ++ text ∷ []) ≡ all_lines texts ++ ended_line text
lines_more texts text = flat_map-append ended_line texts (text ∷ []) ∙ ap (λ (xs : List ℕ). all_lines texts ++ xs) (append-nil (ended_line text))

pub ended_rest : (text rest : List ℕ) → text ++ 10 ∷ rest ≡ ended_line text ++ rest
ended_rest text rest = sym (append_assoc text (10 ∷ []) rest)
