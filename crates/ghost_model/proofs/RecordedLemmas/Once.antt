-- A line tells one move with one answer.
use Rattle.std.proofs.Common.{◌≡◌, ℕ, List, [], ◌∷◌, length, drop, get_or, codes, refl, sym, ap, subst, ◌∙◌, arith}
use Rattle.std.proofs.lemmas.Bool.{true≢false}
use Rattle.hex.specs.Hex.{encode_lower, lower_digits}
use Rattle.hex.proofs.HexLemmas.{length-encode_with}
use Rattle.ghost_model.specs.core.Channel.{Answer, Made, Port, Piece, End, Failed, Entry, Move, Dial, Listen, Accept, Send, Take, Close}
use Rattle.ghost_model.specs.core.Recorded.{Tells, TellsMove, TellsClose, TellsDial, TellsSend, TellsTake, TellsGiven, TellsDone, is_digit, number, lacks}
use Rattle.ghost_model.proofs.RecordedLemmas.Texts.{cut_once, passes_lack, hex_lacks, hex_once, number_digits}

abbrev entry : Move → Answer → Entry
entry move answer = record { move = move; answer = answer }

done_once : (word : List ℕ) (one two : Answer) → TellsDone one word → TellsDone two word → one ≡ two
done_once word Made Made t u = refl
done_once word Made (Port _) t u = absurd u
done_once word Made (Piece _) t u = absurd u
done_once word Made End t u = absurd u
done_once word Made Failed t u = (let e = ap length (sym t ∙ u) in absurd (omega (arith, e)))
done_once word (Port _) two t u = absurd t
done_once word (Piece _) two t u = absurd t
done_once word End two t u = absurd t
done_once word Failed Made t u = (let e = ap length (sym t ∙ u) in absurd (omega (arith, e)))
done_once word Failed (Port _) t u = absurd u
done_once word Failed (Piece _) t u = absurd u
done_once word Failed End t u = absurd u
done_once word Failed Failed t u = refl

-- a piece is not told by the other words of a take
odd_word : (bytes word : List ℕ) → word ≡ encode_lower bytes → word ≡ codes "end" → ⊥
odd_word bytes word t u =
    let long = length-encode_with lower_digits bytes in
    let e = ap length (sym t ∙ u) in
    omega (arith, long, e)

no_hex : (most : ℕ) (bytes word : List ℕ) → TellsGiven most (Piece bytes) word → word ≡ codes "failed" → ⊥
no_hex most bytes word t u = true≢false (sym (ap (lacks 105) t.word_is ∙ hex_lacks 105 refl bytes t.are_bytes) ∙ ap (lacks 105) u)

given_once : (most : ℕ) (word : List ℕ) (one two : Answer) → TellsGiven most one word → TellsGiven most two word → one ≡ two
given_once most word Made two t u = absurd t
given_once most word (Port _) two t u = absurd t
given_once most word (Piece bytes) Made t u = absurd u
given_once most word (Piece bytes) (Port _) t u = absurd u
given_once most word (Piece bytes) (Piece other) t u = ap Piece (hex_once bytes other t.are_bytes u.are_bytes (sym t.word_is ∙ u.word_is))
given_once most word (Piece bytes) End t u = absurd (odd_word bytes word t.word_is u)
given_once most word (Piece bytes) Failed t u = absurd (no_hex most bytes word t u)
given_once most word End Made t u = absurd u
given_once most word End (Port _) t u = absurd u
given_once most word End (Piece other) t u = absurd (odd_word other word u.word_is t)
given_once most word End End t u = refl
given_once most word End Failed t u = (let e = ap length (sym t ∙ u) in absurd (omega (arith, e)))
given_once most word Failed Made t u = absurd u
given_once most word Failed (Port _) t u = absurd u
given_once most word Failed (Piece other) t u = absurd (no_hex most other word u t)
given_once most word Failed End t u = (let e = ap length (sym t ∙ u) in absurd (omega (arith, e)))
given_once most word Failed Failed t u = refl

dial_once : (text : List ℕ) (one two : Answer) → TellsDial one text → TellsDial two text → one ≡ two
dial_once text one two t u =
    let same : t.word ≡ u.word = ap (drop 5) (sym t.text_is ∙ u.text_is) in
    done_once u.word one two (subst (TellsDone one) same t.done) u.done

send_once : (text bytes other : List ℕ) (one two : Answer) → TellsSend bytes one text → TellsSend other two text → entry (Send bytes) one ≡ entry (Send other) two
send_once text bytes other one two t u =
    let parts = cut_once 32 (encode_lower bytes) t.word (encode_lower other) u.word (hex_lacks 32 refl bytes t.are_bytes) (hex_lacks 32 refl other u.are_bytes)
    (ap (drop 5) (sym t.text_is ∙ u.text_is)) in
    ap (λ (b : List ℕ). entry (Send b) one) (hex_once bytes other t.are_bytes u.are_bytes parts.0)
    ∙ ap (entry (Send other)) (done_once u.word one two (subst (TellsDone one) parts.1 t.done) u.done)

take_once : (text : List ℕ) (most least : ℕ) (one two : Answer) → TellsTake most one text → TellsTake least two text → entry (Take most) one ≡ entry (Take least) two
take_once text most least one two t u =
    let parts = cut_once 32 t.digits t.word u.digits u.word (passes_lack is_digit 32 refl t.digits (number_digits t.digits t.numeral))
    (passes_lack is_digit 32 refl u.digits (number_digits u.digits u.numeral)) (ap (drop 5) (sym t.text_is ∙ u.text_is)) in
    let same : most ≡ least = sym t.value ∙ (ap number parts.0 ∙ u.value) in
    ap (λ (n : ℕ). entry (Take n) one) same
    ∙ ap (entry (Take least)) (given_once least u.word one two (subst (λ (n : ℕ). TellsGiven n one u.word) same (subst (TellsGiven most one) parts.1 t.given)) u.given)

close_once : (text : List ℕ) (one two : Answer) → TellsClose one text → TellsClose two text → one ≡ two
close_once text Made Made t u = refl
close_once text Made (Port _) t u = absurd u
close_once text Made (Piece _) t u = absurd u
close_once text Made End t u = absurd u
close_once text Made Failed t u = absurd u
close_once text (Port _) two t u = absurd t
close_once text (Piece _) two t u = absurd t
close_once text End two t u = absurd t
close_once text Failed two t u = absurd t

dial_first : (text : List ℕ) (answer : Answer) → TellsDial answer text → get_or text 0 0 ≡ 100
dial_first text answer t = ap (λ (xs : List ℕ). get_or xs 0 0) t.text_is

send_first : (text bytes : List ℕ) (answer : Answer) → TellsSend bytes answer text → get_or text 0 0 ≡ 115
send_first text bytes answer t = ap (λ (xs : List ℕ). get_or xs 0 0) t.text_is

take_first : (text : List ℕ) (most : ℕ) (answer : Answer) → TellsTake most answer text → get_or text 0 0 ≡ 116
take_first text most answer t = ap (λ (xs : List ℕ). get_or xs 0 0) t.text_is

close_first : (text : List ℕ) (answer : Answer) → TellsClose answer text → get_or text 0 0 ≡ 99
close_first text Made t = ap (λ (xs : List ℕ). get_or xs 0 0) t
close_first text (Port _) t = absurd t
close_first text (Piece _) t = absurd t
close_first text End t = absurd t
close_first text Failed t = absurd t

pub told_once : (text : List ℕ) (made other : Entry) → Tells text made → Tells text other → made ≡ other
told_once text made other tells also = by made.move other.move made.answer other.answer tells.tells also.tells
  where
    by : (move next : Move) (one two : Answer) → TellsMove move one text → TellsMove next two text → entry move one ≡ entry next two
    by (Dial []) (Dial []) one two t u = ap (entry (Dial [])) (dial_once text one two t u)
    by (Dial []) (Dial (y ∷ ys)) one two t u = absurd u
    by (Dial []) (Listen y) one two t u = absurd u
    by (Dial []) Accept one two t u = absurd u
    by (Dial []) (Send other) one two t u = (let e = dial_first text one t in let f = send_first text other two u in absurd (omega (arith, e, f)))
    by (Dial []) (Take least) one two t u = (let e = dial_first text one t in let f = take_first text least two u in absurd (omega (arith, e, f)))
    by (Dial []) Close one two t u = (let e = dial_first text one t in let f = close_first text two u in absurd (omega (arith, e, f)))
    by (Dial (x ∷ xs)) other one two t u = absurd t
    by (Listen x) other one two t u = absurd t
    by Accept other one two t u = absurd t
    by (Send bytes) (Dial []) one two t u = (let e = send_first text bytes one t in let f = dial_first text two u in absurd (omega (arith, e, f)))
    by (Send bytes) (Dial (y ∷ ys)) one two t u = absurd u
    by (Send bytes) (Listen y) one two t u = absurd u
    by (Send bytes) Accept one two t u = absurd u
    by (Send bytes) (Send other) one two t u = send_once text bytes other one two t u
    by (Send bytes) (Take least) one two t u = (let e = send_first text bytes one t in let f = take_first text least two u in absurd (omega (arith, e, f)))
    by (Send bytes) Close one two t u = (let e = send_first text bytes one t in let f = close_first text two u in absurd (omega (arith, e, f)))
    by (Take most) (Dial []) one two t u = (let e = take_first text most one t in let f = dial_first text two u in absurd (omega (arith, e, f)))
    by (Take most) (Dial (y ∷ ys)) one two t u = absurd u
    by (Take most) (Listen y) one two t u = absurd u
    by (Take most) Accept one two t u = absurd u
    by (Take most) (Send other) one two t u = (let e = take_first text most one t in let f = send_first text other two u in absurd (omega (arith, e, f)))
    by (Take most) (Take least) one two t u = take_once text most least one two t u
    by (Take most) Close one two t u = (let e = take_first text most one t in let f = close_first text two u in absurd (omega (arith, e, f)))
    by Close (Dial []) one two t u = (let e = close_first text one t in let f = dial_first text two u in absurd (omega (arith, e, f)))
    by Close (Dial (y ∷ ys)) one two t u = absurd u
    by Close (Listen y) one two t u = absurd u
    by Close Accept one two t u = absurd u
    by Close (Send other) one two t u = (let e = close_first text one t in let f = send_first text other two u in absurd (omega (arith, e, f)))
    by Close (Take least) one two t u = (let e = close_first text one t in let f = take_first text least two u in absurd (omega (arith, e, f)))
    by Close Close one two t u = ap (entry Close) (close_once text one two t u)
