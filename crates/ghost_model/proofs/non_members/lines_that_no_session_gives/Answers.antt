use Rattle.std.proofs.Common.{◌≡◌, refl, ap, sym, subst, ◌∙◌, arith, ℕ, zero, suc, List, [], ◌∷◌, ◌++◌, Some, Ok, true, false, map, length, codes, get_or, slice_get, unwrap_or, ◌+◌}
use Rattle.std.specs.Fmt.{digits}
use Rattle.hex.specs.Hex.{encode_with, decode_pairs}
use Rattle.ghost_model.specs.core.Asks.{rows_from}
use Rattle.ghost_model.specs.readings.AskReading.{tests_in}
use Rattle.ghost_model.specs.core.Schema.{places_from}
use Rattle.ghost_model.specs.refusals.Tokens.{tokens_from, quoted_from}
use Rattle.ghost_model.specs.readings.QueryPlaces.{read_from}
use Rattle.ghost_model.specs.readings.QueryReading.{reading}
use Rattle.ghost_model.specs.core.NextMove.{hear_all, rows_fit}
use Rattle.ghost_model.specs.core.Meaning.{combinations}
use Rattle.ghost_model.specs.core.Split.{replies_from}
use Rattle.ghost_model.specs.core.Values.{Row}
use Rattle.ghost_model.specs.core.Query.{Query}
use Rattle.ghost_model.specs.core.Printed.{row_line, word_line, answer_lines}
use Rattle.ghost_model.specs.core.Lines.{Reason, WasRefused, WasBroken, WasAnswered, MetFault, Fault, OnFlash, OnDamage, fault_word, AreLinesFor, SessionText, session_text, all_done, ends_for, rows_for}
use Rattle.ghost_model.specs.examples.Clinic.{clinic_schema, clinic_catalog}
use Rattle.ghost_model.specs.examples.Channel.{cardio_text, cardio_query, cardio_journal}
use Rattle.ghost_model.specs.examples.Sessions.{cardio_texts, clinic_hidden, cardio_row, visit_line, line, Lines}
use Rattle.ghost_model.proofs.non_members.lines_that_no_session_gives.Goals as goal

-- the text about cardiologists in its session
abbrev the_text : SessionText
the_text = session_text clinic_catalog clinic_hidden cardio_texts cardio_journal 1 cardio_text

reads : reading clinic_schema cardio_text ≡ Ok cardio_query
unfolding digits encode_with decode_pairs rows_from tests_in places_from hear_all rows_fit tokens_from quoted_from read_from combinations replies_from
reads = refl

done : all_done clinic_schema cardio_query (ends_for the_text) ≡ true
unfolding digits encode_with decode_pairs rows_from tests_in places_from hear_all rows_fit tokens_from quoted_from read_from combinations replies_from
done = refl

rows : rows_for the_text cardio_query ≡ cardio_row 1 ∷ cardio_row 3 ∷ []
unfolding digits encode_with decode_pairs rows_from tests_in places_from hear_all rows_fit tokens_from quoted_from read_from combinations replies_from
rows = refl

-- a query that the text reads as is that one
same_query : (query : Query) → reading clinic_schema cardio_text ≡ Ok query → cardio_query ≡ query
same_query query accepted = let read = reads in cc

-- the rows of its answer
abbrev first_row : Row
first_row = cardio_row 1

abbrev third_row : Row
third_row = cardio_row 3

-- the lines are the whole answer's, or as many of its rows as stand before a fault's word
data Way (lines : List (List ℕ)) : Type 0 where
  Whole : lines ≡ answer_lines 1 (first_row ∷ third_row ∷ []) → Way lines
  CutAtFirst : (fault : Fault) → lines ≡ word_line 1 (fault_word fault) ∷ [] → Way lines
  CutAfterOne : (fault : Fault) → lines ≡ row_line first_row ∷ word_line 1 (fault_word fault) ∷ [] → Way lines
  CutAfterAll : (fault : Fault) → lines ≡ row_line first_row ∷ row_line third_row ∷ word_line 1 (fault_word fault) ∷ [] → Way lines

cut : (lines : List (List ℕ)) (fault : Fault) (given left : List Row) → first_row ∷ third_row ∷ [] ≡ given ++ left
    → lines ≡ map row_line given ++ word_line 1 (fault_word fault) ∷ [] → Way lines
cut lines fault [] left front answer = CutAtFirst fault answer
cut lines fault (a ∷ []) left front answer =
    let same : first_row ≡ a = ap (λ rows. get_or rows 0 []) front in
    CutAfterOne fault (subst (λ row. lines ≡ row_line row ∷ word_line 1 (fault_word fault) ∷ []) (sym same) answer)
cut lines fault (a ∷ b ∷ []) left front answer =
    let same : first_row ≡ a = ap (λ rows. get_or rows 0 []) front in
    let same_too : third_row ≡ b = ap (λ rows. get_or rows 1 []) front in
    let of_first : lines ≡ row_line first_row ∷ row_line b ∷ word_line 1 (fault_word fault) ∷ [] =
    subst (λ row. lines ≡ row_line row ∷ row_line b ∷ word_line 1 (fault_word fault) ∷ []) (sym same) answer in
    CutAfterAll fault (subst (λ row. lines ≡ row_line first_row ∷ row_line row ∷ word_line 1 (fault_word fault) ∷ []) (sym same_too) of_first)
cut lines fault (a ∷ b ∷ d ∷ given) left front answer =
    let clash : 2 ≡ suc (suc (suc (length (given ++ left)))) = ap length front in
    absurd (omega (arith, clash))

by_reason : (lines : List (List ℕ)) (reason : Reason) → AreLinesFor reason the_text lines → Way lines
by_reason lines WasRefused told = let refused = told.refused in let read = reads in absurd (cc)
by_reason lines WasBroken told =
    let same = same_query told.query told.accepted in
    let broken : all_done clinic_schema cardio_query (ends_for the_text) ≡ false =
    subst (λ query. all_done clinic_schema query (ends_for the_text) ≡ false) (sym same) told.broken in
    let ended = done in
    absurd (cc)
by_reason lines WasAnswered told =
    let same = same_query told.query told.accepted in
    let of_query : lines ≡ answer_lines 1 (rows_for the_text cardio_query) =
    subst (λ query. lines ≡ answer_lines 1 (rows_for the_text query)) (sym same) told.answer in
    Whole (subst (λ given. lines ≡ answer_lines 1 given) rows of_query)
by_reason lines (MetFault fault) told =
    let same = same_query told.query told.accepted in
    let front : rows_for the_text cardio_query ≡ told.given ++ told.left =
    subst (λ query. rows_for the_text query ≡ told.given ++ told.left) (sym same) told.front in
    cut lines fault told.given told.left (sym rows ∙ front) told.answer

-- the text at the first place is that one, and there is no other
at_first : (place : ℕ) (written : List ℕ) → 1 ≡ place + 1 → slice_get cardio_texts place ≡ Some written → cardio_text ≡ written
at_first zero written numbered stands = ap (λ text. unwrap_or text []) stands
at_first (suc place) written numbered stands = absurd (omega (arith, numbered))

not_second : (place : ℕ) (written : List ℕ) → 2 ≡ place + 1 → slice_get cardio_texts place ≡ Some written → ⊥
not_second zero written numbered stands = absurd (omega (arith, numbered))
not_second (suc place) written numbered stands = absurd (cc (stands))

way : (lines : List (List ℕ)) → Lines cardio_texts cardio_journal 1 lines → Way lines
way lines given =
    let same = at_first given.place given.written given.numbered given.stands in
    by_reason lines given.reason
    (subst (λ text. AreLinesFor given.reason (session_text clinic_catalog clinic_hidden cardio_texts cardio_journal 1 text) lines) (sym same) given.lines_are)

-- a byte of a line
abbrev byte_in : (line place : ℕ) → List (List ℕ) → ℕ
byte_in line place lines = get_or (get_or lines line []) place 0

no_line : Way [] → ⊥
no_line (Whole e) = let clash : 0 ≡ 3 = ap length e in absurd (omega (arith, clash))
no_line (CutAtFirst fault e) = let clash : 0 ≡ 1 = ap length e in absurd (omega (arith, clash))
no_line (CutAfterOne fault e) = let clash : 0 ≡ 2 = ap length e in absurd (omega (arith, clash))
no_line (CutAfterAll fault e) = let clash : 0 ≡ 3 = ap length e in absurd (omega (arith, clash))

row_too_few : Way (visit_line (codes "1") ∷ line (codes "= 1 1") ∷ []) → ⊥
unfolding digits
row_too_few (Whole e) = let clash : 2 ≡ 3 = ap length e in absurd (omega (arith, clash))
row_too_few (CutAtFirst fault e) = let clash : 2 ≡ 1 = ap length e in absurd (omega (arith, clash))
row_too_few (CutAfterOne fault e) = let clash : 61 ≡ 33 = ap (byte_in 1 0) e in absurd (omega (arith, clash))
row_too_few (CutAfterAll fault e) = let clash : 2 ≡ 3 = ap length e in absurd (omega (arith, clash))

other_row : Way (visit_line (codes "1") ∷ visit_line (codes "4") ∷ line (codes "= 1 2") ∷ []) → ⊥
unfolding digits
other_row (Whole e) = let clash : 52 ≡ 51 = ap (byte_in 1 2) e in absurd (omega (arith, clash))
other_row (CutAtFirst fault e) = let clash : 3 ≡ 1 = ap length e in absurd (omega (arith, clash))
other_row (CutAfterOne fault e) = let clash : 3 ≡ 2 = ap length e in absurd (omega (arith, clash))
other_row (CutAfterAll fault e) = let clash : 52 ≡ 51 = ap (byte_in 1 2) e in absurd (omega (arith, clash))

fault_after_other : Way (visit_line (codes "3") ∷ line (codes "! 1 flash") ∷ []) → ⊥
unfolding digits
fault_after_other (Whole e) = let clash : 2 ≡ 3 = ap length e in absurd (omega (arith, clash))
fault_after_other (CutAtFirst fault e) = let clash : 2 ≡ 1 = ap length e in absurd (omega (arith, clash))
fault_after_other (CutAfterOne fault e) = let clash : 51 ≡ 49 = ap (byte_in 0 2) e in absurd (omega (arith, clash))
fault_after_other (CutAfterAll fault e) = let clash : 2 ≡ 3 = ap length e in absurd (omega (arith, clash))

link : Way (line (codes "! 1 link") ∷ []) → ⊥
unfolding digits
link (Whole e) = let clash : 1 ≡ 3 = ap length e in absurd (omega (arith, clash))
link (CutAtFirst OnFlash e) = let clash : 108 ≡ 102 = ap (byte_in 0 4) e in absurd (omega (arith, clash))
link (CutAtFirst OnDamage e) = let clash : 108 ≡ 100 = ap (byte_in 0 4) e in absurd (omega (arith, clash))
link (CutAfterOne fault e) = let clash : 1 ≡ 2 = ap length e in absurd (omega (arith, clash))
link (CutAfterAll fault e) = let clash : 1 ≡ 3 = ap length e in absurd (omega (arith, clash))

pub returns : goal.returns
returns c = record {
  none = λ given. no_line (way _ given);
  a_row_too_few = λ given. row_too_few (way _ given);
  another_row = λ given. other_row (way _ given);
  a_fault_after_another_row = λ given. fault_after_other (way _ given);
  a_link_that_held = λ given. link (way _ given);
  of_no_text = λ given. not_second given.place given.written given.numbered given.stands;
}
