-- What a journal has led to after one more move.
use Rattle.std.proofs.Common.{◌≡◌, ℕ, ◌+◌, Bool, true, false, not, ◌||◌, List, [], ◌∷◌, ◌++◌, length, refl, ap, ◌∙◌, append-nil}
use Rattle.std.specs.List.{list_any}
use Rattle.std.proofs.lemmas.List.Folds.{list_any-append}
use Rattle.std.proofs.lemmas.Grind.{flat_map-append}
use Rattle.std.proofs.lemmas.List.{length-append}
use Rattle.ghost_model.specs.core.Schema.{is_empty}
use Rattle.ghost_model.specs.core.Channel.{Catalog, Entry, Journal}
use Rattle.ghost_model.specs.core.Asks.{NumberedAsk}
use Rattle.ghost_model.specs.core.Moves.{taken, sent, sent_by, piece_of}
use Rattle.ghost_model.specs.core.NextMove.{Heard, Standing, hear, hear_all, heard, standing_after, at_first, is_close, is_stop}

pub hear_none : (catalog : Catalog) (asks : List NumberedAsk) (h : Heard) → hear_all catalog asks h [] ≡ h
unfolding hear_all
hear_none catalog asks h = refl

pub hear_more : (catalog : Catalog) (asks : List NumberedAsk) (h : Heard) (byte : ℕ) (bytes : List ℕ)
    → hear_all catalog asks h (byte ∷ bytes) ≡ hear_all catalog asks (hear catalog asks h byte) bytes
unfolding hear_all
hear_more catalog asks h byte bytes = refl

hear_append : (catalog : Catalog) (asks : List NumberedAsk) (h : Heard) (first second : List ℕ)
    → hear_all catalog asks h (first ++ second) ≡ hear_all catalog asks (hear_all catalog asks h first) second
unfolding hear_all
hear_append catalog asks h [] second = refl
hear_append catalog asks h (byte ∷ first) second = hear_append catalog asks (hear catalog asks h byte) first second

abbrev pub goes_to : (l : Standing) → Entry → Heard → Standing
goes_to l entry h = record {
  opened = true;
  closed = l.closed || is_close entry.move;
  stopped = l.stopped || is_stop entry.answer;
  sent = l.sent + length (sent_by entry.move);
  heard = h;
}

-- what a journal and one more entry have led to
abbrev pub goes : Catalog → List NumberedAsk → Standing → Entry → Standing
goes catalog asks l entry = goes_to l entry (hear_all catalog asks l.heard (piece_of entry.answer))

abbrev pub left_of : Bool → Bool → Bool → ℕ → Heard → Standing
left_of opened closed stopped sent h = record { opened = opened; closed = closed; stopped = stopped; sent = sent; heard = h }

is_some_list : (journal : Journal) (entry : Entry) → not (is_empty (journal ++ entry ∷ [])) ≡ true
is_some_list [] entry = refl
is_some_list (_ ∷ journal) entry = refl

or_false : (b : Bool) → (b || false) ≡ b
or_false true = refl
or_false false = refl

any_more : (test : Entry → Bool) (journal : Journal) (entry : Entry) → list_any test (journal ++ entry ∷ []) ≡ (list_any test journal || test entry)
any_more test journal entry = list_any-append test journal (entry ∷ []) ∙ ap (λ (b : Bool). list_any test journal || b) (or_false (test entry))

pub left_more : (catalog : Catalog) (asks : List NumberedAsk) (journal : Journal) (entry : Entry)
    → standing_after catalog asks (journal ++ entry ∷ []) ≡ goes catalog asks (standing_after catalog asks journal) entry
left_more catalog asks journal entry =
    let pieces : taken (journal ++ entry ∷ []) ≡ taken journal ++ piece_of entry.answer =
    flat_map-append (λ (e : Entry). piece_of e.answer) journal (entry ∷ [])
    ∙ ap (λ (x : List ℕ). taken journal ++ x) (append-nil (piece_of entry.answer)) in
    let sends : length (sent (journal ++ entry ∷ [])) ≡ length (sent journal) + length (sent_by entry.move) =
    ap length (flat_map-append (λ (e : Entry). sent_by e.move) journal (entry ∷ [])
    ∙ ap (λ (x : List (List ℕ)). sent journal ++ x) (append-nil (sent_by entry.move)))
    ∙ length-append (sent journal) (sent_by entry.move) in
    ap (λ (b : Bool). left_of b (list_any (λ (e : Entry). is_close e.move) (journal ++ entry ∷ [])) (list_any (λ (e : Entry). is_stop e.answer) (journal ++ entry ∷ [])) (length (sent (journal ++ entry ∷ []))) (heard catalog asks (taken (journal ++ entry ∷ [])))) (is_some_list journal entry)
    ∙ (ap (λ (b : Bool). left_of true b (list_any (λ (e : Entry). is_stop e.answer) (journal ++ entry ∷ [])) (length (sent (journal ++ entry ∷ []))) (heard catalog asks (taken (journal ++ entry ∷ [])))) (any_more (λ (e : Entry). is_close e.move) journal entry)
    ∙ (ap (λ (b : Bool). left_of true (list_any (λ (e : Entry). is_close e.move) journal || is_close entry.move) b (length (sent (journal ++ entry ∷ []))) (heard catalog asks (taken (journal ++ entry ∷ [])))) (any_more (λ (e : Entry). is_stop e.answer) journal entry)
    ∙ (ap (λ (n : ℕ). left_of true (list_any (λ (e : Entry). is_close e.move) journal || is_close entry.move) (list_any (λ (e : Entry). is_stop e.answer) journal || is_stop entry.answer) n (heard catalog asks (taken (journal ++ entry ∷ [])))) sends
    ∙ ap (λ (h : Heard). left_of true (list_any (λ (e : Entry). is_close e.move) journal || is_close entry.move) (list_any (λ (e : Entry). is_stop e.answer) journal || is_stop entry.answer) (length (sent journal) + length (sent_by entry.move)) h)
    (ap (λ (x : List ℕ). heard catalog asks x) pieces ∙ hear_append catalog asks (at_first catalog) (taken journal) (piece_of entry.answer)))))
