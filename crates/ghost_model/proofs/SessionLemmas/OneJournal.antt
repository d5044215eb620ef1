-- That a host in the key's own process leaves one journal.
use Rattle.std.proofs.Common.{◌≡◌, ℕ, suc, Bool, true, false, List, [], ◌∷◌, ◌++◌, length, take, drop, sym, ◌∙◌, ap, subst, refl, append-nil, append_assoc, Option, None, Some}
use Rattle.std.specs.Prelude.{◌||◌, not, if◌then◌else◌}
use Rattle.std.specs.List.{list_all, list_any, concat}
use Rattle.std.proofs.lemmas.Bool.{eqb-true}
use Rattle.std.proofs.Math.Seq.{drop-append_seam}
use Rattle.ghost_model.specs.core.Schema.{is_empty}
use Rattle.ghost_model.specs.core.Channel.{Catalog, Move, Dial, Send, Take, Close, Answer, Made, Port, Piece, End, Failed, Entry, Journal}
use Rattle.ghost_model.specs.core.Asks.{NumberedAsk}
use Rattle.ghost_model.specs.core.Moves.{sent, taken, sent_by, piece_of}
use Rattle.std.proofs.lemmas.Grind.{flat_map-append}
use Rattle.ghost_model.specs.core.NextMove.{GoesOn, IsFinished, next_with, is_close}
use Rattle.ghost_model.specs.core.Host.{Holding, host_sends}
use Rattle.ghost_model.specs.core.Local.{IsServedBy, is_full, is_answered_in_full}
use Rattle.ghost_model.proofs.ChannelLemmas.Tests.{false_is_not, both_hold, take_front}

abbrev entry_of : Move → Answer → Entry
entry_of move answer = record { move = move; answer = answer }

same_move : (o : Option Move) (m n : Move) → o ≡ Some m → o ≡ Some n → m ≡ n
same_move o m n p q = cc

-- pieces of one size that begin the same bytes
same_piece : (size : ℕ) (one other rest later : List ℕ) → length one ≡ size → length other ≡ size → one ++ rest ≡ other ++ later → one ≡ other
same_piece size one other rest later p q e =
    sym (take_front size one rest p) ∙ (ap (λ (xs : List ℕ). take size xs) e ∙ take_front size other later q)

-- answers in full to one move are the same where their pieces begin the same bytes
same_answer :
    (move : Move) (one other : Answer) (rest later : List ℕ) → is_answered_in_full move one ≡ true → is_answered_in_full move other ≡ true
    → piece_of one ++ rest ≡ piece_of other ++ later → one ≡ other
same_answer (Dial _) Made Made rest later p q e = refl
same_answer (Send _) Made Made rest later p q e = refl
same_answer Close Made Made rest later p q e = refl
same_answer (Take most) (Piece xs) (Piece ys) rest later p q e =
    ap (λ (bytes : List ℕ). Piece bytes) (same_piece most xs ys rest later (eqb-true (length xs) most p) (eqb-true (length ys) most q) e)
same_answer (Dial _) Made (Port _) rest later p q e = absurd (false_is_not q)
same_answer (Dial _) Made (Piece _) rest later p q e = absurd (false_is_not q)
same_answer (Dial _) Made End rest later p q e = absurd (false_is_not q)
same_answer (Dial _) Made Failed rest later p q e = absurd (false_is_not q)
same_answer (Send _) Made (Port _) rest later p q e = absurd (false_is_not q)
same_answer (Send _) Made (Piece _) rest later p q e = absurd (false_is_not q)
same_answer (Send _) Made End rest later p q e = absurd (false_is_not q)
same_answer (Send _) Made Failed rest later p q e = absurd (false_is_not q)
same_answer Close Made (Port _) rest later p q e = absurd (false_is_not q)
same_answer Close Made (Piece _) rest later p q e = absurd (false_is_not q)
same_answer Close Made End rest later p q e = absurd (false_is_not q)
same_answer Close Made Failed rest later p q e = absurd (false_is_not q)
same_answer (Take _) (Piece _) Made rest later p q e = absurd (false_is_not q)
same_answer (Take _) (Piece _) (Port _) rest later p q e = absurd (false_is_not q)
same_answer (Take _) (Piece _) End rest later p q e = absurd (false_is_not q)
same_answer (Take _) (Piece _) Failed rest later p q e = absurd (false_is_not q)
same_answer move one other rest later p q e = absurd (false_is_not p)

-- one more entry
sent_more : (before : Journal) (entry : Entry) → sent (before ++ entry ∷ []) ≡ sent before ++ sent_by entry.move
sent_more before entry =
    flat_map-append (λ (e : Entry). sent_by e.move) before (entry ∷ []) ∙ ap (λ (xs : List (List ℕ)). sent before ++ xs) (append-nil (sent_by entry.move))

taken_more : (before : Journal) (entry : Entry) → taken (before ++ entry ∷ []) ≡ taken before ++ piece_of entry.answer
taken_more before entry =
    flat_map-append (λ (e : Entry). piece_of e.answer) before (entry ∷ []) ∙ ap (λ (xs : List ℕ). taken before ++ xs) (append-nil (piece_of entry.answer))

last_holds : (test : Entry → Bool) (before : Journal) (entry : Entry) → list_all test (before ++ entry ∷ []) ≡ true → test entry ≡ true
last_holds test [] entry h = (both_hold (test entry) true h).one
last_holds test (other ∷ before) entry h =
    last_holds test before entry (both_hold (test other) (list_all test (before ++ entry ∷ [])) h).other

is_there : (before : Journal) (entry : Entry) → not (is_empty (before ++ entry ∷ [])) ≡ true
is_there [] entry = refl
is_there (other ∷ before) entry = refl

either : (b c : Bool) → c ≡ true → (b || c) ≡ true
either true c e = refl
either false c e = e

last_is_met : (test : Entry → Bool) (before : Journal) (entry : Entry) → test entry ≡ true → list_any test (before ++ entry ∷ []) ≡ true
last_is_met test [] entry h = rw h
last_is_met test (other ∷ before) entry h = either (test other) (list_any test (before ++ entry ∷ [])) (last_is_met test before entry h)

none_is_not : (move : Move) → None ≡ Some move → ⊥
none_is_not move e = cc

no_more : (opened closed : Bool) (dial later : Option Move) (move : Move) → opened ≡ true → closed ≡ true → (if not opened then dial else if closed then None else later) ≡ Some move → ⊥
no_more true true dial later move p q e = none_is_not move e
no_more true false dial later move p q e = false_is_not q
no_more false closed dial later move p q e = false_is_not p

module _ (held : Holding) (catalog : Catalog) (at : List ℕ) (asks : List NumberedAsk) where
  -- nothing comes after Close
  after_close : (before : Journal) (entry : Entry) (move : Move) → entry.move ≡ Close → next_with catalog at asks (before ++ entry ∷ []) ≡ Some move → ⊥
  after_close before entry move c e =
      no_more (not (is_empty (before ++ entry ∷ []))) (list_any (λ other. is_close other.move) (before ++ entry ∷ [])) _ _ move
      (is_there before entry) (last_is_met (λ (other : Entry). is_close other.move) before entry (ap is_close c)) e

  -- what was said by an entry begins the same bytes, whatever was answered
  said_after : (before : Journal) (entry : Entry) (served : IsServedBy held (before ++ entry ∷ [])) → taken before ++ (piece_of entry.answer ++ served.rest) ≡ host_sends held (concat (sent before ++ sent_by entry.move))
  said_after before entry served =
      sym (append_assoc (taken before) (piece_of entry.answer) served.rest)
      ∙ (ap (λ (xs : List ℕ). xs ++ served.rest) (sym (taken_more before entry))
      ∙ (served.said ∙ ap (λ (xs : List (List ℕ)). host_sends held (concat xs)) (sent_more before entry)))

  same_entry :
      (before : Journal) (move : Move) (one other : Answer) → IsServedBy held (before ++ entry_of move one ∷ [])
      → IsServedBy held (before ++ entry_of move other ∷ []) → one ≡ other
  same_entry before move one other p q =
      let joined : taken before ++ (piece_of one ++ p.rest) ≡ taken before ++ (piece_of other ++ q.rest) =
      said_after before (entry_of move one) p ∙ sym (said_after before (entry_of move other) q) in
      same_answer move one other p.rest q.rest
      (last_holds is_full before (entry_of move one) p.full) (last_holds is_full before (entry_of move other) q.full)
      (sym (drop-append_seam (taken before) (piece_of one ++ p.rest))
      ∙ (ap (λ (xs : List ℕ). drop (length (taken before)) xs) joined ∙ drop-append_seam (taken before) (piece_of other ++ q.rest)))

  -- a journal is served at each point from here on
  abbrev ServedOn : Journal → Journal → Type 0
  ServedOn before journal = (entries : ℕ) → IsServedBy held (before ++ take entries journal)

  served_later : (before : Journal) (entry : Entry) (later : Journal) → ServedOn before (entry ∷ later) → ServedOn (before ++ entry ∷ []) later
  served_later before entry later served entries =
      subst (λ (journal : Journal). IsServedBy held journal) (sym (append_assoc before (entry ∷ []) (take entries later))) (served (suc entries))

  same_first :
      (before : Journal) (one other : Entry) (first second : Journal) → GoesOn catalog at asks before (one ∷ first)
      → GoesOn catalog at asks before (other ∷ second) → ServedOn before (one ∷ first) → ServedOn before (other ∷ second) → one ≡ other
  same_first before one other first second p q s t =
      let move : one.move ≡ other.move = same_move (next_with catalog at asks before) one.move other.move p.0 q.0 in
      let again : IsServedBy held (before ++ entry_of one.move other.answer ∷ []) =
      subst (λ (m : Move). IsServedBy held (before ++ entry_of m other.answer ∷ [])) (sym move) (t 1) in
      let answer : one.answer ≡ other.answer = same_entry before one.move one.answer other.answer (s 1) again in
      ap (λ (m : Move). entry_of m one.answer) move ∙ ap (λ (a : Answer). entry_of other.move a) answer

  pub same_journal :
      (before first second : Journal) → GoesOn catalog at asks before first → GoesOn catalog at asks before second → IsFinished first
      → IsFinished second → ServedOn before first → ServedOn before second → first ≡ second
  same_journal before [] second p q f g s t = absurd f
  same_journal before (one ∷ first) [] p q f g s t = absurd g
  same_journal before (one ∷ []) (other ∷ []) p q f g s t =
      ap (λ (e : Entry). e ∷ []) (same_first before one other [] [] p q s t)
  same_journal before (one ∷ []) (other ∷ next ∷ second) p q f g s t =
      let same : one ≡ other = same_first before one other [] (next ∷ second) p q s t in
      absurd (after_close before other next.move (ap (λ (e : Entry). e.move) (sym same) ∙ f) q.1.0)
  same_journal before (one ∷ next ∷ first) (other ∷ []) p q f g s t =
      let same : one ≡ other = same_first before one other (next ∷ first) [] p q s t in
      absurd (after_close before one next.move (ap (λ (e : Entry). e.move) same ∙ g) p.1.0)
  same_journal before (one ∷ next ∷ first) (other ∷ later ∷ second) p q f g s t =
      let same : one ≡ other = same_first before one other (next ∷ first) (later ∷ second) p q s t in
      let goes : GoesOn catalog at asks (before ++ one ∷ []) (later ∷ second) =
      subst (λ (e : Entry). GoesOn catalog at asks (before ++ e ∷ []) (later ∷ second)) (sym same) q.1 in
      let served : ServedOn (before ++ one ∷ []) (later ∷ second) =
      subst (λ (e : Entry). ServedOn (before ++ e ∷ []) (later ∷ second)) (sym same) (served_later before other (later ∷ second) t) in
      ap (λ (e : Entry). e ∷ next ∷ first) same
      ∙ ap (λ (journal : Journal). other ∷ journal)
      (same_journal (before ++ one ∷ []) (next ∷ first) (later ∷ second) p.1 goes f g (served_later before one (next ∷ first) s) served)
