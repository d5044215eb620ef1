use Rattle.std.proofs.Common.{◌≡◌, ℕ, zero, suc, ◌<◌, Option, Some, List, [], ◌∷◌, ◌++◌, length, take, sym, ◌∙◌, ap, subst, refl, arith, add-one}
use Rattle.ghost_model.specs.core.Channel.{Catalog, Move, Answer, Entry, Journal}
use Rattle.ghost_model.specs.core.Asks.{NumberedAsk}
use Rattle.ghost_model.specs.core.Moves.{answers}
use Rattle.ghost_model.specs.laws.ShortWords.{moves}
use Rattle.ghost_model.specs.core.NextMove.{GoesOn, next_with}
use Rattle.ghost_model.proofs.channel.two_worlds.Goals as goal

same_move : (o : Option Move) (m n : Move) → o ≡ Some m → o ≡ Some n → m ≡ n
same_move o m n p q = cc

same_head : (a b : Answer) (cs ds : List Answer) → a ∷ cs ≡ b ∷ ds → a ≡ b
same_head a b cs ds p = cc

same_tail : (a b : Answer) (cs ds : List Answer) → a ∷ cs ≡ b ∷ ds → cs ≡ ds
same_tail a b cs ds p = cc

abbrev entry_of : Move → Answer → Entry
entry_of move answer = record { move = move; answer = answer }

same_entry : (d e : Entry) → d.move ≡ e.move → d.answer ≡ e.answer → d ≡ e
same_entry d e p q = ap (λ (m : Move). entry_of m d.answer) p ∙ ap (λ (a : Answer). entry_of e.move a) q

cons_moves : (m n : Move) (ms ns : List Move) → m ≡ n → ms ≡ ns → m ∷ ms ≡ n ∷ ns
cons_moves m n ms ns p q = cc

-- two journals that go on from the same entries
module _ (catalog : Catalog) (at : List ℕ) (asks : List NumberedAsk) where
  same_moves :
      (first second : Journal) (i : ℕ) (before : Journal) → GoesOn catalog at asks before first
      → GoesOn catalog at asks before second → i < length first → i < length second
      → answers (take i first) ≡ answers (take i second) → moves (take (suc i) first) ≡ moves (take (suc i) second)
  same_moves [] second i before p q m n e = absurd (omega arith)
  same_moves (d ∷ ds) [] i before p q m n e = absurd (omega arith)
  same_moves (d ∷ ds) (b ∷ bs) zero before p q m n e =
      cons_moves d.move b.move [] [] (same_move (next_with catalog at asks before) d.move b.move p.0 q.0) refl
  same_moves (d ∷ ds) (b ∷ bs) (suc i) before p q m n e =
      let move : d.move ≡ b.move = same_move (next_with catalog at asks before) d.move b.move p.0 q.0 in
      let answer : d.answer ≡ b.answer = same_head d.answer b.answer (answers (take i ds)) (answers (take i bs)) e in
      let entry : d ≡ b = same_entry d b move answer in
      let goes : GoesOn catalog at asks (before ++ d ∷ []) bs =
      subst (λ (x : Entry). GoesOn catalog at asks (before ++ x ∷ []) bs) (sym entry) q.1 in
      cons_moves d.move b.move (moves (take (suc i) ds)) (moves (take (suc i) bs)) move
      (same_moves ds bs i (before ++ d ∷ []) p.1 goes (omega arith) (omega arith)
      (same_tail d.answer b.answer (answers (take i ds)) (answers (take i bs)) e))

pub returns : goal.returns
returns c catalog at asks first second i p q m n e =
    subst (λ (k : ℕ). moves (take k first) ≡ moves (take k second)) (sym (add-one i))
    (same_moves catalog at asks first second i [] p q m n e)
