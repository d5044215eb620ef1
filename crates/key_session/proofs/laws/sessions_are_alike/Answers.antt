use Rattle.std.proofs.Common.{◌≡◌, ℕ, Option, Some, List, [], ◌∷◌, ◌++◌, ap₂, subst, sym, refl}
use Rattle.ghost_model.specs.core.Channel.{Catalog, Move, Answer, Entry, Journal}
use Rattle.ghost_model.specs.core.Asks.{NumberedAsk, asked_of}
use Rattle.ghost_model.specs.core.Moves.{answers}
use Rattle.ghost_model.specs.core.NextMove.{GoesOn, next_with}
use Rattle.key_session.proofs.laws.sessions_are_alike.Goals as goal

one_move : (o : Option Move) (m n : Move) → o ≡ Some m → o ≡ Some n → m ≡ n
one_move o m n p q = cc

first_is : (a b : Answer) (cs ds : List Answer) → a ∷ cs ≡ b ∷ ds → a ≡ b
first_is a b cs ds p = cc

later_are : (a b : Answer) (cs ds : List Answer) → a ∷ cs ≡ b ∷ ds → cs ≡ ds
later_are a b cs ds p = cc

abbrev entry_of : Move → Answer → Entry
entry_of move answer = record { move = move; answer = answer }

module _ (catalog : Catalog) (at : List ℕ) (asks : List NumberedAsk) where
  same_journal :
      (one other before : Journal) → GoesOn catalog at asks before one → GoesOn catalog at asks before other
      → answers one ≡ answers other → one ≡ other
  same_journal [] [] before p q e = refl
  same_journal [] (b ∷ bs) before p q e = absurd (cc (e))
  same_journal (d ∷ ds) [] before p q e = absurd (cc (e))
  same_journal (d ∷ ds) (b ∷ bs) before p q e =
      let move : d.move ≡ b.move = one_move (next_with catalog at asks before) d.move b.move p.0 q.0 in
      let answer : d.answer ≡ b.answer = first_is d.answer b.answer (answers ds) (answers bs) e in
      let entry : d ≡ b = ap₂ entry_of move answer in
      let goes : GoesOn catalog at asks (before ++ d ∷ []) bs =
      subst (λ (x : Entry). GoesOn catalog at asks (before ++ x ∷ []) bs) (sym entry) q.1 in
      ap₂ (λ (x : Entry) (xs : Journal). x ∷ xs) entry
      (same_journal ds bs (before ++ d ∷ []) p.1 goes (later_are d.answer b.answer (answers ds) (answers bs) e))

pub returns : goal.returns
returns g c = record {
  alike = λ before now other_before other_now catalog at texts failed fails other_failed other_fails by other_by told other_told since after other_since other_after tally other_tally one other. record {
    so_far = λ i within other_within same. c.two_worlds.ensures catalog at (asked_of catalog.schema texts) one.journal other.journal i one.proper other.proper within other_within same;
    whole = same_journal catalog at (asked_of catalog.schema texts) one.journal other.journal [] one.proper other.proper;
  };
}
