use Rattle.std.proofs.Common.{◌∷◌, ◌∙◌, ap, refl, sym, ℕ, List}
use Rattle.std.specs.Prelude.{is_some}
use Rattle.key_session.proofs.Steps.{first_ahead, unbegun_same}
use Rattle.key_session.proofs.teller.Teller.end.Goals as goal

pub returns-clause-ended : goal.returns-clause-ended
returns-clause-ended c =
    let first = first_ahead _ c.args.self.now.ahead c.args.self.now.texts c.requires.left in record {
      texts = (first.0, first.1 ∙ ap (λ (texts : List (List ℕ)). first.0 ∷ texts) (sym c.next_text-self.ensures.taken));
      plan = refl;
      count = refl;
      running = refl;
      counted = c.add.ensures.counted;
      first = c.add.ensures.first;
      told = c.add.ensures.told;
    }

pub returns-clause-unbegun : goal.returns-clause-unbegun
returns-clause-unbegun c = unbegun_same (is_some c.next_text-self.result) _ _ c.next_text-self.ensures.fewer
