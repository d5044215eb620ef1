use Rattle.std.proofs.Common.{◌≡◌, ◌∙◌, List, ℕ, ap, sym, take, drop, length}
use Rattle.std.proofs.lemmas.Slice.Eq.{bytes_eq-Decides}
use Rattle.text_messages.proofs.texts.stands_at.Goals as goal

pub returns : goal.returns
returns c =
    let len = length c.args.text.now in
    record {
      place = λ is.
          ap (λ (rest : List ℕ). take len rest) (sym c.split_at.ensures.back)
          ∙ (sym c.split_at-2.ensures.front
          ∙ (bytes_eq-Decides c.split_at-2.result.0.now c.args.text.now).0 (sym c.eq.ensures ∙ is));
    }
