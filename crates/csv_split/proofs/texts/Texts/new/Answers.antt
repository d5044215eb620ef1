use Rattle.std.proofs.Common.{◌≡◌, ◌*◌, ◌∙◌, arith, sym, ap, length, refl}
use Rattle.csv_split.specs.Texts.{AreCells, texts_in}
use Rattle.csv_split.proofs.texts.Texts.new.Goals as goal

pub invariant_of-result : goal.invariant_of-result
unfolding AreCells
invariant_of-result c =
    let none : 0 * c.args.width ≡ 0 = omega arith in
    record { small = c.requires; size = ap length c.new.ensures.items ∙ sym none; cells = c.new.ensures.items }

pub returns : goal.returns
unfolding texts_in
returns c = refl
