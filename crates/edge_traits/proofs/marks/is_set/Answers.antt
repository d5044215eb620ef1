use Rattle.std.proofs.Common.{ap, nat_eq, get_or, ◌/◌, ◌%◌}
use Rattle.std.proofs.lemmas.Nat.Bits.{shr_and_one}
use Rattle.edge_traits.specs.Marks.{is_marked}
use Rattle.edge_traits.proofs.marks.is_set.Goals as goal

pub returns : goal.returns
unfolding is_marked
returns c =
    ap (λ n. nat_eq n 1) (shr_and_one (get_or c.args.marks.now (c.args.page / 64) 0) (c.args.page % 64))
