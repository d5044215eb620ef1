use Rattle.std.proofs.Common.{ap, nat_eq, get_or, ◌/◌, ◌%◌}
use Rattle.std.proofs.lemmas.Nat.Bits.{shr_and_one}
use Rattle.bloom_post.specs.Places.{is_bit}
use Rattle.bloom_post.proofs.bits.is_bit.Goals as goal

pub returns : goal.returns
unfolding is_bit
returns c = ap (λ n. nat_eq n 1) (shr_and_one (get_or c.args.page.now (c.args.place / 8) 0) (c.args.place % 8))
