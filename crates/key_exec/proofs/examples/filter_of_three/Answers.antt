use Rattle.std.proofs.Common.{◌≡◌, refl, true, false, arith}
use Rattle.bloom_post.specs.Places.{is_bit}
use Rattle.bloom_post.specs.Filters.{is_set}
use Rattle.key_exec.specs.Examples.{with_bits}
use Rattle.key_exec.proofs.examples.filter_of_three.Goals as goal

pub returns : goal.returns
unfolding with_bits is_set is_bit
returns c = record {
  those_added = refl;
  another = refl;
  no_other = refl;
  not_of_two = λ h. let clash : true ≡ false = h.bits 2 (omega arith) in absurd (cc clash);
}
