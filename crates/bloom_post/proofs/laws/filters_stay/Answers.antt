use Rattle.bloom_post.proofs.LeasedBits.{bits_stay}
use Rattle.bloom_post.proofs.laws.filters_stay.Goals as goal

pub returns : goal.returns
returns c = record { stay = bits_stay }
