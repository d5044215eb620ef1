use Rattle.bloom_post.proofs.Filling.{every_bit}
use Rattle.bloom_post.proofs.laws.forty_thousand_fill_two_pages.Goals as goal

pub returns : goal.returns
returns c = record { full = every_bit }
