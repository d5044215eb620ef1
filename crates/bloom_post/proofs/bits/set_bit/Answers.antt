use Rattle.std.proofs.Common.{arith}
use Rattle.bloom_post.proofs.PageBits.{bit_set}
use Rattle.bloom_post.proofs.bits.set_bit.Goals as goal

pub returns : goal.returns
returns c = λ other. bit_set c.args.page.now c.args.place other (omega arith)
