use Rattle.std.proofs.Common.{◌∙◌, arith}
use Rattle.ghost_model.specs.forms.Catalog.{catalog_bytes}
use Rattle.host_exec.proofs.Groups.{said_part, said_last}
use Rattle.host_exec.proofs.saying.say_part.Goals as goal

pub returns-then-end-len-clause-said : goal.returns-then-end-len-clause-said
returns-then-end-len-clause-said c source owed stand stands =
    said_part (catalog_bytes c.args.catalog.now) source c.args.at c.catalog_part-count.result owed stand c.split_at.result.0.now _ _ stands
    (omega (arith, c.if-end-len.true, c.catalog_len-len.ensures.value)) c.catalog_part-count.ensures.count (c.split_at.ensures.front ∙ c.catalog_part-count.ensures.bytes) c.put_frame-size.ensures.bytes

pub returns-else-end-len-clause-said : goal.returns-else-end-len-clause-said
returns-else-end-len-clause-said c source owed stand stands =
    said_last (catalog_bytes c.args.catalog.now) source c.args.at c.catalog_part-count.result owed stand c.split_at.result.0.now _ _ stands c.requires.within
    (omega (arith, c.if-end-len.false, c.catalog_len-len.ensures.value)) c.catalog_part-count.ensures.count (c.split_at.ensures.front ∙ c.catalog_part-count.ensures.bytes) c.put_frame-size-else-end-len.ensures.bytes
