use Rattle.std.proofs.Common.{◌∙◌}
use Rattle.host_exec.proofs.ReadTables.{front_told}
use Rattle.host_exec.proofs.reading.begins_with.Goals as goal

pub returns-clause-begins : goal.returns-clause-begins
returns-clause-begins g c file is =
    front_told c.args.cat.now file c.fill.new.buf _ c.is_catalog_part.result (c.in_ok-fill.ensures.filled file is)
    (c.split_at_mut-head.ensures.front_len ∙ c.catalog_len.ensures.value) c.is_catalog_part.ensures.same
