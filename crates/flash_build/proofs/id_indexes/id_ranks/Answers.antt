use Rattle.std.proofs.Common.{◌∙◌, ap, length}
use Rattle.std.proofs.lemmas.List.FromFn.{length-range_with_len}
use Rattle.flash_build.proofs.id_indexes.id_ranks.Goals as goal

pub level_ranks-requires-clause-long : goal.level_ranks-requires-clause-long
level_ranks-requires-clause-long c = ap length c.in_ok-places.ensures.numbers ∙ (length-range_with_len 0 c.rows.result ∙ c.rows.ensures.value)
