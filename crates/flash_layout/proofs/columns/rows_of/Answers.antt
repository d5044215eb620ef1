use Rattle.std.proofs.Common.{ap, ◌∙◌, arith}
use Rattle.std.specs.Prelude.{unwrap_or}
use Rattle.std.proofs.lemmas.Option.{unwrap_or-slice_get}
use Rattle.flash_layout.proofs.columns.rows_of.Goals as goal

pub returns : goal.returns
returns c =
    let value = c.unwrap_or.ensures ∙ (ap (λ rows. unwrap_or rows 0) c.rows.ensures ∙ unwrap_or-slice_get c.args.cat.now.counts c.args.table 0) in
    let few = c.a_catalog_has_a_layout.ensures.layout.few.rows c.args.table in
    record { value = value; few = omega (arith, value, few) }
