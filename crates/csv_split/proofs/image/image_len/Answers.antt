use Rattle.std.proofs.Common.{◌≤◌, ◌<◌, ◌+◌, ◌∙◌, ap, sym, length, drop, arith}
use Rattle.ghost_model.specs.forms.Catalog.{catalog_bytes}
use Rattle.csv_split.specs.ImageLengths.{counted, tables_bytes}
use Rattle.csv_split.specs.Reading.{columns_of}
use Rattle.csv_split.proofs.ImageBytes.{whole_length}
use Rattle.csv_split.proofs.ImageLengths.{no_table, one_length}
use Rattle.csv_split.proofs.image.image_len.Goals as goal
use Rattle.csv_split.proofs.image.image_len.Goals.{in-Some, in_default}

pub loop-table-preserved : goal.loop-table-preserved
loop-table-preserved c =
    let tables = c.args.cat.now.schema in
    let visible = c.args.public.now.visible in
    let head = length (catalog_bytes c.args.cat.now) in
    let here : c.loop-table.table < length c.schema-schema.result.now = omega (arith, c.loop-table-test.true, c.tables-table-end.ensures.count) in
    let within : c.loop-table.table < length tables = rw c.schema-schema.ensures.value at here in
    elim c.match-part.branch [
      | in-Some w ↦
          one_length tables visible head c.loop-table.table c.loop-table.len c.match-part.len (columns_of w.declared_columns.result.now) w.in-Some.part.now
          c.loop-table.invariant within (rw c.schema-schema.ensures.value at w.declared_columns.ensures.columns) w.in-Some.ensures (w.len-is ∙ w.saturating_add-len.ensures ∙ ap (λ n. counted (c.loop-table.len + n)) w.table_len-rows.ensures)
      | in_default w ↦ let rest = tables_bytes (drop (c.loop-table.table + 1) tables) (drop (c.loop-table.table + 1) visible) in let none = no_table tables visible head c.loop-table.table c.loop-table.len c.loop-table.invariant w.in_default.ensures in record { exact = ap (λ n. counted (n + rest)) w.len-is ∙ none.exact; fits = ap counted w.len-is ∙ none.fits ∙ sym w.len-is }
    ]

pub returns-clause-whole : goal.returns-clause-whole
returns-clause-whole c =
    let past : length c.schema-schema.result.now ≤ c.loop-table.table = omega (arith, c.loop-table-test.false, c.tables-table-end.ensures.count) in
    let short : length (catalog_bytes c.args.cat.now) ≤ 16640 = rw c.catalog_len-len.ensures.value at c.catalog_len-len.ensures.most in
    whole_length c.args.cat.now c.args.public.now c.loop-table.table c.loop-table.len c.catalog_len-len.ensures.catalog short c.loop-table.invariant (rw c.schema-schema.ensures.value at past)
