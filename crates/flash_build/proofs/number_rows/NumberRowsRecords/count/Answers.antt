use Rattle.std.proofs.Common.{◌∙◌, sym, map}
use Rattle.std.proofs.lemmas.List.{length-map}
use Rattle.std.proofs.lemmas.List.FromFn.{length-range_with_len}
use Rattle.ghost_model.specs.forms.Layout.{below}
use Rattle.flash_build.specs.Levels.{items_of, numbers_record}
use Rattle.flash_build.proofs.number_rows.NumberRowsRecords.count.Goals as goal

pub returns : goal.returns
returns c =
    let rows = c.args.self.now.rows in
    sym (length-map (below rows) (numbers_record (map items_of c.args.self.now.columns.now)) ∙ length-range_with_len 0 rows)
