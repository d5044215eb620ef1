use Rattle.std.proofs.Common.{◌≡◌, ℕ, List, Some, IfOk, MatchBool, slice_index, map, ap, subst, ◌∙◌}
use Rattle.ghost_model.specs.core.Schema.{Schema, Kind}
use Rattle.ghost_base.specs.Views.{kind_of}
use Rattle.edge_traits.specs.Files.{file_of}
use Rattle.host_exec.specs.RowBytes.{data_columns, row_width, table_start}
use Rattle.host_exec.specs.Checked.{shown_kinds, GoodRows, BadRow}
use Rattle.host_exec.proofs.checking.check_table.Goals as goal

pub returns-clause-checked : goal.returns-clause-checked
returns-clause-checked g c =
    let kinds = ap (map kind_of) c.deref.ensures.0 ∙ (c.kinds_of-kinds.ensures.kinds ∙ ap (λ (s : Schema). shown_kinds (data_columns s c.args.table)) c.schema.ensures.value) in
    let width = c.row_width-width.ensures.width ∙ ap (λ (s : Schema). row_width s c.args.table) c.schema-2.ensures.value in
    let start = c.start_of-start.ensures.start ∙ c.requires.starts c.args.table c.requires.table in
    let family = λ (ks : List Kind) (at wide count : ℕ). IfOk c.check_rows.result (λ good. (file : List ℕ) → file_of (g.D.Depot.contents c.args.depot.now) c.args.name.now ≡ Some file
    → MatchBool good (GoodRows ks file at wide 0 count) (BadRow ks file at wide count)) in
    let a = subst (λ (n : ℕ). family (map kind_of c.deref.result.now) c.start_of-start.result c.row_width-width.result n) c.rows_of-rows.ensures.rows c.check_rows.ensures.checked in
    let b = subst (λ (n : ℕ). family (map kind_of c.deref.result.now) c.start_of-start.result n (slice_index c.args.catalog.now.counts c.args.table)) width a in
    let d = subst (λ (n : ℕ). family (map kind_of c.deref.result.now) n (row_width c.args.catalog.now.schema c.args.table) (slice_index c.args.catalog.now.counts c.args.table)) start b in
    subst (λ (ks : List Kind). family ks (table_start c.args.catalog.now c.args.table) (row_width c.args.catalog.now.schema c.args.table) (slice_index c.args.catalog.now.counts c.args.table)) kinds d
