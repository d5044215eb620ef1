use Rattle.std.proofs.Common.{◌≡◌, ◌+◌, sym, ap, ◌∙◌, arith}
use Rattle.ghost_model.specs.forms.Layout as layout
use Rattle.ghost_model.specs.laws.LayoutSums as sums
use Rattle.flash_layout.proofs.layout.Layout.index_level.Goals as goal

pub returns : goal.returns
returns c =
    let cat = c.args.self.now in
    let table = c.args.table in
    let column = c.args.column in
    let directory = c.directory_pages-directory.ensures.value ∙ ap (λ cat. sums.directory_pages cat table column) c.self.view_is in
    let begin : c.index_begin.result + 1 + c.directory_pages-directory.result ≡ sums.index_begin cat table column + 1 + sums.directory_pages cat table column =
    omega (arith, c.index_begin.ensures.value, directory) in
    record {
      run =
          c.level_file.ensures.run
          ∙ (ap (λ tables. sums.level_file cat (c.index_begin.result + 1 + c.directory_pages-directory.result) tables c.args.level) c.levels-levels.ensures.tables
          ∙ (ap (λ page. sums.level_file cat page (layout.levels_of cat.schema table) c.args.level) begin
          ∙ sym (c.laws.ensures.layout.sums.index_level table column c.args.level c.requires.hidden c.requires.level)));
    }
