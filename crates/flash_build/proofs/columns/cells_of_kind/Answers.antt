use Rattle.std.proofs.Common.{◌≡◌, ◌∙◌, ◌<◌, ◌≤◌, ap, ap₂, sym, subst, length, map, arith}
use Rattle.std.proofs.lemmas.List.{length-map}
use Rattle.ghost_model.specs.core.Schema.{Chars, plain_of}
use Rattle.ghost_model.specs.core.Values.{Text}
use Rattle.ghost_model.specs.forms.Cells.{cell_width, encode_cell}
use Rattle.ghost_base.specs.Views.{kind_of}
use Rattle.csv_split.specs.Cells.{values_in}
use Rattle.index_lists.specs.Ranks.{number_cells}
use Rattle.flash_build.specs.Cells.{AreHeld}
use Rattle.flash_build.proofs.HiddenValues.{numbers_are, texts_are, all_fit}
use Rattle.flash_build.proofs.columns.cells_of_kind.Goals as goal

pub invariant_of-result-in-Chars-Texts : goal.invariant_of-result-in-Chars-Texts
invariant_of-result-in-Chars-Texts c =
    let texts = c.in-Chars-Texts.texts.texts in
    let kind : kind_of c.args.kind ≡ Chars c.from.result = ap kind_of c.in-Chars-Texts.is-0 ∙ ap Chars (sym c.from.ensures) in
    let values : values_in c.args.values.now ≡ map Text texts = ap values_in c.in-Chars-Texts.is-1 in
    let held : AreHeld (Chars c.from.result) (map Text texts) = subst (AreHeld (Chars c.from.result)) values (subst (λ k. AreHeld k (values_in c.args.values.now)) kind c.requires.held) in
    let size : length (values_in c.args.values.now) ≡ length texts = ap length values ∙ length-map texts Text in
    record {
      some = subst (λ k. 0 < cell_width k) kind c.requires.some;
      narrow = subst (λ k. cell_width (plain_of k) ≤ 64) kind c.requires.narrow;
      fit = all_fit c.from.result texts held;
      few = omega (arith, c.requires.few, size);
    }

pub returns-in-Integer-Numbers : goal.returns-in-Integer-Numbers
returns-in-Integer-Numbers c = record {
  cells = ap number_cells c.deref.ensures.value
      ∙ numbers_are c.in-Integer-Numbers.numbers.items
      ∙ ap₂ (λ kind values. map (encode_cell (kind_of kind)) (values_in values)) (sym c.in-Integer-Numbers.is-0) (sym c.in-Integer-Numbers.is-1);
}

pub returns-in-Chars-Texts : goal.returns-in-Chars-Texts
returns-in-Chars-Texts c =
    let texts = c.in-Chars-Texts.texts.texts in
    let kind : kind_of c.args.kind ≡ Chars c.from.result = ap kind_of c.in-Chars-Texts.is-0 ∙ ap Chars (sym c.from.ensures) in
    let values : values_in c.args.values.now ≡ map Text texts = ap values_in c.in-Chars-Texts.is-1 in
    record { cells = texts_are c.from.result texts ∙ ap₂ (λ kind values. map (encode_cell kind) values) (sym kind) (sym values) }
