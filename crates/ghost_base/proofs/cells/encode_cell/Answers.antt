use Rattle.std.proofs.Common.{rules, ◌≡◌, ◌++◌, ◌∙◌, ap, arith}
use Rattle.std.proofs.lemmas.Grind.{common_steps}
use Rattle.ghost_model.specs.forms.Cells.{encode_cell}
use Rattle.ghost_model.specs.readings.CellReading.{decode_cell}
use Rattle.ghost_base.specs.Views.{kind_of, value_of}
use Rattle.ghost_base.proofs.CellSpelling.{reads_back}
use Rattle.ghost_base.proofs.cells.encode_cell.Goals as goal

pub returns-then-is_null-clause-spells : goal.returns-then-is_null-clause-spells
returns-then-is_null-clause-spells c =
    let cell : c.fill.new.self ≡ encode_cell (kind_of c.args.kind) (value_of c.args.value.now) = first_of (search rules, grind (arith, common_steps)) in
    ap (decode_cell (kind_of c.args.kind)) cell ∙ reads_back _ _ c.requires.kind

pub returns-then-is_nullable-clause-spells : goal.returns-then-is_nullable-clause-spells
returns-then-is_nullable-clause-spells c =
    let cell : c.fill-then-is_nullable.new.self ++ c.encode_plain.new.out ≡ encode_cell (kind_of c.args.kind) (value_of c.args.value.now) = first_of (search rules, grind (arith, common_steps)) in
    ap (decode_cell (kind_of c.args.kind)) cell ∙ reads_back _ _ c.requires.kind
