use Rattle.std.proofs.Common.{rules, ◌≡◌, Some, arith, option_map, sym, nat_lt, IsTrue}
use Rattle.std.specs.List.{list_all}
use Rattle.std.proofs.lemmas.Grind.{common_steps}
use Rattle.ghost_model.specs.core.Values.{Null}
use Rattle.ghost_model.specs.readings.CellReading.{decode_cell}
use Rattle.ghost_base.specs.Views.{kind_of, value_of}
use Rattle.ghost_base.proofs.CellSpelling.{read_whole, spells_a_cell}
use Rattle.ghost_base.proofs.IntegerCells.{bytes_small}
use Rattle.ghost_base.proofs.cells.decode_cell.Goals as goal

pub returns-then-not-is_nullable-clause-kind : goal.returns-then-not-is_nullable-clause-kind
returns-then-not-is_nullable-clause-kind c =
    let small : IsTrue (list_all (λ byte. nat_lt byte 256) c.args.bytes.now) = bytes_small c.args.bytes.now (λ i. (c.type_inv.bytes i).fits) in
    (read_whole (kind_of c.args.kind) c.args.bytes.now c.decode_plain.result small c.decode_plain.ensures.value).0

pub returns-then-not-is_nullable-clause-cell : goal.returns-then-not-is_nullable-clause-cell
returns-then-not-is_nullable-clause-cell c =
    let small : IsTrue (list_all (λ byte. nat_lt byte 256) c.args.bytes.now) = bytes_small c.args.bytes.now (λ i. (c.type_inv.bytes i).fits) in
    (read_whole (kind_of c.args.kind) c.args.bytes.now c.decode_plain.result small c.decode_plain.ensures.value).1

pub returns-in-1-clause-kind : goal.returns-in-1-clause-kind
returns-in-1-clause-kind c =
    let small : IsTrue (list_all (λ byte. nat_lt byte 256) c.args.bytes.now) = bytes_small c.args.bytes.now (λ i. (c.type_inv.bytes i).fits) in
    let read : option_map value_of c.decode_plain-in-1.result ≡ decode_cell (kind_of c.args.kind) c.args.bytes.now = first_of (search rules, grind (arith, common_steps)) in
    (read_whole (kind_of c.args.kind) c.args.bytes.now c.decode_plain-in-1.result small read).0

pub returns-in-1-clause-cell : goal.returns-in-1-clause-cell
returns-in-1-clause-cell c =
    let small : IsTrue (list_all (λ byte. nat_lt byte 256) c.args.bytes.now) = bytes_small c.args.bytes.now (λ i. (c.type_inv.bytes i).fits) in
    let read : option_map value_of c.decode_plain-in-1.result ≡ decode_cell (kind_of c.args.kind) c.args.bytes.now = first_of (search rules, grind (arith, common_steps)) in
    (read_whole (kind_of c.args.kind) c.args.bytes.now c.decode_plain-in-1.result small read).1

pub returns-in-0-clause-cell : goal.returns-in-0-clause-cell
returns-in-0-clause-cell c =
    let small : IsTrue (list_all (λ byte. nat_lt byte 256) c.args.bytes.now) = bytes_small c.args.bytes.now (λ i. (c.type_inv.bytes i).fits) in
    let read : decode_cell (kind_of c.args.kind) c.args.bytes.now ≡ Some Null = first_of (search rules, grind (arith, common_steps)) in
    sym (spells_a_cell (kind_of c.args.kind) c.args.bytes.now Null small read).cell
