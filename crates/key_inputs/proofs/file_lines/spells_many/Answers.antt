use Rattle.std.proofs.Common.{arith, length, sym}
use Rattle.csv.specs.Records.{fields_of}
use Rattle.ghost_model.specs.core.Database.{records_of}
use Rattle.key_inputs.proofs.FileLineLemmas.{all_counted, not_so_many, one_counted}
use Rattle.key_inputs.proofs.file_lines.spells_many.Goals as goal

pub returns-in-Ok-false : goal.returns-in-Ok-false
returns-in-Ok-false c =
    let whole = records_of c.args.text.now in
    let few = all_counted c.in-Ok-false.field-0 c.loop.records c.read.new.self (fields_of c.read.new.row) whole c.loop.counter c.in-Ok-false.field-0-test c.in-Ok-false.ensures.read c.loop.invariant.2 in
    record { many = sym (not_so_many c.args.count (length whole) c.loop.counter few (omega (arith, c.loop-test.true))) }

pub loop-preserved : goal.loop-preserved
loop-preserved c =
    let kept = c.loop.invariant in
    let read = one_counted c.in-Ok-true.field-0 c.loop.records c.read.new.self (fields_of c.read.new.row) (records_of c.args.text.now) c.loop.counter c.in-Ok-true.field-0-test c.in-Ok-true.ensures.read kept.2 in
    (omega (arith, kept.0, c.loop-test.true), omega (arith, read.0), read.1)
