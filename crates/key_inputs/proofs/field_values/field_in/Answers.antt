use Rattle.std.proofs.Common.{◌≡◌, ◌+◌, ◌-◌, ◌∙◌, ap, sym, arith, drop, Some}
use Rattle.csv.specs.Records as csv
use Rattle.csv.specs.Records.{fields_of}
use Rattle.ghost_model.specs.core.Database.{records_of}
use Rattle.key_inputs.proofs.Fields.{field_found, record_read}
use Rattle.key_inputs.proofs.field_values.field_in.Goals as goal

pub loop-preserved : goal.loop-preserved
loop-preserved c =
    let kept = c.loop.invariant in
    let read = record_read c.in-Ok-true.field-0 c.loop.records c.read.new.self (fields_of c.read.new.row) (records_of c.args.file.now) (c.loop.counter - 1) c.in-Ok-true.field-0-test c.in-Ok-true.ensures.read kept.2 in
    let next : c.loop.counter - 1 + 1 ≡ c.loop.counter + 1 - 1 = omega (arith, kept.0) in
    (omega arith, omega (arith, kept.0, c.loop-test.true), read.1 ∙ ap (λ n. drop n (records_of c.args.file.now)) next)

pub returns-in-Some : goal.returns-in-Some
returns-in-Some c =
    let kept = c.loop.invariant in
    let read = record_read c.in-Ok-true-read.field-0 c.loop.records c.read-2.new.self (fields_of c.read-2.new.row) (records_of c.args.file.now) (c.loop.counter - 1) c.in-Ok-true-read.field-0-test c.in-Ok-true-read.ensures.read kept.2 in
    let got : csv.field_at (fields_of c.read-2.new.row) c.args.at.now.column ≡ Some c.in-Some.field.now =
    ap (csv.field_at (fields_of c.read-2.new.row)) (sym c.from.ensures) ∙ sym c.in-Some.ensures.value in
    record {
      shown = λ other. field_found c.args.file.now c.args.at.now (c.loop.counter - 1) (fields_of c.read-2.new.row) c.in-Some.field.now c.of.result
          (omega (arith, kept.0, kept.1, c.loop-test.false)) read.0 got c.of.ensures.shown;
    }
