use Rattle.std.proofs.Common.{◌∙◌, ◌+◌, ◌++◌, Err, ap, sym, inr}
use Rattle.ghost_model.specs.refusals.LoadFaults.{rows_faults}
use Rattle.std.proofs.lemmas.Result.{err_from_is_err_and}
use Rattle.csv.specs.Records.{fields_of}
use Rattle.csv_split.specs.declared.faults.LoadFault.TheVariants.{NoMemory as no_memory}
use Rattle.csv_split.specs.Reading.{columns_of, with_identifier}
use Rattle.csv_split.proofs.Judging.{first_more, same_error}
use Rattle.csv_split.proofs.ReadRows.{none_broken, row_next, row_read}
use Rattle.csv_split.proofs.reading.take_rows.Goals as goal

pub returns-then-not-found-clause-judged : goal.returns-then-not-found-clause-judged
returns-then-not-found-clause-judged c =
    none_broken c.args.table (columns_of c.args.declared.now) c.args.records.now c.loop-found.count c.loop-found.columns c.loop-found.records c.loop-found.invariant
    (rw c.if-not-found.true at c.in-Ok.ensures.read)

pub returns-in_err-take_row-clause-judged : goal.returns-in_err-take_row-clause-judged
returns-in_err-take_row-clause-judged c =
    let p = err_from_is_err_and c.from_residual.result c.from_residual.ensures.1 in
    let all = row_next c.args.table (columns_of c.args.declared.now) c.args.records.now c.loop-found.count c.loop-found.columns c.loop-found.records c.read.new.self (fields_of c.read.new.row)
    c.loop-found.invariant (rw c.if-not-found.false at c.in-Ok.ensures.read) in
    rw (p.1, p.2, all) (first_more _ _ _ c.in_err-take_row.ensures.judged)

pub returns-in_err-take_row-clause-memory : goal.returns-in_err-take_row-clause-memory
returns-in_err-take_row-clause-memory c wants =
    let p = err_from_is_err_and c.from_residual.result c.from_residual.ensures.1 in
    let all = row_next c.args.table (columns_of c.args.declared.now) c.args.records.now c.loop-found.count c.loop-found.columns c.loop-found.records c.read.new.self (fields_of c.read.new.row)
    c.loop-found.invariant (rw c.if-not-found.false at c.in-Ok.ensures.read) in
    let wanted = same_error c.in_err-take_row.field-0.0 no_memory (ap (λ fault. Err fault) (sym p.2) ∙ sym p.1 ∙ wants) in
    inr (record {
      row = c.loop-found.count + 1;
      fields = fields_of c.read.new.row;
      wants = c.in_err-take_row.ensures.memory wanted;
      judged = all ∙ ap (λ part. part ++ rows_faults c.args.table (c.loop-found.count + 1 + 1) (with_identifier (columns_of c.args.declared.now)) c.read.new.self) (c.in_err-take_row.ensures.memory_last wanted);
    })

pub loop-found-preserved : goal.loop-found-preserved
loop-found-preserved c =
    row_read c.args.table (columns_of c.args.declared.now) c.args.records.now c.loop-found.count c.loop-found.columns c.take_row.new.columns c.loop-found.records c.read.new.self (fields_of c.read.new.row)
    c.loop-found.invariant (rw c.if-not-found.false at c.in-Ok.ensures.read) c.in_ok-take_row.ensures.judged c.in_ok-take_row.ensures.values c.take_row.ensures.kinds c.in_ok-take_row.ensures.identifier
