use Rattle.std.proofs.Common.{◌≡◌, ◌∙◌, Err, sym, ap, length, arith}
use Rattle.std.proofs.lemmas.List.{length-map}
use Rattle.std.proofs.lemmas.Result.{err_from_is_err_and}
use Rattle.csv.specs.Records.{fields_of}
use Rattle.tree_schema.specs.Views.{column_of}
use Rattle.csv_split.specs.Reading.{columns_of}
use Rattle.csv_split.proofs.Judging.{first_more, none_first}
use Rattle.csv_split.proofs.TakenFields.{all_faults, all_taken, kinds_stay, room_there, same_length, step}
use Rattle.csv_split.proofs.rows.take_fields.Goals as goal

pub take-requires : goal.take-requires
take-requires c =
    let many = same_length (columns_of c.args.declared.now) c.args.columns.now c.requires.kinds in
    let few = room_there c.args.at.table c.args.at.rec (columns_of c.args.declared.now) (fields_of c.args.row.now) c.args.columns.now c.loop-i.columns c.loop-i.i 1000000 c.index-columns-i.result
    c.loop-i.invariant c.requires.kinds (omega arith) c.requires.room in
    record { room = omega arith }

pub returns-in_err-take-clause-judged : goal.returns-in_err-take-clause-judged
returns-in_err-take-clause-judged c =
    let p = err_from_is_err_and c.from_residual.result c.from_residual.ensures.1 in
    let many = same_length (columns_of c.args.declared.now) c.args.columns.now c.requires.kinds in
    let wide : length (columns_of c.args.declared.now) ≡ length c.args.declared.now = length-map c.args.declared.now column_of in
    let width = c.requires.width in
    let all = all_faults c.args.at.table c.args.at.rec (columns_of c.args.declared.now) (fields_of c.args.row.now) c.args.columns.now c.loop-i.columns c.loop-i.i c.index-columns-i.result
    c.loop-i.invariant (omega arith) (omega arith) in
    rw (p.1, p.2, all) (first_more _ _ _ (rw c.field_of.ensures at c.in_err-take.ensures.judged))

pub returns-in_err-take-clause-memory : goal.returns-in_err-take-clause-memory
returns-in_err-take-clause-memory c wants =
    let p = err_from_is_err_and c.from_residual.result c.from_residual.ensures.1 in
    let many = same_length (columns_of c.args.declared.now) c.args.columns.now c.requires.kinds in
    let wide : length (columns_of c.args.declared.now) ≡ length c.args.declared.now = length-map c.args.declared.now column_of in
    let width = c.requires.width in
    let all = all_faults c.args.at.table c.args.at.rec (columns_of c.args.declared.now) (fields_of c.args.row.now) c.args.columns.now c.loop-i.columns c.loop-i.i c.index-columns-i.result
    c.loop-i.invariant (omega arith) (omega arith) in
    record {
      column = c.loop-i.i;
      within = omega arith;
      judged = all ∙ none_first _ _ (rw c.field_of.ensures at c.in_err-take.ensures.memory (ap (λ fault. Err fault) (sym p.2) ∙ sym p.1 ∙ wants));
    }

pub returns-in_err-take-clause-kinds : goal.returns-in_err-take-clause-kinds
returns-in_err-take-clause-kinds c =
    kinds_stay (columns_of c.args.declared.now) c.loop-i.columns c.loop-i.i c.index-columns-i.result c.take.new.self c.loop-i.invariant.kinds c.take.ensures.kind

pub loop-i-preserved : goal.loop-i-preserved
loop-i-preserved c =
    let many = same_length (columns_of c.args.declared.now) c.args.columns.now c.requires.kinds in
    let wide : length (columns_of c.args.declared.now) ≡ length c.args.declared.now = length-map c.args.declared.now column_of in
    let width = c.requires.width in
    step c.args.at.table c.args.at.rec (columns_of c.args.declared.now) (fields_of c.args.row.now) c.args.columns.now c.loop-i.columns c.loop-i.i c.index-columns-i.result c.take.new.self c.field_of.result.now
    c.loop-i.invariant c.requires.kinds (omega arith) (omega arith) c.field_of.ensures c.in_ok-take.ensures.judged c.in_ok-take.ensures.values c.take.ensures.kind

pub returns-clause-judged : goal.returns-clause-judged
returns-clause-judged c =
    let many = same_length (columns_of c.args.declared.now) c.args.columns.now c.requires.kinds in
    (all_taken c.args.at.table c.args.at.rec (columns_of c.args.declared.now) (fields_of c.args.row.now) c.args.columns.now c.loop-i.columns c.loop-i.i c.loop-i.invariant (omega arith)).0

pub returns-clause-values : goal.returns-clause-values
returns-clause-values c =
    let many = same_length (columns_of c.args.declared.now) c.args.columns.now c.requires.kinds in
    (all_taken c.args.at.table c.args.at.rec (columns_of c.args.declared.now) (fields_of c.args.row.now) c.args.columns.now c.loop-i.columns c.loop-i.i c.loop-i.invariant (omega arith)).1
