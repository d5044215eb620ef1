use Rattle.std.proofs.Common.{◌≡◌, ◌++◌, ◌∷◌, [], ◌∙◌, refl, sym, subst, Some, Result, Err, arith, ℕ, ◌+◌, List, drop}
use Rattle.std.proofs.lemmas.Result.{err_from_is_err_and}
use Rattle.edge_traits.specs.Files.{Files, AreSure}
use Rattle.key_inputs.specs.Openings.{Opening, TablesInput, table_file, tables_from}
use Rattle.key_inputs.specs.Views.{Tells, ReadsTable, name_at}
use Rattle.csv_split.specs.declared.tables.Tables.{Tables}
use Rattle.key_inputs.specs.declared.faults.OpenFault.{OpenFault}
use Rattle.key_inputs.specs.declared.faults.OpenFault.TheVariants as open_fault
use Rattle.ghost_model.specs.core.Schema.{columns_of}
use Rattle.key_inputs.proofs.Telling.{same_fault}
use Rattle.key_inputs.proofs.ReadFiles.{nothing_read, at_table, file_read, all_read}
use Rattle.key_inputs.proofs.opening.open_files.Goals as goal

pub loop-table-init : goal.loop-table-init
loop-table-init g c =
    rw c.new-tables.ensures (nothing_read (g.D.Depot.contents c.args.depot.now) c.args.folder.now c.args.schema.now, record { contents = refl; faults = refl; appends = refl; stays_sure = λ other is. is })

pub returns-in_err-read-clause-told : goal.returns-in_err-read-clause-told
returns-in_err-read-clause-told g c =
    let p = err_from_is_err_and c.from_residual.result c.from_residual.ensures.1 in
    let so_far = c.loop-table.invariant.0 in
    let next = λ (bytes : List ℕ) (files : Files). tables_from files c.args.folder.now c.args.schema.now (c.loop-table.table + 1) (drop (c.loop-table.table + 1) c.args.schema.now) (so_far.read ++ bytes ∷ []) in
    let told = λ (files : Files) (h : g.D.Depot.contents c.args.depot.now ≡ Some files).
    subst (λ (o : Opening TablesInput). Tells o c.in_err-read.field-0.0)
    (sym (so_far.told files h ∙ at_table files c.args.folder.now c.args.schema.now c.loop-table.table so_far.read (omega (arith, c.loop-table-test.true, c.tables-table-end.ensures.count))))
    (c.in_err-read.ensures.told files (c.loop-table.invariant.1.contents ∙ h) (λ bytes. next bytes files)) in
    rw (p.1, p.2) told

pub returns-in_err-read-clause-missing : goal.returns-in_err-read-clause-missing
returns-in_err-read-clause-missing g c =
    let p = err_from_is_err_and c.from_residual.result c.from_residual.ensures.1 in
    let so_far = c.loop-table.invariant.0 in
    let keeps = c.loop-table.invariant.1 in
    let next = λ (files : Files) (bytes : List ℕ). tables_from files c.args.folder.now c.args.schema.now (c.loop-table.table + 1) (drop (c.loop-table.table + 1) c.args.schema.now) (so_far.read ++ bytes ∷ []) in
    let missing = λ (files : Files) (h : g.D.Depot.contents c.args.depot.now ≡ Some files) (sure : AreSure files (g.D.Depot.sure c.args.depot.now)) (is : ◌≡◌ {A = Result Tables OpenFault} (Err c.in_err-read.field-0.0) (Err open_fault.Depot)).
    so_far.told files h
    ∙ at_table files c.args.folder.now c.args.schema.now c.loop-table.table so_far.read (omega (arith, c.loop-table-test.true, c.tables-table-end.ensures.count))
    ∙ c.in_err-read.ensures.missing files (keeps.contents ∙ h) (λ name bytes there. keeps.stays_sure name (sure name bytes there))
    (same_fault c.in_err-read.field-0.0 open_fault.Depot is) (next files) in
    rw (p.1, p.2) missing

pub loop-table-preserved : goal.loop-table-preserved
loop-table-preserved g c =
    let keeps = c.loop-table.invariant.1 in
    let one = subst (λ contents. ReadsTable contents (table_file c.args.folder.now (name_at c.args.schema.now c.loop-table.table)) (columns_of c.args.schema.now c.loop-table.table) c.loop-table.table c.in_ok-read.read) keeps.contents c.in_ok-read.ensures.read in (
      file_read (g.D.Depot.contents c.args.depot.now) c.args.folder.now c.args.schema.now c.loop-table.table c.loop-table.tables c.push.new.self c.in_ok-read.read c.loop-table.invariant.0
          (omega (arith, c.loop-table-test.true, c.tables-table-end.ensures.count)) one c.in-Ok.ensures.tables,
      record {
        contents = c.open_table.ensures.same ∙ keeps.contents;
        faults = c.in_ok-read.ensures.other (λ e. cc) ∙ keeps.faults;
        appends = c.open_table.ensures.appends ∙ keeps.appends;
        stays_sure = λ other is. c.open_table.ensures.stays_sure other (keeps.stays_sure other is);
      },
    )

pub returns-clause-read : goal.returns-clause-read
returns-clause-read g c =
    all_read (g.D.Depot.contents c.args.depot.now) c.args.folder.now c.args.schema.now c.loop-table.table c.loop-table.tables c.loop-table.invariant.0
    (omega (arith, c.loop-table-test.false, c.tables-table-end.ensures.count))
