use Rattle.std.specs.FinMap as map
use Rattle.std.proofs.Common.{◌≡◌, ℕ, List, ◌++◌, [], ◌∙◌, sym, subst, ap₂, Some}
use Rattle.std.proofs.lemmas.Result.{err_from_is_err_and}
use Rattle.ghost_model.specs.core.Database as database
use Rattle.ghost_model.specs.refusals.LoadFaults as faults
use Rattle.ghost_model.specs.core.Schema.{Schema}
use Rattle.ghost_model.specs.core.Values.{Database}
use Rattle.edge_traits.specs.Files.{Files}
use Rattle.key_inputs.specs.Openings.{Opening, TablesInput, tables_opening}
use Rattle.key_inputs.specs.Views.{Tells, rule_in}
use Rattle.key_inputs.specs.Naming.{IsShownBy, IsSpelledIn, OfTable}
use Rattle.key_inputs.proofs.Showing.{one_schema, shown_of_keys, unlined}
use Rattle.key_inputs.proofs.Telling.{keys_are_good, keys_are_told, never_missing, same_fault}
use Rattle.key_inputs.specs.declared.faults.OpenFault.TheVariants as open_fault
use Rattle.key_inputs.proofs.opening.open_tables.Goals as goal

pub returns-in_err-schema-clause-opened : goal.returns-in_err-schema-clause-opened
returns-in_err-schema-clause-opened g c =
    let p = err_from_is_err_and c.from_residual.result c.from_residual.ensures.1 in
    let told = λ (files : Files) (h : g.D.Depot.contents c.args.depot.now ≡ Some files). c.in_err-schema.ensures.opened files h c.args.folder.now in
    rw (p.1, p.2) told

pub returns-in_err-tables-clause-opened : goal.returns-in_err-tables-clause-opened
returns-in_err-tables-clause-opened g c =
    let p = err_from_is_err_and c.from_residual-in_err-tables.result c.from_residual-in_err-tables.ensures.1 in
    let told = λ (files : Files) (h : g.D.Depot.contents c.args.depot.now ≡ Some files).
    subst (λ (o : Opening TablesInput). Tells o c.in_err-tables.field-0.0) (sym (c.in_ok-schema.ensures.opened files h c.args.folder.now))
    (c.in_err-tables.ensures.told files (c.open_schema.ensures.same ∙ h)) in
    rw (p.1, p.2) told

pub returns-in_err-check_keys-clause-opened : goal.returns-in_err-check_keys-clause-opened
returns-in_err-check_keys-clause-opened g c =
    let p = err_from_is_err_and c.from_residual-in_err-check_keys.result c.from_residual-in_err-check_keys.ensures.1 in
    let read = c.in_ok-tables.ensures.read in
    let told = λ (files : Files) (h : g.D.Depot.contents c.args.depot.now ≡ Some files).
    subst (λ (o : Opening TablesInput). Tells o c.in_err-check_keys.field-0.0)
    (sym (c.in_ok-schema.ensures.opened files h c.args.folder.now ∙ read.told files (c.open_schema.ensures.same ∙ h)))
    (keys_are_told c.in_ok-schema.schema read.read c.in_ok-tables.tables (rule_in c.in_err-check_keys.field-0.0) read.spelled c.in_err-check_keys.ensures.judged) in
    rw (p.1, p.2) told

pub returns-clause-opened : goal.returns-clause-opened
returns-clause-opened g c files h =
    let read = c.in_ok-tables.ensures.read in
    record {
      files = read.read;
      spelled = c.in_ok-schema.ensures.opened files h c.args.folder.now ∙ read.told files (c.open_schema.ensures.same ∙ h)
          ∙ keys_are_good c.in_ok-schema.schema read.read c.in_ok-tables.tables read.spelled c.in_ok-check_keys.ensures.judged;
      tables = read.spelled;
    }

pub returns-clause-database : goal.returns-clause-database
returns-clause-database g c =
    let read = c.in_ok-tables.ensures.read in
    let tree = c.schemas_are_trees.ensures c.in_ok-schema.schema c.tables-tables.ensures.declared in
    let are : database.database_of c.in_ok-schema.schema read.read ≡ c.in_ok-tables.tables = sym read.spelled in
    let keys : faults.reference_faults c.in_ok-schema.schema (database.database_of c.in_ok-schema.schema read.read) ≡ [] = rw are c.in_ok-check_keys.ensures.judged in
    let none : faults.load_faults c.in_ok-schema.schema read.read ≡ [] = ap₂ (λ front back. front ++ back) read.clean keys in
    let P : Database → Type 0 = λ tables. database.IsDatabase c.in_ok-schema.schema tables in
    subst P are (c.files_spell_a_database.ensures c.in_ok-schema.schema read.read tree read.many none)

pub returns-in_err-tables-clause-names : goal.returns-in_err-tables-clause-names
returns-in_err-tables-clause-names g c =
    let p = err_from_is_err_and c.from_residual-in_err-tables.result c.from_residual-in_err-tables.ensures.1 in
    let told = λ (files : Files) (h : g.D.Depot.contents c.args.depot.now ≡ Some files) (schema : Schema) (spelled : IsSpelledIn files c.args.schema.now schema).
    subst (λ (one : Schema). OfTable (IsShownBy files c.args.folder.now one) c.in_err-tables.field-0.0)
    (one_schema files c.args.schema.now c.in_ok-schema.schema schema (c.in_ok-schema.ensures.spelled files h) spelled)
    (c.in_err-tables.ensures.names files (c.open_schema.ensures.same ∙ h)) in
    rw (p.1, p.2) told

pub returns-in_err-check_keys-clause-names : goal.returns-in_err-check_keys-clause-names
returns-in_err-check_keys-clause-names g c =
    let p = err_from_is_err_and c.from_residual-in_err-check_keys.result c.from_residual-in_err-check_keys.ensures.1 in
    let read = c.in_ok-tables.ensures.read in
    let told = λ (files : Files) (h : g.D.Depot.contents c.args.depot.now ≡ Some files) (schema : Schema) (spelled : IsSpelledIn files c.args.schema.now schema).
    subst (λ (one : Schema). OfTable (IsShownBy files c.args.folder.now one) c.in_err-check_keys.field-0.0)
    (one_schema files c.args.schema.now c.in_ok-schema.schema schema (c.in_ok-schema.ensures.spelled files h) spelled)
    (shown_of_keys files c.args.folder.now c.in_ok-schema.schema read.read c.in_ok-tables.tables c.in_err-check_keys.field-0.0
    (read.files_read files (c.open_schema.ensures.same ∙ h)) read.spelled c.in_err-check_keys.ensures.judged
    c.in_err-check_keys.ensures.names c.in_err-check_keys.ensures.keys
    (unlined files c.args.folder.now c.in_ok-schema.schema c.in_err-check_keys.field-0.0 c.in_err-check_keys.ensures.line)) in
    rw (p.1, p.2) told

pub returns-in_err-check_keys-clause-missing : goal.returns-in_err-check_keys-clause-missing
returns-in_err-check_keys-clause-missing g c files h sure is =
    let p = err_from_is_err_and c.from_residual-in_err-check_keys.result c.from_residual-in_err-check_keys.ensures.1 in
    let failed = same_fault p.0 open_fault.Depot (sym p.1 ∙ is) in
    never_missing (tables_opening files c.args.schema.now c.args.folder.now) (c.in_err-check_keys.ensures.not_depot (rw (← p.2) failed))
