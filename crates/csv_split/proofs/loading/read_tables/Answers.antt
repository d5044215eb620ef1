use Rattle.std.proofs.Common.{◌≡◌, ◌++◌, ◌∙◌, [], length, map, sym, ap₂, subst, Vec, Global, ℕ}
use Rattle.std.proofs.lemmas.List.{length-map}
use Rattle.ghost_model.specs.core.Database as database
use Rattle.ghost_model.specs.refusals.LoadFaults as faults
use Rattle.ghost_model.specs.core.Values.{Database}
use Rattle.csv_split.proofs.loading.read_tables.Goals as goal

pub returns-clause-database : goal.returns-clause-database
returns-clause-database c =
    let files = map (λ (file : Vec ℕ Global). file.items) c.args.files.now in
    let many : length files ≡ length c.args.files.now = length-map c.args.files.now (λ (file : Vec ℕ Global). file.items) in
    let tree = c.schemas_are_trees.ensures c.args.schema.now c.tables-tables.ensures.declared in
    let are : database.database_of c.args.schema.now files ≡ c.in_ok-tables.tables = sym c.in_ok-tables.ensures.tables in
    let keys : faults.reference_faults c.args.schema.now (database.database_of c.args.schema.now files) ≡ [] = rw are c.in_ok-check_references.ensures.judged in
    let none : faults.load_faults c.args.schema.now files ≡ [] = ap₂ (λ front back. front ++ back) c.in_ok-tables.ensures.judged keys in
    let P : Database → Type 0 = λ tables. database.IsDatabase c.args.schema.now tables in
    subst P are (c.files_spell_a_database.ensures c.args.schema.now files tree (many ∙ c.requires) none)
