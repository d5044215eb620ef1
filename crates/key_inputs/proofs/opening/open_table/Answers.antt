use Rattle.std.proofs.Common.{◌≡◌, true, [], ◌∙◌, subst}
use Rattle.ghost_model.specs.core.Database.{records_of}
use Rattle.ghost_model.specs.core.Schema.{columns_of}
use Rattle.ghost_model.specs.refusals.LoadFaults.{file_faults}
use Rattle.ghost_model.specs.laws.LoadLaws.{TellsFirst}
use Rattle.csv_split.specs.Faults.{told}
use Rattle.edge_traits.specs.Files.{HasFile}
use Rattle.key_inputs.specs.Openings.{table_file}
use Rattle.key_inputs.specs.Naming.{OfField, OfRecord, OfTable, ShowsField, TellsLine, tells_empty}
use Rattle.key_inputs.specs.Views.{name_at}
use Rattle.key_inputs.proofs.Showing.{shown_of_file}
use Rattle.key_inputs.proofs.opening.open_table.Goals as goal

pub returns-clause-names : goal.returns-clause-names
returns-clause-names g c files h =
    let file = c.in-Ok-read_file.file.items in
    let name = table_file c.args.folder.now (name_at c.args.schema.now c.args.table) in
    let named = c.as_str.ensures.value ∙ c.in-Ok.ensures.name in
    let read = subst (λ one. HasFile (g.D.Depot.contents c.args.depot.now) one file) named c.in-Ok-read_file.ensures.file in
    let found = subst (λ contents. HasFile contents name file) h read in
    shown_of_file files c.args.folder.now c.args.schema.now c.args.table file (told c.in-Err-read_table.fault) c.fault_of_file.result found
    (subst (λ bytes. TellsFirst (told c.in-Err-read_table.fault) (file_faults c.args.table (columns_of c.args.schema.now c.args.table) bytes)) c.deref.ensures.value c.in-Err-read_table.ensures.judged)
    c.fault_of_file.ensures.rule c.fault_of_file.ensures.names
    (subst (λ bytes. OfTable (OfField (ShowsField bytes)) c.fault_of_file.result) c.deref-in-Err-read_table.ensures.value c.fault_of_file.ensures.value)
    (subst (λ bytes. OfTable (OfRecord (TellsLine bytes)) c.fault_of_file.result) c.deref-in-Err-read_table.ensures.value c.fault_of_file.ensures.line)
    (subst (λ bytes. tells_empty c.fault_of_file.result ≡ true → records_of bytes ≡ []) c.deref-in-Err-read_table.ensures.value c.fault_of_file.ensures.empty)
