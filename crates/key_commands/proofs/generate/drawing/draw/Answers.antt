use Rattle.std.proofs.Common.{refl, sym, subst}
use Rattle.ghost_model.specs.core.Database.{IsDatabase}
use Rattle.ghost_model.specs.core.Generated.{doctor_records, patient_records, visit_records, file_of, files, schema_text}
use Rattle.ghost_model.specs.core.Schema.{Schema}
use Rattle.ghost_model.specs.examples.Clinic.{clinic_schema}
use Rattle.key_commands.proofs.generate_lemmas.GoodFiles.{keep_rules, each_of_three, keeps, tables_are}
use Rattle.key_commands.proofs.generate.drawing.draw.Goals as goal

pub add_table-requires-clause-good : goal.add_table-requires-clause-good
add_table-requires-clause-good c =
    let seed = c.args.seed in
    let visits = c.args.visits in
    let good = keep_rules seed visits (c.files_are_good.ensures.good seed visits c.requires.few) in
    let each = each_of_three _ _ _ (file_of (doctor_records seed visits)) (file_of (patient_records seed visits)) (file_of (visit_records seed visits)) c.in_ok-doctors.ensures.files in
    keeps c.clinic-schema.result 0 c.in_ok-doctors.field-0.doctors.items (file_of (doctor_records seed visits)) c.clinic-schema.ensures.schema each.0 good.doctors

pub add_table-requires-2-clause-good : goal.add_table-requires-2-clause-good
add_table-requires-2-clause-good c =
    let seed = c.args.seed in
    let visits = c.args.visits in
    let good = keep_rules seed visits (c.files_are_good.ensures.good seed visits c.requires.few) in
    let each = each_of_three _ _ _ (file_of (doctor_records seed visits)) (file_of (patient_records seed visits)) (file_of (visit_records seed visits)) c.in_ok-doctors.ensures.files in
    keeps c.clinic-schema.result 1 c.in_ok-doctors.field-0.patients.items (file_of (patient_records seed visits)) c.clinic-schema.ensures.schema each.1 good.patients

pub add_table-requires-3-clause-good : goal.add_table-requires-3-clause-good
add_table-requires-3-clause-good c =
    let seed = c.args.seed in
    let visits = c.args.visits in
    let good = keep_rules seed visits (c.files_are_good.ensures.good seed visits c.requires.few) in
    let each = each_of_three _ _ _ (file_of (doctor_records seed visits)) (file_of (patient_records seed visits)) (file_of (visit_records seed visits)) c.in_ok-doctors.ensures.files in
    keeps c.clinic-schema.result 2 c.in_ok-doctors.field-0.visits.items (file_of (visit_records seed visits)) c.clinic-schema.ensures.schema each.2 good.visits_file

pub returns-clause-database : goal.returns-clause-database
returns-clause-database c =
    let seed = c.args.seed in
    let visits = c.args.visits in
    let each = each_of_three _ _ _ (file_of (doctor_records seed visits)) (file_of (patient_records seed visits)) (file_of (visit_records seed visits)) c.in_ok-doctors.ensures.files in
    let tree = c.schemas_are_trees.ensures clinic_schema (record { text = schema_text; means = c.generated_files.ensures.schema }) in
    let are = c.files_spell_a_database.ensures clinic_schema (files seed visits) tree refl (c.files_are_good.ensures.good seed visits c.requires.few).no_fault in
    let same = tables_are c.clinic-schema.result _ _ _ (file_of (doctor_records seed visits)) (file_of (patient_records seed visits)) (file_of (visit_records seed visits)) _ _ _ _ c.clinic-schema.ensures.schema each
    c.new-tables.ensures c.in_ok-add_table.ensures.tables c.in_ok-add_table-2.ensures.tables c.in_ok-add_table-3.ensures.tables in
    subst (λ (schema : Schema). IsDatabase schema c.add_table-3.new.tables) (sym c.clinic-schema.ensures.schema) (subst (IsDatabase clinic_schema) (sym same) are)
