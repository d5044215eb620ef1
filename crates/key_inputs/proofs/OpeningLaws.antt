-- The files of tables, read one after another, are answered by the first load fault of all of them.
use Rattle.std.proofs.Common.{◌≡◌, ℕ, ◌+◌, List, [], ◌∷◌, ◌++◌, map as each, Some, refl, sym, ap, ◌∙◌, append_assoc, append-nil}
use Rattle.ghost_model.specs.core.Schema.{Schema, Table, first_of}
use Rattle.ghost_model.specs.core.Database.{database_of}
use Rattle.ghost_model.specs.refusals.LoadFaults.{LoadFault, file_faults, files_faults, reference_faults}
use Rattle.edge_traits.specs.Files.{Files}
use Rattle.key_inputs.specs.Openings.{Spelled, on_table, unless_broken, tables_from}
use Rattle.key_inputs.specs.OpeningLaws.{opening_by}
use Rattle.key_inputs.specs.Views.{file_for}

no_file_left : (schema : Schema) (read : List (List ℕ)) (faults : List LoadFault)
    → unless_broken (Spelled (record { schema = schema; files = read })) faults ≡ opening_by schema read (first_of faults)
no_file_left schema read [] = refl
no_file_left schema read (fault ∷ faults) = refl

after_file : (schema : Schema) (read : List (List ℕ)) (faults later : List LoadFault)
    → unless_broken (opening_by schema read (first_of later)) faults ≡ opening_by schema read (first_of (faults ++ later))
after_file schema read [] later = refl
after_file schema read (fault ∷ faults) later = refl

-- from a table on, the files before it being read
opened_from : (files : Files) (folder : List ℕ) (schema : Schema) (table : ℕ) (left : List Table) (before later : List (List ℕ))
    → each (file_for files folder) left ≡ each Some later
    → tables_from files folder schema table left before
    ≡ opening_by schema (before ++ later) (first_of (files_faults table left later ++ reference_faults schema (database_of schema (before ++ later))))
unfolding tables_from files_faults
opened_from files folder schema table [] before [] are =
    no_file_left schema before (reference_faults schema (database_of schema before))
    ∙ ap (λ read. opening_by schema read (first_of (reference_faults schema (database_of schema read)))) (sym (append-nil before))
opened_from files folder schema table [] before (file ∷ later) are = absurd (cc (are))
opened_from files folder schema table (declared ∷ left) before [] are = absurd (cc (are))
opened_from files folder schema table (declared ∷ left) before (file ∷ later) are =
    let own = file_faults table declared.columns file in
    let others = files_faults (table + 1) left later in
    let references = reference_faults schema (database_of schema (before ++ file ∷ later)) in
    let first : file_for files folder declared ≡ Some file = cc (are) in
    let rest : each (file_for files folder) left ≡ each Some later = cc (are) in
    let all : (before ++ file ∷ []) ++ later ≡ before ++ file ∷ later = append_assoc before (file ∷ []) later in
    let next = opened_from files folder schema (table + 1) left (before ++ file ∷ []) later rest
    ∙ ap (λ read. opening_by schema read (first_of (others ++ reference_faults schema (database_of schema read)))) all in
    ap (on_table (λ bytes. tables_from files folder schema (table + 1) left (before ++ bytes ∷ [])) (file_faults table declared.columns)) first
    ∙ (ap (λ opening. unless_broken opening own) next
    ∙ (after_file schema (before ++ file ∷ later) own (others ++ references)
    ∙ ap (λ faults. opening_by schema (before ++ file ∷ later) (first_of faults)) (sym (append_assoc own others references))))

pub opened : (files : Files) (folder : List ℕ) (schema : Schema) (read : List (List ℕ)) → each (file_for files folder) schema ≡ each Some read
    → tables_from files folder schema 0 schema []
    ≡ opening_by schema read (first_of (files_faults 0 schema read ++ reference_faults schema (database_of schema read)))
opened files folder schema read are = opened_from files folder schema 0 schema [] read are
