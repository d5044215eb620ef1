-- The tables' files while they are read one after another.
use Rattle.std.proofs.Common.{◌≡◌, ℕ, zero, suc, ◌+◌, ◌<◌, ◌≤◌, List, [], ◌∷◌, ◌++◌, length, map as each, drop, slice_get, Option, Some, refl, sym, ap, ◌∙◌, subst, append_assoc, append-nil, arith}
use Rattle.std.proofs.lemmas.List.{map-append}
use Rattle.std.specs.FinMap as map
use Rattle.ghost_model.specs.core.Schema.{Schema, Table, columns_or_none, columns_of}
use Rattle.ghost_model.specs.core.Values.{Rows, Database}
use Rattle.ghost_model.specs.refusals.LoadFaults.{file_faults, files_faults}
use Rattle.ghost_model.specs.core.Database.{database_of, rows_spelled}
use Rattle.edge_traits.specs.Files.{Files, HasFile}
use Rattle.key_inputs.specs.Openings.{on_table, unless_broken, table_file, tables_from}
use Rattle.key_inputs.specs.Views.{ReadsTable, ReadsFiles, file_for, name_or_none, name_at, opening_at}

-- the files of the tables before a place were read, and keep every rule
pub record ReadSoFar (contents : Option Files) (folder : List ℕ) (schema : Schema) (i : ℕ) (tables : Database) : Type 0 where
  pub read : List (List ℕ)
  pub many : length read ≡ i
  pub within : i ≤ length schema
  pub faults : (later : List (List ℕ)) → files_faults 0 schema (read ++ later) ≡ files_faults i (drop i schema) later
  pub spelled : (later : List (List ℕ)) → database_of schema (read ++ later) ≡ tables ++ database_of (drop i schema) later
  pub told : (files : Files) → contents ≡ Some files → tables_from files folder schema 0 schema [] ≡ tables_from files folder schema i (drop i schema) read
  pub found : (files : Files) → contents ≡ Some files → each (file_for files folder) schema ≡ each Some read ++ each (file_for files folder) (drop i schema)

-- what the reading keeps of the depot
pub record Keeps (contents_before contents_now : Option Files) (faults_before faults_now appends_before appends_now : ℕ) (sure_before sure_now : List ℕ → Type 0) : Type 0 where
  pub contents : contents_now ≡ contents_before
  pub faults : faults_now ≡ faults_before
  pub appends : appends_now ≡ appends_before
  pub stays_sure : (other : List ℕ) → sure_before other → sure_now other

-- the table at a place, and those after it
table_there : (schema : Schema) (i : ℕ) → i < length schema
    → (declared : Table) × (slice_get schema i ≡ Some declared) × (drop i schema ≡ declared ∷ drop (i + 1) schema)
table_there [] i within = absurd (omega (arith, within))
table_there (declared ∷ schema) zero within = (declared, refl, refl)
table_there (declared ∷ schema) (suc i) within =
    let later = table_there schema i (omega (arith, within)) in
    let next : suc i + 1 ≡ suc (i + 1) = omega arith in
    (later.0, later.1, later.2 ∙ ap (λ n. later.0 ∷ drop n (declared ∷ schema)) (sym next))

pub nothing_read : (contents : Option Files) (folder : List ℕ) (schema : Schema) → ReadSoFar contents folder schema 0 []
nothing_read contents folder schema = record {
  read = [];
  many = refl;
  within = omega arith;
  faults = λ later. refl;
  spelled = λ later. refl;
  told = λ files h. refl;
  found = λ files h. refl;
}

-- the opening at a place
pub at_table : (files : Files) (folder : List ℕ) (schema : Schema) (i : ℕ) (read : List (List ℕ)) → i < length schema
    → tables_from files folder schema i (drop i schema) read
    ≡ opening_at files folder schema i (λ bytes. tables_from files folder schema (i + 1) (drop (i + 1) schema) (read ++ bytes ∷ []))
unfolding tables_from
at_table files folder schema i read within =
    let t = table_there schema i within in
    ap (λ left. tables_from files folder schema i left read) t.2
    ∙ ap (λ (o : Option Table). on_table (λ bytes. tables_from files folder schema (i + 1) (drop (i + 1) schema) (read ++ bytes ∷ [])) (file_faults i (columns_or_none o)) (map.get files (table_file folder (name_or_none o)))) (sym t.1)

-- one more file was read
pub file_read : (contents : Option Files) (folder : List ℕ) (schema : Schema) (i : ℕ) (tables now : Database) (rows : Rows)
    → ReadSoFar contents folder schema i tables → i < length schema
    → ReadsTable contents (table_file folder (name_at schema i)) (columns_of schema i) i rows
    → now ≡ tables ++ rows ∷ []
    → ReadSoFar contents folder schema (i + 1) now
unfolding files_faults
file_read contents folder schema i tables now rows so_far within one pushed =
    let t = table_there schema i within in
    let columns : columns_of schema i ≡ t.0.columns = ap columns_or_none t.1 in
    let clean : file_faults i t.0.columns one.file ≡ [] = ap (λ c. file_faults i c one.file) (sym columns) ∙ one.clean in
    let left = λ (files : Files). each (file_for files folder) (drop (i + 1) schema) in
    let spelled : rows ≡ rows_spelled t.0.columns one.file = one.spelled ∙ ap (λ c. rows_spelled c one.file) columns in
    record {
      read = so_far.read ++ one.file ∷ [];
      many = let n = so_far.many in let m = length-snoc so_far.read one.file in m ∙ ap (λ k. k + 1) n;
      within = omega (arith, within);
      faults = λ later.
          ap (files_faults 0 schema) (append_assoc so_far.read (one.file ∷ []) later)
          ∙ so_far.faults (one.file ∷ later)
          ∙ ap (λ left. files_faults i left (one.file ∷ later)) t.2
          ∙ ap (λ faults. faults ++ files_faults (i + 1) (drop (i + 1) schema) later) clean;
      spelled = λ later.
          ap (database_of schema) (append_assoc so_far.read (one.file ∷ []) later)
          ∙ so_far.spelled (one.file ∷ later)
          ∙ ap (λ left. tables ++ database_of left (one.file ∷ later)) t.2
          ∙ ap (λ (r : Rows). tables ++ (r ∷ database_of (drop (i + 1) schema) later)) (sym spelled)
          ∙ sym (append_assoc tables (rows ∷ []) (database_of (drop (i + 1) schema) later))
          ∙ ap (λ front. front ++ database_of (drop (i + 1) schema) later) (sym pushed);
      told = λ files h.
          let found : HasFile (Some files) (table_file folder (name_at schema i)) one.file = subst (λ c. HasFile c (table_file folder (name_at schema i)) one.file) h one.read in
          so_far.told files h ∙ at_table files folder schema i so_far.read within
          ∙ ap (on_table (λ bytes. tables_from files folder schema (i + 1) (drop (i + 1) schema) (so_far.read ++ bytes ∷ [])) (file_faults i (columns_of schema i))) found
          ∙ ap (unless_broken (tables_from files folder schema (i + 1) (drop (i + 1) schema) (so_far.read ++ one.file ∷ []))) one.clean;
      found = λ files h.
          let there : HasFile (Some files) (table_file folder (name_at schema i)) one.file = subst (λ c. HasFile c (table_file folder (name_at schema i)) one.file) h one.read in
          let named : file_for files folder t.0 ≡ Some one.file = ap (λ (o : Option Table). map.get files (table_file folder (name_or_none o))) (sym t.1) ∙ there in
          so_far.found files h
          ∙ ap (λ (later : List Table). each Some so_far.read ++ each (file_for files folder) later) t.2
          ∙ ap (λ (file : Option (List ℕ)). each Some so_far.read ++ (file ∷ left files)) named
          ∙ sym (append_assoc (each Some so_far.read) (Some one.file ∷ []) (left files))
          ∙ ap (λ front. front ++ left files) (sym (map-append Some so_far.read (one.file ∷ [])));
    }
  where
    length-snoc : (xs : List (List ℕ)) (x : List ℕ) → length (xs ++ x ∷ []) ≡ length xs + 1
    length-snoc [] x = refl
    length-snoc (y ∷ xs) x = (let later = length-snoc xs x in omega (arith, later))

drop_all : (schema : Schema) (i : ℕ) → length schema ≤ i → drop i schema ≡ []
drop_all [] zero h = refl
drop_all [] (suc i) h = refl
drop_all (declared ∷ schema) zero h = absurd (omega (arith, h))
drop_all (declared ∷ schema) (suc i) h = drop_all schema i (omega (arith, h))

-- all files were read
pub all_read : (contents : Option Files) (folder : List ℕ) (schema : Schema) (i : ℕ) (tables : Database)
    → ReadSoFar contents folder schema i tables → length schema ≤ i → ReadsFiles contents folder schema tables
unfolding files_faults tables_from
all_read contents folder schema i tables so_far past =
    let none : drop i schema ≡ [] = drop_all schema i past in
    let end : i ≡ length schema = omega (arith, past, so_far.within) in
    record {
      read = so_far.read;
      many = so_far.many ∙ end;
      clean = ap (files_faults 0 schema) (sym (append-nil so_far.read)) ∙ so_far.faults [] ∙ ap (λ left. files_faults i left []) none;
      spelled = append_nil_sym tables ∙ ap (λ left. tables ++ database_of left []) (sym none) ∙ sym (so_far.spelled []) ∙ ap (database_of schema) (append-nil so_far.read);
      told = λ files h. so_far.told files h ∙ ap (λ left. tables_from files folder schema i left so_far.read) none;
      files_read = λ files h.
          so_far.found files h ∙ ap (λ (left : List Table). each Some so_far.read ++ each (file_for files folder) left) none
          ∙ append-nil (each Some so_far.read);
    }
  where
    append_nil_sym : (tables : Database) → tables ≡ tables ++ []
    append_nil_sym tables = sym (append-nil tables)
