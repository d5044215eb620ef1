-- What an error shows of a table's file, by where its fault stands.
use Rattle.std.proofs.Common.{◌≡◌, ℕ, true, List, [], ◌∷◌, Option, Some, None, refl, sym, ap, ◌∙◌, subst, map as each}
use Rattle.std.specs.FinMap as map
use Rattle.ghost_model.specs.core.Schema.{Schema, columns_of}
use Rattle.ghost_model.specs.readings.SchemaReading.{schema_reading}
use Rattle.ghost_model.specs.laws.LoadLaws as load_laws
use Rattle.ghost_model.specs.refusals.LoadFaults as load
use Rattle.ghost_model.specs.core.Values.{Database}
use Rattle.ghost_model.specs.core.Database.{database_of, records_of}
use Rattle.edge_traits.specs.Files.{Files}
use Rattle.key_inputs.specs.Openings.{TableRule, table_file}
use Rattle.key_inputs.specs.Rules.{table_rule}
use Rattle.key_inputs.specs.Views.{TellsRule, AreFiles, rule_in, rule_or, name_at}
use Rattle.key_inputs.specs.Naming.{HasNoLine, IsIn, IsLineOf, IsNamedBy, IsNamedIn, IsShownBy, IsSpelledIn, OfTable, OfField, OfKey, OfRecord, ShowsField, ShowsKey, TellsLine, tells_empty}
use Rattle.csv_split.specs.declared.faults.LoadFault.{LoadFault}
use Rattle.csv_split.specs.declared.faults.Place.{Place}
use Rattle.key_inputs.specs.declared.shown.Shown.{Shown}
use Rattle.key_inputs.specs.declared.broken_table.BrokenTable.{BrokenTable}
use Rattle.key_inputs.specs.declared.broken_table.BrokenTable.TheVariants as broken
use Rattle.key_inputs.specs.declared.broken_table.FieldNamed.{FieldNamed}
use Rattle.key_inputs.specs.declared.faults.InputFault.TheVariants as fault
use Rattle.key_inputs.specs.declared.faults.OpenFault.{OpenFault}
use Rattle.key_inputs.specs.declared.faults.OpenFault.TheVariants as open_fault
use Rattle.key_inputs.proofs.Placing.{IsOfFile, IsOfKey, of_file, of_keys}

-- a file spells one schema
pub one_schema : (files : Files) (name : List ℕ) (one other : Schema) → IsSpelledIn files name one → IsSpelledIn files name other → one ≡ other
one_schema files name one other a b =
    let texts : Some a.text ≡ Some b.text = sym a.file ∙ b.file in
    let same : a.text ≡ b.text = cc (texts) in
    let spelled = sym a.spelled ∙ ap schema_reading same ∙ b.spelled in
    cc (spelled)

value_of_file : (files : Files) (folder : List ℕ) (schema : Schema) (table : ℕ) (file : List ℕ) (field : FieldNamed) (value : Shown)
    → map.get files (table_file folder (name_at schema table)) ≡ Some file → field.at.table ≡ table → ShowsField file field.at value
    → (other : List ℕ) → map.get files (table_file folder (name_at schema field.at.table)) ≡ Some other → ShowsField other field.at value
value_of_file files folder schema table file field value found is shows other here =
    let both : Some file ≡ Some other = sym found ∙ ap (λ t. map.get files (table_file folder (name_at schema t))) (sym is) ∙ here in
    let same : file ≡ other = cc (both) in
    subst (λ f. ShowsField f field.at value) same shows

line_of_file : (files : Files) (folder : List ℕ) (schema : Schema) (table : ℕ) (file : List ℕ) (at : Place) (line : Option ℕ)
    → map.get files (table_file folder (name_at schema table)) ≡ Some file → at.table ≡ table → TellsLine file at line
    → (other : List ℕ) → map.get files (table_file folder (name_at schema at.table)) ≡ Some other → TellsLine other at line
line_of_file files folder schema table file at line found is tells other here =
    let both : Some file ≡ Some other = sym found ∙ ap (λ t. map.get files (table_file folder (name_at schema t))) (sym is) ∙ here in
    let same : file ≡ other = cc (both) in
    subst (λ f. TellsLine f at line) same tells

empty_file : (files : Files) (folder : List ℕ) (schema : Schema) (table : ℕ) (file : List ℕ) (at : Place)
    → map.get files (table_file folder (name_at schema table)) ≡ Some file → at.table ≡ table → records_of file ≡ []
    → (other : List ℕ) → map.get files (table_file folder (name_at schema at.table)) ≡ Some other → records_of other ≡ []
empty_file files folder schema table file at found is none other here =
    let both : Some file ≡ Some other = sym found ∙ ap (λ t. map.get files (table_file folder (name_at schema t))) (sym is) ∙ here in
    let same : file ≡ other = cc (both) in
    ap records_of (sym same) ∙ none

broken_in_file : (files : Files) (folder : List ℕ) (schema : Schema) (table : ℕ) (file : List ℕ) (told : BrokenTable)
    → map.get files (table_file folder (name_at schema table)) ≡ Some file → IsOfFile table (table_rule told)
    → IsNamedBy schema told → OfField (ShowsField file) told → OfRecord (TellsLine file) told
    → (tells_empty (open_fault.Input (fault.Table told)) ≡ true → records_of file ≡ []) → IsShownBy files folder schema told
broken_in_file files folder schema table file (broken.FileLimit named) found of names shows lines none = record { names = names; value = tt; line = tt; empty = tt; key = tt }
broken_in_file files folder schema table file (broken.Header named) found of names shows lines none =
    record { names = names; value = tt; line = line_of_file files folder schema table file named.at named.line found of lines; empty = tt; key = tt }
broken_in_file files folder schema table file (broken.Empty named) found of names shows lines none =
    record { names = names; value = tt; line = tt; empty = empty_file files folder schema table file named.at found of (none refl); key = tt }
broken_in_file files folder schema table file (broken.RowLimit named) found of names shows lines none =
    record { names = names; value = tt; line = line_of_file files folder schema table file named.at named.line found of lines; empty = tt; key = tt }
broken_in_file files folder schema table file (broken.FieldCount named) found of names shows lines none =
    record { names = names; value = tt; line = line_of_file files folder schema table file named.at named.line found of lines; empty = tt; key = tt }
broken_in_file files folder schema table file (broken.BadId field value) found of names shows lines none =
    record {
      names = names;
      value = value_of_file files folder schema table file field value found of shows;
      line = line_of_file files folder schema table file field.at field.line found of lines;
      empty = tt;
      key = tt;
    }
broken_in_file files folder schema table file (broken.BadInt field value) found of names shows lines none =
    record {
      names = names;
      value = value_of_file files folder schema table file field value found of shows;
      line = line_of_file files folder schema table file field.at field.line found of lines;
      empty = tt;
      key = tt;
    }
broken_in_file files folder schema table file (broken.BadChars field value) found of names shows lines none =
    record {
      names = names;
      value = value_of_file files folder schema table file field value found of shows;
      line = line_of_file files folder schema table file field.at field.line found of lines;
      empty = tt;
      key = tt;
    }
broken_in_file files folder schema table file (broken.BadReference field child value) found of names shows lines none = absurd of

rule_first : (told : Option load.LoadFault) (rule : load.LoadFault) (faults : List load.LoadFault) → load_laws.TellsFirst told faults
    → Some (TableRule rule) ≡ rule_or told → load_laws.IsFirst rule faults
rule_first None rule faults first is = absurd (cc (is))
rule_first (Some other) rule faults first is =
    let same : other ≡ rule = cc (is) in subst (λ one. load_laws.IsFirst one faults) same first

-- the error of a table's file
pub shown_of_file : (files : Files) (folder : List ℕ) (schema : Schema) (table : ℕ) (file : List ℕ) (told : Option load.LoadFault) (error : OpenFault)
    → map.get files (table_file folder (name_at schema table)) ≡ Some file
    → load_laws.TellsFirst told (load.file_faults table (columns_of schema table) file) → rule_in error ≡ rule_or told
    → OfTable (IsNamedBy schema) error → OfTable (OfField (ShowsField file)) error → OfTable (OfRecord (TellsLine file)) error
    → (tells_empty error ≡ true → records_of file ≡ [])
    → OfTable (IsShownBy files folder schema) error
shown_of_file files folder schema table file told open_fault.NoMemory found first rule names shows lines none = tt
shown_of_file files folder schema table file told open_fault.Depot found first rule names shows lines none = tt
shown_of_file files folder schema table file told (open_fault.Input fault.SchemaBytes) found first rule names shows lines none = tt
shown_of_file files folder schema table file told (open_fault.Input (fault.Schema other)) found first rule names shows lines none = tt
shown_of_file files folder schema table file told (open_fault.Input (fault.Table one)) found first rule names shows lines none =
    broken_in_file files folder schema table file one found
    (of_file table (columns_of schema table) file (table_rule one) (rule_first told (table_rule one) (load.file_faults table (columns_of schema table) file) first rule))
    names shows lines none
shown_of_file files folder schema table file told (open_fault.Input fault.ScriptBytes) found first rule names shows lines none = tt
shown_of_file files folder schema table file told (open_fault.Input fault.ScriptTexts) found first rule names shows lines none = tt

same_files : (one other : List (List ℕ)) → each Some one ≡ each Some other → one ≡ other
same_files [] [] h = refl
same_files [] (y ∷ other) h = absurd (cc (h))
same_files (x ∷ one) [] h = absurd (cc (h))
same_files (x ∷ one) (y ∷ other) h =
    let first : x ≡ y = cc (h) in
    let later : each Some one ≡ each Some other = cc (h) in
    let rest = same_files one other later in
    cc (first, rest)

broken_key : (files : Files) (folder : List ℕ) (schema : Schema) (read : List (List ℕ)) (tables : Database) (told : BrokenTable)
    → AreFiles files folder schema read → tables ≡ database_of schema read → IsOfKey (table_rule told)
    → IsNamedBy schema told → OfKey (ShowsKey tables) told → OfRecord (IsLineOf files folder schema) told → IsShownBy files folder schema told
broken_key files folder schema read tables (broken.FileLimit named) are is of names shows lines = absurd of
broken_key files folder schema read tables (broken.Header named) are is of names shows lines = absurd of
broken_key files folder schema read tables (broken.Empty named) are is of names shows lines = absurd of
broken_key files folder schema read tables (broken.RowLimit named) are is of names shows lines = absurd of
broken_key files folder schema read tables (broken.FieldCount named) are is of names shows lines = absurd of
broken_key files folder schema read tables (broken.BadId field value) are is of names shows lines = absurd of
broken_key files folder schema read tables (broken.BadInt field value) are is of names shows lines = absurd of
broken_key files folder schema read tables (broken.BadChars field value) are is of names shows lines = absurd of
broken_key files folder schema read tables (broken.BadReference field child value) are is of names shows lines = record {
  names = names;
  value = tt;
  line = lines;
  empty = tt;
  key = λ other there.
      let same : read ≡ other = same_files read other (sym are ∙ there) in
      subst (λ (database : Database). ShowsKey database field.at value) (is ∙ ap (database_of schema) same) shows;
}

-- the error of foreign keys
pub shown_of_keys : (files : Files) (folder : List ℕ) (schema : Schema) (read : List (List ℕ)) (tables : Database) (error : OpenFault)
    → AreFiles files folder schema read → tables ≡ database_of schema read → TellsRule (rule_in error) (load.reference_faults schema tables)
    → OfTable (IsNamedBy schema) error → OfTable (OfKey (ShowsKey tables)) error → OfTable (OfRecord (IsLineOf files folder schema)) error
    → OfTable (IsShownBy files folder schema) error
shown_of_keys files folder schema read tables open_fault.NoMemory are is rule names shows lines = tt
shown_of_keys files folder schema read tables open_fault.Depot are is rule names shows lines = tt
shown_of_keys files folder schema read tables (open_fault.Input fault.SchemaBytes) are is rule names shows lines = tt
shown_of_keys files folder schema read tables (open_fault.Input (fault.Schema other)) are is rule names shows lines = tt
shown_of_keys files folder schema read tables (open_fault.Input (fault.Table one)) are is rule names shows lines =
    let same : rule.0 ≡ table_rule one = (let h = rule.1 in cc (h)) in
    broken_key files folder schema read tables one are is
    (subst IsOfKey same (of_keys schema tables rule.0 rule.2)) names shows lines
shown_of_keys files folder schema read tables (open_fault.Input fault.ScriptBytes) are is rule names shows lines = tt
shown_of_keys files folder schema read tables (open_fault.Input fault.ScriptTexts) are is rule names shows lines = tt

-- where no line is told none is wrong
no_line_of : (files : Files) (folder : List ℕ) (schema : Schema) (at : Place) (line : Option ℕ) → line ≡ None → IsLineOf files folder schema at line
no_line_of files folder schema at line is = λ file there. subst (λ one. TellsLine file at one) (sym is) tt

broken_unlined : (files : Files) (folder : List ℕ) (schema : Schema) (told : BrokenTable) → HasNoLine told → OfRecord (IsLineOf files folder schema) told
broken_unlined files folder schema (broken.FileLimit named) none = tt
broken_unlined files folder schema (broken.Header named) none = no_line_of files folder schema named.at named.line none
broken_unlined files folder schema (broken.Empty named) none = tt
broken_unlined files folder schema (broken.RowLimit named) none = no_line_of files folder schema named.at named.line none
broken_unlined files folder schema (broken.FieldCount named) none = no_line_of files folder schema named.at named.line none
broken_unlined files folder schema (broken.BadId field value) none = no_line_of files folder schema field.at field.line none
broken_unlined files folder schema (broken.BadInt field value) none = no_line_of files folder schema field.at field.line none
broken_unlined files folder schema (broken.BadChars field value) none = no_line_of files folder schema field.at field.line none
broken_unlined files folder schema (broken.BadReference field child value) none = no_line_of files folder schema field.at field.line none

pub unlined : (files : Files) (folder : List ℕ) (schema : Schema) (error : OpenFault) → OfTable HasNoLine error → OfTable (OfRecord (IsLineOf files folder schema)) error
unlined files folder schema open_fault.NoMemory none = tt
unlined files folder schema open_fault.Depot none = tt
unlined files folder schema (open_fault.Input fault.SchemaBytes) none = tt
unlined files folder schema (open_fault.Input (fault.Schema other)) none = tt
unlined files folder schema (open_fault.Input (fault.Table told)) none = broken_unlined files folder schema told none
unlined files folder schema (open_fault.Input fault.ScriptBytes) none = tt
unlined files folder schema (open_fault.Input fault.ScriptTexts) none = tt

no_line_in : (fault : LoadFault) (told : BrokenTable) → OfRecord (IsIn fault None) told → HasNoLine told
no_line_in fault (broken.FileLimit named) is = tt
no_line_in fault (broken.Header named) is = is.line_given
no_line_in fault (broken.Empty named) is = tt
no_line_in fault (broken.RowLimit named) is = is.line_given
no_line_in fault (broken.FieldCount named) is = is.line_given
no_line_in fault (broken.BadId field value) is = is.line_given
no_line_in fault (broken.BadInt field value) is = is.line_given
no_line_in fault (broken.BadChars field value) is = is.line_given
no_line_in fault (broken.BadReference field child value) is = is.line_given

-- a fault that was given no line tells none
pub given_no_line : (one : LoadFault) (error : OpenFault) → OfTable (OfRecord (IsIn one None)) error → OfTable HasNoLine error
given_no_line one open_fault.NoMemory is = tt
given_no_line one open_fault.Depot is = tt
given_no_line one (open_fault.Input fault.SchemaBytes) is = tt
given_no_line one (open_fault.Input (fault.Schema other)) is = tt
given_no_line one (open_fault.Input (fault.Table told)) is = no_line_in one told is
given_no_line one (open_fault.Input fault.ScriptBytes) is = tt
given_no_line one (open_fault.Input fault.ScriptTexts) is = tt

-- an error that is of no table shows what any does
pub of_no_table : (files : Files) (name folder : List ℕ) (error : OpenFault) → OfTable (λ _. ⊥) error → IsNamedIn files name folder error
of_no_table files name folder open_fault.NoMemory none = λ schema spelled. tt
of_no_table files name folder open_fault.Depot none = λ schema spelled. tt
of_no_table files name folder (open_fault.Input fault.SchemaBytes) none = λ schema spelled. tt
of_no_table files name folder (open_fault.Input (fault.Schema other)) none = λ schema spelled. tt
of_no_table files name folder (open_fault.Input (fault.Table told)) none = absurd none
of_no_table files name folder (open_fault.Input fault.ScriptBytes) none = λ schema spelled. tt
of_no_table files name folder (open_fault.Input fault.ScriptTexts) none = λ schema spelled. tt
