-- What the result of a printing tells of what was read.
use Rattle.std.proofs.Common.{◌≡◌, ℕ, ◌≤◌, true, false, List, length, Option, Result, Ok, Err, OnOk, OnErr, ap, subst, ◌∙◌}
use Rattle.std.specs.Prelude.{is_err}
use Rattle.ghost_model.specs.core.Database.{IsDatabase}
use Rattle.ghost_model.specs.core.Values.{Database}
use Rattle.ghost_model.specs.core.Printed.{printed}
use Rattle.ghost_model.specs.core.Texts.{most_script_bytes, most_texts, texts_of}
use Rattle.edge_traits.specs.Written.{grown, GrowsByFront}
use Rattle.key_inputs.specs.declared.whole.Opened.{Opened}
use Rattle.edge_traits.specs.Files.{Files}
use Rattle.key_inputs.specs.Naming.{IsNamedIn}
use Rattle.key_inputs.specs.Openings.{Opening}
use Rattle.key_inputs.specs.Whole.{WholeInput, IsSpelled}
use Rattle.key_inputs.specs.declared.faults.OpenFault.{OpenFault}
use Rattle.key_inputs.specs.declared.faults.OpenFault.TheVariants as open_fault
use Rattle.key_lines.specs.Told.{AreRuled}
use Rattle.key_lines.specs.declared.told.ToldText.{ToldText}
use Rattle.key_plain.specs.Renaming.{as_fault}
use Rattle.key_plain.specs.Views.{AreAllTold, PlainRead, Prints, PrintsFront, PrintsRead, PrintsReadFront, ShowsNames}

module _ {T E : Type 0} where
  err_of : (result : Result T E) (P : Type 0) → is_err result ≡ true → OnErr result P → P
  err_of (Ok value) P h holds = cc h
  err_of (Err error) P h holds = holds

  ok_of : (result : Result T E) (P : Type 0) → is_err result ≡ false → OnOk result P → P
  ok_of (Ok value) P h holds = holds
  ok_of (Err error) P h holds = cc h

abbrev read_of : (opened : Opened) → IsDatabase opened.tables.schema opened.tables.tables → length opened.script.items ≤ most_script_bytes
    → length (texts_of opened.script.items) ≤ most_texts → PlainRead
read_of opened are short few = record {
  schema = opened.tables.schema;
  database = opened.tables.tables;
  script = opened.script.items;
  are = are;
  short = short;
  few = few;
}

pub prints_front : {T E : Type 0} (opened : Opened) → IsDatabase opened.tables.schema opened.tables.tables → length opened.script.items ≤ most_script_bytes
    → length (texts_of opened.script.items) ≤ most_texts → (script : List ℕ) → script ≡ opened.script.items → (before after : Option (List ℕ))
    → (result : Result T E) → is_err result ≡ true
    → OnErr result (GrowsByFront before (printed opened.tables.schema (texts_of script) opened.tables.tables) after)
    → (told : List ToldText) → AreRuled opened.tables.schema (texts_of script) told → PrintsReadFront before after told
prints_front opened are short few script same before after result failed h told ruled = record {
  read = read_of opened are short few;
  front = subst (λ (bytes : List ℕ). GrowsByFront before (printed opened.tables.schema (texts_of bytes) opened.tables.tables) after) same
      (err_of result (GrowsByFront before (printed opened.tables.schema (texts_of script) opened.tables.tables) after) failed h);
  are_told = subst (λ (bytes : List ℕ). AreRuled opened.tables.schema (texts_of bytes) told) same ruled;
}

pub prints_read : {T E : Type 0} (opened : Opened) → IsDatabase opened.tables.schema opened.tables.tables → length opened.script.items ≤ most_script_bytes
    → length (texts_of opened.script.items) ≤ most_texts → (script : List ℕ) → script ≡ opened.script.items → (before after : Option (List ℕ))
    → (result : Result T E) → is_err result ≡ false
    → OnOk result (after ≡ grown before (printed opened.tables.schema (texts_of script) opened.tables.tables))
    → (told : List ToldText) → OnOk result (AreAllTold opened.tables.schema opened.tables.tables (texts_of script) told) → PrintsRead before after told
prints_read opened are short few script same before after result fine h told all = record {
  read = read_of opened are short few;
  printed = ok_of result (after ≡ grown before (printed opened.tables.schema (texts_of script) opened.tables.tables)) fine h
      ∙ ap (λ (bytes : List ℕ). grown before (printed opened.tables.schema (texts_of bytes) opened.tables.tables)) same;
  are_told = subst (λ (bytes : List ℕ). AreAllTold opened.tables.schema opened.tables.tables (texts_of bytes) told) same
      (ok_of result (AreAllTold opened.tables.schema opened.tables.tables (texts_of script) told) fine all);
}

-- over what the files spell
pub prints_spelled : {T E : Type 0} (opening : Opening WholeInput) (opened : Opened) → (is : IsSpelled opening opened) → (script : List ℕ) → script ≡ opened.script.items → (before after : Option (List ℕ))
    → (result : Result T E) → is_err result ≡ false
    → OnOk result (after ≡ grown before (printed opened.tables.schema (texts_of script) opened.tables.tables))
    → (told : List ToldText) → OnOk result (AreAllTold opened.tables.schema opened.tables.tables (texts_of script) told) → Prints opening before after told
prints_spelled opening opened is script same before after result fine h told all = record {
  input = record { schema = opened.tables.schema; files = is.files; script = opened.script.items };
  spelled = is.spelled;
  printed = ok_of result (after ≡ grown before (printed opened.tables.schema (texts_of script) opened.tables.tables)) fine h
      ∙ ap (λ (bytes : List ℕ). grown before (printed opened.tables.schema (texts_of bytes) opened.tables.tables)) same
      ∙ ap (λ (database : Database). grown before (printed opened.tables.schema (texts_of opened.script.items) database)) is.tables;
  are_told = subst (λ (database : Database). AreAllTold opened.tables.schema database (texts_of opened.script.items) told) is.tables
      (subst (λ (bytes : List ℕ). AreAllTold opened.tables.schema opened.tables.tables (texts_of bytes) told) same
      (ok_of result (AreAllTold opened.tables.schema opened.tables.tables (texts_of script) told) fine all));
}

pub front_spelled : {T E : Type 0} (opening : Opening WholeInput) (opened : Opened) → (is : IsSpelled opening opened) → (script : List ℕ) → script ≡ opened.script.items → (before after : Option (List ℕ))
    → (result : Result T E) → is_err result ≡ true
    → OnErr result (GrowsByFront before (printed opened.tables.schema (texts_of script) opened.tables.tables) after)
    → (told : List ToldText) → AreRuled opened.tables.schema (texts_of script) told → PrintsFront opening before after told
front_spelled opening opened is script same before after result failed h told ruled = record {
  input = record { schema = opened.tables.schema; files = is.files; script = opened.script.items };
  spelled = is.spelled;
  front = subst (λ (database : Database). GrowsByFront before (printed opened.tables.schema (texts_of opened.script.items) database) after) is.tables
      (subst (λ (bytes : List ℕ). GrowsByFront before (printed opened.tables.schema (texts_of bytes) opened.tables.tables) after) same
      (err_of result (GrowsByFront before (printed opened.tables.schema (texts_of script) opened.tables.tables) after) failed h));
  are_told = subst (λ (bytes : List ℕ). AreRuled opened.tables.schema (texts_of bytes) told) same ruled;
}

-- the names and the value that are told are those that the inputs' error shows
pub names_shown : (T : Type 0) (files : Files) (schema folder : List ℕ) (fault : OpenFault) → IsNamedIn files schema folder fault → ShowsNames {T = T} files schema folder (Err (as_fault fault))
names_shown T files schema folder open_fault.NoMemory shows = tt
names_shown T files schema folder open_fault.Depot shows = tt
names_shown T files schema folder (open_fault.Input broken) shows = shows
