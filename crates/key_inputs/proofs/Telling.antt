-- What faults tell of an opening.
use Rattle.std.proofs.Common.{◌≡◌, ℕ, true, List, [], Option, Some, None, Result, Ok, Err, ◌&&◌, not, refl, sym, ap, ◌∙◌, subst, bytes_eq}
use Rattle.std.specs.List.{list_all}
use Rattle.ghost_model.specs.core.Schema.{Schema}
use Rattle.ghost_model.specs.laws.Spelled.{is_name, begins_as_name, is_reserved}
use Rattle.ghost_model.specs.refusals.Tokens.{is_name_byte, in_lower_case}
use Rattle.ghost_model.specs.laws.LoadLaws as load_laws
use Rattle.ghost_model.specs.refusals.LoadFaults as load
use Rattle.ghost_model.proofs.MeaningLemmas.OneRow.{both_true}
use Rattle.ghost_model.specs.core.Values.{Database}
use Rattle.ghost_model.specs.core.Database.{database_of}
use Rattle.key_inputs.specs.Openings.{InputFault, Opening, Spelled, Broken, Missing, TablesInput, unless_broken, after_tables}
use Rattle.key_inputs.specs.declared.faults.OpenFault.{OpenFault}
use Rattle.key_inputs.specs.Views.{TellsRule, IsBroken, rule_or}

-- the bytes of a name may stand in a word
pub name_bytes : (name : List ℕ) → is_name name ≡ true → list_all is_name_byte name ≡ true
unfolding is_name
name_bytes name h =
    let first = both_true (begins_as_name name && list_all is_name_byte name && bytes_eq (in_lower_case name) name) (not (is_reserved name)) h in
    let second = both_true (begins_as_name name && list_all is_name_byte name) (bytes_eq (in_lower_case name) name) first.0 in
    (both_true (begins_as_name name) (list_all is_name_byte name) second.0).1

-- a fault that is another one is so in a result of any type
abbrev fault_or : {X : Type 0} → OpenFault → Result X OpenFault → OpenFault
fault_or other (Ok value) = other
fault_or other (Err fault) = fault

pub same_fault : {X Y : Type 0} (fault other : OpenFault) → ◌≡◌ {A = Result X OpenFault} (Err fault) (Err other) → ◌≡◌ {A = Result Y OpenFault} (Err fault) (Err other)
same_fault fault other is = ap (λ one. Err one) (ap (fault_or other) is)

-- the rule that is told of some faults breaks an opening that goes on only without faults
pub broken_by : {X : Type 0} (next : Opening X) (rule : Option InputFault) (faults : List load.LoadFault) → TellsRule rule faults
    → IsBroken (unless_broken next faults) rule
broken_by next None faults h = h
broken_by next (Some rule) faults h =
    ap (unless_broken next) h.2.first ∙ ap Broken (sym h.1)

-- a result that judges faults tells the first of them
pub told_first : (told : Option load.LoadFault) (faults : List load.LoadFault) → load_laws.TellsFirst told faults
    → TellsRule (rule_or told) faults
told_first None faults h = tt
told_first (Some fault) faults h = (fault, refl, h)

-- keys that are good: the opening is that of the files
pub keys_are_good : (schema : Schema) (read : List (List ℕ)) (tables : Database) → tables ≡ database_of schema read
    → load.reference_faults schema tables ≡ [] → after_tables schema read ≡ Spelled (record { schema = schema; files = read })
keys_are_good schema read tables is good =
    ap (λ database. unless_broken (Spelled (record { schema = schema; files = read })) (load.reference_faults schema database)) (sym is)
    ∙ ap (unless_broken (Spelled (record { schema = schema; files = read }))) good

-- a key that is not
pub keys_are_told : (schema : Schema) (read : List (List ℕ)) (tables : Database) (rule : Option InputFault) → tables ≡ database_of schema read
    → TellsRule rule (load.reference_faults schema tables) → IsBroken (after_tables schema read) rule
keys_are_told schema read tables rule is h =
    subst (λ (database : Database). IsBroken {X = TablesInput} (unless_broken (Spelled (record { schema = schema; files = read })) (load.reference_faults schema database)) rule) is
    (broken_by (Spelled (record { schema = schema; files = read })) rule (load.reference_faults schema tables) h)

-- nothing is missing where a read that goes well is said to fail
pub never_missing : {X : Type 0} (opening : Opening X) → ⊥ → opening ≡ Missing
never_missing opening failed = absurd failed
