-- What the files hold is one thing, and is told where no fault comes before it.
use Rattle.std.proofs.Common.{◌≡◌, ◌⊎◌, inl, inr, ℕ, List, Option, Some, MatchOption, Result, Ok, Err, refl, sym, ap, subst, ◌∙◌, unwrap_or}
use Rattle.std.specs.FinMap as map
use Rattle.ghost_model.specs.core.Asks.{asked_of}
use Rattle.ghost_model.specs.core.Channel.{Catalog}
use Rattle.ghost_model.specs.core.Recorded.{Finding, Proper, Wrong, NoLine, AuditFinds}
use Rattle.ghost_model.specs.core.Texts.{texts_of}
use Rattle.ghost_model.specs.forms.Catalog.{BeginsWithCatalog}
use Rattle.ghost_model.specs.laws.CatalogLaws.{CatalogsHaveOneSpelling}
use Rattle.ghost_model.specs.laws.RecordedLaws.{FilesHaveOneFinding}
use Rattle.edge_traits.specs.Files.{Files}
use Rattle.key_words.specs.Words.{Audit}
use Rattle.key_inputs.specs.Openings.{InputFault, Opening, Spelled, Broken, Missing}
use Rattle.key_inputs.specs.Scripts.{script_opening}
use Rattle.key_inputs.specs.declared.faults.OpenFault.{OpenFault}
use Rattle.key_inputs.specs.declared.faults.OpenFault.TheVariants as open_fault
use Rattle.key_audit.specs.Doing.{IsUndecided}
use Rattle.key_audit.specs.Judgings.{Judges}
use Rattle.key_audit.specs.Renaming.{as_failure}
use Rattle.key_audit.specs.Results.{verdict_of}
use Rattle.key_audit.specs.Verdicts.{HoldsFile, BeginsWithNone, AuditVerdict, NoCatalog, BrokenScript, Found, HasVerdict}
use Rattle.key_audit.specs.declared.failures.Audited.{Audited}
use Rattle.key_audit.specs.declared.failures.AuditFailure.{AuditFailure}
use Rattle.key_audit.specs.declared.failures.AuditFailure.TheVariants as failure

some_once : {X : Type 0} (one other : X) → Some one ≡ Some other → one ≡ other
some_once one other e = ap (λ o. unwrap_or o one) e

same_file : {P Q : List ℕ → Type 0} (files : Files) (name : List ℕ) (one : HoldsFile (Some files) name P) (other : HoldsFile (Some files) name Q) → one.file ≡ other.file
same_file files name one other = some_once one.file other.file (sym one.is_file ∙ other.is_file)

spelled_once : (one other : List ℕ) → Spelled one ≡ Spelled other → one ≡ other
spelled_once one other e = cc e

broken_once : (one other : InputFault) → ◌≡◌ {A = Opening (List ℕ)} (Broken one) (Broken other) → one ≡ other
broken_once one other e = cc e

spelled_is_broken : (script : List ℕ) (rule : InputFault) → Spelled script ≡ Broken rule → ⊥
spelled_is_broken script rule e = cc e

spelled_is_missing : (script : List ℕ) → Spelled script ≡ Missing → ⊥
spelled_is_missing script e = cc e

broken_is_missing : (rule : InputFault) → ◌≡◌ {A = Opening (List ℕ)} (Broken rule) Missing → ⊥
broken_is_missing rule e = cc e

-- a file begins with a catalog, or with none
not_both : (files : Files) (name : List ℕ) (catalog : Catalog) → HoldsFile (Some files) name (λ file. BeginsWithCatalog file catalog) → HoldsFile (Some files) name BeginsWithNone → ⊥
not_both files name catalog one other =
    other.said catalog (subst (λ (f : List ℕ). BeginsWithCatalog f catalog) (same_file files name one other) one.said)

module _ (spelling : CatalogsHaveOneSpelling) (findings : FilesHaveOneFinding) (files : Files) (words : Audit) where
  one_catalog : (catalog other : Catalog) → HoldsFile (Some files) words.visible (λ file. BeginsWithCatalog file catalog)
      → HoldsFile (Some files) words.visible (λ file. BeginsWithCatalog file other) → catalog ≡ other
  one_catalog catalog other first second =
      (spelling.one_beginning second.file catalog other
      (subst (λ (f : List ℕ). BeginsWithCatalog f catalog) (same_file files words.visible first second) first.said) second.said).0

  one_finding : (finding another : Finding) → HasVerdict (Some files) words (Found finding) → HasVerdict (Some files) words (Found another) → finding ≡ another
  one_finding finding another one other =
      let catalogs = one_catalog one.catalog other.catalog one.head other.head in
      let scripts = spelled_once one.script other.script (sym (one.is_script.spelled files refl) ∙ other.is_script.spelled files refl) in
      let journals = same_file files words.journal one.journal other.journal in
      let moved = subst (λ (c : Catalog). AuditFinds c (asked_of c.schema (texts_of one.script)) one.journal.file finding) catalogs one.journal.said in
      let and_script = subst (λ (s : List ℕ). AuditFinds other.catalog (asked_of other.catalog.schema (texts_of s)) one.journal.file finding) scripts moved in
      findings other.catalog (asked_of other.catalog.schema (texts_of other.script)) other.journal.file finding another
      (subst (λ (f : List ℕ). AuditFinds other.catalog (asked_of other.catalog.schema (texts_of other.script)) f finding) journals and_script) other.journal.said

  one_verdict : (verdict another : AuditVerdict) → HasVerdict (Some files) words verdict → HasVerdict (Some files) words another → verdict ≡ another
  one_verdict NoCatalog NoCatalog one other = refl
  one_verdict NoCatalog (BrokenScript rule) one other = absurd (not_both files words.visible other.catalog other.head one)
  one_verdict NoCatalog (Found finding) one other = absurd (not_both files words.visible other.catalog other.head one)
  one_verdict (BrokenScript rule) NoCatalog one other = absurd (not_both files words.visible one.catalog one.head other)
  one_verdict (BrokenScript rule) (BrokenScript more) one other =
      ap BrokenScript (broken_once rule more (sym (one.broken files refl) ∙ other.broken files refl))
  one_verdict (BrokenScript rule) (Found finding) one other =
      absurd (spelled_is_broken other.script rule (sym (other.is_script.spelled files refl) ∙ one.broken files refl))
  one_verdict (Found finding) NoCatalog one other = absurd (not_both files words.visible one.catalog one.head other)
  one_verdict (Found finding) (BrokenScript rule) one other =
      absurd (spelled_is_broken one.script rule (sym (one.is_script.spelled files refl) ∙ other.broken files refl))
  one_verdict (Found finding) (Found another) one other = ap Found (one_finding finding another one other)

  -- what the files hold is told, unless memory was wanting
  pub completes : (outcome : Result Audited AuditFailure) (verdict : AuditVerdict) → Judges (Some files) words outcome → (outcome ≡ Err failure.Depot → ⊥)
      → HasVerdict (Some files) words verdict → (verdict_of outcome ≡ Some verdict) ⊎ (outcome ≡ Err failure.NoMemory)
  completes (Ok audited) verdict judged no_fault has = inl (ap Some (one_verdict (Found (Proper audited.moves audited.closed)) verdict judged has))
  completes (Err (failure.Wrong at told due)) verdict judged no_fault has =
      inl (ap Some (one_verdict (Found (Wrong at)) verdict
      (record {
        catalog = judged.catalog;
        head = judged.head;
        script = judged.script;
        is_script = judged.is_script;
        journal = record { file = judged.journal.file; is_file = judged.journal.is_file; said = judged.journal.said.wrong };
      }) has))
  completes (Err (failure.BadJournal line)) verdict judged no_fault has = inl (ap Some (one_verdict (Found (NoLine line)) verdict judged has))
  completes (Err failure.NotTheFile) verdict judged no_fault has = inl (ap Some (one_verdict NoCatalog verdict judged has))
  completes (Err (failure.Input broken)) verdict judged no_fault has = inl (ap Some (one_verdict (BrokenScript _) verdict judged has))
  completes (Err failure.NoMemory) verdict judged no_fault has = inr refl
  completes (Err failure.Depot) verdict judged no_fault has = absurd (no_fault refl)
  completes (Err failure.Sink) verdict judged no_fault has = absurd judged

-- without the visible file nothing is decided
pub no_head : (files : Files) (words : Audit) → ((bytes : List ℕ) → map.get files words.visible ≡ Some bytes → ⊥) → IsUndecided files words
no_head files words none NoCatalog has = none has.file has.is_file
no_head files words none (BrokenScript rule) has = none has.head.file has.head.is_file
no_head files words none (Found finding) has = none has.head.file has.head.is_file

-- nor without the script behind a catalog
pub no_script : (files : Files) (words : Audit) (catalog : Catalog) → HoldsFile (Some files) words.visible (λ file. BeginsWithCatalog file catalog)
    → script_opening files words.script ≡ Missing → IsUndecided files words
no_script files words catalog head missing NoCatalog has = not_both files words.visible catalog head has
no_script files words catalog head missing (BrokenScript rule) has = broken_is_missing rule (sym (has.broken files refl) ∙ missing)
no_script files words catalog head missing (Found finding) has = spelled_is_missing has.script (sym (has.is_script.spelled files refl) ∙ missing)

-- nor without the journal behind these
pub no_journal : (files : Files) (words : Audit) (catalog : Catalog) (script : List ℕ) → HoldsFile (Some files) words.visible (λ file. BeginsWithCatalog file catalog)
    → script_opening files words.script ≡ Spelled script → ((bytes : List ℕ) → map.get files words.journal ≡ Some bytes → ⊥) → IsUndecided files words
no_journal files words catalog script head spelled none NoCatalog has = not_both files words.visible catalog head has
no_journal files words catalog script head spelled none (BrokenScript rule) has = spelled_is_broken script rule (sym spelled ∙ has.broken files refl)
no_journal files words catalog script head spelled none (Found finding) has = none has.journal.file has.journal.is_file

pub err_once : (one other : AuditFailure) → ◌≡◌ {A = Result Audited AuditFailure} (Err one) (Err other) → one ≡ other
err_once one other e = cc e

is_depot : (fault : OpenFault) → as_failure fault ≡ failure.Depot → fault ≡ open_fault.Depot
is_depot open_fault.Depot e = refl
is_depot open_fault.NoMemory e = cc e
is_depot (open_fault.Input broken) e = cc e

-- the script's fault was the depot's
pub depot_fault : (fault : OpenFault) (given : AuditFailure) → given ≡ as_failure fault → ◌≡◌ {A = Result Audited AuditFailure} (Err given) (Err failure.Depot)
    → fault ≡ open_fault.Depot
depot_fault fault given is e = is_depot fault (sym is ∙ err_once given failure.Depot e)

-- the catalog that was found at the head of a file
pub found_head : (found : Option Catalog) (catalog : Catalog) (contents : Option Files) (name : List ℕ) → found ≡ Some catalog
    → MatchOption found (HoldsFile contents name BeginsWithNone) (λ cat. HoldsFile contents name (λ file. BeginsWithCatalog file cat))
    → HoldsFile contents name (λ file. BeginsWithCatalog file catalog)
found_head found catalog contents name is head =
    subst (λ (o : Option Catalog). MatchOption o (HoldsFile contents name BeginsWithNone) (λ cat. HoldsFile contents name (λ file. BeginsWithCatalog file cat))) is head
