-- What the files that the words of `audit` name hold. They are read in this order, and the first that decides is told: the
-- visible file begins with no catalog; the script breaks a rule; something is found in the journal. Where a depot tells
-- nothing of its files, each word here speaks of some bytes that may be theirs.
use Rattle.std.specs.Prelude.{◌≡◌, ℕ, ◌≤◌, List, [], ◌∷◌, ◌++◌, codes, decimal, length, Bool, true, false, Option, Some}
use Rattle.ghost_model.specs.core.Asks.{NumberedAsk, asked_of}
use Rattle.ghost_model.specs.core.Channel.{Catalog}
use Rattle.ghost_model.specs.core.Recorded.{Finding, Proper, Wrong, NoLine, AuditFinds}
use Rattle.ghost_model.specs.core.Texts.{most_texts, texts_of}
use Rattle.ghost_model.specs.forms.Catalog.{BeginsWithCatalog}
use Rattle.edge_traits.specs.Files.{Files, HasFile}
use Rattle.key_words.specs.Words.{Audit}
use Rattle.key_inputs.specs.Openings.{InputFault, Spelled, Broken}
use Rattle.key_inputs.specs.Scripts.{script_opening}

-- this is said of a file
pub record HoldsFile (contents : Option Files) (name : List ℕ) (says : List ℕ → Type 0) : Type 0 where
  pub file : List ℕ
  pub is_file : HasFile contents name file
  pub said : says file

-- no front of a file spells a catalog
abbrev pub BeginsWithNone : List ℕ → Type 0
BeginsWithNone file = (catalog : Catalog) → BeginsWithCatalog file catalog → ⊥

-- these are the bytes of the script's file, which keeps every rule
pub record IsScriptOf (contents : Option Files) (name script : List ℕ) : Type 0 where
  pub spelled : (files : Files) → contents ≡ Some files → script_opening files name ≡ Spelled script
  pub few : length (texts_of script) ≤ most_texts

-- the visible file begins with a catalog, the script keeps every rule, and this is said of the journal's file: over the catalog
-- and over the asks of the script
pub record HoldsJournal (contents : Option Files) (words : Audit) (says : Catalog → List NumberedAsk → List ℕ → Type 0) : Type 0 where
  pub catalog : Catalog
  pub head : HoldsFile contents words.visible (λ file. BeginsWithCatalog file catalog)
  pub script : List ℕ
  pub is_script : IsScriptOf contents words.script script
  pub journal : HoldsFile contents words.journal (says catalog (asked_of catalog.schema (texts_of script)))

-- the visible file begins with a catalog, and the script breaks this rule first
pub record HoldsBrokenScript (contents : Option Files) (words : Audit) (rule : InputFault) : Type 0 where
  pub catalog : Catalog
  pub head : HoldsFile contents words.visible (λ file. BeginsWithCatalog file catalog)
  pub broken : (files : Files) → contents ≡ Some files → script_opening files words.script ≡ Broken rule

-- what decides
pub data AuditVerdict : Type 0 where
  NoCatalog : AuditVerdict
  BrokenScript : InputFault → AuditVerdict
  Found : Finding → AuditVerdict

abbrev pub HasVerdict : Option Files → Audit → AuditVerdict → Type 0
HasVerdict contents words NoCatalog = HoldsFile contents words.visible BeginsWithNone
HasVerdict contents words (BrokenScript rule) = HoldsBrokenScript contents words rule
HasVerdict contents words (Found finding) = HoldsJournal contents words (λ catalog asks file. AuditFinds catalog asks file finding)

abbrev pub closed_word : Bool → List ℕ
closed_word true = codes "closed"
closed_word false = codes "open"

abbrev pub proper_line : (moves : ℕ) → (closed : Bool) → List ℕ
proper_line moves closed = codes "= proper " ++ (decimal moves ++ 32 ∷ (closed_word closed ++ 10 ∷ []))

abbrev pub wrong_line : (at : ℕ) → List ℕ
wrong_line at = codes "! wrong " ++ (decimal at ++ 10 ∷ [])

-- whether something that is found has a line
abbrev pub is_printed : Finding → Bool
is_printed (NoLine at) = false
is_printed _ = true

-- the line that is printed of it
abbrev pub finding_line : Finding → List ℕ
finding_line (Proper moves closed) = proper_line moves closed
finding_line (Wrong at) = wrong_line at
finding_line (NoLine at) = []
