-- The catalog at the head of a file, and the first bytes of it that were read.
use Rattle.std.proofs.Common.{◌≡◌, ℕ, zero, suc, ◌+◌, ◌≤◌, List, [], ◌∷◌, ◌++◌, length, take, drop, Option, None, Some, MatchOption, IfSome, IfNone, refl, sym, ap, subst, ◌∙◌, arith, append_assoc, length-append, take-append-drop}
use Rattle.ghost_model.specs.core.Channel.{Catalog}
use Rattle.ghost_model.specs.forms.Catalog.{BeginsWithCatalog, catalog_bytes}
use Rattle.ghost_model.specs.laws.CatalogLaws.{NoCatalogIsLong}
use Rattle.edge_traits.specs.Files.{Files, HasFile}
use Rattle.key_audit.specs.Verdicts.{HoldsFile, BeginsWithNone}
use Rattle.key_audit.specs.Windows.{ahead, StandsBehind, PutsFront, IsHeadOf}
use Rattle.key_audit.specs.declared.window.Window.{Window}
use Rattle.key_audit.proofs.Ahead.{passes}

take_whole : (n : ℕ) (text : List ℕ) → length text ≤ n → take n text ≡ text
take_whole zero [] short = refl
take_whole zero (x ∷ text) short = absurd (omega (arith, short))
take_whole (suc n) [] short = refl
take_whole (suc n) (x ∷ text) short = ap (λ (xs : List ℕ). x ∷ xs) (take_whole n text (omega (arith, short)))

-- a front of a text with more behind it
record GoesOnBy (n : ℕ) (text more : List ℕ) : Type 0 where
  pub rest : List ℕ
  pub is : take n (text ++ more) ≡ text ++ rest

take_more : (n : ℕ) (text more : List ℕ) → length text ≤ n → GoesOnBy n text more
take_more zero [] more short = record { rest = []; is = refl }
take_more zero (x ∷ text) more short = absurd (omega (arith, short))
take_more (suc n) [] more short = record { rest = take (suc n) more; is = refl }
take_more (suc n) (x ∷ text) more short =
    let later = take_more n text more (omega (arith, short)) in
    record { rest = later.rest; is = ap (λ (xs : List ℕ). x ∷ xs) later.is }

take_front : (n : ℕ) (text more : List ℕ) → length text ≡ n → take n (text ++ more) ≡ text
take_front zero [] more long = refl
take_front zero (x ∷ text) more long = absurd (omega (arith, long))
take_front (suc n) [] more long = absurd (omega (arith, long))
take_front (suc n) (x ∷ text) more long = ap (λ (xs : List ℕ). x ∷ xs) (take_front n text more (omega (arith, long)))

-- the file has no more than was read
pub head_ends : (contents : Option Files) (name head : List ℕ) → HasFile contents name head → length head ≤ 16640 → HoldsFile contents name (IsHeadOf head)
head_ends contents name head is short = record { file = head; is_file = is; said = sym (take_whole 16640 head short) }

-- there is no room for more
pub head_full : (contents : Option Files) (name head : List ℕ) (window : Window) → StandsBehind contents name head window → length head ≡ 16640
    → HoldsFile contents name (IsHeadOf head)
head_full contents name head window stands full =
    let front = stands.read (omega (arith, full)) in
    let joined = front.begins.joined ∙ append_assoc head (ahead window) front.begins.rest in
    record {
      file = front.file;
      is_file = front.is_file;
      said = sym (ap (take 16640) joined ∙ take_front 16640 head (ahead window ++ front.begins.rest) full);
    }

-- more was put to a head
pub head_more : (contents : Option Files) (name head after : List ℕ) (before window : Window) → StandsBehind contents name head before
    → PutsFront head (ahead before) after (ahead window) → window.passed + length head ≡ before.passed + length after → StandsBehind contents name after window
head_more contents name head after before window stands puts counted =
    let long = ap length puts.head_is ∙ length-append head puts.piece in
    subst (λ (xs : List ℕ). StandsBehind contents name xs window) (sym puts.head_is)
    (passes contents name head puts.piece before window puts.ahead_is stands (omega (arith, long, counted)))

-- the head of a file begins with a catalog exactly where the file does
head_begins : (head file : List ℕ) (catalog : Catalog) → IsHeadOf head file → BeginsWithCatalog head catalog → BeginsWithCatalog file catalog
head_begins head file catalog is begins = record {
  proper = begins.proper;
  rest = begins.rest ++ drop 16640 file;
  begins = sym (take-append-drop 16640 file) ∙ (ap (λ (xs : List ℕ). xs ++ drop 16640 file) (sym is ∙ begins.begins) ∙ append_assoc (catalog_bytes catalog) begins.rest (drop 16640 file));
}

file_begins : (head file : List ℕ) (catalog : Catalog) → NoCatalogIsLong → IsHeadOf head file → BeginsWithCatalog file catalog → BeginsWithCatalog head catalog
file_begins head file catalog short is begins =
    let front = take_more 16640 (catalog_bytes catalog) begins.rest (short catalog begins.proper) in
    record { proper = begins.proper; rest = front.rest; begins = is ∙ (ap (take 16640) begins.begins ∙ front.is) }

pub head_is_read : (found : Option Catalog) (contents : Option Files) (name head : List ℕ) → NoCatalogIsLong → HoldsFile contents name (IsHeadOf head)
    → IfSome found (λ catalog. BeginsWithCatalog head catalog) → IfNone found ((catalog : Catalog) → BeginsWithCatalog head catalog → ⊥)
    → MatchOption found (HoldsFile contents name BeginsWithNone) (λ catalog. HoldsFile contents name (λ file. BeginsWithCatalog file catalog))
head_is_read None contents name head short holds some none = record {
  file = holds.file;
  is_file = holds.is_file;
  said = λ catalog begins. none catalog (file_begins head holds.file catalog short holds.said begins);
}
head_is_read (Some catalog) contents name head short holds some none = record {
  file = holds.file;
  is_file = holds.is_file;
  said = head_begins head holds.file catalog holds.said some;
}
