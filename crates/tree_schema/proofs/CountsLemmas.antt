-- Numbers of rows are read one after another.
use Rattle.std.proofs.Common.{◌≡◌, ℕ, ◌<◌, ◌≤◌, Bool, true, ◌&&◌, nat_le, List, [], ◌∷◌, ◌++◌, length, refl, sym, ap, ◌∙◌, subst, append_assoc, append-nil, length-append, arith}
use Rattle.std.specs.Int.{to_be_bytes, w32}
use Rattle.std.proofs.lemmas.Bool.{and_parts, leb-true}
use Rattle.std.proofs.lemmas.List.Folds.{list_all-append}
use Rattle.ghost_model.specs.forms.Catalog.{counts_bytes}
use Rattle.tree_schema.specs.Catalogs.{are_counts}
use Rattle.tree_schema.specs.CatalogParts.{BeginsWithCount}

-- some of the numbers were found, and the bytes of the others are left
pub record GoesOn (found rest counts later : List ℕ) : Type 0 where
  pub left : List ℕ
  pub whole : counts ≡ found ++ left
  pub bytes : rest ≡ counts_bytes left ++ later

pub begins : (counts bytes later : List ℕ) → bytes ≡ counts_bytes counts ++ later → GoesOn [] bytes counts later
begins counts bytes later e = record { left = counts; whole = refl; bytes = e }

-- where numbers are missing, the next one stands in front of the others
pub record HasNext (found rest counts later : List ℕ) : Type 0 where
  pub count : ℕ
  pub left : List ℕ
  pub whole : counts ≡ (found ++ count ∷ []) ++ left
  pub front : BeginsWithCount rest count (counts_bytes left ++ later)

next_of : (found rest counts later left : List ℕ) → counts ≡ found ++ left → rest ≡ counts_bytes left ++ later → length found < length counts
    → are_counts counts ≡ true → HasNext found rest counts later
next_of found rest counts later [] e k less few =
    absurd (omega (arith, ap length e, length-append found []))
next_of found rest counts later (count ∷ left) e k less few =
    let all : are_counts (found ++ count ∷ left) ≡ true = subst (λ (xs : List ℕ). are_counts xs ≡ true) e few in
    let parts = and_parts (are_counts found) (are_counts (count ∷ left)) (sym (list_all-append (λ rows. nat_le rows 1000000) found (count ∷ left)) ∙ all) in
    let here = and_parts (nat_le count 1000000) (are_counts left) parts.1 in
    record {
      count = count;
      left = left;
      whole = e ∙ sym (append_assoc found (count ∷ []) left);
      front = record {
        whole = k ∙ append_assoc (to_be_bytes w32 count) (counts_bytes left) later;
        within = leb-true count 1000000 here.0;
      };
    }

pub next : (found rest counts later : List ℕ) → GoesOn found rest counts later → length found < length counts → are_counts counts ≡ true
    → HasNext found rest counts later
next found rest counts later h less few = next_of found rest counts later h.left h.whole h.bytes less few

-- all are found where none is missing
all_of : (found counts left : List ℕ) → counts ≡ found ++ left → length counts ≤ length found → found ≡ counts
all_of found counts [] e h = sym (e ∙ append-nil found)
all_of found counts (count ∷ left) e h = absurd (omega (arith, ap length e, length-append found (count ∷ left)))

pub all_found : (found rest counts later : List ℕ) → GoesOn found rest counts later → length counts ≤ length found → found ≡ counts
all_found found rest counts later h less = all_of found counts h.left h.whole less

both_true : (a b : Bool) → a ≡ true → b ≡ true → (a && (b && true)) ≡ true
both_true a b h k = ap (λ x. x && (b && true)) h ∙ ap (λ y. y && true) k

pub counts_more : (found : List ℕ) (count : ℕ) → are_counts found ≡ true → nat_le count 1000000 ≡ true → are_counts (found ++ count ∷ []) ≡ true
counts_more found count h k =
    list_all-append (λ rows. nat_le rows 1000000) found (count ∷ []) ∙ both_true (are_counts found) (nat_le count 1000000) h k
