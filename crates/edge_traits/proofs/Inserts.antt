-- What a change of one file leaves of the others.
use Rattle.std.proofs.Common.{subst, ◌≡◌, List, ℕ, Bool, true, false, cond, Option, Some, refl, sym, ◌∙◌}
use Rattle.std.specs.Ordering.{nat_cmp, eq_by_cmp}
use Rattle.std.specs.Cmp.Lexicographic.{slice_cmp, texts_ties, same_text, nat_list_cmp_total}
use Rattle.std.specs.FinMap as map
use Rattle.edge_traits.specs.Files.{Files, SameBut}

untied : (b : Bool) (x : Option (List ℕ)) (y : Option (List ℕ)) → (b ≡ true → ⊥) → cond b x y ≡ y
untied true x y never = absurd (never refl)
untied false x y never = refl

-- a file put among others
pub others_stay : (files : Files) (name bytes : List ℕ) → SameBut name (Some files) (Some (map.insert files name bytes))
others_stay files name bytes = record {
  told = refl;
  others = λ other differs.
      map.get-insert nat_list_cmp_total files name bytes other
      ∙ untied (eq_by_cmp (slice_cmp nat_cmp) other name) (Some bytes) (map.get files other)
      (λ is. differs (same_text other name (sym (texts_ties other name ∙ is))));
}

-- the same where the new files came by a call
pub others_kept : (files next : Files) (name bytes : List ℕ) → next ≡ map.insert files name bytes → SameBut name (Some files) (Some next)
others_kept files next name bytes is = subst (λ f. SameBut name (Some files) (Some f)) (sym is) (others_stay files name bytes)
