-- Rules in their order: what is so where all are met, and what no rule finds.
use Rattle.std.proofs.Common.{◌≡◌, Bool, true, false, Option, Some, None, option_map, refl}
use Rattle.std.specs.Option.{option_or}
use Rattle.ghost_model.specs.refusals.Rules.{broken_if}

-- a rule that is met, and the rules after it
pub both_none : {X : Type 0} (a b : Option X) → option_or a b ≡ None → (a ≡ None) × (b ≡ None)
both_none None b e = (refl, e)
both_none (Some x) b e = absurd (cc)

pub not_broken : {X : Type 0} (b : Bool) (x : X) → broken_if b x ≡ None → b ≡ false
not_broken true x e = absurd (cc)
not_broken false x e = refl

pub kept_and : {X : Type 0} (b : Bool) (x : X) (later : Option X) → option_or (broken_if b x) later ≡ None → (b ≡ false) × (later ≡ None)
kept_and b x later e = let parts = both_none (broken_if b x) later e in (not_broken b x parts.0, parts.1)

same_some : {X : Type 0} (a b : X) → Some a ≡ Some b → a ≡ b
same_some a b e = cc

-- a fault that a rule does not find is another rule's
pub other_if : {X : Type 0} (b : Bool) (x y : X) (later : Option X) → (x ≡ y → ⊥) → (later ≡ Some y → ⊥) → option_or (broken_if b x) later ≡ Some y → ⊥
other_if true x y later d h e = d (same_some x y e)
other_if false x y later d h e = h e

pub other_mapped : {X Y : Type 0} (f : X → Y) (o : Option X) (y : Y) (later : Option Y) → ((x : X) → f x ≡ y → ⊥) → (later ≡ Some y → ⊥) → option_or (option_map f o) later ≡ Some y → ⊥
other_mapped f None y later d h e = h e
other_mapped f (Some x) y later d h e = d x (same_some (f x) y e)
