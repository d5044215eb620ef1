-- The steps of a sealing: which public pages they leave, and what follows from page 0.
use Rattle.std.proofs.Common.{◌≡◌, sym, ◌∙◌, ℕ, ◌<◌, ◌≤◌, Bool, true, false, ◌||◌, inl, inr, nat_lt, Result, Ok, Err, OnOk, arith}
use Rattle.std.proofs.lemmas.Bool.{cases_lt, lt-ltb}
use Rattle.ghost_model.specs.core.Channel.{Catalog}
use Rattle.ghost_model.specs.laws.ShortWords.{catalog_pages}
use Rattle.flash_build.specs.Sealing.{is_of_gate, is_sealed}

pub not_begun : {b : Bool} → b ≡ true → b ≡ false → ⊥
not_begun blank begun = let clash = sym blank ∙ begun in cc (clash)

neither : (a b : Bool) → (a || b) ≡ false → (a ≡ false) × (b ≡ false)
neither true b h = absurd (cc (h))
neither false b h = (cc, h)

-- a page that is not among those of the catalog lies behind them
pub not_pages : (cat : Catalog) (place : ℕ) → is_sealed cat place ≡ false → catalog_pages cat ≤ place
not_pages cat place other =
    elim (cases_lt place (catalog_pages cat)) [
      | inl under ↦ (let clash = sym (lt-ltb place (catalog_pages cat) under) ∙ (neither (nat_lt place (catalog_pages cat)) (is_of_gate cat place) other).0 in absurd (cc (clash)))
      | inr over ↦ over
    ]

pub not_gate : (cat : Catalog) (place : ℕ) → is_sealed cat place ≡ false → is_of_gate cat place ≡ false
not_gate cat place other = (neither (nat_lt place (catalog_pages cat)) (is_of_gate cat place) other).1

pub on_ok : {T E P : Type 0} (result : Result T E) → P → OnOk result P
on_ok (Ok x) given = given
on_ok (Err e) given = tt

pub told_of : {T E P : Type 0} {told : Bool} (result : Result T E) → (told ≡ true → P) → OnOk result (told ≡ true → P)
told_of (Ok x) given = given
told_of (Err e) given = tt
