-- The places of the rows of a page.
use Rattle.std.proofs.Common.{◌≡◌, ◌∙◌, ap, sym, ℕ, ◌+◌, ◌-◌, ◌*◌, ◌/◌, ◌<◌, ◌≤◌, inl, inr, arith}
use Rattle.std.proofs.lemmas.Bool.{cases_lt}
use Rattle.std.proofs.lemmas.Nat.{le-div, div-mul-add}
use Rattle.std.proofs.Math.Nat.{div-mul-le_self}

pub in_page : (place page n : ℕ) → page * n ≤ place → place < page * n + n → place / n ≡ page
in_page place page n low high =
    let e : place ≡ page * n + (place - page * n) = omega (arith, low) in
    ap (λ p. p / n) e ∙ div-mul-add page n (place - page * n) (omega (arith, low, high))

pub before_page : (place page n : ℕ) → 0 < n → place / n < page → place < page * n
before_page place page n some less =
    elim (cases_lt place (page * n)) [
      | inl under ↦ under
      | inr over ↦ (let e = le-div page place n some over in absurd (omega (arith, e, less)))
    ]

pub by_page : (place page n : ℕ) → 0 < n → place / n < page + 1 → place < page * n + n
by_page place page n some less = let e = before_page place (page + 1) n some less in omega (arith, e)

pub from_page : (place page n : ℕ) → page ≤ place / n → page * n ≤ place
from_page place page n low =
    let a : place / n * n ≤ place = div-mul-le_self place n in
    let b : page * n + (place / n - page) * n ≡ place / n * n = times page (place / n) n low in
    omega (arith, a, b)
  where
    times : (a b n : ℕ) → a ≤ b → a * n + (b - a) * n ≡ b * n
    times a b n low = let e : b ≡ a + (b - a) = omega (arith, low) in sym (ap (λ m. m * n) e ∙ split a (b - a) n)
      where
        split : (a c n : ℕ) → (a + c) * n ≡ a * n + c * n
        split a c n = omega arith

-- a page of so many rows has one
pub page_has_row : (count page n : ℕ) → 0 < n → page < (count + (n - 1)) / n → page * n < count
page_has_row count page n some less =
    let a : (page + 1) * n ≤ count + (n - 1) = from_page (count + (n - 1)) (page + 1) n (omega (arith, less)) in
    omega (arith, a, some)

-- and the page of a row is one of them
pub row_has_page : (count place n : ℕ) → 0 < n → place < count → place / n < (count + (n - 1)) / n
row_has_page count place n some less =
    let a : place / n * n ≤ place = div-mul-le_self place n in
    let e = le-div (place / n + 1) (count + (n - 1)) n some (omega (arith, a, less, some)) in
    omega (arith, e)
