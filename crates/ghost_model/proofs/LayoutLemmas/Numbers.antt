-- Numbers of records and of pages.
use Rattle.std.proofs.Common.{◌≡◌, ap, ◌∙◌, ℕ, suc, ◌+◌, ◌-◌, ◌*◌, ◌/◌, ◌%◌, ◌<◌, ◌≤◌, inl, inr, arith}
use Rattle.std.proofs.lemmas.Nat.{le-div}
use Rattle.std.proofs.lemmas.Bool.{cases_lt}
use Rattle.std.proofs.Math.Nat.{div-mul-le_self, mul-le-mul_right, suc-mul, le-mul_of_pos_right, le-div_iff_mul-le, mod-lt}
use Rattle.ghost_model.specs.forms.Runs.{per_page, pages_of}

pub some_per_page : (width : ℕ) → 0 < width → width ≤ 2048 → 0 < per_page width
some_per_page width wide narrow =
    let h : 1 ≤ 2048 / width = le-div 1 2048 width wide (omega (arith, narrow)) in omega (arith, h)

pub more_times : (n p : ℕ) → (n + 1) * p ≡ n * p + p
more_times n p = let e : n + 1 ≡ suc n = omega arith in ap (λ k. k * p) e ∙ suc-mul n p

few_times : (count p : ℕ) → 0 < p → (count + (p - 1)) / p ≤ count
few_times count p some =
    elim (cases_lt count ((count + (p - 1)) / p)) [
      | inl more ↦ (let h : (count + 1) * p ≤ count + (p - 1) = (le-div_iff_mul-le {k = p} {x = count + 1} {y = count + (p - 1)} some).0 (omega (arith, more)) in
          let few : count ≤ count * p = le-mul_of_pos_right count some in
          let times = more_times count p in
          absurd (omega (arith, h, few, times, some)))
      | inr few ↦ few
    ]

pub pages_few : (count width : ℕ) → 0 < width → width ≤ 2048 → pages_of count width ≤ count
pages_few count width wide narrow = few_times count (per_page width) (some_per_page width wide narrow)

pub place_within : (place count p : ℕ) → 0 < p → place < count → place / p < (count + (p - 1)) / p
place_within place count p some low =
    let times = more_times (place / p) p in
    let few = div-mul-le_self place p in
    let h : place / p + 1 ≤ (count + (p - 1)) / p = le-div (place / p + 1) (count + (p - 1)) p some (omega (arith, times, few, low, some)) in
    omega (arith, h)

pub remainder : (place p : ℕ) → 0 < p → place % p < p
remainder place p some = mod-lt place some

pub cell_within : (slot width : ℕ) → slot < per_page width → slot * width + width ≤ 2048
cell_within slot width low =
    let h : (slot + 1) * width ≤ 2048 / width * width = mul-le-mul_right width (omega (arith, low)) in
    let few = div-mul-le_self 2048 width in
    let times = more_times slot width in
    omega (arith, h, few, times)
