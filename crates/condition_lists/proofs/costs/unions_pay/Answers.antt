use Rattle.std.proofs.Common.{◌≡◌, ◌∙◌, ap, ℕ, ◌+◌, ◌*◌, ◌/◌, ◌≤◌, arith}
use Rattle.std.proofs.Math.Nat.{div-mul-le_self, add-mul}
use Rattle.std.proofs.lemmas.Nat.{le-div}
use Rattle.ghost_model.specs.forms.QueryWork.{bits}
use Rattle.condition_lists.proofs.costs.unions_pay.Goals as goal

pages : (n : ℕ) → n / 512 * 8 ≤ n / 64
pages n = let few = div-mul-le_self n 512 in le-div (n / 512 * 8) n 64 (omega arith) (omega (arith, few))

twice_more : (b d : ℕ) → (b + 4) * d ≡ (b + 2) * d + 2 * d
twice_more b d = let e : b + 4 ≡ b + 2 + 2 = omega arith in ap (λ n. n * d) e ∙ add-mul (b + 2) 2 d

pub returns : goal.returns
returns c = λ lists identifiers.
    let few = pages identifiers in
    let more = twice_more (bits lists) (8 * lists + identifiers / 64 + 8) in
    omega (arith, few, more)
