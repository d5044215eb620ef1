use Rattle.std.proofs.Common.{ℕ, ◌+◌, ◌*◌, ◌/◌, ◌≤◌, arith}
use Rattle.std.proofs.Math.Nat.{mul-le-mul, div-mul-le_self}
use Rattle.std.proofs.lemmas.Nat.{le-div}
use Rattle.ghost_model.specs.forms.QueryWork.{bits}
use Rattle.ghost_model.specs.laws.QueryWorkLaws.{BitsAreLeast}
use Rattle.condition_lists.proofs.costs.work_grows.Goals as goal

bits_grow : BitsAreLeast → (number other : ℕ) → number ≤ other → bits number ≤ bits other
bits_grow laws number other more = let enough = laws.enough other in laws.least number (bits other) (omega (arith, more, enough))

shares_grow : (n m : ℕ) → n ≤ m → n / 64 ≤ m / 64
shares_grow n m more =
    let times = div-mul-le_self n 64 in
    le-div (n / 64) m 64 (omega arith) (omega (arith, times, more))

pub returns : goal.returns
returns c =
    let laws = c.bits_are_least.ensures in
    record {
      bits_grow = bits_grow laws;
      search = λ values others more. (let grow = bits_grow laws values others more in omega (arith, grow));
      union = λ lists others identifiers more a b. (
          let digits = bits_grow laws lists others a in
          let shares = shares_grow identifiers more b in
          let one : bits lists + 4 ≤ bits others + 4 = omega (arith, digits) in
          let two : 8 * lists + identifiers / 64 + 8 ≤ 8 * others + more / 64 + 8 = omega (arith, shares, a) in
          mul-le-mul one two);
    }
