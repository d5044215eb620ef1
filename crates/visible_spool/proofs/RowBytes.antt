-- The bytes of a row: its identifier and its cells.
use Rattle.std.proofs.Common.{◌≡◌, ◌≤◌, ◌+◌, ◌-◌, ◌∙◌, ap, ℕ, List, take, drop, arith}
use Rattle.std.specs.Int.{from_be_bytes, w32}
use Rattle.std.proofs.lemmas.List.{drop-take, take-take}
use Rattle.ghost_model.specs.forms.Runs.{number_in}
use Rattle.ghost_model.specs.core.Asks.{row_in}

pub first_four : (bytes : List ℕ) (size : ℕ) → 4 ≤ size → (row_in (take size bytes)).identifier ≡ number_in bytes 0
unfolding number_in
first_four bytes size some = ap (λ b. from_be_bytes w32 b) (take-take 4 size bytes some)

pub behind_four : (bytes : List ℕ) (size : ℕ) → 4 ≤ size → (row_in (take size bytes)).cells ≡ take (size - 4) (drop 4 bytes)
behind_four bytes size some =
    let e : size ≡ 4 + (size - 4) = omega (arith, some) in
    ap (λ n. drop 4 (take n bytes)) e ∙ drop-take 4 (size - 4) bytes
