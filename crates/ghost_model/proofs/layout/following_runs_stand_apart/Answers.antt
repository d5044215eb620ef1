use Rattle.std.proofs.Common.{◌≡◌, subst, ℕ, zero, suc, ◌+◌, ◌<◌, ◌≤◌, List, [], ◌∷◌, Some, slice_get, arith}
use Rattle.ghost_model.specs.forms.Runs.{Run}
use Rattle.ghost_model.specs.laws.LayoutLaws.{Follow}
use Rattle.ghost_model.proofs.layout.following_runs_stand_apart.Goals as goal

order : (room : Run → ℕ) (runs : List Run) (begin after : ℕ) → Follow room begin runs after → begin ≤ after
order room [] begin after h = omega (arith, h)
order room (run ∷ runs) begin after h = let later = order room runs (begin + room run) after h.1 in omega (arith, later)

inside : (room : Run → ℕ) (runs : List Run) (begin after : ℕ) → Follow room begin runs after
    → (place : ℕ) (run : Run) → slice_get runs place ≡ Some run → (begin ≤ run.first) × (run.first + room run ≤ after)
inside room [] begin after h place run e = absurd (cc (e))
inside room (one ∷ runs) begin after h zero run e =
    let same : one ≡ run = cc in
    subst (λ r. (begin ≤ r.first) × (r.first + room r ≤ after)) same
    (let later = order room runs (begin + room one) after h.1 in (omega (arith, h.0), omega (arith, h.0, later)))
inside room (one ∷ runs) begin after h (suc place) run e =
    let rest = inside room runs (begin + room one) after h.1 place run e in
    let low = rest.0 in (omega (arith, low), rest.1)

apart : (room : Run → ℕ) (runs : List Run) (begin after : ℕ) → Follow room begin runs after
    → (place later : ℕ) (run other : Run) → place < later → slice_get runs place ≡ Some run → slice_get runs later ≡ Some other
    → run.first + room run ≤ other.first
apart room [] begin after h place later run other low e f = absurd (cc (e))
apart room (one ∷ runs) begin after h place zero run other low e f = absurd (omega (arith, low))
apart room (one ∷ runs) begin after h zero (suc later) run other low e f =
    let same : one ≡ run = cc in
    subst (λ r. r.first + room r ≤ other.first) same
    (let next = inside room runs (begin + room one) after h.1 later other f in let low = next.0 in omega (arith, h.0, low))
apart room (one ∷ runs) begin after h (suc place) (suc later) run other low e f =
    apart room runs (begin + room one) after h.1 place later run other (omega (arith, low)) e f

pub returns : goal.returns
returns c = λ room begin runs after h. record {
  order = order room runs begin after h;
  inside = inside room runs begin after h;
  apart = apart room runs begin after h;
}
