-- Rows below that lie in front of an area, as a subtree key table of one table.
use Rattle.std.proofs.Common.{◌≡◌, ℕ, ◌+◌, ◌/◌, ◌<◌, ◌≤◌, inl, sym, subst, arith}
use Rattle.ghost_model.specs.forms.Runs.{page_of, pages_of}
use Rattle.ghost_base.specs.declared.runs.Run.{Run}
use Rattle.ghost_base.specs.Runs.{run_of}
use Rattle.candidate_filter.specs.Sifts.{IsBeside}

-- no page of it is one of the area
pub beside_run : (run : Run) (first end i : ℕ) → run.width ≡ 4 → run.first + pages_of run.count 4 ≤ first → i < run.count → IsBeside first end (page_of (run_of run) i)
beside_run run first end i width before within =
    let P : ℕ → Type 0 = λ w. IsBeside first end (run.first + i / (2048 / w)) in
    let low : run.first + i / 512 < first = omega (arith, before, within) in
    let at : P 4 = inl low in
    subst P (sym width) at
