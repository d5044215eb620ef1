-- How many pages of a list that was begun are to be read at most.
use Rattle.std.proofs.Common.{ℕ, zero, suc, ◌+◌, ◌-◌, ◌*◌, ◌/◌, ◌<◌, ◌≤◌, Bool, true, false, if◌then◌else◌, ap, sym, subst, arith}
use Rattle.std.proofs.lemmas.Nat.{le-div, div-add-mod', div_below}
use Rattle.std.proofs.Math.Nat.{mod-lt}
use Rattle.ghost_model.specs.forms.Gaps.{are_codes}
use Rattle.ghost_model.specs.forms.Runs.{per_page}
use Rattle.ghost_base.specs.declared.runs.Run.{Run}
use Rattle.ghost_base.specs.Runs.{run_of}
use Rattle.page_pool.specs.Pools.{Pool}
use Rattle.flash_pages.specs.declared.cursor.RunCursor.{RunCursor}
use Rattle.flash_pages.specs.Cursors.{codes_here, page_last, page_next, unread_list, will_read}
use Rattle.id_merge.proofs.Unread.{bit_most, div_mono}
use Rattle.spill_pass.specs.FewPages.{IsFresh}
use Rattle.spill_pass.specs.Lists.{ids_in_page}
use Rattle.spill_pass.specs.Sources.{IsIdWidth, Codes, Identifiers}

-- so many records on, the page is no more than that many pages on, and one
pages_on : (place more n : ℕ) → 0 < n → (place + more) / n ≤ place / n + more / n + 1
pages_on place more n some =
    let below : place + more < (place / n + more / n + 2) * n =
    omega (arith, div-add-mod' place n, div-add-mod' more n, mod-lt place some, mod-lt more some) in
    omega (arith, div_below (place + more) n (place / n + more / n + 2) some below)

either_few :
    (codes : Bool) (x y count n : ℕ) → x ≤ count / 682 + 1 → y ≤ count / n + 1 → (if codes then x else y) ≤ count / (if codes then 682 else n) + 1
either_few true x y count n few other = few
either_few false x y count n other few = few

pub fresh_pages :
    (pool : Pool) (run : RunCursor) → IsFresh run → 0 < run.list.run.width → run.list.run.width ≤ 2048
    → unread_list pool run ≤ run.list.count / ids_in_page run.list.run + 2
fresh_pages pool run fresh some fits =
    let n = per_page run.list.run.width in
    let first = run.list.first in
    let count = run.list.count in
    let of_codes = (((count - run.at) - codes_here run.place) + 681) / 682 in
    let records : 0 < n = omega (arith, le-div 1 2048 run.list.run.width some (omega (arith, fits))) in
    let codes : of_codes ≤ count / 682 + 1 = omega (arith, div_mono (((count - run.at) - codes_here run.place) + 681) (count + 682) 682 (omega arith) (omega arith)) in
    let last : page_last run - page_next run ≤ count / n + 1 =
    omega (arith, pages_on first count n records, div_mono (first + (count - 1)) (first + count) n records (omega arith), ap (λ p. p / n) fresh.place) in
    omega (arith, either_few (are_codes (run_of run.list.run)) of_codes (page_last run - page_next run) count n codes last, bit_most (will_read pool run))

-- no more than those of identifiers of four bytes, and no more than there are identifiers
pub few_pages : (run : Run) (count : ℕ) → IsIdWidth run.width → count / ids_in_page run ≤ count / 512
few_pages run count (Codes width) =
    let P : ℕ → Type 0 = λ w. count / ids_in_page (record run { width = w }) ≤ count / 512 in subst P (sym width) (omega arith)
few_pages run count (Identifiers width) =
    let P : ℕ → Type 0 = λ w. count / ids_in_page (record run { width = w }) ≤ count / 512 in subst P (sym width) (omega arith)

-- a quotient is no more than what is divided
quotient_most : (a n : ℕ) → 0 < n → a / n ≤ a
quotient_most a zero some = absurd (omega (arith, some))
quotient_most a (suc n) some = omega (arith, div-add-mod' a (suc n))

some_here : (codes : Bool) (n : ℕ) → 0 < n → 0 < (if codes then 682 else n)
some_here true n some = omega arith
some_here false n some = some

pub pages_most : (run : Run) (count : ℕ) → 0 < run.width → run.width ≤ 2048 → count / ids_in_page run ≤ count
pages_most run count some fits =
    quotient_most count (ids_in_page run)
    (some_here (are_codes (run_of run)) (per_page run.width) (omega (arith, le-div 1 2048 run.width some (omega (arith, fits)))))
