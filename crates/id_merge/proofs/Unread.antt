-- The pages that are still to be read for a list, at most.
use Rattle.std.proofs.Common.{◌≡◌, ℕ, ◌+◌, ◌-◌, ◌*◌, ◌/◌, ◌<◌, ◌≤◌, Bool, true, false, if◌then◌else◌, refl, arith}
use Rattle.std.proofs.lemmas.Nat.{le-div, div-add-mod', div_below}
use Rattle.std.proofs.Math.Nat.{mod-lt}
use Rattle.ghost_model.specs.forms.Runs.{per_page}
use Rattle.ghost_model.specs.forms.Gaps.{are_codes}
use Rattle.ghost_base.specs.Runs.{run_of}
use Rattle.page_pool.specs.Pools.{Pool}
use Rattle.flash_pages.specs.declared.cursor.RunCursor.{RunCursor}
use Rattle.flash_pages.proofs.ListFrames.{codes_by_width, records_by_width}
use Rattle.flash_pages.specs.Cursors.{codes_here, page_last, page_next, pages_behind, unread_list, will_read}

pub div_mono : (a b n : ℕ) → 0 < n → a ≤ b → a / n ≤ b / n
div_mono a b n some less = le-div (a / n) b n some (omega (arith, div-add-mod' a n, less))

pub bit_most : (b : Bool) → (if b then 1 else 0) ≤ 1
bit_most true = omega arith
bit_most false = omega arith

-- so many records on, the page is no more than that many pages on, and one
pages_on : (place more n : ℕ) → 0 < n → (place + more) / n ≤ place / n + more / n + 1
pages_on place more n some =
    let below : place + more < (place / n + more / n + 2) * n =
    omega (arith, div-add-mod' place n, div-add-mod' more n, mod-lt place some, mod-lt more some) in
    omega (arith, div_below (place + more) n (place / n + more / n + 2) some below)

-- the pages behind that of the next identifier, of records and of codes
first_if : (b : Bool) (x y : ℕ) → b ≡ true → (if b then x else y) ≡ x
first_if true x y is = refl
first_if false x y is = absurd (cc)

other_if : (b : Bool) (x y : ℕ) → b ≡ false → (if b then x else y) ≡ y
other_if true x y is = absurd (cc)
other_if false x y is = refl

pub codes_behind :
    (run : RunCursor) → run.list.run.width ≡ 1 → pages_behind run ≡ (((run.list.count - run.at) - codes_here run.place) + 681) / 682
codes_behind run width =
    first_if (are_codes (run_of run.list.run)) ((((run.list.count - run.at) - codes_here run.place) + 681) / 682) (page_last run - page_next run)
    (codes_by_width (run_of run.list.run) width)

pub records_behind : (run : RunCursor) → 4 ≤ run.list.run.width → pages_behind run ≡ page_last run - page_next run
records_behind run width =
    other_if (are_codes (run_of run.list.run)) ((((run.list.count - run.at) - codes_here run.place) + 681) / 682) (page_last run - page_next run)
    (records_by_width (run_of run.list.run) width)

-- few are: of records one for so many as a page has, and two more for a list
pub few_unread :
    (pool : Pool) (run : RunCursor) → 4 ≤ run.list.run.width → 0 < per_page run.list.run.width → run.place ≡ run.list.first + run.at
    → run.at ≤ run.list.count → unread_list pool run ≤ (run.list.count - run.at) / per_page run.list.run.width + 2
few_unread pool run width some here within =
    let n = per_page run.list.run.width in
    let last = run.list.first + (run.list.count - 1) in
    let goes : last ≤ run.place + (run.list.count - run.at) = omega (arith, within, here) in
    omega (
      arith,
      records_behind run width,
      pages_on run.place (run.list.count - run.at) n some,
      div_mono last (run.place + (run.list.count - run.at)) n some goes,
      bit_most (will_read pool run),
    )

-- of codes one for 682, and two more
pub few_codes : (pool : Pool) (run : RunCursor) → run.list.run.width ≡ 1 → unread_list pool run ≤ (run.list.count - run.at) / 682 + 2
few_codes pool run width =
    let left = run.list.count - run.at in
    omega (
      arith,
      codes_behind run width,
      div_mono ((left - codes_here run.place) + 681) (left + 682) 682 (omega arith) (omega arith),
      bit_most (will_read pool run),
    )
