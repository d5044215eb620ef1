-- The pages that lists of entries use.
use Rattle.std.proofs.Common.{◌≡◌, ◌∙◌, ℕ, ◌*◌, ◌/◌, ◌<◌, ◌≤◌, ◌&&◌, ◌||◌, Bool, true, false, nat_lt, ap, refl, arith}
use Rattle.std.proofs.lemmas.Bool.{le-leb, lt-ltb}
use Rattle.std.proofs.lemmas.Nat.{le-div}
use Rattle.ghost_model.specs.forms.Runs as runs
use Rattle.ghost_model.specs.forms.Runs.{page_of, run_end}
use Rattle.ghost_base.specs.Runs.{run_of}
use Rattle.flash_pages.proofs.RunFrames.{place_in_run}
use Rattle.entry_lists.specs.declared.entries.EntryLists.{EntryLists}
use Rattle.entry_lists.specs.Entries.{is_in, level_run, source_of}

-- a page of a run that has a record is one of the run
pub in_run : (run : runs.Run) (i : ℕ) → 0 < run.width → run.width ≤ 2048 → i < run.count → is_in run (page_of run i) ≡ true
in_run run i some fits within =
    let whole : 1 * run.width ≤ 2048 = omega (arith, fits) in
    let records : 0 < 2048 / run.width = omega (arith, le-div 1 2048 run.width some whole) in
    let low = le-leb run.first (page_of run i) (omega arith) in
    let high = lt-ltb (page_of run i) (run_end run) (omega (arith, place_in_run i run.count (2048 / run.width) records within)) in
    ap (λ b. b && nat_lt (page_of run i) (run_end run)) low ∙ high

pub either : (a b : Bool) → a ≡ true → (a || b) ≡ true
either a b is = ap (λ x. x || b) is

pub other : (a b : Bool) → b ≡ true → (a || b) ≡ true
other true b is = refl
other false b is = is

-- those of the directory and of the lists are used
pub entry_used : (lists : EntryLists) (entry : ℕ) → 0 < lists.directory.run.width → lists.directory.run.width ≤ 2048 → entry < lists.directory.run.count
    → (source_of lists).uses (page_of (run_of lists.directory.run) entry) ≡ true
entry_used lists entry some fits within =
    let page = page_of (run_of lists.directory.run) entry in
    either (is_in (run_of lists.directory.run) page) (is_in (run_of (level_run lists.directory lists.level)) page)
    (in_run (run_of lists.directory.run) entry some fits within)

pub list_used : (lists : EntryLists) (i : ℕ) → i < (level_run lists.directory lists.level).count
    → (source_of lists).uses (page_of (run_of (level_run lists.directory lists.level)) i) ≡ true
list_used lists i within =
    let page = page_of (run_of (level_run lists.directory lists.level)) i in
    other (is_in (run_of lists.directory.run) page) (is_in (run_of (level_run lists.directory lists.level)) page)
    (in_run (run_of (level_run lists.directory lists.level)) i (omega arith) (omega arith) within)
