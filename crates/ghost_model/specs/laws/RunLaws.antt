-- Laws of runs: a run is kept where its pages are, a part of a record stands at its place in the page, and the identifiers of a
-- run are those of its records.
use Rattle.std.specs.Prelude.{◌≡◌, ℕ, ◌+◌, ◌*◌, ◌^◌, ◌<◌, ◌≤◌, List, length, map, take, drop}
use Rattle.std.specs.List.{slice_range}
use Rattle.ghost_model.specs.forms.Runs.{page_bytes, Run, run_end, page_of, slot_of, record_at, HasRecords, Stores, number_in, number_cell, ids_from}

-- from one page up to another, which is not among them, the pages are the same
abbrev pub AgreeOn : (page other : ℕ → List ℕ) → (low high : ℕ) → Type 0
AgreeOn page other low high = (at : ℕ) → low ≤ at → at < high → other at ≡ page at

abbrev pub RunsAreKept : Type 0
RunsAreKept =
    (page other : ℕ → List ℕ) (run : Run) (records : List (List ℕ)) → 0 < run.width → run.width ≤ page_bytes
    → AgreeOn page other run.first (run_end run) → Stores page run records → Stores other run records

abbrev pub RecordsAreKept : Type 0
RecordsAreKept =
    (page other : ℕ → List ℕ) (run : Run) (records : List (List ℕ)) → 0 < run.width → run.width ≤ page_bytes
    → AgreeOn page other run.first (run_end run) → HasRecords page run records → HasRecords other run records

-- a part of a record, and a number in it
pub record PartsOfRecords : Type 0 where
  pub bytes :
      (page : ℕ → List ℕ) (run : Run) (place at size : ℕ) → at + size ≤ run.width
      → slice_range (page (page_of run place)) (slot_of run place * run.width + at) (slot_of run place * run.width + at + size)
      ≡ slice_range (record_at page run place) at (at + size)
  pub number :
      (page : ℕ → List ℕ) (run : Run) (place at : ℕ) → at + 4 ≤ run.width
      → number_in (page (page_of run place)) (slot_of run place * run.width + at) ≡ number_in (record_at page run place) at

-- numbers are read as they are written
abbrev pub NumbersAreRead : Type 0
NumbersAreRead = (number : ℕ) → number < 2 ^ 32 → number_in (number_cell number) 0 ≡ number

-- so many identifiers from a place on are those with which the records there begin
abbrev pub IdentifiersOfRecords : Type 0
IdentifiersOfRecords =
    (page : ℕ → List ℕ) (run : Run) (records : List (List ℕ)) → HasRecords page run records
    → (place count : ℕ) → place + count ≤ length records
    → ids_from page run place count ≡ map (λ bytes. number_in bytes 0) (take count (drop place records))
