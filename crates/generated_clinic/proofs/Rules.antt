-- Rows of which each keeps every rule, one after another.
use Rattle.std.proofs.Common.{◌≡◌, ◌≤◌, ◌<◌, ◌+◌, ◌*◌, ℕ, zero, suc, List, [], length, map, refl, length-append, arith}
use Rattle.std.specs.List.{range_with_len}
use Rattle.csv.specs.Writing.{default_writer, row_text}
use Rattle.ghost_model.specs.core.Schema.{Column}
use Rattle.ghost_model.specs.core.Values.{Database, Row}
use Rattle.ghost_model.specs.core.Generated.{file_of}
use Rattle.ghost_model.specs.refusals.LoadFaults.{row_faults, rows_faults, row_reference_faults, table_references}

pub no_row_faults : (table : ℕ) (columns : List Column) (fields : ℕ → List (List ℕ)) (start count : ℕ)
    → ((i : ℕ) → start ≤ i → i < start + count → row_faults table i columns (fields i) ≡ [])
    → rows_faults table start columns (map fields (range_with_len start count)) ≡ []
unfolding rows_faults
no_row_faults table columns fields start zero each = refl
no_row_faults table columns fields start (suc count) each =
    rw (each start (omega arith) (omega arith), no_row_faults table columns fields (start + 1) count (λ i low high. each i (omega (arith, low)) (omega (arith, high)))) refl

pub no_reference_faults : (database : Database) (table : ℕ) (columns : List Column) (row : ℕ → Row) (start count : ℕ)
    → ((i : ℕ) → start ≤ i → i < start + count → row_reference_faults database table (i + 1) 0 columns (row i) ≡ [])
    → table_references database table (start + 1) columns (map row (range_with_len start count)) ≡ []
unfolding table_references
no_reference_faults database table columns row start zero each = refl
no_reference_faults database table columns row start (suc count) each =
    rw (each start (omega arith) (omega arith), no_reference_faults database table columns row (start + 1) count (λ i low high. each i (omega (arith, low)) (omega (arith, high)))) refl

-- rows of at most so many bytes each
pub not_longer : (most : ℕ) (fields : ℕ → List (List ℕ)) (start count : ℕ)
    → ((i : ℕ) → start ≤ i → i < start + count → length (row_text default_writer (fields i)) ≤ most)
    → length (file_of (map fields (range_with_len start count))) ≤ most * count
not_longer most fields start zero each = omega arith
not_longer most fields start (suc count) each =
    let first = each start (omega arith) (omega arith) in
    let later = not_longer most fields (start + 1) count (λ i low high. each i (omega (arith, low)) (omega (arith, high))) in
    omega (arith, first, later, length-append (row_text default_writer (fields start)) (file_of (map fields (range_with_len (start + 1) count))))
