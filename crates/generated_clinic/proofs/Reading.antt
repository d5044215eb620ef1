-- Records that were written are the records that are read.
use Rattle.std.proofs.Common.{◌≡◌, ◌≤◌, ◌<◌, ◌+◌, ℕ, zero, suc, List, [], ◌∷◌, length, map, refl, ap, length-append, arith}
use Rattle.csv.specs.Machine.{next_record}
use Rattle.csv.specs.Reading.{default_config, records_from, strip_bom}
use Rattle.csv.specs.Writing.{default_writer, read_back, row_text}
use Rattle.csv.specs.declared.parser.State.TheVariants as st
use Rattle.csv.proofs.RoundTrip.{read-write}
use Rattle.ghost_model.specs.core.Database.{records_of}
use Rattle.ghost_model.specs.core.Generated.{file_of}

none_left : (n : ℕ) → records_from default_config n st.StartRecord [] ≡ []
unfolding records_from next_record
none_left zero = refl
none_left (suc n) = refl

all_read : (n : ℕ) (records : List (List (List ℕ))) → length records < n
    → records_from default_config n st.StartRecord (file_of records) ≡ map read_back records
unfolding records_from
all_read zero records less = absurd (omega arith)
all_read (suc n) [] less = none_left (suc n)
all_read (suc n) (record_first ∷ records) less =
    rw (read-write record_first (file_of records)) (ap (λ (t : List (List (List ℕ))). read_back record_first ∷ t) (all_read n records (omega (arith, less))))

-- a record has its line feed at least
some_byte : (fields : List (List ℕ)) → 1 ≤ length (row_text default_writer fields)
some_byte fields = grind (arith, length-append)

pub no_fewer_bytes : (records : List (List (List ℕ))) → length records ≤ length (file_of records)
no_fewer_bytes [] = omega arith
no_fewer_bytes (fields ∷ records) =
    omega (arith, some_byte fields, no_fewer_bytes records, length-append (row_text default_writer fields) (file_of records))

-- a file that begins with `id,` has no byte order mark
pub file_read : (rest : List ℕ) (records : List (List (List ℕ))) → file_of records ≡ 105 ∷ 100 ∷ 44 ∷ rest
    → records_of (file_of records) ≡ map read_back records
unfolding strip_bom
file_read rest records begins =
    let unmarked : strip_bom (file_of records) ≡ file_of records = rw begins refl in
    rw unmarked (all_read (length (file_of records) + 1) records (omega (arith, no_fewer_bytes records)))

-- rows with a field at least are read back as they are
pub rows_back : (fields : ℕ → List (List ℕ)) → ((i : ℕ) → read_back (fields i) ≡ fields i) → (numbers : List ℕ)
    → map read_back (map fields numbers) ≡ map fields numbers
rows_back fields same [] = refl
rows_back fields same (i ∷ numbers) = rw (same i, rows_back fields same numbers) refl
