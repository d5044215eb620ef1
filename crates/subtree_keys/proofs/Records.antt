-- The identifiers in a record.
use Rattle.std.proofs.Common.{◌≡◌, refl, ap, sym, ◌∙◌, ℕ, zero, suc, ◌<◌, ◌≤◌, Bool, true, false, ◌&&◌, nat_le, List, [], ◌∷◌, ◌++◌, append-nil, length, drop, get_or, Some, None, drop-cons, arith}
use Rattle.std.specs.Prelude.{if◌then◌else◌}
use Rattle.std.proofs.Math.ListN.{drop_of_length-le}
use Rattle.std.proofs.lemmas.Bool.{and_parts, leb-true, lt-leb}
use Rattle.ghost_model.specs.forms.Runs.{number_in}
use Rattle.subtree_keys.specs.Tables.{identifiers, are_rows_of, row_spelled, AreRowsOf}

some_more : (x : ℕ) (xs rows : List ℕ) → 1 ≤ x → ((place : ℕ) → place < length rows → 1 ≤ get_or xs place 0)
    → (place : ℕ) → place < suc (length rows) → 1 ≤ get_or (x ∷ xs) place 0
some_more x xs rows here rest zero low = here
some_more x xs rows here rest (suc place) low = rest place (omega (arith, low))

within_more : (x count : ℕ) (xs rows : List ℕ) → x ≤ count → ((place : ℕ) → place < length rows → get_or xs place 0 ≤ get_or rows place 0)
    → (place : ℕ) → place < suc (length rows) → get_or (x ∷ xs) place 0 ≤ get_or (count ∷ rows) place 0
within_more x count xs rows here rest zero low = here
within_more x count xs rows here rest (suc place) low = rest place (omega (arith, low))

-- identifiers that pass the test are in range
pub in_range : (rows bytes : List ℕ) → are_rows_of rows bytes ≡ true → AreRowsOf rows (identifiers rows bytes)
in_range [] bytes e = record { count = refl; some = λ place low. absurd (omega (arith, low)); within = λ place low. absurd (omega (arith, low)) }
in_range (count ∷ rows) bytes e =
    let x = number_in bytes 0 in
    let later = drop 4 bytes in
    let both = and_parts (nat_le 1 x && nat_le x count) (are_rows_of rows later) e in
    let here = and_parts (nat_le 1 x) (nat_le x count) both.0 in
    let rest = in_range rows later both.1 in
    record {
      count = ap suc rest.count;
      some = some_more x (identifiers rows later) rows (leb-true 1 x here.0) rest.some;
      within = within_more x count (identifiers rows later) rows (leb-true x count here.1) rest.within;
    }

-- the part that is left has none more: these are all
pub all_read : (rows cell rest ids : List ℕ) (at : ℕ) → length rows ≤ at
    → identifiers rows cell ≡ ids ++ identifiers (drop at rows) rest → are_rows_of rows cell ≡ are_rows_of (drop at rows) rest
    → AreRowsOf rows ids
all_read rows cell rest ids at past read tested =
    let none : drop at rows ≡ [] = drop_of_length-le rows past in
    let same : identifiers rows cell ≡ ids = read ∙ (ap (λ xs. ids ++ identifiers xs rest) none ∙ append-nil ids) in
    let good : are_rows_of rows cell ≡ true = tested ∙ ap (λ xs. are_rows_of xs rest) none in
    rw same at (in_range rows cell good)

-- one that is out of range spoils the row
pub one_wrong : (rows cell rest : List ℕ) (at : ℕ) → at < length rows → are_rows_of rows cell ≡ are_rows_of (drop at rows) rest
    → (nat_le 1 (number_in rest 0) && nat_le (number_in rest 0) (get_or rows at 0)) ≡ false → None ≡ row_spelled rows cell
one_wrong rows cell rest at low tested wrong =
    let here = ap (λ xs. are_rows_of xs rest) (drop-cons rows at 0 low) in
    let bad = tested ∙ (here ∙ ap (λ b. b && are_rows_of (drop (suc at) rows) (drop 4 rest)) wrong) in
    sym (ap (λ b. if b then Some (identifiers rows cell) else None) bad)

no_more : (b : Bool) → (b && false) ≡ false
no_more true = refl
no_more false = refl

pub too_low : (x count : ℕ) → x < 1 → (nat_le 1 x && nat_le x count) ≡ false
too_low x count h = ap (λ b. b && nat_le x count) (lt-leb 1 x h)

pub too_high : (x count : ℕ) → count < x → (nat_le 1 x && nat_le x count) ≡ false
too_high x count h = ap (λ b. nat_le 1 x && b) (lt-leb x count h) ∙ no_more (nat_le 1 x)
