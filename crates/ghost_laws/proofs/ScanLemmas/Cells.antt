-- Bytes that are cells of some kinds spell one value of each of these kinds.
use Rattle.std.proofs.Common.{◌≡◌, ℕ, zero, suc, ◌<◌, ◌≤◌, ◌^◌, Bool, true, false, ◌&&◌, List, [], ◌∷◌, ◌++◌, length, take, drop, sym, subst, refl, arith, lit<, eqb-true, Option, Some, None, w64, if◌then◌else◌}
use Rattle.std.specs.Prelude.{is_some, option_to_list, ◌==◌}
use Rattle.std.specs.Int.{from_be_bytes}
use Rattle.std.specs.List.{list_all, prefix_len}
use Rattle.std.proofs.lemmas.Bool.{le-leb}
use Rattle.ghost_model.specs.core.Schema.{Kind, Integer, Chars, IntegerOrNull, CharsOrNull}
use Rattle.ghost_model.specs.core.Values.{Value, Null, Number, Text}
use Rattle.ghost_model.specs.refusals.Tokens.{is_printable}
use Rattle.ghost_model.specs.forms.Cells.{cell_width}
use Rattle.ghost_model.specs.readings.CellReading.{decode_cell, integer_spelled, text_spelled, null_or, from_lowest, text_in, is_not_zero, is_zero, is_text_cell}
use Rattle.ghost_model.specs.core.Database.{fits_integer, is_of_kind}
use Rattle.ghost_model.specs.forms.Frames.{AreBytes}
use Rattle.ghost_model.specs.core.NextMove.{are_cells}
use Rattle.ghost_model.specs.core.Split.{are_of_kinds}
use Rattle.ghost_model.specs.core.Replies.{values_in}
use Rattle.ghost_model.proofs.ChannelLemmas.Tests.{hold_both}
use Rattle.ghost_model.proofs.MeaningLemmas.OneRow.{both_true}

pub bytes_taken : (n : ℕ) (bytes : List ℕ) → AreBytes bytes → AreBytes (take n bytes)
bytes_taken zero bytes h i = lit< tt
bytes_taken (suc n) [] h i = lit< tt
bytes_taken (suc n) (byte ∷ bytes) h zero = h 0
bytes_taken (suc n) (byte ∷ bytes) h (suc i) = bytes_taken n bytes (λ j. h (suc j)) i

pub bytes_dropped : (n : ℕ) (bytes : List ℕ) → AreBytes bytes → AreBytes (drop n bytes)
bytes_dropped zero bytes h = h
bytes_dropped (suc n) [] h = λ i. lit< tt
bytes_dropped (suc n) (byte ∷ bytes) h = bytes_dropped n bytes (λ j. h (suc j))

integer_fits : (n : ℕ) → n < 2 ^ 64 → fits_integer (from_lowest n) ≡ true
integer_fits n h = grind arith

spelled_fits : (bytes : List ℕ) → AreBytes bytes → from_be_bytes w64 bytes < 2 ^ 64
spelled_fits bytes h = omega (arith, h 0, h 1, h 2, h 3, h 4, h 5, h 6, h 7)

no_longer : (n : ℕ) (xs : List ℕ) → length (take n xs) ≤ length xs
no_longer zero xs = omega arith
no_longer (suc n) [] = omega arith
no_longer (suc n) (x ∷ xs) = let later = no_longer n xs in omega (arith, later)

-- a value that a cell spells
value_if : (b : Bool) (value : Value) → is_some (if b then Some value else None) ≡ true → (b ≡ true) × ((if b then Some value else None) ≡ Some value)
value_if true value h = (refl, refl)
value_if false value h = let bad : ⊥ = cc in absurd bad

-- some bytes spell a value, which passes a test
abbrev Spells : (Value → Bool) → Option Value → Type 0
Spells test spelled = (value : Value) × (spelled ≡ Some value) × (test value ≡ true)

integer_cell : (bytes : List ℕ) → AreBytes bytes → is_some (integer_spelled bytes) ≡ true → Spells (is_of_kind Integer) (integer_spelled bytes)
integer_cell bytes h some =
    let value : Value = Number (from_lowest (from_be_bytes w64 bytes)) in
    let told = value_if (length bytes == 8) value some in
    (value, told.1, integer_fits (from_be_bytes w64 bytes) (spelled_fits bytes h))

text_cell : (most : ℕ) (bytes : List ℕ) → is_some (text_spelled most bytes) ≡ true → Spells (is_of_kind (Chars most)) (text_spelled most bytes)
text_cell most bytes some =
    let told = value_if (length bytes == most && is_text_cell bytes) (Text (text_in bytes)) some in
    let both = both_true (length bytes == most) (is_text_cell bytes) told.0 in
    let wide = eqb-true (length bytes) most both.0 in
    let short = no_longer (prefix_len is_not_zero bytes) bytes in
    let printable = both_true (list_all is_printable (text_in bytes)) _ both.1 in
    (Text (text_in bytes), told.1, hold_both _ _ (le-leb (length (text_in bytes)) most (omega (arith, wide, short))) printable.0)

integer_or_null : (value : Value) → is_of_kind Integer value ≡ true → is_of_kind IntegerOrNull value ≡ true
integer_or_null Null h = let bad : ⊥ = cc in absurd bad
integer_or_null (Number number) h = h
integer_or_null (Text text) h = let bad : ⊥ = cc in absurd bad

text_or_null : (most : ℕ) (value : Value) → is_of_kind (Chars most) value ≡ true → is_of_kind (CharsOrNull most) value ≡ true
text_or_null most Null h = let bad : ⊥ = cc in absurd bad
text_or_null most (Number number) h = let bad : ⊥ = cc in absurd bad
text_or_null most (Text text) h = h

-- behind the byte of a cell that may be NULL, or that of NULL
flagged : (test : Value → Bool) (one blank : Bool) (plain : Option Value) → test Null ≡ true → (is_some plain ≡ true → Spells test plain)
    → is_some (if one then plain else if blank then Some Null else None) ≡ true → Spells test (if one then plain else if blank then Some Null else None)
flagged test true blank plain null cell h = cell h
flagged test false true plain null cell h = (Null, refl, null)
flagged test false false plain null cell h = let bad : ⊥ = cc in absurd bad

null_cell : (test : Value → Bool) (width : ℕ) (plain : List ℕ → Option Value) (bytes : List ℕ) → test Null ≡ true
    → ((cell : List ℕ) → AreBytes cell → is_some (plain cell) ≡ true → Spells test (plain cell))
    → AreBytes bytes → is_some (null_or width plain bytes) ≡ true → Spells test (null_or width plain bytes)
null_cell test width plain [] null cell h some = let bad : ⊥ = cc in absurd bad
null_cell test width plain (flag ∷ bytes) null cell h some =
    flagged test (flag == 1) (flag == 0 && (length bytes == width && is_zero bytes)) (plain bytes) null (cell bytes (λ i. h (suc i))) some

cell_spells : (kind : Kind) (bytes : List ℕ) → AreBytes bytes → is_some (decode_cell kind bytes) ≡ true → Spells (is_of_kind kind) (decode_cell kind bytes)
cell_spells Integer bytes h some = integer_cell bytes h some
cell_spells (Chars most) bytes h some = text_cell most bytes some
cell_spells IntegerOrNull bytes h some =
    null_cell (is_of_kind IntegerOrNull) 8 integer_spelled bytes refl
    (λ cell small spells. let told = integer_cell cell small spells in (told.0, told.1, integer_or_null told.0 told.2)) h some
cell_spells (CharsOrNull most) bytes h some =
    null_cell (is_of_kind (CharsOrNull most)) most (text_spelled most) bytes refl
    (λ cell small spells. let told = text_cell most cell spells in (told.0, told.1, text_or_null most told.0 told.2)) h some

pub cells_spell : (kinds : List Kind) (bytes : List ℕ) → AreBytes bytes → are_cells kinds bytes ≡ true
    → are_of_kinds kinds (values_in kinds bytes) ≡ true
cells_spell [] bytes h cells = refl
cells_spell (kind ∷ kinds) bytes h cells =
    let both = both_true (is_some (decode_cell kind (take (cell_width kind) bytes))) (are_cells kinds (drop (cell_width kind) bytes)) cells in
    let first = cell_spells kind (take (cell_width kind) bytes) (bytes_taken (cell_width kind) bytes h) both.0 in
    let later = cells_spell kinds (drop (cell_width kind) bytes) (bytes_dropped (cell_width kind) bytes h) both.1 in
    subst (λ (o : Option Value). are_of_kinds (kind ∷ kinds) (option_to_list o ++ values_in kinds (drop (cell_width kind) bytes)) ≡ true) (sym first.1)
    (hold_both _ _ first.2 later)
