-- Cells spell their values, kind by kind.
use Rattle.std.proofs.Common.{◌≡◌, ℕ, ◌-◌, ◌≤◌, Bool, true, false, ◌&&◌, ◌==◌, nat_le, nat_lt, ℤ, ◌⊎◌, inl, inr, suc, List, [], ◌∷◌, length, length-append, replicate, IsTrue, IfSome, Option, Some, None, option_map, if◌then◌else◌, refl, sym, ap, subst, ◌∙◌, arith, eqb-true, eq-eqb, leb-true, le-leb}
use Rattle.std.specs.List.{list_all}
use Rattle.std.specs.Cmp.{first_so, second_so}
use Rattle.std.proofs.lemmas.List.{length-replicate}
use Rattle.ghost_model.specs.core.Schema.{Kind, Integer, Chars, IntegerOrNull, CharsOrNull, plain_of, is_nullable}
use Rattle.ghost_model.specs.core.Values.{Value, Null, Number, Text, is_null}
use Rattle.ghost_model.specs.refusals.Tokens.{is_printable}
use Rattle.ghost_model.specs.forms.Cells.{cell_width, encode_cell, padded}
use Rattle.ghost_model.specs.readings.CellReading.{decode_cell, null_or, is_zero, text_in, is_text_cell, from_lowest}
use Rattle.ghost_model.specs.readings.CellReading as reading
use Rattle.ghost_model.specs.core.Database.{is_of_kind}
use Rattle.ghost_base.specs.CellLaws.{IsCellOf}
use Rattle.ghost_base.specs.Views.{value_of}
use Rattle.ghost_base.specs.declared.value.Value as code
use Rattle.ghost_base.proofs.IntegerCells.{integer_read_back, integer_spelled, from_above, above_fits, from_fits, spelled_fits}
use Rattle.ghost_base.proofs.TextCells.{text_of_padded, padded_is_text_cell, padding_is_zero, zeros, text_spelled, text_is_short}

padded_length : (most : ℕ) (text : List ℕ) → length text ≤ most → length (padded most text) ≡ most
padded_length most text h = omega (arith, length-append text (replicate (most - length text) 0), length-replicate {A = ℕ} (most - length text) 0)

text_read_back : (most : ℕ) (text : List ℕ) → length text ≤ most → list_all is_printable text ≡ true
    → decode_cell (Chars most) (padded most text) ≡ Some (Text text)
text_read_back most text short printable =
    let long : (length (padded most text) == most) ≡ true = eq-eqb _ _ (padded_length most text short) in
    rw (long, padded_is_text_cell text (most - length text) printable, text_of_padded text (most - length text) printable) refl

integer_back : (z : ℤ) → IsTrue (is_of_kind Integer (Number z)) → decode_cell Integer (encode_cell Integer (Number z)) ≡ Some (Number z)
integer_back z h =
    ap (λ n. Some (Number (from_lowest n))) (integer_read_back _ (above_fits z h)) ∙ ap (λ n. Some (Number n)) (from_above z h)

text_back : (most : ℕ) (text : List ℕ) → IsTrue (is_of_kind (Chars most) (Text text))
    → decode_cell (Chars most) (encode_cell (Chars most) (Text text)) ≡ Some (Text text)
text_back most text h = text_read_back most text (leb-true _ _ (first_so _ _ h)) (second_so _ _ h)

zeros_read : (most : ℕ) → decode_cell (CharsOrNull most) (replicate (suc most) 0) ≡ Some Null
zeros_read most =
    let long : (length (replicate most 0) == most) ≡ true = eq-eqb _ _ (length-replicate {A = ℕ} most 0) in
    rw (long, padding_is_zero most) refl

pub reads_back : (kind : Kind) (value : Value) → IsTrue (is_of_kind kind value) → decode_cell kind (encode_cell kind value) ≡ Some value
reads_back Integer Null h = cc
reads_back Integer (Number z) h = integer_back z h
reads_back Integer (Text text) h = cc
reads_back (Chars most) Null h = cc
reads_back (Chars most) (Number z) h = cc
reads_back (Chars most) (Text text) h = text_back most text h
reads_back IntegerOrNull Null h = refl
reads_back IntegerOrNull (Number z) h = integer_back z h
reads_back IntegerOrNull (Text text) h = cc
reads_back (CharsOrNull most) Null h = zeros_read most
reads_back (CharsOrNull most) (Number z) h = cc
reads_back (CharsOrNull most) (Text text) h = text_back most text h

chosen : {X : Type 0} (b : Bool) (x y : X) → (if b then Some x else None) ≡ Some y → (b ≡ true) × (x ≡ y)
chosen true x y h = (refl, cc)
chosen false x y h = cc

spells_a_text : (most : ℕ) (bytes : List ℕ) (value : Value) → decode_cell (Chars most) bytes ≡ Some value → IsCellOf (Chars most) value bytes
spells_a_text most bytes value h =
    let p = chosen (length bytes == most && is_text_cell bytes) _ value h in
    let long : length bytes ≡ most = eqb-true _ _ (first_so _ _ p.0) in
    let text : is_text_cell bytes ≡ true = second_so (length bytes == most) _ p.0 in
    let short : nat_le (length (text_in bytes)) most ≡ true = le-leb _ _ (subst (λ n. length (text_in bytes) ≤ n) long (text_is_short bytes)) in
    let printable : list_all is_printable (text_in bytes) ≡ true = first_so _ _ text in
    subst (λ v. IsCellOf (Chars most) v bytes) p.1 record {
      held = rw (short, printable) refl;
      cell = text_spelled bytes text ∙ ap (λ n. padded n (text_in bytes)) long;
    }

spells_an_integer : (bytes : List ℕ) (value : Value) → IsTrue (list_all (λ byte. nat_lt byte 256) bytes)
    → decode_cell Integer bytes ≡ Some value → IsCellOf Integer value bytes
spells_an_integer bytes value small h =
    let p = chosen (length bytes == 8) _ value h in
    subst (λ v. IsCellOf Integer v bytes) p.1 record {
      held = from_fits _ (spelled_fits bytes small);
      cell = integer_spelled bytes (eqb-true _ _ p.0) small;
    }

-- a cell in a column that may be NULL: a byte 1 before a plain cell, or zero bytes

flagged : (flag zero : Bool) (plain : Option Value) (value : Value)
    → (if flag then plain else if zero then Some Null else None) ≡ Some value
    → ((flag ≡ true) × (plain ≡ Some value)) ⊎ ((zero ≡ true) × (Null ≡ value))
flagged true zero plain value h = inl (refl, h)
flagged false zero plain value h = inr (chosen zero Null value h)

null_spelled : (width flag : ℕ) (cell : List ℕ) → (flag == 0 && (length cell == width && is_zero cell)) ≡ true → flag ∷ cell ≡ replicate (suc width) 0
null_spelled width flag cell h =
    let rest : (length cell == width && is_zero cell) ≡ true = second_so (flag == 0) _ h in
    let long : length cell ≡ width = eqb-true _ _ (first_so _ _ rest) in
    let front : flag ≡ 0 = eqb-true _ _ (first_so _ _ h) in
    let back : cell ≡ replicate (length cell) 0 = zeros cell (second_so (length cell == width) _ rest) in
    ap (λ f. f ∷ cell) front ∙ ap (λ c. 0 ∷ c) back ∙ ap (λ n. 0 ∷ replicate n 0) long

integer_or_null : (flag : ℕ) (cell : List ℕ) (value : Value) → flag ≡ 1 → IsCellOf Integer value cell → IsCellOf IntegerOrNull value (flag ∷ cell)
integer_or_null flag cell Null one h = let held = h.held in cc
integer_or_null flag cell (Number z) one h = record { held = h.held; cell = ap (λ f. f ∷ cell) one ∙ ap (λ c. 1 ∷ c) h.cell }
integer_or_null flag cell (Text text) one h = let held = h.held in cc

text_or_null : (most flag : ℕ) (cell : List ℕ) (value : Value) → flag ≡ 1 → IsCellOf (Chars most) value cell → IsCellOf (CharsOrNull most) value (flag ∷ cell)
text_or_null most flag cell Null one h = let held = h.held in cc
text_or_null most flag cell (Number z) one h = let held = h.held in cc
text_or_null most flag cell (Text text) one h = record { held = h.held; cell = ap (λ f. f ∷ cell) one ∙ ap (λ c. 1 ∷ c) h.cell }

spells_an_integer_or_null : (flag : ℕ) (cell : List ℕ) (value : Value) → IsTrue (list_all (λ byte. nat_lt byte 256) cell)
    → decode_cell IntegerOrNull (flag ∷ cell) ≡ Some value → IsCellOf IntegerOrNull value (flag ∷ cell)
spells_an_integer_or_null flag cell value small h =
    elim (flagged (flag == 1) (flag == 0 && (length cell == 8 && is_zero cell)) (decode_cell Integer cell) value h) [
      | inl p ↦ integer_or_null flag cell value (eqb-true _ _ p.0) (spells_an_integer cell value small p.1)
      | inr p ↦ subst (λ v. IsCellOf IntegerOrNull v (flag ∷ cell)) p.1 record { held = refl; cell = null_spelled 8 flag cell p.0 }
    ]

spells_a_text_or_null : (most flag : ℕ) (cell : List ℕ) (value : Value)
    → decode_cell (CharsOrNull most) (flag ∷ cell) ≡ Some value → IsCellOf (CharsOrNull most) value (flag ∷ cell)
spells_a_text_or_null most flag cell value h =
    elim (flagged (flag == 1) (flag == 0 && (length cell == most && is_zero cell)) (decode_cell (Chars most) cell) value h) [
      | inl p ↦ text_or_null most flag cell value (eqb-true _ _ p.0) (spells_a_text most cell value p.1)
      | inr p ↦ subst (λ v. IsCellOf (CharsOrNull most) v (flag ∷ cell)) p.1 record { held = refl; cell = null_spelled most flag cell p.0 }
    ]

pub spells_a_cell : (kind : Kind) (bytes : List ℕ) (value : Value) → IsTrue (list_all (λ byte. nat_lt byte 256) bytes)
    → decode_cell kind bytes ≡ Some value → IsCellOf kind value bytes
spells_a_cell Integer bytes value small h = spells_an_integer bytes value small h
spells_a_cell (Chars most) bytes value small h = spells_a_text most bytes value h
spells_a_cell IntegerOrNull [] value small h = cc
spells_a_cell IntegerOrNull (flag ∷ cell) value small h = spells_an_integer_or_null flag cell value (second_so _ _ small) h
spells_a_cell (CharsOrNull most) [] value small h = cc
spells_a_cell (CharsOrNull most) (flag ∷ cell) value small h = spells_a_text_or_null most flag cell value h

-- ---- a kind and the one without NULL

pub plain_is_plain : (kind : Kind) → is_nullable (plain_of kind) ≡ false
plain_is_plain Integer = refl
plain_is_plain (Chars most) = refl
plain_is_plain IntegerOrNull = refl
plain_is_plain (CharsOrNull most) = refl

pub plain_stays : (kind : Kind) → is_nullable kind ≡ false → plain_of kind ≡ kind
plain_stays Integer h = refl
plain_stays (Chars most) h = refl
plain_stays IntegerOrNull h = cc
plain_stays (CharsOrNull most) h = cc

pub plain_twice : (kind : Kind) → plain_of (plain_of kind) ≡ plain_of kind
plain_twice kind = plain_stays (plain_of kind) (plain_is_plain kind)

pub one_wider : (kind : Kind) → is_nullable kind ≡ true → cell_width kind ≡ suc (cell_width (plain_of kind))
one_wider Integer h = cc
one_wider (Chars most) h = cc
one_wider IntegerOrNull h = refl
one_wider (CharsOrNull most) h = refl

pub plain_held : (kind : Kind) (value : Value) → is_null value ≡ false → is_of_kind (plain_of kind) value ≡ is_of_kind kind value
plain_held kind Null h = cc
plain_held Integer (Number z) h = refl
plain_held (Chars most) (Number z) h = refl
plain_held IntegerOrNull (Number z) h = refl
plain_held (CharsOrNull most) (Number z) h = refl
plain_held Integer (Text text) h = refl
plain_held (Chars most) (Text text) h = refl
plain_held IntegerOrNull (Text text) h = refl
plain_held (CharsOrNull most) (Text text) h = refl

-- the cell of NULL, and that of another value in a column that may be NULL
pub null_cell : (kind : Kind) (value : Value) → is_null value ≡ true → IsTrue (is_of_kind kind value) → replicate (cell_width kind) 0 ≡ encode_cell kind value
null_cell Integer Null n h = cc
null_cell (Chars most) Null n h = cc
null_cell IntegerOrNull Null n h = refl
null_cell (CharsOrNull most) Null n h = refl
null_cell kind (Number z) n h = cc
null_cell kind (Text text) n h = cc

pub flagged_cell : (kind : Kind) (value : Value) → is_nullable kind ≡ true → is_null value ≡ false → IsTrue (is_of_kind kind value)
    → 1 ∷ encode_cell (plain_of kind) value ≡ encode_cell kind value
flagged_cell kind Null k n h = cc
flagged_cell Integer (Number z) k n h = cc
flagged_cell (Chars most) (Number z) k n h = cc
flagged_cell IntegerOrNull (Number z) k n h = refl
flagged_cell (CharsOrNull most) (Number z) k n h = cc
flagged_cell Integer (Text text) k n h = cc
flagged_cell (Chars most) (Text text) k n h = cc
flagged_cell IntegerOrNull (Text text) k n h = cc
flagged_cell (CharsOrNull most) (Text text) k n h = refl

-- what bytes spell in a column that may be NULL
pub nothing_read : (kind : Kind) → is_nullable kind ≡ true → decode_cell kind [] ≡ None
nothing_read Integer h = cc
nothing_read (Chars most) h = cc
nothing_read IntegerOrNull h = refl
nothing_read (CharsOrNull most) h = refl

pub flag_read : (kind : Kind) (flag : ℕ) (cell : List ℕ) → is_nullable kind ≡ true
    → decode_cell kind (flag ∷ cell)
    ≡ (if flag == 1 then decode_cell (plain_of kind) cell
    else if flag == 0 && (length cell == cell_width (plain_of kind) && is_zero cell) then Some Null
    else None)
flag_read Integer flag cell h = cc
flag_read (Chars most) flag cell h = cc
flag_read IntegerOrNull flag cell h = refl
flag_read (CharsOrNull most) flag cell h = refl

-- what is read from bytes is of the kind, and they are its cell
abbrev Reads : Kind → (bytes : List ℕ) → Option code.Value → Type 0
Reads kind bytes found =
    IfSome found (λ value. IsTrue (is_of_kind kind (value_of value))) × IfSome found (λ value. encode_cell kind (value_of value) ≡ bytes)

pub read_whole : (kind : Kind) (bytes : List ℕ) (found : Option code.Value) → IsTrue (list_all (λ byte. nat_lt byte 256) bytes)
    → option_map value_of found ≡ decode_cell kind bytes → Reads kind bytes found
read_whole kind bytes None small h = (tt, tt)
read_whole kind bytes (Some value) small h = let cell = spells_a_cell kind bytes (value_of value) small (sym h) in (cell.held, sym cell.cell)
