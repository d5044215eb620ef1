-- What a catalog is spelled with are bytes: names are letters, digits and `_`, numbers are digits, and all else is fixed.
use Rattle.std.proofs.Common.{◌≡◌, ℕ, zero, suc, ◌<◌, ◌≤◌, Bool, true, false, nat_lt, List, [], ◌∷◌, ◌++◌, length, drop, flat_map, slice_get, Option, Some, None, codes, decimal, refl, ap, ◌∙◌, lit<, mod-lt, arith}
use Rattle.std.specs.List.{list_all}
use Rattle.std.specs.Int.{to_be_bytes, w32}
use Rattle.std.proofs.lemmas.Bool.{and_parts, ltb-true}
use Rattle.std.proofs.lemmas.Bool.Decides.{nat_tests}
use Rattle.std.proofs.lemmas.Fmt.{IsAscii-decimal}
use Rattle.ghost_model.specs.refusals.Tokens.{is_name_byte}
use Rattle.ghost_model.specs.laws.Spelled.{is_name}
use Rattle.ghost_model.specs.forms.Frames.{AreBytes}
use Rattle.ghost_model.specs.core.Schema.{Integer, Chars, IntegerOrNull, CharsOrNull, Kind, Column, Table, Schema, columns_or_none, column_at}
use Rattle.ghost_model.specs.laws.SchemaTrees.{IsTree}
use Rattle.ghost_model.specs.core.Channel.{Catalog}
use Rattle.ghost_model.specs.forms.Catalog.{kind_text, name_or_none, table_name, reference_text, hidden_text, column_text, table_text, canonical_text, is_version, counts_bytes, catalog_bytes}

no_bytes : AreBytes []
no_bytes i = lit< tt

more_bytes : (x : ℕ) (xs : List ℕ) → x < 256 → AreBytes xs → AreBytes (x ∷ xs)
more_bytes x xs m h zero = m
more_bytes x xs m h (suc i) = h i

append_bytes : (one other : List ℕ) → AreBytes one → AreBytes other → AreBytes (one ++ other)
append_bytes [] other h k = k
append_bytes (x ∷ one) other h k = more_bytes x (one ++ other) (h 0) (append_bytes one other (λ j. h (suc j)) k)

fixed_bytes : (bytes : List ℕ) → list_all (λ byte. nat_lt byte 256) bytes ≡ true → AreBytes bytes
fixed_bytes [] e = no_bytes
fixed_bytes (b ∷ bytes) e =
    let both = and_parts (nat_lt b 256) (list_all (λ byte. nat_lt byte 256) bytes) e in
    more_bytes b bytes (ltb-true b 256 both.0) (fixed_bytes bytes both.1)

-- texts in pieces
pieces_bytes : {X : Type 0} (piece : X → List ℕ) (xs : List X) → ((i : ℕ) (x : X) → slice_get xs i ≡ Some x → AreBytes (piece x))
    → AreBytes (flat_map piece xs)
pieces_bytes piece [] h = no_bytes
pieces_bytes piece (x ∷ xs) h = append_bytes (piece x) (flat_map piece xs) (h 0 x refl) (pieces_bytes piece xs (λ i y e. h (suc i) y e))

later_column : (columns : List Column) (i : ℕ) (column : Column) → slice_get (drop 1 columns) i ≡ Some column → slice_get columns (suc i) ≡ Some column
later_column [] i column e = e
later_column (first ∷ columns) i column e = e

-- numbers of four bytes, and decimal ones
number_bytes : (n : ℕ) → AreBytes (to_be_bytes w32 n)
number_bytes n zero = mod-lt _ (lit< tt)
number_bytes n (suc zero) = mod-lt _ (lit< tt)
number_bytes n (suc (suc zero)) = mod-lt _ (lit< tt)
number_bytes n (suc (suc (suc zero))) = mod-lt _ (lit< tt)
number_bytes n (suc (suc (suc (suc i)))) = lit< tt

decimal_bytes : (n : ℕ) → n ≤ 64 → AreBytes (decimal n)
decimal_bytes n h i = let below = IsAscii-decimal n (omega arith) i in omega (arith, below)

-- names
name_byte : (byte : ℕ) → is_name_byte byte ≡ true → byte < 256
name_byte byte e = grind (arith, nat_tests)

name_bytes : (word : List ℕ) → list_all is_name_byte word ≡ true → AreBytes word
name_bytes [] e = no_bytes
name_bytes (b ∷ word) e =
    let both = and_parts (is_name_byte b) (list_all is_name_byte word) e in
    more_bytes b word (name_byte b both.0) (name_bytes word both.1)

whole_name_bytes : (word : List ℕ) → is_name word ≡ true → AreBytes word
unfolding is_name
whole_name_bytes word e = name_bytes word (and_parts _ _ (and_parts _ _ (and_parts _ _ e).0).0).1

-- the parts of a schema that is a tree
found_name : (found : Option Table) → ((table : Table) → found ≡ Some table → AreBytes table.name) → AreBytes (name_or_none found)
found_name None h = no_bytes
found_name (Some table) h = h table refl

reference_bytes : (schema : Schema) → IsTree schema → (child : Option ℕ) → AreBytes (reference_text schema child)
reference_bytes schema tree None = no_bytes
reference_bytes schema tree (Some child) =
    append_bytes (codes " REFERENCES ") (table_name schema child ++ codes "(id)") (fixed_bytes (codes " REFERENCES ") refl)
    (append_bytes (table_name schema child) (codes "(id)")
    (found_name (slice_get schema child) (λ table e. whole_name_bytes table.name (tree.table_names_are_names child table e)))
    (fixed_bytes (codes "(id)") refl))

hidden_bytes : (hidden : Bool) → AreBytes (hidden_text hidden)
hidden_bytes true = fixed_bytes (codes " HIDDEN") refl
hidden_bytes false = no_bytes

chars_bytes : (most : ℕ) (behind : List ℕ) → most ≤ 64 → AreBytes behind → AreBytes (codes "CHAR(" ++ (decimal most ++ behind))
chars_bytes most behind h rest =
    append_bytes (codes "CHAR(") (decimal most ++ behind) (fixed_bytes (codes "CHAR(") refl)
    (append_bytes (decimal most) behind (decimal_bytes most h) rest)

kind_bytes : (kind : Kind) → ((most : ℕ) → kind ≡ Chars most → most ≤ 64) → ((most : ℕ) → kind ≡ CharsOrNull most → most ≤ 64)
    → AreBytes (kind_text kind)
kind_bytes Integer h n = fixed_bytes (codes "INTEGER") refl
kind_bytes (Chars most) h n = chars_bytes most (codes ")") (h most refl) (fixed_bytes (codes ")") refl)
kind_bytes IntegerOrNull h n = fixed_bytes (codes "INTEGER NULL") refl
kind_bytes (CharsOrNull most) h n = chars_bytes most (codes ") NULL") (n most refl) (fixed_bytes (codes ") NULL") refl)

column_bytes : (schema : Schema) → IsTree schema → (at i : ℕ) (column : Column) → column_at schema at i ≡ Some column
    → AreBytes (column_text schema column)
column_bytes schema tree at i column e =
    append_bytes (codes ", ") _ (fixed_bytes (codes ", ") refl)
    (append_bytes column.name _ (whole_name_bytes column.name (tree.names_are_names at i column e))
    (append_bytes (codes " ") _ (fixed_bytes (codes " ") refl)
    (append_bytes (kind_text column.kind) _ (kind_bytes column.kind (λ most k. (tree.text_lengths at i most column e k).1) (λ most k. (tree.nullable_text_lengths at i most column e k).1))
    (append_bytes (reference_text schema column.child) (hidden_text column.hidden) (reference_bytes schema tree column.child) (hidden_bytes column.hidden)))))

table_bytes : (schema : Schema) → IsTree schema → (at : ℕ) (table : Table) → slice_get schema at ≡ Some table → AreBytes (table_text schema table)
table_bytes schema tree at table e =
    append_bytes (codes "CREATE TABLE ") _ (fixed_bytes (codes "CREATE TABLE ") refl)
    (append_bytes table.name _ (whole_name_bytes table.name (tree.table_names_are_names at table e))
    (append_bytes (codes " (id INTEGER PRIMARY KEY") _ (fixed_bytes (codes " (id INTEGER PRIMARY KEY") refl)
    (append_bytes (flat_map (column_text schema) (drop 1 table.columns)) _
    (pieces_bytes (column_text schema) (drop 1 table.columns) (λ i column k.
    column_bytes schema tree at (suc i) column
    (ap (λ (found : Option Table). slice_get (columns_or_none found) (suc i)) e ∙ later_column table.columns i column k)))
    (append_bytes (codes ");") (10 ∷ []) (fixed_bytes (codes ");") refl) (fixed_bytes (10 ∷ []) refl)))))

one_byte : (version : ℕ) → is_version version ≡ true → AreBytes (version ∷ [])
one_byte version e = let few : version < 256 = grind (arith, nat_tests) in more_bytes version [] few no_bytes

pub catalog_is_bytes : (cat : Catalog) → IsTree cat.schema → is_version cat.version ≡ true → AreBytes (catalog_bytes cat)
catalog_is_bytes cat tree version =
    let text = canonical_text cat.schema in
    let counted = text ++ counts_bytes cat.counts in
    let sized = to_be_bytes w32 (length text) ++ counted in
    let numbered = to_be_bytes w32 cat.generation ++ sized in
    append_bytes (codes "GHOSTDB") (cat.version ∷ numbered) (fixed_bytes (codes "GHOSTDB") refl)
    (append_bytes (cat.version ∷ []) numbered (one_byte cat.version version)
    (append_bytes (to_be_bytes w32 cat.generation) sized (number_bytes cat.generation)
    (append_bytes (to_be_bytes w32 (length text)) counted (number_bytes (length text))
    (append_bytes text (counts_bytes cat.counts) (pieces_bytes (table_text cat.schema) cat.schema (λ at table e. table_bytes cat.schema tree at table e))
    (pieces_bytes (to_be_bytes w32) cat.counts (λ i count e. number_bytes count))))))
