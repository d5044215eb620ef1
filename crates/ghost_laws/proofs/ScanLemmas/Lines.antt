-- A row with one value for each selected column of an accepted query has a short line.
use Rattle.std.proofs.Common.{◌≡◌, ℕ, zero, suc, ◌+◌, ◌*◌, ◌≤◌, ◌^◌, ℤ, pos, negsuc, true, false, List, [], ◌∷◌, ◌++◌, map, flat_map, length, sym, ap, ◌∙◌, subst, refl, arith, Option, Some, None, nat_lt, nat_le, leb-true, length-append, codes}
use Rattle.std.specs.Prelude.{decimal}
use Rattle.std.specs.Fmt.{signed_decimal}
use Rattle.std.specs.List.{list_all, list_any, join_with_byte}
use Rattle.std.proofs.lemmas.Bool.{ltb-true, ltb-false, le-leb}
use Rattle.std.proofs.lemmas.Fmt.{length-decimal-le}
use Rattle.std.proofs.lemmas.List.{length-map}
use Rattle.ghost_model.specs.core.Schema.{Schema, Column, Kind, Integer, Chars, IntegerOrNull, CharsOrNull, plain_of, column_at}
use Rattle.ghost_model.specs.laws.SchemaTrees.{IsTree}
use Rattle.ghost_model.specs.core.Values.{Value, Null, Number, Text, Row}
use Rattle.ghost_model.specs.core.Query.{Query, Field}
use Rattle.ghost_model.specs.refusals.QueryGrammar.{ColumnText, Selection, All, Columns, QueryText}
use Rattle.ghost_model.specs.refusals.QueryMeaning.{meanings, from_tables, selected_fields, selected_count, columns_in, selection_columns, Means}
use Rattle.ghost_model.proofs.QueryReadingLemmas.{kept_rules}
use Rattle.ghost_model.specs.refusals.Tokens.{is_printable}
use Rattle.ghost_model.specs.core.Database.{is_of_kind, is_text, fits_integer}
use Rattle.ghost_model.specs.core.Asks.{kind_or_none, kind_at}
use Rattle.ghost_model.specs.core.Split.{are_of_kinds}
use Rattle.ghost_model.specs.core.Printed.{field_text}
use Rattle.ghost_model.proofs.ChannelLemmas.Tests.{hold_both}
use Rattle.ghost_model.proofs.MeaningLemmas.OneRow.{neither_true, both_true}
use Rattle.ghost_model.proofs.SessionLemmas.Accepted.{Each}
use Rattle.ghost_laws.specs.Selected.{LinesAreShort}

-- columns that have one meaning at most are no more than they are written
few_meanings : {X Y : Type 0} (f : X → List Y) (xs ys : List X) → list_any (λ x. nat_lt 1 (length (f x))) (xs ++ ys) ≡ false
    → length (flat_map f xs) ≤ length xs
few_meanings f [] ys h = omega arith
few_meanings f (x ∷ xs) ys h =
    let both = neither_true (nat_lt 1 (length (f x))) (list_any (λ y. nat_lt 1 (length (f y))) (xs ++ ys)) h in
    let one = ltb-false 1 (length (f x)) both.0 in
    let later = few_meanings f xs ys both.1 in
    let size = length-append (f x) (flat_map f xs) in
    omega (arith, one, later, size)

few_selected : (schema : Schema) (tree : QueryText) (selection : Selection) (others : List ColumnText)
    → nat_lt 32 (selected_count schema tree selection) ≡ false
    → list_any (λ column. nat_lt 1 (length (meanings schema (from_tables schema tree) column))) (selection_columns selection ++ others) ≡ false
    → length (selected_fields schema (from_tables schema tree) selection) ≤ 32
few_selected schema tree All others few once = ltb-false 32 (selected_count schema tree All) few
few_selected schema tree (Columns column more) others few once =
    let written = ltb-false 32 (length (column ∷ more)) few in
    let meant = few_meanings (meanings schema (from_tables schema tree)) (column ∷ more) others once in
    omega (arith, written, meant)

pub select_few : (schema : Schema) (text : List ℕ) (asked : Query) → Means schema text asked → length asked.select ≤ 32
select_few schema text asked means =
    let kept = kept_rules schema text means.tree means.keeps in
    let few = neither_true _ (nat_lt 32 (selected_count schema means.tree means.tree.selection)) kept.limits in
    let once = neither_true _ (list_any (λ column. nat_lt 1 (length (meanings schema (from_tables schema means.tree) column))) (columns_in means.tree)) kept.one_meaning in
    subst (λ (q : Query). length q.select ≤ 32) (sym means.means)
    (few_selected schema means.tree means.tree.selection _ few.1 once.1)

-- the text of a value
number_short : (n : ℕ) → n ≤ 2 ^ 63 → length (decimal n) ≤ 20
number_short n h = length-decimal-le 20 n (omega arith) (omega (arith, h)) (omega (arith, h))

integer_short : (number : ℤ) → fits_integer number ≡ true → length (signed_decimal number) ≤ 64
integer_short (pos n) h =
    let within = ltb-true n (2 ^ 63) h in
    let short = number_short n (omega (arith, within)) in
    omega (arith, short)
integer_short (negsuc n) h =
    let within = ltb-true n (2 ^ 63) h in
    let short = number_short (suc n) (omega (arith, within)) in
    omega (arith, short)

text_short : (most : ℕ) (text : List ℕ) → most ≤ 64 → is_text most text ≡ true → length text ≤ 64
text_short most text few h =
    let within = leb-true (length text) most (both_true (nat_le (length text) most) (list_all is_printable text) h).0 in
    omega (arith, within, few)

-- the text of NULL is empty
value_short : (kind : Kind) → ((most : ℕ) → plain_of kind ≡ Chars most → most ≤ 64) → (value : Value) → is_of_kind kind value ≡ true
    → length (field_text value) ≤ 64
value_short kind few Null h = omega arith
value_short Integer few (Number number) h = integer_short number h
value_short IntegerOrNull few (Number number) h = integer_short number h
value_short Integer few (Text text) h = let bad : ⊥ = cc in absurd bad
value_short IntegerOrNull few (Text text) h = let bad : ⊥ = cc in absurd bad
value_short (Chars most) few (Number number) h = let bad : ⊥ = cc in absurd bad
value_short (CharsOrNull most) few (Number number) h = let bad : ⊥ = cc in absurd bad
value_short (Chars most) few (Text text) h = text_short most text (few most refl) h
value_short (CharsOrNull most) few (Text text) h = text_short most text (few most refl) h

-- how long the texts of a kind may be
abbrev length_in : Kind → ℕ
length_in (Chars most) = most
length_in kind = 0

module _ (schema : Schema) (tree : IsTree schema) where
  texts_in : (table column : ℕ) (held : Column) → column_at schema table column ≡ Some held → (kind : Kind) → held.kind ≡ kind
      → (most : ℕ) → plain_of kind ≡ Chars most → most ≤ 64
  texts_in table column held h Integer is most same = let bad : ⊥ = cc in absurd bad
  texts_in table column held h IntegerOrNull is most same = let bad : ⊥ = cc in absurd bad
  texts_in table column held h (Chars other) is most same = (tree.text_lengths table column most held h (is ∙ same)).1
  texts_in table column held h (CharsOrNull other) is most same =
      (tree.nullable_text_lengths table column most held h (is ∙ ap (λ kind. CharsOrNull (length_in kind)) same)).1

  texts_short : (table column : ℕ) (o : Option Column) → column_at schema table column ≡ o → (most : ℕ) → plain_of (kind_or_none o) ≡ Chars most → most ≤ 64
  texts_short table column None h zero same = omega arith
  texts_short table column None h (suc most) same = let bad : ⊥ = cc in absurd bad
  texts_short table column (Some declared) h most same = texts_in table column declared h declared.kind refl most same

  each_short : (select : List Field) (row : Row) → are_of_kinds (map (λ (one : Field). kind_at schema one.table one.column) select) row ≡ true
      → (length row ≡ length select) × Each (λ (text : List ℕ). length text ≤ 64) (map field_text row)
  each_short [] [] h = (refl, tt)
  each_short [] (value ∷ row) h = let bad : ⊥ = cc in absurd bad
  each_short (one ∷ select) [] h = let bad : ⊥ = cc in absurd bad
  each_short (one ∷ select) (value ∷ row) h =
      let both = both_true (is_of_kind (kind_at schema one.table one.column) value) (are_of_kinds (map (λ (f : Field). kind_at schema f.table f.column) select) row) h in
      let later = each_short select row both.1 in (
        ap suc later.0,
        (value_short (kind_at schema one.table one.column) (texts_short one.table one.column (column_at schema one.table one.column) refl) value both.0, later.1),
      )

fields_short : (row : Row) → Each (λ (text : List ℕ). length text ≤ 64) (map field_text row)
    → list_all (λ value. nat_le (length (field_text value)) 64) row ≡ true
fields_short [] e = refl
fields_short (value ∷ row) e = hold_both _ _ (le-leb (length (field_text value)) 64 e.0) (fields_short row e.1)

-- the line
joined_short : (text : List ℕ) (texts : List (List ℕ)) → Each (λ (one : List ℕ). length one ≤ 64) (text ∷ texts)
    → length (join_with_byte 9 (text ∷ texts)) + 1 ≤ (length texts + 1) * 65
joined_short text [] e = let one = e.0 in omega (arith, one)
joined_short text (next ∷ texts) e =
    let one = e.0 in
    let later = joined_short next texts e.1 in
    let size = length-append text (9 ∷ join_with_byte 9 (next ∷ texts)) in
    omega (arith, one, later, size)

all_joined_short : (texts : List (List ℕ)) → Each (λ (one : List ℕ). length one ≤ 64) texts → length texts ≤ 32
    → length (join_with_byte 9 texts) ≤ 2079
all_joined_short [] e few = omega arith
all_joined_short (text ∷ texts) e few = let short = joined_short text texts e in omega (arith, short, few)

pub lines_are_short : LinesAreShort
lines_are_short schema tree text asked means row h =
    let each = each_short schema tree asked.select row h in
    let few = select_few schema text asked means in
    let many = each.0 in
    let texts = length-map row field_text in
    let fields : length (map field_text row) ≤ 32 = omega (arith, few, many, texts) in
    let joined = all_joined_short (map field_text row) each.1 fields in
    let front = length-append (codes "> ") (join_with_byte 9 (map field_text row) ++ 10 ∷ []) in
    let end = length-append (join_with_byte 9 (map field_text row)) (10 ∷ []) in
    record { values = omega (arith, few, many); fields = fields_short row each.1; line = omega (arith, joined, front, end) }
