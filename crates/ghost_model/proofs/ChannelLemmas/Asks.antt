-- Lemmas on the spelling of cells and of asks.
use Rattle.std.proofs.Common.{◌≡◌, ℕ, zero, suc, ◌+◌, ◌-◌, ◌<◌, ◌≤◌, ◌^◌, Bool, true, false, ◌&&◌, List, [], ◌∷◌, ◌++◌, length, take, drop, slice_index, replicate, ◌∙◌, ap, subst, refl, arith, lit<, length-append, Option, Some, None, pos, negsuc, ℤ}
use Rattle.std.specs.Prelude.{◌==◌, nat_le, if◌then◌else◌, bytes_eq, flat_map}
use Rattle.std.specs.List.{list_all, prefix_len}
use Rattle.std.specs.Int.{to_be_bytes, w64}
use Rattle.std.proofs.lemmas.List.{length-replicate}
use Rattle.std.proofs.lemmas.Nat.{from_be_bytes-to_be_bytes_8}
use Rattle.std.proofs.lemmas.Bool.Decides.{nat_tests}
use Rattle.std.proofs.lemmas.Bool.{ltb-true, leb-true, le-leb}
use Rattle.std.proofs.lemmas.Slice.Eq.{bytes_eq-Decides}
use Rattle.std.proofs.Math.Seq.{drop-append_seam}
use Rattle.ghost_model.specs.core.Schema.{Schema, Kind, Integer, Chars, IntegerOrNull, CharsOrNull, plain_of}
use Rattle.ghost_model.specs.core.Query.{Test, Compared, IsNull, IsNotNull, Operator, Equal, Unequal, Less, AtMost, More, AtLeast}
use Rattle.ghost_model.specs.core.Channel.{Ask, ColumnTest}
use Rattle.ghost_model.specs.core.Groups.{ends}
use Rattle.ghost_model.specs.core.Asks as asks
use Rattle.ghost_model.specs.readings.AskReading as reading
use Rattle.ghost_model.specs.core.Values.{Value, Null, Number, Text}
use Rattle.ghost_model.specs.refusals.Tokens.{is_printable}
use Rattle.ghost_model.specs.core.Database.{is_of_kind, is_text, fits_integer}
use Rattle.ghost_model.specs.forms.Cells.{cell_width, encode_cell, above_lowest, padded}
use Rattle.ghost_model.specs.readings.CellReading.{decode_cell, integer_spelled, text_spelled, is_zero, from_lowest, text_in, is_text_cell, is_not_zero}
use Rattle.ghost_model.proofs.ChannelLemmas.Tests.{false_is_not, both_hold, hold_both, take_front, drop_front, BothHold}

-- an integer of 64 bits, its distance to the lowest and back
distance_bound : (z : ℤ) → fits_integer z ≡ true → above_lowest z < 2 ^ 64
distance_bound (pos n) e = let h : n < 2 ^ 63 = ltb-true n (2 ^ 63) e in omega (arith, h)
distance_bound (negsuc n) e = let h : n < 2 ^ 63 = ltb-true n (2 ^ 63) e in omega (arith, h)

above_half : (n : ℕ) → 2 ^ 63 ≤ n → nat_le (2 ^ 63) n ≡ true
above_half n h = grind (arith, nat_tests)

below_half : (n : ℕ) → n < 2 ^ 63 → nat_le (2 ^ 63) n ≡ false
below_half n h = grind (arith, nat_tests)

from_above : (n : ℕ) → 2 ^ 63 ≤ n → from_lowest n ≡ pos (n - 2 ^ 63)
from_above n h = rw (above_half n h)

from_below : (n : ℕ) → n < 2 ^ 63 → from_lowest n ≡ negsuc (2 ^ 63 - 1 - n)
from_below n h = rw (below_half n h)

back_from_lowest : (z : ℤ) → fits_integer z ≡ true → from_lowest (above_lowest z) ≡ z
back_from_lowest (pos n) e =
    let same : 2 ^ 63 + n - 2 ^ 63 ≡ n = omega arith in
    from_above (2 ^ 63 + n) (omega arith) ∙ ap (λ (k : ℕ). pos k) same
back_from_lowest (negsuc n) e =
    let h : n < 2 ^ 63 = ltb-true n (2 ^ 63) e in
    let same : 2 ^ 63 - 1 - (2 ^ 63 - suc n) ≡ n = omega (arith, h) in
    from_below (2 ^ 63 - suc n) (omega (arith, h)) ∙ ap (λ (k : ℕ). negsuc k) same

printable_is_not_zero : (byte : ℕ) → is_printable byte ≡ true → is_not_zero byte ≡ true
printable_is_not_zero byte e = grind (arith, nat_tests)

taken_on : (x : ℕ) (xs : List ℕ) → is_not_zero x ≡ true → text_in (x ∷ xs) ≡ x ∷ text_in xs
taken_on x xs e =
    let count : ℕ = prefix_len is_not_zero xs in
    let one : 1 + count ≡ suc count = omega arith in
    ap (λ (b : Bool). take (if b then 1 + count else 0) (x ∷ xs)) e ∙ ap (λ (n : ℕ). take n (x ∷ xs)) one

-- the text of a padded text
text_of_padded : (text : List ℕ) (n : ℕ) → list_all is_printable text ≡ true → text_in (text ++ replicate n 0) ≡ text
text_of_padded [] zero e = refl
text_of_padded [] (suc n) e = refl
text_of_padded (x ∷ xs) n e =
    let both : BothHold (is_printable x) (list_all is_printable xs) = both_hold _ _ e in
    let here : is_not_zero x ≡ true = printable_is_not_zero x both.one in
    taken_on x (xs ++ replicate n 0) here ∙ ap (λ (ys : List ℕ). x ∷ ys) (text_of_padded xs n both.other)

all_zero : (n : ℕ) → list_all (λ byte. byte == 0) (replicate n 0) ≡ true
all_zero zero = refl
all_zero (suc n) = all_zero n

padded_length : (most : ℕ) (text : List ℕ) → length text ≤ most → length (padded most text) ≡ most
padded_length most text h =
    length-append text (replicate (most - length text) 0)
    ∙ omega (arith, length-replicate {A = ℕ} (most - length text) 0, h)

same_number : (n : ℕ) → (n == n) ≡ true
same_number n = grind (arith, nat_tests)

is_padded_text : (most : ℕ) (text : List ℕ) → list_all is_printable text ≡ true → is_text_cell (padded most text) ≡ true
is_padded_text most text e =
    let inside : text_in (padded most text) ≡ text = text_of_padded text (most - length text) e in
    hold_both _ _
    (ap (λ (t : List ℕ). list_all is_printable t) inside ∙ e)
    (ap (λ (t : List ℕ). list_all (λ byte. byte == 0) (drop (length t) (padded most text))) inside
    ∙ (ap (λ (t : List ℕ). list_all (λ byte. byte == 0) t) (drop-append_seam text (replicate (most - length text) 0))
    ∙ all_zero (most - length text)))

decoded_if : (ok : Bool) (value other : Value) → ok ≡ true → value ≡ other → (if ok then Some value else None) ≡ Some other
decoded_if ok value other e f = rw (e, f)

integer_is_read : (z : ℤ) → fits_integer z ≡ true → integer_spelled (to_be_bytes w64 (above_lowest z)) ≡ Some (Number z)
integer_is_read z e =
    ap (λ (n : ℕ). Some (Number (from_lowest n))) (from_be_bytes-to_be_bytes_8 (above_lowest z) (distance_bound z e))
    ∙ ap (λ (n : ℤ). Some (Number n)) (back_from_lowest z e)

text_is_read : (most : ℕ) (text : List ℕ) → is_text most text ≡ true → text_spelled most (padded most text) ≡ Some (Text text)
text_is_read most text e =
    let both : BothHold (nat_le (length text) most) (list_all is_printable text) = both_hold _ _ e in
    let short : length text ≤ most = leb-true (length text) most both.one in
    let size : (length (padded most text) == most) ≡ true = ap (λ (n : ℕ). n == most) (padded_length most text short) ∙ same_number most in
    decoded_if (length (padded most text) == most && is_text_cell (padded most text)) (Text (text_in (padded most text))) (Text text)
    (hold_both _ _ size (is_padded_text most text both.other))
    (ap (λ (t : List ℕ). Text t) (text_of_padded text (most - length text) both.other))

all_zero_bytes : (most : ℕ) → (length (replicate {A = ℕ} most 0) == most && is_zero (replicate most 0)) ≡ true
all_zero_bytes most =
    hold_both _ _ (ap (λ (n : ℕ). n == most) (length-replicate {A = ℕ} most 0) ∙ same_number most) (all_zero most)

-- the cell of a value of its kind spells that value
pub cell_is_read : (kind : Kind) (value : Value) → is_of_kind kind value ≡ true → decode_cell kind (encode_cell kind value) ≡ Some value
cell_is_read Integer (Number z) e = integer_is_read z e
cell_is_read Integer (Text _) e = absurd (false_is_not e)
cell_is_read Integer Null e = absurd (false_is_not e)
cell_is_read (Chars most) (Number _) e = absurd (false_is_not e)
cell_is_read (Chars most) (Text text) e = text_is_read most text e
cell_is_read (Chars most) Null e = absurd (false_is_not e)
cell_is_read IntegerOrNull (Number z) e = integer_is_read z e
cell_is_read IntegerOrNull (Text _) e = absurd (false_is_not e)
cell_is_read IntegerOrNull Null e = refl
cell_is_read (CharsOrNull most) (Number _) e = absurd (false_is_not e)
cell_is_read (CharsOrNull most) (Text text) e = text_is_read most text e
cell_is_read (CharsOrNull most) Null e = decoded_if _ Null Null (all_zero_bytes most) refl

text_cell_length : (most : ℕ) (text : List ℕ) → is_text most text ≡ true → length (padded most text) ≡ most
text_cell_length most text e =
    let both : BothHold (nat_le (length text) most) (list_all is_printable text) = both_hold _ _ e in
    padded_length most text (leb-true (length text) most both.one)

-- the cell of a value of its kind has its width
pub cell_length : (kind : Kind) (value : Value) → is_of_kind kind value ≡ true → length (encode_cell kind value) ≡ cell_width kind
cell_length Integer (Number z) e = refl
cell_length Integer (Text _) e = absurd (false_is_not e)
cell_length Integer Null e = absurd (false_is_not e)
cell_length (Chars most) (Number _) e = absurd (false_is_not e)
cell_length (Chars most) (Text text) e = text_cell_length most text e
cell_length (Chars most) Null e = absurd (false_is_not e)
cell_length IntegerOrNull (Number z) e = refl
cell_length IntegerOrNull (Text _) e = absurd (false_is_not e)
cell_length IntegerOrNull Null e = refl
cell_length (CharsOrNull most) (Number _) e = absurd (false_is_not e)
cell_length (CharsOrNull most) (Text text) e = ap suc (text_cell_length most text e)
cell_length (CharsOrNull most) Null e = length-replicate {A = ℕ} (suc most) 0

-- the code of a test and what its byte says
code_below : (test : Test) → asks.test_code test < 128
code_below (Compared Equal literal) = lit< tt
code_below (Compared Unequal literal) = lit< tt
code_below (Compared Less literal) = lit< tt
code_below (Compared AtMost literal) = lit< tt
code_below (Compared More literal) = lit< tt
code_below (Compared AtLeast literal) = lit< tt
code_below IsNull = lit< tt
code_below IsNotNull = lit< tt

more_back : (code : ℕ) (more : Bool) → code < 128 → reading.says_more (code + (if more then 128 else 0)) ≡ more
more_back code true h = le-leb 128 (code + 128) (omega arith)
more_back code false h = grind (arith, nat_tests)

code_if : (byte code : ℕ) (more : Bool) → byte ≡ code + (if more then 128 else 0) → (if more then byte - 128 else byte) ≡ code
code_if byte code true e = omega (arith, e)
code_if byte code false e = omega (arith, e)

code_back : (code : ℕ) (more : Bool) → code < 128 → reading.code_in (code + (if more then 128 else 0)) ≡ code
code_back code more h =
    let byte : ℕ = code + (if more then 128 else 0) in
    ap (λ (b : Bool). if b then byte - 128 else byte) (more_back code more h) ∙ code_if byte code more refl

-- what is read after the code of an operator
compared_back : (kind : Kind) (operator : Operator) (cell : List ℕ)
    → reading.test_with kind (asks.operator_code operator) cell ≡ Compared operator (reading.value_or_none (decode_cell (plain_of kind) cell))
compared_back kind Equal cell = refl
compared_back kind Unequal cell = refl
compared_back kind Less cell = refl
compared_back kind AtMost cell = refl
compared_back kind More cell = refl
compared_back kind AtLeast cell = refl

compared_width : (kind : Kind) (operator : Operator) → cell_width (plain_of kind) ≡ reading.literal_width kind (asks.operator_code operator)
compared_width kind Equal = refl
compared_width kind Unequal = refl
compared_width kind Less = refl
compared_width kind AtMost = refl
compared_width kind More = refl
compared_width kind AtLeast = refl

-- the cell of a literal is as wide as its code says
pub literal_length : (kind : Kind) (test : Test) → asks.fits_kind kind test ≡ true → length (asks.literal_cell kind test) ≡ reading.literal_width kind (asks.test_code test)
literal_length kind (Compared operator literal) e = cell_length (plain_of kind) literal e ∙ compared_width kind operator
literal_length kind IsNull e = refl
literal_length kind IsNotNull e = refl

literal_back : (kind : Kind) (test : Test) → asks.fits_kind kind test ≡ true → reading.test_with kind (asks.test_code test) (asks.literal_cell kind test) ≡ test
literal_back kind (Compared operator literal) e =
    compared_back kind operator (encode_cell (plain_of kind) literal)
    ∙ ap (λ (v : Option Value). Compared operator (reading.value_or_none v)) (cell_is_read (plain_of kind) literal e)
literal_back kind IsNull e = refl
literal_back kind IsNotNull e = refl

abbrev test_with : ℕ → Test → Bool → ColumnTest
test_with column test more = record { column = column; test = test; more = more }

same_test : (one : ColumnTest) (test : Test) (more : Bool) → test ≡ one.test → more ≡ one.more → test_with one.column test more ≡ one
same_test one test more p q =
    ap (λ (t : Test). test_with one.column t more) p ∙ ap (λ (b : Bool). test_with one.column one.test b) q

drop_two : (n : ℕ) (a b : ℕ) (xs : List ℕ) → drop (2 + n) (a ∷ b ∷ xs) ≡ drop n xs
drop_two n a b xs = let two : 2 + n ≡ suc (suc n) = omega arith in ap (λ (k : ℕ). drop k (a ∷ b ∷ xs)) two

cons_tests : (a b : ColumnTest) (cs bs : List ColumnTest) → a ≡ b → cs ≡ bs → a ∷ cs ≡ b ∷ bs
cons_tests a b cs bs p q = cc

module _ (schema : Schema) where
  tests_back :
      (table : ℕ) (tests : List ColumnTest)
      → list_all (λ one. asks.fits_kind (asks.kind_at schema table one.column) one.test) tests ≡ true
      → reading.tests_in schema table (length tests) (flat_map (asks.test_bytes schema table) tests) ≡ tests
  unfolding reading.tests_in
  tests_back table [] e = refl
  tests_back table (one ∷ tests) e =
      let kind : Kind = asks.kind_at schema table one.column in
      let both : BothHold (asks.fits_kind kind one.test) (list_all (λ one. asks.fits_kind (asks.kind_at schema table one.column) one.test) tests) = both_hold _ _ e in
      let cell : List ℕ = asks.literal_cell kind one.test in
      let more : List ℕ = flat_map (asks.test_bytes schema table) tests in
      let byte : ℕ = asks.code_byte one in
      let code : reading.code_in byte ≡ asks.test_code one.test = code_back (asks.test_code one.test) one.more (code_below one.test) in
      let width : ℕ = reading.literal_width kind (asks.test_code one.test) in
      let size : length cell ≡ width = literal_length kind one.test both.one in
      let test : reading.test_with kind (reading.code_in byte) (take (reading.literal_width kind (reading.code_in byte)) (cell ++ more)) ≡ one.test =
      ap (λ (n : ℕ). reading.test_with kind n (take (reading.literal_width kind n) (cell ++ more))) code
      ∙ (ap (λ (xs : List ℕ). reading.test_with kind (asks.test_code one.test) xs) (take_front width cell more size)
      ∙ literal_back kind one.test both.one) in
      let after : drop (2 + reading.literal_width kind (reading.code_in byte)) (one.column ∷ byte ∷ (cell ++ more)) ≡ more =
      ap (λ (n : ℕ). drop (2 + reading.literal_width kind n) (one.column ∷ byte ∷ (cell ++ more))) code
      ∙ (drop_two width one.column byte (cell ++ more) ∙ drop_front width cell more size) in
      cons_tests _ one _ tests
      (same_test one _ _ test (more_back (asks.test_code one.test) one.more (code_below one.test)))
      (ap (λ (xs : List ℕ). reading.tests_in schema table (length tests) xs) after ∙ tests_back table tests both.other)

  abbrev ask_with : ℕ → List ℕ → List ColumnTest → Ask
  ask_with table columns tests = record { table = table; columns = columns; tests = tests }

  same_ask : (ask : Ask) (columns : List ℕ) (tests : List ColumnTest) → columns ≡ ask.columns → tests ≡ ask.tests → ask_with ask.table columns tests ≡ ask
  same_ask ask columns tests p q =
      ap (λ (c : List ℕ). ask_with ask.table c tests) p ∙ ap (λ (t : List ColumnTest). ask_with ask.table ask.columns t) q

  proper_tests : (ask : Ask) → asks.is_proper_ask schema ask ≡ true → list_all (λ one. asks.fits_kind (asks.kind_at schema ask.table one.column) one.test) ask.tests ≡ true
  proper_tests ask e =
      let ended : BothHold _ (ends (λ one. one.more) ask.tests) = both_hold _ _ e in
      let both : BothHold _ (list_all (λ one. asks.fits_kind (asks.kind_at schema ask.table one.column) one.test) ask.tests) = both_hold _ _ ended.one in
      both.other

  -- the ask that a proper ask's payload is like
  like_itself : (ask : Ask) → asks.is_proper_ask schema ask ≡ true → reading.ask_like schema (asks.ask_payload schema ask) ≡ ask
  like_itself ask e =
      let tests : List ℕ = flat_map (asks.test_bytes schema ask.table) ask.tests in
      let rest : List ℕ = length ask.tests ∷ tests in
      let after : drop (2 + length ask.columns) (asks.ask_payload schema ask) ≡ rest =
      drop_two (length ask.columns) ask.table (length ask.columns) (ask.columns ++ rest) ∙ drop_front (length ask.columns) ask.columns rest refl in
      same_ask ask _ _
      (take_front (length ask.columns) ask.columns rest refl)
      (ap (λ (xs : List ℕ). reading.tests_in schema ask.table (slice_index xs 0) (drop 1 xs)) after
      ∙ tests_back ask.table ask.tests (proper_tests ask e))

  abbrev judged : List ℕ → Ask → Option Ask
  judged payload ask = if asks.is_proper_ask schema ask && bytes_eq (asks.ask_payload schema ask) payload then Some ask else None

  same_bytes : (xs : List ℕ) → bytes_eq xs xs ≡ true
  same_bytes xs = (bytes_eq-Decides xs xs).1 refl

  some_if : (ok : Bool) (ask : Ask) → ok ≡ true → (if ok then Some ask else None) ≡ Some ask
  some_if ok ask e = rw e

  pub spelled_ask_is_read : (ask : Ask) → asks.is_proper_ask schema ask ≡ true → reading.ask_in schema (asks.ask_payload schema ask) ≡ Some ask
  spelled_ask_is_read ask e =
      ap (λ (a : Ask). judged (asks.ask_payload schema ask) a) (like_itself ask e)
      ∙ some_if _ ask (hold_both _ _ e (same_bytes (asks.ask_payload schema ask)))

  record IsJudged (ok : Bool) (ask found : Ask) : Type 0 where
    holds : ok ≡ true
    same : ask ≡ found

  none_is_not : (ask : Ask) → None ≡ Some ask → ⊥
  none_is_not ask e = cc

  same_some : (ask found : Ask) → Some ask ≡ Some found → ask ≡ found
  same_some ask found e = cc

  is_judged : (ok : Bool) (ask found : Ask) → (if ok then Some ask else None) ≡ Some found → IsJudged ok ask found
  is_judged true ask found e = record { holds = refl; same = same_some ask found e }
  is_judged false ask found e = absurd (none_is_not found e)

  pub read_ask_is_proper : (payload : List ℕ) (ask : Ask) → reading.ask_in schema payload ≡ Some ask → asks.is_proper_ask schema ask ≡ true
  read_ask_is_proper payload ask e =
      let way : IsJudged (asks.is_proper_ask schema (reading.ask_like schema payload) && bytes_eq (asks.ask_payload schema (reading.ask_like schema payload)) payload) (reading.ask_like schema payload) ask = is_judged _ _ ask e in
      let both : BothHold (asks.is_proper_ask schema (reading.ask_like schema payload)) (bytes_eq (asks.ask_payload schema (reading.ask_like schema payload)) payload) = both_hold _ _ way.holds in
      subst (λ (a : Ask). asks.is_proper_ask schema a ≡ true) way.same both.one

  pub read_ask_is_spelled : (payload : List ℕ) (ask : Ask) → reading.ask_in schema payload ≡ Some ask → asks.ask_payload schema ask ≡ payload
  read_ask_is_spelled payload ask e =
      let way : IsJudged (asks.is_proper_ask schema (reading.ask_like schema payload) && bytes_eq (asks.ask_payload schema (reading.ask_like schema payload)) payload) (reading.ask_like schema payload) ask = is_judged _ _ ask e in
      let both : BothHold (asks.is_proper_ask schema (reading.ask_like schema payload)) (bytes_eq (asks.ask_payload schema (reading.ask_like schema payload)) payload) = both_hold _ _ way.holds in
      subst (λ (a : Ask). asks.ask_payload schema a ≡ payload) way.same
      ((bytes_eq-Decides (asks.ask_payload schema (reading.ask_like schema payload)) payload).0 both.other)
