-- The byte order of cells is the order of their values, kind by kind.
use Rattle.std.proofs.Common.{◌≡◌, ℕ, suc, zero, ◌+◌, ◌-◌, ◌*◌, ◌/◌, ◌%◌, ◌^◌, ◌<◌, ◌≤◌, true, ℤ, pos, negsuc, List, [], ◌∷◌, ◌++◌, length, replicate, IsTrue, refl, sym, ap, ap₂, ◌∙◌, arith, nat_cmp, int_cmp, Ordering, Less, Equal, Greater, mod-lt, mod-eq_of_lt, div-one, suc-mul, mul-le-mul_right, leb-true, w64}
use Rattle.std.proofs.Math.Nat.{mod-one, pow-succ'}
use Rattle.std.proofs.Math.Arith.{mod-mul}
use Rattle.std.proofs.lemmas.Bool.Decides.{nat_tests}
use Rattle.std.specs.Ordering.{ordering_then, MatchOrdering}
use Rattle.std.specs.Cmp.{nat_cmp_is, first_so, second_so}
use Rattle.std.specs.Cmp.Lexicographic.{slice_cmp}
use Rattle.std.specs.List.{list_all}
use Rattle.std.specs.Int.{bytes_high_first, byte_at, to_be_bytes}
use Rattle.ghost_model.specs.core.Schema.{Kind, Integer, Chars, IntegerOrNull, CharsOrNull}
use Rattle.ghost_model.specs.core.Values.{Value, Null, Number, Text}
use Rattle.ghost_model.specs.refusals.Tokens.{is_printable}
use Rattle.ghost_model.specs.forms.Cells.{encode_cell, above_lowest}
use Rattle.ghost_model.specs.core.Database.{is_of_kind, fits_integer, order_of}
use Rattle.ghost_base.specs.CellLaws.{byte_order}
use Rattle.ghost_base.proofs.IntegerCells.{above_fits}

-- ---- numbers and their digits

below : (w a b r s : ℕ) → a < b → r < w → a * w + r < b * w + s
below w a b r s h hr = omega (arith, mul-le-mul_right {m = suc a} {n = b} w h, suc-mul a w)

ranked : (w a b r s : ℕ) (o p : Ordering) → r < w → s < w → MatchOrdering o (a < b) (a ≡ b) (b < a) → MatchOrdering p (r < s) (r ≡ s) (s < r)
    → MatchOrdering (ordering_then o p) (a * w + r < b * w + s) (a * w + r ≡ b * w + s) (b * w + s < a * w + r)
ranked w a b r s Less p hr hs h k = below w a b r s h hr
ranked w a b r s Equal Less hr hs h k = omega (arith, ap (λ t. t * w) h)
ranked w a b r s Equal Equal hr hs h k = omega (arith, ap (λ t. t * w) h)
ranked w a b r s Equal Greater hr hs h k = omega (arith, ap (λ t. t * w) h)
ranked w a b r s Greater p hr hs h k = below w b a s r h hs

nat_ranks : (x y : ℕ) → MatchOrdering (nat_cmp x y) (x < y) (x ≡ y) (y < x)
nat_ranks x y = grind (arith, nat_tests)

positional : (w a b r s : ℕ) → r < w → s < w → ordering_then (nat_cmp a b) (nat_cmp r s) ≡ nat_cmp (a * w + r) (b * w + s)
positional w a b r s hr hs =
    nat_cmp_is _ _ _ (ranked w a b r s (nat_cmp a b) (nat_cmp r s) hr hs (nat_ranks a b) (nat_ranks r s))

worth_pos : (k : ℕ) → 0 < 256 ^ k
worth_pos zero = omega arith
worth_pos (suc k) = omega (arith, worth_pos k, pow-succ' 256 k)

digit : (k n : ℕ) → byte_at k n ≡ n / 256 ^ k % 256
digit zero n = ap (λ m. m % 256) (sym (div-one n))
digit (suc k) n = refl

low_digits : (k n : ℕ) → byte_at k n * 256 ^ k + n % 256 ^ k ≡ n % 256 ^ suc k
low_digits k n =
    ap (λ d. d * 256 ^ k + n % 256 ^ k) (digit k n)
    ∙ sym (mod-mul n {m = 256} {c = 256 ^ k} (omega arith) (worth_pos k))
    ∙ ap (λ w. n % w) (sym (pow-succ' 256 k))

byte_order_of_digits : (k m n : ℕ) → slice_cmp nat_cmp (bytes_high_first k m) (bytes_high_first k n) ≡ nat_cmp (m % 256 ^ k) (n % 256 ^ k)
byte_order_of_digits zero m n = rw (mod-one m, mod-one n) refl
byte_order_of_digits (suc k) m n =
    ap (ordering_then (nat_cmp (byte_at k m) (byte_at k n))) (byte_order_of_digits k m n)
    ∙ positional (256 ^ k) (byte_at k m) (byte_at k n) (m % 256 ^ k) (n % 256 ^ k) (mod-lt m (worth_pos k)) (mod-lt n (worth_pos k))
    ∙ ap₂ nat_cmp (low_digits k m) (low_digits k n)

-- ---- integers

above_order : (a b : ℤ) → IsTrue (fits_integer a) → IsTrue (fits_integer b) → nat_cmp (above_lowest a) (above_lowest b) ≡ int_cmp a b
above_order (pos a) (pos b) h k = grind (arith, nat_tests)
above_order (pos a) (negsuc b) h k = grind (arith, nat_tests)
above_order (negsuc a) (pos b) h k = grind (arith, nat_tests)
above_order (negsuc a) (negsuc b) h k = grind (arith, nat_tests)

integer_order : (a b : ℤ) → IsTrue (fits_integer a) → IsTrue (fits_integer b)
    → byte_order (to_be_bytes w64 (above_lowest a)) (to_be_bytes w64 (above_lowest b)) ≡ int_cmp a b
integer_order a b h k =
    byte_order_of_digits 8 (above_lowest a) (above_lowest b)
    ∙ ap₂ nat_cmp (mod-eq_of_lt (above_fits a h)) (mod-eq_of_lt (above_fits b k))
    ∙ above_order a b h k

-- ---- texts

zeros_alike : (n : ℕ) → byte_order (replicate n 0) (replicate n 0) ≡ Equal
zeros_alike zero = refl
zeros_alike (suc n) = zeros_alike n

zero_first : (x : ℕ) → is_printable x ≡ true → nat_cmp 0 x ≡ Less
zero_first x h = grind (arith, nat_tests)

zero_last : (x : ℕ) → is_printable x ≡ true → nat_cmp x 0 ≡ Greater
zero_last x h = grind (arith, nat_tests)

padded_order : (a b : List ℕ) (n m : ℕ) → length a + n ≡ length b + m → list_all is_printable a ≡ true → list_all is_printable b ≡ true
    → byte_order (a ++ replicate n 0) (b ++ replicate m 0) ≡ byte_order a b
padded_order [] [] n m e h k = let same : n ≡ m = omega arith in rw same (zeros_alike m)
padded_order [] (y ∷ ys) zero m e h k = absurd (omega arith)
padded_order [] (y ∷ ys) (suc n) m e h k = rw (zero_first y (first_so _ _ k)) refl
padded_order (x ∷ xs) [] n zero e h k = absurd (omega arith)
padded_order (x ∷ xs) [] n (suc m) e h k = rw (zero_last x (first_so _ _ h)) refl
padded_order (x ∷ xs) (y ∷ ys) n m e h k =
    ap (ordering_then (nat_cmp x y)) (padded_order xs ys n m (omega arith) (second_so _ _ h) (second_so _ _ k))

text_order : (most : ℕ) (a b : List ℕ) → IsTrue (is_of_kind (Chars most) (Text a)) → IsTrue (is_of_kind (Chars most) (Text b))
    → byte_order (encode_cell (Chars most) (Text a)) (encode_cell (Chars most) (Text b)) ≡ byte_order a b
text_order most a b h k =
    let short_a : length a ≤ most = leb-true _ _ (first_so _ _ h) in
    let short_b : length b ≤ most = leb-true _ _ (first_so _ _ k) in
    padded_order a b (most - length a) (most - length b) (omega arith) (second_so _ _ h) (second_so _ _ k)

pub cell_order : (kind : Kind) (a b : Value) → IsTrue (is_of_kind kind a) → IsTrue (is_of_kind kind b)
    → byte_order (encode_cell kind a) (encode_cell kind b) ≡ order_of a b
cell_order Integer Null b h k = cc
cell_order Integer (Number a) Null h k = cc
cell_order Integer (Number a) (Number b) h k = integer_order a b h k
cell_order Integer (Number a) (Text b) h k = cc
cell_order Integer (Text a) b h k = cc
cell_order (Chars most) Null b h k = cc
cell_order (Chars most) (Number a) b h k = cc
cell_order (Chars most) (Text a) Null h k = cc
cell_order (Chars most) (Text a) (Number b) h k = cc
cell_order (Chars most) (Text a) (Text b) h k = text_order most a b h k
cell_order IntegerOrNull Null Null h k = refl
cell_order IntegerOrNull Null (Number b) h k = refl
cell_order IntegerOrNull Null (Text b) h k = cc
cell_order IntegerOrNull (Number a) Null h k = refl
cell_order IntegerOrNull (Number a) (Number b) h k = integer_order a b h k
cell_order IntegerOrNull (Number a) (Text b) h k = cc
cell_order IntegerOrNull (Text a) b h k = cc
cell_order (CharsOrNull most) Null Null h k = zeros_alike (suc most)
cell_order (CharsOrNull most) Null (Number b) h k = cc
cell_order (CharsOrNull most) Null (Text b) h k = refl
cell_order (CharsOrNull most) (Number a) b h k = cc
cell_order (CharsOrNull most) (Text a) Null h k = refl
cell_order (CharsOrNull most) (Text a) (Number b) h k = cc
cell_order (CharsOrNull most) (Text a) (Text b) h k = text_order most a b h k
