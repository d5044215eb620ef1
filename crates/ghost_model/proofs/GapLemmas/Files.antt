-- The bytes of a level file: its codes one after another, where each stands, and how many bytes they have.
use Rattle.std.proofs.Common.{◌≡◌, refl, ap, sym, ◌∙◌, subst, ℕ, suc, ◌+◌, ◌-◌, ◌*◌, ◌/◌, ◌%◌, ◌<◌, ◌≤◌, inl, inr, List, [], ◌∷◌, ◌++◌, length, take, drop, replicate, get_or, arith}
use Rattle.std.specs.Prelude.{nat_le}
use Rattle.std.proofs.lemmas.Bool.{cases_lt, cond-true, cond-false, le-leb, lt-leb}
use Rattle.std.proofs.lemmas.List.{append-nil, append_assoc, length-append, length-replicate, take-append-drop, take_more, take_all, drop_at}
use Rattle.std.proofs.lemmas.Option.{slice_get-get_or, slice_get_past}
use Rattle.ghost_model.specs.forms.Gaps.{code_of, gaps_after, gaps_of, filling, with_code, with_codes, with_lists, level_bytes, bytes_before, code_or_none, code_place}
use Rattle.ghost_model.proofs.GapLemmas.Codes.{code_short}

pub codes_joined : (xs ys : List ℕ) (bytes : List ℕ) → with_codes bytes (xs ++ ys) ≡ with_codes (with_codes bytes xs) ys
unfolding with_codes
codes_joined [] ys bytes = refl
codes_joined (x ∷ xs) ys bytes = codes_joined xs ys (with_code bytes (code_of x))

lists_joined : (lists : List (List ℕ)) (bytes : List ℕ) → with_lists bytes lists ≡ with_codes bytes (gaps_of lists)
unfolding with_codes with_lists
lists_joined [] bytes = refl
lists_joined (identifiers ∷ lists) bytes =
    lists_joined lists (with_codes bytes (gaps_after 0 identifiers)) ∙ sym (codes_joined (gaps_after 0 identifiers) (gaps_of lists) bytes)

-- a level file is the codes of its gaps
pub level_joined : (lists : List (List ℕ)) → level_bytes lists ≡ with_codes [] (gaps_of lists)
level_joined lists = lists_joined lists []

-- more codes come behind
continued : (numbers : List ℕ) (bytes : List ℕ) → (later : List ℕ) × (with_codes bytes numbers ≡ bytes ++ later)
unfolding with_codes
continued [] bytes = ([], sym (append-nil bytes))
continued (number ∷ numbers) bytes =
    let code = filling (length bytes) (code_of number) ++ code_of number in
    let rest = continued numbers (bytes ++ code) in
    (code ++ rest.0, rest.1 ∙ append_assoc bytes code rest.0)

-- filling
pub fits : (place : ℕ) (code : List ℕ) → place % 2048 + length code ≤ 2048 → filling place code ≡ []
fits place code low = cond-true (nat_le (place % 2048 + length code) 2048) [] (replicate (2048 - place % 2048) 128) (le-leb (place % 2048 + length code) 2048 low)

pub fills : (place : ℕ) (code : List ℕ) → 2048 < place % 2048 + length code → filling place code ≡ replicate (2048 - place % 2048) 128
fills place code more = cond-false (nat_le (place % 2048 + length code) 2048) [] (replicate (2048 - place % 2048) 128) (lt-leb (place % 2048 + length code) 2048 more)

fits_length : (place : ℕ) (code : List ℕ) → place % 2048 + length code ≤ 2048 → length (filling place code) ≡ 0
fits_length place code low = ap length (fits place code low)

fills_length : (place : ℕ) (code : List ℕ) → 2048 < place % 2048 + length code → length (filling place code) ≡ 2048 - place % 2048
fills_length place code more = ap length (fills place code more) ∙ length-replicate (2048 - place % 2048) 128

-- a code lies in one page
pub in_page : (place : ℕ) (code : List ℕ) → length code ≤ 3 → (place + length (filling place code)) % 2048 + length code ≤ 2048
in_page place code short =
    elim (cases_lt 2048 (place % 2048 + length code)) [
      | inl more ↦ (let size = fills_length place code more in
          let begin : (place + length (filling place code)) % 2048 ≡ 0 = omega (arith, size) in
          omega (arith, begin, short))
      | inr low ↦ (let size = fits_length place code low in
          let same : place + length (filling place code) ≡ place = omega (arith, size) in
          let at : (place + length (filling place code)) % 2048 ≡ place % 2048 = ap (λ n. n % 2048) same in
          omega (arith, at, low))
    ]

-- the bytes of so many codes of three bytes each
pub most_bytes : ℕ → ℕ
most_bytes count = 2048 * (count / 682) + 3 * (count % 682)

grows : (place count : ℕ) (code : List ℕ) → length code ≤ 3 → place ≤ most_bytes count
    → place + (length (filling place code) + length code) ≤ most_bytes (count + 1)
unfolding most_bytes
grows place count code short low =
    elim (cases_lt 2048 (place % 2048 + length code)) [
      | inl more ↦ (let size = fills_length place code more in omega (arith, size, short, low))
      | inr within ↦ (let size = fits_length place code within in omega (arith, size, short, low))
    ]

few_bytes : (numbers : List ℕ) (bytes : List ℕ) (count : ℕ) → length bytes ≤ most_bytes count → length (with_codes bytes numbers) ≤ most_bytes (count + length numbers)
unfolding with_codes
few_bytes [] bytes count low = subst (λ n. length bytes ≤ most_bytes n) (omega arith) low
few_bytes (number ∷ numbers) bytes count low =
    let code = code_of number in
    let more = grows (length bytes) count code (code_short number) low in
    let size : length (with_code bytes code) ≡ length bytes + (length (filling (length bytes) code) + length code) =
    length-append bytes (filling (length bytes) code ++ code) ∙ ap (λ n. length bytes + n) (length-append (filling (length bytes) code) code) in
    let rest = few_bytes numbers (with_code bytes code) (count + 1) (omega (arith, size, more)) in
    let same : count + 1 + length numbers ≡ count + suc (length numbers) = omega arith in
    subst (λ n. length (with_codes (with_code bytes code) numbers) ≤ most_bytes n) same rest

-- all codes have at most as many bytes
pub few : (numbers : List ℕ) → length (with_codes [] numbers) ≤ most_bytes (length numbers)
few numbers =
    let rest = few_bytes numbers [] 0 (omega arith) in
    let same : 0 + length numbers ≡ length numbers = omega arith in
    subst (λ n. length (with_codes [] numbers) ≤ most_bytes n) same rest

-- so many bytes of no more codes than rows leave room in the pages of four bytes for each row
pub room_left : (bytes count rows : ℕ) → bytes ≤ most_bytes count → count ≤ rows → 0 < rows → bytes + 512 ≤ 2048 * ((rows + 511) / 512)
unfolding most_bytes
room_left bytes count rows low within some =
    elim (cases_lt count 512) [
      | inl less ↦ omega (arith, low, less, some)
      | inr more ↦ omega (arith, low, more, within)
    ]

module _ (numbers : List ℕ) where
  pub place_is : (k : ℕ) → k < length numbers
      → code_place numbers k ≡ length (bytes_before numbers k) + length (filling (length (bytes_before numbers k)) (code_of (get_or numbers k 0)))
  place_is k low =
      ap (λ o. length (bytes_before numbers k) + length (filling (length (bytes_before numbers k)) (code_or_none o))) (slice_get-get_or numbers k 0 low)

  pub place_behind : (k : ℕ) → length numbers ≤ k → code_place numbers k ≡ length (bytes_before numbers k)
  place_behind k past =
      let bytes = bytes_before numbers k in
      let none = ap (λ o. length bytes + length (filling (length bytes) (code_or_none o))) (slice_get_past numbers k past) in
      let nothing = fits_length (length bytes) [] (omega arith) in
      none ∙ omega (arith, nothing)

  -- the bytes before the next code
  before_next : (k : ℕ) → k < length numbers → bytes_before numbers (k + 1) ≡ with_code (bytes_before numbers k) (code_of (get_or numbers k 0))
  unfolding with_codes
  before_next k low = ap (with_codes []) (take_more numbers k 0 low) ∙ codes_joined (take k numbers) (get_or numbers k 0 ∷ []) []

  pub behind : (k : ℕ) → k < length numbers
      → code_place numbers k + length (code_of (get_or numbers k 0)) ≡ length (bytes_before numbers (k + 1))
  behind k low =
      let bytes = bytes_before numbers k in
      let code = code_of (get_or numbers k 0) in
      let size = ap length (before_next k low) in
      let outer = length-append bytes (filling (length bytes) code ++ code) in
      let inner = length-append (filling (length bytes) code) code in
      let place = place_is k low in
      omega (arith, size, outer, inner, place)

  whole_from : (k : ℕ) → (later : List ℕ) × (with_codes [] numbers ≡ bytes_before numbers k ++ later)
  whole_from k =
      let rest = continued (drop k numbers) (bytes_before numbers k) in
      (rest.0, ap (with_codes []) (sym (take-append-drop k numbers)) ∙ (codes_joined (take k numbers) (drop k numbers) [] ∙ rest.1))

  pub before_within : (k : ℕ) → length (bytes_before numbers k) ≤ length (with_codes [] numbers)
  before_within k =
      let rest = whole_from k in
      let size = ap length rest.1 ∙ length-append (bytes_before numbers k) rest.0 in
      omega (arith, size)

  pub before_all : (k : ℕ) → length numbers ≤ k → bytes_before numbers k ≡ with_codes [] numbers
  before_all k past = ap (with_codes []) (take_all k numbers past)

  -- behind the bytes before a code stands its filling, and then the code
  pub stands_behind : (k : ℕ) → k < length numbers
      → (later : List ℕ)
      × (drop (length (bytes_before numbers k)) (with_codes [] numbers)
      ≡ filling (length (bytes_before numbers k)) (code_of (get_or numbers k 0)) ++ (code_of (get_or numbers k 0) ++ later))
  stands_behind k low =
      let bytes = bytes_before numbers k in
      let code = code_of (get_or numbers k 0) in
      let fill = filling (length bytes) code in
      let rest = whole_from (k + 1) in
      let whole : with_codes [] numbers ≡ bytes ++ (fill ++ (code ++ rest.0)) =
      rest.1 ∙ (ap (λ b. b ++ rest.0) (before_next k low) ∙ (append_assoc bytes (fill ++ code) rest.0 ∙ ap (λ b. bytes ++ b) (append_assoc fill code rest.0))) in
      (rest.0, ap (drop (length bytes)) whole ∙ drop_at bytes (fill ++ (code ++ rest.0)) (length bytes) refl)

  pub stands : (k : ℕ) → k < length numbers
      → (later : List ℕ) × (drop (code_place numbers k) (with_codes [] numbers) ≡ code_of (get_or numbers k 0) ++ later)
  stands k low =
      let bytes = bytes_before numbers k in
      let code = code_of (get_or numbers k 0) in
      let fill = filling (length bytes) code in
      let rest = whole_from (k + 1) in
      let whole : with_codes [] numbers ≡ (bytes ++ fill) ++ (code ++ rest.0) =
      rest.1 ∙ (ap (λ b. b ++ rest.0) (before_next k low) ∙ (append_assoc bytes (fill ++ code) rest.0
      ∙ (ap (λ b. bytes ++ b) (append_assoc fill code rest.0) ∙ sym (append_assoc bytes fill (code ++ rest.0))))) in
      let size : length (bytes ++ fill) ≡ code_place numbers k = length-append bytes fill ∙ sym (place_is k low) in
      (rest.0, ap (drop (code_place numbers k)) whole ∙ drop_at (bytes ++ fill) (code ++ rest.0) (code_place numbers k) size)
