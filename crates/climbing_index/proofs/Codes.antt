-- How long level files are, where their codes and lists stand, and what the numbers of the codes are.
use Rattle.std.proofs.Common.{◌≡◌, refl, ap, sym, ◌∙◌, ℕ, zero, suc, ◌+◌, ◌-◌, ◌*◌, ◌/◌, ◌%◌, ◌<◌, ◌≤◌, Bool, true, false, nat_lt, inl, inr, List, [], ◌∷◌, ◌++◌, length, length-append, take, replicate, get_or, slice_get, arith}
use Rattle.std.specs.Prelude.{if◌then◌else◌}
use Rattle.std.specs.List.{concat}
use Rattle.std.proofs.lemmas.Bool.{cases_lt, le-leb}
use Rattle.std.proofs.lemmas.List.{get_or_append_left, get_or-append-add}
use Rattle.ghost_model.specs.forms.Runs.{page_bytes, pages_of}
use Rattle.ghost_model.specs.forms.Gaps.{begin_code, code_of, code_or_none, code_place, filling, gaps_after, gaps_of, level_bytes, list_begin, with_code, with_codes, with_lists}
use Rattle.ghost_model.specs.laws.GapLaws.{AreLevelLists, LevelFilesFit}

-- ---- how many bytes

one_byte : (number : ℕ) → 1 ≤ length (code_of number)
one_byte number = by_tests (nat_lt number 128) (nat_lt number 16384)
  where
    by_tests : (small middle : Bool)
        → 1 ≤ length (if small then number ∷ [] else if middle then (128 + number / 128) ∷ number % 128 ∷ [] else (128 + number / 16384) ∷ (128 + number / 128 % 128) ∷ number % 128 ∷ [])
    by_tests true middle = omega arith
    by_tests false true = omega arith
    by_tests false false = omega arith

code_size : (bytes code : List ℕ) → length (with_code bytes code) ≡ length bytes + length (filling (length bytes) code) + length code
code_size bytes code =
    let both = length-append bytes (filling (length bytes) code ++ code) in
    let back = length-append (filling (length bytes) code) code in
    omega (arith, both, back)

no_filling : (place : ℕ) → filling place [] ≡ []
no_filling place =
    ap (λ b. if b then [] else replicate (page_bytes - place % page_bytes) 0x80) (le-leb (place % page_bytes + length (begin_code [])) page_bytes (omega arith))

codes_grow : (numbers bytes : List ℕ) → length bytes + length numbers ≤ length (with_codes bytes numbers)
unfolding with_codes
codes_grow [] bytes = omega arith
codes_grow (number ∷ numbers) bytes =
    let rest = codes_grow numbers (with_code bytes (code_of number)) in
    let size = code_size bytes (code_of number) in
    let one = one_byte number in
    omega (arith, rest, size, one)

codes_join : (first later bytes : List ℕ) → with_codes bytes (first ++ later) ≡ with_codes (with_codes bytes first) later
unfolding with_codes
codes_join [] later bytes = refl
codes_join (number ∷ numbers) later bytes = codes_join numbers later (with_code bytes (code_of number))

lists_are_codes : (lists : List (List ℕ)) (bytes : List ℕ) → with_lists bytes lists ≡ with_codes bytes (gaps_of lists)
unfolding with_codes with_lists
lists_are_codes [] bytes = refl
lists_are_codes (list ∷ lists) bytes =
    lists_are_codes lists (with_codes bytes (gaps_after 0 list)) ∙ sym (codes_join (gaps_after 0 list) (gaps_of lists) bytes)

gap_count : (before : ℕ) (list : List ℕ) → length (gaps_after before list) ≡ length list
gap_count before [] = refl
gap_count before (id ∷ list) = ap suc (gap_count id list)

pub gaps_count : (lists : List (List ℕ)) → length (gaps_of lists) ≡ length (concat lists)
gaps_count [] = refl
gaps_count (list ∷ lists) =
    let both = length-append (gaps_after 0 list) (gaps_of lists) in
    let all = length-append list (concat lists) in
    let here = gap_count 0 list in
    let rest = gaps_count lists in
    omega (arith, both, all, here, rest)

lists_grow : (lists : List (List ℕ)) (bytes : List ℕ) → length bytes ≤ length (with_lists bytes lists)
lists_grow lists bytes =
    let same = ap length (lists_are_codes lists bytes) in
    let more = codes_grow (gaps_of lists) bytes in
    omega (arith, same, more)

-- ---- a list ends before the file does

abbrev begin_from : (bytes : List ℕ) → (lists : List (List ℕ)) → (entry : ℕ) → ℕ
begin_from bytes lists entry =
    length (with_lists bytes (take entry lists)) + length (filling (length (with_lists bytes (take entry lists))) (begin_code (get_or lists entry [])))

ends_from : (lists : List (List ℕ)) (entry : ℕ) (bytes : List ℕ) → entry < length lists
    → begin_from bytes lists entry + length (get_or lists entry []) ≤ length (with_lists bytes lists)
unfolding with_codes with_lists
ends_from [] entry bytes low = absurd (omega (arith, low))
ends_from ([] ∷ lists) zero bytes low =
    let none = ap length (no_filling (length bytes)) in
    let more = lists_grow lists bytes in
    omega (arith, none, more)
ends_from ((id ∷ list) ∷ lists) zero bytes low =
    let more = lists_grow lists (with_codes bytes (gaps_after 0 (id ∷ list))) in
    let rest = codes_grow (gaps_after id list) (with_code bytes (code_of (id - 0))) in
    let size = code_size bytes (code_of (id - 0)) in
    let one = one_byte (id - 0) in
    let count = gap_count id list in
    let same : id - 0 ≡ id = omega arith in
    let begins = ap (λ n. length (filling (length bytes) (code_of n))) same in
    omega (arith, more, rest, size, one, count, begins)
ends_from (list ∷ lists) (suc entry) bytes low = ends_from lists entry (with_codes bytes (gaps_after 0 list)) (omega (arith, low))

pub list_ends : (lists : List (List ℕ)) (entry : ℕ) → entry < length lists
    → list_begin lists entry + length (get_or lists entry []) ≤ length (level_bytes lists)
list_ends lists entry low = ends_from lists entry [] low

-- ---- and a code does

abbrev place_from : (bytes numbers : List ℕ) → (k : ℕ) → ℕ
place_from bytes numbers k =
    length (with_codes bytes (take k numbers)) + length (filling (length (with_codes bytes (take k numbers))) (code_or_none (slice_get numbers k)))

stands_from : (numbers : List ℕ) (k : ℕ) (bytes : List ℕ) → k < length numbers → place_from bytes numbers k < length (with_codes bytes numbers)
unfolding with_codes
stands_from [] k bytes low = absurd (omega (arith, low))
stands_from (number ∷ numbers) zero bytes low =
    let rest = codes_grow numbers (with_code bytes (code_of number)) in
    let size = code_size bytes (code_of number) in
    let one = one_byte number in
    omega (arith, rest, size, one)
stands_from (number ∷ numbers) (suc k) bytes low = stands_from numbers k (with_code bytes (code_of number)) (omega (arith, low))

pub code_stands_before : (lists : List (List ℕ)) (k : ℕ) → k < length (gaps_of lists) → code_place (gaps_of lists) k < length (level_bytes lists)
code_stands_before lists k low =
    let here = stands_from (gaps_of lists) k [] low in
    let same = ap length (lists_are_codes lists []) in
    omega (arith, here, same)

-- ---- the file has room for its bytes

no_bytes : (lists : List (List ℕ)) (numbers : List ℕ) → gaps_of lists ≡ numbers → length numbers ≡ 0 → length (level_bytes lists) ≡ 0
unfolding with_codes
no_bytes lists [] e none = ap length (lists_are_codes lists [] ∙ ap (with_codes []) e)
no_bytes lists (number ∷ numbers) e none = absurd (omega (arith, none))

pub bytes_fit : LevelFilesFit → (rows : ℕ) (lists : List (List ℕ)) → AreLevelLists rows lists → length (level_bytes lists) ≤ page_bytes * pages_of rows 4
bytes_fit fit rows lists are =
    elim (cases_lt 0 rows) [
      | inl some ↦ (let room = fit rows lists are some in omega (arith, room))
      | inr none ↦ (let few = are.few in
          let count = gaps_count lists in
          let empty = no_bytes lists (gaps_of lists) refl (omega (arith, none, few, count)) in
          omega (arith, empty))
    ]

-- ---- the numbers of the codes

-- the identifier before one, of which one comes before the first
abbrev pub previous_id : (before : ℕ) → List ℕ → (i : ℕ) → ℕ
previous_id before list zero = before
previous_id before list (suc i) = get_or list i 0

one_later : (id : ℕ) (list : List ℕ) (i : ℕ) → get_or (id ∷ list) i 0 ≡ previous_id id list i
one_later id list zero = refl
one_later id list (suc i) = refl

gap_sum : (list : List ℕ) (before i : ℕ) → ((j : ℕ) → j < length list → previous_id before list j ≤ get_or list j 0) → i < length list
    → previous_id before list i + get_or (gaps_after before list) i 0 ≡ get_or list i 0
gap_sum [] before i rise low = absurd (omega (arith, low))
gap_sum (id ∷ list) before zero rise low = let more = rise 0 (omega arith) in omega (arith, more)
gap_sum (id ∷ list) before (suc i) rise low =
    let rest = gap_sum list id i (λ j less. let more = rise (suc j) (omega (arith, less)) in let same = one_later id list j in omega (arith, more, same)) (omega (arith, low)) in
    let same = one_later id list i in
    omega (arith, rest, same)

gap_most : (list : List ℕ) (before i : ℕ) → i < length list → get_or (gaps_after before list) i 0 ≤ get_or list i 0
gap_most [] before i low = absurd (omega (arith, low))
gap_most (id ∷ list) before zero low = omega arith
gap_most (id ∷ list) before (suc i) low = gap_most list id i (omega (arith, low))

-- those of a list come behind those of the lists before it
gap_at : (lists : List (List ℕ)) (entry i : ℕ) → i < length (get_or lists entry [])
    → get_or (gaps_of lists) (length (concat (take entry lists)) + i) 0 ≡ get_or (gaps_after 0 (get_or lists entry [])) i 0
gap_at [] entry i low = absurd (omega (arith, low))
gap_at (list ∷ lists) zero i low =
    let e : 0 + i ≡ i = omega arith in
    let count = gap_count 0 list in
    ap (λ n. get_or (gaps_after 0 list ++ gaps_of lists) n 0) e ∙ get_or_append_left (gaps_after 0 list) (gaps_of lists) 0 i (omega (arith, low, count))
gap_at (list ∷ lists) (suc entry) i low =
    let before = length-append list (concat (take entry lists)) in
    let count = gap_count 0 list in
    let at : length (list ++ concat (take entry lists)) + i ≡ length (gaps_after 0 list) + (length (concat (take entry lists)) + i) = omega (arith, before, count) in
    ap (λ n. get_or (gaps_after 0 list ++ gaps_of lists) n 0) at
    ∙ (get_or-append-add (gaps_after 0 list) (gaps_of lists) (length (concat (take entry lists)) + i) 0 ∙ gap_at lists entry i low)

-- an identifier is the one before it and the gap
pub next_id : (rows : ℕ) (lists : List (List ℕ)) → AreLevelLists rows lists → (entry i : ℕ) → entry < length lists → i < length (get_or lists entry [])
    → previous_id 0 (get_or lists entry []) i + get_or (gaps_of lists) (length (concat (take entry lists)) + i) 0 ≡ get_or (get_or lists entry []) i 0
next_id rows lists are entry i there low =
    let list = get_or lists entry [] in
    let sum = gap_sum list 0 i (rise list (are.each entry there).order) low in
    let at = gap_at lists entry i low in
    omega (arith, sum, at)
  where
    rise : (list : List ℕ) → ((i j : ℕ) → i < j → j < length list → get_or list i 0 < get_or list j 0) → (j : ℕ) → j < length list → previous_id 0 list j ≤ get_or list j 0
    rise list order zero low = omega arith
    rise list order (suc j) low = let less = order j (suc j) (omega arith) low in omega (arith, less)

-- no gap is above the rows
most_gap : (rows : ℕ) (lists : List (List ℕ)) → ((entry : ℕ) → entry < length lists → (i : ℕ) → i < length (get_or lists entry []) → get_or (get_or lists entry []) i 0 ≤ rows)
    → (k : ℕ) → k < length (gaps_of lists) → get_or (gaps_of lists) k 0 ≤ rows
most_gap rows [] each k low = absurd (omega (arith, low))
most_gap rows (list ∷ lists) each k low =
    let own = gaps_after 0 list in
    let count = gap_count 0 list in
    let both = length-append own (gaps_of lists) in
    elim (cases_lt k (length own)) [
      | inl here ↦ (let at = get_or_append_left own (gaps_of lists) 0 k here in
          let most = gap_most list 0 k (omega (arith, here, count)) in
          let row = each 0 (omega arith) k (omega (arith, here, count)) in
          omega (arith, at, most, row))
      | inr later ↦ (let n = k - length own in
          let e : k ≡ length own + n = omega (arith, later) in
          let at = ap (λ m. get_or (own ++ gaps_of lists) m 0) e ∙ get_or-append-add own (gaps_of lists) n 0 in
          let rest = most_gap rows lists (λ entry under. each (suc entry) (omega (arith, under))) n (omega (arith, e, both, low)) in
          omega (arith, at, rest))
    ]

pub gap_within : (rows : ℕ) (lists : List (List ℕ)) → AreLevelLists rows lists → (k : ℕ) → k < length (gaps_of lists) → get_or (gaps_of lists) k 0 ≤ rows
gap_within rows lists are k low = most_gap rows lists (λ entry there i under. (are.each entry there).within i under) k low
