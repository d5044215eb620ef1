-- A record as it is read from a page.
use Rattle.std.proofs.Common.{◌≡◌, ℕ, zero, suc, ◌+◌, ◌-◌, ◌*◌, ◌/◌, ◌%◌, ◌^◌, ◌<◌, ◌≤◌, ◌++◌, ◌∙◌, ap, sym, inl, inr, min, List, [], ◌∷◌, length, take, drop, replicate, get_or, lit<, arith}
use Rattle.std.proofs.lemmas.Bool.{cases_lt}
use Rattle.std.proofs.lemmas.List.{take_all, drop-replicate}
use Rattle.std.proofs.lemmas.Nat.{div-mul-add, div-add-mod', le-div}
use Rattle.std.proofs.Math.Nat.{mod-lt}
use Rattle.ghost_model.specs.forms.Runs.{Run, page_of, slot_of, per_page, cell_in, record_at, number_in, found_in}

-- the slot of the page that was read is the record
pub record_read :
    (page : ℕ → List ℕ) (run : Run) (i records : ℕ) (bytes cell : List ℕ) → records ≡ per_page run.width
    → cell ≡ cell_in bytes run.width (i % records) → bytes ≡ page (run.first + i / records) → cell ≡ record_at page run i
unfolding record_at
record_read page run i records bytes cell size read held =
    read
    ∙ ap (λ b. cell_in b run.width (i % records)) held
    ∙ ap (λ n. cell_in (page (run.first + i / n)) run.width (i % n)) size

pub record_in_page :
    (page : ℕ → List ℕ) (run : Run) (i slot pages : ℕ) (bytes cell : List ℕ) → slot ≡ slot_of run i → pages ≡ i / per_page run.width
    → cell ≡ cell_in bytes run.width slot → bytes ≡ page (run.first + pages) → cell ≡ record_at page run i
unfolding record_at
record_in_page page run i slot pages bytes cell is before read held =
    read
    ∙ ap (λ b. cell_in b run.width slot) held
    ∙ ap (λ n. cell_in (page (run.first + n)) run.width slot) before
    ∙ ap (λ s. cell_in (page (page_of run i)) run.width s) is

-- the first eight bytes of a record, and bytes 0 after a shorter one
pub found_bytes :
    (cell : List ℕ) (count : ℕ) → count ≡ min (length cell) 8
    → take count cell ++ drop count (replicate {A = ℕ} 8 0) ≡ take 8 cell ++ drop (length cell) (replicate {A = ℕ} 8 0)
found_bytes cell count size =
    elim (cases_lt (length cell) 8) [
      | inl short ↦
          let e : count ≡ length cell = omega arith in
          ap (λ n. take n cell ++ drop n (replicate {A = ℕ} 8 0)) e
          ∙ ap (λ front. front ++ drop (length cell) (replicate {A = ℕ} 8 0)) (take_all (length cell) cell (omega arith) ∙ sym (take_all 8 cell (omega arith)))
      | inr long ↦
          let e : count ≡ 8 = omega arith in
          let none : 8 - length cell ≡ 0 = omega arith in
          ap (λ n. take n cell ++ drop n (replicate {A = ℕ} 8 0)) e
          ∙ ap (λ rest. take 8 cell ++ rest) (sym (drop-replicate (length cell) 8 0 ∙ ap (λ n. replicate {A = ℕ} n 0) none))
    ]

-- the first four bytes of a record are the first half of the number that its first eight bytes are
zeros_small : (n m i : ℕ) → get_or (drop n (replicate {A = ℕ} m 0)) i 0 < 256
zeros_small zero zero i = lit< tt
zeros_small zero (suc m) zero = lit< tt
zeros_small zero (suc m) (suc i) = zeros_small zero m i
zeros_small (suc n) zero i = lit< tt
zeros_small (suc n) (suc m) i = zeros_small n m i

front_small :
    (n : ℕ) (xs pad : List ℕ) → ((i : ℕ) → get_or xs i 0 < 256) → ((i : ℕ) → get_or pad i 0 < 256)
    → (i : ℕ) → get_or (take n xs ++ pad) i 0 < 256
front_small zero xs pad small rest i = rest i
front_small (suc n) [] pad small rest i = rest i
front_small (suc n) (x ∷ xs) pad small rest zero = small 0
front_small (suc n) (x ∷ xs) pad small rest (suc i) = front_small n xs pad (λ k. small (suc k)) rest i

first_half :
    (high e f g h found : ℕ) → e < 256 → f < 256 → g < 256 → h < 256
    → found ≡ high * 4294967296 + (h + g * 256 + f * 65536 + e * 16777216) → found / 4294967296 ≡ high
first_half high e f g h found e_small f_small g_small h_small is =
    let small : h + g * 256 + f * 65536 + e * 16777216 < 4294967296 = omega arith in
    ap (λ n. n / 4294967296) is ∙ div-mul-add high 4294967296 (h + g * 256 + f * 65536 + e * 16777216) small

pub found_begins :
    (cell : List ℕ) (found : ℕ) → 4 ≤ length cell → ((i : ℕ) → get_or cell i 0 < 256) → found ≡ found_in cell
    → found / 2 ^ 32 ≡ number_in cell 0
unfolding found_in number_in
found_begins [] found long small is = absurd (omega arith)
found_begins (a ∷ []) found long small is = absurd (omega arith)
found_begins (a ∷ b ∷ []) found long small is = absurd (omega arith)
found_begins (a ∷ b ∷ c ∷ []) found long small is = absurd (omega arith)
found_begins (a ∷ b ∷ c ∷ d ∷ others) found long small is =
    let rest = take 4 others ++ drop (length others) (replicate {A = ℕ} 4 0) in
    let below = front_small 4 others (drop (length others) (replicate {A = ℕ} 4 0)) (λ k. small (suc (suc (suc (suc k))))) (zeros_small (length others) 4) in
    let high = d + c * 256 + b * 65536 + a * 16777216 in
    first_half high (get_or rest 0 0) (get_or rest 1 0) (get_or rest 2 0) (get_or rest 3 0) found (below 0) (below 1) (below 2) (below 3) (omega (arith, is))
    ∙ omega arith

-- the place in a list after the last record of a page is that of another page
pub later_page :
    (first at count n later : ℕ) → 0 < n → at + min (n - 1 - (first + at) % n) (count - 1 - at) < later → later < count
    → (first + later) / n ≡ (first + at) / n → ⊥
later_page first at count n later some behind within same =
    let place = first + at in
    let whole = div-add-mod' place n in
    let upper : place / n * n + n ≤ first + later = omega (arith, whole, behind, within, mod-lt place some) in
    let next : (place / n + 1) * n ≤ first + later = omega (arith, upper) in
    omega (arith, same, le-div (place / n + 1) (first + later) n some next)
