-- Codes of a list that are put one after another: where they end, and the list's gaps by their numbers.
use Rattle.std.proofs.Common.{◌≡◌, refl, sym, ap, ◌∙◌, ℕ, zero, suc, ◌+◌, ◌-◌, ◌<◌, ◌≤◌, List, [], ◌∷◌, ◌++◌, length, take, drop, get_or, arith}
use Rattle.std.proofs.lemmas.List.{get_or-map, length-append, length-map, take_more, take-append-drop}
use Rattle.ghost_model.specs.forms.Gaps.{code_of, filling, gaps_after, with_code, with_codes}
use Rattle.ghost_model.specs.laws.GapLaws.{AscendsTo}
use Rattle.edge_traits.specs.Devices.{Device}
use Rattle.flash_pages.specs.declared.code_filler.CodeFiller.{CodeFiller}
use Rattle.flash_pages.specs.CodeWriters.{CanPut, code_begin, code_end}
use Rattle.flash_pages.proofs.RunFrames.{can_fill_part}
use Rattle.index_lists.specs.Lists.{identifiers_of}
use Rattle.index_files.specs.Levels.{begin_behind, codes_end}

-- where codes end
pub ends_behind : (end : ℕ) (xs ys : List ℕ) → codes_end end (xs ++ ys) ≡ codes_end (codes_end end xs) ys
unfolding codes_end
ends_behind end [] ys = refl
ends_behind end (x ∷ xs) ys = ends_behind (code_end end x) xs ys

pub end_rises : (end : ℕ) (xs : List ℕ) → end ≤ codes_end end xs
unfolding codes_end
end_rises end [] = omega arith
end_rises end (x ∷ xs) = omega (arith, end_rises (code_end end x) xs)

pub end_none : (end : ℕ) → codes_end end [] ≡ end
unfolding codes_end
end_none end = refl

pub end_one : (end x : ℕ) → codes_end end (x ∷ []) ≡ code_end end x
unfolding codes_end
end_one end x = refl

pub end_more : (end : ℕ) (xs : List ℕ) (k : ℕ) → k < length xs → codes_end end (take (k + 1) xs) ≡ code_end (codes_end end (take k xs)) (get_or xs k 0)
end_more end xs k low =
    ap (λ ys. codes_end end ys) (take_more xs k 0 low) ∙ ends_behind end (take k xs) (get_or xs k 0 ∷ []) ∙ end_one (codes_end end (take k xs)) (get_or xs k 0)

pub end_part : (end : ℕ) (xs : List ℕ) (k : ℕ) → codes_end end (take k xs) ≤ codes_end end xs
end_part end xs k =
    omega (
      arith,
      end_rises (codes_end end (take k xs)) (drop k xs),
      sym (ends_behind end (take k xs) (drop k xs)) ∙ ap (λ ys. codes_end end ys) (take-append-drop k xs),
    )

-- the bytes of codes
pub codes_behind : (bytes xs ys : List ℕ) → with_codes bytes (xs ++ ys) ≡ with_codes (with_codes bytes xs) ys
unfolding with_codes
codes_behind bytes [] ys = refl
codes_behind bytes (x ∷ xs) ys = codes_behind (with_code bytes (code_of x)) xs ys

codes_one : (bytes : List ℕ) (x : ℕ) → with_codes bytes (x ∷ []) ≡ with_code bytes (code_of x)
unfolding with_codes
codes_one bytes x = refl

pub codes_none : (bytes : List ℕ) → with_codes bytes [] ≡ bytes
unfolding with_codes
codes_none bytes = refl

pub codes_more :
    (bytes xs : List ℕ) (k : ℕ) → k < length xs
    → with_codes bytes (take (k + 1) xs) ≡ with_code (with_codes bytes (take k xs)) (code_of (get_or xs k 0))
codes_more bytes xs k low =
    ap (λ ys. with_codes bytes ys) (take_more xs k 0 low) ∙ codes_behind bytes (take k xs) (get_or xs k 0 ∷ [])
    ∙ codes_one (with_codes bytes (take k xs)) (get_or xs k 0)

code_length : (bytes : List ℕ) (number : ℕ) → length (with_code bytes (code_of number)) ≡ code_end (length bytes) number
code_length bytes number =
    let code = code_of number in
    let fill = filling (length bytes) code in
    omega (arith, length-append bytes (fill ++ code), length-append fill code)

pub codes_length : (bytes xs : List ℕ) → length (with_codes bytes xs) ≡ codes_end (length bytes) xs
unfolding with_codes codes_end
codes_length bytes [] = refl
codes_length bytes (x ∷ xs) = codes_length (with_code bytes (code_of x)) xs ∙ ap (λ n. codes_end n xs) (code_length bytes x)

-- the identifier before one in a list
abbrev pub last_behind : (before : ℕ) → List ℕ → (k : ℕ) → ℕ
last_behind before identifiers zero = before
last_behind before identifiers (suc k) = get_or identifiers k 0

gaps_shift : (before identifier : ℕ) (later : List ℕ) (k : ℕ) → last_behind before (identifier ∷ later) (suc k) ≡ last_behind identifier later k
gaps_shift before identifier later zero = refl
gaps_shift before identifier later (suc k) = refl

pub gap_at :
    (before : ℕ) (identifiers : List ℕ) (k : ℕ) → k < length identifiers
    → get_or (gaps_after before identifiers) k 0 ≡ get_or identifiers k 0 - last_behind before identifiers k
gap_at before [] k low = absurd (omega (arith, low))
gap_at before (identifier ∷ later) zero low = refl
gap_at before (identifier ∷ later) (suc k) low =
    gap_at identifier later k (omega (arith, low)) ∙ ap (λ n. get_or later k 0 - n) (sym (gaps_shift before identifier later k))

pub gaps_count : (before : ℕ) (identifiers : List ℕ) → length (gaps_after before identifiers) ≡ length identifiers
gaps_count before [] = refl
gaps_count before (identifier ∷ later) = ap (λ n. suc n) (gaps_count identifier later)

pub last_more : (before : ℕ) (identifiers : List ℕ) (k : ℕ) → last_behind before identifiers (k + 1) ≡ get_or identifiers k 0
last_more before identifiers k = let next : k + 1 ≡ suc k = omega arith in ap (λ n. last_behind before identifiers n) next

-- where a list begins: at its first code, however many there are
pub begin_first : (end : ℕ) (identifiers : List ℕ) → 0 < length identifiers → begin_behind end (take 1 identifiers) ≡ code_begin end (get_or identifiers 0 0)
begin_first end [] some = absurd (omega (arith, some))
begin_first end (identifier ∷ later) some = refl

pub begin_kept :
    (end : ℕ) (identifiers : List ℕ) (k : ℕ) → 0 < k → begin_behind end (take (k + 1) identifiers) ≡ begin_behind end (take k identifiers)
begin_kept end identifiers zero some = absurd (omega (arith, some))
begin_kept end [] (suc k) some = let next : suc k + 1 ≡ suc (suc k) = omega arith in ap (λ n. begin_behind end (take n [])) next
begin_kept end (identifier ∷ later) (suc k) some =
    let next : suc k + 1 ≡ suc (suc k) = omega arith in ap (λ n. begin_behind end (take n (identifier ∷ later))) next

pub begin_none : (end : ℕ) → begin_behind end [] ≡ end
begin_none end = grind arith

pub row_after : (rows : List ℕ) (k before : ℕ) → k < length rows → before ≡ get_or rows k 0 + 1 → before ≡ last_behind 0 (identifiers_of rows) (k + 1)
row_after rows k before low is = is ∙ sym (get_or-map (λ row. row + 1) rows k 0 0 low) ∙ sym (last_more 0 (identifiers_of rows) k)

-- one row more of a list
module _ (rows : List ℕ) (start k count before : ℕ) (low : k < length rows) (is_before : before ≡ last_behind 0 (identifiers_of rows) k) (at : count ≡ codes_end start (take k (gaps_after 0 (identifiers_of rows)))) where
  low_here : k < length (identifiers_of rows)
  low_here = omega (arith, low, length-map rows (λ row. row + 1))

  low_gaps : k < length (gaps_after 0 (identifiers_of rows))
  low_gaps = omega (arith, low_here, gaps_count 0 (identifiers_of rows))

  here : get_or (identifiers_of rows) k 0 ≡ get_or rows k 0 + 1
  here = get_or-map (λ row. row + 1) rows k 0 0 low

  gap : get_or (gaps_after 0 (identifiers_of rows)) k 0 ≡ get_or rows k 0 + 1 - before
  gap = gap_at 0 (identifiers_of rows) k low_here ∙ (λ i. here i - sym is_before i)

  pub next_end : code_end count (get_or rows k 0 + 1 - before) ≡ codes_end start (take (k + 1) (gaps_after 0 (identifiers_of rows)))
  next_end = (λ i. code_end (at i) (sym gap i)) ∙ sym (end_more start (gaps_after 0 (identifiers_of rows)) k low_gaps)

  pub next_codes :
      (bytes : List ℕ) → with_code (with_codes bytes (take k (gaps_after 0 (identifiers_of rows)))) (code_of (get_or rows k 0 + 1 - before))
      ≡ with_codes bytes (take (k + 1) (gaps_after 0 (identifiers_of rows)))
  next_codes bytes =
      ap (λ n. with_code (with_codes bytes (take k (gaps_after 0 (identifiers_of rows)))) (code_of n)) (sym gap)
      ∙ sym (codes_more bytes (gaps_after 0 (identifiers_of rows)) k low_gaps)

  pub next_fits : code_end count (get_or rows k 0 + 1 - before) ≤ codes_end start (gaps_after 0 (identifiers_of rows))
  next_fits = omega (arith, next_end, end_part start (gaps_after 0 (identifiers_of rows)) (k + 1))

  module _ (ascend : AscendsTo 2097151 (identifiers_of rows)) where
    pub small : get_or rows k 0 + 1 ≤ 2097151
    small = omega (arith, here, ascend.within k low_here)

    after : (j : ℕ) → k ≡ j → last_behind 0 (identifiers_of rows) j < get_or rows k 0 + 1
    after zero same = omega arith
    after (suc j) same = omega (arith, here, ascend.order j k (omega (arith, same)) low_here)

    pub rises : before < get_or rows k 0 + 1
    rises = omega (arith, after k refl, is_before)

    first_row : (j : ℕ) → k ≡ j → before ≡ 0 → k ≡ 0
    first_row zero same none = same
    first_row (suc j) same none =
        let last : before ≡ get_or (identifiers_of rows) j 0 = is_before ∙ ap (λ n. last_behind 0 (identifiers_of rows) n) same in
        absurd (omega (arith, none, last, ascend.above j (omega (arith, same, low_here))))

    pub begin_here : before ≡ 0 → code_begin count (get_or rows k 0 + 1 - before) ≡ begin_behind start (take (k + 1) (identifiers_of rows))
    begin_here none =
        let first = first_row k refl none in
        let from : count ≡ start = at ∙ ap (λ n. codes_end start (take n (gaps_after 0 (identifiers_of rows)))) first ∙ end_none start in
        let row : get_or rows k 0 + 1 - before ≡ get_or (identifiers_of rows) 0 0 =
        omega (arith, none, here, ap (λ n. get_or (identifiers_of rows) n 0) first) in
        let next : k + 1 ≡ 1 = omega (arith, first) in
        (λ i. code_begin (from i) (row i))
        ∙ sym (begin_first start (identifiers_of rows) (omega (arith, low_here)))
        ∙ ap (λ n. begin_behind start (take n (identifiers_of rows))) (sym next)

    pub begin_stays : (before ≡ 0 → ⊥) → begin_behind start (take k (identifiers_of rows)) ≡ begin_behind start (take (k + 1) (identifiers_of rows))
    begin_stays some = sym (begin_kept start (identifiers_of rows) k (later k refl some))
      where
        later : (j : ℕ) → k ≡ j → (before ≡ 0 → ⊥) → 0 < k
        later zero same some = absurd (some (is_before ∙ ap (λ n. last_behind 0 (identifiers_of rows) n) same))
        later (suc j) same some = omega (arith, same)

-- pages for a part of what is to come
pub can_less : {device : Device} (codes : CodeFiller) (end less : ℕ) → less ≤ end → CanPut device codes end → CanPut device codes less
can_less codes end less low can = can_fill_part can _ _ (omega arith) (omega (arith, low))
