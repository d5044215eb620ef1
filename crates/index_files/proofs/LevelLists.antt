-- The lists of a level: they ascend, and the bytes of their codes, list by list, have room in the level's pages.
use Rattle.std.proofs.Common.{◌≡◌, refl, sym, ap, ◌∙◌, subst, ℕ, zero, suc, ◌+◌, ◌-◌, ◌*◌, ◌/◌, ◌<◌, ◌≤◌, Bool, true, false, cond, inl, inr, List, [], ◌∷◌, ◌++◌, length, take, drop, filter, get_or, Ok, arith}
use Rattle.std.specs.List.{concat, range_with_len, slice_range}
use Rattle.std.proofs.lemmas.Bool.{cases_lt}
use Rattle.std.proofs.lemmas.List.{length-map, drop-map, take-map, take_more, take-append-drop, get_or_append_left, get_or_push}
use Rattle.std.proofs.lemmas.List.FromFn.{get_or-map-range_with_len, length-map-range_with_len}
use Rattle.ghost_model.specs.forms.Runs.{pages_of}
use Rattle.ghost_model.specs.forms.Gaps.{gaps_after, level_bytes, list_begin, with_codes, with_lists}
use Rattle.ghost_model.specs.laws.GapLaws.{AreLevelLists, AscendsTo, LevelFilesFit}
use Rattle.edge_traits.specs.Devices.{Device}
use Rattle.flash_pages.specs.declared.code_filler.CodeFiller.{CodeFiller}
use Rattle.flash_pages.specs.Filling.{CanFill}
use Rattle.flash_pages.specs.Writers.{Writes}
use Rattle.flash_pages.specs.CodeWriters.{CanPut}
use Rattle.flash_pages.proofs.RunFrames.{can_fill_kept, can_fill_part}
use Rattle.index_lists.specs.Lists.{AreListed, identifiers_of, lists_of, rows_of_rank, start_of}
use Rattle.index_lists.specs.Laws.{ListsStandBetween}
use Rattle.index_files.specs.Levels.{codes_end}
use Rattle.index_files.proofs.CodesPut.{codes_length, codes_none, end_rises}
use Rattle.index_files.proofs.Starts.{number_at}

-- numbers that ascend, from one on and below another
record Ascends (low high : ℕ) (numbers : List ℕ) : Type 0 where
  above : (i : ℕ) → i < length numbers → low ≤ get_or numbers i 0
  within : (i : ℕ) → i < length numbers → get_or numbers i 0 < high
  order : (i j : ℕ) → i < j → j < length numbers → get_or numbers i 0 < get_or numbers j 0

grown : {low high : ℕ} (number : ℕ) (numbers : List ℕ) → low ≡ number → number < high → Ascends (number + 1) high numbers → Ascends low high (number ∷ numbers)
grown {low = low} {high = high} number numbers is small later = record {
  above = above;
  within = within;
  order = order;
}
  where
    above : (i : ℕ) → i < length (number ∷ numbers) → low ≤ get_or (number ∷ numbers) i 0
    above zero there = omega (arith, is)
    above (suc i) there = omega (arith, is, later.above i (omega (arith, there)))

    within : (i : ℕ) → i < length (number ∷ numbers) → get_or (number ∷ numbers) i 0 < high
    within zero there = small
    within (suc i) there = later.within i (omega (arith, there))

    order : (i j : ℕ) → i < j → j < length (number ∷ numbers) → get_or (number ∷ numbers) i 0 < get_or (number ∷ numbers) j 0
    order i zero less there = absurd (omega (arith, less))
    order zero (suc j) less there = omega (arith, later.above j (omega (arith, there)))
    order (suc i) (suc j) less there = later.order i j (omega (arith, less)) (omega (arith, there))

kept : (keeps : Bool) {high : ℕ} (number : ℕ) (numbers : List ℕ) → number < high → Ascends (number + 1) high numbers → Ascends number high (cond keeps (number ∷ numbers) numbers)
kept true number numbers small later = grown number numbers refl small later
kept false number numbers small later = record {
  above = λ i there. omega (arith, later.above i there);
  within = later.within;
  order = later.order;
}

filtered : (p : ℕ → Bool) (low count high : ℕ) → low + count ≡ high → Ascends low high (filter p (range_with_len low count))
filtered p low zero high end = record {
  above = λ i there. absurd (omega (arith, there));
  within = λ i there. absurd (omega (arith, there));
  order = λ i j less there. absurd (omega (arith, there));
}
filtered p low (suc count) high end =
    kept (p low) low (filter p (range_with_len (low + 1) count)) (omega (arith, end)) (filtered p (low + 1) count high (omega (arith, end)))

ascends : (rows low high : ℕ) (numbers : List ℕ) → 0 < low → high ≤ rows + 1 → Ascends low high numbers → AscendsTo rows numbers
ascends rows low high numbers some most are = record {
  above = λ i there. omega (arith, are.above i there, some);
  order = are.order;
  within = λ i there. omega (arith, are.within i there, most);
}

pub list_ascends : (ranks : List ℕ) (entries entry most : ℕ) → entry < entries → length ranks ≤ most → AscendsTo most (get_or (lists_of ranks entries) entry [])
list_ascends ranks entries entry most low fits =
    subst (AscendsTo most) (sym (get_or-map-range_with_len (rows_of_rank ranks) 0 entries entry entry [] low (omega arith)))
    (ascends most 1 (1 + length ranks) (rows_of_rank ranks entry) (omega arith) (omega (arith, fits)) (filtered _ 1 (length ranks) (1 + length ranks) refl))

-- rows that are listed make level lists
pub level_lists : {ranks rows : List ℕ} {entries : ℕ} → AreListed ranks entries rows → length ranks < 2097152 → AreLevelLists (length ranks) (lists_of ranks entries)
level_lists {ranks = ranks} {rows = rows} {entries = entries} order few = record {
  each = λ entry low.
      list_ascends ranks entries entry (length ranks) (omega (arith, low, length-map-range_with_len (rows_of_rank ranks) 0 entries)) (omega arith);
  few = omega (arith, ap length order.lists, length-map rows (λ row. row + 1), order.long);
  small = few;
}

-- bytes list by list
lists_behind : (bytes : List ℕ) (xs ys : List (List ℕ)) → with_lists bytes (xs ++ ys) ≡ with_lists (with_lists bytes xs) ys
unfolding with_lists
lists_behind bytes [] ys = refl
lists_behind bytes (x ∷ xs) ys = lists_behind (with_codes bytes (gaps_after 0 x)) xs ys

lists_one : (bytes : List ℕ) (list : List ℕ) → with_lists bytes (list ∷ []) ≡ with_codes bytes (gaps_after 0 list)
unfolding with_lists
lists_one bytes list = refl

lists_rise : (bytes : List ℕ) (lists : List (List ℕ)) → length bytes ≤ length (with_lists bytes lists)
unfolding with_lists
lists_rise bytes [] = omega arith
lists_rise bytes (list ∷ lists) =
    omega (
      arith,
      lists_rise (with_codes bytes (gaps_after 0 list)) lists,
      codes_length bytes (gaps_after 0 list),
      end_rises (length bytes) (gaps_after 0 list),
    )

pub bytes_none : length (level_bytes []) ≡ 0
unfolding with_lists
bytes_none = refl

pub level_none : level_bytes [] ≡ []
unfolding with_lists
level_none = refl

pub lists_more :
    (lists : List (List ℕ)) (entry : ℕ) → entry < length lists
    → with_codes (level_bytes (take entry lists)) (gaps_after 0 (get_or lists entry [])) ≡ level_bytes (take (entry + 1) lists)
lists_more lists entry low =
    sym (lists_one (level_bytes (take entry lists)) (get_or lists entry []))
    ∙ sym (lists_behind [] (take entry lists) (get_or lists entry [] ∷ []))
    ∙ ap (λ ls. level_bytes ls) (sym (take_more lists entry [] low))

pub end_after :
    (lists : List (List ℕ)) (entry end : ℕ) → entry < length lists → end ≡ length (level_bytes (take entry lists))
    → codes_end end (gaps_after 0 (get_or lists entry [])) ≡ length (level_bytes (take (entry + 1) lists))
end_after lists entry end low at =
    ap (λ n. codes_end n (gaps_after 0 (get_or lists entry []))) at
    ∙ sym (codes_length (level_bytes (take entry lists)) (gaps_after 0 (get_or lists entry [])))
    ∙ ap length (lists_more lists entry low)

pub lists_part : (lists : List (List ℕ)) (entry : ℕ) → length (level_bytes (take entry lists)) ≤ length (level_bytes lists)
lists_part lists entry =
    omega (
      arith,
      lists_rise (level_bytes (take entry lists)) (drop entry lists),
      ap length (sym (lists_behind [] (take entry lists) (drop entry lists)) ∙ ap (λ ls. level_bytes ls) (take-append-drop entry lists)),
    )

-- the room
bytes_of_none : (bytes : List ℕ) (lists : List (List ℕ)) → length (concat lists) ≡ 0 → with_lists bytes lists ≡ bytes
unfolding with_lists
bytes_of_none bytes [] none = refl
bytes_of_none bytes ([] ∷ lists) none = ap (λ bs. with_lists bs lists) (codes_none bytes) ∙ bytes_of_none bytes lists none
bytes_of_none bytes ((identifier ∷ later) ∷ lists) none = absurd (omega (arith, none))

pub level_fits :
    LevelFilesFit → (rows : ℕ) (lists : List (List ℕ)) → AreLevelLists rows lists → length (level_bytes lists) ≤ 2048 * pages_of rows 4
level_fits fit rows lists are =
    elim (cases_lt 0 rows) [
      | inl some ↦ omega (arith, fit rows lists are some)
      | inr none ↦ omega (arith, ap length (bytes_of_none [] lists (omega (arith, are.few, none))))
    ]

pub written_fits : (bytes pages : ℕ) → bytes ≤ 2048 * pages → pages_of bytes 1 ≤ pages
written_fits bytes pages fits = omega arith

-- the rows of a list
pub list_is :
    ListsStandBetween → {ranks rows : List ℕ} {entries : ℕ} → AreListed ranks entries rows → (entry from to : ℕ) → entry < entries
    → from ≡ start_of (lists_of ranks entries) entry → to ≡ start_of (lists_of ranks entries) (entry + 1)
    → identifiers_of (slice_range rows from to) ≡ get_or (lists_of ranks entries) entry []
list_is between {ranks = ranks} {rows = rows} {entries = entries} order entry from to low begins ends =
    let lists = lists_of ranks entries in
    sym (take-map (λ row. row + 1) (to - from) (drop from rows))
    ∙ ap (λ ids. take (to - from) ids) (sym (drop-map (λ row. row + 1) from rows))
    ∙ (λ i. slice_range (order.lists i) (begins i) (ends i))
    ∙ (between lists entry (omega (arith, low, length-map-range_with_len (rows_of_rank ranks) 0 entries))).between

pub list_at :
    ListsStandBetween → {ranks rows : List ℕ} {entries : ℕ} → AreListed ranks entries rows → (starts : List ℕ) → length starts ≡ entries + 1
    → ((entry : ℕ) → entry ≤ entries → get_or starts entry 0 ≡ start_of (lists_of ranks entries) entry) → (entry from to : ℕ) → entry < entries
    → from ≡ get_or starts entry from → to ≡ get_or starts (entry + 1) to
    → identifiers_of (slice_range rows from to) ≡ get_or (lists_of ranks entries) entry []
list_at between order starts long each entry from to low begins ends =
    list_is between order entry from to low
    (number_at starts entry from begins (omega (arith, long, low)) ∙ each entry (omega (arith, low)))
    (number_at starts (entry + 1) to ends (omega (arith, long, low)) ∙ each (entry + 1) (omega (arith, low)))

-- where the lists begin, one more
pub begins_more :
    (lists : List (List ℕ)) (begins : List ℕ) (entry begin : ℕ) → length begins ≡ entry
    → ((k : ℕ) → k < entry → get_or begins k 0 ≡ list_begin lists k) → begin ≡ list_begin lists entry
    → (k : ℕ) → k < entry + 1 → get_or (begins ++ begin ∷ []) k 0 ≡ list_begin lists k
begins_more lists begins entry begin count each here k low =
    elim (cases_lt k entry) [
      | inl before ↦ get_or_append_left begins (begin ∷ []) 0 k (omega (arith, before, count)) ∙ each k before
      | inr behind ↦
          let same : entry ≡ k = omega (arith, low, behind) in
          get_or_push begins begin 0 k (count ∙ same) ∙ here ∙ ap (λ n. list_begin lists n) same
    ]

-- blank pages for what is put next in a level's room
pub can_in_room :
    {before middle : Device} {x : ℕ} (codes : CodeFiller) (first pages bytes end : ℕ) → codes.filler.first ≡ first → codes.filler.count ≡ bytes
    → bytes ≤ end → end ≤ 2048 * pages → CanFill before first pages
    → Writes before middle first (first + bytes / 2048) (bytes / 2048) (Ok x) → CanPut middle codes end
can_in_room codes first pages bytes end at count up fits can writes =
    can_fill_kept writes.others (omega (arith, at, count))
    (can_fill_part can _ _ (omega (arith, at)) (omega (arith, at, count, up, fits)))
