-- The gaps of lists: how many, that they have codes, and which is the first of a list.
use Rattle.std.proofs.Common.{◌≡◌, refl, ap, sym, ◌∙◌, subst, ℕ, zero, suc, ◌+◌, ◌-◌, ◌<◌, ◌≤◌, inl, inr, List, [], ◌∷◌, ◌++◌, length, take, drop, get_or, arith}
use Rattle.std.specs.Prelude.{slice_get, Some}
use Rattle.std.specs.List.{concat}
use Rattle.std.proofs.lemmas.Bool.{cases_lt}
use Rattle.std.proofs.lemmas.List.{length-append, take-append-drop, take_at, drop_more, get_or_at, get_or_append_left, get_or-append_right}
use Rattle.std.proofs.lemmas.List.Concat.{flat_map-append}
use Rattle.std.proofs.lemmas.Option.{slice_get-get_or}
use Rattle.ghost_model.specs.forms.Gaps.{code_of, gaps_after, gaps_of, begin_code, filling, with_codes, level_bytes, code_or_none}
use Rattle.ghost_model.specs.laws.GapLaws.{HasCode, AscendsTo, AreLevelLists, GapsHaveCodes, ListsBeginAtCodes, LevelFilesFit}
use Rattle.ghost_model.proofs.GapLemmas.Files.{level_joined, few, room_left}

gaps_count : (before : ℕ) (identifiers : List ℕ) → length (gaps_after before identifiers) ≡ length identifiers
gaps_count before [] = refl
gaps_count before (identifier ∷ later) = ap suc (gaps_count identifier later)

pub all_count : (lists : List (List ℕ)) → length (gaps_of lists) ≡ length (concat lists)
all_count [] = refl
all_count (identifiers ∷ lists) =
    let gaps = length-append (gaps_after 0 identifiers) (gaps_of lists) in
    let all = length-append identifiers (concat lists) in
    let one = gaps_count 0 identifiers in
    let rest = all_count lists in
    omega (arith, gaps, all, one, rest)

-- gaps of identifiers that ascend from one
gaps_have : (before rows : ℕ) (identifiers : List ℕ) → rows < 2097152 → ((i : ℕ) → i < length identifiers → before < get_or identifiers i 0)
    → ((i j : ℕ) → i < j → j < length identifiers → get_or identifiers i 0 < get_or identifiers j 0)
    → ((i : ℕ) → i < length identifiers → get_or identifiers i 0 ≤ rows)
    → (k : ℕ) → k < length (gaps_after before identifiers) → HasCode (get_or (gaps_after before identifiers) k 0)
gaps_have before rows [] small above order within k low = absurd (omega (arith, low))
gaps_have before rows (identifier ∷ later) small above order within zero low =
    let more : before < identifier = above 0 (omega arith) in
    let most : identifier ≤ rows = within 0 (omega arith) in
    record { some = omega (arith, more); small = omega (arith, most, small) }
gaps_have before rows (identifier ∷ later) small above order within (suc k) low =
    gaps_have identifier rows later small
    (λ i there. order 0 (suc i) (omega arith) (omega (arith, there)))
    (λ i j less there. order (suc i) (suc j) (omega (arith, less)) (omega (arith, there)))
    (λ i there. within (suc i) (omega (arith, there))) k (omega (arith, low))

all_have : (rows : ℕ) (lists : List (List ℕ)) → rows < 2097152 → ((entry : ℕ) → entry < length lists → AscendsTo rows (get_or lists entry []))
    → (k : ℕ) → k < length (gaps_of lists) → HasCode (get_or (gaps_of lists) k 0)
all_have rows [] small each k low = absurd (omega (arith, low))
all_have rows (identifiers ∷ lists) small each k low =
    let gaps = gaps_after 0 identifiers in
    let size = length-append gaps (gaps_of lists) in
    elim (cases_lt k (length gaps)) [
      | inl here ↦ (let own : AscendsTo rows identifiers = each 0 (omega arith) in
          subst HasCode (sym (get_or_append_left gaps (gaps_of lists) 0 k here))
          (gaps_have 0 rows identifiers small own.above own.order own.within k here))
      | inr past ↦ subst HasCode (sym (get_or-append_right gaps (gaps_of lists) (length gaps) k 0 refl past))
          (all_have rows lists small (λ entry there. each (suc entry) (omega (arith, there))) (k - length gaps) (omega (arith, size, low, past)))
    ]

pub gaps_are : (rows : ℕ) (lists : List (List ℕ)) → AreLevelLists rows lists → GapsHaveCodes lists
gaps_are rows lists are = record {
  count = all_count lists;
  each = all_have rows lists are.small are.each;
}

-- the first gap of a list is its first identifier
first_gap : (before identifiers later : List ℕ) (k : ℕ) → length before ≡ k → 0 < length identifiers
    → code_or_none (slice_get (before ++ (gaps_after 0 identifiers ++ later)) k) ≡ begin_code identifiers
first_gap before [] later k size some = absurd (omega (arith, some))
first_gap before (identifier ∷ identifiers) later k size some =
    let rest = gaps_after identifier identifiers ++ later in
    let all = before ++ ((identifier - 0) ∷ rest) in
    let total = length-append before ((identifier - 0) ∷ rest) in
    let low : k < length all = omega (arith, total, size) in
    let same : identifier - 0 ≡ identifier = omega arith in
    ap code_or_none (slice_get-get_or all k 0 low ∙ ap Some (get_or_at before (identifier - 0) rest 0 k size)) ∙ ap code_of same

pub begins : ListsBeginAtCodes
begins = λ lists entry have there some.
    let identifiers = get_or lists entry [] in
    let before = gaps_of (take entry lists) in
    let later = gaps_of (drop (entry + 1) lists) in
    let k = length (concat (take entry lists)) in
    let size : length before ≡ k = all_count (take entry lists) in
    let parts : gaps_of lists ≡ before ++ (gaps_after 0 identifiers ++ later) =
    ap gaps_of (sym (take-append-drop entry lists))
    ∙ (flat_map-append (gaps_after 0) (take entry lists) (drop entry lists)
    ∙ ap (λ rest. before ++ gaps_of rest) (drop_more lists entry [] there)) in
    let bytes : level_bytes (take entry lists) ≡ with_codes [] (take k (gaps_of lists)) =
    level_joined (take entry lists) ∙ ap (with_codes []) (sym (ap (take k) parts ∙ take_at before (gaps_after 0 identifiers ++ later) k size)) in
    let code : begin_code identifiers ≡ code_or_none (slice_get (gaps_of lists) k) =
    sym (ap (λ gaps. code_or_none (slice_get gaps k)) parts ∙ first_gap before identifiers later k size some) in
    ap (λ held. length held + length (filling (length held) (begin_code identifiers))) bytes
    ∙ ap (λ c. length (with_codes [] (take k (gaps_of lists))) + length (filling (length (with_codes [] (take k (gaps_of lists)))) c)) code

pub files_fit : LevelFilesFit
files_fit = λ rows lists are some.
    let gaps = gaps_of lists in
    let bytes = ap length (level_joined lists) in
    let most = few gaps in
    let size : length gaps ≤ rows = let all = all_count lists in omega (arith, all, are.few) in
    room_left (length (level_bytes lists)) (length gaps) rows (omega (arith, bytes, most)) size some
