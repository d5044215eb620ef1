-- Where the lists of a level stand, by the records of a directory.
use Rattle.std.proofs.Common.{◌≡◌, refl, ap, sym, ◌∙◌, ℕ, zero, suc, ◌+◌, ◌*◌, ◌^◌, ◌<◌, ◌≤◌, true, ◌&&◌, nat_le, List, [], ◌∷◌, ◌++◌, length, length-append, take, drop, flat_map, get_or, slice_index, arith}
use Rattle.std.specs.List.{concat}
use Rattle.std.specs.Int.{from_be_bytes, w32}
use Rattle.std.proofs.Math.Seq.{drop-append_seam}
use Rattle.std.proofs.lemmas.Bool.{le-leb}
use Rattle.std.proofs.lemmas.List.{drop-drop, take-append-le, get_or_append_left, get_or-append-add, append_assoc}
use Rattle.ghost_model.specs.core.Channel.{Catalog}
use Rattle.ghost_model.specs.laws.RunLaws.{NumbersAreRead}
use Rattle.ghost_model.specs.forms.Runs.{number_in, number_cell}
use Rattle.ghost_model.specs.forms.Gaps.{list_begin}
use Rattle.ghost_model.specs.forms.Flash.{list_place}
use Rattle.ghost_model.specs.forms.Slots.{list_end, are_places, level_room}

-- lists before an entry, and that of the entry, are no longer than all together
pub ends : (lists : List (List ℕ)) (entry : ℕ) → length (concat (take entry lists)) + length (get_or lists entry []) ≤ length (concat lists)
ends [] zero = omega arith
ends [] (suc entry) = omega arith
ends (list ∷ lists) zero = let size = length-append list (concat lists) in omega (arith, size)
ends (list ∷ lists) (suc entry) =
    let size = length-append list (concat lists) in
    let before = length-append list (concat (take entry lists)) in
    let rest = ends lists entry in
    omega (arith, size, before, rest)

-- a part of all lists is that of its entry
pub part : (lists : List (List ℕ)) (entry place : ℕ) → place < length (get_or lists entry [])
    → slice_index (concat lists) (length (concat (take entry lists)) + place) ≡ slice_index (get_or lists entry []) place
part [] entry place low = absurd (omega (arith, low))
part (list ∷ lists) zero place low =
    let e : 0 + place ≡ place = omega arith in ap (λ n. slice_index (list ++ concat lists) n) e ∙ get_or_append_left list (concat lists) 0 place low
part (list ∷ lists) (suc entry) place low =
    let before = length-append list (concat (take entry lists)) in
    let at : length (list ++ concat (take entry lists)) + place ≡ length list + (length (concat (take entry lists)) + place) = omega (arith, before) in
    ap (λ n. slice_index (list ++ concat lists) n) at ∙ (get_or-append-add list (concat lists) (length (concat (take entry lists)) + place) 0 ∙ part lists entry place low)

module _ (read : NumbersAreRead) (wide : (number : ℕ) → length (number_cell number) ≡ 4) where
  -- two numbers before other bytes
  pub first_in : (a b : ℕ) (rest : List ℕ) → a < 2 ^ 32 → number_in ((number_cell a ++ number_cell b) ++ rest) 0 ≡ a
  unfolding number_in
  first_in a b rest small =
      let size = wide a in
      let cells = number_cell a ++ number_cell b in
      let both = length-append (number_cell a) (number_cell b) in
      let other = wide b in
      ap (from_be_bytes w32) (take-append-le 4 cells rest (omega (arith, size, both, other)) ∙ take-append-le 4 (number_cell a) (number_cell b) (omega (arith, size)))
      ∙ read a small

  pub second_in : (a b : ℕ) (rest : List ℕ) → b < 2 ^ 32 → number_in ((number_cell a ++ number_cell b) ++ rest) 4 ≡ b
  unfolding number_in
  second_in a b rest small =
      let size = wide a in
      let other = wide b in
      let later : drop 4 ((number_cell a ++ number_cell b) ++ rest) ≡ number_cell b ++ rest =
      ap (drop 4) (append_assoc (number_cell a) (number_cell b) rest) ∙ (ap (λ n. drop n (number_cell a ++ (number_cell b ++ rest))) (sym size) ∙ drop-append_seam (number_cell a) (number_cell b ++ rest)) in
      ap (from_be_bytes w32) (ap (take 4) later ∙ take-append-le 4 (number_cell b) rest (omega (arith, other)))
      ∙ read b small

  pub after_both : (a b : ℕ) (rest : List ℕ) → drop 8 ((number_cell a ++ number_cell b) ++ rest) ≡ rest
  after_both a b rest =
      let size = wide a in
      let other = wide b in
      let both = length-append (number_cell a) (number_cell b) in
      let eight : length (number_cell a ++ number_cell b) ≡ 8 = omega (arith, size, other, both) in
      ap (λ n. drop n ((number_cell a ++ number_cell b) ++ rest)) (sym eight) ∙ drop-append_seam (number_cell a ++ number_cell b) rest

  module _ (lists : ℕ → List (List ℕ)) (entry : ℕ) where
    abbrev pub places : List ℕ → List ℕ
    places tables = flat_map (λ table. list_place (lists table) entry) tables

    -- the place of a level's list
    pub at_place : (tables : List ℕ) (level : ℕ) → level < length tables
        → drop (8 * level) (places tables) ≡ list_place (lists (slice_index tables level)) entry ++ places (drop (suc level) tables)
    at_place [] level low = absurd (omega (arith, low))
    at_place (table ∷ tables) zero low = refl
    at_place (table ∷ tables) (suc level) low =
        let n : 8 * suc level ≡ 8 + 8 * level = omega arith in
        let here = after_both (list_begin (lists table) entry) (length (get_or (lists table) entry [])) (places tables) in
        ap (λ k. drop k (places (table ∷ tables))) n
        ∙ (sym (drop-drop (8 * level) 8 (places (table ∷ tables)))
        ∙ (ap (drop (8 * level)) here ∙ at_place tables level (omega (arith, low))))

    -- and they stand where their level files have room
    pub stand : (cat : Catalog) (tables : List ℕ) → ((table : ℕ) → level_room cat table < 2 ^ 32)
        → ((level : ℕ) → level < length tables
        → list_begin (lists (slice_index tables level)) entry + length (get_or (lists (slice_index tables level)) entry []) ≤ level_room cat (slice_index tables level))
        → are_places cat tables (places tables) ≡ true
    stand cat [] small room = refl
    stand cat (table ∷ tables) small room =
        let first = list_begin (lists table) entry in
        let count = length (get_or (lists table) entry []) in
        let most = room 0 (omega arith) in
        let few = small table in
        let a = first_in first count (places tables) (omega (arith, most, few)) in
        let b = second_in first count (places tables) (omega (arith, most, few)) in
        let e : list_end (places (table ∷ tables)) ≡ first + count = λ i. a i + b i in
        ap (λ n. nat_le n (level_room cat table) && are_places cat tables (drop 8 (places (table ∷ tables)))) e
        ∙ (ap (λ t. t && are_places cat tables (drop 8 (places (table ∷ tables)))) (le-leb (first + count) (level_room cat table) most)
        ∙ (ap (are_places cat tables) (after_both first count (places tables))
        ∙ stand cat tables small (λ level low. room (suc level) (omega (arith, low)))))
