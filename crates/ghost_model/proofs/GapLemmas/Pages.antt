-- What stands in the pages of a run of single bytes.
use Rattle.std.proofs.Common.{◌≡◌, refl, ap, sym, ◌∙◌, subst, ℕ, ◌+◌, ◌-◌, ◌*◌, ◌/◌, ◌%◌, ◌<◌, ◌≤◌, min, List, [], ◌∷◌, ◌++◌, length, map, take, drop, replicate, get_or, arith}
use Rattle.std.specs.List.{slice_range}
use Rattle.std.proofs.lemmas.List.{drop-drop, length-drop, get_or-drop, get_or-map}
use Rattle.ghost_model.specs.forms.Runs.{Stores, record_at}
use Rattle.ghost_model.specs.forms.Gaps.{rest_at}

same_head : (x y : ℕ) (xs ys : List ℕ) → x ∷ xs ≡ y ∷ ys → x ≡ y
same_head x y xs ys e = ap (λ bytes. get_or bytes 0 0) e

first_of_one : (bytes : List ℕ) (byte : ℕ) → take 1 bytes ≡ byte ∷ [] → bytes ≡ byte ∷ drop 1 bytes
first_of_one [] byte e = absurd (cc (e))
first_of_one (b ∷ bytes) byte e = ap (λ x. x ∷ bytes) (same_head b byte [] [] e)

-- a page from a byte on
from_byte : (bytes : List ℕ) (at byte : ℕ) → slice_range bytes (at * 1) (at * 1 + 1) ≡ byte ∷ [] → drop at bytes ≡ byte ∷ drop (at + 1) bytes
from_byte bytes at byte e =
    let same : at * 1 ≡ at = omega arith in
    let one : at * 1 + 1 - at * 1 ≡ 1 = omega arith in
    let first : take 1 (drop at bytes) ≡ byte ∷ [] = sym (ap (λ n. take n (drop (at * 1) bytes)) one ∙ ap (λ n. take 1 (drop n bytes)) same) ∙ e in
    first_of_one (drop at bytes) byte first ∙ ap (λ rest. byte ∷ rest) (drop-drop 1 at bytes)

module _ (page : ℕ → List ℕ) (first : ℕ) (bytes : List ℕ)
    (stores : Stores page (record { first = first; count = length bytes; width = 1 }) (map (λ byte. byte ∷ []) bytes)) where
  byte_stands : (place : ℕ) → place < length bytes
      → drop (place % 2048) (page (first + place / 2048)) ≡ get_or bytes place 0 ∷ drop (place % 2048 + 1) (page (first + place / 2048))
  unfolding record_at
  byte_stands place low =
      from_byte (page (first + place / 2048)) (place % 2048) (get_or bytes place 0)
      (stores.has.each place low ∙ get_or-map (λ byte. byte ∷ []) bytes place 0 [] low)

  -- so many bytes of the file as stand in one page stand there
  parts_stand : (part later : List ℕ) (number at : ℕ) → at + length part ≤ 2048 → drop (number * 2048 + at) bytes ≡ part ++ later
      → (more : List ℕ) × (drop at (page (first + number)) ≡ part ++ more)
  parts_stand [] later number at within e = (drop at (page (first + number)), refl)
  parts_stand (byte ∷ part) later number at within e =
      let place = number * 2048 + at in
      let size = sym (length-drop place bytes) ∙ ap length e in
      let low : place < length bytes = omega (arith, size) in
      let page_is : place / 2048 ≡ number = omega (arith, within) in
      let slot_is : place % 2048 ≡ at = omega (arith, within) in
      let zero_more : place + 0 ≡ place = omega arith in
      let is : get_or bytes place 0 ≡ byte = sym (get_or-drop place bytes 0 0 ∙ ap (λ n. get_or bytes n 0) zero_more) ∙ ap (λ held. get_or held 0 0) e in
      let next : number * 2048 + (at + 1) ≡ place + 1 = omega arith in
      let behind : drop (number * 2048 + (at + 1)) bytes ≡ part ++ later = ap (λ n. drop n bytes) next ∙ (sym (drop-drop 1 place bytes) ∙ ap (drop 1) e) in
      let rest = parts_stand part later number (at + 1) (omega (arith, within)) behind in
      let here = byte_stands place low in
      let there : drop at (page (first + number)) ≡ get_or bytes place 0 ∷ drop (at + 1) (page (first + number)) =
      subst (λ n. drop at (page (first + n)) ≡ get_or bytes place 0 ∷ drop (at + 1) (page (first + n))) page_is
      (subst (λ n. drop n (page (first + place / 2048)) ≡ get_or bytes place 0 ∷ drop (n + 1) (page (first + place / 2048))) slot_is here) in
      (rest.0, there ∙ (λ i. is i ∷ rest.1 i))

  pub part_stands : (part later : List ℕ) (place : ℕ) → place % 2048 + length part ≤ 2048 → drop place bytes ≡ part ++ later
      → (more : List ℕ) × (rest_at page first place ≡ part ++ more)
  part_stands part later place within e =
      let same : place / 2048 * 2048 + place % 2048 ≡ place = omega arith in
      parts_stand part later (place / 2048) (place % 2048) within (ap (λ n. drop n bytes) same ∙ e)

  -- behind the last byte its page is blank
  pub blank_behind : 0 < length bytes % 2048 → rest_at page first (length bytes) ≡ replicate (2048 - length bytes % 2048) 255
  blank_behind some =
      let size = length bytes in
      let held : min 2048 (size - size / 2048 * 2048) * 1 ≡ size % 2048 = omega arith in
      let low : size / 2048 < (size + 2047) / 2048 = omega (arith, some) in
      subst (λ n. drop n (page (first + size / 2048)) ≡ replicate (2048 - n) 255) held (stores.rest (size / 2048) low)
