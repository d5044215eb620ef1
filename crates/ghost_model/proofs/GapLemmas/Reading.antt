-- From pages that store a level file its codes are read.
use Rattle.std.proofs.Common.{◌≡◌, refl, ap, sym, ◌∙◌, subst, ℕ, ◌+◌, ◌-◌, ◌*◌, ◌/◌, ◌%◌, ◌<◌, ◌≤◌, inl, inr, true, false, cond, List, [], ◌∷◌, ◌++◌, length, map, replicate, get_or, Some, None, arith}
use Rattle.std.specs.Prelude.{◌==◌, nat_lt, option_and_then}
use Rattle.std.proofs.lemmas.Bool.{cases_lt, cond-true, lt-ltb, le-ltb, and_left, and_right, and_from}
use Rattle.std.proofs.lemmas.List.{length-replicate, get_or_append_left, get_or-replicate}
use Rattle.ghost_model.specs.forms.Runs.{Run, Stores}
use Rattle.ghost_model.specs.forms.Gaps.{code_of, code_in, code_at, gaps_of, filling, with_codes, level_bytes, bytes_before, code_place, rest_at, within, is_filling, past_filling, StoresBytes, ReadsCode}
use Rattle.ghost_model.specs.laws.GapLaws.{HasCode, CodesAreReadFromPages}
use Rattle.ghost_model.proofs.GapLemmas.Codes.{codes_read, code_short, code_some, code_begins}
use Rattle.ghost_model.proofs.GapLemmas.Files.{level_joined, fits, fills, in_page, place_is, place_behind, behind, before_within, before_all, stands_behind, stands}
use Rattle.ghost_model.proofs.GapLemmas.Pages.{part_stands, blank_behind}

module _ (page : ℕ → List ℕ) (first room : ℕ) (numbers : List ℕ)
    (stores : Stores page (record { first = first; count = length (with_codes [] numbers); width = 1 }) (map (λ byte. byte ∷ []) (with_codes [] numbers)))
    (have : (k : ℕ) → k < length numbers → HasCode (get_or numbers k 0))
    (ends : length (with_codes [] numbers) < room) where
  code_stands : (k : ℕ) → k < length numbers → code_at page first room (code_place numbers k) ≡ Some (get_or numbers k 0, length (code_of (get_or numbers k 0)))
  code_stands k low =
      let place = code_place numbers k in
      let number = get_or numbers k 0 in
      let code = code_of number in
      let there = stands numbers k low in
      let at = place_is numbers k low in
      let inside = in_page (length (bytes_before numbers k)) code (code_short number) in
      let lies : place % 2048 + length code ≤ 2048 = subst (λ n. n % 2048 + length code ≤ 2048) (sym at) inside in
      let rest = part_stands page first (with_codes [] numbers) stores code there.0 place lies there.1 in
      let size = behind numbers k low in
      let few = before_within numbers (k + 1) in
      let short : place + length code < room = omega (arith, size, few, ends) in
      ap (λ bytes. option_and_then (within room place) (code_in bytes)) rest.1
      ∙ (ap (option_and_then (within room place)) (codes_read number (have k low) rest.0)
      ∙ cond-true (nat_lt (place + length code) room) (Some (number, length code)) None (lt-ltb (place + length code) room short))

  not_here : (place byte : ℕ) → get_or (rest_at page first place) 0 0 ≡ byte → (byte == 128) ≡ false → past_filling page first room place ≡ place
  not_here place byte is other =
      let none : is_filling page first room place ≡ false = and_right _ _ (ap (λ b. b == 128) is ∙ other) in
      ap (λ b. cond b ((place / 2048 + 1) * 2048) place) none

  -- filling is passed before a code that it stands before
  past_full : (k : ℕ) → k < length numbers → 2048 < length (bytes_before numbers k) % 2048 + length (code_of (get_or numbers k 0))
      → past_filling page first room (length (bytes_before numbers k)) ≡ code_place numbers k
  past_full k low more =
      let place = length (bytes_before numbers k) in
      let code = code_of (get_or numbers k 0) in
      let short = code_short (get_or numbers k 0) in
      let some = code_some (get_or numbers k 0) in
      let left : ℕ = 2048 - place % 2048 in
      let marks : List ℕ = replicate left 128 in
      let fill = fills place code more in
      let there = stands_behind numbers k low in
      let size : length marks ≡ left = length-replicate left 128 in
      let lies : place % 2048 + length marks ≤ 2048 = omega (arith, size) in
      let rest = part_stands page first (with_codes [] numbers) stores marks (code ++ there.0) place lies
      (there.1 ∙ ap (λ bytes. bytes ++ (code ++ there.0)) fill) in
      let inside : 0 < left = omega arith in
      let byte : get_or (rest_at page first place) 0 0 ≡ 128 =
      ap (λ bytes. get_or bytes 0 0) rest.1
      ∙ (get_or_append_left marks rest.0 0 0 (omega (arith, size, inside)) ∙ get_or-replicate left 0 128 0 inside) in
      let at : code_place numbers k ≡ place + length (filling place code) = place_is numbers k low in
      let filled : length (filling place code) ≡ left = ap length fill ∙ size in
      let next : (place / 2048 + 1) * 2048 ≡ code_place numbers k = omega (arith, at, filled) in
      let ends_at = behind numbers k low in
      let few = before_within numbers (k + 1) in
      let late : 2045 < place % 2048 = omega (arith, more, short) in
      let fits_room : (place / 2048 + 1) * 2048 < room = omega (arith, next, ends_at, few, ends) in
      let is_there : is_filling page first room place ≡ true =
      and_from _ _ (and_from _ _ (lt-ltb 2045 (place % 2048) late) (lt-ltb ((place / 2048 + 1) * 2048) room fits_room)) (ap (λ b. b == 128) byte) in
      ap (λ b. cond b ((place / 2048 + 1) * 2048) place) is_there ∙ next

  past_none : (k : ℕ) → k < length numbers → length (bytes_before numbers k) % 2048 + length (code_of (get_or numbers k 0)) ≤ 2048
      → past_filling page first room (length (bytes_before numbers k)) ≡ code_place numbers k
  past_none k low lies =
      let place = length (bytes_before numbers k) in
      let number = get_or numbers k 0 in
      let code = code_of number in
      let some = code_some number in
      let fill = fits place code lies in
      let there = stands_behind numbers k low in
      let rest = part_stands page first (with_codes [] numbers) stores code there.0 place lies
      (there.1 ∙ ap (λ bytes. bytes ++ (code ++ there.0)) fill) in
      let byte : get_or (rest_at page first place) 0 0 ≡ get_or code 0 0 =
      ap (λ bytes. get_or bytes 0 0) rest.1 ∙ get_or_append_left code rest.0 0 0 some in
      let at : code_place numbers k ≡ place + length (filling place code) = place_is numbers k low in
      let nothing : length (filling place code) ≡ 0 = ap length fill in
      let same : place ≡ code_place numbers k = omega (arith, at, nothing) in
      not_here place (get_or code 0 0) byte (code_begins number (have k low)) ∙ same

  past_end : (k : ℕ) → length numbers ≤ k → past_filling page first room (length (bytes_before numbers k)) ≡ code_place numbers k
  past_end k over =
      let all = before_all numbers k over in
      let bytes = with_codes [] numbers in
      let at : code_place numbers k ≡ length (bytes_before numbers k) = place_behind numbers k over in
      let here : past_filling page first room (length bytes) ≡ length bytes = elim (cases_lt 0 (length bytes % 2048)) [
        | inl some ↦ (let left : 0 < 2048 - length bytes % 2048 = omega arith in
            let blank = blank_behind page first bytes stores some in
            not_here (length bytes) 255 (ap (λ held. get_or held 0 0) blank ∙ get_or-replicate (2048 - length bytes % 2048) 0 255 0 left) refl)
        | inr none ↦ (let early : length bytes % 2048 ≤ 2045 = omega (arith, none) in
            let is_none : is_filling page first room (length bytes) ≡ false = and_left _ _ (and_left _ _ (le-ltb 2045 (length bytes % 2048) early)) in
            ap (λ b. cond b ((length bytes / 2048 + 1) * 2048) (length bytes)) is_none)
      ] in
      ap (λ held. past_filling page first room (length held)) all ∙ (here ∙ (sym (ap length all) ∙ sym at))

  past : (k : ℕ) → past_filling page first room (length (bytes_before numbers k)) ≡ code_place numbers k
  past k = elim (cases_lt k (length numbers)) [
    | inl low ↦ (elim (cases_lt 2048 (length (bytes_before numbers k) % 2048 + length (code_of (get_or numbers k 0)))) [
      | inl more ↦ past_full k low more
      | inr lies ↦ past_none k low lies
    ])
    | inr over ↦ past_end k over
  ]

  reads : (k : ℕ) → k < length numbers → ReadsCode page (record { first = first; count = room; width = 1 }) numbers k
  reads k low = record {
    code = code_stands k low;
    next = ap (past_filling page first room) (behind numbers k low) ∙ past (k + 1);
  }

of_codes : (page : ℕ → List ℕ) (run : Run) (bytes : List ℕ) → run.width ≡ 1 → StoresBytes page run bytes
    → Stores page (record { first = run.first; count = length bytes; width = 1 }) (map (λ byte. byte ∷ []) bytes)
of_codes page run bytes width stores =
    subst (λ w. Stores page (record { first = run.first; count = length bytes; width = w }) (map (λ byte. byte ∷ []) bytes)) width stores

pub from_pages : CodesAreReadFromPages
from_pages = λ page run lists width have ends stores k low.
    let bytes = level_joined lists in
    let as_codes = subst (λ held. Stores page (record { first = run.first; count = length held; width = 1 }) (map (λ byte. byte ∷ []) held)) bytes
    (of_codes page run (level_bytes lists) width stores) in
    let size = ap length bytes in
    let read = reads page run.first run.count (gaps_of lists) as_codes have.each (omega (arith, size, ends)) k low in
    record { code = read.code; next = read.next }
