-- One code after another: how reading goes on, and how many pages are left.
use Rattle.std.proofs.Common.{◌≡◌, ℕ, suc, ◌+◌, ◌-◌, ◌*◌, ◌/◌, ◌%◌, ◌<◌, ◌≤◌, ◌⊎◌, ◌&&◌, ◌==◌, ◌∙◌, ap, sym, refl, subst, inl, inr, Bool, true, false, not, nat_lt, nat_eq, List, ◌∷◌, length, drop, get_or, if◌then◌else◌, arith}
use Rattle.std.specs.Prelude.{Option, Some, None, option_map, option_and_then}
use Rattle.std.proofs.lemmas.Bool.{cases_lt, cases_order, eq-eqb, eqb-true, false_from_ne_true, le-ltb, lt-ltb}
use Rattle.std.proofs.lemmas.List.{drop_more}
use Rattle.ghost_model.specs.forms.Gaps.{after_code, code_at, code_in, code_second, read_on, reading_at, within}
use Rattle.flash_pages.specs.declared.standing.Stand.{Stand}
use Rattle.flash_pages.specs.Codes.{IsBehind, TakesCode, TakesCodes, reading, left_behind}
use Rattle.flash_pages.specs.Cursors.{codes_here}
use Rattle.flash_pages.proofs.ListFrames.{next_reading}

-- in a page before its last two bytes nothing fills it
abbrev past_in : List ℕ → (room place : ℕ) → ℕ
past_in bytes room place =
    if nat_lt 2045 (place % 2048) && nat_lt ((place / 2048 + 1) * 2048) room && get_or (drop (place % 2048) bytes) 0 0 == 128
    then (place / 2048 + 1) * 2048 else place

none_fills : (bytes : List ℕ) (room place : ℕ) → place % 2048 ≤ 2045 → past_in bytes room place ≡ place
none_fills bytes room place before =
    let P : Bool → Type 0 = λ late.
    (if late && nat_lt ((place / 2048 + 1) * 2048) room && get_or (drop (place % 2048) bytes) 0 0 == 128 then (place / 2048 + 1) * 2048 else place) ≡ place in
    subst P (sym (le-ltb 2045 (place % 2048) before)) refl

-- a code of one byte there is read
short_code : (byte : ℕ) (later : List ℕ) → 0 < byte → byte < 128 → code_in (byte ∷ later) ≡ Some (byte, 1)
short_code byte later some small =
    let code : Option (ℕ × ℕ) = Some (byte, 1) in
    let P : Bool → Type 0 = λ short. (if short then (if byte == 0 then None else code) else if byte == 128 then None else code_second (byte - 128) later) ≡ code in
    let Q : Bool → Type 0 = λ none. (if none then None else code) ≡ code in
    subst P (sym (lt-ltb byte 128 small))
    (subst Q (sym (false_from_ne_true (byte == 0) (λ is. omega (arith, some, eqb-true byte 0 is)))) refl)

abbrev fits_in : Bool → ℕ × ℕ → Option (ℕ × ℕ)
fits_in fits code = if fits then Some code else None

reads_short :
    (page : ℕ → List ℕ) (first room number : ℕ) (bytes : List ℕ) (before : Stand) → page (first + before.place / 2048) ≡ bytes → length bytes ≡ 2048
    → number ≡ get_or bytes (before.place % 2048) 0 → 0 < number → number < 128 → before.place + 1 < room → before.place % 2048 < 2045
    → read_on page first room (reading before) ≡ Some (record { place = before.place + 1; last = before.last + number })
reads_short page first room number bytes before same size is some small ends early =
    let place = before.place in
    let slot = place % 2048 in
    let next = place + 1 in
    let inside : slot < length bytes = omega (arith, size, early) in
    let byte : drop slot bytes ≡ number ∷ drop (slot + 1) bytes = drop_more bytes slot 0 inside ∙ ap (λ n. n ∷ drop (slot + 1) bytes) (sym is) in
    let found : code_at page first room place ≡ Some (number, 1) =
    ap (λ (b : List ℕ). option_and_then (within room place) (code_in (drop slot b))) same
    ∙ ap (λ (b : List ℕ). option_and_then (within room place) (code_in b)) byte
    ∙ ap (λ value. option_and_then (within room place) value) (short_code number (drop (slot + 1) bytes) some small)
    ∙ ap (λ (fits : Bool). fits_in fits (number, 1)) (lt-ltb next room ends) in
    let stays : next % 2048 ≤ 2045 = omega (arith, early) in
    ap (λ value. option_map (after_code page first room (reading before)) value) found
    ∙ ap (λ n. Some (record { place = n; last = before.last + number })) (none_fills (page (first + next / 2048)) room next stays)

pub takes_short :
    (bytes : List ℕ) (room limit number : ℕ) (before next : Stand) → length bytes ≡ 2048 → number ≡ get_or bytes (before.place % 2048) 0 → 0 < number
    → number < 128 → before.place + 1 < room → before.place % 2048 < 2045 → next.at ≡ before.at + 1 → next.place ≡ before.place + 1
    → next.last ≡ before.last + number → next.last ≤ limit → TakesCode bytes room limit before next
takes_short bytes room limit number before next size is some small ends early at place last below = record {
  at = at;
  above = omega (arith, last, some);
  below = below;
  inside = omega (arith, place, ends);
  behind = record {
    further = omega (arith, place);
    near = omega (arith, place);
    page = omega (arith, place, early);
    stays = inl (omega (arith, place));
  };
  reads = λ page first same.
      reads_short page first room number bytes before same size is some small ends early
      ∙ ap (λ n. Some (record { place = n; last = before.last + number })) (sym place)
      ∙ ap (λ n. Some (record { place = next.place; last = n })) (sym last);
}

-- the page of the next code is not to be read where it stands in the buffer
abbrev pub bit : Bool → ℕ
bit b = if b then 1 else 0

bit_none : (t : Bool) → bit (t && false) ≡ 0
bit_none true = refl
bit_none false = refl

pub bit_same : (t : Bool) (p q : ℕ) → p ≡ q → bit (t && not (nat_eq p q)) ≡ 0
bit_same t p q same =
    let P : Bool → Type 0 = λ e. bit (t && not e) ≡ 0 in
    subst P (sym (eq-eqb p q same)) (bit_none t)

pub bit_most : (b : Bool) → bit b ≤ 1
bit_most true = omega arith
bit_most false = omega arith

bit_at_end : (at count : ℕ) (more : Bool) → count ≤ at → bit (nat_lt at count && more) ≡ 0
bit_at_end at count more end =
    let P : Bool → Type 0 = λ t. bit (t && more) ≡ 0 in
    subst P (sym (le-ltb at count end)) refl

-- the pages of the codes behind, for so many bytes of the page
less_by_one : (c a b : ℕ) → 0 < c → a ≤ b + 3 → (((c - 1) - b / 3) + 681) / 682 ≤ ((c - a / 3) + 681) / 682
less_by_one c a b some near = omega (arith, some, near)

page_less : (c a b : ℕ) → 1 < c → a ≤ 5 → b ≡ 2048 → (((c - 1) - b / 3) + 681) / 682 + 1 ≤ ((c - a / 3) + 681) / 682
page_less c a b some near is = omega (arith, some, near, is)

none_left : (c b : ℕ) → c ≡ 0 → ((c - b / 3) + 681) / 682 ≡ 0
none_left c b none = omega (arith, none)

pub left_step :
    (held count : ℕ) (old next : Stand) → held / 2048 ≡ old.place / 2048 → old.at < count → next.at ≡ old.at + 1
    → IsBehind old.place next.place → left_behind held count next ≤ (((count - old.at) - codes_here old.place) + 681) / 682
left_step held count old next here more on behind =
    let q = old.place / 2048 in
    let c = count - old.at in
    let counted : count - next.at ≡ c - 1 = omega (arith, on) in
    elim (cases_lt next.place ((q + 1) * 2048)) [
      | inl less ↦
          let near : next.place ≤ old.place + 3 = elim behind.stays [ inl few ↦ few | inr turns ↦ absurd (omega (arith, turns, less)) ] in
          let same : next.place / 2048 ≡ q = omega (arith, less, behind.further) in
          let bytes : 2048 - old.place % 2048 ≤ 2048 - next.place % 2048 + 3 = omega (arith, same, near) in
          let none = bit_same (nat_lt next.at count) (held / 2048) (next.place / 2048) (here ∙ sym same) in
          let fewer = less_by_one c (2048 - old.place % 2048) (2048 - next.place % 2048) (omega (arith, more)) bytes in
          let is : (((count - next.at) - codes_here next.place) + 681) / 682 ≡ (((c - 1) - codes_here next.place) + 681) / 682 =
          ap (λ n. ((n - codes_here next.place) + 681) / 682) counted in
          omega (arith, none, fewer, is)
      | inr over ↦
          let turns : next.place ≡ (q + 1) * 2048 = omega (arith, over, behind.page) in
          let begins : 2048 - next.place % 2048 ≡ 2048 = omega (arith, turns) in
          let few : 2048 - old.place % 2048 ≤ 5 = omega (arith, turns, behind.near) in
          elim (cases_lt next.at count) [
            | inl some ↦
                let fewer = page_less c (2048 - old.place % 2048) (2048 - next.place % 2048) (omega (arith, some, on)) few begins in
                let is : (((count - next.at) - codes_here next.place) + 681) / 682 ≡ (((c - 1) - codes_here next.place) + 681) / 682 =
                ap (λ n. ((n - codes_here next.place) + 681) / 682) counted in
                let most = bit_most (nat_lt next.at count && not (nat_eq (held / 2048) (next.place / 2048))) in
                omega (arith, fewer, is, most)
            | inr end ↦
                let none = none_left (count - next.at) (2048 - next.place % 2048) (omega (arith, end)) in
                let bit = bit_at_end next.at count (not (nat_eq (held / 2048) (next.place / 2048))) end in
                omega (arith, none, bit)
          ]
    ]

-- none is taken
pub takes_none : (bytes : List ℕ) (count room limit : ℕ) (from : Stand) → from.place < room → from.at ≤ count → TakesCodes bytes count room limit from from
takes_none bytes count room limit from inside within = record {
  from = omega arith;
  within = within;
  stays = λ _. refl;
  above = λ less. absurd (omega (arith, less));
  below = λ less. absurd (omega (arith, less));
  inside = inside;
  left = omega arith;
  reads = λ page first begin same was. was;
}

pub suc_of : {n m : ℕ} → n ≡ m + 1 → n ≡ suc m
suc_of is = omega (arith, is)

same_or_more : (a b : ℕ) → a ≤ b → (b ≡ a) ⊎ (a < b)
same_or_more a b from =
    elim (cases_order b a) [
      | inl same ↦ inl same
      | inr apart ↦ elim apart [ inl less ↦ absurd (omega (arith, less, from)) | inr greater ↦ inr greater ]
    ]

-- the pages left by the number of the page in the buffer
abbrev left_in : (page count : ℕ) → Stand → ℕ
left_in page count stand =
    (((count - stand.at) - codes_here stand.place) + 681) / 682 + (if nat_lt stand.at count && not (nat_eq page (stand.place / 2048)) then 1 else 0)

-- some were taken, and then others
pub takes_trans :
    (bytes : List ℕ) (count room limit : ℕ) (before middle now : Stand) → TakesCodes bytes count room limit before middle
    → middle.place / 2048 ≡ before.place / 2048 → TakesCodes bytes count room limit middle now → TakesCodes bytes count room limit before now
takes_trans bytes count room limit before middle now first here second =
    let rises : (middle.at ≡ before.at) ⊎ (before.at < middle.at) = same_or_more before.at middle.at first.from in
    let goes_on : (now.at ≡ middle.at) ⊎ (middle.at < now.at) = same_or_more middle.at now.at second.from in
    record {
      from = omega (arith, first.from, second.from);
      within = second.within;
      stays = λ same. second.stays (omega (arith, same, first.from, second.from)) ∙ first.stays (omega (arith, same, first.from, second.from));
      above = λ less.
          elim rises [
            | inl same ↦
                let is : middle.last ≡ before.last = ap (λ (stand : Stand). stand.last) (first.stays same) in
                omega (arith, is, second.above (omega (arith, less, same)))
            | inr more ↦ elim goes_on [
              | inl same ↦ let is : now.last ≡ middle.last = ap (λ (stand : Stand). stand.last) (second.stays same) in omega (arith, is, first.above more)
              | inr further ↦ omega (arith, first.above more, second.above further)
            ]
          ];
      below = λ less.
          elim goes_on [
            | inl same ↦
                let is : now.last ≡ middle.last = ap (λ (stand : Stand). stand.last) (second.stays same) in
                omega (arith, is, first.below (omega (arith, less, same)))
            | inr further ↦ second.below further
          ];
      inside = second.inside;
      left =
          let same : (stand : Stand) → left_behind before.place count stand ≡ left_behind middle.place count stand =
          λ stand. ap (λ q. left_in q count stand) (sym here) in
          omega (arith, same now, same middle, first.left, second.left);
      reads = λ page start begin same gets.
          second.reads page start begin (ap (λ q. page (start + q)) here ∙ same) (first.reads page start begin same gets);
    }

-- one more is taken, of the same page
pub takes_more :
    (bytes : List ℕ) (count room limit : ℕ) (before now next : Stand) → TakesCodes bytes count room limit before now
    → now.place / 2048 ≡ before.place / 2048 → now.at < count → TakesCode bytes room limit now next → TakesCodes bytes count room limit before next
takes_more bytes count room limit before now next was here more takes =
    record {
      from = omega (arith, was.from, takes.at);
      within = omega (arith, more, takes.at);
      stays = λ same. absurd (omega (arith, same, was.from, takes.at));
      above = λ _.
          elim (cases_order now.at before.at) [
            | inl same ↦ let is : now.last ≡ before.last = ap (λ (stand : Stand). stand.last) (was.stays same) in omega (arith, is, takes.above)
            | inr apart ↦ elim apart [
              | inl less ↦ absurd (omega (arith, less, was.from))
              | inr greater ↦ omega (arith, was.above greater, takes.above)
            ]
          ];
      below = λ _. takes.below;
      inside = takes.inside;
      left =
          let step = left_step before.place count now next (sym here) more takes.at takes.behind in
          omega (arith, step, was.left);
      reads = λ page first begin same gets.
          let page_same : page (first + now.place / 2048) ≡ bytes = ap (λ q. page (first + q)) here ∙ same in
          ap (λ n. reading_at page first room begin n) (suc_of takes.at)
          ∙ next_reading page first room begin now.at (reading now) (was.reads page first begin same gets)
          ∙ takes.reads page first page_same;
    }
