use Rattle.std.proofs.Common.{◌≡◌, refl, subst, ap, ℕ, zero, suc, ◌<◌, ◌≤◌, List, [], ◌∷◌, length, drop, map, get_or, codes, true, arith}
use Rattle.std.proofs.lemmas.List.{length-map}
use Rattle.ghost_model.specs.core.Asks.{row_in}
use Rattle.ghost_model.specs.core.NextMove.{are_cells}
use Rattle.ghost_model.specs.core.Replies.{replied_row}
use Rattle.ghost_model.specs.forms.Runs.{record_at, number_in}
use Rattle.ghost_base.specs.Runs.{run_of}
use Rattle.ghost_model.specs.core.Schema.{places_from, ancestor}
use Rattle.ghost_model.specs.forms.Layout.{first_page, files_end}
use Rattle.candidate_rows.specs.Rows.{HoldsReply}
use Rattle.visible_spool.specs.Areas.{IsAreaOf, half_begin, half_end}
use Rattle.visible_spool.specs.Halves.{reply_of}
use Rattle.visible_spool.specs.Replies.{HoldsRows, id_of, kinds_of}
use Rattle.key_exec.specs.Examples.{sheet_catalog, sheet_area, sheet_bytes, sheets_of_x, all_sheets, spool_page, half_from, first_reply, second_reply}
use Rattle.key_exec.proofs.examples.replies_to_two_texts.Goals as goal

twice : (P : ℕ → Type 0) → P 0 → P 1 → (i : ℕ) → i < 2 → P i
twice P a b zero low = a
twice P a b (suc zero) low = b
twice P a b (suc (suc i)) low = absurd (omega (arith, low))

thrice : (P : ℕ → Type 0) → P 0 → P 1 → P 2 → (i : ℕ) → i < 3 → P i
thrice P a b c zero low = a
thrice P a b c (suc zero) low = b
thrice P a b c (suc (suc zero)) low = c
thrice P a b c (suc (suc (suc i))) low = absurd (omega (arith, low))

two_ascend : (f : ℕ → ℕ) → f 0 < f 1 → (i j : ℕ) → i < j → j < 2 → f i < f j
two_ascend f a i zero before within = absurd (omega (arith, before))
two_ascend f a zero (suc zero) before within = a
two_ascend f a (suc i) (suc zero) before within = absurd (omega (arith, before))
two_ascend f a i (suc (suc j)) before within = absurd (omega (arith, within))

three_ascend : (f : ℕ → ℕ) → f 0 < f 1 → f 1 < f 2 → (i j : ℕ) → i < j → j < 3 → f i < f j
three_ascend f a b i zero before within = absurd (omega (arith, before))
three_ascend f a b zero (suc zero) before within = a
three_ascend f a b (suc i) (suc zero) before within = absurd (omega (arith, before))
three_ascend f a b zero (suc (suc zero)) before within = omega (arith, a, b)
three_ascend f a b (suc zero) (suc (suc zero)) before within = b
three_ascend f a b (suc (suc i)) (suc (suc zero)) before within = absurd (omega (arith, before))
three_ascend f a b i (suc (suc (suc j))) before within = absurd (omega (arith, within))

abbrev two_rows : List (List ℕ)
two_rows = sheet_bytes 1 (codes "x") ∷ sheet_bytes 3 (codes "x") ∷ []

abbrev three_rows : List (List ℕ)
three_rows = sheet_bytes 1 (codes "x") ∷ sheet_bytes 2 (codes "y") ∷ sheet_bytes 3 (codes "x") ∷ []

one : id_of three_rows 0 ≡ 1
unfolding number_in
one = refl

two : id_of three_rows 1 ≡ 2
unfolding number_in
two = refl

three : id_of three_rows 2 ≡ 3
unfolding number_in
three = refl

one_of_two : id_of two_rows 0 ≡ 1
unfolding number_in
one_of_two = refl

three_of_two : id_of two_rows 1 ≡ 3
unfolding number_in
three_of_two = refl

two_held : HoldsRows spool_page (reply_of (half_from 4416 2) 0) two_rows
unfolding record_at
two_held = record {
  has = record { count = refl; each = twice (λ i. record_at spool_page (run_of (reply_of (half_from 4416 2) 0).run) i ≡ get_or two_rows i []) refl refl };
  are = record {
    some = twice (λ i. 0 < id_of two_rows i) (omega (arith, one_of_two)) (omega (arith, three_of_two));
    ascend = two_ascend (id_of two_rows) (omega (arith, one_of_two, three_of_two));
    within = twice (λ i. id_of two_rows i ≤ 3) (omega (arith, one_of_two)) (omega (arith, three_of_two));
    cells = twice (λ i. are_cells (kinds_of (reply_of (half_from 4416 2) 0)) (drop 4 (get_or two_rows i [])) ≡ true) refl refl;
  };
}

three_held : HoldsRows spool_page (reply_of (half_from 256 3) 0) three_rows
unfolding record_at
three_held = record {
  has = record { count = refl; each = thrice (λ i. record_at spool_page (run_of (reply_of (half_from 256 3) 0).run) i ≡ get_or three_rows i []) refl refl refl };
  are = record {
    some = thrice (λ i. 0 < id_of three_rows i) (omega (arith, one)) (omega (arith, two)) (omega (arith, three));
    ascend = three_ascend (id_of three_rows) (omega (arith, one, two)) (omega (arith, two, three));
    within = thrice (λ i. id_of three_rows i ≤ 3) (omega (arith, one)) (omega (arith, two)) (omega (arith, three));
    cells = thrice (λ i. are_cells (kinds_of (reply_of (half_from 256 3) 0)) (drop 4 (get_or three_rows i [])) ≡ true) refl refl refl;
  };
}

-- where the first reply's rows would end on a third page, there is none
nothing_stands : (row : List ℕ) → record_at spool_page (run_of (reply_of (half_from 4416 3) 0).run) 2 ≡ row → number_in row 0 ≡ 4294967295
unfolding record_at number_in
nothing_stands row is = subst (λ (bytes : List ℕ). number_in bytes 0 ≡ 4294967295) is refl

area_is : IsAreaOf sheet_catalog 0 sheet_area
unfolding ancestor places_from first_page files_end
area_is = record {
  even_is = refl;
  odd_is = refl;
  rows_is = refl;
  width_is = refl;
  even_lies = λ wide. record {
    from = (let begins : half_begin sheet_catalog 0 ≡ 256 = refl in omega (arith, begins));
    to = (let ends : half_end sheet_catalog 0 ≡ 4416 = refl in omega (arith, ends));
  };
  odd_lies = λ wide. record {
    from = (let begins : half_begin sheet_catalog 1 ≡ 4416 = refl in omega (arith, begins));
    to = (let ends : half_end sheet_catalog 1 ≡ 8576 = refl in omega (arith, ends));
  };
}

first_is : HoldsReply spool_page sheet_catalog.schema sheets_of_x (half_from 4416 2) 0 first_reply
unfolding places_from
first_is = record { ask_is = refl; rows = two_rows; holds = two_held; kinds_are = λ some. refl; are = refl }

second_is : HoldsReply spool_page sheet_catalog.schema all_sheets (half_from 256 3) 0 second_reply
unfolding places_from
second_is = record { ask_is = refl; rows = three_rows; holds = three_held; kinds_are = λ some. refl; are = refl }

pub returns : goal.returns
returns c = record {
  area = area_is;
  of_the_first = refl;
  of_the_second = refl;
  first = first_is;
  second = second_is;
  a_row_more = λ h.
      let as_many : 2 ≡ length (map (λ bytes. replied_row sheet_catalog.schema first_reply.ask (row_in bytes)) h.rows) = ap length h.are in
      let count : 3 ≡ length h.rows = h.holds.has.count in
      let same = length-map h.rows (λ bytes. replied_row sheet_catalog.schema first_reply.ask (row_in bytes)) in
      absurd (omega (arith, as_many, count, same));
  the_other_half = λ h.
      let count : 3 ≡ length h.rows = h.holds.has.count in
      let high = nothing_stands (get_or h.rows 2 []) (h.holds.has.each 2 (omega arith)) in
      let most : id_of h.rows 2 ≤ 3 = h.holds.are.within 2 (omega (arith, count)) in
      absurd (omega (arith, high, most));
}
