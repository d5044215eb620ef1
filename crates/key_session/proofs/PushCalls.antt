-- How many calls the rows of a payload make: they end one page at most.
use Rattle.std.proofs.Common.{not, ◌&&◌, nat_lt, ◌≡◌, ◌≤◌, ◌<◌, ◌+◌, ◌*◌, ◌/◌, ℕ, zero, suc, arith, Bool, true, false, List, ◌++◌, length, drop, refl, sym, ◌∙◌, ap, subst, length-append, if◌then◌else◌}
use Rattle.std.proofs.Math.Nat.{mul-le-mul_right}
use Rattle.std.proofs.lemmas.Bool.Decides.{nat_tests}
use Rattle.std.proofs.lemmas.Nat.{le-div, div-add-mod'}
use Rattle.ghost_model.specs.forms.Runs.{per_page}
use Rattle.edge_traits.specs.Devices.{Device}
use Rattle.page_pool.specs.Pools.{Pool}
use Rattle.visible_spool.specs.declared.spool.Spool.{Spool}
use Rattle.visible_spool.specs.Sides.{is_marked}
use Rattle.visible_spool.specs.Spools.{HasPushed, PushedIf, is_at, pages_written}
use Rattle.key_session.specs.Rows.{cut, rows_at}
use Rattle.key_session.specs.Counting.{one_if}
use Rattle.key_session.specs.Hearing.{has_filled, pages_tried}
use Rattle.key_session.specs.Pushing.{CanPush}
use Rattle.key_session.specs.declared.ask.AskAtHand.{AskAtHand}
use Rattle.key_session.proofs.PushRows.{GoesOn}
use Rattle.key_session.proofs.RowsHeard.{hand_text}
use Rattle.key_session.proofs.WriteLemmas.{true_is_not_false}

-- rows that fit one page end one page at most
spread : (a b c : ℕ) → (a + b) * c ≡ a * c + b * c
spread a b c = grind arith

one_page : (each before held count now left more : ℕ) → before * each + held ≡ count → held < each → now * each + left ≡ count + more → more ≤ each → now ≤ before + 1
one_page each before held count now left more was few is fit = by_not (λ far.
    (let product = mul-le-mul_right each far in
    let split = spread before 2 each in
    omega (arith, product, split, was, few, is, fit)))
  where
    by_not : (before + 2 ≤ now → ⊥) → now ≤ before + 1
    by_not not = omega (arith, not)

pub cut_length : (width count : ℕ) (bytes : List ℕ) → length (cut width count bytes) ≡ count
unfolding cut
cut_length width zero bytes = refl
cut_length width (suc count) bytes = ap suc (cut_length width count (drop width bytes))

-- a payload fits one page
payload_fits : (width : ℕ) (payload : List ℕ) → 0 < width → length payload ≤ 2040 → length (rows_at width payload) ≤ per_page width
payload_fits width payload some short =
    let parts = div-add-mod' (length payload) width in
    let count = cut_length width (length payload / width) payload in
    let fit = le-div (length payload / width) 2048 width some (omega (arith, parts, short)) in
    omega (arith, count, fit)

-- the pages that were written of rows, and how many rows wait
pub record IsPaged (spool : Spool) (hand : AskAtHand) (rows : List (List ℕ)) : Type 0 where
  pub held : ℕ
  pub count : pages_written spool hand.text hand.table * per_page hand.width + held ≡ length rows
  pub few : held < per_page hand.width

module _ (told : Bool) (device : Device) (pool : Pool) (spool : Spool) (hand : AskAtHand) (can : CanPush device pool spool hand) (not : is_marked spool.sides hand.text ≡ false) (rows : List (List ℕ)) where
  pub some_rows : 0 < per_page hand.width
  some_rows =
      let wide = can.asked.wide in
      let narrow = can.asked.narrow_row in
      let e = le-div 1 2048 hand.width (omega (arith, wide)) (omega (arith, narrow)) in
      omega (arith, e)

  paged_by : (b : Bool) → is_at spool hand.text hand.table ≡ b → PushedIf b told device.page pool spool rows → IsPaged spool hand rows
  paged_by true at had =
      let some = can.asked.some in
      let e = hand_text spool hand.text hand.table at in
      let is = can.spooling.hand (λ none. (omega (arith, some, e, none))) in
      let width = (is.can (ap (λ t. is_marked spool.sides t) e ∙ not)).width ∙ can.asked.same_width at in
      let written = ap (λ (b : Bool). if b then spool.hand.writer.filler.pages else 0) at in
      let count = had.put.count in
      let full = spool.hand.writer.filler.not_full in
      record {
        held = spool.hand.writer.filler.held;
        count = ap (λ n. n * per_page hand.width + spool.hand.writer.filler.held) written ∙ subst (λ w. spool.hand.writer.filler.pages * per_page w + spool.hand.writer.filler.held ≡ length rows) width count;
        few = subst (λ w. spool.hand.writer.filler.held < per_page w) width full;
      }
  paged_by false away had =
      let written = ap (λ (b : Bool). if b then spool.hand.writer.filler.pages else 0) away in
      let pages = ap (λ n. n * per_page hand.width) written in
      let none = ap (λ (r : List (List ℕ)). length r) had in
      record { held = 0; count = omega (arith, pages, none); few = some_rows }

  pub paged : HasPushed told device.page pool spool hand.text hand.table rows → IsPaged spool hand rows
  paged had = paged_by (is_at spool hand.text hand.table) refl had

-- ---- what a page more costs

lt_false : (a b : ℕ) → nat_lt a b ≡ false → b ≤ a
lt_false a b e = grind (arith, nat_tests)

lt_true : (a b : ℕ) → nat_lt a b ≡ true → a < b
lt_true a b e = grind (arith, nat_tests)

-- one page at most was filled, by two calls
two_a_page : (old new before now : ℕ) (filled : Bool) → nat_lt old new ≡ filled → new ≤ old + 1 → now + 2 * old ≤ before + 2 * new → now ≤ before + 2 * one_if filled
two_a_page old new before now true e one calls = omega (arith, one, calls)
two_a_page old new before now false e one calls = let same = lt_false old new e in omega (arith, same, calls)

-- what was filled stays so
still_filled : (old mid new : ℕ) (was is : Bool) → nat_lt old mid ≡ was → nat_lt old new ≡ is → mid ≤ new → one_if was ≤ one_if is
still_filled old mid new false is e f grows = omega arith
still_filled old mid new true true e f grows = omega arith
still_filled old mid new true false e f grows = let less = lt_true old mid e in let more = lt_false old new f in absurd (omega (arith, less, more, grows))

newly : (was is : Bool) → was ≡ false → is ≡ true → one_if (not was && is) ≡ 1
newly was is e f = rw (e, f)

-- ---- how many calls were made

pub record CountsCalls (told : Bool) (before now : Device) (pool : Pool) (hand : AskAtHand) (old new : Spool) (payload : List ℕ) : Type 0 where
  pub calls : is_marked new.sides hand.text ≡ false → now.calls + 2 * pages_written old hand.text hand.table ≤ before.calls + 2 * pages_written new hand.text hand.table
  pub frozen : is_marked old.sides hand.text ≡ true → now ≡ before
  pub lost : is_marked old.sides hand.text ≡ false → is_marked new.sides hand.text ≡ true → (rows : List (List ℕ)) → HasPushed told before.page pool old hand.text hand.table rows
      → length payload ≤ 2040 → now.calls ≤ before.calls + 2 * (one_if (has_filled hand old new) + 1)

pub none_counted : (told : Bool) (before : Device) (pool : Pool) (hand : AskAtHand) (old : Spool) (payload : List ℕ) → CountsCalls told before before pool hand old old payload
none_counted told before pool hand old payload = record {
  calls = λ not. omega arith;
  frozen = λ marked. refl;
  lost = λ not marked. absurd (true_is_not_false (sym marked ∙ not));
}

-- the calls of a row
pub record RowCalls (before now : Device) (hand : AskAtHand) (old new : Spool) : Type 0 where
  pub completes : is_marked new.sides hand.text ≡ false → now.calls + 2 * pages_written old hand.text hand.table ≤ before.calls + 2 * pages_written new hand.text hand.table
  pub grows : pages_written old hand.text hand.table ≤ pages_written new hand.text hand.table
  pub at_most : now.calls ≤ before.calls + 2
  pub dropped : is_marked old.sides hand.text ≡ true → now ≡ before
  pub stays : is_marked old.sides hand.text ≡ true → is_marked new.sides hand.text ≡ true

module _ (told : Bool) (before between : Device) (pool middle : Pool) (hand : AskAtHand) (old mid : Spool) (payload rest : List ℕ) (goes : GoesOn told before between pool middle hand old mid payload rest)
    (can : CanPush before pool old hand) (can_mid : CanPush between middle mid hand) (counts : CountsCalls told before between pool hand old mid payload) where
  unmarked : (b : Bool) → is_marked old.sides hand.text ≡ b → is_marked mid.sides hand.text ≡ false → b ≡ false
  unmarked true was not = absurd (true_is_not_false (sym (goes.writes.marks.stays was) ∙ not))
  unmarked false was not = refl

  pub one_page_more : (rows : List (List ℕ)) → HasPushed told before.page pool old hand.text hand.table rows → length payload ≤ 2040 → is_marked mid.sides hand.text ≡ false
      → pages_written mid hand.text hand.table ≤ pages_written old hand.text hand.table + 1
  one_page_more rows had short not =
      let was = paged told before pool old hand can (unmarked (is_marked old.sides hand.text) refl not) rows had in
      let is = paged told between middle mid hand can_mid not (rows ++ goes.done) (goes.pushed rows had not) in
      let wide = can.asked.wide in
      let fit = payload_fits hand.width payload (omega (arith, wide)) short in
      let whole = ap (λ (r : List (List ℕ)). length r) goes.whole ∙ length-append goes.done (rows_at hand.width rest) in
      let all = length-append rows goes.done in
      let count = is.count in
      one_page (per_page hand.width) (pages_written old hand.text hand.table) was.held (length rows) (pages_written mid hand.text hand.table) is.held (length goes.done)
      was.count was.few (omega (arith, count, all)) (omega (arith, whole, fit))

  two_calls : (rows : List (List ℕ)) → HasPushed told before.page pool old hand.text hand.table rows → length payload ≤ 2040 → is_marked mid.sides hand.text ≡ false
      → between.calls ≤ before.calls + 2 * one_if (has_filled hand old mid)
  two_calls rows had short not =
      two_a_page (pages_written old hand.text hand.table) (pages_written mid hand.text hand.table) before.calls between.calls (has_filled hand old mid) refl
      (one_page_more rows had short not) (counts.calls not)

  pub few_calls : (rows : List (List ℕ)) → (is_marked old.sides hand.text ≡ false → HasPushed told before.page pool old hand.text hand.table rows) → length payload ≤ 2040
      → between.calls ≤ before.calls + 2 * pages_tried hand old mid
  few_calls rows had short = by (is_marked old.sides hand.text) (is_marked mid.sides hand.text) refl refl
    where
      by : (a b : Bool) → is_marked old.sides hand.text ≡ a → is_marked mid.sides hand.text ≡ b → between.calls ≤ before.calls + 2 * pages_tried hand old mid
      by true b ea eb = let same = ap (λ (d : Device). d.calls) (counts.frozen ea) in omega (arith, same)
      by false true ea eb =
          let lost = counts.lost ea eb rows (had ea) short in
          let mark = newly (is_marked old.sides hand.text) (is_marked mid.sides hand.text) ea eb in
          omega (arith, lost, mark)
      by false false ea eb = let two = two_calls rows (had ea) short eb in omega (arith, two)

  module _ (now : Device) (new : Spool) (row : RowCalls between now hand mid new) where
    calls_more : (b : Bool) → is_marked mid.sides hand.text ≡ b → is_marked new.sides hand.text ≡ false
        → now.calls + 2 * pages_written old hand.text hand.table ≤ before.calls + 2 * pages_written new hand.text hand.table
    calls_more true was not = absurd (true_is_not_false (sym (row.stays was) ∙ not))
    calls_more false was not = let one = counts.calls was in let two = row.completes not in omega (arith, one, two)

    filled_more : one_if (has_filled hand old mid) ≤ one_if (has_filled hand old new)
    filled_more =
        still_filled (pages_written old hand.text hand.table) (pages_written mid hand.text hand.table) (pages_written new hand.text hand.table) (has_filled hand old mid) (has_filled hand old new) refl refl row.grows

    lost_more : (b : Bool) → is_marked mid.sides hand.text ≡ b → is_marked old.sides hand.text ≡ false → (rows : List (List ℕ)) → HasPushed told before.page pool old hand.text hand.table rows
        → length payload ≤ 2040 → now.calls ≤ before.calls + 2 * (one_if (has_filled hand old new) + 1)
    lost_more true was not rows had short =
        let so_far = counts.lost not was rows had short in
        let same = ap (λ (d : Device). d.calls) (row.dropped was) in
        let more = filled_more in
        omega (arith, so_far, same, more)
    lost_more false was not rows had short =
        let two = two_calls rows had short was in
        let more = row.at_most in
        let filled = filled_more in
        omega (arith, two, more, filled)

    pub one_counted : CountsCalls told before now pool hand old new payload
    one_counted = record {
      calls = λ not. calls_more (is_marked mid.sides hand.text) refl not;
      frozen = λ marked. row.dropped (goes.writes.marks.stays marked) ∙ counts.frozen marked;
      lost = λ not marked rows had short. lost_more (is_marked mid.sides hand.text) refl not rows had short;
    }
