-- A reply was ended: its last page is written, if rows wait for it.
use Rattle.std.proofs.Common.{not, ◌&&◌, nat_lt, ◌≡◌, ◌≤◌, ◌<◌, ◌+◌, ◌-◌, ◌*◌, ◌/◌, ℕ, arith, Bool, true, false, List, [], ◌∷◌, ◌++◌, length, refl, sym, ◌∙◌, ap, subst, Option}
use Rattle.std.specs.Prelude.{sum_by}
use Rattle.std.proofs.lemmas.Bool.Decides.{nat_tests}
use Rattle.ghost_model.specs.core.Channel.{Catalog}
use Rattle.ghost_model.specs.core.Asks.{NumberedAsk, row_width}
use Rattle.ghost_model.specs.core.NextMove.{Heard, EndedAsk, Answered, ended}
use Rattle.ghost_model.specs.forms.Runs.{per_page, pages_of}
use Rattle.edge_traits.specs.Devices.{Device}
use Rattle.page_pool.specs.Pools.{Pool}
use Rattle.channel_pump.specs.Sessions.{asked_in}
use Rattle.channel_pump.specs.declared.state.Event.TheVariants as event_is
use Rattle.flash_pages.specs.Writers.{waits}
use Rattle.visible_spool.specs.Sides.{is_marked}
use Rattle.visible_spool.specs.Spools.{PushedIf, is_at}
use Rattle.session_laws.specs.HonestSessions.{replies_in}
use Rattle.key_session.specs.Calls.{pages_of_reply}
use Rattle.key_session.specs.Counting.{one_if}
use Rattle.key_session.specs.Filling.{full_pages, pages_heard}
use Rattle.key_session.specs.Hearing.{Hears, has_waiting}
use Rattle.key_session.specs.Pushing.{CanPush}
use Rattle.key_session.specs.Rows.{rows_at}
use Rattle.key_session.specs.declared.replies.Replies.{Replies}
use Rattle.key_session.proofs.Closing.{ended_awaited}
use Rattle.key_session.proofs.PageNumbers.{full_by, full_more, all_pages_waiting, pages_joined, pages_of_one}
use Rattle.key_session.proofs.PushCalls.{cut_length, some_rows}
use Rattle.key_session.proofs.RowsHeard.{IsHere, can_push, hand_text}
use Rattle.key_session.proofs.WriteLemmas.{true_is_not_false}

-- no more than the pages that its rows fill, the last of them with those that wait
module _ (told : Bool) (before now : Device) (pool : Pool) (catalog : Catalog) (page : List ℕ) (heard after : Heard) (low top : ℕ) (old new : Replies)
    (h : Hears told before pool catalog page event_is.Done heard after low top old) (is : IsHere told before pool catalog heard low top old)
    (stays : is_marked old.spool.sides old.hand.text ≡ true → is_marked new.spool.sides old.hand.text ≡ true)
    (few : now.calls ≤ before.calls + 2 * one_if (has_waiting old.hand old.spool)) (unmarked : is_marked new.spool.sides old.hand.text ≡ false) where
  unmarked_old : (b : Bool) → is_marked old.spool.sides old.hand.text ≡ b → b ≡ false
  unmarked_old true was = absurd (true_is_not_false (sym (stays was) ∙ unmarked))
  unmarked_old false was = refl

  was_unmarked : is_marked old.spool.sides old.hand.text ≡ false
  was_unmarked = unmarked_old _ refl

  can_old : CanPush before pool old.spool old.hand
  can_old = can_push told before pool catalog heard low top old is

  abbrev rows : List (List ℕ)
  rows = rows_at old.hand.width heard.rows

  some : 0 < per_page old.hand.width
  some = some_rows told before pool old.spool old.hand can_old was_unmarked (rows_at old.hand.width heard.rows)

  one_waiting : (each pages held count : ℕ) (marked : Bool) → pages * each + held ≡ count → held < each → one_if (nat_lt 0 held && not marked) + count / each ≤ (count + (each - 1)) / each
  one_waiting each pages held count marked all less = by (nat_lt 0 held) refl marked
    where
      some_held : nat_lt 0 held ≡ true → 0 < held
      some_held e = grind (arith, nat_tests)

      more : count / each ≤ (count + (each - 1)) / each
      more = full_more each count (count + (each - 1)) (omega (arith, less)) (omega arith)

      by : (b : Bool) → nat_lt 0 held ≡ b → (m : Bool) → one_if (nat_lt 0 held && not m) + count / each ≤ (count + (each - 1)) / each
      by true e m =
          let full = full_by each pages held count all less in
          let whole = all_pages_waiting each pages held count all less (some_held e) in
          let one : one_if (nat_lt 0 held && not m) ≤ 1 = at_most (nat_lt 0 held && not m) in
          omega (arith, full, whole, one)
        where
          at_most : (b : Bool) → one_if b ≤ 1
          at_most true = omega arith
          at_most false = omega arith
      by false e m = let none : one_if (nat_lt 0 held && not m) ≡ 0 = ap (λ (b : Bool). one_if (b && not m)) e in omega (arith, none, more)

  waiting_by : (at : Bool) → is_at old.spool old.hand.text old.hand.table ≡ at → PushedIf at told before.page pool old.spool (rows_at old.hand.width heard.rows)
      → one_if (at && (waits old.spool.hand.writer.filler && not (is_marked old.spool.sides old.hand.text))) + length (rows_at old.hand.width heard.rows) / per_page old.hand.width ≤ (length (rows_at old.hand.width heard.rows) + (per_page old.hand.width - 1)) / per_page old.hand.width
  waiting_by true at had =
      let text = can_old.asked.some in
      let e = hand_text old.spool old.hand.text old.hand.table at in
      let held = can_old.spooling.hand (λ none. (omega (arith, text, e, none))) in
      let width = (held.can (ap (λ t. is_marked old.spool.sides t) e ∙ was_unmarked)).width ∙ can_old.asked.same_width at in
      let count = subst (λ w. old.spool.hand.writer.filler.pages * per_page w + old.spool.hand.writer.filler.held ≡ length (rows_at old.hand.width heard.rows)) width had.put.count in
      let less = subst (λ w. old.spool.hand.writer.filler.held < per_page w) width old.spool.hand.writer.filler.not_full in
      one_waiting (per_page old.hand.width) old.spool.hand.writer.filler.pages old.spool.hand.writer.filler.held (length (rows_at old.hand.width heard.rows)) (is_marked old.spool.sides old.hand.text) count less
  waiting_by false away had =
      let more = full_more (per_page old.hand.width) (length (rows_at old.hand.width heard.rows)) (length (rows_at old.hand.width heard.rows) + (per_page old.hand.width - 1)) some (omega arith) in
      omega (arith, more)

  own_width : row_width catalog.schema is.at.asked.ask ≡ old.hand.width
  own_width = sym is.at.ask.width_is

  count_old : length (rows_at old.hand.width heard.rows) ≡ length heard.rows / old.hand.width
  count_old = cut_length old.hand.width (length heard.rows / old.hand.width) heard.rows

  full_old : full_pages catalog.schema (asked_in heard.awaits) heard.rows ≡ length (rows_at old.hand.width heard.rows) / per_page old.hand.width
  full_old =
      ap (λ (asked : Option NumberedAsk). full_pages catalog.schema asked heard.rows) is.at.awaited
      ∙ (ap (λ w. length heard.rows / w / per_page w) own_width ∙ ap (λ c. c / per_page old.hand.width) (sym count_old))

  ends_more : sum_by (pages_of_reply catalog.schema) (replies_in catalog.schema after.ended)
      ≡ sum_by (pages_of_reply catalog.schema) (replies_in catalog.schema heard.ended) + (length (rows_at old.hand.width heard.rows) + (per_page old.hand.width - 1)) / per_page old.hand.width
  ends_more =
      ap (λ (ends : List EndedAsk). sum_by (pages_of_reply catalog.schema) (replies_in catalog.schema ends)) (h.tells.ended ∙ ap (λ more. heard.ended ++ more) (ended_awaited heard.awaits is.at.asked (Answered heard.rows) is.at.awaited))
      ∙ (pages_joined catalog.schema heard.ended (ended is.at.asked (Answered heard.rows) ∷ [])
      ∙ ap (λ m. sum_by (pages_of_reply catalog.schema) (replies_in catalog.schema heard.ended) + m)
      (pages_of_one catalog.schema is.at.asked heard.rows ∙ (ap (λ w. pages_of (length heard.rows / w) w) own_width ∙ ap (λ c. pages_of c old.hand.width) (sym count_old))))

  pub done_fills : now.calls + 2 * pages_heard catalog.schema heard ≤ before.calls + 2 * pages_heard catalog.schema after
  done_fills =
      let was = full_old in
      let more = ends_more in
      let waiting = waiting_by (is_at old.spool old.hand.text old.hand.table) refl (is.at.come.pushed was_unmarked) in
      omega (arith, was, more, waiting, few)
