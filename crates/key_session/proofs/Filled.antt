-- The pages that an event fills are at least those that the flash was called for.
use Rattle.std.proofs.Common.{not, ◌&&◌, nat_lt, ◌≡◌, ◌≤◌, ◌<◌, ◌+◌, ◌*◌, ◌/◌, ℕ, arith, Bool, true, false, List, [], ◌∷◌, ◌++◌, length, refl, sym, ◌∙◌, ap, subst, append-nil, length-append, Option, Some, None, ◌⊎◌, inl, inr}
use Rattle.std.specs.Prelude.{sum_by}
use Rattle.std.proofs.lemmas.Bool.Decides.{nat_tests}
use Rattle.ghost_model.specs.core.Channel.{Catalog}
use Rattle.ghost_model.specs.core.Asks.{NumberedAsk, row_width}
use Rattle.ghost_model.specs.core.Lines.{was_refused}
use Rattle.ghost_model.specs.core.NextMove.{Heard, EndedAsk, Answered, Refused, ended}
use Rattle.ghost_model.specs.core.Schema.{Schema}
use Rattle.ghost_model.specs.forms.Frames.{payload_in}
use Rattle.ghost_model.specs.forms.Runs.{per_page}
use Rattle.edge_traits.specs.Devices.{Device}
use Rattle.page_pool.specs.Pools.{Pool}
use Rattle.channel_pump.specs.Progress.{RowsCame}
use Rattle.channel_pump.specs.Sessions.{asked_in}
use Rattle.channel_pump.specs.declared.state.Event.{Event}
use Rattle.channel_pump.specs.declared.state.Event.TheVariants as event_is
use Rattle.visible_spool.specs.Sides.{is_marked}
use Rattle.visible_spool.specs.Spools.{HasPushed, pages_written}
use Rattle.session_laws.specs.HonestSessions.{replies_in}
use Rattle.key_session.specs.Calls.{pages_of_reply}
use Rattle.key_session.specs.Counting.{one_if}
use Rattle.key_session.specs.Filling.{full_pages, pages_heard}
use Rattle.key_session.specs.Hearing.{Hears, pages_tried}
use Rattle.key_session.specs.Pushing.{CanPush}
use Rattle.key_session.specs.Rows.{rows_at}
use Rattle.key_session.specs.declared.ask.AskAtHand.{AskAtHand}
use Rattle.key_session.specs.declared.replies.Replies.{Replies}
use Rattle.key_session.proofs.Closing.{ended_awaited, ended_none}
use Rattle.key_session.proofs.PageNumbers.{full_by, full_more, no_rows}
use Rattle.key_session.proofs.PushCalls.{IsPaged, paged, cut_length, some_rows}
use Rattle.key_session.proofs.RowsHeard.{IsHere, can_push, rows_behind}
use Rattle.key_session.proofs.WriteLemmas.{true_is_not_false}

one_more : (was is : ℕ) → was ≤ is → one_if (nat_lt was is) + was ≤ is
one_more was is up = by (nat_lt was is) refl
  where
    less_of : nat_lt was is ≡ true → was < is
    less_of e = grind (arith, nat_tests)

    by : (b : Bool) → nat_lt was is ≡ b → one_if (nat_lt was is) + was ≤ is
    by true e = let less = less_of e in let one = ap one_if e in omega (arith, less, one)
    by false e = let none = ap one_if e in omega (arith, none, up)

not_newly : (was is : Bool) → is ≡ false → one_if (not was && is) ≡ 0
not_newly true is e = refl
not_newly false true e = cc
not_newly false false e = refl

-- ---- rows came

module _ (told : Bool) (before now : Device) (pool later : Pool) (catalog : Catalog) (page : List ℕ) (n : ℕ) (heard after : Heard) (low top : ℕ) (old new : Replies) (payload : List ℕ) (is_payload : payload ≡ payload_in page)
    (h : Hears told before pool catalog page (event_is.Rows n) heard after low top old) (is : IsHere told before pool catalog heard low top old) (came : RowsCame catalog is.at.asked is.last payload n)
    (can : CanPush now later new.spool new.hand) (stays : is_marked old.spool.sides old.hand.text ≡ true → is_marked new.spool.sides old.hand.text ≡ true)
    (pushed : (rows : List (List ℕ)) → HasPushed told before.page pool old.spool old.hand.text old.hand.table rows → is_marked new.spool.sides old.hand.text ≡ false
    → HasPushed told now.page later new.spool old.hand.text old.hand.table (rows ++ rows_at old.hand.width payload))
    (same_hand : new.hand ≡ old.hand) (few : now.calls ≤ before.calls + 2 * pages_tried old.hand old.spool new.spool) (unmarked : is_marked new.spool.sides old.hand.text ≡ false) where
  abbrev width : ℕ
  width = old.hand.width

  abbrev each : ℕ
  each = per_page old.hand.width

  own_width : row_width catalog.schema is.at.asked.ask ≡ old.hand.width
  own_width = sym is.at.ask.width_is

  unmarked_old : (b : Bool) → is_marked old.spool.sides old.hand.text ≡ b → b ≡ false
  unmarked_old true was = absurd (true_is_not_false (sym (stays was) ∙ unmarked))
  unmarked_old false was = refl

  was_unmarked : is_marked old.spool.sides old.hand.text ≡ false
  was_unmarked = unmarked_old _ refl

  pushed_old : HasPushed told before.page pool old.spool old.hand.text old.hand.table (rows_at old.hand.width heard.rows)
  pushed_old = is.at.come.pushed was_unmarked

  can_old : CanPush before pool old.spool old.hand
  can_old = can_push told before pool catalog heard low top old is

  can_new : CanPush now later new.spool old.hand
  can_new = subst (λ (hand : AskAtHand). CanPush now later new.spool hand) same_hand can

  was_paged : IsPaged old.spool old.hand (rows_at old.hand.width heard.rows)
  was_paged = paged told before pool old.spool old.hand can_old was_unmarked (rows_at old.hand.width heard.rows) pushed_old

  now_paged : IsPaged new.spool old.hand (rows_at old.hand.width heard.rows ++ rows_at old.hand.width payload)
  now_paged = paged told now later new.spool old.hand can_new unmarked (rows_at old.hand.width heard.rows ++ rows_at old.hand.width payload) (pushed (rows_at old.hand.width heard.rows) pushed_old unmarked)

  rows_now : after.rows ≡ heard.rows ++ payload
  rows_now = h.tells.rows ∙ ap (λ (p : List ℕ). heard.rows ++ p) (sym is_payload)

  -- how many rows there were, and are
  count_old : length (rows_at old.hand.width heard.rows) ≡ length heard.rows / old.hand.width
  count_old = cut_length old.hand.width (length heard.rows / old.hand.width) heard.rows

  count_new : length (rows_at old.hand.width heard.rows ++ rows_at old.hand.width payload) ≡ length after.rows / old.hand.width
  count_new =
      ap length (sym (rows_behind told before pool catalog heard low top old is payload n came))
      ∙ (cut_length old.hand.width (length (heard.rows ++ payload) / old.hand.width) (heard.rows ++ payload) ∙ ap (λ (rows : List ℕ). length rows / old.hand.width) (sym rows_now))

  full_old : full_pages catalog.schema (asked_in heard.awaits) heard.rows ≡ pages_written old.spool old.hand.text old.hand.table
  full_old =
      ap (λ (asked : Option NumberedAsk). full_pages catalog.schema asked heard.rows) is.at.awaited
      ∙ (ap (λ w. length heard.rows / w / per_page w) own_width
      ∙ full_by (per_page old.hand.width) (pages_written old.spool old.hand.text old.hand.table) was_paged.held (length heard.rows / old.hand.width) (was_paged.count ∙ count_old) was_paged.few)

  full_new : full_pages catalog.schema (asked_in after.awaits) after.rows ≡ pages_written new.spool old.hand.text old.hand.table
  full_new =
      ap (λ (asked : Option NumberedAsk). full_pages catalog.schema asked after.rows) (h.same_ask refl ∙ is.at.awaited)
      ∙ (ap (λ w. length after.rows / w / per_page w) own_width
      ∙ full_by (per_page old.hand.width) (pages_written new.spool old.hand.text old.hand.table) now_paged.held (length after.rows / old.hand.width) (now_paged.count ∙ count_new) now_paged.few)

  no_fewer : pages_written old.spool old.hand.text old.hand.table ≤ pages_written new.spool old.hand.text old.hand.table
  no_fewer =
      let was = full_by (per_page old.hand.width) (pages_written old.spool old.hand.text old.hand.table) was_paged.held (length (rows_at old.hand.width heard.rows)) was_paged.count was_paged.few in
      let is_now = full_by (per_page old.hand.width) (pages_written new.spool old.hand.text old.hand.table) now_paged.held (length (rows_at old.hand.width heard.rows ++ rows_at old.hand.width payload)) now_paged.count now_paged.few in
      let some = some_rows told before pool old.spool old.hand can_old was_unmarked (rows_at old.hand.width heard.rows) in
      let long = length-append (rows_at old.hand.width heard.rows) (rows_at old.hand.width payload) in
      let more = full_more (per_page old.hand.width) (length (rows_at old.hand.width heard.rows)) (length (rows_at old.hand.width heard.rows ++ rows_at old.hand.width payload)) some (omega (arith, long)) in
      omega (arith, was, is_now, more)

  ends_same : sum_by (pages_of_reply catalog.schema) (replies_in catalog.schema after.ended) ≡ sum_by (pages_of_reply catalog.schema) (replies_in catalog.schema heard.ended)
  ends_same = ap (λ (ends : List EndedAsk). sum_by (pages_of_reply catalog.schema) (replies_in catalog.schema ends)) (h.tells.ended ∙ append-nil heard.ended)

  pub rows_fill : now.calls + 2 * pages_heard catalog.schema heard ≤ before.calls + 2 * pages_heard catalog.schema after
  rows_fill =
      let was = full_old in
      let is_now = full_new in
      let same = ends_same in
      let filled = one_more (pages_written old.spool old.hand.text old.hand.table) (pages_written new.spool old.hand.text old.hand.table) no_fewer in
      let none = not_newly (is_marked old.spool.sides old.hand.text) (is_marked new.spool.sides old.hand.text) unmarked in
      omega (arith, was, is_now, same, filled, none, few)

-- ---- nothing was written

no_full : (schema : Schema) (asked : Option NumberedAsk) → full_pages schema asked [] ≡ 0
no_full schema None = refl
no_full schema (Some one) = no_rows (row_width schema one.ask) (per_page (row_width schema one.ask))

still : (calls now sum full later more : ℕ) → now ≡ calls → later ≡ sum → full ≤ more → now + 2 * (sum + full) ≤ calls + 2 * (later + more)
still calls now sum full later more same ends up = omega (arith, same, ends, up)

-- as much was heard of the replies as before
pub same_fills : (catalog : Catalog) (before now : Device) (heard after : Heard) → now ≡ before → after.rows ≡ heard.rows → after.ended ≡ heard.ended ++ [] → asked_in after.awaits ≡ asked_in heard.awaits
    → now.calls + 2 * pages_heard catalog.schema heard ≤ before.calls + 2 * pages_heard catalog.schema after
same_fills catalog before now heard after same rows ends asked =
    let calls = ap (λ (d : Device). d.calls) same in
    let sums = ap (λ (es : List EndedAsk). sum_by (pages_of_reply catalog.schema) (replies_in catalog.schema es)) (ends ∙ append-nil heard.ended) in
    let full = ap (λ (rs : List ℕ). full_pages catalog.schema (asked_in after.awaits) rs) rows ∙ ap (λ (one : Option NumberedAsk). full_pages catalog.schema one heard.rows) asked in
    omega (arith, calls, sums, full)

-- no ask was awaited
pub none_fills : (catalog : Catalog) (before now : Device) (heard after : Heard) → now ≡ before → after.ended ≡ heard.ended ++ [] → asked_in heard.awaits ≡ None
    → now.calls + 2 * pages_heard catalog.schema heard ≤ before.calls + 2 * pages_heard catalog.schema after
none_fills catalog before now heard after same ends none =
    let calls = ap (λ (d : Device). d.calls) same in
    let sums = ap (λ (es : List EndedAsk). sum_by (pages_of_reply catalog.schema) (replies_in catalog.schema es)) (ends ∙ append-nil heard.ended) in
    let full = ap (λ (one : Option NumberedAsk). full_pages catalog.schema one heard.rows) none in
    omega (arith, calls, sums, full)

none_awaited : (asked : Option NumberedAsk) → ((one : NumberedAsk) → asked ≡ Some one → ⊥) → asked ≡ None
none_awaited None none = refl
none_awaited (Some one) none = absurd (none one refl)

-- a reply was ended, and none was at hand
pub unopened_fills : (told : Bool) (before now : Device) (pool : Pool) (catalog : Catalog) (page : List ℕ) (heard after : Heard) (low top : ℕ) (old : Replies) → old.is_open ≡ false → now ≡ before
    → Hears told before pool catalog page event_is.Done heard after low top old → now.calls + 2 * pages_heard catalog.schema heard ≤ before.calls + 2 * pages_heard catalog.schema after
unopened_fills told before now pool catalog page heard after low top old shut same h =
    let none : (one : NumberedAsk) → asked_in heard.awaits ≡ Some one → ⊥ = λ one e. true_is_not_false (sym (h.begun one e).0 ∙ shut) in
    none_fills catalog before now heard after same (h.tells.ended ∙ ap (λ more. heard.ended ++ more) (ended_none heard.awaits (Answered heard.rows) none)) (none_awaited (asked_in heard.awaits) none)

-- an ask was refused, or none was awaited
refused_last : (ends : List EndedAsk) (asked : NumberedAsk) (code : ℕ) → was_refused (ends ++ ended asked (Refused code) ∷ []) ≡ true
refused_last [] asked code = refl
refused_last (end ∷ ends) asked code = let later = refused_last ends asked code in grind arith

pub sorry_fills : (told : Bool) (before now : Device) (pool : Pool) (catalog : Catalog) (page : List ℕ) (code : ℕ) (heard after : Heard) (low top : ℕ) (old : Replies) → now ≡ before
    → Hears told before pool catalog page (event_is.Sorry code) heard after low top old → was_refused after.ended ≡ false
    → now.calls + 2 * pages_heard catalog.schema heard ≤ before.calls + 2 * pages_heard catalog.schema after
sorry_fills told before now pool catalog page code heard after low top old same h unrefused =
    let none : (one : NumberedAsk) → asked_in heard.awaits ≡ Some one → ⊥ =
    λ one e. true_is_not_false (sym (refused_last heard.ended one code) ∙ (ap was_refused (sym (h.tells.ended ∙ ap (λ more. heard.ended ++ more) (ended_awaited heard.awaits one (Refused code) e))) ∙ unrefused)) in
    none_fills catalog before now heard after same (h.tells.ended ∙ ap (λ more. heard.ended ++ more) (ended_none heard.awaits (Refused code) none)) (none_awaited (asked_in heard.awaits) none)

pub over_fills : (told : Bool) (flash : Device) (pool : Pool) (catalog : Catalog) (page : List ℕ) (event : Event) (heard after : Heard) (low top : ℕ) (old : Replies)
    → ((code : ℕ) × (event ≡ event_is.Sorry code)) ⊎ (event ≡ event_is.Welcome)
    → Hears told flash pool catalog page event heard after low top old → was_refused after.ended ≡ false
    → flash.calls + 2 * pages_heard catalog.schema heard ≤ flash.calls + 2 * pages_heard catalog.schema after
over_fills told flash pool catalog page event heard after low top old (inl sorry) h unrefused =
    sorry_fills told flash flash pool catalog page sorry.0 heard after low top old refl (subst (λ (e : Event). Hears told flash pool catalog page e heard after low top old) sorry.1 h) unrefused
over_fills told flash pool catalog page event heard after low top old (inr welcome) h unrefused =
    let is = subst (λ (e : Event). Hears told flash pool catalog page e heard after low top old) welcome h in
    none_fills catalog flash flash heard after refl is.tells.ended (is.greeting refl)

-- a part of a frame came, or an invalid one
pub part_fills : (told : Bool) (flash : Device) (pool : Pool) (catalog : Catalog) (page : List ℕ) (event : Event) (heard after : Heard) (low top : ℕ) (old : Replies)
    → (event ≡ event_is.Part) ⊎ ((kind : ℕ) × (at : ℕ) × (event ≡ event_is.Invalid kind at))
    → Hears told flash pool catalog page event heard after low top old
    → flash.calls + 2 * pages_heard catalog.schema heard ≤ flash.calls + 2 * pages_heard catalog.schema after
part_fills told flash pool catalog page event heard after low top old (inl part) h =
    let is = subst (λ (e : Event). Hears told flash pool catalog page e heard after low top old) part h in
    same_fills catalog flash flash heard after refl is.tells.rows is.tells.ended (is.same_ask refl)
part_fills told flash pool catalog page event heard after low top old (inr invalid) h =
    let is = subst (λ (e : Event). Hears told flash pool catalog page e heard after low top old) invalid.2 h in
    same_fills catalog flash flash heard after refl is.tells.rows is.tells.ended (is.same_ask refl)

-- the ask at hand is of a text that was not told yet
pub from_low : (told : Bool) (device : Device) (pool : Pool) (catalog : Catalog) (heard : Heard) (low top : ℕ) (old : Replies) → IsHere told device pool catalog heard low top old → low ≤ old.hand.text
from_low told device pool catalog heard low top old is = let e = is.at.ask.text_is in let from = is.from in omega (arith, e, from)
