-- An event of the reply at hand.
use Rattle.std.proofs.Common.{◌≡◌, ◌≤◌, ◌+◌, ◌*◌, ◌%◌, ◌&&◌, not, ℕ, arith, Bool, true, false, List, [], ◌++◌, refl, sym, ◌∙◌, ap, subst, Some, None, ◌⊎◌, inl, inr}
use Rattle.ghost_model.specs.core.Channel.{Catalog}
use Rattle.ghost_model.specs.core.Asks.{NumberedAsk}
use Rattle.ghost_model.specs.core.NextMove.{Heard, Ending, Answered, Refused, Awaits, AwaitsCatalog, AwaitsReply, AwaitsNothing}
use Rattle.ghost_model.specs.core.Schema.{Schema}
use Rattle.ghost_model.specs.forms.Frames.{payload_in}
use Rattle.edge_traits.specs.Devices.{Device}
use Rattle.edge_traits.proofs.DeviceFrames.{changes_wider, changes_kept, kept_same}
use Rattle.page_pool.specs.Pools.{Pool}
use Rattle.channel_pump.specs.Progress.{RowsCame, ended_with}
use Rattle.channel_pump.specs.declared.state.Event.{Event}
use Rattle.channel_pump.specs.declared.state.Event.TheVariants as event_is
use Rattle.key_session.specs.Fits.{IsFitting}
use Rattle.visible_spool.specs.declared.half.Half.{Half}
use Rattle.visible_spool.specs.declared.spool.Spool.{Spool}
use Rattle.visible_spool.specs.Areas.{LiesIn, first_of, end_of, half_begin, half_end, is_even}
use Rattle.visible_spool.specs.Sides.{is_marked, side_of}
use Rattle.visible_spool.specs.Spools.{area_at}
use Rattle.key_session.specs.Counting.{one_if}
use Rattle.key_session.specs.Kept.{IsKept, HasEndings, IsOver}
use Rattle.key_session.specs.Hearing.{Hears, HasHeard}
use Rattle.key_session.specs.Pushing.{Writes, MayCome, AreNext}
use Rattle.key_session.specs.declared.replies.Replies.{Replies}
use Rattle.key_session.proofs.Elsewhere.{half_by}
use Rattle.key_session.proofs.Keeping.{side_by, marks_same}
use Rattle.key_session.proofs.RowsHeard.{IsHere, CameFor, here, came_for, same_asked, area_there, area_visible, are_next}
use Rattle.key_session.proofs.Closing.{ended_awaited, ended_none, over_still, over_now, shut}
use Rattle.key_session.proofs.KeptLaws.{its_half}
use Rattle.key_session.proofs.WriteLemmas.{true_is_not_false}

-- rows came: the reply at hand is that to the ask that is awaited
pub record RowsAreHere (told : Bool) (device : Device) (pool : Pool) (catalog : Catalog) (page : List ℕ) (n : ℕ) (heard : Heard) (low top : ℕ) (old : Replies) : Type 0 where
  pub is : IsHere told device pool catalog heard low top old
  pub came : RowsCame catalog is.at.asked is.last (payload_in page) n

pub rows_are_here : (told : Bool) (device : Device) (pool : Pool) (catalog : Catalog) (page : List ℕ) (n : ℕ) (heard after : Heard) (low top : ℕ) (old : Replies)
    → Hears told device pool catalog page (event_is.Rows n) heard after low top old → RowsAreHere told device pool catalog page n heard low top old
rows_are_here told device pool catalog page n heard after low top old h =
    let c : CameFor catalog heard.ended heard.rows heard.awaits (payload_in page) n = came_for catalog heard.ended heard.rows heard.awaits (payload_in page) n h.fits h.tells.came in
    let both = h.begun c.is.asked c.is.awaited in
    let at = h.kept.at both.0 in
    let same : c.is.asked ≡ at.asked = same_asked c.is.asked at.asked (sym c.is.awaited ∙ at.awaited) in
    record {
      is = record {
        kept = h.kept;
        opened = both.0;
        at = at;
        from = subst (λ (a : NumberedAsk). low ≤ a.text) same both.1;
        last = c.is.last;
        fits = subst (λ (a : NumberedAsk). IsFitting catalog heard.ended heard.rows a c.is.last) same c.is.fits;
      };
      came = subst (λ (a : NumberedAsk). RowsCame catalog a c.is.last (payload_in page) n) same c.came;
    }

pub may_come : (told : Bool) (device : Device) (pool : Pool) (catalog : Catalog) (page payload : List ℕ) (n : ℕ) (heard after : Heard) (low top : ℕ) (old : Replies) → payload ≡ payload_in page
    → Hears told device pool catalog page (event_is.Rows n) heard after low top old → MayCome old.spool old.hand payload
may_come told device pool catalog page payload n heard after low top old same h =
    let r = rows_are_here told device pool catalog page n heard after low top old h in
    record { last = r.is.last; are = subst (λ (p : List ℕ). AreNext old.spool old.hand p r.is.last) (sym same) (are_next told device pool catalog heard low top old r.is (payload_in page) n r.came) }

-- what was written for the text at hand
pub has_heard : (told : Bool) (before now : Device) (pool later : Pool) (catalog : Catalog) (heard : Heard) (low top : ℕ) (old new : Replies) → IsHere told before pool catalog heard low top old
    → Writes old.hand.text old.hand.table before now pool later old.spool new.spool → (side_of new.spool.sides old.hand.text).text ≤ old.hand.text
    → HasHeard catalog low old.hand.text before now old new
has_heard told before now pool later catalog heard low top old new is writes side =
    let there = area_there told before pool catalog heard low top old is in
    let visible = area_visible told before pool catalog heard low top old is in
    let area = is.kept.areas.each old.hand.table there in
    let lies : LiesIn catalog (old.hand.text % 2) (first_of (area_at old.spool old.hand.table) old.hand.text) (end_of (area_at old.spool old.hand.table) old.hand.text) =
    subst (λ (side : ℕ). LiesIn catalog side (first_of (area_at old.spool old.hand.table) old.hand.text) (end_of (area_at old.spool old.hand.table) old.hand.text)) (its_half old.hand.text (is_even old.hand.text) refl)
    (half_by catalog old.hand.table old.hand.text (area_at old.spool old.hand.table) area visible (is_even old.hand.text) refl) in
    record {
      writes = changes_wider writes.others (half_begin catalog (old.hand.text % 2)) (half_end catalog (old.hand.text % 2)) lies.from lies.to;
      marks = λ other from ne. marks_same old.hand.text old.spool.sides new.spool.sides writes.changes low near side_old side other from ne;
    }
  where
    near : old.hand.text ≤ low + 1
    near = let e = is.at.ask.text_is in let near = is.at.near in omega (arith, e, near)

    side_old : (side_of old.spool.sides old.hand.text).text ≤ old.hand.text
    side_old = let had = side_by top old.hand.text old.spool is.kept.bound in let e = is.at.ask.text_is in let l = is.at.latest in omega (arith, had, e, l)

pub nothing_heard : (catalog : Catalog) (low text : ℕ) (before now : Device) (old new : Replies) → now ≡ before → new.spool ≡ old.spool → HasHeard catalog low text before now old new
nothing_heard catalog low text before now old new same spool =
    subst (λ (d : Device). HasHeard catalog low text before d old new) (sym same)
    (record {
      writes = changes_kept (kept_same before) (half_begin catalog (text % 2)) (half_end catalog (text % 2));
      marks = λ other from ne. ap (λ (s : Spool). is_marked s.sides other) spool;
    })

none_more : (before now : ℕ) → now ≡ before → now ≤ before + 2 * 0
none_more before now same = omega (arith, same)

-- the last page of a reply is written where rows of it wait, and its text is not marked
pub last_page : (at waiting marked : Bool) (before now : Device) → (at ≡ false → now ≡ before) → (waiting ≡ false → now.calls ≡ before.calls) → (marked ≡ true → now ≡ before)
    → now.calls ≤ before.calls + 2 → now.calls ≤ before.calls + 2 * one_if (at && (waiting && not marked))
last_page true true false before now empty quiet dropped few = few
last_page true true true before now empty quiet dropped few = none_more before.calls now.calls (ap (λ (d : Device). d.calls) (dropped refl))
last_page true false marked before now empty quiet dropped few = none_more before.calls now.calls (quiet refl)
last_page false waiting marked before now empty quiet dropped few = none_more before.calls now.calls (ap (λ (d : Device). d.calls) (empty refl))

-- the ask at hand was refused, or there was none
refused_endings : (told : Bool) (page : ℕ → List ℕ) (schema : Schema) (text code : ℕ) (half : Half) (awaits : Awaits) → HasEndings told page schema text half (ended_with awaits (Refused code))
refused_endings told page schema text code half (AwaitsCatalog bytes) = tt
refused_endings told page schema text code half AwaitsNothing = tt
refused_endings told page schema text code half (AwaitsReply one serial later count last) = (λ mine. tt, tt)

over_by : (told : Bool) (device : Device) (pool : Pool) (catalog : Catalog) (page : List ℕ) (event : Event) (heard after : Heard) (low top : ℕ) (old : Replies) (ending : Ending)
    → Hears told device pool catalog page event heard after low top old → (b : Bool) → old.is_open ≡ b → IsOver (heard.ended ++ ended_with heard.awaits ending) old.spool.hand
over_by told device pool catalog page event heard after low top old ending h true is_on =
    let is = here told device pool catalog page event heard after low top old h is_on in
    subst (λ more. IsOver (heard.ended ++ more) old.spool.hand) (sym (ended_awaited heard.awaits is.at.asked ending is.at.awaited)) (over_now told device pool catalog heard low top old is ending)
over_by told device pool catalog page event heard after low top old ending h false closed = over_still heard.ended (ended_with heard.awaits ending) old.spool.hand (h.kept.over closed)

pub sorry_kept : (told : Bool) (device : Device) (pool : Pool) (catalog : Catalog) (page : List ℕ) (code : ℕ) (heard after : Heard) (low top : ℕ) (old new : Replies) → new.spool ≡ old.spool → new.is_open ≡ false
    → Hears told device pool catalog page (event_is.Sorry code) heard after low top old → IsKept told device pool catalog after low top new
sorry_kept told device pool catalog page code heard after low top old new same closed h =
    shut told device pool catalog heard after low top old new (ended_with heard.awaits (Refused code)) h.kept same closed h.tells.rows h.tells.ended
    (over_by told device pool catalog page (event_is.Sorry code) heard after low top old (Refused code) h old.is_open refl)
    (λ text half. refused_endings told device.page catalog.schema text code half heard.awaits)

-- a part of the catalog came: no ask was awaited
pub welcome_kept : (told : Bool) (device : Device) (pool : Pool) (catalog : Catalog) (page : List ℕ) (heard after : Heard) (low top : ℕ) (old new : Replies) → new.spool ≡ old.spool → new.is_open ≡ false
    → Hears told device pool catalog page event_is.Welcome heard after low top old → IsKept told device pool catalog after low top new
welcome_kept told device pool catalog page heard after low top old new same closed h =
    shut told device pool catalog heard after low top old new [] h.kept same closed h.tells.rows h.tells.ended
    (over_still heard.ended [] old.spool.hand (h.kept.over (was old.is_open refl))) (λ text half. tt)
  where
    was : (b : Bool) → old.is_open ≡ b → b ≡ false
    was true e = none_some (h.kept.at e).asked (sym (h.greeting refl) ∙ (h.kept.at e).awaited)
      where
        none_some : (asked : NumberedAsk) → None ≡ Some asked → true ≡ false
        none_some asked e = let bad : ⊥ = cc in absurd bad
    was false e = refl

pub over_kept : (told : Bool) (device : Device) (pool : Pool) (catalog : Catalog) (page : List ℕ) (event : Event) (heard after : Heard) (low top : ℕ) (old new : Replies) → new.spool ≡ old.spool → new.is_open ≡ false
    → ((code : ℕ) × (event ≡ event_is.Sorry code)) ⊎ (event ≡ event_is.Welcome)
    → Hears told device pool catalog page event heard after low top old → IsKept told device pool catalog after low top new
over_kept told device pool catalog page event heard after low top old new same closed (inl sorry) h =
    sorry_kept told device pool catalog page sorry.0 heard after low top old new same closed (subst (λ (e : Event). Hears told device pool catalog page e heard after low top old) sorry.1 h)
over_kept told device pool catalog page event heard after low top old new same closed (inr welcome) h =
    welcome_kept told device pool catalog page heard after low top old new same closed (subst (λ (e : Event). Hears told device pool catalog page e heard after low top old) welcome h)

-- DONE came, and no reply is at hand
pub done_unopened : (told : Bool) (device : Device) (pool : Pool) (catalog : Catalog) (page : List ℕ) (heard after : Heard) (low top : ℕ) (old new : Replies) → old.is_open ≡ false → new.spool ≡ old.spool → new.is_open ≡ false
    → Hears told device pool catalog page event_is.Done heard after low top old → IsKept told device pool catalog after low top new
done_unopened told device pool catalog page heard after low top old new was same closed h =
    let none : ended_with heard.awaits (Answered heard.rows) ≡ [] = ended_none heard.awaits (Answered heard.rows) (λ asked e. true_is_not_false (sym (h.begun asked e).0 ∙ was)) in
    shut told device pool catalog heard after low top old new (ended_with heard.awaits (Answered heard.rows)) h.kept same closed h.tells.rows h.tells.ended
    (over_still heard.ended (ended_with heard.awaits (Answered heard.rows)) old.spool.hand (h.kept.over was))
    (λ text half. subst (λ more. HasEndings told device.page catalog.schema text half more) (sym none) tt)
