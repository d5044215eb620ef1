-- Rows came for the ask at hand.
use Rattle.std.proofs.Common.{◌≡◌, ◌≤◌, ◌<◌, ◌+◌, ◌*◌, ℕ, arith, Bool, true, false, ◌==◌, ◌&&◌, List, ◌++◌, length, map, refl, sym, ◌∙◌, ap, subst, append-nil, Some, if◌then◌else◌, inl}
use Rattle.std.proofs.lemmas.Bool.{eqb-true}
use Rattle.ghost_model.specs.core.Channel.{Catalog, count_of}
use Rattle.ghost_model.specs.core.Asks as asks
use Rattle.ghost_model.specs.core.Asks.{NumberedAsk, RowCells, rows_from}
use Rattle.ghost_model.specs.core.NextMove.{Heard, EndedAsk, Awaits, AwaitsCatalog, AwaitsReply, AwaitsNothing, rows_fit, last_identifier}
use Rattle.ghost_model.specs.forms.Frames.{payload_in}
use Rattle.ghost_model.specs.forms.Layout.{spool_width}
use Rattle.ghost_base.specs.Views.{kind_of}
use Rattle.edge_traits.specs.Devices.{Device}
use Rattle.page_pool.specs.Pools.{Pool}
use Rattle.channel_pump.specs.Progress.{MayCome, RowsCame}
use Rattle.channel_pump.specs.declared.state.Event.{Event}
use Rattle.channel_pump.specs.declared.state.Event.TheVariants as event_is
use Rattle.channel_pump.specs.Sessions.{asked_in}
use Rattle.key_session.specs.Fits.{FitsAt, IsFitting, was_ended}
use Rattle.key_session.proofs.Rows.{last_joined}
use Rattle.visible_spool.specs.declared.half.Half.{Half}
use Rattle.visible_spool.specs.declared.reply.Reply.{Reply}
use Rattle.visible_spool.specs.declared.sides.Side.{Side}
use Rattle.visible_spool.specs.declared.spool.Spool.{Spool}
use Rattle.visible_spool.specs.Areas.{AreAreasOf, AreasLieApart, IsAreaOf, is_even}
use Rattle.visible_spool.specs.Halves.{reply_of, no_reply}
use Rattle.visible_spool.specs.Laws.{RepliesAreKept, RepliesStayReadable}
use Rattle.visible_spool.specs.Sides.{Changes, is_marked, replies_of, side_of}
use Rattle.visible_spool.specs.Spools.{IsSpooling, IsAsked, HasPushed, area_at, is_at, last_of}
use Rattle.key_session.specs.Rows.{rows_at, cells_at}
use Rattle.key_session.specs.Kept.{IsKept, IsAt, IsAskOf, IsBy, HasCome, IsOver, AreKept, IsKeptReply, HasEndings}
use Rattle.key_session.specs.Hearing.{Hears}
use Rattle.key_session.specs.Pushing.{CanPush, AreNext, Writes}
use Rattle.key_session.specs.declared.ask.AskAtHand.{AskAtHand}
use Rattle.key_session.specs.declared.replies.Replies.{Replies}
use Rattle.key_session.proofs.RowLemmas.{how_many, all_cut, cells_behind}
use Rattle.key_session.proofs.Keeping.{side_by, marks_same}
use Rattle.key_session.proofs.Leaving.{still_kept, halves_kept, endings_there}
use Rattle.key_session.proofs.WriteLemmas.{true_is_not_false}
use Rattle.key_session.proofs.Parity.{Whether, holds, fails, same_text}

pub same_asked : (x y : NumberedAsk) → Some x ≡ Some y → x ≡ y
same_asked x y e = cc

-- the ask that is awaited
pub record IsAwaited (catalog : Catalog) (ends : List EndedAsk) (rows : List ℕ) (awaits : Awaits) : Type 0 where
  pub asked : NumberedAsk
  pub awaited : asked_in awaits ≡ Some asked
  pub last : ℕ
  pub fits : IsFitting catalog ends rows asked last

pub record CameFor (catalog : Catalog) (ends : List EndedAsk) (rows : List ℕ) (awaits : Awaits) (payload : List ℕ) (n : ℕ) : Type 0 where
  pub is : IsAwaited catalog ends rows awaits
  pub came : RowsCame catalog is.asked is.last payload n

pub came_for : (catalog : Catalog) (ends : List EndedAsk) (rows : List ℕ) (awaits : Awaits) (payload : List ℕ) (n : ℕ) → FitsAt catalog ends rows awaits → MayCome catalog awaits payload n
    → CameFor catalog ends rows awaits payload n
came_for catalog ends rows (AwaitsCatalog bytes) payload n fits came = absurd came
came_for catalog ends rows AwaitsNothing payload n fits came = absurd came
came_for catalog ends rows (AwaitsReply asked serial later count last) payload n fits came =
    record { is = record { asked = asked; awaited = refl; last = last; fits = fits }; came = came }

pub is_awaited : (catalog : Catalog) (ends : List EndedAsk) (rows : List ℕ) (awaits : Awaits) (asked : NumberedAsk) → FitsAt catalog ends rows awaits → asked_in awaits ≡ Some asked
    → (last : ℕ) × IsFitting catalog ends rows asked last
is_awaited catalog ends rows (AwaitsCatalog bytes) asked fits e = let bad : ⊥ = cc in absurd bad
is_awaited catalog ends rows AwaitsNothing asked fits e = let bad : ⊥ = cc in absurd bad
is_awaited catalog ends rows (AwaitsReply one serial later count last) asked fits e = (last, subst (λ (a : NumberedAsk). IsFitting catalog ends rows a last) (same_asked one asked e) fits)

-- the reply at hand, whose ask fits
pub record IsHere (told : Bool) (device : Device) (pool : Pool) (catalog : Catalog) (heard : Heard) (low top : ℕ) (old : Replies) : Type 0 where
  pub kept : IsKept told device pool catalog heard low top old
  pub opened : old.is_open ≡ true
  pub at : IsAt told device.page pool catalog.schema heard low top old
  pub from : low ≤ at.asked.text
  pub last : ℕ
  pub fits : IsFitting catalog heard.ended heard.rows at.asked last

pub here : (told : Bool) (device : Device) (pool : Pool) (catalog : Catalog) (page : List ℕ) (event : Event) (heard after : Heard) (low top : ℕ) (old : Replies)
    → Hears told device pool catalog page event heard after low top old → old.is_open ≡ true → IsHere told device pool catalog heard low top old
here told device pool catalog page event heard after low top old h opened =
    let at = h.kept.at opened in
    let is = is_awaited catalog heard.ended heard.rows heard.awaits at.asked h.fits at.awaited in
    record { kept = h.kept; opened = opened; at = at; from = (h.begun at.asked at.awaited).1; last = is.0; fits = is.1 }

module _ (told : Bool) (device : Device) (pool : Pool) (catalog : Catalog) (heard : Heard) (low top : ℕ) (old : Replies) (is : IsHere told device pool catalog heard low top old) where
  pub some_text : 0 < old.hand.text
  some_text = let numbered = is.fits.numbered in let e = is.at.ask.text_is in omega (arith, numbered, e)

  pub area_there : old.hand.table < length old.spool.areas.items
  area_there = let there = is.fits.there in let e = is.at.ask.table_is in let count = is.kept.areas.count in omega (arith, there, e, count)

  its_area : IsAreaOf catalog old.hand.table (area_at old.spool old.hand.table)
  its_area = is.kept.areas.each old.hand.table area_there

  its_width : (area_at old.spool old.hand.table).width ≡ spool_width catalog.schema is.at.asked.ask.table
  its_width = its_area.width_is ∙ ap (λ n. spool_width catalog.schema n) is.at.ask.table_is

  its_rows : (area_at old.spool old.hand.table).rows ≡ count_of catalog is.at.asked.ask.table
  its_rows = its_area.rows_is ∙ ap (λ n. count_of catalog n) is.at.ask.table_is

  pub area_visible : 4 < (area_at old.spool old.hand.table).width
  area_visible = let width = its_width in let visible = is.fits.visible in omega (arith, width, visible)

  pub can_push : CanPush device pool old.spool old.hand
  can_push =
      let width = its_width in
      let narrow = is.fits.narrow in
      let own = is.at.ask.width_is in
      record {
        spooling = is.kept.spooling;
        asked = record {
          some = some_text;
          there = area_there;
          visible = area_visible;
          wide = is.at.ask.least;
          fits = omega (arith, width, narrow, own);
          narrow_row = is.at.ask.most;
          few = is.at.ask.few;
          narrow = is.at.ask.narrow;
          same_kinds = is.at.come.kinds;
          same_width = is.at.come.width;
        };
      }

  -- the identifier of the last row that came
  last_came : last_identifier 0 (cells_at old.hand.width heard.rows) ≡ is.last
  last_came =
      let came = is.fits.came in
      let width = is.at.ask.width_is in
      let least = is.at.ask.least in
      let size : length heard.rows ≡ came.count * old.hand.width = came.size ∙ ap (λ n. came.count * n) (sym width) in
      ap (λ n. last_identifier 0 (rows_from old.hand.width n heard.rows)) (how_many old.hand.width came.count heard.rows (omega (arith, least)) size)
      ∙ (ap (λ n. last_identifier 0 (rows_from n came.count heard.rows)) width ∙ came.final)

  pub are_next : (payload : List ℕ) (n : ℕ) → RowsCame catalog is.at.asked is.last payload n → AreNext old.spool old.hand payload is.last
  are_next payload n came =
      let before = is.at.come.last in
      let last = last_came in
      record {
        before = omega (arith, before, last);
        fit =
            ap (λ rows. rows_fit rows is.last (map kind_of old.hand.kinds.items) (cells_at old.hand.width payload)) its_rows
            ∙ (ap (λ kinds. rows_fit (count_of catalog is.at.asked.ask.table) is.last kinds (cells_at old.hand.width payload)) is.at.ask.kinds_are
            ∙ (ap (λ width. rows_fit (count_of catalog is.at.asked.ask.table) is.last (asks.kinds_of catalog.schema is.at.asked.ask) (cells_at width payload)) is.at.ask.width_is
            ∙ came.fit));
      }

  -- the rows that came, and those of a payload behind them
  module _ (payload : List ℕ) (n : ℕ) (came : RowsCame catalog is.at.asked is.last payload n) where
    some_width : 0 < old.hand.width
    some_width = let least = is.at.ask.least in omega (arith, least)

    size_before : length heard.rows ≡ is.fits.came.count * old.hand.width
    size_before = is.fits.came.size ∙ ap (λ w. is.fits.came.count * w) (sym is.at.ask.width_is)

    size_more : length payload ≡ n * old.hand.width
    size_more = came.size ∙ ap (λ w. n * w) (sym is.at.ask.width_is)

    pub rows_behind : rows_at old.hand.width (heard.rows ++ payload) ≡ rows_at old.hand.width heard.rows ++ rows_at old.hand.width payload
    rows_behind = all_cut old.hand.width is.fits.came.count n heard.rows payload some_width size_before size_more

    pub last_behind : last_identifier 0 (cells_at old.hand.width (heard.rows ++ payload)) ≡ last_identifier is.last (cells_at old.hand.width payload)
    last_behind =
        cells_joined
        ∙ (last_joined 0 (cells_at old.hand.width heard.rows) (cells_at old.hand.width payload)
        ∙ ap (λ last. last_identifier last (cells_at old.hand.width payload)) last_came)
      where
        cells_joined : last_identifier 0 (cells_at old.hand.width (heard.rows ++ payload)) ≡ last_identifier 0 (cells_at old.hand.width heard.rows ++ cells_at old.hand.width payload)
        cells_joined = ap (λ (cells : List RowCells). last_identifier 0 cells) (cells_behind old.hand.width is.fits.came.count n heard.rows payload some_width size_before size_more)

-- the text of the half, where its reply is at hand
pub hand_text : (spool : Spool) (text table : ℕ) → is_at spool text table ≡ true → spool.hand.text ≡ text
hand_text spool text table e = by (spool.hand.text == text) (spool.hand.table == table) refl e
  where
    by : (a b : Bool) → (spool.hand.text == text) ≡ a → (a && b) ≡ true → spool.hand.text ≡ text
    by true b is e = eqb-true spool.hand.text text is
    by false b is e = absurd (cc (e))

pub side_now : (device : Device) (pool : Pool) (top text table : ℕ) (old new : Spool) → IsBy top old → text ≡ top → 0 < text → IsSpooling device pool new
    → (is_at new text table ≡ false → new ≡ old) → (side_of new.sides text).text ≤ text
side_now device pool top text table old new bound latest some spooling others = by (is_at new text table) refl
  where
    by : (b : Bool) → is_at new text table ≡ b → (side_of new.sides text).text ≤ text
    by true at =
        let e = hand_text new text table at in
        let held = spooling.hand (λ none. (omega (arith, some, e, none))) in
        let holder = subst (λ n. (side_of new.sides n).text ≡ n) e held.holder in
        omega (arith, holder)
    by false none =
        let had = side_by top text old bound in
        let same = ap (λ (s : Spool). (side_of s.sides text).text) (others none) in
        omega (arith, had, same, latest)

-- nothing is of a later text
pub bound_now : (top text : ℕ) (old new : Spool) → IsBy top old → text ≡ top → Changes text old.sides new.sides → (side_of new.sides text).text ≤ text → new.hand.text ≤ top → IsBy top new
bound_now top text old new bound latest changes side hand = by (is_even text) refl
  where
    by : (b : Bool) → is_even text ≡ b → IsBy top new
    by true e =
        let own = ap (λ (b : Bool). (if b then new.sides.even else new.sides.odd).text) e in
        let even = bound.even in
        let odd = bound.odd in
        let same = ap (λ (s : Side). s.text) (changes.odd e) in
        record { even = omega (arith, side, own, latest); odd = omega (arith, odd, same); hand = hand }
    by false e =
        let own = ap (λ (b : Bool). (if b then new.sides.even else new.sides.odd).text) e in
        let even = bound.even in
        let odd = bound.odd in
        let same = ap (λ (s : Side). s.text) (changes.even e) in
        record { even = omega (arith, even, same); odd = omega (arith, side, own, latest); hand = hand }

-- rows were pushed
module _ (apart : AreasLieApart) (keeps : RepliesAreKept) (readable : RepliesStayReadable) (told : Bool) (before now : Device) (pool later : Pool) (catalog : Catalog) (page : List ℕ) (n : ℕ)
    (heard after : Heard) (low top : ℕ) (old new : Replies) (payload : List ℕ) (is_payload : payload ≡ payload_in page) (h : Hears told before pool catalog page (event_is.Rows n) heard after low top old)
    (is : IsHere told before pool catalog heard low top old) (came : RowsCame catalog is.at.asked is.last payload n)
    (can : CanPush now later new.spool new.hand) (writes : Writes old.hand.text old.hand.table before now pool later old.spool new.spool)
    (replies : replies_of new.spool.sides old.hand.text ≡ replies_of old.spool.sides old.hand.text)
    (others : is_at new.spool old.hand.text old.hand.table ≡ false → new.spool ≡ old.spool)
    (last : (last : ℕ) → AreNext old.spool old.hand payload last → last_of new.spool old.hand.text old.hand.table ≤ last_identifier last (cells_at old.hand.width payload))
    (pushed : (rows : List (List ℕ)) → HasPushed told before.page pool old.spool old.hand.text old.hand.table rows → is_marked new.spool.sides old.hand.text ≡ false
    → HasPushed told now.page later new.spool old.hand.text old.hand.table (rows ++ rows_at old.hand.width payload))
    (same_hand : new.hand ≡ old.hand) (same_open : new.is_open ≡ old.is_open) where
  latest : old.hand.text ≡ top
  latest = is.at.ask.text_is ∙ is.at.latest

  near : old.hand.text ≤ low + 1
  near = let e = is.at.ask.text_is in let near = is.at.near in omega (arith, e, near)

  side_old : (side_of old.spool.sides old.hand.text).text ≤ old.hand.text
  side_old = let had = side_by top old.hand.text old.spool is.kept.bound in let e = latest in omega (arith, had, e)

  pub side_is : (side_of new.spool.sides old.hand.text).text ≤ old.hand.text
  side_is = side_now now later top old.hand.text old.hand.table old.spool new.spool is.kept.bound latest (some_text told before pool catalog heard low top old is) can.spooling others

  ended_same : after.ended ≡ heard.ended
  ended_same = h.tells.ended ∙ append-nil heard.ended

  rows_now : after.rows ≡ heard.rows ++ payload
  rows_now = h.tells.rows ∙ ap (λ (p : List ℕ). heard.rows ++ p) (sym is_payload)

  first_ask : was_ended old.hand.text old.hand.table heard.ended ≡ false
  first_ask =
      ap (λ t. was_ended t old.hand.table heard.ended) is.at.ask.text_is
      ∙ (ap (λ t. was_ended is.at.asked.text t heard.ended) is.at.ask.table_is ∙ is.fits.first)

  from_hand : low ≤ old.hand.text
  from_hand = let e = is.at.ask.text_is in let from = is.from in omega (arith, e, from)

  mine : (at : ℕ) → (at ≡ old.hand.table → ⊥) → reply_of (replies_of new.spool.sides old.hand.text) at ≡ reply_of (replies_of old.spool.sides old.hand.text) at
  mine at ne = ap (λ (half : Half). reply_of half at) replies

  none_here : reply_of (replies_of old.spool.sides old.hand.text) old.hand.table ≡ no_reply
  none_here = (is.kept.halves old.hand.text from_hand).none old.hand.table first_ask

  own : IsKeptReply told now new.spool old.hand.text old.hand.table (reply_of (replies_of new.spool.sides old.hand.text) old.hand.table)
  own =
      subst (λ (half : Half). IsKeptReply told now new.spool old.hand.text old.hand.table (reply_of half old.hand.table)) (sym replies)
      (still_kept apart keeps readable told catalog low old.hand.text old.hand.table before now pool later old.spool new.spool is.kept.areas (area_there told before pool catalog heard low top old is)
      (area_visible told before pool catalog heard low top old is) writes near side_old side_is mine old.hand.text old.hand.table _ (inl (ap (λ (r : Reply). r.run.count) none_here))
      ((is.kept.halves old.hand.text from_hand).each old.hand.table))

  halves : (other : ℕ) → low ≤ other → AreKept told now after.ended new.spool other
  halves other from =
      subst (λ ends. AreKept told now ends new.spool other) (sym ended_same)
      (halves_kept apart keeps readable told catalog low old.hand.text old.hand.table before now pool later old.spool new.spool is.kept.areas (area_there told before pool catalog heard low top old is)
      (area_visible told before pool catalog heard low top old is) writes near side_old side_is mine heard.ended heard.ended own (λ other at not. not)
      (λ not. ap (λ (half : Half). reply_of half old.hand.table) replies ∙ none_here) other from (is.kept.halves other from))

  unmarked_before : (other : ℕ) → low ≤ other → is_marked new.spool.sides other ≡ false → is_marked old.spool.sides other ≡ false
  unmarked_before other from not = by (same_text other old.hand.text)
    where
      stays : (b : Bool) → is_marked old.spool.sides old.hand.text ≡ b → is_marked new.spool.sides old.hand.text ≡ false → b ≡ false
      stays true was not = absurd (true_is_not_false (sym (writes.marks.stays was) ∙ not))
      stays false was not = refl

      by : Whether (other ≡ old.hand.text) → is_marked old.spool.sides other ≡ false
      by (holds e) = subst (λ m. is_marked old.spool.sides m ≡ false) (sym e) (stays _ refl (subst (λ m. is_marked new.spool.sides m ≡ false) e not))
      by (fails d) = sym (marks_same old.hand.text old.spool.sides new.spool.sides writes.changes low near side_old side_is other from d) ∙ not

  come : HasCome told now.page later after.ended old.hand after.rows new.spool
  come =
      let here = is.at.come in
      let asked : IsAsked new.spool old.hand.text old.hand.table old.hand.kinds.items old.hand.width = subst (λ (hand : AskAtHand). IsAsked new.spool hand.text hand.table hand.kinds.items hand.width) same_hand can.asked in
      record {
        kinds = asked.same_kinds;
        width = asked.same_width;
        last = subst (λ m. last_of new.spool old.hand.text old.hand.table ≤ m)
            (sym (ap (λ rows. last_identifier 0 (cells_at old.hand.width rows)) rows_now ∙ last_behind told before pool catalog heard low top old is payload n came))
            (last is.last (are_next told before pool catalog heard low top old is payload n came));
        pushed = λ not. subst (λ rows. HasPushed told now.page later new.spool old.hand.text old.hand.table rows)
            (sym (ap (λ rows. rows_at old.hand.width rows) rows_now ∙ rows_behind told before pool catalog heard low top old is payload n came))
            (pushed (rows_at old.hand.width heard.rows) (here.pushed (unmarked_before old.hand.text from_hand not)) not);
        others = λ none. subst (λ ends. IsOver ends new.spool.hand) (sym ended_same)
            (subst (λ (s : Spool). IsOver heard.ended s.hand) (sym (others none)) (here.others (ap (λ (s : Spool). is_at s old.hand.text old.hand.table) (sym (others none)) ∙ none)));
      }

  hand_by : new.spool.hand.text ≤ top
  hand_by = by (is_at new.spool old.hand.text old.hand.table) refl
    where
      by : (b : Bool) → is_at new.spool old.hand.text old.hand.table ≡ b → new.spool.hand.text ≤ top
      by true at = let e = hand_text new.spool old.hand.text old.hand.table at in let l = latest in omega (arith, e, l)
      by false none = let e = ap (λ (s : Spool). s.hand.text) (others none) in let had = is.kept.bound.hand in omega (arith, e, had)

  pub rows_kept : IsKept told now later catalog after low top new
  rows_kept = record {
    spooling = can.spooling;
    areas = subst (λ list. AreAreasOf catalog list.items) (sym writes.areas) is.kept.areas;
    bound = bound_now top old.hand.text old.spool new.spool is.kept.bound latest writes.changes side_is hand_by;
    at = λ _. record {
      asked = is.at.asked;
      awaited = h.same_ask refl ∙ is.at.awaited;
      near = is.at.near;
      latest = is.at.latest;
      ask = subst (λ (hand : AskAtHand). IsAskOf catalog.schema is.at.asked hand) (sym same_hand) is.at.ask;
      come = subst (λ (hand : AskAtHand). HasCome told now.page later after.ended hand after.rows new.spool) (sym same_hand) come;
    };
    closed = λ shut. absurd (true_is_not_false (sym (same_open ∙ is.opened) ∙ shut));
    over = λ shut. absurd (true_is_not_false (sym (same_open ∙ is.opened) ∙ shut));
    halves = halves;
    texts = λ other from not.
        subst (λ ends. HasEndings told now.page catalog.schema other (replies_of new.spool.sides other) ends) (sym ended_same)
        (endings_there apart keeps readable told catalog low old.hand.text old.hand.table before now pool later old.spool new.spool is.kept.areas (area_there told before pool catalog heard low top old is)
        (area_visible told before pool catalog heard low top old is) writes near side_old side_is mine catalog.schema heard.ended first_ask other from (is.kept.halves other from)
        (is.kept.texts other from (unmarked_before other from not)));
  }
