-- The reply at hand is over: nothing was written of it, or its last page.
use Rattle.std.proofs.Common.{◌≡◌, ◌≤◌, ◌+◌, ℕ, arith, Bool, true, false, ◌==◌, ◌&&◌, ◌||◌, List, [], ◌∷◌, ◌++◌, refl, sym, ◌∙◌, ap, subst, Some, inl}
use Rattle.std.proofs.lemmas.Bool.{eqb-true, eq-eqb}
use Rattle.ghost_model.specs.core.Channel.{Catalog}
use Rattle.ghost_model.specs.core.Asks.{NumberedAsk}
use Rattle.ghost_model.specs.core.NextMove.{Heard, EndedAsk, Ending, Answered, ended, Awaits, AwaitsCatalog, AwaitsReply, AwaitsNothing}
use Rattle.edge_traits.specs.Devices.{Device}
use Rattle.page_pool.specs.Pools.{Pool}
use Rattle.channel_pump.specs.Progress.{ended_with}
use Rattle.channel_pump.specs.Sessions.{asked_in}
use Rattle.key_session.specs.Fits.{is_ask_of, was_ended}
use Rattle.visible_spool.specs.declared.half.Half.{Half}
use Rattle.visible_spool.specs.declared.hand.Hand.{Hand}
use Rattle.visible_spool.specs.declared.reply.Reply.{Reply}
use Rattle.visible_spool.specs.declared.spool.Spool.{Spool}
use Rattle.visible_spool.specs.Areas.{AreAreasOf, AreasLieApart}
use Rattle.visible_spool.specs.Halves.{reply_of, no_reply}
use Rattle.visible_spool.specs.Laws.{RepliesAreKept, RepliesStayReadable, TextsWithoutRows}
use Rattle.visible_spool.specs.Replies.{HoldsRows}
use Rattle.visible_spool.specs.Sides.{is_marked, replies_of, side_of}
use Rattle.visible_spool.specs.Spools.{IsSpooling, HasPushed, PushedIf, area_at, is_at}
use Rattle.key_session.specs.Rows.{rows_at, rows_cut}
use Rattle.key_session.specs.Kept.{IsKept, IsBy, IsOver, AreKept, IsKeptReply, HasAnswer, HasEndings}
use Rattle.key_session.specs.Pushing.{Writes, Ends}
use Rattle.key_session.specs.declared.replies.Replies.{Replies}
use Rattle.key_session.proofs.Parity.{Whether, holds, fails, same_text}
use Rattle.key_session.proofs.Keeping.{side_by, marks_same, endings_joined, ended_joined, ended_before, ended_still}
use Rattle.key_session.proofs.Leaving.{still_kept, halves_kept, endings_there}
use Rattle.key_session.proofs.RowsHeard.{IsHere, area_there, area_visible, bound_now, hand_text}
use Rattle.key_session.proofs.WriteLemmas.{areas_same, true_is_not_false}
use Rattle.key_session.proofs.Elsewhere.{lies_still}

pub own_ask : (asked : NumberedAsk) → is_ask_of asked.text asked.ask.table asked ≡ true
own_ask asked = cc (eq-eqb asked.text asked.text refl, eq-eqb asked.ask.table asked.ask.table refl)

-- the ask that was ended is among those that were
pub ended_last : (ends : List EndedAsk) (asked : NumberedAsk) (ending : Ending) (text table : ℕ) → text ≡ asked.text → table ≡ asked.ask.table
    → was_ended text table (ends ++ ended asked ending ∷ []) ≡ true
ended_last ends asked ending text table et eb =
    ended_joined text table ends (ended asked ending ∷ [])
    ∙ cc (ap (λ t. is_ask_of t table asked) et, ap (λ t. is_ask_of asked.text t asked) eb, own_ask asked, or_true (was_ended text table ends))
  where
    or_true : (b : Bool) → (b || true) ≡ true
    or_true true = refl
    or_true false = refl

-- where an ask is awaited, an event that ends one ends that
pub ended_awaited : (awaits : Awaits) (asked : NumberedAsk) (ending : Ending) → asked_in awaits ≡ Some asked → ended_with awaits ending ≡ ended asked ending ∷ []
ended_awaited (AwaitsCatalog bytes) asked ending e = let bad : ⊥ = cc in absurd bad
ended_awaited AwaitsNothing asked ending e = let bad : ⊥ = cc in absurd bad
ended_awaited (AwaitsReply one serial later count last) asked ending e = let same : one ≡ asked = cc in ap (λ (a : NumberedAsk). ended a ending ∷ []) same

pub ended_none : (awaits : Awaits) (ending : Ending) → ((asked : NumberedAsk) → asked_in awaits ≡ Some asked → ⊥) → ended_with awaits ending ≡ []
ended_none (AwaitsCatalog bytes) ending none = refl
ended_none AwaitsNothing ending none = refl
ended_none (AwaitsReply one serial later count last) ending none = absurd (none one refl)

-- nothing is written, and no reply is at hand then
pub shut : (told : Bool) (device : Device) (pool : Pool) (catalog : Catalog) (heard after : Heard) (low top : ℕ) (old new : Replies) (more : List EndedAsk)
    → IsKept told device pool catalog heard low top old → new.spool ≡ old.spool → new.is_open ≡ false → after.rows ≡ [] → after.ended ≡ heard.ended ++ more
    → IsOver (heard.ended ++ more) old.spool.hand
    → ((text : ℕ) (half : Half) → HasEndings told device.page catalog.schema text half more)
    → IsKept told device pool catalog after low top new
shut told device pool catalog heard after low top old new more k same closed rows ends over none =
    record {
      spooling = subst (λ (s : Spool). IsSpooling device pool s) (sym same) k.spooling;
      areas = subst (λ (s : Spool). AreAreasOf catalog s.areas.items) (sym same) k.areas;
      bound = subst (λ (s : Spool). IsBy top s) (sym same) k.bound;
      at = λ is_on. absurd (true_is_not_false (sym is_on ∙ closed));
      closed = λ _. rows;
      over = λ _. subst (λ (s : Spool). IsOver after.ended s.hand) (sym same) (subst (λ es. IsOver es old.spool.hand) (sym ends) over);
      halves = λ text from. subst (λ (s : Spool). AreKept told device after.ended s text) (sym same)
          (subst (λ es. AreKept told device es old.spool text) (sym ends)
          (record { each = (k.halves text from).each; none = λ at not. (k.halves text from).none at (ended_before text at heard.ended more not) }));
      texts = λ text from not.
          (let had : HasEndings told device.page catalog.schema text (replies_of old.spool.sides text) heard.ended =
          k.texts text from (ap (λ (s : Spool). is_marked s.sides text) (sym same) ∙ not) in
          subst (λ (s : Spool). HasEndings told device.page catalog.schema text (replies_of s.sides text) after.ended) (sym same)
          (subst (λ es. HasEndings told device.page catalog.schema text (replies_of old.spool.sides text) es) (sym ends)
          (endings_joined told device.page catalog.schema text (replies_of old.spool.sides text) heard.ended more had (none text (replies_of old.spool.sides text)))));
    }

pub over_still : (ends more : List EndedAsk) (hand : Hand) → IsOver ends hand → IsOver (ends ++ more) hand
over_still ends more hand over some = ended_still hand.text hand.table ends more (over some)

pub its_table : (spool : Spool) (text table : ℕ) → is_at spool text table ≡ true → spool.hand.table ≡ table
its_table spool text table e = by (spool.hand.text == text) (spool.hand.table == table) refl e
  where
    by : (a b : Bool) → (spool.hand.table == table) ≡ b → (a && b) ≡ true → spool.hand.table ≡ table
    by true true is f = eqb-true spool.hand.table table is
    by true false is f = absurd (cc (f))
    by false b is f = absurd (cc (f))

-- what the spool has at hand is over once the ask at hand is ended
pub over_now : (told : Bool) (device : Device) (pool : Pool) (catalog : Catalog) (heard : Heard) (low top : ℕ) (old : Replies) (is : IsHere told device pool catalog heard low top old) (ending : Ending)
    → IsOver (heard.ended ++ ended is.at.asked ending ∷ []) old.spool.hand
over_now told device pool catalog heard low top old is ending = by (is_at old.spool old.hand.text old.hand.table) refl
  where
    by : (b : Bool) → is_at old.spool old.hand.text old.hand.table ≡ b → IsOver (heard.ended ++ ended is.at.asked ending ∷ []) old.spool.hand
    by true at = λ some. ended_last heard.ended is.at.asked ending old.spool.hand.text old.spool.hand.table
        (hand_text old.spool old.hand.text old.hand.table at ∙ is.at.ask.text_is)
        (its_table old.spool old.hand.text old.hand.table at ∙ is.at.ask.table_is)
    by false none = over_still heard.ended (ended is.at.asked ending ∷ []) old.spool.hand (is.at.come.others none)

-- its last page was written, unless its text is marked
module _ (apart : AreasLieApart) (keeps : RepliesAreKept) (readable : RepliesStayReadable) (nothing : TextsWithoutRows) (told : Bool) (before now : Device) (pool later : Pool) (catalog : Catalog)
    (heard after : Heard) (low top : ℕ) (old new : Replies) (is : IsHere told before pool catalog heard low top old)
    (spooling : IsSpooling now later new.spool) (ends : Ends told old.hand.text old.hand.table before now pool old.spool new.spool)
    (writes : Writes old.hand.text old.hand.table before now pool later old.spool new.spool) (closed : new.is_open ≡ false)
    (rows : after.rows ≡ []) (is_ended : after.ended ≡ heard.ended ++ ended is.at.asked (Answered heard.rows) ∷ []) where
  abbrev more : List EndedAsk
  more = ended is.at.asked (Answered heard.rows) ∷ []

  latest : old.hand.text ≡ top
  latest = is.at.ask.text_is ∙ is.at.latest

  near : old.hand.text ≤ low + 1
  near = let e = is.at.ask.text_is in let near = is.at.near in omega (arith, e, near)

  from_hand : low ≤ old.hand.text
  from_hand = let e = is.at.ask.text_is in let from = is.from in omega (arith, e, from)

  side_old : (side_of old.spool.sides old.hand.text).text ≤ old.hand.text
  side_old = let had = side_by top old.hand.text old.spool is.kept.bound in let e = latest in omega (arith, had, e)

  pub side_is : (side_of new.spool.sides old.hand.text).text ≤ old.hand.text
  side_is = let had = side_old in let e = ends.side_text in omega (arith, had, e)

  first_ask : was_ended old.hand.text old.hand.table heard.ended ≡ false
  first_ask =
      ap (λ t. was_ended t old.hand.table heard.ended) is.at.ask.text_is
      ∙ (ap (λ t. was_ended is.at.asked.text t heard.ended) is.at.ask.table_is ∙ is.fits.first)

  none_here : reply_of (replies_of old.spool.sides old.hand.text) old.hand.table ≡ no_reply
  none_here = (is.kept.halves old.hand.text from_hand).none old.hand.table first_ask

  abbrev reply : Reply
  reply = reply_of (replies_of new.spool.sides old.hand.text) old.hand.table

  -- as before there is no row of it
  none_still : replies_of new.spool.sides old.hand.text ≡ replies_of old.spool.sides old.hand.text → IsKeptReply told now new.spool old.hand.text old.hand.table reply
  none_still same =
      subst (λ (half : Half). IsKeptReply told now new.spool old.hand.text old.hand.table (reply_of half old.hand.table)) (sym same)
      (still_kept apart keeps readable told catalog low old.hand.text old.hand.table before now pool later old.spool new.spool is.kept.areas (area_there told before pool catalog heard low top old is)
      (area_visible told before pool catalog heard low top old is) writes near side_old side_is ends.others old.hand.text old.hand.table _ (inl (ap (λ (r : Reply). r.run.count) none_here))
      ((is.kept.halves old.hand.text from_hand).each old.hand.table))

  unmarked_hand : (b : Bool) → is_marked old.spool.sides old.hand.text ≡ b → is_marked new.spool.sides old.hand.text ≡ false → b ≡ false
  unmarked_hand true was not = absurd (true_is_not_false (sym (writes.marks.stays was) ∙ not))
  unmarked_hand false was not = refl

  pushed_all : is_marked new.spool.sides old.hand.text ≡ false → HasPushed told before.page pool old.spool old.hand.text old.hand.table (rows_at old.hand.width heard.rows)
  pushed_all not = is.at.come.pushed (unmarked_hand (is_marked old.spool.sides old.hand.text) refl not)

  same_areas : area_at new.spool old.hand.table ≡ area_at old.spool old.hand.table
  same_areas = areas_same old.spool new.spool old.hand.table writes.areas

  area_rows : is_at old.spool old.hand.text old.hand.table ≡ true → old.spool.hand.reply.rows ≡ (area_at old.spool old.hand.table).rows
  area_rows at =
      let text_is = hand_text old.spool old.hand.text old.hand.table at in
      let some = is.at.ask.some in
      let held = is.kept.spooling.hand (λ none. (omega (arith, some, text_is, none))) in
      held.rows ∙ ap (λ (table : ℕ). (area_at old.spool table).rows) (its_table old.spool old.hand.text old.hand.table at)

  own_by : (a b : Bool) → is_at old.spool old.hand.text old.hand.table ≡ a → is_marked new.spool.sides old.hand.text ≡ b → IsKeptReply told now new.spool old.hand.text old.hand.table reply
  own_by a true ea eb = none_still (ends.marked eb)
  own_by false false ea eb = none_still (ap (λ (s : Spool). replies_of s.sides old.hand.text) (ends.none ea))
  own_by true false ea eb = record {
    readable = ends.readable ea eb;
    lies = lies_still old.spool new.spool old.hand.text old.hand.table reply writes.areas
        (record { most = λ some. ends.rows ea eb ∙ area_rows ea; visible = λ some. area_visible told before pool catalog heard low top old is; lies = ends.lies ea eb });
    whole = λ is_told. record { rows = rows_at old.hand.width heard.rows; holds = ends.holds ea eb (rows_at old.hand.width heard.rows) (pushed_all eb) is_told };
  }

  own : IsKeptReply told now new.spool old.hand.text old.hand.table reply
  own = own_by (is_at old.spool old.hand.text old.hand.table) (is_marked new.spool.sides old.hand.text) refl refl

  ended_hand : was_ended old.hand.text old.hand.table (heard.ended ++ more) ≡ true
  ended_hand = ended_last heard.ended is.at.asked (Answered heard.rows) old.hand.text old.hand.table is.at.ask.text_is is.at.ask.table_is

  halves : (other : ℕ) → low ≤ other → AreKept told now (heard.ended ++ more) new.spool other
  halves other from =
      halves_kept apart keeps readable told catalog low old.hand.text old.hand.table before now pool later old.spool new.spool is.kept.areas (area_there told before pool catalog heard low top old is)
      (area_visible told before pool catalog heard low top old is) writes near side_old side_is ends.others heard.ended (heard.ended ++ more) own
      (λ text at not. ended_before text at heard.ended more not) (λ not. absurd (true_is_not_false (sym ended_hand ∙ not))) other from (is.kept.halves other from)

  unmarked_before : (other : ℕ) → low ≤ other → is_marked new.spool.sides other ≡ false → is_marked old.spool.sides other ≡ false
  unmarked_before other from not = by (same_text other old.hand.text)
    where
      by : Whether (other ≡ old.hand.text) → is_marked old.spool.sides other ≡ false
      by (holds e) = subst (λ m. is_marked old.spool.sides m ≡ false) (sym e) (unmarked_hand _ refl (subst (λ m. is_marked new.spool.sides m ≡ false) e not))
      by (fails d) = sym (marks_same old.hand.text old.spool.sides new.spool.sides writes.changes low near side_old side_is other from d) ∙ not

  -- the answer to the ask
  no_answer : (r : Reply) (all : List (List ℕ)) → r ≡ no_reply → all ≡ [] → HoldsRows now.page r all
  no_answer r all same none =
      subst (λ (x : Reply). HoldsRows now.page x all) (sym same) (subst (λ xs. HoldsRows now.page no_reply xs) (sym none) ((nothing 0 (omega arith)).holds now.page))

  empty_by : (b : Bool) → b ≡ false → (all : List (List ℕ)) → PushedIf b told before.page pool old.spool all → all ≡ []
  empty_by true e all had = absurd (true_is_not_false e)
  empty_by false e all had = had

  answer_by : (a : Bool) → is_at old.spool old.hand.text old.hand.table ≡ a → is_marked new.spool.sides old.hand.text ≡ false
      → HasAnswer told now.page catalog.schema is.at.asked.ask heard.rows reply
  answer_by true at not = record {
    holds = λ is_told. subst (λ w. HoldsRows now.page reply (rows_at w heard.rows)) is.at.ask.width_is (ends.holds at not (rows_at old.hand.width heard.rows) (pushed_all not) is_told);
    kinds = λ some. ends.kinds at not ∙ (is.at.come.kinds at ∙ is.at.ask.kinds_are);
  }
  answer_by false none not =
      let same : reply ≡ no_reply = ap (λ (s : Spool). reply_of (replies_of s.sides old.hand.text) old.hand.table) (ends.none none) ∙ none_here in
      record {
        holds = λ is_told. no_answer reply (rows_cut catalog.schema is.at.asked.ask heard.rows) same
            (sym (ap (λ w. rows_at w heard.rows) is.at.ask.width_is) ∙ empty_by (is_at old.spool old.hand.text old.hand.table) none (rows_at old.hand.width heard.rows) (pushed_all not));
        kinds = λ some. (let count = ap (λ (r : Reply). r.run.count) same in absurd (omega (arith, some, count)));
      }

  texts : (other : ℕ) → low ≤ other → is_marked new.spool.sides other ≡ false → HasEndings told now.page catalog.schema other (replies_of new.spool.sides other) (heard.ended ++ more)
  texts other from not =
      endings_joined told now.page catalog.schema other (replies_of new.spool.sides other) heard.ended more
      (endings_there apart keeps readable told catalog low old.hand.text old.hand.table before now pool later old.spool new.spool is.kept.areas (area_there told before pool catalog heard low top old is)
      (area_visible told before pool catalog heard low top old is) writes near side_old side_is ends.others catalog.schema heard.ended first_ask other from (is.kept.halves other from)
      (is.kept.texts other from (unmarked_before other from not)))
      (λ mine. last_one (is.at.ask.text_is ∙ mine) not, tt)
    where
      last_one : old.hand.text ≡ other → is_marked new.spool.sides other ≡ false → HasAnswer told now.page catalog.schema is.at.asked.ask heard.rows (reply_of (replies_of new.spool.sides other) is.at.asked.ask.table)
      last_one e not =
          subst (λ t. HasAnswer told now.page catalog.schema is.at.asked.ask heard.rows (reply_of (replies_of new.spool.sides other) t)) is.at.ask.table_is
          (subst (λ t. HasAnswer told now.page catalog.schema is.at.asked.ask heard.rows (reply_of (replies_of new.spool.sides t) old.hand.table)) e
          (answer_by (is_at old.spool old.hand.text old.hand.table) refl (subst (λ t. is_marked new.spool.sides t ≡ false) (sym e) not)))

  over : IsOver (heard.ended ++ more) new.spool.hand
  over some =
      let was = over_now told before pool catalog heard low top old is (Answered heard.rows) in
      let text = ends.hand_text some in
      ap (λ t. was_ended t new.spool.hand.table (heard.ended ++ more)) text
      ∙ (ap (λ t. was_ended old.spool.hand.text t (heard.ended ++ more)) ends.hand_table ∙ was (λ none. some (text ∙ none)))

  hand_by : new.spool.hand.text ≤ top
  hand_by = by (same_text new.spool.hand.text 0)
    where
      by : Whether (new.spool.hand.text ≡ 0) → new.spool.hand.text ≤ top
      by (holds e) = omega (arith, e)
      by (fails d) = let e = ends.hand_text d in let had = is.kept.bound.hand in omega (arith, e, had)

  pub done_kept : IsKept told now later catalog after low top new
  done_kept = record {
    spooling = spooling;
    areas = subst (λ list. AreAreasOf catalog list.items) (sym writes.areas) is.kept.areas;
    bound = bound_now top old.hand.text old.spool new.spool is.kept.bound latest writes.changes side_is hand_by;
    at = λ is_on. absurd (true_is_not_false (sym is_on ∙ closed));
    closed = λ _. rows;
    over = λ _. subst (λ es. IsOver es new.spool.hand) (sym is_ended) over;
    halves = λ other from. subst (λ es. AreKept told now es new.spool other) (sym is_ended) (halves other from);
    texts = λ other from not. subst (λ es. HasEndings told now.page catalog.schema other (replies_of new.spool.sides other) es) (sym is_ended) (texts other from not);
  }
