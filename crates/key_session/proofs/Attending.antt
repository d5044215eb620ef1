-- The asks that are awaited, and the text that comes next.
use Rattle.std.proofs.Common.{◌≡◌, ◌≤◌, ◌<◌, ℕ, zero, suc, ◌+◌, arith, Bool, true, false, ◌||◌, ◌==◌, List, [], ◌∷◌, length, drop, refl, sym, ap, ◌∙◌, subst, Some, None}
use Rattle.std.proofs.lemmas.Bool.{eq-eqb}
use Rattle.std.proofs.lemmas.Bool.Decides.{nat_tests}
use Rattle.std.specs.Prelude.{not, nat_lt, nat_le, ◌&&◌, if◌then◌else◌, codes, is_some, option_map, Option}
use Rattle.std.specs.List.{list_any, cons_option}
use Rattle.ghost_model.specs.core.Query.{Query}
use Rattle.ghost_model.specs.core.Channel.{Catalog, Journal}
use Rattle.ghost_model.specs.core.Asks.{NumberedAsk, asked_of}
use Rattle.ghost_model.specs.core.Moves.{taken, answers}
use Rattle.ghost_model.specs.core.NextMove.{Awaits, AwaitsCatalog, AwaitsReply, AwaitsNothing, is_stop, IsProper, IsFinished, Heard}
use Rattle.channel_pump.specs.Marks.{asked_at}
use Rattle.channel_pump.specs.declared.state.Pump.{Pump}
use Rattle.ghost_model.specs.forms.Frames.{payload_in}
use Rattle.channel_pump.specs.Progress.{MayCome, Tells}
use Rattle.channel_pump.specs.Sessions.{asked_in, leads_on}
use Rattle.channel_pump.specs.declared.state.Event.{Event}
use Rattle.channel_pump.specs.declared.state.Event.TheVariants as event_is
use Rattle.session_laws.specs.TextEnds.{heard_in, is_settled, is_settled_in, is_over, OverTextsAreSettled}
use Rattle.session_laws.specs.TextCases.{is_refused_in, IsDecided, TextsAreDecided, Outcome, IsDone, ByHost}
use Rattle.key_session.specs.TextOrder.{TextsComeInOrder, IsInOrder}
use Rattle.key_session.specs.declared.replies.Replies.{Replies}
use Rattle.channel_pump.specs.State.{want_of}
use Rattle.channel_pump.specs.declared.state.Want.{Want}
use Rattle.channel_pump.specs.declared.state.Want.TheVariants as want_is
use Rattle.session_laws.specs.TextCases.{TextsHaveOutcomes}
use Rattle.edge_traits.specs.Devices.{Device}
use Rattle.page_pool.specs.Pools.{Pool}
use Rattle.key_lines.specs.Handing.{Handed}
use Rattle.key_session.specs.Kept.{IsKept}
use Rattle.key_session.specs.Awaiting.{IsWithin, IsAwaiting}
use Rattle.key_session.specs.Order.{due_of, is_first, is_owed, is_closed, owed_on}
use Rattle.key_session.specs.Telling.{SessionSide, CameOut, AreLeft, texts_left}
use Rattle.key_session.specs.Going.{IsGoing, IsNear, IsNext, is_ready, is_far, rule_of}
use Rattle.key_session.specs.declared.counts.Counts.{Counts}
use Rattle.key_session.specs.declared.pace.Due.TheVariants as due
use Rattle.leakless_plan.specs.declared.plan.Plan.{Plan}
use Rattle.key_session.specs.declared.teller.Teller.{Teller}

pub same_asked : (awaits : Awaits) → asked_at awaits ≡ asked_in awaits
same_asked (AwaitsCatalog _) = refl
same_asked (AwaitsReply asked serial later count last) = refl
same_asked AwaitsNothing = refl

-- the text whose ask is awaited is not settled, and earlier ones are over
own_unsettled : (asks : List NumberedAsk) (awaits : Awaits) (asked : NumberedAsk) → asked_in awaits ≡ Some asked → is_settled asks asked.text awaits ≡ false
own_unsettled asks (AwaitsCatalog _) asked e = cc
own_unsettled asks (AwaitsReply one serial later count last) asked e =
    let same : one ≡ asked = cc in
    ap (λ (b : Bool). not (b || list_any (λ (x : NumberedAsk). x.text == asked.text) later)) (eq-eqb one.text asked.text (ap (λ (x : NumberedAsk). x.text) same))
own_unsettled asks AwaitsNothing asked e = cc

below : (a b : ℕ) → a < b → nat_lt a b ≡ true
below a b e = grind (arith, nat_tests)

earlier_over : (awaits : Awaits) (asked : NumberedAsk) (text : ℕ) → asked_in awaits ≡ Some asked → text < asked.text → is_over text awaits ≡ true
earlier_over (AwaitsCatalog _) asked text e less = cc
earlier_over (AwaitsReply one serial later count last) asked text e less =
    let same : asked ≡ one = cc in
    below text one.text (subst (λ (x : NumberedAsk). text < x.text) same less)
earlier_over AwaitsNothing asked text e less = cc

pub true_is_not_false : true ≡ false → ⊥
true_is_not_false e = cc

-- how an accepted text that is settled came out
pub settled_outcome : (catalog : Catalog) (texts : List (List ℕ)) (journal : Journal) (text : ℕ) (query : Query) → IsDecided catalog texts journal text query → is_settled_in catalog texts journal text ≡ true
    → Outcome catalog texts journal text query
settled_outcome catalog texts journal text query decided settled = by (is_refused_in catalog texts journal text) refl
  where
    done_is : (r s : Bool) → r ≡ false → s ≡ true → (not r && s) ≡ true
    done_is r s e f = rw (e, f)

    not_done : (r s : Bool) → r ≡ true → (not r && s) ≡ false
    not_done true s e = refl
    not_done false s e = cc

    by : (refused : Bool) → is_refused_in catalog texts journal text ≡ refused → Outcome catalog texts journal text query
    by true e =
        ByHost (decided.done ∙ not_done (is_refused_in catalog texts journal text) (is_settled_in catalog texts journal text) e) e
        (ap (λ (b : Bool). if b then codes "host" else if list_any is_stop (answers journal) then codes "link" else codes "protocol") (decided.refused ∙ e))
    by false e = IsDone (decided.done ∙ done_is (is_refused_in catalog texts journal text) (is_settled_in catalog texts journal text) e settled)

pub none_behind : (texts : List (List ℕ)) (count : ℕ) → [] ≡ drop count texts → length texts ≤ count
none_behind [] count e = omega arith
none_behind (text ∷ texts) zero e = cc
none_behind (text ∷ texts) (suc count) e = let less = none_behind texts count e in omega (arith, less)

-- a session in which an ask is awaited
module _ (over : OverTextsAreSettled) (order : TextsComeInOrder) (decided : TextsAreDecided) (catalog : Catalog) (texts : List (List ℕ)) (journal : Journal) (asked : NumberedAsk) (awaited : asked_in (heard_in catalog texts journal).awaits ≡ Some asked) where
  in_order : IsInOrder catalog texts (heard_in catalog texts journal) asked
  in_order = order catalog texts (taken journal) asked awaited

  pub before_settled : (text : ℕ) → text < asked.text → is_settled_in catalog texts journal text ≡ true
  before_settled text less = over catalog texts (taken journal) text (earlier_over (heard_in catalog texts journal).awaits asked text awaited less)

  pub before_came : (number : ℕ) → number < asked.text → CameOut catalog texts journal number
  before_came number less place written query e stands accepted =
      settled_outcome catalog texts journal (suc place) query (decided catalog texts journal place written query stands accepted)
      (subst (λ (n : ℕ). is_settled_in catalog texts journal n ≡ true) e (before_settled number less))

  pub unsettled : is_settled_in catalog texts journal asked.text ≡ false
  unsettled = own_unsettled (asked_of catalog.schema texts) (heard_in catalog texts journal).awaits asked awaited

pub empty : {X : Type 0} (f : X → List ℕ) (ahead : Option X) (texts : List (List ℕ)) → is_some ahead ≡ false → texts ≡ [] → cons_option (option_map f ahead) texts ≡ []
empty f None texts none e = e
empty f (Some text) texts none e = cc

-- an ask that is awaited is of a text at which a slice may come before the next move, or that is near
module _ (over : OverTextsAreSettled) (order : TextsComeInOrder) (decided : TextsAreDecided) (outcomes : TextsHaveOutcomes) (catalog : Catalog) (at : List ℕ) (texts : List (List ℕ)) (journal : Journal) (pump : Pump) where
  open_next : (asked : NumberedAsk) (owed number : ℕ) → asked_in (heard_in catalog texts journal).awaits ≡ Some asked → is_owed owed number asked.text ≡ true → IsNext catalog texts journal pump number
  open_next asked owed number awaited first =
      let less : number < asked.text = earlier owed number asked.text first in record {
        came = before_came over order decided catalog texts journal asked awaited number less;
        settled = λ opened. before_settled over order decided catalog texts journal asked awaited number less;
      }
    where
      earlier : (owed number other : ℕ) → is_owed owed number other ≡ true → number < other
      earlier owed number other first = grind (arith, nat_tests)

  first_next : (asked : Option NumberedAsk) (owed number : ℕ) → asked_in (heard_in catalog texts journal).awaits ≡ asked
      → is_first owed number (option_map (λ (one : NumberedAsk). one.text) asked) ≡ true → IsNext catalog texts journal pump number
  first_next None owed number awaited first = cc
  first_next (Some asked) owed number awaited first = open_next asked owed number awaited first

  is_closed_want : (want : Want) → is_closed want ≡ true → want ≡ want_is.Closed
  is_closed_want want_is.Closed e = refl
  is_closed_want want_is.Dial e = cc
  is_closed_want want_is.Send e = cc
  is_closed_want (want_is.Take place most) e = cc
  is_closed_want want_is.Close e = cc

  -- a slice is due of a text whose asks are over
  pub next_due : (left : Bool) (owed number : ℕ) → IsProper catalog at texts journal → (want_of pump ≡ want_is.Closed → IsFinished journal)
      → due.Slice ≡ due_of (is_closed (want_of pump)) left owed number (option_map (λ (one : NumberedAsk). one.text) (asked_at (heard_in catalog texts journal).awaits))
      → IsNext catalog texts journal pump number
  next_due left owed number proper finished is_due = by (is_closed (want_of pump)) refl is_due
    where
      asked : Option NumberedAsk
      asked = asked_at (heard_in catalog texts journal).awaits

      both : (left first : Bool) → due.Slice ≡ (if left && first then due.Slice else due.Move) → first ≡ true
      both true true e = refl
      both true false e = cc
      both false first e = cc

      by : (closed : Bool) → is_closed (want_of pump) ≡ closed → due.Slice ≡ due_of closed left owed number (option_map (λ (one : NumberedAsk). one.text) asked) → IsNext catalog texts journal pump number
      by true shut e =
          let closed : want_of pump ≡ want_is.Closed = is_closed_want (want_of pump) shut in record {
            came = λ place written query same stands accepted. outcomes catalog at texts journal place written query proper (finished closed) stands accepted;
            settled = λ opened. absurd (opened closed);
          }
      by false shut e =
          first_next asked owed number (sym (same_asked (heard_in catalog texts journal).awaits))
          (both left (is_first owed number (option_map (λ (one : NumberedAsk). one.text) asked)) e)

  -- a move is due only where the text of the ask at hand is near
  pub near_due : (teller : Teller) (owed : ℕ) → AreLeft texts (texts_left teller) teller.count
      → due.Move ≡ due_of (is_closed (want_of pump)) (is_some teller.ahead) owed (teller.count + 1) (option_map (λ (one : NumberedAsk). one.text) (asked_at (heard_in catalog texts journal).awaits))
      → (asked : NumberedAsk) → asked_in (heard_in catalog texts journal).awaits ≡ Some asked → asked.text ≤ teller.count + 2
  near_due teller owed left is_due asked awaited = by (is_closed (want_of pump)) (is_some teller.ahead) refl is_due
    where
      is_asked : asked_at (heard_in catalog texts journal).awaits ≡ Some asked
      is_asked = same_asked (heard_in catalog texts journal).awaits ∙ awaited

      shut : (left : Bool) → due.Move ≡ (if left then due.Slice else due.Ended) → ⊥
      shut true e = cc
      shut false e = cc

      not_first : (first : Bool) → due.Move ≡ (if true && first then due.Slice else due.Move) → first ≡ false
      not_first true e = cc
      not_first false e = refl

      within : (owed number other : ℕ) → is_owed owed number other ≡ false → other ≤ number + 1
      within owed number other none = grind (arith, nat_tests)

      none_ahead : is_some teller.ahead ≡ false → [] ≡ drop teller.count texts
      none_ahead none = sym (empty _ teller.ahead teller.texts none (teller.last none)) ∙ left.left_are

      by : (closed some : Bool) → is_some teller.ahead ≡ some
          → due.Move ≡ due_of closed some owed (teller.count + 1) (option_map (λ (one : NumberedAsk). one.text) (asked_at (heard_in catalog texts journal).awaits)) → asked.text ≤ teller.count + 2
      by true some is_left e = absurd (shut some e)
      by false true is_left e =
          let none : is_owed owed (teller.count + 1) asked.text ≡ false =
          not_first (is_owed owed (teller.count + 1) asked.text)
          (e ∙ ap (λ (one : Option NumberedAsk). due_of false true owed (teller.count + 1) (option_map (λ (a : NumberedAsk). a.text) one)) is_asked) in
          let close : asked.text ≤ teller.count + 1 + 1 = within owed (teller.count + 1) asked.text none in
          omega (arith, close)
      by false false is_left e =
          let behind = none_behind texts teller.count (none_ahead is_left) in
          let place = (order catalog texts (taken journal) asked awaited).within in
          omega (arith, behind, place)

  -- the text of the ask that is awaited is none before the next one, and near
  pub within_now : (plan : Plan) (pages_told : Bool) (since : SessionSide) (sink : Handed) (device : Device) (pool : Pool) (left : List (List ℕ)) (count : ℕ) (counts : Counts) (kept : Replies) (going : IsGoing plan pages_told catalog texts journal since sink device pool pump left count counts kept)
      → (want_of pump ≡ want_is.Closed → ⊥) → IsNear catalog texts journal (count + 2)
      → (asked : NumberedAsk) → asked_in (heard_in catalog texts journal).awaits ≡ Some asked → IsWithin (count + 1) going.top asked.text
  within_now plan pages_told since sink device pool left count counts kept going opened near asked awaited =
      let in_order = order catalog texts (taken journal) asked awaited in
      let un : is_settled_in catalog texts journal asked.text ≡ false = unsettled over order decided catalog texts journal asked awaited in
      let close : asked.text ≤ count + 2 = near asked awaited in
      record {
        numbered = in_order.numbered;
        least = going.onward asked.text un;
        from = from asked.text count (λ upto. true_is_not_false (sym (going.settled opened asked.text in_order.numbered upto) ∙ un));
        near = omega (arith, close);
      }
    where
      from : (text count : ℕ) → (text ≤ count → ⊥) → count + 1 ≤ text
      from text count none = omega (arith, none)

-- ---- the rule of what is due

false_is_not : false ≡ true → ⊥
false_is_not e = cc

same_rule : (far allowed later : Bool) → (far ≡ true → later ≡ true) → (far || (allowed && later)) ≡ (later && (allowed || far))
same_rule true true true e = refl
same_rule true false true e = refl
same_rule true allowed false e = absurd (false_is_not (e refl))
same_rule false true true e = refl
same_rule false true false e = refl
same_rule false false true e = refl
same_rule false false false e = refl

or_true : (a : Bool) → (a || true) ≡ true
or_true true = refl
or_true false = refl

and_false : (a : Bool) → (a && false) ≡ false
and_false true = refl
and_false false = refl

far_later : (number text : ℕ) → nat_le (number + 2) text ≡ true → nat_lt number text ≡ true
far_later number text e = grind (arith, nat_tests)

not_below : (a b : ℕ) → nat_lt a b ≡ false → b ≤ a
not_below a b e = grind (arith, nat_tests)

is_below : (a b : ℕ) → nat_lt a b ≡ true → a < b
is_below a b e = grind (arith, nat_tests)

module _ (over : OverTextsAreSettled) (order : TextsComeInOrder) (decided : TextsAreDecided) (catalog : Catalog) (texts : List (List ℕ)) (journal : Journal) (count owed : ℕ)
    (awaited : 0 < owed → is_some (asked_in (heard_in catalog texts journal).awaits) ≡ true) where
  -- the next text is settled where an ask of a later one is at hand
  settled_is : ((text : ℕ) → 1 ≤ text → text ≤ count → is_settled_in catalog texts journal text ≡ true) → (one : NumberedAsk) → asked_in (heard_in catalog texts journal).awaits ≡ Some one
      → is_settled_in catalog texts journal (count + 1) ≡ nat_lt (count + 1) one.text
  settled_is told one at = by (nat_lt (count + 1) one.text) refl
    where
      un : is_settled_in catalog texts journal one.text ≡ false
      un = unsettled over order decided catalog texts journal one at

      from : (one.text ≤ count → ⊥) → one.text ≤ count + 1 → one.text ≡ count + 1
      from none upto = omega (arith, none, upto)

      by : (later : Bool) → nat_lt (count + 1) one.text ≡ later → is_settled_in catalog texts journal (count + 1) ≡ later
      by true e = before_settled over order decided catalog texts journal one at (count + 1) (is_below (count + 1) one.text e)
      by false e =
          let here : one.text ≡ count + 1 =
          from (λ upto. true_is_not_false (sym (told one.text (order catalog texts (taken journal) one at).numbered upto) ∙ un)) (not_below (count + 1) one.text e) in
          ap (λ (n : ℕ). is_settled_in catalog texts journal n) (sym here) ∙ un

  none_allowed : asked_in (heard_in catalog texts journal).awaits ≡ None → nat_lt 0 owed ≡ false
  none_allowed none = by (nat_lt 0 owed) refl
    where
      by : (allowed : Bool) → nat_lt 0 owed ≡ allowed → nat_lt 0 owed ≡ false
      by false e = e
      by true e = absurd (false_is_not (sym (ap (λ (one : Option NumberedAsk). is_some one) none) ∙ awaited (is_below 0 owed e)))

  -- what is due is due by the rule
  pub due_rule : (closed left : Bool) → (closed ≡ false → (text : ℕ) → 1 ≤ text → text ≤ count → is_settled_in catalog texts journal text ≡ true)
      → due_of closed left owed (count + 1) (option_map (λ (one : NumberedAsk). one.text) (asked_at (heard_in catalog texts journal).awaits))
      ≡ rule_of closed left (is_ready closed catalog texts journal (count + 1)) (nat_lt 0 owed) (is_far (count + 1) (asked_in (heard_in catalog texts journal).awaits))
  due_rule true true told = ap (λ (b : Bool). if b then due.Slice else due.Ended) (sym (or_true (nat_lt 0 owed)))
  due_rule true false told = refl
  due_rule false false told = refl
  due_rule false true told =
      ap (λ (one : Option NumberedAsk). if is_first owed (count + 1) (option_map (λ (a : NumberedAsk). a.text) one) then due.Slice else due.Move) (same_asked (heard_in catalog texts journal).awaits)
      ∙ ap (λ (b : Bool). if b then due.Slice else due.Move) (by (asked_in (heard_in catalog texts journal).awaits) refl)
    where
      by : (asked : Option NumberedAsk) → asked_in (heard_in catalog texts journal).awaits ≡ asked
          → is_first owed (count + 1) (option_map (λ (a : NumberedAsk). a.text) (asked_in (heard_in catalog texts journal).awaits))
          ≡ (is_settled_in catalog texts journal (count + 1) && (nat_lt 0 owed || is_far (count + 1) (asked_in (heard_in catalog texts journal).awaits)))
      by None e =
          ap (λ (one : Option NumberedAsk). is_first owed (count + 1) (option_map (λ (a : NumberedAsk). a.text) one)) e
          ∙ sym (and_false (is_settled_in catalog texts journal (count + 1)))
          ∙ ap (λ (b : Bool). is_settled_in catalog texts journal (count + 1) && (b || false)) (sym (none_allowed e))
          ∙ ap (λ (one : Option NumberedAsk). is_settled_in catalog texts journal (count + 1) && (nat_lt 0 owed || is_far (count + 1) one)) (sym e)
      by (Some one) e =
          ap (λ (a : Option NumberedAsk). is_first owed (count + 1) (option_map (λ (a : NumberedAsk). a.text) a)) e
          ∙ same_rule (nat_le (count + 1 + 2) one.text) (nat_lt 0 owed) (nat_lt (count + 1) one.text) (far_later (count + 1) one.text)
          ∙ ap (λ (b : Bool). b && (nat_lt 0 owed || nat_le (count + 1 + 2) one.text)) (sym (settled_is (told refl) one e))
          ∙ ap (λ (a : Option NumberedAsk). is_settled_in catalog texts journal (count + 1) && (nat_lt 0 owed || is_far (count + 1) a)) (sym e)

came_asked : (catalog : Catalog) (awaits : Awaits) (payload : List ℕ) (n : ℕ) → MayCome catalog awaits payload n → is_some (asked_in awaits) ≡ true
came_asked catalog (AwaitsCatalog bytes) payload n came = absurd came
came_asked catalog (AwaitsReply asked serial later count last) payload n came = refl
came_asked catalog AwaitsNothing payload n came = absurd came

none_owed : (owed : ℕ) → owed ≡ 0 → 0 < owed → ⊥
none_owed owed none some = omega (arith, none, some)

-- slices are allowed only where a reply is awaited
pub owed_behind : (catalog : Catalog) (page : List ℕ) (event : Event) (before after : Heard) (numbers : List ℕ) (place owed : ℕ) → Tells catalog page event before after
    → (leads_on event ≡ false → asked_in after.awaits ≡ asked_in before.awaits) → owed ≡ owed_on event numbers place → 0 < owed → is_some (asked_in after.awaits) ≡ true
owed_behind catalog page event_is.Part before after numbers place owed tells same is some = absurd (none_owed owed is some)
owed_behind catalog page event_is.Welcome before after numbers place owed tells same is some = absurd (none_owed owed is some)
owed_behind catalog page (event_is.Rows n) before after numbers place owed tells same is some =
    ap (λ (one : Option NumberedAsk). is_some one) (same refl) ∙ came_asked catalog before.awaits (payload_in page) n tells.came
owed_behind catalog page event_is.Done before after numbers place owed tells same is some = absurd (none_owed owed is some)
owed_behind catalog page (event_is.Sorry code) before after numbers place owed tells same is some = absurd (none_owed owed is some)
owed_behind catalog page (event_is.Invalid kind place_of) before after numbers place owed tells same is some = absurd (none_owed owed is some)

-- the reply to the ask that is awaited was begun
pub begun_reply : (told : Bool) (device : Device) (pool : Pool) (catalog : Catalog) (heard : Heard) (low top : ℕ) (old new : Replies) (asked : NumberedAsk) → asked_in heard.awaits ≡ Some asked → new.is_open ≡ true → new.hand.text ≡ asked.text
    → IsKept told device pool catalog heard low asked.text new → IsAwaiting told device pool catalog heard low top old new
begun_reply told device pool catalog heard low top old new asked awaited begun hand kept = record {
  last = asked.text;
  kept = kept;
  awaited = λ one e. (let same : asked.text ≡ one.text = ap (λ (a : NumberedAsk). a.text) (same_one asked one (sym awaited ∙ e)) in record { begun = begun; hand = hand ∙ same; last_is = same });
  still = λ none. absurd (none_some asked (sym none ∙ awaited));
}
  where
    same_one : (x y : NumberedAsk) → Some x ≡ Some y → x ≡ y
    same_one x y e = cc

    none_some : (asked : NumberedAsk) → None ≡ Some asked → ⊥
    none_some asked e = cc

-- no ask is awaited
pub none_asked : (told : Bool) (device : Device) (pool : Pool) (catalog : Catalog) (heard : Heard) (low top : ℕ) (replies : Replies) → asked_in heard.awaits ≡ None
    → IsKept told device pool catalog heard low top replies → IsAwaiting told device pool catalog heard low top replies replies
none_asked told device pool catalog heard low top replies none kept = record {
  last = top;
  kept = kept;
  awaited = λ one e. absurd (none_some one (sym none ∙ e));
  still = λ _. refl;
}
  where
    none_some : (asked : NumberedAsk) → None ≡ Some asked → ⊥
    none_some asked e = cc
