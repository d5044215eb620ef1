-- One more move of a session.
use Rattle.std.proofs.Common.{◌≡◌, ◌≢◌, ◌≤◌, ◌<◌, ℕ, suc, ◌+◌, ◌-◌, arith, Bool, true, false, List, [], ◌∷◌, ◌++◌, length, refl, sym, ap, ◌∙◌, Option, Some, None, subst}
use Rattle.std.proofs.lemmas.Option.{slice_get_within}
use Rattle.std.specs.Prelude.{◌%◌, min, is_some, option_map, not, ◌&&◌, slice_get, get_or, count_by}
use Rattle.ghost_model.specs.core.Channel.{Catalog, Journal}
use Rattle.ghost_model.specs.refusals.SchemaFaults.{MeansSchema}
use Rattle.ghost_model.specs.core.Asks.{NumberedAsk, asked_of}
use Rattle.ghost_model.specs.core.Moves.{taken}
use Rattle.ghost_model.specs.core.NextMove.{Awaits, AwaitsCatalog, AwaitsReply, AwaitsNothing, EndedAsk, Heard, hear_all, standing_after, ended_of}
use Rattle.ghost_model.specs.core.Lines.{Reason, WasRefused, WasBroken, WasAnswered, MetFault, all_done, was_refused, broken_word}
use Rattle.ghost_model.specs.core.Split.{hidden_of}
use Rattle.channel_pump.specs.Progress.{Tells, ended_on}
use Rattle.channel_pump.specs.declared.state.Event.{Event}
use Rattle.channel_pump.specs.declared.state.Event.TheVariants as event_is
use Rattle.channel_pump.specs.Sessions.{Moved, asked_in}
use Rattle.session_laws.specs.TextEnds.{heard_in, is_settled_in, EndedTextsStay, ReasonsStay}
use Rattle.key_session.specs.Fits.{Fits, RepliesFit}
use Rattle.key_session.specs.Kept.{IsKept, is_lost, lease_of, none_heard}
use Rattle.key_session.specs.Hearing.{Hears, IsSomeHeard, HasHeard, MarkTells, WritesHalf}
use Rattle.key_session.specs.declared.replies.Replies.{Replies}
use Rattle.std.specs.Option.{option_or}
use Rattle.key_session.specs.Refusing.{code_of, first_code, code_on}
use Rattle.session_laws.specs.TextCases.{TextsAreDecided, is_refused_in}
use Rattle.leakless_plan.specs.declared.plan.Plan.{Plan}
use Rattle.key_exec.specs.Texts.{broken_line}
use Rattle.key_session.specs.Reasons.{CameTo, IsReason, AreSomeLines}
use Rattle.page_pool.specs.Pools.{Pool}
use Rattle.session_laws.specs.TextEnds.{OverTextsAreSettled, StaysSettledIn, AsksAreAwaitedInOrder}
use Rattle.session_laws.specs.TextCases.{TextsHaveOutcomes}
use Rattle.channel_pump.specs.Marks.{state_of}
use Rattle.channel_pump.specs.State.{want_of}
use Rattle.channel_pump.specs.declared.state.Pump.{Pump}
use Rattle.channel_pump.specs.declared.state.Want.TheVariants as want_is
use Rattle.channel_pump.specs.declared.state.ReplyState.TheVariants as state_is
use Rattle.key_session.specs.TextOrder.{TextsComeInOrder}
use Rattle.ghost_model.specs.core.Causes.{Rose, last_count}
use Rattle.ghost_model.specs.core.Replies.{Reply}
use Rattle.edge_traits.specs.Devices.{Device, ChangesOnly}
use Rattle.edge_traits.proofs.DeviceFrames.{changes_kept, kept_same}
use Rattle.page_pool.specs.Pools.{ChangesPage}
use Rattle.page_pool.specs.Laws.{KeepsOut}
use Rattle.page_pool.proofs.Leases.{change_keeps_out, change_elsewhere, other_apart, others_kept}
use Rattle.visible_spool.specs.declared.spool.Spool.{Spool}
use Rattle.visible_spool.specs.Sides.{is_marked}
use Rattle.visible_spool.specs.Areas.{half_begin, half_end}
use Rattle.key_lines.specs.Handing.{Handed}
use Rattle.key_exec.specs.Telling as lines
use Rattle.key_exec.specs.Telling.{IsUnderWay, AreRepliesOf}
use Rattle.key_exec.specs.Laws.{TellingIsSpared}
use Rattle.key_exec.specs.Ready.{Spares}
use Rattle.key_exec.specs.declared.telling.Telling.{Telling}
use Rattle.key_session.specs.Awaiting.{IsWithin, IsOpen, IsAwaiting}
use Rattle.key_session.specs.Telling.{SessionSide, AreMarked, KeepsFiles, texts_left}
use Rattle.key_session.specs.Going.{CanRun, RunIsSpared, IsOutAlone, IsNear, IsGoing, IsTaken, IsRunning, Runs, IsAmid}
use Rattle.key_session.specs.declared.counts.Counts.{Counts}
use Rattle.key_session.specs.declared.teller.Teller.{Teller}
use Rattle.key_session.proofs.Coming.{done_so, done_still}
use Rattle.key_session.proofs.Attending.{settled_outcome, before_settled, unsettled, within_now}
use Rattle.key_session.proofs.OneMore.{no_fall, files_on, half_files}
use Rattle.key_session.proofs.Adding.{still_no_fall, rose_before}
use Rattle.key_session.proofs.Readings.{read_later}
use Rattle.key_session.proofs.Marking.{MarksGo, marks_same, marks_go, marked_same, marked_go, awaited_accepted}

or_else_twice : (a b c : Option ℕ) → option_or (option_or a b) c ≡ option_or a (option_or b c)
or_else_twice None b c = refl
or_else_twice (Some a) b c = refl

first_more : (ends more : List EndedAsk) → first_code (ends ++ more) ≡ option_or (first_code ends) (first_code more)
first_more [] more = refl
first_more (end ∷ ends) more = ap (option_or (code_of end.ending)) (first_more ends more) ∙ sym (or_else_twice (code_of end.ending) (first_code ends) (first_code more))

code_heard : (event : Event) (awaits : Awaits) (rows : List ℕ) → first_code (ended_on event awaits rows) ≡ code_on (is_some (asked_in awaits)) event
code_heard event_is.Part awaits rows = refl
code_heard event_is.Welcome awaits rows = refl
code_heard (event_is.Rows _) awaits rows = refl
code_heard event_is.Done (AwaitsCatalog _) rows = refl
code_heard event_is.Done (AwaitsReply asked serial later count last) rows = refl
code_heard event_is.Done AwaitsNothing rows = refl
code_heard (event_is.Sorry code) (AwaitsCatalog _) rows = refl
code_heard (event_is.Sorry code) (AwaitsReply asked serial later count last) rows = refl
code_heard (event_is.Sorry code) AwaitsNothing rows = refl
code_heard (event_is.Invalid _ _) awaits rows = refl

-- the first refusal after an event
pub refusal_more : (catalog : Catalog) (page : List ℕ) (event : Event) (before after : Heard) (refusal new : Option ℕ) (is_awaited : Bool) → Tells catalog page event before after → refusal ≡ first_code before.ended
    → is_awaited ≡ is_some (asked_in before.awaits) → new ≡ option_or refusal (code_on is_awaited event) → new ≡ first_code after.ended
refusal_more catalog page event before after refusal new is_awaited tells was awaited is =
    is ∙ ap (λ (b : Bool). option_or refusal (code_on b event)) awaited
    ∙ ap (λ (r : Option ℕ). option_or r (code_on (is_some (asked_in before.awaits)) event)) was
    ∙ ap (option_or (first_code before.ended)) (sym (code_heard event before.awaits before.rows))
    ∙ sym (ap first_code tells.ended ∙ first_more before.ended (ended_on event before.awaits before.rows))

true_is_not_false : true ≡ false → ⊥
true_is_not_false e = cc

-- texts that were not settled after more were not settled before
unsettled_before : EndedTextsStay → (catalog : Catalog) (texts : List (List ℕ)) (journal more : Journal) (text : ℕ) → is_settled_in catalog texts (journal ++ more) text ≡ false → is_settled_in catalog texts journal text ≡ false
unsettled_before stay catalog texts journal more text e = by (is_settled_in catalog texts journal text) refl
  where
    by : (settled : Bool) → is_settled_in catalog texts journal text ≡ settled → is_settled_in catalog texts journal text ≡ false
    by false s = s
    by true s = absurd (true_is_not_false (sym (stay catalog texts journal more text s).settled ∙ e))

-- the reason of a text stays as long as what its asks came to
came_still : (all : Bool) (catalog : Catalog) (texts : List (List ℕ)) (journal later : Journal) (number : ℕ) (written : List ℕ)
    → ended_of catalog (asked_of catalog.schema texts) later number ≡ ended_of catalog (asked_of catalog.schema texts) journal number → CameTo all catalog texts journal number written → CameTo all catalog texts later number written
came_still all catalog texts journal later number written same came = record {
  query = came.query;
  accepted = came.accepted;
  done = ap (all_done catalog.schema came.query) same ∙ came.done;
}

reason_still : (catalog : Catalog) (texts : List (List ℕ)) (journal later : Journal) (number : ℕ) (written : List ℕ) → ended_of catalog (asked_of catalog.schema texts) later number ≡ ended_of catalog (asked_of catalog.schema texts) journal number
    → (reason : Reason) → IsReason reason catalog texts journal number written → IsReason reason catalog texts later number written
reason_still catalog texts journal later number written same WasRefused is = is
reason_still catalog texts journal later number written same WasBroken is = came_still false catalog texts journal later number written same is
reason_still catalog texts journal later number written same WasAnswered is = came_still true catalog texts journal later number written same is
reason_still catalog texts journal later number written same (MetFault fault) is = came_still true catalog texts journal later number written same is

-- a settled text whose asks did not all come to their end was refused by the host, whose word is told of it ever after
host_word : (refused settled : Bool) → settled ≡ true → (not refused && settled) ≡ false → refused ≡ true
host_word true settled e f = refl
host_word false true e f = cc
host_word false false e f = cc

word_by : (ends : List EndedAsk) (journal later : Journal) → was_refused ends ≡ true → broken_word ends later ≡ broken_word ends journal
word_by ends journal later e = rw e refl

word_still : TextsAreDecided → (catalog : Catalog) (texts : List (List ℕ)) (journal later : Journal) (place : ℕ) (written : List ℕ) → slice_get texts place ≡ Some written
    → is_settled_in catalog texts journal (suc place) ≡ true
    → ended_of catalog (asked_of catalog.schema texts) later (suc place) ≡ ended_of catalog (asked_of catalog.schema texts) journal (suc place)
    → CameTo false catalog texts journal (suc place) written
    → broken_word (ended_of catalog (asked_of catalog.schema texts) later (suc place)) later ≡ broken_word (ended_of catalog (asked_of catalog.schema texts) journal (suc place)) journal
word_still decided catalog texts journal later place written stands settled same came =
    let is = decided catalog texts journal place written came.query stands came.accepted in
    let refused : was_refused (ended_of catalog (asked_of catalog.schema texts) journal (suc place)) ≡ true =
    is.refused ∙ host_word (is_refused_in catalog texts journal (suc place)) (is_settled_in catalog texts journal (suc place)) settled (sym is.done ∙ came.done) in
    ap (λ (ends : List EndedAsk). broken_word ends later) same
    ∙ word_by (ended_of catalog (asked_of catalog.schema texts) journal (suc place)) journal later refused

-- the lines of a text stay as long as what its asks came to
lines_still : TextsAreDecided → (catalog : Catalog) (texts : List (List ℕ)) (journal later : Journal) (place : ℕ) (written again : List ℕ) → slice_get texts place ≡ Some written → slice_get texts place ≡ Some again
    → is_settled_in catalog texts journal (suc place) ≡ true
    → ended_of catalog (asked_of catalog.schema texts) later (suc place) ≡ ended_of catalog (asked_of catalog.schema texts) journal (suc place)
    → (reason : Reason) (lines : List (List ℕ)) → IsReason reason catalog texts journal (suc place) again
    → AreSomeLines reason catalog texts journal (suc place) written lines → AreSomeLines reason catalog texts later (suc place) written lines
lines_still decided catalog texts journal later place written again stands over settled same WasRefused lines is are = are
lines_still decided catalog texts journal later place written again stands over settled same WasAnswered lines is are = are
lines_still decided catalog texts journal later place written again stands over settled same (MetFault fault) lines is are = are
lines_still decided catalog texts journal later place written again stands over settled same WasBroken lines is are =
    are ∙ ap (broken_line (suc place)) (sym (word_still decided catalog texts journal later place again over settled same is))

-- ---- what a move makes of the flash

-- the facts of a move, for the texts from the next one on
pub record MoveTells (catalog : Catalog) (texts : List (List ℕ)) (count : ℕ) (before now : Device) (old new : Replies) (settled : Bool) : Type 0 where
  pub files : KeepsFiles catalog before now
  pub faults : before.faults ≤ now.faults
  pub marks : MarksGo count before.faults now.faults old new
  pub marked : (since : ℕ) → min since last_count ≤ before.calls → AreMarked catalog texts count since before.calls old → AreMarked catalog texts count since now.calls new
  -- what is written lies in the half that is not the next text's, once its asks are over
  pub half : settled ≡ true → ChangesOnly (half_begin catalog (1 - (count + 1) % 2)) (half_end catalog (1 - (count + 1) % 2)) before now
  pub unmarked : settled ≡ true → is_lost new (count + 1) ≡ is_lost old (count + 1)

other_half : (count text : ℕ) → text ≡ count + 2 → text % 2 ≡ 1 - (count + 1) % 2
other_half count text is = omega (arith, is)

pub half_below : (n : ℕ) → n % 2 < 2
half_below n = omega arith

not_above : (a b : ℕ) → (a < b → ⊥) → b ≤ a
not_above a b e = omega (arith, e)

last_text : (text count : ℕ) → count + 1 ≤ text → text ≤ count + 2 → text ≢ count + 1 → text ≡ count + 2
last_text text count from near apart = omega (arith, from, near, apart)

module _ (over : OverTextsAreSettled) (order : TextsComeInOrder) (decided : TextsAreDecided) (in_order : AsksAreAwaitedInOrder) (catalog : Catalog) (texts : List (List ℕ)) (journal : Journal) (count top last : ℕ) (plan : Plan) (pages_told : Bool) (before now : Device) (pool : Pool)
    (replies middle kept : Replies) (near : IsNear catalog texts journal (count + 2)) (within : (asked : NumberedAsk) → asked_in (heard_in catalog texts journal).awaits ≡ Some asked → IsWithin (count + 1) top asked.text)
    (awaited : (asked : NumberedAsk) → asked_in (heard_in catalog texts journal).awaits ≡ Some asked → IsOpen asked.text last middle)
    (stands : IsKept pages_told before pool catalog (heard_in catalog texts journal) (count + 1) last middle) (spool : middle.spool ≡ replies.spool)
    (heard : HasHeard catalog (count + 1) middle.hand.text before now middle kept) (marks : MarkTells before now (is_lost middle middle.hand.text) (is_lost kept middle.hand.text))
    (still : middle.is_open ≡ false → now ≡ before) (still_spool : middle.is_open ≡ false → kept.spool ≡ middle.spool) where
  lost_middle : (text : ℕ) → is_lost middle text ≡ is_lost replies text
  lost_middle text = ap (λ (s : Spool). is_marked s.sides text) spool

  calls : min before.calls last_count ≤ now.calls
  calls = no_fall last_count before.calls now.calls heard.writes.never_falls

  -- nothing is awaited
  none_open : asked_in (heard_in catalog texts journal).awaits ≡ None → middle.is_open ≡ false
  none_open none = by middle.is_open refl
    where
      none_some : (asked : NumberedAsk) → None ≡ Some asked → ⊥
      none_some asked e = cc

      by : (is_open : Bool) → middle.is_open ≡ is_open → middle.is_open ≡ false
      by false e = e
      by true e = (let at = stands.at e in absurd (none_some at.asked (sym none ∙ at.awaited)))

  abbrev pub settled_next : Bool
  settled_next = is_settled_in catalog texts journal (count + 1)

  tells_none : asked_in (heard_in catalog texts journal).awaits ≡ None → MoveTells catalog texts count before now replies kept settled_next
  tells_none none =
      let same : now ≡ before = still (none_open none) in
      let lost : (text : ℕ) → is_lost kept text ≡ is_lost replies text = λ text. ap (λ (s : Spool). is_marked s.sides text) (still_spool (none_open none) ∙ spool) in
      record {
        files = half_files catalog middle.hand.text before now heard.writes;
        faults = marks.never_falls;
        marks = marks_same count before.faults now.faults replies kept lost (ap (λ (d : Device). d.faults) same);
        marked = λ since stayed are. marked_same catalog texts count since before.calls now.calls replies kept lost calls are;
        half = λ _. subst (λ (d : Device). ChangesOnly (half_begin catalog (1 - (count + 1) % 2)) (half_end catalog (1 - (count + 1) % 2)) before d) (sym same)
            (changes_kept (kept_same before) _ _);
        unmarked = λ _. lost (count + 1);
      }

  -- an ask is awaited
  tells_some : (one : NumberedAsk) → asked_in (heard_in catalog texts journal).awaits ≡ Some one → MoveTells catalog texts count before now replies kept settled_next
  tells_some one is =
      let open_is = awaited one is in
      let hand : middle.hand.text ≡ one.text = open_is.hand in
      let from : count + 1 ≤ one.text = (within one is).from in
      let close : one.text ≤ count + 2 = near one is in
      let others : (other : ℕ) → count + 1 ≤ other → other ≢ one.text → is_lost kept other ≡ is_lost replies other =
      λ other after apart. heard.marks other after (λ (e : other ≡ middle.hand.text). apart (e ∙ hand)) ∙ lost_middle other in
      let mine : MarkTells before now (is_lost replies one.text) (is_lost kept one.text) =
      subst (λ (b : Bool). MarkTells before now b (is_lost kept one.text)) (lost_middle one.text)
      (subst (λ (n : ℕ). MarkTells before now (is_lost middle n) (is_lost kept n)) hand marks) in
      let called : is_lost replies one.text ≡ false → is_lost kept one.text ≡ true → Rose before.calls now.calls =
      λ e f. mine.called e f in
      let behind : settled_next ≡ true → one.text ≡ count + 2 =
      λ settled. last_text one.text count from close
      (λ (e : one.text ≡ count + 1). true_is_not_false (sym settled ∙ (ap (λ (n : ℕ). is_settled_in catalog texts journal n) (sym e) ∙ unsettled over order decided catalog texts journal one is))) in
      record {
        files = half_files catalog middle.hand.text before now heard.writes;
        faults = marks.never_falls;
        marks = marks_go count one.text before now replies kept from close mine others;
        marked = λ since stayed are.
            marked_go catalog texts count one.text since before.calls now.calls replies kept stayed calls
            (λ place written at stands_at. awaited_accepted in_order catalog texts journal one is place written at stands_at) called others are;
        half = λ settled. subst (λ (side : ℕ). ChangesOnly (half_begin catalog side) (half_end catalog side) before now) (ap (λ (n : ℕ). n % 2) hand ∙ other_half count one.text (behind settled)) heard.writes;
        unmarked = λ settled. others (count + 1) (omega arith) (λ (e : count + 1 ≡ one.text). (let b : one.text ≡ count + 2 = behind settled in omega (arith, e, b)));
      }

  pub move_tells : MoveTells catalog texts count before now replies kept settled_next
  move_tells = by (asked_in (heard_in catalog texts journal).awaits) refl
    where
      by : (asked : Option NumberedAsk) → asked_in (heard_in catalog texts journal).awaits ≡ asked → MoveTells catalog texts count before now replies kept settled_next
      by None e = tells_none e
      by (Some one) e = tells_some one e

-- ---- the texts that were told, after one more move

pub going_on : EndedTextsStay → ReasonsStay → TextsAreDecided → (plan : Plan) (pages_told : Bool) (catalog : Catalog) (texts : List (List ℕ)) (journal more : Journal) (since : SessionSide) (sink : Handed) (before now : Device) (pool after : Pool) (top : ℕ) (pump later : Pump) (left : List (List ℕ)) (count : ℕ) (counts : Counts) (replies new : Replies) (settled : Bool)
    → (going : IsGoing plan pages_told catalog texts journal since sink before pool pump left count counts replies) → (want_of pump ≡ want_is.Closed → ⊥) → top ≤ count + 2 → top ≤ length texts
    → ((text : ℕ) → is_settled_in catalog texts journal text ≡ false → top ≤ text)
    → MoveTells catalog texts count before now replies new settled
    → IsKept pages_told now after catalog (heard_in catalog texts (journal ++ more)) (count + 1) top new
    → IsGoing plan pages_told catalog texts (journal ++ more) since sink now after later left count counts new
going_on stay reasons decided plan pages_told catalog texts journal more since sink before now pool after top pump later left count counts replies new settled going opened close within onward tells kept = record {
  top = top;
  telling = record {
    left_are = going.telling.left_are;
    kept = kept;
    near = close;
    within = within;
    pages = files_on catalog since.flash before now going.telling.pages tells.files;
    calls = still_no_fall last_count since.flash.calls before.calls now.calls going.telling.calls calls;
    called = λ e. rose_before last_count since.flash.calls before.calls now.calls (going.telling.called e) calls;
    damage_called = λ e. rose_before last_count since.flash.calls before.calls now.calls (going.telling.damage_called e) calls;
    faults = still_no_fall last_count since.flash.faults before.faults now.faults going.telling.faults (no_fall last_count before.faults now.faults tells.faults);
    marked = tells.marked since.flash.calls going.telling.calls going.telling.marked;
    prints = going.telling.prints;
    damaged = going.telling.damaged;
    read = read_later since.flash.calls since.flash.calls before now (omega arith) tells.files.gave plan pages_told catalog texts going.telling.reasons.counted.kept.met.damages going.telling.read;
    reasons = record {
      reasons = going.telling.reasons.reasons;
      as_many = going.telling.reasons.as_many;
      each = λ place reason e.
          let is = going.telling.reasons.each place reason e in
          record {
            written = is.written;
            stands = is.stands;
            is_reason = reason_still catalog texts journal (journal ++ more) (suc place) is.written
                (stay catalog texts journal more (suc place) (settled_at place (slice_get_within going.telling.reasons.reasons place reason e))).ends reason is.is_reason;
          };
      counted = record {
        kept = going.telling.reasons.counted.kept;
        faults = tells.marks.blamed going.telling.reasons.reasons since.flash.faults going.telling.reasons.counted.faults;
      };
    };
    lines = record {
      lines = going.telling.lines.lines;
      as_many = going.telling.lines.as_many;
      each = λ place reason one e f.
          let has = going.telling.lines.each place reason one e f in
          let is = going.telling.reasons.each place reason e in
          let over_then = settled_at place (slice_get_within going.telling.reasons.reasons place reason e) in
          record {
            written = has.written;
            stands = has.stands;
            lines_are = lines_still decided catalog texts journal (journal ++ more) place has.written is.written has.stands is.stands over_then
                (stay catalog texts journal more (suc place) over_then).ends reason one is.is_reason has.lines_are;
          };
      handed_on = going.telling.lines.handed_on;
    };
    answers = λ database knows.
        let are = going.telling.answers database knows in
        record {
          lines = are.lines;
          as_many = are.as_many;
          each = λ place reason one e f.
              let has = are.each place reason one e f in
              record {
                written = has.written;
                stands = has.stands;
                lines_are = reasons catalog (hidden_of catalog.schema database) texts journal more place has.written one reason
                    (settled_at place (slice_get_within going.telling.reasons.reasons place reason e)) has.stands has.lines_are;
              };
          handed_on = are.handed_on;
        };
    same = λ database knows. going.telling.same database knows;
    are_told = going.telling.are_told;
  };
  settled = λ still text from upto. (stay catalog texts journal more text (going.settled opened text from upto)).settled;
  onward = λ text un. onward text (unsettled_before stay catalog texts journal more text un);
}
  where
    calls : min before.calls last_count ≤ now.calls
    calls = no_fall last_count before.calls now.calls tells.files.never_falls

    settled_at : (place : ℕ) → place < length going.telling.reasons.reasons → is_settled_in catalog texts journal (suc place) ≡ true
    settled_at place within =
        let many : length going.telling.reasons.reasons ≡ count = going.telling.reasons.as_many in
        going.settled opened (suc place) (omega arith) (omega (arith, many, within))

-- ---- the text that is told, after one more move: its asks came to the same, and its half and its buffers stay

pub spares_telling : (catalog : Catalog) (side : ℕ) (before now : Device) (pool after : Pool) (lease : ℕ) (telling : Telling) → side < 2 → ChangesOnly (half_begin catalog (1 - side)) (half_end catalog (1 - side)) before now → ChangesPage pool after lease → IsOutAlone (lines.leases_of telling) pool lease
    → Spares catalog side before now pool after (lines.leases_of telling)
spares_telling catalog side before now pool after lease telling less half changes alone = record {
  side_is = less;
  device = half;
  out = change_keeps_out changes;
  buffers = λ i within. change_elsewhere changes (apart i within);
}
  where
    apart : (i : ℕ) → i < length (lines.leases_of telling) → get_or (lines.leases_of telling) i 0 ≢ lease
    apart i within e = other_apart pool (lines.leases_of telling) lease i 0 within alone.out (sym e)

pub alone_kept : (leases : List ℕ) (lease : ℕ) (pool more : Pool) → KeepsOut pool more → IsOutAlone leases pool lease → IsOutAlone leases more lease
alone_kept leases lease pool more keeps alone =
    let same = others_kept leases keeps in
    let size : length more.pages ≡ length pool.pages = keeps.size in
    let enough : 8 ≤ length pool.pages = alone.enough in
    let within : lease < length pool.pages = alone.within in
    record {
      enough = omega (arith, size, enough);
      within = omega (arith, size, within);
      out = subst (λ (out : List Bool). get_or out lease false ≡ true) (sym same) alone.out;
      free = subst (λ (out : List Bool). count_by not out + 2 ≡ length more.pages) (sym same) (alone.free ∙ sym size);
    }

pub running_on : EndedTextsStay → TextsAreDecided → (plan : Plan) (pages_told : Bool) (catalog : Catalog) (texts : List (List ℕ)) (journal more : Journal) (place : ℕ) (since : Device) (sink : Handed) (before now : SessionSide) (pool after : Pool) (old new : Replies) (telling : Telling)
    → TellingIsSpared telling → before.sink ≡ now.sink
    → ((is_settled_in catalog texts journal (place + 1) ≡ true) → Spares catalog ((place + 1) % 2) before.flash now.flash pool after (lines.leases_of telling))
    → ((is_settled_in catalog texts journal (place + 1) ≡ true) → is_lost new (place + 1) ≡ is_lost old (place + 1))
    → IsRunning plan pages_told catalog texts journal place since sink before pool old telling → IsRunning plan pages_told catalog texts (journal ++ more) place since sink now after new telling
running_on stay decided plan pages_told catalog texts journal more place since sink before now pool after old new telling spared same_sink spares unmarked running = record {
  start = running.start;
  half = running.half;
  taken = record {
    number = taken.number;
    written = taken.written;
    stands = taken.stands;
    came = λ other written query e stands accepted.
        settled_outcome catalog texts (journal ++ more) (suc other) query (decided catalog texts (journal ++ more) other written query stands accepted)
        (subst (λ (n : ℕ). is_settled_in catalog texts (journal ++ more) n ≡ true) e still.settled);
    is_state = sym (subst (λ (n : ℕ). state_of (asked_of catalog.schema texts) n (standing_after catalog (asked_of catalog.schema texts) (journal ++ more)) ≡ state_is.Done) number
        (done_still stay decided catalog texts journal more place taken.written running.query taken.stands running.accepted was_done));
    given = λ done is_told.
        subst (λ (given : List Reply). AreRepliesOf running.start.page catalog taken.written running.half given) (sym still.replied) (taken.given done is_told);
    files = taken.files;
    under_way = subst (λ (s : Handed). IsUnderWay plan pages_told catalog ((place + 1) % 2) taken.written state_is.Done false running.half running.start now.flash sink s after telling) same_sink
        (spared plan pages_told catalog ((place + 1) % 2) before.flash now.flash pool after (spares settled) taken.written state_is.Done false running.half running.start sink before.sink taken.under_way);
  };
  query = running.query;
  accepted = running.accepted;
  unmarked = unmarked settled ∙ running.unmarked;
}
  where
    taken : IsTaken plan pages_told catalog texts journal place state_is.Done false running.half since (record { sink = sink; flash = running.start }) before pool telling
    taken = running.taken

    number : suc place ≡ place + 1
    number = omega arith

    done_now : state_of (asked_of catalog.schema texts) (place + 1) (standing_after catalog (asked_of catalog.schema texts) journal) ≡ state_is.Done
    done_now = sym taken.is_state

    was_done : state_of (asked_of catalog.schema texts) (suc place) (standing_after catalog (asked_of catalog.schema texts) journal) ≡ state_is.Done
    was_done = subst (λ (n : ℕ). state_of (asked_of catalog.schema texts) n (standing_after catalog (asked_of catalog.schema texts) journal) ≡ state_is.Done) (sym number) done_now

    settled : is_settled_in catalog texts journal (place + 1) ≡ true
    settled = (done_so catalog texts journal (place + 1) done_now).1

    still : StaysSettledIn catalog texts (place + 1) journal (journal ++ more)
    still = stay catalog texts journal more (place + 1) settled

-- the last text whose reply was begun, after the reply to the ask that is awaited was
last_now : (asked : Option NumberedAsk) (last top count : ℕ) → ((one : NumberedAsk) → asked ≡ Some one → last ≡ one.text) → (asked ≡ None → last ≡ top)
    → ((one : NumberedAsk) → asked ≡ Some one → one.text ≤ count + 2) → top ≤ count + 2 → last ≤ count + 2
last_now None last top count some none near close = (let is : last ≡ top = none refl in omega (arith, is, close))
last_now (Some one) last top count some none near close = (let is : last ≡ one.text = some one refl in let within : one.text ≤ count + 2 = near one refl in omega (arith, is, within))

last_within : (asked : Option NumberedAsk) (last top most : ℕ) → ((one : NumberedAsk) → asked ≡ Some one → last ≡ one.text) → (asked ≡ None → last ≡ top)
    → ((one : NumberedAsk) → asked ≡ Some one → one.text ≤ most) → top ≤ most → last ≤ most
last_within None last top most some none near close = (let is : last ≡ top = none refl in omega (arith, is, close))
last_within (Some one) last top most some none near close = (let is : last ≡ one.text = some one refl in let within : one.text ≤ most = near one refl in omega (arith, is, within))

last_onward : (asked : Option NumberedAsk) (last top text : ℕ) → ((one : NumberedAsk) → asked ≡ Some one → last ≡ one.text) → (asked ≡ None → last ≡ top)
    → ((one : NumberedAsk) → asked ≡ Some one → one.text ≤ text) → top ≤ text → last ≤ text
last_onward None last top text some none onward close = (let is : last ≡ top = none refl in omega (arith, is, close))
last_onward (Some one) last top text some none onward close = (let is : last ≡ one.text = some one refl in let within : one.text ≤ text = onward one refl in omega (arith, is, within))

-- what the laws say of texts whose asks are over
pub record TextLaws : Type 0 where
  pub stay : EndedTextsStay
  pub reasons : ReasonsStay
  pub decided : TextsAreDecided
  pub over : OverTextsAreSettled
  pub order : TextsComeInOrder
  pub outcomes : TextsHaveOutcomes
  pub in_order : AsksAreAwaitedInOrder

-- one more move: what is heard of the reply at hand
module _ (laws : TextLaws) (fit : RepliesFit) (schema_text : List ℕ) (catalog : Catalog) (meant : MeansSchema schema_text catalog.schema)
    (goes : Journal → Type 0) (plan : Plan) (pages_told : Bool) (at : List ℕ) (texts : List (List ℕ)) (journal : Journal) (since : SessionSide) (sink : Handed) (before : Device) (pool : Pool) (old new : Pump) (page : List ℕ) (teller : Teller) (replies middle : Replies) (event : Event)
    (opened : want_of old ≡ want_is.Closed → ⊥) (near : IsNear catalog texts journal (teller.count + 2))
    (amid : IsAmid plan pages_told catalog texts journal since (record { sink = sink; flash = before }) pool old teller replies)
    (awaits : Fits catalog (heard_in catalog texts journal)
    → ((asked : NumberedAsk) → asked_in (heard_in catalog texts journal).awaits ≡ Some asked → IsWithin (teller.count + 1) amid.going.top asked.text)
    → IsKept pages_told before pool catalog (heard_in catalog texts journal) (teller.count + 1) amid.going.top replies
    → IsAwaiting pages_told before pool catalog (heard_in catalog texts journal) (teller.count + 1) amid.going.top replies middle)
    (moved : Moved goes catalog at (asked_of catalog.schema texts) journal event new page) where
  pub fits : Fits catalog (heard_in catalog texts journal)
  fits = fit catalog schema_text texts (taken journal) meant

  pub within_of : (asked : NumberedAsk) → asked_in (heard_in catalog texts journal).awaits ≡ Some asked → IsWithin (teller.count + 1) amid.going.top asked.text
  within_of = within_now laws.over laws.order laws.decided laws.outcomes catalog at texts journal old plan pages_told since amid.sink before pool (texts_left teller) teller.count teller.counts replies amid.going opened near

  pub awaiting_of : IsAwaiting pages_told before pool catalog (heard_in catalog texts journal) (teller.count + 1) amid.going.top replies middle
  awaiting_of = awaits fits within_of amid.going.telling.kept

  pub hearing : Hears pages_told before pool catalog page event (heard_in catalog texts journal) (heard_in catalog texts (journal ++ moved.made ∷ [])) (teller.count + 1) awaiting_of.last middle
  hearing = record {
    kept = awaiting_of.kept;
    tells = moved.tells;
    same_ask = moved.same_ask;
    greeting = moved.greeting;
    fits = fits;
    begun = λ asked is. ((awaiting_of.awaited asked is).begun, (within_of asked is).from);
  }

  pub some_heard : IsSomeHeard pages_told before pool page event middle
  some_heard = record {
    catalog = catalog;
    before = heard_in catalog texts journal;
    after = heard_in catalog texts (journal ++ moved.made ∷ []);
    low = teller.count + 1;
    top = awaiting_of.last;
    hears = hearing;
  }

-- and what it makes of the texts
module _ (laws : TextLaws) (fit : RepliesFit) (schema_text : List ℕ) (catalog : Catalog) (meant : MeansSchema schema_text catalog.schema)
    (goes : Journal → Type 0) (plan : Plan) (pages_told : Bool) (at : List ℕ) (texts : List (List ℕ)) (journal : Journal) (since : SessionSide) (sink : Handed) (before : Device) (pool : Pool) (old new : Pump) (page : List ℕ) (teller : Teller) (replies middle : Replies) (event : Event)
    (opened : want_of old ≡ want_is.Closed → ⊥) (near : IsNear catalog texts journal (teller.count + 2))
    (amid : IsAmid plan pages_told catalog texts journal since (record { sink = sink; flash = before }) pool old teller replies)
    (awaits : Fits catalog (heard_in catalog texts journal)
    → ((asked : NumberedAsk) → asked_in (heard_in catalog texts journal).awaits ≡ Some asked → IsWithin (teller.count + 1) amid.going.top asked.text)
    → IsKept pages_told before pool catalog (heard_in catalog texts journal) (teller.count + 1) amid.going.top replies
    → IsAwaiting pages_told before pool catalog (heard_in catalog texts journal) (teller.count + 1) amid.going.top replies middle)
    (moved : Moved goes catalog at (asked_of catalog.schema texts) journal event new page)
    (now : Device) (after : Pool) (kept : Replies) (spool : middle.spool ≡ replies.spool)
    (hears : (later : Heard) (low top : ℕ) → Hears pages_told before pool catalog page event (heard_in catalog texts journal) later low top middle
    → IsKept pages_told now after catalog later low top kept × HasHeard catalog low middle.hand.text before now middle kept)
    (marks : MarkTells before now (is_lost middle middle.hand.text) (is_lost kept middle.hand.text))
    (still : middle.is_open ≡ false → now ≡ before) (still_spool : middle.is_open ≡ false → kept.spool ≡ middle.spool) where
  abbrev more : Journal
  more = moved.made ∷ []

  abbrev now_heard : Heard
  now_heard = heard_in catalog texts journal

  abbrev within : (asked : NumberedAsk) → asked_in (heard_in catalog texts journal).awaits ≡ Some asked → IsWithin (teller.count + 1) amid.going.top asked.text
  within = within_of laws fit schema_text catalog meant goes plan pages_told at texts journal since sink before pool old new page teller replies middle event opened near amid awaits moved

  abbrev awaiting : IsAwaiting pages_told before pool catalog (heard_in catalog texts journal) (teller.count + 1) amid.going.top replies middle
  awaiting = awaiting_of laws fit schema_text catalog meant goes plan pages_told at texts journal since sink before pool old new page teller replies middle event opened near amid awaits moved

  both : IsKept pages_told now after catalog (heard_in catalog texts (journal ++ moved.made ∷ [])) (teller.count + 1) awaiting.last kept × HasHeard catalog (teller.count + 1) middle.hand.text before now middle kept
  both =
      hears (heard_in catalog texts (journal ++ moved.made ∷ [])) (teller.count + 1) awaiting.last
      (hearing laws fit schema_text catalog meant goes plan pages_told at texts journal since sink before pool old new page teller replies middle event opened near amid awaits moved)

  pub tells_now : MoveTells catalog texts teller.count before now replies kept (is_settled_in catalog texts journal (teller.count + 1))
  tells_now =
      move_tells laws.over laws.order laws.decided laws.in_order catalog texts journal teller.count amid.going.top awaiting.last plan pages_told before now pool replies middle kept near within awaiting.awaited awaiting.kept spool both.1 marks still still_spool

  pub written_now : WritesHalf catalog middle.hand.text before now
  written_now = both.1.writes

  going_now : IsGoing plan pages_told catalog texts (journal ++ moved.made ∷ []) since amid.sink now after new (texts_left teller) teller.count teller.counts kept
  going_now =
      going_on laws.stay laws.reasons laws.decided plan pages_told catalog texts journal more since amid.sink before now pool after awaiting.last old new (texts_left teller) teller.count teller.counts replies kept (is_settled_in catalog texts journal (teller.count + 1))
      amid.going opened
      (last_now (asked_in now_heard.awaits) awaiting.last amid.going.top teller.count (λ one e. (awaiting.awaited one e).last_is) awaiting.still near amid.going.telling.near)
      (last_within (asked_in now_heard.awaits) awaiting.last amid.going.top (length texts) (λ one e. (awaiting.awaited one e).last_is) awaiting.still (λ one e. (laws.order catalog texts (taken journal) one e).within) amid.going.telling.within)
      (λ text un. last_onward (asked_in now_heard.awaits) awaiting.last amid.going.top text (λ one e. (awaiting.awaited one e).last_is) awaiting.still
      (λ one e. not_above text one.text (λ less. true_is_not_false (sym (before_settled laws.over laws.order laws.decided catalog texts journal one e text less) ∙ un))) (amid.going.onward text un))
      tells_now both.0

  -- the text that is told may go on
  pub can_run : (one : Plan) → RunIsSpared teller.running → ChangesPage pool after (lease_of replies) → CanRun one pages_told catalog before pool (teller.count + 1) (lease_of replies) teller.running → CanRun one pages_told catalog now after (teller.count + 1) (lease_of replies) teller.running
  can_run one spared changes run = by teller.running spared amid.running run
    where
      alone : (leases : List ℕ) → IsOutAlone leases pool (lease_of replies) → IsOutAlone leases after (lease_of replies)
      alone leases is = alone_kept leases (lease_of replies) pool after (change_keeps_out changes) is

      by : (running : Option Telling) → RunIsSpared running → Runs plan pages_told catalog texts journal teller.count since.flash amid.sink (record { sink = sink; flash = before }) pool replies running
          → CanRun one pages_told catalog before pool (teller.count + 1) (lease_of replies) running → CanRun one pages_told catalog now after (teller.count + 1) (lease_of replies) running
      by None spared runs run = record { can = tt; alone = alone [] run.alone }
      by (Some telling) spared runs run = record {
        can = spared.0 one pages_told catalog ((teller.count + 1) % 2) before now pool after
            (spares_telling catalog ((teller.count + 1) % 2) before now pool after (lease_of replies) telling (half_below (teller.count + 1)) (tells_now.half (done_so catalog texts journal (teller.count + 1) (sym runs.taken.is_state)).1) changes run.alone)
            run.can;
        alone = alone (lines.leases_of telling) run.alone;
      }

  pub moved_amid : RunIsSpared teller.running → ChangesPage pool after (lease_of replies) → CanRun plan pages_told catalog before pool (teller.count + 1) (lease_of replies) teller.running
      → IsAmid plan pages_told catalog texts (journal ++ moved.made ∷ []) since (record { sink = sink; flash = now }) after new teller kept
  moved_amid spared changes run = record {
    plan = amid.plan;
    sink = amid.sink;
    going = going_now;
    running = by teller.running spared amid.running run;
  }
    where
      by : (running : Option Telling) → RunIsSpared running → Runs plan pages_told catalog texts journal teller.count since.flash amid.sink (record { sink = sink; flash = before }) pool replies running
          → CanRun plan pages_told catalog before pool (teller.count + 1) (lease_of replies) running
          → Runs plan pages_told catalog texts (journal ++ moved.made ∷ []) teller.count since.flash amid.sink (record { sink = sink; flash = now }) after kept running
      by None spared runs run = runs
      by (Some telling) spared runs run =
          running_on laws.stay laws.decided plan pages_told catalog texts journal more teller.count since.flash amid.sink (record { sink = sink; flash = before }) (record { sink = sink; flash = now }) pool after replies kept telling spared.1 refl
          (λ settled. spares_telling catalog ((teller.count + 1) % 2) before now pool after (lease_of replies) telling (half_below (teller.count + 1)) (tells_now.half settled) changes run.alone)
          tells_now.unmarked runs

-- the reply to an ask is begun in the same buffer
pub same_lease : (old new : Replies) → new.spool ≡ old.spool → lease_of new ≡ lease_of old
same_lease old new same = ap (λ (s : Spool). s.hand.writer.lease) same

pub is_some_map : {X Y : Type 0} (f : X → Y) (x : Option X) → is_some (option_map f x) ≡ is_some x
is_some_map f None = refl
is_some_map f (Some x) = refl

pub heard_none : (catalog : Catalog) (texts : List (List ℕ)) → heard_in catalog texts [] ≡ none_heard catalog
unfolding hear_all
heard_none catalog texts = refl
