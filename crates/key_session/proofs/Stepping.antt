-- A session from step to step.
use Rattle.std.proofs.Common.{◌≡◌, ◌≤◌, ◌<◌, ℕ, arith, Bool, true, false, List, [], ◌∷◌, ◌++◌, length, refl, sym, ap, ◌∙◌, subst, append-nil, Option, Some, None}
use Rattle.std.specs.Prelude.{◌^◌, min, is_some}
use Rattle.ghost_model.specs.core.Causes.{last_count}
use Rattle.ghost_model.specs.core.Channel.{Catalog, Journal}
use Rattle.ghost_model.specs.core.Asks.{asked_of, NumberedAsk}
use Rattle.edge_traits.specs.Devices.{Device}
use Rattle.page_pool.specs.Pools.{Pool}
use Rattle.ghost_model.specs.forms.Layout.{need}
use Rattle.ghost_model.specs.laws.SchemaTrees.{IsTree}
use Rattle.key_exec.specs.Laws.{KnowledgeIsEnough, DamageIsNeverMet}
use Rattle.flash_layout.specs.Ranges.{Suffices}
use Rattle.leakless_plan.specs.declared.plan.Plan.{Plan}
use Rattle.key_session.specs.Kept.{with_lease}
use Rattle.key_session.specs.Laws.{LaterTextsAreUnmarked}
use Rattle.channel_pump.specs.declared.state.Pump.{Pump}
use Rattle.channel_pump.specs.Sessions as moves
use Rattle.session_laws.specs.TextCases.{TextsAreDecided}
use Rattle.session_laws.specs.TextEnds.{heard_in, is_settled_in, OverTextsAreSettled}
use Rattle.key_session.specs.declared.replies.Replies.{Replies}
use Rattle.key_exec.specs.declared.telling.Telling.{Telling}
use Rattle.key_session.specs.Order.{is_closed}
use Rattle.key_session.specs.Refusing.{first_code}
use Rattle.key_session.specs.TextOrder.{TextsComeInOrder}
use Rattle.key_session.specs.Telling.{SessionSide, texts_left}
use Rattle.key_session.specs.Going.{IsAmid, IsGoing, IsLive, WasAmid, WentOn, due_in, due_by_rule}
use Rattle.key_session.specs.FewCalls.{CallsSoFar, HasCome, StepsTakeFewCalls}
use Rattle.key_session.specs.declared.pace.Due.{Due}
use Rattle.key_session.specs.declared.pace.Due.TheVariants as due
use Rattle.key_session.specs.declared.session.Session.{Session}
use Rattle.key_session.specs.declared.teller.Teller.{Teller}
use Rattle.ghost_model.specs.core.NextMove.{standing_after}
use Rattle.ghost_model.specs.forms.Catalog.{IsCatalog}
use Rattle.channel_pump.specs.State.{IsAfter, want_of}
use Rattle.channel_pump.specs.declared.state.Want.TheVariants as want_is
use Rattle.channel_pump.specs.Entries.{WentBy}
use Rattle.session_laws.specs.HonestSessions.{HonestSessionsAreSmooth, HonestLinesArePrinted}
use Rattle.key_session.specs.Running.{status_with}
use Rattle.key_session.specs.Telling.{session_side}
use Rattle.key_session.specs.declared.tally.Tally.{Tally}
use Rattle.key_session.proofs.Attending.{empty, due_rule, true_is_not_false}
use Rattle.key_session.proofs.HonestRuns.{answers_all}
use Rattle.key_session.proofs.Running.{IsLast, has_run}
use Rattle.key_session.proofs.Settings.{setting}
use Rattle.key_session.proofs.Beginning.{none_taken}
use Rattle.key_session.proofs.Leasing.{none_running, spoken, was_amid}

-- what a step needs stays where the pages of the device do
pub still_suffices : (catalog : Catalog) (before now : Device) → now.page_count ≡ before.page_count → Suffices catalog before → Suffices catalog now
still_suffices catalog before now same suffices = record {
  pages = (let pages : need catalog ≤ before.page_count = suffices.pages in omega (arith, pages, same));
  small = (let small : before.page_count < 2 ^ 32 = suffices.small in omega (arith, small, same));
}

-- what is due of a session is due by the rule
pub by_rule : OverTextsAreSettled → TextsComeInOrder → TextsAreDecided → (catalog : Catalog) (texts : List (List ℕ)) (journal : Journal) (session : Session)
    → (0 < session.pace.owed → is_some (moves.asked_in (heard_in catalog texts journal).awaits) ≡ true)
    → ((want_of session.pump ≡ want_is.Closed → ⊥) → (text : ℕ) → 1 ≤ text → text ≤ session.teller.count → is_settled_in catalog texts journal text ≡ true)
    → due_in catalog (asked_of catalog.schema texts) journal session ≡ due_by_rule catalog texts journal session
by_rule over order decided catalog texts journal session owed settled =
    due_rule over order decided catalog texts journal session.teller.count session.pace.owed owed (is_closed (want_of session.pump)) (is_some session.teller.ahead)
    (λ opened. settled (λ shut. true_is_not_false (sym (ap is_closed shut) ∙ opened)))

pub by_rule_live : OverTextsAreSettled → TextsComeInOrder → TextsAreDecided → (plan : Plan) (told : Bool) (texts : List (List ℕ)) (journal : Journal) (since now : SessionSide) (pool : Pool) (session : Session)
    → IsLive plan told texts journal since now pool session → due_in session.cat.now (asked_of session.cat.now.schema texts) journal session ≡ due_by_rule session.cat.now texts journal session
by_rule_live over order decided plan told texts journal since now pool session live =
    by_rule over order decided session.cat.now texts journal session live.owed (λ opened. (was_amid plan told texts journal since now pool session live).amid.going.settled opened)

pub come_on : StepsTakeFewCalls → (before_it made later : Journal → Type 0) (plan : Plan) (told : Bool) (texts : List (List ℕ)) (since before now : SessionSide) (pool more : Pool) (old new : Session)
    → ((first then : Journal) → before_it first → made then → later (first ++ then))
    → ((journal : Journal) → IsLive plan told texts journal since before pool old → WentOn (due_by_rule old.cat.now texts journal old) made plan told texts journal since before now more old new)
    → HasCome before_it plan told texts since before pool old → HasCome later plan told texts since now more new
come_on few before_it made later plan told texts since before now pool more old new joins steps come = by (due_by_rule old.cat.now texts come.journal old) (steps come.journal come.live)
  where
    low : (now : ℕ) → min before.flash.faults last_count ≤ now → min since.flash.faults last_count ≤ now
    low now stays = let faults = come.faults in omega (arith, faults, stays)

    by : (d : Due) → WentOn d made plan told texts come.journal since before now more old new → HasCome later plan told texts since now more new
    by due.Move moved = record {
      journal = come.journal ++ moved.made ∷ [];
      went = joins come.journal (moved.made ∷ []) come.went moved.went;
      live = moved.live;
      faults = low now.flash.faults moved.counts.faults;
      few_calls = λ is_pre.
          subst (λ (catalog : Catalog). CallsSoFar told catalog texts (come.journal ++ moved.made ∷ []) since now new.teller) (sym moved.cat)
          (few.moved told texts come.journal since before now more old new (record {
            made = moved.made;
            went = tt;
            event = moved.event;
            page = moved.page;
            tells = moved.tells;
            paced = moved.paced;
            few = moved.few;
            fills = moved.fills;
            counts = moved.counts;
            cat = moved.cat;
            teller = moved.teller;
            live = subst (λ (by : Plan). IsLive by told texts (come.journal ++ moved.made ∷ []) since now more new) is_pre moved.live;
          }) (come.few_calls is_pre));
    }
    by due.Slice sliced = record {
      journal = come.journal;
      went = subst later (append-nil come.journal) (joins come.journal [] come.went sliced.went);
      live = sliced.live;
      faults = low now.flash.faults sliced.counts.faults;
      few_calls = λ is_pre.
          subst (λ (catalog : Catalog). CallsSoFar told catalog texts come.journal since now new.teller) (sym sliced.cat)
          (few.sliced told texts come.journal since before now more old new come.faults (record {
            went = tt;
            sliced = sliced.sliced;
            spends = λ same. sliced.spends is_pre;
            counts = sliced.counts;
            cat = sliced.cat;
            live = subst (λ (by : Plan). IsLive by told texts come.journal since now more new) is_pre sliced.live;
          }) (come.few_calls is_pre));
    }
    by due.Ended none = absurd none

-- the live session over the catalog and the address that it was begun with
pub record IsLiveAt (plan : Plan) (told : Bool) (cat : Catalog) (at : List ℕ) (texts : List (List ℕ)) (journal : Journal) (since now : SessionSide) (pool : Pool) (session : Session) : Type 0 where
  pub page : List ℕ
  pub channel : moves.IsLive cat at (asked_of cat.schema texts) journal session.pump page
  pub was : WasAmid plan told cat texts journal since now session.pump session.teller session.replies
  pub refusal_is : session.refusal ≡ first_code (heard_in cat texts journal).ended

pub live_at : (plan : Plan) (told : Bool) (cat : Catalog) (at : List ℕ) (texts : List (List ℕ)) (journal : Journal) (since now : SessionSide) (pool : Pool) (session : Session) → session.cat.now ≡ cat → session.at.now ≡ at
    → IsLive plan told texts journal since now pool session → IsLiveAt plan told cat at texts journal since now pool session
live_at plan told cat at texts journal since now pool session cat_is at_is live =
    subst (λ (c : Catalog). IsLiveAt plan told c at texts journal since now pool session) cat_is
    (subst (λ (a : List ℕ). IsLiveAt plan told session.cat.now a texts journal since now pool session) at_is
    (let one = spoken told plan texts journal since now pool session live in record { page = one.0; channel = one.1; was = was_amid plan told texts journal since now pool session live; refusal_is = live.refusal_is }))

-- where no text is left all were told
pub all_over : (plan : Plan) (told : Bool) (cat : Catalog) (texts : List (List ℕ)) (journal : Journal) (since now : SessionSide) (pool : Pool) (pump : Pump) (teller : Teller) (kept : Replies) → is_some teller.ahead ≡ false
    → IsAmid plan told cat texts journal since now pool pump teller kept → IsGoing plan told cat texts journal since now.sink now.flash pool pump (texts_left teller) teller.count teller.counts kept
all_over plan told cat texts journal since now pool pump teller kept none amid = none_taken plan told cat texts journal since now pool pump teller kept (none_running teller none) amid

pub cat_still : (old new : Session) → new.cat ≡ old.cat → new.cat.now ≡ old.cat.now
cat_still old new e = rw e refl

pub at_still : (old new : Session) → new.at ≡ old.at → new.at.now ≡ old.at.now
at_still old new e = rw e refl

running_none : (running : Option Telling) → is_some running ≡ false → running ≡ None
running_none None e = refl
running_none (Some telling) e = cc

-- the whole session, once nothing is due
pub last_of : StepsTakeFewCalls → LaterTextsAreUnmarked → KnowledgeIsEnough → DamageIsNeverMet → HonestSessionsAreSmooth → HonestLinesArePrinted → moves.ClosedIsFinished → (cat : Catalog) → IsCatalog cat → IsTree cat.schema → (texts : List (List ℕ)) → length texts ≤ 64
    → (went : Journal → Type 0) (link_before link_now : ℕ) (plan : Plan) (told : Bool) (at : List ℕ) (since : SessionSide) (faults : ℕ) (written : Option (List ℕ)) (device : Device) (pool : Pool) (session : Session) (tally : Tally)
    → session.cat.now ≡ cat → session.at.now ≡ at
    → HasCome (WentBy went link_before link_now) plan told texts since (session_side session.teller.printer.failed faults written device) pool session
    → want_of session.pump ≡ want_is.Closed → is_some session.teller.ahead ≡ false
    → tally.texts ≡ session.teller.count → tally.refused ≡ session.teller.counts.refused → tally.faulted ≡ session.teller.counts.faulted → tally.told ≡ session.teller.counts.told
    → ((catalog : Catalog) (asks : List NumberedAsk) (journal : Journal) → IsAfter catalog asks journal session.pump → session.refusal ≡ first_code (standing_after catalog asks journal).heard.ended
    → tally.status ≡ status_with session.teller.printer.failed (standing_after catalog asks journal) session.teller.counts.by_flash session.teller.counts.damage)
    → IsLast went link_before link_now plan told cat at texts since (session_side session.teller.printer.failed faults written device) tally
last_of ends later enough never smooth prints closed cat proper tree texts few went link_before link_now plan told at since faults written device pool session tally cat_is at_is come shut none many refused faulted told_is status =
    let now = session_side session.teller.printer.failed faults written device in
    let live = live_at plan told cat at texts come.journal since now pool session cat_is at_is come.live in
    let finished = closed cat at (asked_of cat.schema texts) come.journal session.pump live.page live.channel shut in
    let kept = with_lease live.was.lease session.replies in
    let going = all_over plan told cat texts come.journal since now live.was.had session.pump session.teller kept none live.was.amid in
    has_run later never went link_before link_now plan told cat at texts since now session.pump live.page come.journal going.top live.was.had (texts_left session.teller) session.teller.count session.teller.counts kept tally
    tree come.went live.channel finished going.telling (empty _ session.teller.ahead session.teller.texts none (session.teller.last none)) many refused faulted told_is
    (status cat (asked_of cat.schema texts) come.journal live.channel.after live.refusal_is)
    (λ is_proper is_finished tells. answers_all smooth prints enough plan told cat at texts come.journal since now tally proper tree few is_proper is_finished tells)
    (λ is_proper is_finished count. ends.ended plan told cat at texts come.journal since now session.teller (setting cat texts proper few) is_proper is_finished count (running_none session.teller.running (none_running session.teller none))
    (λ is_pre. subst (λ (catalog : Catalog). CallsSoFar told catalog texts come.journal since now session.teller) cat_is (come.few_calls is_pre)))
