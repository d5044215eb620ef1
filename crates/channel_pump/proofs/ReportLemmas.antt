-- What is wanted is the next move, and each answer leads to where the journal leaves the key.
use Rattle.std.proofs.Common.{◌≡◌, ℕ, ◌+◌, Bool, true, false, not, ◌||◌, Option, Some, None, List, [], ◌∷◌, ◌++◌, length, if◌then◌else◌, refl, ap, sym, ◌∙◌, subst, arith}
use Rattle.std.proofs.Common.{replicate}
use Rattle.std.specs.List.{slice_get}
use Rattle.std.proofs.lemmas.List.{get_or-replicate}
use Rattle.std.proofs.lemmas.Option.{slice_get_past}
use Rattle.channel_pump.specs.Marks.{AreMarked}
use Rattle.ghost_model.specs.forms.Catalog.{catalog_bytes}
use Rattle.ghost_model.specs.core.Channel as channel
use Rattle.ghost_model.specs.core.Channel.{Catalog, Move, Journal}
use Rattle.ghost_model.specs.forms.Frames.{frame_bytes}
use Rattle.ghost_model.specs.core.Asks.{NumberedAsk}
use Rattle.ghost_model.specs.core.Moves.{piece_of, sent_by}
use Rattle.ghost_model.specs.core.NextMove as next
use Rattle.ghost_model.specs.core.NextMove.{Awaits, AwaitsCatalog, AwaitsNothing, Standing, move_from, next_with, standing_after, take_or_close, send_or, is_close, is_stop, bytes_missing}
use Rattle.channel_pump.specs.Forms.{Form}
use Rattle.channel_pump.specs.declared.state.Pump.{Pump}
use Rattle.channel_pump.specs.declared.state.Phase.{Phase}
use Rattle.channel_pump.specs.declared.state.Phase.TheVariants.{Greeting, Reply, Over}
use Rattle.channel_pump.specs.declared.state.Stage.{Stage}
use Rattle.channel_pump.specs.declared.state.Stage.TheVariants.{Dialling, Sending, Taking, Closing, Closed}
use Rattle.channel_pump.specs.declared.state.Outgoing.{Outgoing}
use Rattle.channel_pump.specs.declared.state.Outgoing.TheVariants.{Hello, Bye}
use Rattle.channel_pump.specs.declared.state.Cause.{Cause}
use Rattle.channel_pump.specs.declared.state.Cause.TheVariants.{Finished, Link, Protocol}
use Rattle.channel_pump.specs.declared.state.Want.{Want}
use Rattle.channel_pump.specs.declared.state.Want.TheVariants as want
use Rattle.channel_pump.specs.Asked.{AreAsked}
use Rattle.channel_pump.specs.State.{IsLeft, is_bye, can_fail, is_take, IsAfter, IsAwaiting, IsFresh, IsStage, IsDialling, IsSending, IsTaking, IsFinished, IsCause, want_of, want_at, frame_due, is_over, is_opened, is_closed, has_stopped, has_broken, entry}
use Rattle.channel_pump.proofs.JournalLemmas.{goes, goes_to, left_more, left_of, hear_none}

-- the next move, over plain values
abbrev picked : (opened closed ends : Bool) (dial other : Move) → Option Move
picked opened closed ends dial other =
    if not opened then Some dial else if closed then None else if ends then Some channel.Close else Some other

pick_dial : (opened closed ends : Bool) (dial other : Move) → opened ≡ false → picked opened closed ends dial other ≡ Some dial
pick_dial true closed ends dial other e = cc
pick_dial false closed ends dial other e = refl

pick_none : (opened closed ends : Bool) (dial other : Move) → opened ≡ true → closed ≡ true → picked opened closed ends dial other ≡ None
pick_none true true ends dial other e f = refl
pick_none true false ends dial other e f = cc
pick_none false closed ends dial other e f = cc

pick_close : (opened closed ends : Bool) (dial other : Move) → opened ≡ true → closed ≡ false → ends ≡ true → picked opened closed ends dial other ≡ Some channel.Close
pick_close true false true dial other e f g = refl
pick_close true false false dial other e f g = cc
pick_close true true ends dial other e f g = cc
pick_close false closed ends dial other e f g = cc

pick_other : (opened closed ends : Bool) (dial other : Move) → opened ≡ true → closed ≡ false → ends ≡ false → picked opened closed ends dial other ≡ Some other
pick_other true false false dial other e f g = refl
pick_other true false true dial other e f g = cc
pick_other true true ends dial other e f g = cc
pick_other false closed ends dial other e f g = cc

or_first : (a b : Bool) → a ≡ true → (a || b) ≡ true
or_first true b e = refl
or_first false b e = cc

or_second : (a b : Bool) → b ≡ true → (a || b) ≡ true
or_second true true e = refl
or_second false true e = refl
or_second a false e = cc

or_none : (a b : Bool) → a ≡ false → b ≡ false → (a || b) ≡ false
or_none false false e f = refl
or_none true b e f = cc
or_none false true e f = cc

module _ (catalog : Catalog) (at : List ℕ) where
  abbrev other : Standing → Move
  other l = send_or (take_or_close catalog l.heard l.heard.awaits) (slice_get l.heard.due l.sent)

  next_dial : (l : Standing) → l.opened ≡ false → move_from catalog at l ≡ Some (channel.Dial at)
  next_dial l e = pick_dial l.opened l.closed (l.stopped || l.heard.broken) (channel.Dial at) (other l) e

  next_none : (l : Standing) → l.opened ≡ true → l.closed ≡ true → move_from catalog at l ≡ None
  next_none l e f = pick_none l.opened l.closed (l.stopped || l.heard.broken) (channel.Dial at) (other l) e f

  next_close : (l : Standing) → l.opened ≡ true → l.closed ≡ false → (l.stopped || l.heard.broken) ≡ true → move_from catalog at l ≡ Some channel.Close
  next_close l e f g = pick_close l.opened l.closed (l.stopped || l.heard.broken) (channel.Dial at) (other l) e f g

  next_other : (l : Standing) → l.opened ≡ true → l.closed ≡ false → l.stopped ≡ false → l.heard.broken ≡ false
      → move_from catalog at l ≡ Some (other l)
  next_other l e f g h = pick_other l.opened l.closed (l.stopped || l.heard.broken) (channel.Dial at) (other l) e f (or_none l.stopped l.heard.broken g h)

  other_send : (l : Standing) (frame : channel.Frame) → slice_get l.heard.due l.sent ≡ Some frame → other l ≡ channel.Send (frame_bytes frame)
  other_send l frame e = ap (send_or (take_or_close catalog l.heard l.heard.awaits)) e

  other_rest : (l : Standing) → length l.heard.due ≡ l.sent → other l ≡ take_or_close catalog l.heard l.heard.awaits
  other_rest l e = ap (send_or (take_or_close catalog l.heard l.heard.awaits)) (slice_get_past l.heard.due l.sent (omega (arith, e)))

-- where the pump awaits a frame, bytes are taken, and where it awaits none it closes
rest_take : (catalog : Catalog) (p : Pump) (phase : Phase) (awaits : Awaits) (heard : next.Heard) → IsAwaiting catalog p phase awaits → is_over phase ≡ false
    → take_or_close catalog heard awaits ≡ channel.Take (bytes_missing (next.verdict catalog heard.awaits heard.part))
rest_take catalog p phase (AwaitsCatalog bytes) heard h e = refl
rest_take catalog p phase (next.AwaitsReply _ _ _ _ _) heard h e = refl
rest_take catalog p Greeting AwaitsNothing heard h e = absurd h
rest_take catalog p Reply AwaitsNothing heard h e = absurd h
rest_take catalog p Over AwaitsNothing heard h e = cc

rest_close : (catalog : Catalog) (p : Pump) (phase : Phase) (awaits : Awaits) (heard : next.Heard) → IsAwaiting catalog p phase awaits → is_over phase ≡ true
    → take_or_close catalog heard awaits ≡ channel.Close
rest_close catalog p phase AwaitsNothing heard h e = refl
rest_close catalog p Greeting (AwaitsCatalog bytes) heard h e = cc
rest_close catalog p Greeting (next.AwaitsReply _ _ _ _ _) heard h e = absurd h
rest_close catalog p Reply (AwaitsCatalog bytes) heard h e = absurd h
rest_close catalog p Reply (next.AwaitsReply _ _ _ _ _) heard h e = cc
rest_close catalog p Over (AwaitsCatalog bytes) heard h e = absurd h
rest_close catalog p Over (next.AwaitsReply _ _ _ _ _) heard h e = absurd h

-- the next move at each stage
module _ (catalog : Catalog) (at : List ℕ) (asks : List NumberedAsk) (p : Pump) (l : Standing) where
  pub wants_dial : IsLeft catalog asks p l → p.stage ≡ Dialling → move_from catalog at l ≡ Some (channel.Dial at)
  wants_dial h s = next_dial catalog at l (h.opened ∙ ap is_opened s)

  pub wants_send : (outgoing : Outgoing) → IsLeft catalog asks p l → p.stage ≡ Sending outgoing
      → move_from catalog at l ≡ Some (channel.Send (frame_bytes (frame_due p outgoing)))
  wants_send outgoing h s =
      let stage : IsSending p outgoing l = subst (λ (x : Stage). IsStage catalog p l x) s h.stage in
      next_other catalog at l (h.opened ∙ ap is_opened s) (h.closed ∙ ap is_closed s) (h.stopped ∙ ap has_stopped s) (h.broken ∙ ap has_broken s)
      ∙ ap (λ (m : Move). Some m) (other_send catalog at l (frame_due p outgoing) stage.frame)

  pub wants_take : IsLeft catalog asks p l → p.stage ≡ Taking → move_from catalog at l ≡ Some (channel.Take p.lacks)
  wants_take h s =
      let stage : IsTaking catalog p l = subst (λ (x : Stage). IsStage catalog p l x) s h.stage in
      next_other catalog at l (h.opened ∙ ap is_opened s) (h.closed ∙ ap is_closed s) (h.stopped ∙ ap has_stopped s) (h.broken ∙ ap has_broken s)
      ∙ ap (λ (m : Move). Some m) (other_rest catalog at l stage.sent
      ∙ (rest_take catalog p p.phase l.heard.awaits l.heard h.awaits stage.phase
      ∙ ap (λ (v : next.Verdict). channel.Take (bytes_missing v)) stage.lacks))

  close_by : (cause : Cause) → IsLeft catalog asks p l → p.stage ≡ Closing cause → move_from catalog at l ≡ Some channel.Close
  close_by Finished h s =
      let stage : IsFinished p l = subst (λ (x : Stage). IsStage catalog p l x) s h.stage in
      next_other catalog at l (h.opened ∙ ap is_opened s) (h.closed ∙ ap is_closed s) (h.stopped ∙ ap has_stopped s) (h.broken ∙ ap has_broken s)
      ∙ ap (λ (m : Move). Some m) (other_rest catalog at l stage.sent ∙ rest_close catalog p p.phase l.heard.awaits l.heard h.awaits stage.phase)
  close_by Link h s =
      next_close catalog at l (h.opened ∙ ap is_opened s) (h.closed ∙ ap is_closed s) (or_first l.stopped l.heard.broken (h.stopped ∙ ap has_stopped s))
  close_by (Protocol kind place) h s =
      next_close catalog at l (h.opened ∙ ap is_opened s) (h.closed ∙ ap is_closed s) (or_second l.stopped l.heard.broken (h.broken ∙ ap has_broken s))

  pub wants_close : (cause : Cause) → IsLeft catalog asks p l → p.stage ≡ Closing cause → move_from catalog at l ≡ Some channel.Close
  wants_close cause h s = close_by cause h s

  pub wants_none : (cause : Cause) → IsLeft catalog asks p l → p.stage ≡ Closed cause → move_from catalog at l ≡ None
  wants_none cause h s = next_none catalog at l (h.opened ∙ ap is_opened s) (h.closed ∙ ap is_closed s)

-- two pumps await the same, and send the same
pub record Same (p q : Pump) : Type 0 where
  pub phase : q.phase ≡ p.phase
  pub missing : q.missing ≡ p.missing
  pub rest : q.rest ≡ p.rest
  pub serial : q.serial ≡ p.serial
  pub count : q.count ≡ p.count
  pub last : q.last ≡ p.last
  pub refused : q.refused ≡ p.refused

same_awaiting : (catalog : Catalog) (p q : Pump) (phase : Phase) (awaits : Awaits) → Same p q → IsAwaiting catalog p phase awaits → IsAwaiting catalog q phase awaits
same_awaiting catalog p q Greeting (AwaitsCatalog bytes) s h = s.missing ∙ h
same_awaiting catalog p q Greeting (next.AwaitsReply _ _ _ _ _) s h = absurd h
same_awaiting catalog p q Greeting AwaitsNothing s h = absurd h
same_awaiting catalog p q Reply (AwaitsCatalog bytes) s h = absurd h
same_awaiting catalog p q Reply (next.AwaitsReply asked serial later count last) s h = record {
  asks = subst (λ (forms : List Form). AreAsked catalog forms (asked ∷ later)) (sym s.rest) h.asks;
  its_serial = s.serial ∙ h.its_serial;
  its_count = s.count ∙ h.its_count;
  its_last = s.last ∙ h.its_last;
}
same_awaiting catalog p q Reply AwaitsNothing s h = absurd h
same_awaiting catalog p q Over (AwaitsCatalog bytes) s h = absurd h
same_awaiting catalog p q Over (next.AwaitsReply _ _ _ _ _) s h = absurd h
same_awaiting catalog p q Over AwaitsNothing s h = h

same_fresh : (catalog : Catalog) (asks : List NumberedAsk) (p q : Pump) (phase : Phase) → Same p q → IsFresh catalog asks p phase → IsFresh catalog asks q phase
same_fresh catalog asks p q Greeting s h = record {
  all = subst (λ (forms : List Form). AreAsked catalog forms asks) (sym s.rest) h.all;
  serial = s.serial ∙ h.serial;
}
same_fresh catalog asks p q Reply s h = h
same_fresh catalog asks p q Over s h = h

pub awaits_on : (catalog : Catalog) (p q : Pump) (awaits : Awaits) → Same p q → IsAwaiting catalog p p.phase awaits → IsAwaiting catalog q q.phase awaits
awaits_on catalog p q awaits s h = subst (λ (x : Phase). IsAwaiting catalog q x awaits) (sym s.phase) (same_awaiting catalog p q p.phase awaits s h)

pub fresh_on : (catalog : Catalog) (asks : List NumberedAsk) (p q : Pump) → Same p q → IsFresh catalog asks p p.phase → IsFresh catalog asks q q.phase
fresh_on catalog asks p q s h = subst (λ (x : Phase). IsFresh catalog asks q x) (sym s.phase) (same_fresh catalog asks p q p.phase s h)

pub marks_on : (p q : Pump) (ended : List next.EndedAsk) → Same p q → AreMarked p.refused ended → AreMarked q.refused ended
marks_on p q ended s h = subst (λ (x : List Bool). AreMarked x ended) (sym s.refused) h

-- an answer with no bytes leaves what was heard
pub silent : (catalog : Catalog) (asks : List NumberedAsk) (l : Standing) (e : channel.Entry) → piece_of e.answer ≡ [] → goes catalog asks l e ≡ goes_to l e l.heard
silent catalog asks l e none =
    ap (λ (bytes : List ℕ). goes_to l e (next.hear_all catalog asks l.heard bytes)) none
    ∙ ap (goes_to l e) (hear_none catalog asks l.heard)

after_silent : (catalog : Catalog) (asks : List NumberedAsk) (journal : Journal) (q : Pump) (e : channel.Entry) → piece_of e.answer ≡ []
    → IsLeft catalog asks q (goes_to (standing_after catalog asks journal) e (standing_after catalog asks journal).heard) → IsAfter catalog asks (journal ++ e ∷ []) q
after_silent catalog asks journal q e none h =
    subst (λ (l : Standing). IsLeft catalog asks q l)
    (sym (left_more catalog asks journal e ∙ silent catalog asks (standing_after catalog asks journal) e none)) h

same_some : (m n : Move) → Some m ≡ Some n → m ≡ n
same_some m n e = cc

pub or_nothing : (a b : Bool) → a ≡ b → (a || false) ≡ b
or_nothing true b e = e
or_nothing false b e = e

pub plus_nothing : (n m : ℕ) → n ≡ m → n + 0 ≡ m
plus_nothing n m e = omega (arith, e)

going_stage : (p : Pump) (s : Stage) → can_fail (want_at p s) ≡ true → is_closed s ≡ false
going_stage p Dialling e = refl
going_stage p (Sending _) e = refl
going_stage p Taking e = refl
going_stage p (Closing _) e = cc
going_stage p (Closed _) e = cc

unbroken_stage : (p : Pump) (s : Stage) → can_fail (want_at p s) ≡ true → has_broken s ≡ false
unbroken_stage p Dialling e = refl
unbroken_stage p (Sending _) e = refl
unbroken_stage p Taking e = refl
unbroken_stage p (Closing _) e = cc
unbroken_stage p (Closed _) e = cc

going_move : (catalog : Catalog) (at : List ℕ) (asks : List NumberedAsk) (p : Pump) (l : Standing) (move : Move) (s : Stage) → p.stage ≡ s → can_fail (want_at p s) ≡ true
    → IsLeft catalog asks p l → move_from catalog at l ≡ Some move → is_close move ≡ false
going_move catalog at asks p l move Dialling s e h n = ap is_close (same_some _ _ (sym n ∙ wants_dial catalog at asks p l h s))
going_move catalog at asks p l move (Sending outgoing) s e h n = ap is_close (same_some _ _ (sym n ∙ wants_send catalog at asks p l outgoing h s))
going_move catalog at asks p l move Taking s e h n = ap is_close (same_some _ _ (sym n ∙ wants_take catalog at asks p l h s))
going_move catalog at asks p l move (Closing _) s e h n = cc
going_move catalog at asks p l move (Closed _) s e h n = cc

-- the link ended or failed
pub stopped_after : (catalog : Catalog) (at : List ℕ) (asks : List NumberedAsk) (journal : Journal) (p q : Pump) (move : Move) (answer : channel.Answer)
    → Same p q → q.before ≡ p.before → q.stage ≡ Closing Link → can_fail (want_of p) ≡ true → piece_of answer ≡ [] → is_stop answer ≡ true
    → IsAfter catalog asks journal p → next_with catalog at asks journal ≡ Some move → IsAfter catalog asks (journal ++ entry move answer ∷ []) q
stopped_after catalog at asks journal p q move answer s before stage going none stop h n =
    let l : Standing = standing_after catalog asks journal in
    after_silent catalog asks journal q (entry move answer) none (record {
      opened = sym (ap is_opened stage);
      closed = or_none l.closed (is_close move) (h.closed ∙ going_stage p p.stage going) (going_move catalog at asks p l move p.stage refl going h n) ∙ sym (ap is_closed stage);
      stopped = or_second l.stopped (is_stop answer) stop ∙ sym (ap has_stopped stage);
      broken = h.broken ∙ (unbroken_stage p p.stage going ∙ sym (ap has_broken stage));
      awaits = awaits_on catalog p q l.heard.awaits s h.awaits;
      fresh = fresh_on catalog asks p q s h.fresh;
      before = before ∙ h.before;
      refused = marks_on p q l.heard.ended s h.refused;
      stage = subst (λ (x : Stage). IsStage catalog q (goes_to l (entry move answer) l.heard) x) (sym stage) tt;
    })

-- a move that was made
made_as : (catalog : Catalog) (at : List ℕ) (asks : List NumberedAsk) (journal : Journal) (q : Pump) (move known : Move)
    → next_with catalog at asks journal ≡ Some move → next_with catalog at asks journal ≡ Some known
    → IsAfter catalog asks (journal ++ entry known channel.Made ∷ []) q → IsAfter catalog asks (journal ++ entry move channel.Made ∷ []) q
made_as catalog at asks journal q move known n k h =
    subst (λ (m : Move). IsAfter catalog asks (journal ++ entry m channel.Made ∷ []) q) (same_some known move (sym k ∙ n)) h

made_on : (catalog : Catalog) (asks : List NumberedAsk) (journal : Journal) (p q : Pump) (was is : Stage) (move : Move) → Same p q → q.before ≡ p.before → p.stage ≡ was → q.stage ≡ is
    → is_opened is ≡ true → (is_closed was || is_close move) ≡ is_closed is → has_stopped was ≡ has_stopped is → has_broken was ≡ has_broken is
    → IsAfter catalog asks journal p → IsStage catalog q (goes_to (standing_after catalog asks journal) (entry move channel.Made) (standing_after catalog asks journal).heard) is
    → IsAfter catalog asks (journal ++ entry move channel.Made ∷ []) q
made_on catalog asks journal p q was is move s before old new opened closed stopped broken h stage =
    let l : Standing = standing_after catalog asks journal in
    after_silent catalog asks journal q (entry move channel.Made) refl (record {
      opened = sym (ap is_opened new ∙ opened);
      closed = ap (λ (b : Bool). b || is_close move) (h.closed ∙ ap is_closed old) ∙ (closed ∙ sym (ap is_closed new));
      stopped = or_nothing l.stopped (has_stopped q.stage) (h.stopped ∙ (ap has_stopped old ∙ (stopped ∙ sym (ap has_stopped new))));
      broken = h.broken ∙ (ap has_broken old ∙ (broken ∙ sym (ap has_broken new)));
      awaits = awaits_on catalog p q l.heard.awaits s h.awaits;
      fresh = fresh_on catalog asks p q s h.fresh;
      before = before ∙ h.before;
      refused = marks_on p q l.heard.ended s h.refused;
      stage = subst (λ (x : Stage). IsStage catalog q (goes_to l (entry move channel.Made) l.heard) x) (sym new) stage;
    })

pub dialled : (catalog : Catalog) (at : List ℕ) (asks : List NumberedAsk) (journal : Journal) (p q : Pump) (move : Move)
    → Same p q → q.before ≡ p.before → q.generation ≡ p.generation → q.stage ≡ Sending Hello → p.stage ≡ Dialling
    → IsAfter catalog asks journal p → next_with catalog at asks journal ≡ Some move → IsAfter catalog asks (journal ++ entry move channel.Made ∷ []) q
dialled catalog at asks journal p q move s before generation stage was h n =
    let l : Standing = standing_after catalog asks journal in
    let first : IsDialling p l = subst (λ (x : Stage). IsStage catalog p l x) was h.stage in
    made_as catalog at asks journal q move (channel.Dial at) n (wants_dial catalog at asks p l h was)
    (made_on catalog asks journal p q Dialling (Sending Hello) (channel.Dial at) s before was stage refl refl refl refl h (record {
      phase = ap is_over s.phase ∙ first.phase;
      frame = first_due l.heard.due (l.sent + 0) p q generation first.due (plus_nothing l.sent 0 first.sent);
      last = ap length first.due ∙ sym (ap (λ (k : ℕ). k + 1) (plus_nothing l.sent 0 first.sent));
      part = first.part;
    }))
  where
    first_due : (due : List channel.Frame) (sent : ℕ) (p q : Pump) → q.generation ≡ p.generation → due ≡ channel.HelloFrame p.generation ∷ [] → sent ≡ 0
        → slice_get due sent ≡ Some (channel.HelloFrame q.generation)
    first_due due sent p q g d e =
        ap (λ (k : ℕ). slice_get due k) e ∙ (ap (λ (x : List channel.Frame). slice_get x 0) d ∙ ap (λ (k : ℕ). Some (channel.HelloFrame k)) (sym g))

pub sent_last : (catalog : Catalog) (at : List ℕ) (asks : List NumberedAsk) (journal : Journal) (p q : Pump) (move : Move)
    → Same p q → q.before ≡ p.before → q.stage ≡ Closing Finished → p.stage ≡ Sending Bye
    → IsAfter catalog asks journal p → next_with catalog at asks journal ≡ Some move → IsAfter catalog asks (journal ++ entry move channel.Made ∷ []) q
sent_last catalog at asks journal p q move s before stage was h n =
    let l : Standing = standing_after catalog asks journal in
    let sending : IsSending p Bye l = subst (λ (x : Stage). IsStage catalog p l x) was h.stage in
    made_as catalog at asks journal q move (channel.Send (frame_bytes channel.ByeFrame)) n (wants_send catalog at asks p l Bye h was)
    (made_on catalog asks journal p q (Sending Bye) (Closing Finished) (channel.Send (frame_bytes channel.ByeFrame)) s before was stage refl refl refl refl h
    (record { phase = ap is_over s.phase ∙ sending.phase; sent = sending.last }))

pub sent_other : (catalog : Catalog) (at : List ℕ) (asks : List NumberedAsk) (journal : Journal) (p q : Pump) (outgoing : Outgoing) (move : Move)
    → Same p q → q.before ≡ p.before → q.stage ≡ Taking → q.have ≡ 0 → q.lacks ≡ 8 → p.stage ≡ Sending outgoing → is_bye outgoing ≡ false
    → IsAfter catalog asks journal p → next_with catalog at asks journal ≡ Some move → IsAfter catalog asks (journal ++ entry move channel.Made ∷ []) q
sent_other catalog at asks journal p q outgoing move s before stage have lacking was more h n =
    let l : Standing = standing_after catalog asks journal in
    let sending : IsSending p outgoing l = subst (λ (x : Stage). IsStage catalog p l x) was h.stage in
    let due : Move = channel.Send (frame_bytes (frame_due p outgoing)) in
    made_as catalog at asks journal q move due n (wants_send catalog at asks p l outgoing h was)
    (made_on catalog asks journal p q (Sending outgoing) Taking due s before was stage refl refl refl refl h (record {
      phase = ap is_over s.phase ∙ (sending.phase ∙ more);
      sent = sending.last;
      have = ap length sending.part ∙ sym have;
      lacks = ap (λ (part : List ℕ). next.verdict catalog l.heard.awaits part) sending.part ∙ ap (λ (k : ℕ). next.Lacking k) (sym lacking);
    }))

same_cause : (p q : Pump) (l : Standing) (e : channel.Entry) (cause : Cause) → Same p q → length (sent_by e.move) ≡ 0 → IsCause p l cause → IsCause q (goes_to l e l.heard) cause
same_cause p q l e Finished s none h = record { phase = ap is_over s.phase ∙ h.phase; sent = h.sent ∙ sym (ap (λ (k : ℕ). l.sent + k) none ∙ plus_nothing l.sent l.sent refl) }
same_cause p q l e Link s none h = h
same_cause p q l e (Protocol kind place) s none h = h

pub closed_after : (catalog : Catalog) (at : List ℕ) (asks : List NumberedAsk) (journal : Journal) (p q : Pump) (cause : Cause) (move : Move)
    → Same p q → q.before ≡ p.before → q.stage ≡ Closed cause → p.stage ≡ Closing cause
    → IsAfter catalog asks journal p → next_with catalog at asks journal ≡ Some move → IsAfter catalog asks (journal ++ entry move channel.Made ∷ []) q
closed_after catalog at asks journal p q cause move s before stage was h n =
    let l : Standing = standing_after catalog asks journal in
    let ending : IsCause p l cause = subst (λ (x : Stage). IsStage catalog p l x) was h.stage in
    made_as catalog at asks journal q move channel.Close n (wants_close catalog at asks p l cause h was)
    (made_on catalog asks journal p q (Closing cause) (Closed cause) channel.Close s before was stage refl refl refl refl h
    (same_cause p q l (entry channel.Close channel.Made) cause s refl ending))

-- before the first move
pub begun : (catalog : Catalog) (asks : List NumberedAsk) (q : Pump) → q.generation ≡ catalog.generation → q.missing ≡ catalog_bytes catalog → AreAsked catalog q.rest asks
    → q.serial ≡ 1 → q.before ≡ 0 → q.phase ≡ Greeting → q.stage ≡ Dialling → q.refused ≡ replicate 65 false → IsAfter catalog asks [] q
begun catalog asks q generation missing rest serial before phase stage refused =
    subst (λ (h : next.Heard). IsLeft catalog asks q (left_of false false false 0 h)) (sym (hear_none catalog asks (next.at_first catalog)))
    (record {
      opened = sym (ap is_opened stage);
      closed = sym (ap is_closed stage);
      stopped = sym (ap has_stopped stage);
      broken = sym (ap has_broken stage);
      awaits = subst (λ (x : Phase). IsAwaiting catalog q x (next.at_first catalog).awaits) (sym phase) missing;
      fresh = subst (λ (x : Phase). IsFresh catalog asks q x) (sym phase)
          (record { all = rest; serial = serial });
      before = before;
      refused = subst (λ (x : List Bool). AreMarked x []) (sym refused) (record { size = refl; each = λ text h. get_or-replicate 65 text false false (omega (arith, h)) });
      stage = subst (λ (x : Stage). IsStage catalog q (left_of false false false 0 (next.at_first catalog)) x) (sym stage) (record {
        phase = ap is_over phase;
        sent = refl;
        due = ap (λ (n : ℕ). channel.HelloFrame n ∷ []) (sym generation);
        part = refl;
      });
    })

pub same_fields : (p q : Pump) → q.phase ≡ p.phase → q.missing ≡ p.missing → q.rest ≡ p.rest → q.serial ≡ p.serial → q.count ≡ p.count → q.last ≡ p.last → q.refused ≡ p.refused → Same p q
same_fields p q phase missing rest serial count last refused =
    record { phase = phase; missing = missing; rest = rest; serial = serial; count = count; last = last; refused = refused }

pub take_can_fail : (w : Want) → is_take w ≡ true → can_fail w ≡ true
take_can_fail want.Dial e = refl
take_can_fail want.Send e = refl
take_can_fail (want.Take _ _) e = refl
take_can_fail want.Close e = cc
take_can_fail want.Closed e = cc
