-- A piece of the stream leads to where the journal leaves the key.
use Rattle.std.proofs.Common.{◌≡◌, ℕ, zero, suc, ◌+◌, ◌-◌, ◌^◌, ◌<◌, ◌≤◌, min, Bool, true, false, ◌&&◌, ◌==◌, nat_le, ◌||◌, Some, List, [], ◌∷◌, ◌++◌, length, take, drop, flat_map, refl, ap, sym, ◌∙◌, subst, arith, append-nil}
use Rattle.std.specs.List.{slice_get}
use Rattle.std.proofs.Math.Seq.{take-add}
use Rattle.std.proofs.lemmas.List.{length-append, length-drop, length-take-le, drop-take, take-take}
use Rattle.std.proofs.lemmas.Grind.{flat_map-append}
use Rattle.std.proofs.lemmas.Bool.Decides.{nat_tests}
use Rattle.ghost_model.specs.core.Channel as channel
use Rattle.ghost_model.specs.core.Channel.{Catalog, Move, Journal}
use Rattle.ghost_model.specs.forms.Frames as frames
use Rattle.ghost_model.specs.core.Asks.{NumberedAsk}
use Rattle.ghost_model.specs.core.NextMove as next
use Rattle.ghost_model.specs.core.NextMove.{Awaits, Heard, Standing, standing_after, heard, hear_all, heard_as, bytes_before}
use Rattle.channel_pump.specs.Forms.{Form}
use Rattle.channel_pump.specs.declared.rows.Tally.{Tally}
use Rattle.channel_pump.specs.declared.state.Pump.{Pump}
use Rattle.channel_pump.specs.declared.state.Phase.{Phase}
use Rattle.channel_pump.specs.declared.state.Phase.TheVariants.{Greeting, Reply, Over}
use Rattle.channel_pump.specs.declared.state.Stage.{Stage}
use Rattle.channel_pump.specs.declared.state.Stage.TheVariants.{Dialling, Sending, Taking, Closing, Closed}
use Rattle.channel_pump.specs.declared.state.Cause.TheVariants.{Protocol}
use Rattle.channel_pump.specs.declared.state.Event.TheVariants as event
use Rattle.channel_pump.specs.Asked.{form_kinds, width_of}
use Rattle.channel_pump.specs.Here.{verdict_here, header_at, reply_header, Stands}
use Rattle.channel_pump.specs.State.{IsLeft, IsAfter, IsFresh, IsStage, IsTaking, IsTurned, IsGoing, IsTakenBy, want_at, want_of, frame_due, due_at, is_over, is_opened, is_closed, has_stopped, has_broken, counted, taken_entry, Keeps}
use Rattle.channel_pump.specs.Marks.{AreMarked}
use Rattle.channel_pump.specs.Turning.{event_after, event_at, event_of}
use Rattle.channel_pump.proofs.JournalLemmas.{goes_to, left_more}
use Rattle.channel_pump.proofs.CuttingLemmas.{cut, exact}
use Rattle.channel_pump.proofs.PlaceLemmas.{verdict_is, rows_at_are}
use Rattle.channel_pump.proofs.TurningLemmas.{payload_length, frame_of_kind}
use Rattle.channel_pump.proofs.ReportLemmas.{Same, marks_on, awaits_on, fresh_on, or_nothing, plus_nothing}

page_part : (have n : ℕ) (page part : List ℕ) → take (length part) page ≡ part → length part ≡ have
    → take (have + n) page ≡ part ++ take n (drop have page)
page_part have n page part keeps e =
    take-add have n page ∙ ap (λ (x : List ℕ). x ++ take n (drop have page)) (ap (λ (k : ℕ). take k page) (sym e) ∙ keeps)

pub taking_stage : (p : Pump) (n : ℕ) (s : Stage) → IsTakenBy n (want_at p s) → s ≡ Taking
taking_stage p n Dialling h = absurd h
taking_stage p n (Sending _) h = absurd h
taking_stage p n Taking h = refl
taking_stage p n (Closing _) h = absurd h
taking_stage p n (Closed _) h = absurd h

pub taking_fits : (p : Pump) (n : ℕ) (s : Stage) → IsTakenBy n (want_at p s) → n ≤ p.lacks
taking_fits p n Dialling h = absurd h
taking_fits p n (Sending _) h = absurd h
taking_fits p n Taking h = h
taking_fits p n (Closing _) h = absurd h
taking_fits p n (Closed _) h = absurd h

module _ (catalog : Catalog) (asks : List NumberedAsk) (journal : Journal) (p : Pump) (page : List ℕ) (n : ℕ) where
  abbrev part : List ℕ
  part = take (p.have + n) page

  abbrev piece : List ℕ
  piece = take n (drop p.have page)

  -- the facts at a take
  pub record At : Type 0 where
    pub after : IsAfter catalog asks journal p
    pub keeps : Keeps catalog asks journal page
    pub some : 0 < n
    pub taken_by : IsTakenBy n (want_of p)
    pub room : 2048 ≤ length page

  stage_of : At → p.stage ≡ Taking
  stage_of h = taking_stage p n p.stage h.taken_by

  is_taking : At → IsTaking catalog p (standing_after catalog asks journal)
  is_taking h = subst (λ (x : Stage). IsStage catalog p (standing_after catalog asks journal) x) (stage_of h) h.after.stage

  fits_of : At → n ≤ p.lacks
  fits_of h = taking_fits p n p.stage h.taken_by

  enough : At → p.have + n ≤ length page
  enough h = let fits : n ≤ p.lacks = fits_of h in omega (arith, fits, p.bounded, h.room)

  pub part_is : At → part ≡ (standing_after catalog asks journal).heard.part ++ piece
  part_is h = page_part p.have n page (standing_after catalog asks journal).heard.part h.keeps (is_taking h).have

  pub part_length : At → length part ≡ p.have + n
  part_length h = length-take-le (p.have + n) page (enough h)

  piece_length : At → length piece ≡ n
  piece_length h =
      let room : p.have + n ≤ length page = enough h in
      length-take-le n (drop p.have page) (omega (arith, length-drop p.have page, room))

  unbroken : At → (standing_after catalog asks journal).heard.broken ≡ false
  unbroken h = h.after.broken ∙ ap has_broken (stage_of h)

  pub verdict_of : At → verdict_here p part ≡ next.verdict catalog (standing_after catalog asks journal).heard.awaits ((standing_after catalog asks journal).heard.part ++ piece)
  verdict_of h =
      verdict_is catalog p (standing_after catalog asks journal).heard.awaits part h.after.awaits
      ∙ ap (λ (x : List ℕ). next.verdict catalog (standing_after catalog asks journal).heard.awaits x) (part_is h)

  heard_is : At → hear_all catalog asks (standing_after catalog asks journal).heard piece ≡ heard_as catalog asks (standing_after catalog asks journal).heard part (verdict_here p part)
  heard_is h =
      let l : Standing = standing_after catalog asks journal in
      let size : length piece ≡ n = piece_length h in
      let fits : n ≤ p.lacks = fits_of h in
      cut catalog asks (standing_after catalog asks journal).heard piece p.lacks (unbroken h) (is_taking h).lacks (omega (arith, size, h.some)) (omega (arith, size, fits))
      ∙ (ap (λ (v : next.Verdict). heard_as catalog asks (standing_after catalog asks journal).heard ((standing_after catalog asks journal).heard.part ++ piece) v) (sym (verdict_of h))
      ∙ ap (λ (x : List ℕ). heard_as catalog asks (standing_after catalog asks journal).heard x (verdict_here p part)) (sym (part_is h)))

  pub left_is : At → (v : next.Verdict) → verdict_here p part ≡ v → standing_after catalog asks (journal ++ taken_entry p page n ∷ [])
      ≡ goes_to (standing_after catalog asks journal) (taken_entry p page n) (heard_as catalog asks (standing_after catalog asks journal).heard part v)
  left_is h v e =
      left_more catalog asks journal (taken_entry p page n)
      ∙ ap (goes_to (standing_after catalog asks journal) (taken_entry p page n))
      (heard_is h ∙ ap (λ (x : next.Verdict). heard_as catalog asks (standing_after catalog asks journal).heard part x) e)

  after_taken : (q : Pump) (v : next.Verdict) → At → verdict_here p part ≡ v
      → IsLeft catalog asks q (goes_to (standing_after catalog asks journal) (taken_entry p page n) (heard_as catalog asks (standing_after catalog asks journal).heard part v))
      → IsAfter catalog asks (journal ++ taken_entry p page n ∷ []) q
  after_taken q v h e l = subst (λ (x : Standing). IsLeft catalog asks q x) (sym (left_is h v e)) l

  keeps_taken : (v : next.Verdict) → At → verdict_here p part ≡ v
      → take (length (heard_as catalog asks (standing_after catalog asks journal).heard part v).part) page ≡ (heard_as catalog asks (standing_after catalog asks journal).heard part v).part
      → Keeps catalog asks (journal ++ taken_entry p page n ∷ []) page
  keeps_taken v h e k = subst (λ (x : Standing). take (length x.heard.part) page ≡ x.heard.part) (sym (left_is h v e)) k

  event_taken : (v : next.Verdict) → At → verdict_here p part ≡ v
      → event_after catalog (standing_after catalog asks journal).heard piece ≡ event_at catalog (standing_after catalog asks journal).heard part v
  event_taken v h e =
      ap (λ (x : next.Verdict). event_at catalog (standing_after catalog asks journal).heard ((standing_after catalog asks journal).heard.part ++ piece) x) (sym (verdict_of h) ∙ e)
      ∙ ap (λ (x : List ℕ). event_at catalog (standing_after catalog asks journal).heard x v) (sym (part_is h))

  not_stopped : At → ((standing_after catalog asks journal).stopped || false) ≡ false
  not_stopped h = or_nothing _ false (h.after.stopped ∙ ap has_stopped (stage_of h))

  not_closed : At → ((standing_after catalog asks journal).closed || false) ≡ false
  not_closed h = or_nothing _ false (h.after.closed ∙ ap is_closed (stage_of h))

  part_kept : At → take (length part) page ≡ part
  part_kept h = ap (λ (k : ℕ). take k page) (part_length h)

  -- the frame at hand is not whole
  pub part_after : (q : Pump) (missing : ℕ) → At → Same p q → q.before ≡ p.before → q.stage ≡ Taking → q.have ≡ p.have + n → q.lacks ≡ missing
      → verdict_here p part ≡ next.Lacking missing → IsAfter catalog asks (journal ++ taken_entry p page n ∷ []) q
  part_after q missing h s before stage have lacking e =
      let l : Standing = standing_after catalog asks journal in
      after_taken q (next.Lacking missing) h e (record {
        opened = sym (ap is_opened stage);
        closed = not_closed h ∙ sym (ap is_closed stage);
        stopped = not_stopped h ∙ sym (ap has_stopped stage);
        broken = unbroken h ∙ sym (ap has_broken stage);
        awaits = awaits_on catalog p q l.heard.awaits s h.after.awaits;
        fresh = fresh_on catalog asks p q s h.after.fresh;
        before = before ∙ h.after.before;
        refused = marks_on p q l.heard.ended s h.after.refused;
        stage = subst (λ (x : Stage). IsStage catalog q (goes_to l (taken_entry p page n) (record l.heard { part = part })) x) (sym stage) (record {
          phase = ap is_over s.phase ∙ (is_taking h).phase;
          sent = (is_taking h).sent ∙ sym (plus_nothing l.sent l.sent refl);
          have = part_length h ∙ sym have;
          lacks = sym (verdict_is catalog p l.heard.awaits part h.after.awaits) ∙ (e ∙ ap (λ (k : ℕ). next.Lacking k) (sym lacking));
        });
      })

  pub part_keeps : (missing : ℕ) → At → verdict_here p part ≡ next.Lacking missing → Keeps catalog asks (journal ++ taken_entry p page n ∷ []) page
  part_keeps missing h e = keeps_taken (next.Lacking missing) h e (part_kept h)

  pub part_event : (missing : ℕ) → At → verdict_here p part ≡ next.Lacking missing → event_after catalog (standing_after catalog asks journal).heard piece ≡ event.Part
  part_event missing h e = event_taken (next.Lacking missing) h e

  -- the frame at hand is invalid
  pub invalid_after : (q : Pump) (kind place : ℕ) → At → Same p q → q.before ≡ p.before → q.stage ≡ Closing (Protocol kind place) → kind ≡ frames.kind_in part → place ≡ p.before
      → verdict_here p part ≡ next.Invalid → IsAfter catalog asks (journal ++ taken_entry p page n ∷ []) q
  invalid_after q kind place h s before stage kind_is place_is e =
      let l : Standing = standing_after catalog asks journal in
      after_taken q next.Invalid h e (record {
        opened = sym (ap is_opened stage);
        closed = not_closed h ∙ sym (ap is_closed stage);
        stopped = not_stopped h ∙ sym (ap has_stopped stage);
        broken = sym (ap has_broken stage);
        awaits = awaits_on catalog p q l.heard.awaits s h.after.awaits;
        fresh = fresh_on catalog asks p q s h.after.fresh;
        before = before ∙ h.after.before;
        refused = marks_on p q l.heard.ended s h.after.refused;
        stage = subst (λ (x : Stage). IsStage catalog q (goes_to l (taken_entry p page n) (record l.heard { part = part; broken = true })) x) (sym stage)
            (record { its_kind = kind_is; its_place = place_is ∙ h.after.before });
      })

  pub invalid_keeps : At → verdict_here p part ≡ next.Invalid → Keeps catalog asks (journal ++ taken_entry p page n ∷ []) page
  invalid_keeps h e = keeps_taken next.Invalid h e (part_kept h)

  pub invalid_event : (kind place : ℕ) → At → kind ≡ frames.kind_in part → place ≡ p.before → verdict_here p part ≡ next.Invalid
      → event_after catalog (standing_after catalog asks journal).heard piece ≡ event.Invalid kind place
  invalid_event kind place h kind_is place_is e =
      event_taken next.Invalid h e
      ∙ (ap (λ (k : ℕ). event.Invalid k (counted (bytes_before (standing_after catalog asks journal).heard))) (sym kind_is)
      ∙ ap (λ (k : ℕ). event.Invalid kind k) (sym (place_is ∙ h.after.before)))

  -- the frame at hand is whole
  exact_length : At → 8 + frames.size_in part ≤ length part → length part ≡ 8 + frames.size_in part
  exact_length h whole =
      let size : length piece ≡ n = piece_length h in
      let fits : n ≤ p.lacks = fits_of h in
      subst (λ (x : List ℕ). 8 + frames.size_in x ≤ length x → length x ≡ 8 + frames.size_in x) (sym (part_is h))
      (exact catalog (standing_after catalog asks journal).heard.awaits (standing_after catalog asks journal).heard.part piece p.lacks (is_taking h).lacks (omega (arith, size, fits))) whole

  going_stage : (q : Pump) (turn : next.FrameOutcome) (s : Stage) → At → turn.due ≡ due_at q s → IsGoing q.phase s → q.have ≡ 0 → q.lacks ≡ 8
      → (h : Heard) → h.awaits ≡ turn.awaits → h.due ≡ (standing_after catalog asks journal).heard.due ++ turn.due → h.part ≡ []
      → IsStage catalog q (goes_to (standing_after catalog asks journal) (taken_entry p page n) h) s
  going_stage q turn Dialling at due going have lacking h aw d pt = absurd going
  going_stage q turn (Sending outgoing) at due going have lacking h aw d pt =
      let sent : ℕ = (standing_after catalog asks journal).sent in
      let before : List channel.Frame = (standing_after catalog asks journal).heard.due in
      let all : h.due ≡ before ++ frame_due q outgoing ∷ [] = d ∙ ap (λ (x : List channel.Frame). before ++ x) due in
      let at_end : sent + 0 ≡ length before = plus_nothing sent (length before) (sym (is_taking at).sent) in
      record {
        phase = going;
        frame = ap (λ (k : ℕ). slice_get h.due k) at_end ∙ (ap (λ (x : List channel.Frame). slice_get x (length before)) all ∙ last_got before (frame_due q outgoing));
        last = ap length all ∙ (length-append before (frame_due q outgoing ∷ []) ∙ ap (λ (k : ℕ). k + 1) (sym at_end));
        part = pt;
      }
    where
      last_got : (xs : List channel.Frame) (x : channel.Frame) → slice_get (xs ++ x ∷ []) (length xs) ≡ Some x
      last_got [] x = refl
      last_got (_ ∷ xs) x = last_got xs x
  going_stage q turn Taking at due going have lacking h aw d pt =
      let sent : ℕ = (standing_after catalog asks journal).sent in
      let before : List channel.Frame = (standing_after catalog asks journal).heard.due in
      record {
        phase = going;
        sent = ap length (d ∙ (ap (λ (x : List channel.Frame). before ++ x) due ∙ append-nil before)) ∙ ((is_taking at).sent ∙ sym (plus_nothing sent sent refl));
        have = ap length pt ∙ sym have;
        lacks = ap (λ (x : List ℕ). next.verdict catalog h.awaits x) pt ∙ ap (λ (k : ℕ). next.Lacking k) (sym lacking);
      }
  going_stage q turn (Closing _) at due going have lacking h aw d pt = absurd going
  going_stage q turn (Closed _) at due going have lacking h aw d pt = absurd going

  stage_bool : (q : Pump) (s : Stage) → IsGoing q.phase s → (is_opened s ≡ true) × (is_closed s ≡ false) × (has_stopped s ≡ false) × (has_broken s ≡ false)
  stage_bool q Dialling g = absurd g
  stage_bool q (Sending _) g = (refl, refl, refl, refl)
  stage_bool q Taking g = (refl, refl, refl, refl)
  stage_bool q (Closing _) g = absurd g
  stage_bool q (Closed _) g = absurd g

  more_bytes : (h : Heard) (frame : channel.Frame) (k before : ℕ) → length (frames.frame_bytes frame) ≡ k → before ≡ counted (bytes_before h)
      → min (before + k) (2 ^ 64 - 1) ≡ counted (length (flat_map frames.frame_bytes (h.frames ++ frame ∷ [])))
  more_bytes h frame k before e b =
      let all : length (flat_map frames.frame_bytes (h.frames ++ frame ∷ [])) ≡ bytes_before h + k =
      ap length (flat_map-append frames.frame_bytes h.frames (frame ∷ []) ∙ ap (λ (x : List ℕ). flat_map frames.frame_bytes h.frames ++ x) (append-nil (frames.frame_bytes frame)))
      ∙ (length-append (flat_map frames.frame_bytes h.frames) (frames.frame_bytes frame) ∙ ap (λ (m : ℕ). bytes_before h + m) e) in
      omega (arith, all, b)

  pub frame_after : (q : Pump) → At → IsTurned catalog q (next.after_frame catalog asks (standing_after catalog asks journal).heard.awaits (frames.frame_in part))
      → IsFresh catalog asks q q.phase → IsGoing q.phase q.stage → q.have ≡ 0 → q.lacks ≡ 8 → q.before ≡ min (p.before + length part) (2 ^ 64 - 1)
      → length (frames.frame_bytes (frames.frame_in part)) ≡ length part
      → AreMarked q.refused ((standing_after catalog asks journal).heard.ended ++ next.ended_by (standing_after catalog asks journal).heard.awaits (standing_after catalog asks journal).heard.rows (frames.frame_in part))
      → verdict_here p part ≡ next.Complete → IsAfter catalog asks (journal ++ taken_entry p page n ∷ []) q
  frame_after q h turned fresh going have lacking before size marks e =
      let l : Standing = standing_after catalog asks journal in
      let turn : next.FrameOutcome = next.after_frame catalog asks (standing_after catalog asks journal).heard.awaits (frames.frame_in part) in
      let is = stage_bool q q.stage going in
      after_taken q next.Complete h e (record {
        opened = sym is.0;
        closed = not_closed h ∙ sym is.1;
        stopped = not_stopped h ∙ sym is.2;
        broken = sym is.3;
        awaits = turned.awaits;
        fresh = fresh;
        before = before ∙ more_bytes l.heard (frames.frame_in part) (length part) p.before size h.after.before;
        refused = marks;
        stage = going_stage q turn q.stage h turned.due going have lacking (next.heard_frame catalog asks l.heard (frames.frame_in part)) refl refl refl;
      })

  pub frame_keeps : At → verdict_here p part ≡ next.Complete → Keeps catalog asks (journal ++ taken_entry p page n ∷ []) page
  frame_keeps h e = keeps_taken next.Complete h e refl

  pub frame_event : (tally : Tally) → At → Stands p part tally → verdict_here p part ≡ next.Complete
      → event_after catalog (standing_after catalog asks journal).heard piece ≡ event_of tally.rows (frames.frame_in part)
  frame_event tally h stands e =
      event_taken next.Complete h e
      ∙ ap (λ (k : ℕ). event_of k (frames.frame_in part))
      (sym (stands.rows.rows ∙ ap length (rows_at_are catalog p p.phase (standing_after catalog asks journal).heard.awaits (frames.frame_in part) h.after.awaits)))

  pub whole_length : (tally : Tally) → At → Stands p part tally → length part ≡ 8 + frames.size_in part
  whole_length tally h stands = exact_length h stands.whole

-- the spelling of a frame is as long as the bytes that it is in
pub data ReplyKind (kind size : ℕ) : Type 0 where
  rows : kind ≡ 18 → ReplyKind kind size
  done : kind ≡ 19 → size ≡ 4 → ReplyKind kind size
  sorry : kind ≡ 20 → size ≡ 1 → ReplyKind kind size

is_rows : (kind : ℕ) → (kind == 18) ≡ true → kind ≡ 18
is_rows kind e = grind (arith, nat_tests)

is_done : (kind : ℕ) → (kind == 19) ≡ true → kind ≡ 19
is_done kind e = grind (arith, nat_tests)

done_size : (version serial : Bool) (width kind size : ℕ) → (kind == 19) ≡ true → (version && serial && next.reply_size_fits width kind size) ≡ true → size ≡ 4
done_size version serial width kind size d t = grind (arith, nat_tests)

sorry_kind : (version serial : Bool) (width kind size : ℕ) → (kind == 18) ≡ false → (kind == 19) ≡ false → (version && serial && next.reply_size_fits width kind size) ≡ true → kind ≡ 20
sorry_kind version serial width kind size a b t = grind (arith, nat_tests)

sorry_size : (version serial : Bool) (width kind size : ℕ) → (kind == 18) ≡ false → (kind == 19) ≡ false → (version && serial && next.reply_size_fits width kind size) ≡ true → size ≡ 1
sorry_size version serial width kind size a b t = grind (arith, nat_tests)

reply_kind : (version serial : Bool) (width kind size : ℕ) (a b : Bool) → (kind == 18) ≡ a → (kind == 19) ≡ b
    → (version && serial && next.reply_size_fits width kind size) ≡ true → ReplyKind kind size
reply_kind version serial width kind size true b r d t = rows (is_rows kind r)
reply_kind version serial width kind size false true r d t = done (is_done kind d) (done_size version serial width kind size d t)
reply_kind version serial width kind size false false r d t = sorry (sorry_kind version serial width kind size r d t) (sorry_size version serial width kind size r d t)

greeting_kind : (version kind serial size missing : ℕ)
    → (version == frames.frame_version && kind == 17 && serial == 0 && nat_le 2 size && nat_le size 2040 && nat_le size (missing + 1)) ≡ true → (kind ≡ 17) × (2 ≤ size)
greeting_kind version kind serial size missing e = (grind (arith, nat_tests), grind (arith, nat_tests))

no_truth : false ≡ true → ⊥
no_truth e = cc

pub data FrameKind (kind size : ℕ) : Type 0 where
  greets : kind ≡ 17 → FrameKind kind size
  replies : ReplyKind kind size → FrameKind kind size

pub kind_of_header : (p : Pump) (phase : Phase) (bytes : List ℕ) → header_at phase p bytes ≡ true → FrameKind (frames.kind_in bytes) (frames.size_in bytes)
kind_of_header p Greeting bytes t =
    greets (greeting_kind (frames.version_in bytes) (frames.kind_in bytes) (frames.serial_in bytes) (frames.size_in bytes) (length p.missing) t).0
kind_of_header p Reply bytes t = reply_kind_of p.rest t
  where
    reply_kind_of : (forms : List Form) → reply_header forms p.serial bytes ≡ true → FrameKind (frames.kind_in bytes) (frames.size_in bytes)
    reply_kind_of [] e = absurd (no_truth e)
    reply_kind_of (form ∷ forms) e =
        replies (reply_kind (frames.version_in bytes == frames.frame_version) (frames.serial_in bytes == p.serial) (width_of (form_kinds form)) (frames.kind_in bytes) (frames.size_in bytes)
        (frames.kind_in bytes == 18) (frames.kind_in bytes == 19) refl refl e)
kind_of_header p Over bytes t = absurd (no_truth t)

payload_size : (p : Pump) (phase : Phase) (bytes : List ℕ) → 8 + frames.size_in bytes ≤ length bytes → header_at phase p bytes ≡ true
    → length (frames.payload_of (frames.frame_in bytes)) ≡ frames.size_in bytes
payload_size p Greeting bytes whole t =
    let size : length (frames.payload_in bytes) ≡ frames.size_in bytes = payload_length bytes whole in
    let kind : (frames.kind_in bytes ≡ 17) × (2 ≤ frames.size_in bytes) =
    greeting_kind (frames.version_in bytes) (frames.kind_in bytes) (frames.serial_in bytes) (frames.size_in bytes) (length p.missing) t in
    ap (λ (f : channel.Frame). length (frames.payload_of f)) (frame_of_kind bytes 17 kind.0)
    ∙ greeting_size (frames.payload_in bytes) (frames.size_in bytes) size kind.1
  where
    greeting_size : (payload : List ℕ) (size : ℕ) → length payload ≡ size → 2 ≤ size → suc (length (drop 1 payload)) ≡ size
    greeting_size payload size e some = omega (arith, length-drop 1 payload, e, some)
payload_size p Reply bytes whole t = reply_size p.rest t
  where
    reply_size : (forms : List Form) → reply_header forms p.serial bytes ≡ true → length (frames.payload_of (frames.frame_in bytes)) ≡ frames.size_in bytes
    reply_size [] e = absurd (no_truth e)
    reply_size (form ∷ forms) e =
        elim (reply_kind (frames.version_in bytes == frames.frame_version) (frames.serial_in bytes == p.serial) (width_of (form_kinds form)) (frames.kind_in bytes) (frames.size_in bytes)
        (frames.kind_in bytes == 18) (frames.kind_in bytes == 19) refl refl e) [
          | rows k ↦ ap (λ (f : channel.Frame). length (frames.payload_of f)) (frame_of_kind bytes 18 k) ∙ payload_length bytes whole
          | done k z ↦ ap (λ (f : channel.Frame). length (frames.payload_of f)) (frame_of_kind bytes 19 k) ∙ sym z
          | sorry k z ↦ ap (λ (f : channel.Frame). length (frames.payload_of f)) (frame_of_kind bytes 20 k) ∙ sym z
        ]
payload_size p Over bytes whole t = absurd (no_truth t)

header_size : (kind size serial : ℕ) (payload : List ℕ) → length (frames.header_bytes kind size serial ++ payload) ≡ 8 + length payload
header_size kind size serial payload = length-append (frames.header_bytes kind size serial) payload

pub frame_size : (p : Pump) (bytes : List ℕ) (tally : Tally) → Stands p bytes tally → length bytes ≡ 8 + frames.size_in bytes
    → length (frames.frame_bytes (frames.frame_in bytes)) ≡ length bytes
frame_size p bytes tally h exact_size =
    header_size (frames.frame_kind (frames.frame_in bytes)) (length (frames.payload_of (frames.frame_in bytes))) (frames.serial_of (frames.frame_in bytes)) (frames.payload_of (frames.frame_in bytes))
    ∙ (ap (λ (k : ℕ). 8 + k) (payload_size p p.phase bytes h.whole h.header) ∙ sym exact_size)

-- what the events tell of the replies
size_of_front : (k : ℕ) (page : List ℕ) → 8 ≤ length page → frames.size_in (take (8 + k) page) ≡ frames.size_in page
size_of_front k (a ∷ b ∷ c ∷ d ∷ page) m =
    ap (λ (n : ℕ). frames.size_in (take n (a ∷ b ∷ c ∷ d ∷ page))) (eight k)
  where
    eight : (k : ℕ) → 8 + k ≡ suc (suc (suc (suc (4 + k))))
    eight k = omega arith
size_of_front k _ m = absurd (omega (arith, m))

-- a whole frame at the front of a page has its payload behind the header
pub payload_of_front : (m : ℕ) (page : List ℕ) → 8 ≤ length page → length (take m page) ≡ m → m ≡ 8 + frames.size_in (take m page)
    → frames.payload_in (take m page) ≡ frames.payload_in page
payload_of_front m page long size e =
    let same : frames.size_in (take m page) ≡ frames.size_in page =
    ap (λ (n : ℕ). frames.size_in (take n page)) e ∙ size_of_front (frames.size_in (take m page)) page long in
    ap (λ (n : ℕ). take (frames.size_in (take m page)) (drop 8 (take n page))) e
    ∙ (ap (λ (x : List ℕ). take (frames.size_in (take m page)) x) (drop-take 8 (frames.size_in (take m page)) page)
    ∙ (take_twice (frames.size_in (take m page)) (drop 8 page) ∙ ap (λ (n : ℕ). take n (drop 8 page)) same))
  where
    take_twice : (n : ℕ) (xs : List ℕ) → take n (take n xs) ≡ take n xs
    take_twice zero xs = refl
    take_twice (suc n) [] = refl
    take_twice (suc n) (x ∷ xs) = ap (λ (y : List ℕ). x ∷ y) (take_twice n xs)

front_most : (m : ℕ) (xs : List ℕ) → length (take m xs) ≤ m
front_most zero xs = omega arith
front_most (suc m) [] = omega arith
front_most (suc m) (x ∷ xs) = let less : length (take m xs) ≤ m = front_most m xs in omega (arith, less)

-- a frame in a front of a page has its payload behind the header
pub payload_of_longer : (m : ℕ) (page : List ℕ) → 8 ≤ length page → 8 + frames.size_in (take m page) ≤ length (take m page)
    → frames.payload_in (take m page) ≡ frames.payload_in page
payload_of_longer m page long whole =
    let most : length (take m page) ≤ m = front_most m page in
    let k : ℕ = m - 8 in
    let e : m ≡ 8 + (m - 8) = omega (arith, most, whole) in
    let same : frames.size_in (take m page) ≡ frames.size_in page =
    ap (λ (n : ℕ). frames.size_in (take n page)) e ∙ size_of_front (m - 8) page long in
    ap (λ (n : ℕ). take (frames.size_in (take m page)) (drop 8 (take n page))) e
    ∙ (ap (λ (x : List ℕ). take (frames.size_in (take m page)) x) (drop-take 8 (m - 8) page)
    ∙ (take-take (frames.size_in (take m page)) (m - 8) (drop 8 page) (omega (arith, most, whole)) ∙ ap (λ (n : ℕ). take n (drop 8 page)) same))
