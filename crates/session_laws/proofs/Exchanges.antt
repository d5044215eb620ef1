-- A session frame by frame: what the key has due, what the host says to it, and what the key then has due.
use Rattle.std.proofs.Common.{◌≡◌, ℕ, ◌+◌, ◌-◌, ◌/◌, ◌<◌, ◌≤◌, ◌^◌, Bool, true, false, not, List, [], ◌∷◌, ◌++◌, length, map, drop, sym, ◌∙◌, ap, subst, refl, arith, append-nil, length-append, Option, Some, None, lit<}
use Rattle.std.specs.Prelude.{flat_map, if◌then◌else◌, ◌&&◌, ◌||◌, ◌==◌, nat_lt, nat_le}
use Rattle.std.specs.List.{list_all}
use Rattle.std.proofs.Math.Seq.{drop-append_seam}
use Rattle.std.proofs.lemmas.Bool.{eq-eqb, ne_eqb, ltb-true, lt-ltb, le-leb}
use Rattle.std.proofs.lemmas.Bool.Decides.{nat_tests}
use Rattle.std.proofs.lemmas.Nat.{le-div}
use Rattle.ghost_model.specs.forms.Catalog.{catalog_bytes}
use Rattle.ghost_model.specs.core.Channel.{Ask, Frame, HelloFrame, AskFrame, MoreFrame, ByeFrame, WelcomeFrame, DoneFrame}
use Rattle.ghost_model.specs.forms.Frames.{IsFrame, AreBytes, most_payload}
use Rattle.ghost_model.specs.core.Asks.{NumberedAsk, RowCells, ask_payload, is_proper_ask, row_bytes, row_width, rows_in}
use Rattle.ghost_model.specs.readings.AskReading.{ask_in}
use Rattle.ghost_model.specs.core.NextMove.{Awaits, AwaitsCatalog, AwaitsReply, AwaitsNothing, FrameOutcome, Heard, EndedAsk, Answered, ended, last_identifier, heard_frame, ask_next, still}
use Rattle.ghost_model.specs.laws.ChannelLaws.{IsAwaited}
use Rattle.ghost_model.specs.core.Host.{Holding, Stand, Greeting, Listening, Replying, Over, Response, answer_to, answers_ask, goes_on, after_reply, rows_frame, grouped, welcomes_of, most_part}
use Rattle.ghost_model.specs.laws.HostLaws.{rows_of_groups, AreGroups}
use Rattle.ghost_model.specs.core.Lines.{is_refused_by, was_refused}
use Rattle.ghost_model.proofs.ChannelLemmas.{bytes_drop}
use Rattle.ghost_model.proofs.ChannelLemmas.Asks.{spelled_ask_is_read}
use Rattle.ghost_model.proofs.ChannelLemmas.Greeting.{welcome_awaited, front_bytes}
use Rattle.ghost_model.proofs.ChannelLemmas.Replies.{done_awaited, rows_awaited}
use Rattle.ghost_model.proofs.ChannelLemmas.Rows.{spelled_rows_are_read}
use Rattle.ghost_model.proofs.ChannelLemmas.Tests.{false_is_not, BothHold, both_hold, hold_both}
use Rattle.ghost_model.proofs.SessionLemmas.Groups.{groups_are_joined, groups_pass}
use Rattle.ghost_model.proofs.SessionLemmas.Limits.{IsSmall, ask_is_frame, row_fits, high_bytes}
use Rattle.ghost_model.proofs.SessionLemmas.SentFrames.{AreProper}

-- the groups in which this host sends the rows of a reply
abbrev pub groups_for : Holding → Ask → List (List RowCells)
groups_for held ask = grouped (most_payload / row_width held.catalog.schema ask) (held.rows ask)

-- what a host and the asks of a session need so that it goes to its end
pub record CanServe (held : Holding) (asks : List NumberedAsk) : Type 0 where
  pub small : IsSmall held.catalog.schema
  pub proper : AreProper held.catalog.schema asks
  pub few_asks : length asks < 2 ^ 32
  pub generation : held.catalog.generation < 2 ^ 32
  pub catalog_is_bytes : AreBytes (catalog_bytes held.catalog)
  pub groups : (ask : Ask) → is_proper_ask held.catalog.schema ask ≡ true → AreGroups held.catalog ask 0 (groups_for held ask)
  pub few_rows : (ask : Ask) → is_proper_ask held.catalog.schema ask ≡ true → length (held.rows ask) < 2 ^ 32

same_frames : (x y : Frame) (xs ys : List Frame) → x ∷ xs ≡ y ∷ ys → (x ≡ y) × (xs ≡ ys)
same_frames x y xs ys e = (cc, cc)

not_zero : (n : ℕ) → 0 < n → not (n == 0) ≡ true
not_zero n h = grind (arith, nat_tests)

nothing_bytes : AreBytes []
nothing_bytes i = lit< tt

bye_is_frame : IsFrame ByeFrame
bye_is_frame = record { serial = refl; size = refl; payload = refl; bytes = nothing_bytes; serial_fits = lit< tt; number_fits = lit< tt }

more_is_frame : (serial : ℕ) → 0 < serial → serial < 2 ^ 32 → IsFrame (MoreFrame serial)
more_is_frame serial some fits = record { serial = not_zero serial some; size = refl; payload = refl; bytes = nothing_bytes; serial_fits = fits; number_fits = lit< tt }

hello_is_frame : (generation : ℕ) → generation < 2 ^ 32 → IsFrame (HelloFrame generation)
hello_is_frame generation fits = record { serial = refl; size = refl; payload = refl; bytes = high_bytes 4 generation; serial_fits = lit< tt; number_fits = fits }

-- no ask is refused by one more that DONE ends
not_refused_more : (ends : List EndedAsk) (asked : NumberedAsk) (rows : List ℕ) → was_refused ends ≡ false → was_refused (ends ++ ended asked (Answered rows) ∷ []) ≡ false
not_refused_more [] asked rows e = refl
not_refused_more (end ∷ ends) asked rows e =
    (elim (is_refused_by end.ending) as (λ v. (v || was_refused ends) ≡ false → (v || was_refused (ends ++ ended asked (Answered rows) ∷ [])) ≡ false) [
      | true ↦ λ k. absurd (false_is_not (sym k))
      | false ↦ λ k. not_refused_more ends asked rows k
    ]) e

-- the frames of a reply that are still to come
abbrev pub reply_left : (serial total : ℕ) → List (List RowCells) → List Frame
reply_left serial total todo = map (rows_frame serial) todo ++ DoneFrame serial total ∷ []

still_replying : (serial total : ℕ) (todo : List (List RowCells)) → after_reply serial (reply_left serial total todo) ≡ Replying serial (reply_left serial total todo)
still_replying serial total [] = refl
still_replying serial total (_ ∷ _) = refl

abbrev fits_frame : List ℕ → Bool
fits_frame part = nat_lt 0 (length part) && nat_le (length part) most_part

abbrev joined : List (List ℕ) → List ℕ
joined parts = flat_map (λ (part : List ℕ). part) parts

part_fits : (part : List ℕ) → 0 < length part → length part ≤ most_part → fits_frame part ≡ true
part_fits part some few = hold_both _ _ (lt-ltb 0 (length part) some) (le-leb (length part) most_part few)

-- whether a part is all that is missing
some_part : (part : List ℕ) (later : List (List ℕ)) → list_all fits_frame (part ∷ later) ≡ true → 0 < length part
some_part part later fit =
    let both : BothHold (fits_frame part) (list_all fits_frame later) = both_hold (fits_frame part) (list_all fits_frame later) fit in
    ltb-true 0 (length part) (both_hold (nat_lt 0 (length part)) (nat_le (length part) most_part) both.one).one

last_part : (part : List ℕ) → (length part == length (part ++ [])) ≡ true
last_part part = eq-eqb (length part) (length (part ++ [])) (ap length (sym (append-nil part)))

other_part : (part next : List ℕ) (later : List (List ℕ)) → list_all fits_frame (next ∷ later) ≡ true → (length part == length (part ++ joined (next ∷ later))) ≡ false
other_part part next later fit =
    let some : 0 < length next = some_part next later fit in
    let longer : length (part ++ joined (next ∷ later)) ≡ length part + (length next + length (joined later)) =
    length-append part (joined (next ∷ later)) ∙ ap (λ (n : ℕ). length part + n) (length-append next (joined later)) in
    ne_eqb _ _ (λ same. absurd (omega (arith, same, longer, some)))

module _ (held : Holding) (asks : List NumberedAsk) (can : CanServe held asks) where
  -- the catalog's bytes are awaited
  pub record Greeted (h : Heard) (missing : List ℕ) : Type 0 where
    pub awaits : h.awaits ≡ AwaitsCatalog missing
    pub none_refused : was_refused h.ended ≡ false

  -- a reply goes on: these groups of rows are still to come
  pub record Going (h : Heard) (asked : NumberedAsk) (serial total : ℕ) (todo : List (List RowCells)) : Type 0 where
    pub later : List NumberedAsk
    pub count : ℕ
    pub last : ℕ
    pub awaits : h.awaits ≡ AwaitsReply asked serial later count last
    pub groups : AreGroups held.catalog asked.ask last todo
    pub all : count + length (rows_of_groups todo) ≡ total
    pub whole : total ≡ length (held.rows asked.ask)
    pub some : 0 < serial
    pub fits : serial + length later < 2 ^ 32
    pub few : total < 2 ^ 32
    pub proper : AreProper held.catalog.schema later
    pub none_refused : was_refused h.ended ≡ false

  -- nothing more is awaited
  pub record Finished (h : Heard) : Type 0 where
    pub awaits : h.awaits ≡ AwaitsNothing
    pub none_refused : was_refused h.ended ≡ false

  -- the frame that the key has due, where the host stands there
  pub data Due (h : Heard) (frame : Frame) (stand : Stand) : Type 0 where
    says_hello : Greeted h (catalog_bytes held.catalog) → frame ≡ HelloFrame held.catalog.generation → stand ≡ Greeting → Due h frame stand
    says_ask : (asked : NumberedAsk) (serial : ℕ) → Going h asked serial (length (held.rows asked.ask)) (groups_for held asked.ask) → is_proper_ask held.catalog.schema asked.ask ≡ true
        → frame ≡ AskFrame serial (ask_payload held.catalog.schema asked.ask) → stand ≡ Listening serial → Due h frame stand
    says_more : (asked : NumberedAsk) (serial total : ℕ) (todo : List (List RowCells)) → Going h asked serial total todo → frame ≡ MoreFrame serial → stand ≡ Replying serial (reply_left serial total todo) → Due h frame stand
    says_bye : (serial : ℕ) → Finished h → frame ≡ ByeFrame → stand ≡ Listening serial → Due h frame stand

  -- the frame that comes from the host, those that it said after it, and where it then stands
  pub data Comes (h : Heard) (frame : Frame) (after : List Frame) (stand : Stand) : Type 0 where
    welcome : (part : List ℕ) (parts : List (List ℕ)) → Greeted h (joined (part ∷ parts)) → list_all fits_frame (part ∷ parts) ≡ true → AreBytes (joined (part ∷ parts))
        → frame ∷ after ≡ welcomes_of (part ∷ parts) → stand ≡ Listening 1 → Comes h frame after stand
    some_rows : (asked : NumberedAsk) (serial total : ℕ) (group : List RowCells) (todo : List (List RowCells)) → Going h asked serial total (group ∷ todo) → frame ≡ rows_frame serial group → after ≡ []
        → stand ≡ Replying serial (reply_left serial total todo) → Comes h frame after stand
    done : (asked : NumberedAsk) (serial total : ℕ) → Going h asked serial total [] → frame ≡ DoneFrame serial total → after ≡ [] → stand ≡ Listening (serial + 1) → Comes h frame after stand

  small_serial : (serial : ℕ) (later : List NumberedAsk) → serial + length later < 2 ^ 32 → serial < 2 ^ 32
  small_serial serial later h = omega (arith, h)

  -- the frame that comes may come
  welcome_may_come : (part : List ℕ) (parts : List (List ℕ)) (frame : Frame) (after : List Frame) → list_all fits_frame (part ∷ parts) ≡ true → AreBytes (joined (part ∷ parts)) → frame ∷ after ≡ welcomes_of (part ∷ parts)
      → IsAwaited held.catalog (AwaitsCatalog (joined (part ∷ parts))) frame
  welcome_may_come part [] frame after e h is =
      let both : BothHold (fits_frame part) true = both_hold (fits_frame part) true e in
      subst (λ (f : Frame). IsAwaited held.catalog (AwaitsCatalog (part ++ [])) f) (sym (same_frames frame (WelcomeFrame 1 part) after [] is).0)
      (welcome_awaited held.catalog asks 1 part [] (omega arith) both.one (front_bytes part [] h) (ap (λ (b : Bool). 1 == (if b then 1 else 0)) (last_part part)))
  welcome_may_come part (next ∷ later) frame after e h is =
      let both : BothHold (fits_frame part) (list_all fits_frame (next ∷ later)) = both_hold (fits_frame part) (list_all fits_frame (next ∷ later)) e in
      subst (λ (f : Frame). IsAwaited held.catalog (AwaitsCatalog (part ++ joined (next ∷ later))) f) (sym (same_frames frame (WelcomeFrame 0 part) after (welcomes_of (next ∷ later)) is).0)
      (welcome_awaited held.catalog asks 0 part (joined (next ∷ later)) (omega arith) both.one (front_bytes part (joined (next ∷ later)) h) (ap (λ (b : Bool). 0 == (if b then 1 else 0)) (other_part part next later both.other)))

  pub may_come : (h : Heard) (frame : Frame) (after : List Frame) (stand : Stand) → Comes h frame after stand → IsAwaited held.catalog h.awaits frame
  may_come h frame after stand (welcome part parts greeted fit bytes is _) =
      subst (λ (a : Awaits). IsAwaited held.catalog a frame) (sym greeted.awaits) (welcome_may_come part parts frame after fit bytes is)
  may_come h frame after stand (some_rows asked serial total group todo going is _ _) =
      subst (λ (a : Awaits). IsAwaited held.catalog a frame) (sym going.awaits)
      (subst (λ (f : Frame). IsAwaited held.catalog (AwaitsReply asked serial going.later going.count going.last) f) (sym is)
      (rows_awaited held.catalog asks asked serial going.later going.some (small_serial serial going.later going.fits) going.count going.last group going.groups.0))
  may_come h frame after stand (done asked serial total going is _ _) =
      let same : going.count ≡ total = (let all = going.all in omega (arith, all)) in
      subst (λ (a : Awaits). IsAwaited held.catalog a frame) (sym going.awaits)
      (subst (λ (f : Frame). IsAwaited held.catalog (AwaitsReply asked serial going.later going.count going.last) f) (sym (is ∙ ap (λ (n : ℕ). DoneFrame serial n) (sym same)))
      (done_awaited held.catalog asks asked serial going.later going.some (small_serial serial going.later going.fits) going.count going.last (let few = going.few in omega (arith, same, few))))

  -- the frame that is due is one
  pub due_is_frame : (h : Heard) (frame : Frame) (stand : Stand) → Due h frame stand → IsFrame frame
  due_is_frame h frame stand (says_hello _ is _) = subst (λ (f : Frame). IsFrame f) (sym is) (hello_is_frame held.catalog.generation can.generation)
  due_is_frame h frame stand (says_ask asked serial going proper is _) =
      subst (λ (f : Frame). IsFrame f) (sym is) (ask_is_frame held.catalog.schema can.small asked.ask serial proper going.some (small_serial serial going.later going.fits))
  due_is_frame h frame stand (says_more asked serial total todo going is _) =
      subst (λ (f : Frame). IsFrame f) (sym is) (more_is_frame serial going.some (small_serial serial going.later going.fits))
  due_is_frame h frame stand (says_bye _ _ is _) = subst (λ (f : Frame). IsFrame f) (sym is) bye_is_frame

  -- the host's answer to a frame of the key
  pub record Exchanged (h : Heard) (o : Option Response) : Type 0 where
    pub frame : Frame
    pub after : List Frame
    pub stand : Stand
    pub is : o ≡ Some (record { says = frame ∷ after; stand = stand })
    pub comes : Comes h frame after stand

  pub data Next (h : Heard) (o : Option Response) : Type 0 where
    over : Finished h → o ≡ Some (record { says = []; stand = Over }) → Next h o
    exchange : Exchanged h o → Next h o

  next_reply : (h : Heard) (asked : NumberedAsk) (serial total : ℕ) (todo : List (List RowCells)) → Going h asked serial total todo → Exchanged h (goes_on serial (reply_left serial total todo))
  next_reply h asked serial total [] going = record { frame = DoneFrame serial total; after = []; stand = Listening (serial + 1); is = refl; comes = done asked serial total going refl refl refl }
  next_reply h asked serial total (group ∷ todo) going = record {
    frame = rows_frame serial group;
    after = [];
    stand = Replying serial (reply_left serial total todo);
    is = ap (λ (s : Stand). Some (record { says = rows_frame serial group ∷ []; stand = s })) (still_replying serial total todo);
    comes = some_rows asked serial total group todo going refl refl refl;
  }

  no_catalog : [] ≡ catalog_bytes held.catalog → ⊥
  no_catalog e = cc

  greets_by : (h : Heard) (parts : List (List ℕ)) → Greeted h (catalog_bytes held.catalog) → list_all fits_frame parts ≡ true → joined parts ≡ catalog_bytes held.catalog
      → Exchanged h (Some (record { says = welcomes_of parts; stand = Listening 1 }))
  greets_by h [] greeted fit whole = absurd (no_catalog whole)
  greets_by h (part ∷ []) greeted fit whole = record {
    frame = WelcomeFrame 1 part;
    after = [];
    stand = Listening 1;
    is = refl;
    comes = welcome part [] (subst (λ (missing : List ℕ). Greeted h missing) (sym whole) greeted) fit (subst (λ (bs : List ℕ). AreBytes bs) (sym whole) can.catalog_is_bytes) refl refl;
  }
  greets_by h (part ∷ next ∷ later) greeted fit whole = record {
    frame = WelcomeFrame 0 part;
    after = welcomes_of (next ∷ later);
    stand = Listening 1;
    is = refl;
    comes = welcome part (next ∷ later) (subst (λ (missing : List ℕ). Greeted h missing) (sym whole) greeted) fit (subst (λ (bs : List ℕ). AreBytes bs) (sym whole) can.catalog_is_bytes) refl refl;
  }

  answer_at : (frame other : Frame) (stand there : Stand) → frame ≡ other → stand ≡ there → answer_to held there other ≡ answer_to held stand frame
  answer_at frame other stand there e s = ap (λ (f : Frame). answer_to held there f) (sym e) ∙ ap (λ (t : Stand). answer_to held t frame) (sym s)

  pub answered_due : (h : Heard) (frame : Frame) (stand : Stand) → Due h frame stand → Next h (answer_to held stand frame)
  answered_due h frame stand (says_hello greeted is there) =
      exchange (subst (λ (o : Option Response). Exchanged h o) (answer_at frame (HelloFrame held.catalog.generation) stand Greeting is there)
      (greets_by h (grouped most_part (catalog_bytes held.catalog)) greeted
      (groups_pass fits_frame most_part (catalog_bytes held.catalog) (omega arith) part_fits)
      (groups_are_joined most_part (catalog_bytes held.catalog) (omega arith))))
  answered_due h frame stand (says_ask asked serial going proper is there) =
      exchange (subst (λ (o : Option Response). Exchanged h o)
      (sym (ap (λ (b : Bool). if b then answers_ask held serial (ask_in held.catalog.schema (ask_payload held.catalog.schema asked.ask)) else None) (eq-eqb serial serial refl)
      ∙ ap (λ (o : Option Ask). answers_ask held serial o) (spelled_ask_is_read held.catalog.schema asked.ask proper))
      ∙ answer_at frame (AskFrame serial (ask_payload held.catalog.schema asked.ask)) stand (Listening serial) is there)
      (next_reply h asked serial (length (held.rows asked.ask)) (groups_for held asked.ask) going))
  answered_due h frame stand (says_more asked serial total todo going is there) =
      exchange (subst (λ (o : Option Response). Exchanged h o)
      (sym (ap (λ (b : Bool). if b then goes_on serial (reply_left serial total todo) else None) (eq-eqb serial serial refl))
      ∙ answer_at frame (MoreFrame serial) stand (Replying serial (reply_left serial total todo)) is there)
      (next_reply h asked serial total todo going))
  answered_due h frame stand (says_bye serial finished is there) =
      over finished (sym (answer_at frame ByeFrame stand (Listening serial) is there))

  -- a frame of the host was heard: the next frame of the key is due, or one more that the host said comes
  pub data Turned (h result : Heard) (after : List Frame) (stand : Stand) : Type 0 where
    calls : (frame : Frame) → result.due ≡ h.due ++ frame ∷ [] → after ≡ [] → Due result frame stand → Turned h result after stand
    more_comes : (frame : Frame) (later : List Frame) → result.due ≡ h.due → after ≡ frame ∷ later → Comes result frame later stand → Turned h result after stand

  all_rows : (ask : Ask) → is_proper_ask held.catalog.schema ask ≡ true → rows_of_groups (groups_for held ask) ≡ held.rows ask
  all_rows ask proper =
      let fits : row_width held.catalog.schema ask ≤ 2040 = row_fits held.catalog.schema can.small ask proper in
      groups_are_joined (most_payload / row_width held.catalog.schema ask) (held.rows ask)
      (le-div 1 most_payload (row_width held.catalog.schema ask) (omega arith) (omega (arith, fits)))

  -- the first of these asks is due, or BYE
  on_next : (h result : Heard) (serial : ℕ) (later : List NumberedAsk) → result.awaits ≡ (ask_next held.catalog.schema serial later).awaits → result.due ≡ h.due ++ (ask_next held.catalog.schema serial later).due
      → was_refused result.ended ≡ false → 0 < serial → serial + length later ≤ 2 ^ 32 → AreProper held.catalog.schema later → Turned h result [] (Listening serial)
  on_next h result serial [] a d none some fits proper = calls ByeFrame d refl (says_bye serial (record { awaits = a; none_refused = none }) refl refl)
  on_next h result serial (asked ∷ later) a d none some fits proper =
      let both : BothHold (is_proper_ask held.catalog.schema asked.ask) (list_all (λ one. is_proper_ask held.catalog.schema one.ask) later) = both_hold _ _ proper in
      calls (AskFrame serial (ask_payload held.catalog.schema asked.ask)) d refl
      (says_ask asked serial (record {
        later = later;
        count = 0;
        last = 0;
        awaits = a;
        groups = can.groups asked.ask both.one;
        all = (let rows : length (rows_of_groups (groups_for held asked.ask)) ≡ length (held.rows asked.ask) = ap length (all_rows asked.ask both.one) in omega (arith, rows));
        whole = refl;
        some = some;
        fits = omega (arith, fits);
        few = can.few_rows asked.ask both.one;
        proper = both.other;
        none_refused = none;
      }) both.one refl refl)

  -- what was heard, by what was awaited
  abbrev heard_at : Heard → Awaits → Frame → Heard
  heard_at h awaits frame = heard_frame held.catalog asks (record h { awaits = awaits }) frame

  heard_so : (h : Heard) (awaits : Awaits) (frame other : Frame) → h.awaits ≡ awaits → frame ≡ other → heard_at h awaits other ≡ heard_frame held.catalog asks h frame
  heard_so h awaits frame other a f =
      ap (λ (x : Awaits). heard_at h x other) (sym a) ∙ ap (λ (x : Frame). heard_frame held.catalog asks h x) (sym f)

  same_ends : (h : Heard) → was_refused h.ended ≡ false → was_refused (h.ended ++ []) ≡ false
  same_ends h none = ap was_refused (append-nil h.ended) ∙ none

  abbrev after_welcome : Heard → FrameOutcome → Frame → Heard
  after_welcome h turn frame = record {
    awaits = turn.awaits;
    part = [];
    frames = h.frames ++ frame ∷ [];
    due = h.due ++ turn.due;
    rows = [];
    ended = h.ended ++ [];
    broken = false;
  }

  turned_by_welcome : (h : Heard) (part : List ℕ) (parts : List (List ℕ)) (frame : Frame) (after : List Frame) → was_refused h.ended ≡ false → list_all fits_frame (part ∷ parts) ≡ true → AreBytes (joined (part ∷ parts)) → frame ∷ after ≡ welcomes_of (part ∷ parts)
      → Turned h (heard_at h (AwaitsCatalog (joined (part ∷ parts))) frame) after (Listening 1)
  turned_by_welcome h part [] frame after none fit bytes is =
      let ends = same_frames frame (WelcomeFrame 1 part) after [] is in
      subst (λ (f : Frame). Turned h (heard_at h (AwaitsCatalog (part ++ [])) f) after (Listening 1)) (sym ends.0)
      (subst (λ (b : Bool). Turned h (after_welcome h (if b then ask_next held.catalog.schema 1 asks else still (AwaitsCatalog (drop (length part) (part ++ [])))) (WelcomeFrame 1 part)) after (Listening 1)) (sym (last_part part))
      (subst (λ (fs : List Frame). Turned h (after_welcome h (ask_next held.catalog.schema 1 asks) (WelcomeFrame 1 part)) fs (Listening 1)) (sym ends.1)
      (on_next h (after_welcome h (ask_next held.catalog.schema 1 asks) (WelcomeFrame 1 part)) 1 asks refl refl (same_ends h none) (lit< tt) (let few = can.few_asks in omega (arith, few)) can.proper)))
  turned_by_welcome h part (next ∷ later) frame after none fit bytes is =
      let both : BothHold (fits_frame part) (list_all fits_frame (next ∷ later)) = both_hold (fits_frame part) (list_all fits_frame (next ∷ later)) fit in
      let rest : drop (length part) (part ++ joined (next ∷ later)) ≡ joined (next ∷ later) = drop-append_seam part (joined (next ∷ later)) in
      let ends = same_frames frame (WelcomeFrame 0 part) after (welcomes_of (next ∷ later)) is in
      let tail : AreBytes (joined (next ∷ later)) = subst (λ (bs : List ℕ). AreBytes bs) rest (bytes_drop (length part) (part ++ joined (next ∷ later)) bytes) in
      subst (λ (f : Frame). Turned h (heard_at h (AwaitsCatalog (part ++ joined (next ∷ later))) f) after (Listening 1)) (sym ends.0)
      (subst (λ (b : Bool). Turned h (after_welcome h (if b then ask_next held.catalog.schema 1 asks else still (AwaitsCatalog (drop (length part) (part ++ joined (next ∷ later))))) (WelcomeFrame 0 part)) after (Listening 1)) (sym (other_part part next later both.other))
      (subst (λ (bs : List ℕ). Turned h (after_welcome h (still (AwaitsCatalog bs)) (WelcomeFrame 0 part)) after (Listening 1)) (sym rest)
      (next_welcome h (after_welcome h (still (AwaitsCatalog (joined (next ∷ later)))) (WelcomeFrame 0 part)) next later after (append-nil h.due) (record { awaits = refl; none_refused = same_ends h none }) both.other tail ends.1)))
    where
      next_welcome : (h result : Heard) (next : List ℕ) (later : List (List ℕ)) (after : List Frame) → result.due ≡ h.due → Greeted result (joined (next ∷ later)) → list_all fits_frame (next ∷ later) ≡ true → AreBytes (joined (next ∷ later)) → after ≡ welcomes_of (next ∷ later)
          → Turned h result after (Listening 1)
      next_welcome h result next [] after d greeted fit bytes is = more_comes (WelcomeFrame 1 next) [] d is (welcome next [] greeted fit bytes refl refl)
      next_welcome h result next (third ∷ later) after d greeted fit bytes is = more_comes (WelcomeFrame 0 next) (welcomes_of (third ∷ later)) d is (welcome next (third ∷ later) greeted fit bytes refl refl)

  turned_by_rows : (h : Heard) (asked : NumberedAsk) (serial total : ℕ) (group : List RowCells) (todo : List (List RowCells)) → (going : Going h asked serial total (group ∷ todo))
      → Turned h (heard_at h (AwaitsReply asked serial going.later going.count going.last) (rows_frame serial group)) [] (Replying serial (reply_left serial total todo))
  turned_by_rows h asked serial total group todo going =
      let read : rows_in held.catalog.schema asked.ask (flat_map row_bytes group) ≡ group = spelled_rows_are_read held.catalog.schema asked.ask group going.groups.0.widths in
      let split : length (rows_of_groups (group ∷ todo)) ≡ length group + length (rows_of_groups todo) = length-append group (rows_of_groups todo) in
      calls (MoreFrame serial) refl refl
      (says_more asked serial total todo (record {
        later = going.later;
        count = going.count + length group;
        last = last_identifier going.last group;
        awaits = ap (λ (rows : List RowCells). AwaitsReply asked serial going.later (going.count + length rows) (last_identifier going.last rows)) read;
        groups = going.groups.1;
        all = (let all = going.all in omega (arith, all, split));
        whole = going.whole;
        some = going.some;
        fits = going.fits;
        few = going.few;
        proper = going.proper;
        none_refused = same_ends h going.none_refused;
      }) refl refl)

  turned_by_done : (h : Heard) (asked : NumberedAsk) (serial total : ℕ) → (going : Going h asked serial total [])
      → Turned h (heard_at h (AwaitsReply asked serial going.later going.count going.last) (DoneFrame serial total)) [] (Listening (serial + 1))
  turned_by_done h asked serial total going =
      on_next h (heard_at h (AwaitsReply asked serial going.later going.count going.last) (DoneFrame serial total)) (serial + 1) going.later refl refl
      (not_refused_more h.ended asked h.rows going.none_refused) (omega arith) (let fits = going.fits in omega (arith, fits)) going.proper

  pub heeds : (h : Heard) (frame : Frame) (after : List Frame) (stand : Stand) → Comes h frame after stand → Turned h (heard_frame held.catalog asks h frame) after stand
  heeds h frame after stand (welcome part parts greeted fit bytes is there) =
      subst (λ (s : Stand). Turned h (heard_frame held.catalog asks h frame) after s) (sym there)
      (subst (λ (x : Heard). Turned h x after (Listening 1)) (heard_so h (AwaitsCatalog (joined (part ∷ parts))) frame frame greeted.awaits refl)
      (turned_by_welcome h part parts frame after greeted.none_refused fit bytes is))
  heeds h frame after stand (some_rows asked serial total group todo going is none there) =
      subst (λ (s : Stand). Turned h (heard_frame held.catalog asks h frame) after s) (sym there)
      (subst (λ (fs : List Frame). Turned h (heard_frame held.catalog asks h frame) fs (Replying serial (reply_left serial total todo))) (sym none)
      (subst (λ (x : Heard). Turned h x [] (Replying serial (reply_left serial total todo))) (heard_so h (AwaitsReply asked serial going.later going.count going.last) frame (rows_frame serial group) going.awaits is)
      (turned_by_rows h asked serial total group todo going)))
  heeds h frame after stand (done asked serial total going is none there) =
      subst (λ (s : Stand). Turned h (heard_frame held.catalog asks h frame) after s) (sym there)
      (subst (λ (fs : List Frame). Turned h (heard_frame held.catalog asks h frame) fs (Listening (serial + 1))) (sym none)
      (subst (λ (x : Heard). Turned h x [] (Listening (serial + 1))) (heard_so h (AwaitsReply asked serial going.later going.count going.last) frame (DoneFrame serial total) going.awaits is)
      (turned_by_done h asked serial total going)))

  -- the frames of the host that are still to come, or more
  abbrev asks_left : List NumberedAsk → ℕ
  asks_left [] = 0
  asks_left (one ∷ later) = length (held.rows one.ask) + 1 + asks_left later

  abbrev pub frames_left : Awaits → ℕ
  frames_left (AwaitsCatalog bytes) = length bytes + asks_left asks
  frames_left (AwaitsReply asked serial later count last) = length (held.rows asked.ask) - count + 1 + asks_left later
  frames_left AwaitsNothing = 0

  left_on : (serial : ℕ) (later : List NumberedAsk) → frames_left (ask_next held.catalog.schema serial later).awaits ≡ asks_left later
  left_on serial [] = refl
  left_on serial (one ∷ later) = omega arith

  welcome_left : (h : Heard) (part : List ℕ) (parts : List (List ℕ)) (frame : Frame) (after : List Frame) → list_all fits_frame (part ∷ parts) ≡ true → frame ∷ after ≡ welcomes_of (part ∷ parts)
      → frames_left (heard_at h (AwaitsCatalog (joined (part ∷ parts))) frame).awaits < frames_left (AwaitsCatalog (joined (part ∷ parts)))
  welcome_left h part [] frame after fit is =
      let some : 0 < length part = some_part part [] fit in
      let long : length (part ++ []) ≡ length part = ap length (append-nil part) in
      let next : frames_left (ask_next held.catalog.schema 1 asks).awaits ≡ asks_left asks = left_on 1 asks in
      subst (λ (f : Frame). frames_left (heard_at h (AwaitsCatalog (part ++ [])) f).awaits < length (part ++ []) + asks_left asks) (sym (same_frames frame (WelcomeFrame 1 part) after [] is).0)
      (subst (λ (b : Bool). frames_left (if b then ask_next held.catalog.schema 1 asks else still (AwaitsCatalog (drop (length part) (part ++ [])))).awaits < length (part ++ []) + asks_left asks) (sym (last_part part))
      (omega (arith, some, long, next)))
  welcome_left h part (next ∷ later) frame after fit is =
      let both : BothHold (fits_frame part) (list_all fits_frame (next ∷ later)) = both_hold (fits_frame part) (list_all fits_frame (next ∷ later)) fit in
      let some : 0 < length part = some_part part (next ∷ later) fit in
      let long : length (part ++ joined (next ∷ later)) ≡ length part + length (joined (next ∷ later)) = length-append part (joined (next ∷ later)) in
      let rest : length (drop (length part) (part ++ joined (next ∷ later))) ≡ length (joined (next ∷ later)) = ap length (drop-append_seam part (joined (next ∷ later))) in
      subst (λ (f : Frame). frames_left (heard_at h (AwaitsCatalog (part ++ joined (next ∷ later))) f).awaits < length (part ++ joined (next ∷ later)) + asks_left asks) (sym (same_frames frame (WelcomeFrame 0 part) after (welcomes_of (next ∷ later)) is).0)
      (subst (λ (b : Bool). frames_left (if b then ask_next held.catalog.schema 1 asks else still (AwaitsCatalog (drop (length part) (part ++ joined (next ∷ later))))).awaits < length (part ++ joined (next ∷ later)) + asks_left asks) (sym (other_part part next later both.other))
      (omega (arith, some, long, rest)))

  -- each frame that is heard leaves fewer
  pub fewer_left : (h : Heard) (frame : Frame) (after : List Frame) (stand : Stand) → Comes h frame after stand → frames_left (heard_frame held.catalog asks h frame).awaits < frames_left h.awaits
  fewer_left h frame after stand (welcome part parts greeted fit bytes is there) =
      subst (λ (a : Awaits). frames_left (heard_frame held.catalog asks h frame).awaits < frames_left a) (sym greeted.awaits)
      (subst (λ (x : Heard). frames_left x.awaits < frames_left (AwaitsCatalog (joined (part ∷ parts)))) (heard_so h (AwaitsCatalog (joined (part ∷ parts))) frame frame greeted.awaits refl)
      (welcome_left h part parts frame after fit is))
  fewer_left h frame after stand (some_rows asked serial total group todo going is none there) =
      let read : length (rows_in held.catalog.schema asked.ask (flat_map row_bytes group)) ≡ length group = ap length (spelled_rows_are_read held.catalog.schema asked.ask group going.groups.0.widths) in
      let split : length (rows_of_groups (group ∷ todo)) ≡ length group + length (rows_of_groups todo) = length-append group (rows_of_groups todo) in
      let some : 0 < length group = going.groups.0.some in
      subst (λ (a : Awaits). frames_left (heard_frame held.catalog asks h frame).awaits < frames_left a) (sym going.awaits)
      (subst (λ (x : Heard). frames_left x.awaits < frames_left (AwaitsReply asked serial going.later going.count going.last)) (heard_so h (AwaitsReply asked serial going.later going.count going.last) frame (rows_frame serial group) going.awaits is)
      (let all = going.all in let whole = going.whole in omega (arith, all, whole, read, split, some)))
  fewer_left h frame after stand (done asked serial total going is none there) =
      let next : frames_left (ask_next held.catalog.schema (serial + 1) going.later).awaits ≡ asks_left going.later = left_on (serial + 1) going.later in
      subst (λ (a : Awaits). frames_left (heard_frame held.catalog asks h frame).awaits < frames_left a) (sym going.awaits)
      (subst (λ (x : Heard). frames_left x.awaits < frames_left (AwaitsReply asked serial going.later going.count going.last)) (heard_so h (AwaitsReply asked serial going.later going.count going.last) frame (DoneFrame serial total) going.awaits is)
      (omega (arith, next)))
