-- A session that is under way.
use Rattle.std.specs.Prelude.{◌≡◌, ◌≢◌, ℕ, ⊤, ◌≤◌, ◌<◌, ◌+◌, ◌*◌, ◌%◌, ◌&&◌, ◌||◌, nat_lt, nat_le, Bool, true, false, not, List, [], ◌∷◌, ◌++◌, length, get_or, count_by, slice_get, Option, None, Some, Ok, is_some, option_map, if◌then◌else◌}
use Rattle.ghost_model.specs.core.Query.{Query}
use Rattle.ghost_model.specs.readings.QueryReading.{reading}
use Rattle.ghost_model.specs.core.Channel.{Catalog, Journal, Entry}
use Rattle.ghost_model.specs.core.Asks.{NumberedAsk, asked_of}
use Rattle.ghost_model.specs.core.NextMove.{standing_after, heard}
use Rattle.ghost_model.specs.core.Replies.{replies}
use Rattle.ghost_model.specs.forms.Catalog.{current_version}
use Rattle.edge_traits.specs.Devices.{Device}
use Rattle.page_pool.specs.Pools.{Pool, IsIdle, IsOut, bytes_at, others_out}
use Rattle.visible_spool.specs.declared.half.Half.{Half}
use Rattle.key_lines.specs.Handing.{Handed}
use Rattle.key_lines.specs.Told.{told_in}
use Rattle.key_lines.specs.declared.told.ToldText.{ToldText}
use Rattle.session_laws.specs.TextEnds.{heard_in, is_settled_in}
use Rattle.channel_pump.specs.Here.{moves_left}
use Rattle.channel_pump.specs.Marks.{state_of}
use Rattle.channel_pump.specs.State.{want_of}
use Rattle.channel_pump.specs.declared.state.Pump.{Pump}
use Rattle.channel_pump.specs.declared.state.Want.TheVariants as want
use Rattle.channel_pump.specs.declared.state.ReplyState.{ReplyState}
use Rattle.channel_pump.specs.declared.state.ReplyState.TheVariants as state_is
use Rattle.channel_pump.specs.Sessions as moves
use Rattle.key_session.specs.Filling.{FillsPages}
use Rattle.key_session.specs.Hearing.{WritesHalf, pages_on}
use Rattle.key_session.specs.Spending.{AreCountedBy, CountsStay, SpendsCalls, spent_by}
use Rattle.key_session.specs.Kept.{is_lost, lease_of, with_lease}
use Rattle.key_session.specs.declared.buffers.Buffers.{Buffers}
use Rattle.key_session.specs.declared.buffers.Buffers.TheVariants as buffers
use Rattle.key_session.specs.declared.replies.Replies.{Replies}
use Rattle.leakless_plan.specs.declared.plan.Plan.{Plan}
use Rattle.flash_layout.specs.Ranges.{Suffices}
use Rattle.key_exec.specs.Plans.{by_pre}
use Rattle.key_exec.specs.Reading.{KeepsBy}
use Rattle.key_exec.specs.Laws.{TellingStaysAble, TellingIsSpared, most_left}
use Rattle.key_exec.specs.Rows.{TakesTurn}
use Rattle.key_exec.specs.Telling as lines
use Rattle.key_exec.specs.Texts.{IsDone}
use Rattle.key_exec.specs.Telling.{CanTell, IsUnderWay, AreRepliesOf}
use Rattle.key_exec.specs.declared.telling.Telling.{Telling}
use Rattle.key_exec.specs.declared.text.Told.{Told}
use Rattle.key_session.specs.Counting.{IsCounted, reason_of, damage_in, first_damage}
use Rattle.ghost_model.specs.core.Moves.{taken}
use Rattle.channel_pump.specs.Marks.{asked_at}
use Rattle.channel_pump.specs.Progress.{Tells}
use Rattle.channel_pump.specs.declared.state.Event.{Event}
use Rattle.key_session.specs.Order.{IsPaced, IsSliced, due_of, is_closed}
use Rattle.key_session.specs.declared.pace.Due.{Due}
use Rattle.key_session.specs.declared.pace.Due.TheVariants as due
use Rattle.key_session.specs.Refusing.{first_code}
use Rattle.key_session.specs.Unsent.{FarIsUnsent}
use Rattle.key_session.specs.Telling.{SessionSide, CameOut, IsTelling, KeepsFiles, texts_left}
use Rattle.key_session.specs.declared.counts.Counts.{Counts}
use Rattle.key_session.specs.declared.teller.Teller.{Teller}
use Rattle.key_session.specs.declared.session.Session.{Session}

-- ---- what a step needs, whatever the pages hold

-- beside some leases this one and one more are out, and there are as many buffers as a pool has at least
pub record IsOutAlone (leases : List ℕ) (pool : Pool) (lease : ℕ) : Type 0 where
  pub enough : 8 ≤ length pool.pages
  pub within : lease < length pool.pages
  pub out : get_or (others_out pool leases) lease false ≡ true
  pub free : count_by not (others_out pool leases) + 2 ≡ length pool.pages

-- the text with a number goes on
abbrev pub CanGoOn : (by : Plan) (pages_told : Bool) → Catalog → (number : ℕ) → Device → Pool → Option Telling → Type 0
CanGoOn by pages_told catalog number device pool None = ⊤
CanGoOn by pages_told catalog number device pool (Some telling) = CanTell by pages_told catalog (number % 2) device pool telling

abbrev pub leases_of : Option Telling → List ℕ
leases_of None = []
leases_of (Some telling) = lines.leases_of telling

-- it goes on, and is told, as before where others write only the other half of the spool, and use other buffers
abbrev pub RunIsSpared : Option Telling → Type 0
RunIsSpared None = ⊤
RunIsSpared (Some telling) = TellingStaysAble telling × TellingIsSpared telling

-- the text that is told goes on, and no buffer is out but its own, this one and one more
pub record CanRun (by : Plan) (pages_told : Bool) (catalog : Catalog) (device : Device) (pool : Pool) (number lease : ℕ) (running : Option Telling) : Type 0 where
  pub can : CanGoOn by pages_told catalog number device pool running
  pub alone : IsOutAlone (leases_of running) pool lease

pub record IsSomeRun (pages_told : Bool) (device : Device) (pool : Pool) (number : ℕ) (running : Option Telling) : Type 0 where
  pub by : Plan
  pub catalog : Catalog
  pub lease : ℕ
  pub run : CanRun by pages_told catalog device pool number lease running

-- the buffer of the frame at hand is none of the others
pub record IsApart (pool : Pool) (frame : ℕ) (teller : Teller) (kept : Replies) : Type 0 where
  pub out : IsOutAlone (leases_of teller.running) pool frame
  pub replies : frame ≢ lease_of kept

-- the text that is told goes on, and no buffer is out but its own, that of the replies and that of the frame at hand
pub record HasLeases (pages_told : Bool) (device : Device) (pool : Pool) (session : Session) : Type 0 where
  pub run : CanRun session.teller.plan pages_told session.cat.now device pool (session.teller.count + 1) (lease_of session.replies) session.teller.running
  pub apart : IsApart pool session.frame session.teller session.replies

-- what a session needs that has its buffers
pub record CanWork (pages_told : Bool) (device : Device) (pool : Pool) (session : Session) : Type 0 where
  pub version : session.cat.now.version ≡ current_version
  pub suffices : Suffices session.cat.now device
  pub has : HasLeases pages_told device pool session

-- something is due
abbrev pub IsLeft : Session → Type 0
IsLeft session = is_closed (want_of session.pump) ≡ true → is_some session.teller.ahead ≡ true

-- before the first step
pub record IsUnbegun (pool : Pool) (session : Session) : Type 0 where
  pub idle : IsIdle pool
  pub none : session.teller.running ≡ None
  pub opened : is_closed (want_of session.pump) ≡ false

pub record IsAtWork (pages_told : Bool) (device : Device) (pool : Pool) (session : Session) : Type 0 where
  pub has : HasLeases pages_told device pool session
  pub left : IsLeft session

-- after the last step
pub record IsAtEnd (pool : Pool) (session : Session) : Type 0 where
  pub idle : IsIdle pool
  pub closed : is_closed (want_of session.pump) ≡ true
  pub none : is_some session.teller.ahead ≡ false

-- the buffers of a session are out as long as something is due, from its first step on, and no others but those of the text that is told
abbrev pub HasBuffers : Buffers → (pages_told : Bool) → Device → Pool → Session → Type 0
HasBuffers buffers.Untaken pages_told device pool session = IsUnbegun pool session
HasBuffers buffers.Taken pages_told device pool session = IsAtWork pages_told device pool session
HasBuffers buffers.GivenBack pages_told device pool session = IsAtEnd pool session

pub record CanStep (pages_told : Bool) (device : Device) (pool : Pool) (session : Session) : Type 0 where
  pub version : session.cat.now.version ≡ current_version
  pub suffices : Suffices session.cat.now device
  pub buffers : HasBuffers session.buffers pages_told device pool session

-- for a device whose pages are told or not
pub record IsSomeStep (pool : Pool) (session : Session) : Type 0 where
  pub told : Bool
  pub device : Device
  pub can : CanStep told device pool session

pub record IsSomeWork (pool : Pool) (session : Session) : Type 0 where
  pub told : Bool
  pub device : Device
  pub can : CanWork told device pool session

-- the session with other leases
abbrev pub leased_to : (buffers : Buffers) (lease frame : ℕ) → Session → Session
leased_to buffers lease frame session = record session { buffers = buffers; replies = with_lease lease session.replies; frame = frame }

abbrev pub IsLeased : (before now : Session) → Type 0
IsLeased before now = now ≡ leased_to now.buffers (lease_of now.replies) now.frame before

-- ---- how much is left at most

abbrev pub steps_of : Option Telling → ℕ
steps_of None = 0
steps_of (Some telling) = lines.left_of telling

-- the texts that were not begun: each takes so many steps at most
abbrev pub unbegun : Teller → ℕ
unbegun teller = length teller.texts + (if is_some teller.ahead && not (is_some teller.running) then 1 else 0)

abbrev pub left_of : Teller → ℕ
left_of teller = most_left * unbegun teller + steps_of teller.running

-- the text ahead was told to its end, and this is told of it
pub record EndsText (result : Told) (one : ToldText) (old new : Teller) : Type 0 where
  pub plan : new.plan ≡ old.plan
  pub texts : (written : List ℕ) × (texts_left old ≡ written ∷ texts_left new)
  pub count : new.count ≡ old.count + 1
  pub running : new.running ≡ None
  pub counted : IsCounted (reason_of result) old.counts new.counts
  pub first : new.counts.damage ≡ first_damage old.counts.damage (damage_in result)
  pub told : told_in new.counts.told ≡ told_in old.counts.told ++ one ∷ []

-- ---- the live session

-- texts were told, which are settled as long as the link is open, and those that are not settled come no earlier than the last
-- whose reply was begun
pub record IsGoing (by : Plan) (pages_told : Bool) (catalog : Catalog) (texts : List (List ℕ)) (journal : Journal) (since : SessionSide) (sink : Handed) (device : Device) (pool : Pool) (pump : Pump) (left : List (List ℕ)) (count : ℕ) (counts : Counts) (replies : Replies) : Type 0 where
  pub top : ℕ
  pub telling : IsTelling by pages_told catalog texts journal top since sink device pool left count counts replies
  pub settled : (want_of pump ≡ want.Closed → ⊥) → (text : ℕ) → 1 ≤ text → text ≤ count → is_settled_in catalog texts journal text ≡ true
  pub onward : (text : ℕ) → is_settled_in catalog texts journal text ≡ false → top ≤ text

-- the asks of a text are over
pub record IsNext (catalog : Catalog) (texts : List (List ℕ)) (journal : Journal) (pump : Pump) (number : ℕ) : Type 0 where
  pub came : CameOut catalog texts journal number
  pub settled : (want_of pump ≡ want.Closed → ⊥) → is_settled_in catalog texts journal number ≡ true

-- The text at a place is told, by this state of its replies and what stands of them in its half of the spool, since the flash and
-- the sink were as at the first. The files of the session were as they are.
pub record IsTaken (by : Plan) (pages_told : Bool) (catalog : Catalog) (texts : List (List ℕ)) (journal : Journal) (place : ℕ) (state : ReplyState) (marked : Bool) (half : Half) (since : Device) (first now : SessionSide) (pool : Pool) (telling : Telling) : Type 0 where
  pub number : telling.number ≡ place + 1
  pub written : List ℕ
  pub stands : slice_get texts place ≡ Some written
  pub came : CameOut catalog texts journal (place + 1)
  pub is_state : state ≡ state_of (asked_of catalog.schema texts) (place + 1) (standing_after catalog (asked_of catalog.schema texts) journal)
  -- its half has the replies to its asks
  pub given : IsDone state marked false → pages_told ≡ true
      → AreRepliesOf first.flash.page catalog written half (replies catalog (asked_of catalog.schema texts) journal (place + 1))
  pub files : KeepsFiles catalog since first.flash
  pub under_way : IsUnderWay by pages_told catalog ((place + 1) % 2) written state marked half first.flash now.flash first.sink now.sink pool telling

-- and it is answered
pub record IsRunning (by : Plan) (pages_told : Bool) (catalog : Catalog) (texts : List (List ℕ)) (journal : Journal) (place : ℕ) (since : Device) (sink : Handed) (now : SessionSide) (pool : Pool) (kept : Replies) (telling : Telling) : Type 0 where
  pub start : Device
  pub half : Half
  pub taken : IsTaken by pages_told catalog texts journal place state_is.Done false half since (record { sink = sink; flash = start }) now pool telling
  pub query : Query
  pub accepted : reading catalog.schema taken.written ≡ Ok query
  pub unmarked : is_lost kept (place + 1) ≡ false

-- between two steps a text that is answered is told, since the sink was as at the first, or none
abbrev pub Runs : (by : Plan) (pages_told : Bool) → Catalog → (texts : List (List ℕ)) → Journal → (place : ℕ) → (since : Device) → (sink : Handed) → (now : SessionSide) → Pool → Replies → Option Telling → Type 0
Runs by pages_told catalog texts journal place since sink now pool kept None = now.sink ≡ sink
Runs by pages_told catalog texts journal place since sink now pool kept (Some telling) =
    IsRunning by pages_told catalog texts journal place since sink now pool kept telling

-- the texts of a session between two steps, each of which is answered by the plan
pub record IsAmid (by : Plan) (pages_told : Bool) (catalog : Catalog) (texts : List (List ℕ)) (journal : Journal) (since now : SessionSide) (pool : Pool) (pump : Pump) (teller : Teller) (kept : Replies) : Type 0 where
  pub plan : teller.plan ≡ by
  pub sink : Handed
  pub going : IsGoing by pages_told catalog texts journal since sink now.flash pool pump (texts_left teller) teller.count teller.counts kept
  pub running : Runs by pages_told catalog texts journal teller.count since.flash sink now pool kept teller.running

-- and in a slice, of a text that was taken up
pub record IsBegun (by : Plan) (pages_told : Bool) (catalog : Catalog) (texts : List (List ℕ)) (journal : Journal) (since now : SessionSide) (pool : Pool) (pump : Pump) (teller : Teller) (kept : Replies) : Type 0 where
  pub plan : teller.plan ≡ by
  pub first : SessionSide
  pub going : IsGoing by pages_told catalog texts journal since first.sink now.flash pool pump (texts_left teller) teller.count teller.counts kept
  pub next : (want_of pump ≡ want.Closed → ⊥) → is_settled_in catalog texts journal (teller.count + 1) ≡ true
  pub state : ReplyState
  pub half : Half
  pub telling : Telling
  pub runs : teller.running ≡ Some telling
  pub taken : IsTaken by pages_told catalog texts journal teller.count state (is_lost kept (teller.count + 1)) half since.flash first now pool telling

-- it was so with the buffer that the session had
pub record WasAmid (by : Plan) (pages_told : Bool) (catalog : Catalog) (texts : List (List ℕ)) (journal : Journal) (since now : SessionSide) (pump : Pump) (teller : Teller) (kept : Replies) : Type 0 where
  pub had : Pool
  pub lease : ℕ
  pub amid : IsAmid by pages_told catalog texts journal since now had pump teller (with_lease lease kept)

-- so it is with any buffer before the first step, with its own as long as it has it, and so it was with that one after the last step
abbrev pub Stands : Buffers → (by : Plan) (pages_told : Bool) → Catalog → (texts : List (List ℕ)) → Journal → (since now : SessionSide) → Pool → Pump → Teller → Replies → Type 0
Stands buffers.Untaken by pages_told catalog texts journal since now pool pump teller kept =
    (later : Pool) (lease : ℕ) → IsOut later lease → IsAmid by pages_told catalog texts journal since now later pump teller (with_lease lease kept)
Stands buffers.Taken by pages_told catalog texts journal since now pool pump teller kept = IsAmid by pages_told catalog texts journal since now pool pump teller kept
Stands buffers.GivenBack by pages_told catalog texts journal since now pool pump teller kept = WasAmid by pages_told catalog texts journal since now pump teller kept

-- The moves of a session, and its end of the channel: with any page before the first step, with that in its buffer as long as it has it,
-- and with one that it had after the last step.
abbrev pub Speaks : Buffers → Catalog → (at : List ℕ) (texts : List (List ℕ)) → Journal → Pool → (frame : ℕ) → Pump → Type 0
Speaks buffers.Untaken catalog at texts journal pool frame pump = (page : List ℕ) → moves.IsLive catalog at (asked_of catalog.schema texts) journal pump page
Speaks buffers.Taken catalog at texts journal pool frame pump = moves.IsLive catalog at (asked_of catalog.schema texts) journal pump (bytes_at pool frame)
Speaks buffers.GivenBack catalog at texts journal pool frame pump = (page : List ℕ) × moves.IsLive catalog at (asked_of catalog.schema texts) journal pump page

-- A session that went by a journal: its moves and its end of the channel; the texts that were told, with their lines, reasons
-- and counts, the replies that are kept for the others, and the rows given and to come of the text that is told now; and the
-- first ask that the host refused.
pub record IsLive (by : Plan) (pages_told : Bool) (texts : List (List ℕ)) (journal : Journal) (since now : SessionSide) (pool : Pool) (session : Session) : Type 0 where
  pub channel : Speaks session.buffers session.cat.now session.at.now texts journal pool session.frame session.pump
  pub amid : Stands session.buffers by pages_told session.cat.now texts journal since now pool session.pump session.teller session.replies
  pub refusal_is : session.refusal ≡ first_code (heard_in session.cat.now texts journal).ended
  -- slices are allowed only behind rows of a reply, the end of which is awaited then
  pub owed : 0 < session.pace.owed → is_some (moves.asked_in (heard_in session.cat.now texts journal).awaits) ≡ true
  -- an ask at hand of a text two or more behind the one that comes next is the first of its text, was not sent, and is sent next
  pub far : FarIsUnsent session.cat.now session.at.now texts journal session.teller.count

-- one more move was made, which led to an event: of the channel, the texts and the first refusal
pub record MovedOn (goes : Journal → Type 0) (by : Plan) (pages_told : Bool) (catalog : Catalog) (at : List ℕ) (texts : List (List ℕ)) (journal : Journal) (since : SessionSide) (before : Device) (now : SessionSide) (pool : Pool) (event : Event) (pump : Pump) (frame : ℕ) (teller : Teller) (kept : Replies) (refusal : Option ℕ) : Type 0 where
  pub made : Entry
  pub went : goes (made ∷ [])
  pub channel : moves.IsLive catalog at (asked_of catalog.schema texts) (journal ++ made ∷ []) pump (bytes_at pool frame)
  pub tells : Tells catalog (bytes_at pool frame) event (heard_in catalog texts journal) (heard_in catalog texts (journal ++ made ∷ []))
  pub same_ask : moves.leads_on event ≡ false → moves.asked_in (heard_in catalog texts (journal ++ made ∷ [])).awaits ≡ moves.asked_in (heard_in catalog texts journal).awaits
  pub fills : FillsPages catalog.schema (teller.count + 1) (heard_in catalog texts journal) (heard_in catalog texts (journal ++ made ∷ [])) before now.flash kept
  pub amid : IsAmid by pages_told catalog texts (journal ++ made ∷ []) since now pool pump teller kept
  pub refusal_is : refusal ≡ first_code (heard_in catalog texts (journal ++ made ∷ [])).ended

-- One more move was made, and the pace goes by what it led to. The flash was called twice at most for each page of the spool that
-- this completes, and else not at all. So it was for each that is filled by what was heard.
pub record WasMoved (goes : Journal → Type 0) (by : Plan) (pages_told : Bool) (texts : List (List ℕ)) (journal : Journal) (since before now : SessionSide) (pool : Pool) (old session : Session) : Type 0 where
  pub made : Entry
  pub went : goes (made ∷ [])
  pub event : Event
  pub page : List ℕ
  pub tells : Tells session.cat.now page event (heard_in session.cat.now texts journal) (heard_in session.cat.now texts (journal ++ made ∷ []))
  pub paced : IsPaced event old.pace session.pace
  pub few : now.flash.calls ≤ before.flash.calls + 2 * pages_on event session.replies.hand old.replies.spool session.replies.spool
  pub fills : FillsPages session.cat.now.schema (old.teller.count + 1) (heard_in session.cat.now texts journal) (heard_in session.cat.now texts (journal ++ made ∷ [])) before.flash now.flash session.replies
  pub counts : CountsStay before.flash now.flash
  pub cat : session.cat.now ≡ old.cat.now
  pub teller : session.teller ≡ old.teller
  pub live : IsLive by pages_told texts (journal ++ made ∷ []) since now pool session

-- no move was made, and the pace goes by the slice; by the plan `pre`, its calls are spent for the text that is told
pub record WasSliced (goes : Journal → Type 0) (by : Plan) (pages_told : Bool) (texts : List (List ℕ)) (journal : Journal) (since before now : SessionSide) (pool : Pool) (old session : Session) : Type 0 where
  pub went : goes []
  pub sliced : IsSliced old.pace session.pace
  pub spends : by ≡ by_pre → SpendsCalls pages_told since.flash.page old.cat.now texts journal before.flash now.flash old.teller session.teller
  pub counts : CountsStay before.flash now.flash
  pub cat : session.cat.now ≡ old.cat.now
  pub live : IsLive by pages_told texts journal since now pool session

-- a step made what was due, and the session lives on
abbrev pub WentOn : Due → (goes : Journal → Type 0) → (by : Plan) (pages_told : Bool) → (texts : List (List ℕ)) → Journal → (since before now : SessionSide) → Pool → (old session : Session) → Type 0
WentOn due.Move goes by pages_told texts journal since before now pool old session = WasMoved goes by pages_told texts journal since before now pool old session
WentOn due.Slice goes by pages_told texts journal since before now pool old session = WasSliced goes by pages_told texts journal since before now pool old session
WentOn due.Ended goes by pages_told texts journal since before now pool old session = ⊥

-- no ask of a text behind this one is at hand
abbrev pub IsNear : Catalog → (texts : List (List ℕ)) → Journal → (most : ℕ) → Type 0
IsNear catalog texts journal most =
    (asked : NumberedAsk) → moves.asked_in (heard_in catalog texts journal).awaits ≡ Some asked → asked.text ≤ most

-- a session stands before a move, with some texts and moves
pub record IsMove (pages_told : Bool) (catalog : Catalog) (at : List ℕ) (device : Device) (pool : Pool) (pump : Pump) (frame : ℕ) (teller : Teller) (kept : Replies) : Type 0 where
  pub by : Plan
  pub texts : List (List ℕ)
  pub journal : Journal
  pub since : SessionSide
  pub sink : Handed
  pub near : IsNear catalog texts journal (teller.count + 2)
  pub channel : moves.IsLive catalog at (asked_of catalog.schema texts) journal pump (bytes_at pool frame)
  pub amid : IsAmid by pages_told catalog texts journal since (record { sink = sink; flash = device }) pool pump teller kept

pub record IsSomeMove (pages_told : Bool) (catalog : Catalog) (at : List ℕ) (device : Device) (pool : Pool) (pump : Pump) (frame : ℕ) (kept : Replies) : Type 0 where
  pub teller : Teller
  pub spared : RunIsSpared teller.running
  pub apart : IsApart pool frame teller kept
  pub move : IsMove pages_told catalog at device pool pump frame teller kept

-- some session has such moves, texts and counts
pub record IsSomeLive (pages_told : Bool) (now : SessionSide) (pool : Pool) (session : Session) : Type 0 where
  pub by : Plan
  pub texts : List (List ℕ)
  pub journal : Journal
  pub since : SessionSide
  pub live : IsLive by pages_told texts journal since now pool session

-- What a step does that is due, whatever the pages hold. A move gives no line, and of the pages it changes none but those of the
-- half of the text whose ask is at hand. How often it calls the flash, `WasMoved` says: it goes by what the move led to.
pub record MakesMove (before after : SessionSide) (old new : Session) : Type 0 where
  pub sink : after.sink ≡ before.sink
  pub writes : WritesHalf old.cat.now new.replies.hand.text before.flash after.flash
  pub teller : new.teller ≡ old.teller
  pub fewer : moves_left new.pump + 1 ≤ moves_left old.pump

-- A slice gives one line, or none and it calls the flash, eight times at most. The channel stays as it is, and so do all pages, but
-- for those behind the spool that a job by the indexes gathers its candidates in.
pub record MakesSlice (before after : SessionSide) (old new : Session) : Type 0 where
  pub pump : new.pump ≡ old.pump
  pub turn : TakesTurn before.sink after.sink before.flash.calls after.flash.calls
  pub few : after.flash.calls ≤ before.flash.calls + 8
  -- as long as the text goes on its job counts each of them
  pub counted : is_some new.teller.running ≡ true → AreCountedBy (spent_by old.teller.running) (spent_by new.teller.running) before.flash.calls after.flash.calls
  pub kept : KeepsBy old.teller.plan old.cat.now before.flash after.flash
  pub fewer : left_of new.teller + 1 ≤ left_of old.teller
  pub sliced : IsSliced old.pace new.pace

abbrev pub MadeStep : Due → (before after : SessionSide) → (old new : Session) → Type 0
MadeStep due.Move before after old new = MakesMove before after old new
MadeStep due.Slice before after old new = MakesSlice before after old new
MadeStep due.Ended before after old new = ⊥

-- what is due of a session, whose channel went by a journal
abbrev pub due_in : Catalog → (asks : List NumberedAsk) → Journal → Session → Due
due_in catalog asks journal session =
    due_of (is_closed (want_of session.pump)) (is_some session.teller.ahead) session.pace.owed (session.teller.count + 1)
    (option_map (λ (asked : NumberedAsk). asked.text) (asked_at (heard catalog asks (taken journal)).awaits))

-- The rule of what is due. The text that comes next is ready where all its asks are ended, and on a closed link every ask counts as
-- ended. A slice of it is due where the pace still allows one, the link is closed, or an ask of a text two behind it at least is at
-- hand. Else a move is due, unless the link is closed.
abbrev pub is_ready : (closed : Bool) → Catalog → (texts : List (List ℕ)) → Journal → (number : ℕ) → Bool
is_ready closed catalog texts journal number = closed || is_settled_in catalog texts journal number

abbrev pub is_far : (number : ℕ) → Option NumberedAsk → Bool
is_far number None = false
is_far number (Some asked) = nat_le (number + 2) asked.text

abbrev pub rule_of : (closed left ready allowed far : Bool) → Due
rule_of closed left ready allowed far =
    if left && (ready && (allowed || (closed || far))) then due.Slice
    else if closed then due.Ended else due.Move

abbrev pub due_by_rule : Catalog → (texts : List (List ℕ)) → Journal → Session → Due
due_by_rule catalog texts journal session =
    rule_of (is_closed (want_of session.pump)) (is_some session.teller.ahead)
    (is_ready (is_closed (want_of session.pump)) catalog texts journal (session.teller.count + 1))
    (nat_lt 0 session.pace.owed) (is_far (session.teller.count + 1) (moves.asked_in (heard_in catalog texts journal).awaits))

-- how many steps are left at most
abbrev pub steps_left : Session → ℕ
steps_left session = moves_left session.pump + left_of session.teller
