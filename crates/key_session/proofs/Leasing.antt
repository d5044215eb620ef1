-- A session takes its buffer before its first step, and gives it back after its last.
use Rattle.std.proofs.Common.{◌≡◌, ◌≤◌, ◌+◌, ◌*◌, ℕ, Bool, true, false, List, refl, sym, ◌∙◌, ap, subst, []}
use Rattle.std.specs.Prelude.{is_some}
use Rattle.ghost_model.specs.core.Channel.{Catalog, Journal}
use Rattle.ghost_model.specs.core.Asks.{NumberedAsk, asked_of}
use Rattle.edge_traits.specs.Devices.{Device}
use Rattle.page_pool.specs.Pools.{IsOut, Pool, IsIdle, bytes_at}
use Rattle.channel_pump.specs.Sessions as moves
use Rattle.channel_pump.specs.State.{IsAfter, want_of}
use Rattle.channel_pump.specs.declared.state.Pump.{Pump}
use Rattle.leakless_plan.specs.declared.plan.Plan.{Plan}
use Rattle.channel_pump.specs.declared.state.Event.{Event}
use Rattle.channel_pump.specs.declared.state.Event.TheVariants as event_is
use Rattle.key_session.specs.Hearing.{pages_on}
use Rattle.key_session.specs.Kept.{lease_of}
use Rattle.key_session.specs.Order.{is_closed}
use Rattle.key_session.specs.Telling.{SessionSide}
use Rattle.key_session.specs.Going.{CanStep, HasBuffers, IsAmid, IsLive, MadeStep, Speaks, Stands, WasAmid, WentOn, leased_to}
use Rattle.key_session.specs.declared.buffers.Buffers.{Buffers}
use Rattle.key_session.specs.declared.buffers.Buffers.TheVariants as buffers
use Rattle.key_session.specs.declared.pace.Due.{Due}
use Rattle.key_session.specs.declared.pace.Due.TheVariants as due
use Rattle.key_session.specs.declared.replies.Replies.{Replies}
use Rattle.key_session.specs.declared.session.Session.{Session}
use Rattle.key_session.specs.declared.teller.Teller.{Teller}
use Rattle.key_session.proofs.KeptLaws.{out_somewhere}

true_false : true ≡ false → ⊥
true_false e = cc

-- the texts of a session, wherever its buffer is
pub some_amid : (where_it_is : Buffers) (plan : Plan) (told : Bool) (catalog : Catalog) (texts : List (List ℕ)) (journal : Journal) (since now : SessionSide) (pool : Pool) (pump : Pump) (teller : Teller) (kept : Replies)
    → Stands where_it_is plan told catalog texts journal since now pool pump teller kept → WasAmid plan told catalog texts journal since now pump teller kept
some_amid buffers.Untaken plan told catalog texts journal since now pool pump teller kept stands =
    let out = out_somewhere 0 in
    record { had = out.0; lease = 0; amid = stands out.0 0 out.1 }
some_amid buffers.Taken plan told catalog texts journal since now pool pump teller kept amid = record { had = pool; lease = lease_of kept; amid = amid }
some_amid buffers.GivenBack plan told catalog texts journal since now pool pump teller kept was = was

pub was_amid : (plan : Plan) (told : Bool) (texts : List (List ℕ)) (journal : Journal) (since now : SessionSide) (pool : Pool) (session : Session) → IsLive plan told texts journal since now pool session
    → WasAmid plan told session.cat.now texts journal since now session.pump session.teller session.replies
was_amid plan told texts journal since now pool session live =
    some_amid session.buffers plan told session.cat.now texts journal since now pool session.pump session.teller session.replies live.amid

pub taken_amid : (plan : Plan) (told : Bool) (texts : List (List ℕ)) (journal : Journal) (since now : SessionSide) (pool : Pool) (session : Session) → session.buffers ≡ buffers.Taken
    → IsLive plan told texts journal since now pool session → IsAmid plan told session.cat.now texts journal since now pool session.pump session.teller session.replies
taken_amid plan told texts journal since now pool session taken live =
    subst (λ (b : Buffers). Stands b plan told session.cat.now texts journal since now pool session.pump session.teller session.replies) taken live.amid

-- its moves, and its end of the channel
pub some_spoken : (where_it_is : Buffers) (catalog : Catalog) (at : List ℕ) (texts : List (List ℕ)) (journal : Journal) (pool : Pool) (frame : ℕ) (pump : Pump) → Speaks where_it_is catalog at texts journal pool frame pump
    → (page : List ℕ) × moves.IsLive catalog at (asked_of catalog.schema texts) journal pump page
some_spoken buffers.Untaken catalog at texts journal pool frame pump speaks = ([], speaks [])
some_spoken buffers.Taken catalog at texts journal pool frame pump live = (bytes_at pool frame, live)
some_spoken buffers.GivenBack catalog at texts journal pool frame pump spoke = spoke

pub spoken : (told : Bool) (plan : Plan) (texts : List (List ℕ)) (journal : Journal) (since now : SessionSide) (pool : Pool) (session : Session) → IsLive plan told texts journal since now pool session
    → (page : List ℕ) × moves.IsLive session.cat.now session.at.now (asked_of session.cat.now.schema texts) journal session.pump page
spoken told plan texts journal since now pool session live = some_spoken session.buffers session.cat.now session.at.now texts journal pool session.frame session.pump live.channel

pub taken_channel : (catalog : Catalog) (at : List ℕ) (texts : List (List ℕ)) (journal : Journal) (pool : Pool) (frame : ℕ) (pump : Pump) (where_it_is : Buffers) → where_it_is ≡ buffers.Taken
    → Speaks where_it_is catalog at texts journal pool frame pump → moves.IsLive catalog at (asked_of catalog.schema texts) journal pump (bytes_at pool frame)
taken_channel catalog at texts journal pool frame pump where_it_is taken speaks = subst (λ (b : Buffers). Speaks b catalog at texts journal pool frame pump) taken speaks

pub none_running : (teller : Teller) → is_some teller.ahead ≡ false → is_some teller.running ≡ false
none_running teller none = by (is_some teller.running) refl
  where
    by : (some : Bool) → is_some teller.running ≡ some → is_some teller.running ≡ false
    by false e = e
    by true e = absurd (true_false (sym (teller.told_now e) ∙ none))

-- where nothing is due it gave its buffer back
pub idle_at_end : (told : Bool) (device : Device) (pool : Pool) (session : Session) → CanStep told device pool session → is_closed (want_of session.pump) ≡ true → is_some session.teller.ahead ≡ false → IsIdle pool
idle_at_end told device pool session can closed none = by session.buffers can.buffers
  where
    by : (b : Buffers) → HasBuffers b told device pool session → IsIdle pool
    by buffers.Untaken has = absurd (true_false (sym closed ∙ has.opened))
    by buffers.Taken has = absurd (true_false (sym (has.left closed) ∙ none))
    by buffers.GivenBack has = has.idle

pub live_taken : (plan : Plan) (told : Bool) (texts : List (List ℕ)) (journal : Journal) (since now : SessionSide) (pool more : Pool) (lease frame : ℕ) (session : Session) → session.buffers ≡ buffers.Untaken → IsOut more lease
    → IsLive plan told texts journal since now pool session → IsLive plan told texts journal since now more (leased_to buffers.Taken lease frame session)
live_taken plan told texts journal since now pool more lease frame session untaken out live = record {
  channel = subst (λ (b : Buffers). Speaks b session.cat.now session.at.now texts journal pool session.frame session.pump) untaken live.channel (bytes_at more frame);
  amid = subst (λ (b : Buffers). Stands b plan told session.cat.now texts journal since now pool session.pump session.teller session.replies) untaken live.amid more lease out;
  refusal_is = live.refusal_is;
  owed = live.owed;
  far = live.far;
}

pub live_given : (plan : Plan) (told : Bool) (texts : List (List ℕ)) (journal : Journal) (since now : SessionSide) (pool more : Pool) (lease frame : ℕ) (session : Session) → session.buffers ≡ buffers.Taken
    → IsLive plan told texts journal since now pool session → IsLive plan told texts journal since now more (leased_to buffers.GivenBack lease frame session)
live_given plan told texts journal since now pool more lease frame session taken live = record {
  channel = (bytes_at pool session.frame, taken_channel session.cat.now session.at.now texts journal pool session.frame session.pump session.buffers taken live.channel);
  amid = record { had = pool; lease = lease_of session.replies; amid = taken_amid plan told texts journal since now pool session taken live };
  refusal_is = live.refusal_is;
  owed = live.owed;
  far = live.far;
}

-- ---- a step between the two

-- how many pages an event completes goes by no lease
same_pages : (event : Event) (b later : Buffers) (lease another frame last : ℕ) (old worked : Session)
    → pages_on event worked.replies.hand (leased_to b lease frame old).replies.spool worked.replies.spool ≡ pages_on event worked.replies.hand old.replies.spool (leased_to later another last worked).replies.spool
same_pages event_is.Part b later lease another frame last old worked = refl
same_pages event_is.Welcome b later lease another frame last old worked = refl
same_pages (event_is.Rows _) b later lease another frame last old worked = refl
same_pages event_is.Done b later lease another frame last old worked = refl
same_pages (event_is.Sorry _) b later lease another frame last old worked = refl
same_pages (event_is.Invalid _ _) b later lease another frame last old worked = refl

module _ (goes : Journal → Type 0) (plan : Plan) (told : Bool) (texts : List (List ℕ)) (journal : Journal) (since before now : SessionSide) (pool more : Pool) (old worked : Session) (b later : Buffers) (lease another frame last : ℕ)
    (lives : (after : Journal) → IsLive plan told texts after since now pool worked → IsLive plan told texts after since now more (leased_to later another last worked)) where
  pub went_with : (d : Due) → WentOn d goes plan told texts journal since before now pool (leased_to b lease frame old) worked → WentOn d goes plan told texts journal since before now more old (leased_to later another last worked)
  went_with due.Move moved = record {
    made = moved.made;
    went = moved.went;
    event = moved.event;
    page = moved.page;
    tells = moved.tells;
    paced = moved.paced;
    few = subst (λ (pages : ℕ). now.flash.calls ≤ before.flash.calls + 2 * pages) (same_pages moved.event b later lease another frame last old worked) moved.few;
    fills = moved.fills;
    counts = moved.counts;
    cat = moved.cat;
    teller = moved.teller;
    live = lives _ moved.live;
  }
  went_with due.Slice sliced = record {
    went = sliced.went;
    sliced = sliced.sliced;
    spends = sliced.spends;
    counts = sliced.counts;
    cat = sliced.cat;
    live = lives _ sliced.live;
  }
  went_with due.Ended none = none

pub made_with : (before now : SessionSide) (old worked : Session) (b later : Buffers) (lease another frame last : ℕ) (d : Due) → MadeStep d before now (leased_to b lease frame old) worked → MadeStep d before now old (leased_to later another last worked)
made_with before now old worked b later lease another frame last due.Move made = record { sink = made.sink; writes = made.writes; teller = made.teller; fewer = made.fewer }
made_with before now old worked b later lease another frame last due.Slice made = record {
  pump = made.pump;
  turn = made.turn;
  few = made.few;
  counted = made.counted;
  kept = made.kept;
  fewer = made.fewer;
  sliced = made.sliced;
}
made_with before now old worked b later lease another frame last due.Ended none = none

pub after_still : (catalog : Catalog) (asks : List NumberedAsk) (journal : Journal) (old held : Session) → held ≡ leased_to held.buffers (lease_of held.replies) held.frame old → IsAfter catalog asks journal old.pump
    → IsAfter catalog asks journal held.pump
after_still catalog asks journal old held same after = subst (λ (pump : Pump). IsAfter catalog asks journal pump) (sym (ap (λ (session : Session). session.pump) same)) after
