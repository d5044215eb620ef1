-- A text that is begun, goes on and ends, between the moves of a session.
use Rattle.std.proofs.Common.{◌≡◌, ◌≤◌, ◌<◌, ℕ, suc, ◌+◌, inl, inr, arith, Bool, true, false, List, [], ◌∷◌, length, refl, sym, ◌∙◌, subst, Option, Some, None, Ok, slice_get}
use Rattle.std.specs.Prelude.{◌%◌, is_some, min, not, get_or, count_by}
use Rattle.ghost_model.specs.core.Causes.{last_count}
use Rattle.ghost_model.specs.core.Channel.{Catalog, Journal}
use Rattle.ghost_model.specs.core.Query.{Query}
use Rattle.ghost_model.specs.core.Asks.{asked_of}
use Rattle.ghost_model.specs.core.Moves.{taken}
use Rattle.ghost_model.specs.core.NextMove.{Heard, standing_after}
use Rattle.ghost_model.specs.core.Replies.{replies}
use Rattle.ghost_model.specs.forms.Frames.{AreBytes}
use Rattle.ghost_model.specs.laws.SchemaTrees.{IsTree}
use Rattle.ghost_model.specs.readings.QueryReading.{reading}
use Rattle.ghost_laws.specs.Selected.{AreWholeReplies, RepliesAreWhole}
use Rattle.ghost_model.specs.forms.Layout.{spool_end, scratch_end}
use Rattle.edge_traits.specs.Devices.{Device, ChangesOnly}
use Rattle.page_pool.specs.Pools.{Pool, KeepsOthers, others_out}
use Rattle.page_pool.proofs.Leases.{other_out}
use Rattle.channel_pump.specs.Marks.{state_of}
use Rattle.channel_pump.specs.declared.state.Pump.{Pump}
use Rattle.channel_pump.specs.declared.state.ReplyState.{ReplyState}
use Rattle.channel_pump.specs.declared.state.ReplyState.TheVariants as state_is
use Rattle.session_laws.specs.TextEnds.{heard_in, is_settled_in}
use Rattle.session_laws.specs.TextCases.{TextsAreDecided}
use Rattle.visible_spool.specs.declared.half.Half.{Half}
use Rattle.key_session.specs.Kept.{IsKept, is_lost, half_in, lease_of}
use Rattle.key_session.specs.Given.{KeptAreGiven, KeptAreOfRows}
use Rattle.key_session.specs.Laws.{RepliesStayKept, LaterTextsAreUnmarked, LowRises}
use Rattle.key_session.specs.declared.replies.Replies.{Replies}
use Rattle.key_lines.specs.Handing.{Handed, PiecesJoin}
use Rattle.candidate_rows.specs.Laws.{WholeRepliesAreToAsks}
use Rattle.edge_traits.proofs.DeviceFrames.{changes_kept}
use Rattle.leakless_plan.specs.declared.plan.Plan.{Plan}
use Rattle.leakless_plan.specs.declared.plan.Plan.TheVariants.{Scan, Linked}
use Rattle.key_exec.specs.Reading.{KeepsBy}
use Rattle.key_exec.specs.Laws.{WholeRepliesAreOfAsked, WholeRepliesAreOfAll}
use Rattle.key_exec.specs.Texts.{IsAccepted, IsDone, ToldTells}
use Rattle.key_exec.specs.Telling as lines
use Rattle.key_lines.specs.declared.told.ToldText.{ToldText}
use Rattle.key_exec.specs.Telling.{CanTell, IsUnderWay, HasTold, GoesOn, AreRepliesOf, AreRepliesTo}
use Rattle.key_exec.specs.declared.telling.Telling.{Telling}
use Rattle.key_exec.specs.declared.text.Told.{Told}
use Rattle.key_session.specs.Reasons.{AreBlamed}
use Rattle.key_session.specs.Telling.{SessionSide, IsTelling, marks_behind, texts_left}
use Rattle.key_session.specs.Going.{CanRun, IsGoing, IsNext, IsTaken, IsRunning, Runs, IsAmid, IsBegun, IsOutAlone, EndsText, leases_of}
use Rattle.key_session.specs.declared.counts.Counts.{Counts}
use Rattle.key_session.specs.declared.teller.Teller.{Teller}
use Rattle.key_session.proofs.Coming.{done_so}
use Rattle.key_session.proofs.OneMore.{PageLaws, tell_one, no_fall, files_kept}
use Rattle.key_session.proofs.Readings.{read_later}
use Rattle.key_session.proofs.Marking.{marked_same}
use Rattle.key_session.proofs.Adding.{next_of, still_no_fall, rose_before, either_of}

-- ---- the text that comes next is taken up

-- what the laws say of replies that were all given
pub record ReplyLaws : Type 0 where
  pub whole : RepliesAreWhole
  pub to_asks : WholeRepliesAreToAsks
  pub of_asked : WholeRepliesAreOfAsked
  pub of_all : WholeRepliesAreOfAll
  pub given : KeptAreGiven
  pub rows : KeptAreOfRows

module _ (laws : ReplyLaws) (decided : TextsAreDecided) (pages_told : Bool) (catalog : Catalog) (texts : List (List ℕ)) (journal : Journal) (bytes : AreBytes (taken journal))
    (device : Device) (pool : Pool) (top count : ℕ) (store : Replies) (written : List ℕ) (stands : slice_get texts count ≡ Some written) (state : ReplyState)
    (is_state : state ≡ state_of (asked_of catalog.schema texts) (count + 1) (standing_after catalog (asked_of catalog.schema texts) journal))
    (kept : IsKept pages_told device pool catalog (heard_in catalog texts journal) (count + 1) top store) where
  next : count + 1 ≡ suc count
  next = omega arith

  whole_now : state ≡ state_is.Done → (query : Query) → reading catalog.schema written ≡ Ok query
      → AreWholeReplies catalog.schema query (replies catalog (asked_of catalog.schema texts) journal (count + 1))
  whole_now done query accepted =
      let so = done_so catalog texts journal (suc count) (subst (λ (n : ℕ). state_of (asked_of catalog.schema texts) n (standing_after catalog (asked_of catalog.schema texts) journal) ≡ state_is.Done) next (sym is_state ∙ done)) in
      let is = decided catalog texts journal count written query stands accepted in
      subst (λ (n : ℕ). AreWholeReplies catalog.schema query (replies catalog (asked_of catalog.schema texts) journal n)) (sym next)
      (laws.whole catalog texts journal count written query bytes stands accepted (is.done ∙ rw (so.0, so.1) refl))

  pub given_now : IsDone state (is_lost store (count + 1)) false → pages_told ≡ true
      → AreRepliesOf device.page catalog written (half_in store (count + 1)) (replies catalog (asked_of catalog.schema texts) journal (count + 1))
  given_now done is_told query accepted =
      let whole = whole_now done.0 query accepted in
      let here : IsKept true device pool catalog (heard_in catalog texts journal) (count + 1) top store =
      subst (λ (b : Bool). IsKept b device pool catalog (heard_in catalog texts journal) (count + 1) top store) is_told kept in
      let held = laws.given device pool catalog (asked_of catalog.schema texts) journal (count + 1) top (count + 1) store here (omega arith) done.1 in
      record {
        held = λ table reply about. (let one = held table reply about in record {
          ask_is = laws.to_asks catalog.schema query (replies catalog (asked_of catalog.schema texts) journal (count + 1)) whole table reply about;
          rows = one.rows;
          holds = one.holds;
          kinds_are = one.kinds_are;
          are = one.are;
        });
        of_asked = laws.of_asked catalog.schema query (replies catalog (asked_of catalog.schema texts) journal (count + 1)) whole;
        all_asked = laws.of_all catalog.schema query (replies catalog (asked_of catalog.schema texts) journal (count + 1)) whole;
        of_rows = laws.rows device pool catalog (asked_of catalog.schema texts) journal (count + 1) top (count + 1) store here (omega arith) done.1;
      }

-- the text at the front of those that are left
module _ (laws : ReplyLaws) (decided : TextsAreDecided) (plan : Plan) (pages_told : Bool) (catalog : Catalog) (texts : List (List ℕ)) (journal : Journal) (bytes : AreBytes (taken journal)) (since now : SessionSide) (pool : Pool) (pump : Pump)
    (left : List (List ℕ)) (count : ℕ) (counts : Counts) (store : Replies) (written : List ℕ) (later : List (List ℕ)) (state : ReplyState) (telling : Telling)
    (going : IsGoing plan pages_told catalog texts journal since now.sink now.flash pool pump left count counts store) (is_left : left ≡ written ∷ later) (next : IsNext catalog texts journal pump (count + 1))
    (is_state : state ≡ state_of (asked_of catalog.schema texts) (count + 1) (standing_after catalog (asked_of catalog.schema texts) journal)) (number : telling.number ≡ count + 1)
    (under_way : IsUnderWay plan pages_told catalog ((count + 1) % 2) written state (is_lost store (count + 1)) (half_in store (count + 1)) now.flash now.flash now.sink now.sink pool telling) where
  pub taken_now : IsTaken plan pages_told catalog texts journal count state (is_lost store (count + 1)) (half_in store (count + 1)) since.flash now now pool telling
  taken_now = record {
    number = number;
    written = written;
    stands = here;
    came = next.came;
    is_state = is_state;
    given = given_now laws decided pages_told catalog texts journal bytes now.flash pool going.top count store written here state is_state going.telling.kept;
    files = going.telling.pages;
    under_way = under_way;
  }
    where
      here : slice_get texts count ≡ Some written
      here = next_of texts count written later (sym going.telling.left_are.left_are ∙ is_left)

false_true : false ≡ true → ⊥
false_true e = cc

true_false : true ≡ false → ⊥
true_false e = cc

-- a text that was taken up before
pub taken_before : (plan : Plan) (pages_told : Bool) (catalog : Catalog) (texts : List (List ℕ)) (journal : Journal) (since now : SessionSide) (pool : Pool) (pump : Pump) (teller : Teller) (store : Replies) → is_some teller.running ≡ true
    → IsAmid plan pages_told catalog texts journal since now pool pump teller store → IsBegun plan pages_told catalog texts journal since now pool pump teller store
taken_before plan pages_told catalog texts journal since now pool pump teller store some amid = by teller.running refl some amid.running
  where
    by : (running : Option Telling) → teller.running ≡ running → is_some running ≡ true → Runs plan pages_told catalog texts journal teller.count since.flash amid.sink now pool store running
        → IsBegun plan pages_told catalog texts journal since now pool pump teller store
    by None e some runs = absurd (false_true some)
    by (Some telling) e some runs = record {
      plan = amid.plan;
      first = record { sink = amid.sink; flash = runs.start };
      going = amid.going;
      next = λ opened. (done_so catalog texts journal (teller.count + 1) (sym runs.taken.is_state)).1;
      state = state_is.Done;
      half = runs.half;
      telling = telling;
      runs = e;
      taken = subst (λ (b : Bool). IsTaken plan pages_told catalog texts journal teller.count state_is.Done b runs.half since.flash (record { sink = amid.sink; flash = runs.start }) now pool telling) (sym runs.unmarked) runs.taken;
    }

pub none_taken : (plan : Plan) (pages_told : Bool) (catalog : Catalog) (texts : List (List ℕ)) (journal : Journal) (since now : SessionSide) (pool : Pool) (pump : Pump) (teller : Teller) (store : Replies) → is_some teller.running ≡ false
    → IsAmid plan pages_told catalog texts journal since now pool pump teller store → IsGoing plan pages_told catalog texts journal since now.sink now.flash pool pump (texts_left teller) teller.count teller.counts store
none_taken plan pages_told catalog texts journal since now pool pump teller store none amid = by teller.running none amid.running
  where
    by : (running : Option Telling) → is_some running ≡ false → Runs plan pages_told catalog texts journal teller.count since.flash amid.sink now pool store running
        → IsGoing plan pages_told catalog texts journal since now.sink now.flash pool pump (texts_left teller) teller.count teller.counts store
    by (Some telling) none runs = absurd (true_false none)
    by None none runs = subst (λ (sink : Handed). IsGoing plan pages_told catalog texts journal since sink now.flash pool pump (texts_left teller) teller.count teller.counts store) (sym runs) amid.going

-- ---- a step reads pages, and may write some behind the spool, while a text is told

pub keeps_spool : (plan : Plan) (catalog : Catalog) (before now : Device) → KeepsBy plan catalog before now → ChangesOnly (spool_end catalog) (scratch_end catalog) before now
keeps_spool Scan catalog before now keeps = changes_kept keeps _ _
keeps_spool (Linked forced) catalog before now keeps = keeps

pub telling_spared : (plan : Plan) (pages_told : Bool) (catalog : Catalog) (texts : List (List ℕ)) (journal : Journal) (top : ℕ) (since : SessionSide) (sink : Handed) (before now : Device) (pool more : Pool) (left : List (List ℕ)) (count : ℕ) (counts : Counts) (store : Replies)
    → ChangesOnly (spool_end catalog) (scratch_end catalog) before now → now.faults ≡ before.faults → IsKept pages_told now more catalog (heard_in catalog texts journal) (count + 1) top store
    → IsTelling plan pages_told catalog texts journal top since sink before pool left count counts store
    → IsTelling plan pages_told catalog texts journal top since sink now more left count counts store
telling_spared plan pages_told catalog texts journal top since sink before now pool more left count counts store keeps faults kept telling =
    let calls : min before.calls last_count ≤ now.calls = no_fall last_count before.calls now.calls keeps.never_falls in
    record {
      left_are = telling.left_are;
      kept = kept;
      near = telling.near;
      within = telling.within;
      pages = files_kept catalog since.flash before now telling.pages keeps;
      calls = still_no_fall last_count since.flash.calls before.calls now.calls telling.calls calls;
      called = λ e. rose_before last_count since.flash.calls before.calls now.calls (telling.called e) calls;
      damage_called = λ e. rose_before last_count since.flash.calls before.calls now.calls (telling.damage_called e) calls;
      faults = subst (λ (n : ℕ). min since.flash.faults last_count ≤ n) (sym faults) telling.faults;
      marked = marked_same catalog texts count since.flash.calls before.calls now.calls store store (λ text. refl) calls telling.marked;
      prints = telling.prints;
      damaged = telling.damaged;
      read = read_later since.flash.calls since.flash.calls before now (omega arith) keeps.gave plan pages_told catalog texts telling.reasons.counted.kept.met.damages telling.read;
      reasons = record {
        reasons = telling.reasons.reasons;
        as_many = telling.reasons.as_many;
        each = telling.reasons.each;
        counted = record {
          kept = telling.reasons.counted.kept;
          faults = subst (AreBlamed (marks_behind store count) telling.reasons.reasons since.flash.faults) (sym faults) telling.reasons.counted.faults;
        };
      };
      lines = telling.lines;
      answers = telling.answers;
      same = telling.same;
      are_told = telling.are_told;
    }

-- the buffer of the replies is none of those that the text has
pub alone_still : (leases later : List ℕ) (pool more : Pool) (lease : ℕ) → others_out more later ≡ others_out pool leases → KeepsOthers (others_out pool leases) pool more
    → IsOutAlone leases pool lease → IsOutAlone later more lease
alone_still leases later pool more lease same keeps alone =
    let size : length more.pages ≡ length pool.pages = keeps.size in
    let enough : 8 ≤ length pool.pages = alone.enough in
    let within : lease < length pool.pages = alone.within in
    record {
      enough = omega (arith, size, enough);
      within = omega (arith, size, within);
      out = subst (λ (out : List Bool). get_or out lease false ≡ true) (sym same) alone.out;
      free = subst (λ (out : List Bool). count_by not out + 2 ≡ length more.pages) (sym same) (alone.free ∙ sym size);
    }

pub ended_run : (plan : Plan) (pages_told : Bool) (catalog : Catalog) (device : Device) (pool more : Pool) (number lease : ℕ) (leases later : List ℕ) (running : Option Telling) → running ≡ None → later ≡ []
    → others_out more later ≡ others_out pool leases → KeepsOthers (others_out pool leases) pool more
    → IsOutAlone leases pool lease → CanRun plan pages_told catalog device more number lease running
ended_run plan pages_told catalog device pool more number lease leases later running none back same keeps alone =
    subst (λ (r : Option Telling). CanRun plan pages_told catalog device more number lease r) (sym none)
    (record { can = tt; alone = subst (λ (ls : List ℕ). IsOutAlone ls more lease) back (alone_still leases later pool more lease same keeps alone) })

-- what the text that is told needs
pub text_run : (plan : Plan) (pages_told : Bool) (catalog : Catalog) (device : Device) (pool : Pool) (number lease : ℕ) (running : Option Telling) (telling : Telling) → running ≡ Some telling
    → CanRun plan pages_told catalog device pool number lease running → CanTell plan pages_told catalog (number % 2) device pool telling × IsOutAlone (lines.leases_of telling) pool lease
text_run plan pages_told catalog device pool number lease running telling is run =
    (let now = subst (λ (r : Option Telling). CanRun plan pages_told catalog device pool number lease r) is run in (now.can, now.alone))

pub text_alone : (pool : Pool) (lease : ℕ) (running : Option Telling) (telling : Telling) → running ≡ Some telling → IsOutAlone (leases_of running) pool lease → IsOutAlone (lines.leases_of telling) pool lease
text_alone pool lease running telling is alone = subst (λ (r : Option Telling). IsOutAlone (leases_of r) pool lease) is alone

pub kept_still : RepliesStayKept → (pages_told : Bool) (before now : Device) (pool more : Pool) (catalog : Catalog) (heard : Heard) (low top : ℕ) (store : Replies) (leases later : List ℕ)
    → ChangesOnly (spool_end catalog) (scratch_end catalog) before now → others_out more later ≡ others_out pool leases → KeepsOthers (others_out pool leases) pool more → IsOutAlone leases pool (lease_of store)
    → IsKept pages_told before pool catalog heard low top store → IsKept pages_told now more catalog heard low top store
kept_still stays pages_told before now pool more catalog heard low top store leases later keeps same others alone kept =
    let after = alone_still leases later pool more (lease_of store) same others alone in
    stays pages_told before now pool more catalog heard low top store keeps
    (record { within = after.within; out = other_out more later (lease_of store) after.out })
    (record { bytes = others.bytes (lease_of store) alone.out; filled = others.filled (lease_of store) alone.out })
    kept

-- ---- a step of the text that was taken up

done_under_way : (plan : Plan) (pages_told : Bool) (catalog : Catalog) (side : ℕ) (written : List ℕ) (state : ReplyState) (marked : Bool) (half : Half) (start device : Device) (before now : Handed) (pool : Pool) (telling : Telling)
    → IsDone state marked false → IsUnderWay plan pages_told catalog side written state marked half start device before now pool telling
    → IsUnderWay plan pages_told catalog side written state_is.Done false half start device before now pool telling
done_under_way plan pages_told catalog side written state marked half start device before now pool telling done under_way =
    subst (λ (b : Bool). IsUnderWay plan pages_told catalog side written state_is.Done b half start device before now pool telling) done.1
    (subst (λ (s : ReplyState). IsUnderWay plan pages_told catalog side written s marked half start device before now pool telling) done.0 under_way)

-- a text that goes on
pub still_running : (plan : Plan) (pages_told : Bool) (catalog : Catalog) (texts : List (List ℕ)) (journal : Journal) (place : ℕ) (state : ReplyState) (half : Half) (since : Device) (first before now : SessionSide) (pool more : Pool) (store : Replies) (text next : Telling)
    → (has : IsTaken plan pages_told catalog texts journal place state (is_lost store (place + 1)) half since first before pool text) → next.number ≡ text.number
    → IsAccepted catalog.schema has.written (IsDone state (is_lost store (place + 1)) false)
    → IsUnderWay plan pages_told catalog ((place + 1) % 2) has.written state (is_lost store (place + 1)) half first.flash now.flash first.sink now.sink more next
    → IsRunning plan pages_told catalog texts journal place since first.sink now more store next
still_running plan pages_told catalog texts journal place state half since first before now pool more store text next has number accepted under_way = record {
  start = first.flash;
  half = half;
  taken = record {
    number = number ∙ has.number;
    written = has.written;
    stands = has.stands;
    came = has.came;
    is_state = sym accepted.came.0 ∙ has.is_state;
    given = λ _ is_told. has.given accepted.came is_told;
    files = has.files;
    under_way = done_under_way plan pages_told catalog ((place + 1) % 2) has.written state (is_lost store (place + 1)) half first.flash now.flash first.sink now.sink more next accepted.came under_way;
  };
  query = accepted.query;
  accepted = accepted.accepted;
  unmarked = accepted.came.1;
}

-- and one that ended
none_running : (plan : Plan) (pages_told : Bool) (catalog : Catalog) (texts : List (List ℕ)) (journal : Journal) (place : ℕ) (since : Device) (now : SessionSide) (pool : Pool) (kept : Replies) (running : Option Telling) → running ≡ None
    → Runs plan pages_told catalog texts journal place since now.sink now pool kept running
none_running plan pages_told catalog texts journal place since now pool kept running none =
    subst (λ (r : Option Telling). Runs plan pages_told catalog texts journal place since now.sink now pool kept r) (sym none) refl

settled_by : (catalog : Catalog) (texts : List (List ℕ)) (journal : Journal) (text count : ℕ) → text ≤ count + 1 → (text ≤ count → is_settled_in catalog texts journal text ≡ true)
    → is_settled_in catalog texts journal (count + 1) ≡ true → is_settled_in catalog texts journal text ≡ true
settled_by catalog texts journal text count within before last =
    elim (either_of text count within) [
      | inl f ↦ before f
      | inr f ↦ subst (λ (n : ℕ). is_settled_in catalog texts journal n ≡ true) (sym f) last
    ]

module _ (join : PiecesJoin) (decided : TextsAreDecided) (laws : PageLaws) (stays : RepliesStayKept) (later : LaterTextsAreUnmarked) (rises : LowRises) (plan : Plan) (pages_told : Bool) (catalog : Catalog) (texts : List (List ℕ)) (journal : Journal) (since before now : SessionSide)
    (pool more : Pool) (pump : Pump) (old : Teller) (store : Replies) (text next : Telling)
    (is_text : old.running ≡ Some text) (begun : IsBegun plan pages_told catalog texts journal since before pool pump old store)
    (keeps : ChangesOnly (spool_end catalog) (scratch_end catalog) before.flash now.flash) (number : next.number ≡ text.number)
    (same : others_out more (lines.leases_of next) ≡ others_out pool (lines.leases_of text)) (others : KeepsOthers (others_out pool (lines.leases_of text)) pool more)
    (alone : IsOutAlone (lines.leases_of text) pool (lease_of store)) where
  same_text : begun.telling ≡ text
  same_text = one begun.telling text (sym begun.runs ∙ is_text)
    where
      one : (a b : Telling) → Some a ≡ Some b → a ≡ b
      one a b e = cc

  pub has : IsTaken plan pages_told catalog texts journal old.count begun.state (is_lost store (old.count + 1)) begun.half since.flash begun.first before pool text
  has = subst (λ (t : Telling). IsTaken plan pages_told catalog texts journal old.count begun.state (is_lost store (old.count + 1)) begun.half since.flash begun.first before pool t) same_text begun.taken

  kept_now : IsKept pages_told now.flash more catalog (heard_in catalog texts journal) (old.count + 1) begun.going.top store
  kept_now =
      kept_still stays pages_told before.flash now.flash pool more catalog (heard_in catalog texts journal) (old.count + 1) begun.going.top store (lines.leases_of text) (lines.leases_of next)
      keeps same others alone begun.going.telling.kept

  pub still_going : now.flash.faults ≡ before.flash.faults
      → IsGoing plan pages_told catalog texts journal since begun.first.sink now.flash more pump (texts_left old) old.count old.counts store
  still_going faults = record {
    top = begun.going.top;
    telling = telling_spared plan pages_told catalog texts journal begun.going.top since begun.first.sink before.flash now.flash pool more (texts_left old) old.count old.counts store keeps faults kept_now begun.going.telling;
    settled = begun.going.settled;
    onward = begun.going.onward;
  }

  pub still_runs : GoesOn plan pages_told catalog ((old.count + 1) % 2) has.written begun.state (is_lost store (old.count + 1)) begun.half begun.first.flash now.flash begun.first.sink now.sink more next None
      → IsRunning plan pages_told catalog texts journal old.count since.flash begun.first.sink now more store next
  still_runs goes = still_running plan pages_told catalog texts journal old.count begun.state begun.half since.flash begun.first before now pool more store text next has number goes.0 goes.1

  pub was_told : IsTree catalog.schema → (new : Teller) (result : Told) (one : ToldText) → ToldTells before.flash.faults now.flash.faults result
      → HasTold plan pages_told catalog ((old.count + 1) % 2) next.number has.written begun.state (is_lost store (old.count + 1)) begun.half begun.first.flash now.flash begun.first.sink now.sink result one
      → EndsText result one old new → IsAmid plan pages_told catalog texts journal since now more pump new store
  was_told tree new result one tells ends ended = record {
    plan = ended.plan ∙ begun.plan;
    sink = now.sink;
    going = record {
      top = begun.going.top;
      telling = tell_one join decided laws later rises plan pages_told catalog tree texts journal begun.going.top since begun.first before now old new pool more store begun.state begun.half text result one
          begun.going.telling has
          (subst (λ (n : ℕ). HasTold plan pages_told catalog ((old.count + 1) % 2) n has.written begun.state (is_lost store (old.count + 1)) begun.half begun.first.flash now.flash begun.first.sink now.sink result one) (number ∙ has.number) ends)
          tells keeps kept_now ended;
      settled = λ opened other from upto.
          settled_by catalog texts journal other old.count (let count : new.count ≡ old.count + 1 = ended.count in omega (arith, count, upto))
          (λ within. begun.going.settled opened other from within) (begun.next opened);
      onward = begun.going.onward;
    };
    running = none_running plan pages_told catalog texts journal new.count since.flash now more store new.running ended.running;
  }
