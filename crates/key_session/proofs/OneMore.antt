-- A teller after one more text.
use Rattle.std.proofs.Common.{[], ◌∷◌, ◌++◌, ◌≡◌, ◌≤◌, ◌<◌, ℕ, zero, suc, ◌+◌, arith, Bool, true, false, List, sym, ap, ◌∙◌, subst, Some, slice_get}
use Rattle.edge_traits.proofs.DeviceFrames.{changes_trans, changes_wider}
use Rattle.std.specs.Prelude.{◌*◌, ◌%◌, min}
use Rattle.std.specs.List.{concat}
use Rattle.ghost_model.specs.core.Lines.{Reason}
use Rattle.ghost_model.specs.core.Causes.{last_count}
use Rattle.ghost_model.specs.core.Values.{Database}
use Rattle.ghost_model.specs.core.Channel.{Catalog, Journal}
use Rattle.ghost_model.specs.core.Asks.{asked_of}
use Rattle.ghost_model.specs.core.NextMove.{standing_after}
use Rattle.ghost_model.specs.core.Split.{hidden_of}
use Rattle.ghost_model.specs.core.Replies.{Reply, replies}
use Rattle.ghost_model.specs.laws.SchemaTrees.{IsTree}
use Rattle.ghost_model.specs.forms.Layout.{static_end, half_pages, spool_end, scratch_pages, scratch_count, scratch_end}
use Rattle.edge_traits.specs.Devices.{Device, ChangesOnly}
use Rattle.channel_pump.specs.Marks.{state_of}
use Rattle.channel_pump.specs.declared.state.ReplyState.{ReplyState}
use Rattle.session_laws.specs.TextEnds.{heard_in}
use Rattle.session_laws.specs.TextCases.{TextsAreDecided}
use Rattle.visible_spool.specs.declared.half.Half.{Half}
use Rattle.visible_spool.specs.Areas.{half_begin, half_end}
use Rattle.key_session.specs.Hearing.{WritesHalf}
use Rattle.key_session.specs.Kept.{IsKept, is_lost}
use Rattle.key_session.specs.Laws.{LaterTextsAreUnmarked, LowRises}
use Rattle.key_session.specs.declared.replies.Replies.{Replies}
use Rattle.key_lines.specs.Handing.{PiecesJoin}
use Rattle.key_lines.specs.Told.{AreTold, told_in}
use Rattle.key_lines.specs.declared.told.ToldText.{ToldText}
use Rattle.leakless_plan.specs.declared.plan.Plan.{Plan}
use Rattle.leakless_plan.specs.declared.plan.Plan.TheVariants.{Scan, Linked}
use Rattle.key_exec.specs.Laws.{KeepsStatic, PagesStayKnownBut, DamageStays}
use Rattle.key_exec.specs.Reading.{KnowsButBy}
use Rattle.key_exec.specs.Texts.{IsDone, ToldTells, ToldBlames, ToldReads, Why}
use Rattle.key_exec.specs.Telling.{HasTold, AreLinesOf, AreRepliesOf, AreThere}
use Rattle.key_exec.specs.declared.text.Told.{Told}
use Rattle.key_exec.specs.declared.text.Told.TheVariants as told
use Rattle.key_session.specs.Counting.{damage_in, one_if, reason_of, IsCounted}
use Rattle.key_session.specs.Damages.{IsSoOfText, AreRead, MeetsFirst}
use Rattle.key_session.specs.Reasons.{AreBlamed, HaveSoFar, HasReason, HaveLines, HasLines, HasAnswerLines, HaveAnswerLines}
use Rattle.page_pool.specs.Pools.{Pool}
use Rattle.key_exec.specs.declared.telling.Telling.{Telling}
use Rattle.key_session.specs.Telling.{SessionSide, AreMarked, AreKeptSoFar, AreLeft, KeepsFiles, IsTelling, marks_behind, texts_left}
use Rattle.key_session.specs.Going.{IsTaken, EndsText}
use Rattle.key_session.specs.declared.teller.Teller.{Teller}
use Rattle.key_session.proofs.Coming.{answers_so, reason_so, lines_so}
use Rattle.key_session.proofs.Adding.{TellsMark, one_each, one_lines, one_reason, one_damage, told_more, called_more, damage_called_more, still_no_fall, next_number, left_more, some_more}
use Rattle.key_session.proofs.Readings.{read_later, one_read, told_earlier}
use Rattle.key_session.proofs.Marking.{marks_next, marked_next, mark_told}

-- the count of faults never falls, but for its last value
never_falls : (since before now : ℕ) (result : Told) → min since last_count ≤ before → ToldTells before now result → min since last_count ≤ now
never_falls since before now result e tells = by result tells
  where
    rises : (most : ℕ) → min since most ≤ before → min (before + 1) most ≤ now → min since most ≤ now
    rises most e r = omega (arith, e, r)

    by : (result : Told) → ToldTells before now result → min since last_count ≤ now
    by told.Flash t = rises last_count e t
    by told.Marked t = subst (λ (n : ℕ). min since last_count ≤ n) (sym t) e
    by told.Refused t = subst (λ (n : ℕ). min since last_count ≤ n) (sym t) e
    by told.Answered t = subst (λ (n : ℕ). min since last_count ≤ n) (sym t) e
    by told.Host t = subst (λ (n : ℕ). min since last_count ≤ n) (sym t) e
    by told.Link t = subst (λ (n : ℕ). min since last_count ≤ n) (sym t) e
    by told.Protocol t = subst (λ (n : ℕ). min since last_count ≤ n) (sym t) e
    by (told.Damaged damage) t = subst (λ (n : ℕ). min since last_count ≤ n) (sym t) e

pub no_fall : (most before now : ℕ) → before ≤ now → min before most ≤ now
no_fall most before now up = omega (arith, up)

-- the files of a session stay
pub files_on : (catalog : Catalog) (a b c : Device) → KeepsFiles catalog a b → KeepsFiles catalog b c → KeepsFiles catalog a c
files_on catalog a b c first second = changes_trans first second

-- both halves of the spool end below what is behind it
first_half : (files half more : ℕ) → files + 1 * half ≤ (files + 2 * half) + more
first_half files half more = omega arith

second_half : (files half more : ℕ) → files + 2 * half ≤ (files + 2 * half) + more
second_half files half more = omega arith

same_end : (number : ℕ) → number ≤ number
same_end number = omega arith

-- so do they where the half of a text is written
pub half_files : (catalog : Catalog) (text : ℕ) (a b : Device) → WritesHalf catalog text a b → KeepsFiles catalog a b
half_files catalog text a b writes = (let lies = within (text % 2) (below text) in changes_wider writes (static_end catalog) (scratch_end catalog) lies.0 lies.1)
  where
    below : (n : ℕ) → n % 2 < 2
    below n = omega arith

    within : (side : ℕ) → side < 2 → (static_end catalog ≤ half_begin catalog side) × (half_end catalog side ≤ scratch_end catalog)
    within zero less = (omega arith, first_half (static_end catalog) (half_pages catalog) (scratch_count catalog * scratch_pages catalog))
    within (suc zero) less = (omega arith, second_half (static_end catalog) (half_pages catalog) (scratch_count catalog * scratch_pages catalog))
    within (suc (suc side)) less = absurd (omega (arith, less))

-- and where pages behind the spool are
pub files_kept : (catalog : Catalog) (a b c : Device) → KeepsFiles catalog a b → ChangesOnly (spool_end catalog) (scratch_end catalog) b c → KeepsFiles catalog a c
files_kept catalog a b c first second = changes_trans first (changes_wider second (static_end catalog) (scratch_end catalog) (omega arith) (same_end (scratch_end catalog)))

-- and so do the pages below the spool
pub static_later : (catalog : Catalog) (a b : Device) → KeepsFiles catalog a b → KeepsStatic catalog a.page b.page
static_later catalog a b files = λ number less. (files.below number less).bytes

pub static_earlier : (catalog : Catalog) (a b : Device) → KeepsFiles catalog a b → KeepsStatic catalog b.page a.page
static_earlier catalog a b files = λ number less. sym (files.below number less).bytes

-- a slot that is blamed is damaged since the first
blamed_first : DamageStays → (plan : Plan) (pages_told : Bool) (page now : ℕ → List ℕ) (catalog : Catalog) (text : List ℕ) (side : ℕ) (half : Half) (result : Told) → IsTree catalog.schema
    → KeepsStatic catalog page now → ToldBlames plan pages_told page catalog text side half result → ToldBlames plan pages_told now catalog text side half result
blamed_first stays plan pages_told page now catalog text side half told.Refused tree same blames = blames
blamed_first stays plan pages_told page now catalog text side half told.Answered tree same blames = blames
blamed_first stays plan pages_told page now catalog text side half told.Host tree same blames = blames
blamed_first stays plan pages_told page now catalog text side half told.Link tree same blames = blames
blamed_first stays plan pages_told page now catalog text side half told.Protocol tree same blames = blames
blamed_first stays plan pages_told page now catalog text side half told.Marked tree same blames = blames
blamed_first stays plan pages_told page now catalog text side half told.Flash tree same blames = blames
blamed_first stays plan pages_told page now catalog text side half (told.Damaged damage) tree same blames = record {
  query = blames.query;
  means = blames.means;
  top = blames.top;
  top_is = blames.top_is;
  is = stays plan pages_told page now catalog blames.query blames.top side half damage.page damage.slot damage.found tree same blames.is;
}

-- what is known is known of pages that are told
told_known : (plan : Plan) (pages_told : Bool) (page : ℕ → List ℕ) (catalog : Catalog) (database : Database) → KnowsButBy plan pages_told page catalog database → pages_told ≡ true
told_known Scan pages_told page catalog database knows = knows.is_told
told_known (Linked forced) pages_told page catalog database knows = knows.0.is_told

-- and the replies of a text are there
are_there : (plan : Plan) (pages_told : Bool) (page : ℕ → List ℕ) (catalog : Catalog) (text : List ℕ) (state : ReplyState) (marked : Bool) (half : Half) (given : List Reply)
    → (IsDone state marked false → pages_told ≡ true → AreRepliesOf page catalog text half given) → AreThere plan pages_told page catalog text state marked half
are_there Scan pages_told page catalog text state marked half given are = tt
are_there (Linked forced) pages_told page catalog text state marked half given are = λ done is_told. record { replies = given; are = are done is_told }

-- what the laws say of the pages
pub record PageLaws : Type 0 where
  pub but : PagesStayKnownBut
  pub damage : DamageStays

module _ (join : PiecesJoin) (decided : TextsAreDecided) (laws : PageLaws) (later : LaterTextsAreUnmarked) (rises : LowRises) (plan : Plan) (pages_told : Bool) (catalog : Catalog) (tree : IsTree catalog.schema) (texts : List (List ℕ)) (journal : Journal) (top : ℕ) (since first before now : SessionSide)
    (old new : Teller) (pool more : Pool) (store : Replies) (state : ReplyState) (half : Half) (text : Telling) (result : Told) (one : ToldText)
    (telling : IsTelling plan pages_told catalog texts journal top since first.sink before.flash pool (texts_left old) old.count old.counts store)
    (taken : IsTaken plan pages_told catalog texts journal old.count state (is_lost store (old.count + 1)) half since.flash first before pool text)
    (ends : HasTold plan pages_told catalog ((old.count + 1) % 2) (old.count + 1) taken.written state (is_lost store (old.count + 1)) half first.flash now.flash first.sink now.sink result one)
    (tells : ToldTells before.flash.faults now.flash.faults result) (kept_pages : ChangesOnly (spool_end catalog) (scratch_end catalog) before.flash now.flash)
    (kept : IsKept pages_told now.flash more catalog (heard_in catalog texts journal) (old.count + 1) top store) (ended : EndsText result one old new) where
  abbrev marked : Bool
  marked = is_lost store (old.count + 1)

  abbrev marks : ℕ
  marks = one_if (is_lost store (old.count + 2))

  abbrev met : MeetsFirst plan pages_told since.flash.page catalog texts telling.reasons.reasons old.counts.damage
  met = telling.reasons.counted.kept.met

  files : KeepsFiles catalog since.flash now.flash
  files = files_kept catalog since.flash before.flash now.flash telling.pages kept_pages

  blames_now : IsSoOfText texts old.count (λ text side half. ToldBlames plan pages_told since.flash.page catalog text side half result)
  blames_now = record {
    text = taken.written;
    stands = taken.stands;
    half = half;
    is = blamed_first laws.damage plan pages_told first.flash.page since.flash.page catalog taken.written ((old.count + 1) % 2) half result tree (static_earlier catalog since.flash first.flash taken.files)
        (ends.blames (are_there plan pages_told first.flash.page catalog taken.written state marked half (replies catalog (asked_of catalog.schema texts) journal (old.count + 1)) taken.given));
  }

  read_now : IsSoOfText texts old.count (λ text side half. ToldReads plan pages_told since.flash.calls now.flash catalog text side half result)
  read_now = record {
    text = taken.written;
    stands = taken.stands;
    half = half;
    is = told_earlier plan pages_told catalog since.flash.calls first.flash.calls now.flash taken.written ((old.count + 1) % 2) half result taken.files.never_falls ends.read;
  }

  number : suc old.count ≡ old.count + 1
  number = sym (next_number old.count)

  next_count : new.count ≡ old.count + 1
  next_count = ended.count

  counted : IsCounted (reason_of result) old.counts new.counts
  counted = ended.counted

  abbrev written : List ℕ
  written = taken.written

  here : slice_get texts old.count ≡ Some written
  here = taken.stands

  tells_mark : TellsMark (is_lost store (old.count + 1)) result
  tells_mark =
      mark_told catalog.schema written state (is_lost store (old.count + 1)) result ends.told_by
      (λ is. telling.marked.accepted old.count written (omega arith) here (subst (λ (n : ℕ). is_lost store n ≡ true) (sym number) is))

  here_is : state ≡ state_of (asked_of catalog.schema texts) (suc old.count) (standing_after catalog (asked_of catalog.schema texts) journal)
  here_is = subst (λ (n : ℕ). state ≡ state_of (asked_of catalog.schema texts) n (standing_after catalog (asked_of catalog.schema texts) journal)) (sym number) taken.is_state

  has_reason : HasReason catalog texts journal old.count (reason_of result)
  has_reason = record {
    written = written;
    stands = here;
    is_reason = reason_so catalog texts journal old.count written state here_is
        (λ query accepted. decided catalog texts journal old.count written query here accepted)
        (λ query accepted. taken.came old.count written query (next_number old.count) here accepted)
        (is_lost store (old.count + 1)) result ends.told_by;
  }

  has_lines : HasLines catalog texts journal old.count (reason_of result) ends.lines
  has_lines = record {
    written = written;
    stands = here;
    lines_are = lines_so catalog texts journal old.count written state here_is
        (λ query accepted. decided catalog texts journal old.count written query here accepted)
        (λ query accepted. taken.came old.count written query (next_number old.count) here accepted)
        (is_lost store (old.count + 1)) ends.lines result ends.told_by (subst (λ (n : ℕ). AreLinesOf catalog.schema n written ends.lines result) (sym number) ends.are);
  }

  but_first : (database : Database) → KnowsButBy plan pages_told since.flash.page catalog database → KnowsButBy plan pages_told first.flash.page catalog database
  but_first database knows = laws.but plan pages_told since.flash.page first.flash.page catalog database tree (static_later catalog since.flash first.flash taken.files) knows

  tells_why : (database : Database) → KnowsButBy plan pages_told since.flash.page catalog database
      → Why catalog.schema (hidden_of catalog.schema database) (replies catalog (asked_of catalog.schema texts) journal (suc old.count)) (suc old.count) written state ends.lines result
  tells_why database knows =
      subst (λ (n : ℕ). Why catalog.schema (hidden_of catalog.schema database) (replies catalog (asked_of catalog.schema texts) journal n) n written state ends.lines result) (sym number)
      (ends.why database (replies catalog (asked_of catalog.schema texts) journal (old.count + 1)) (but_first database knows)
      (λ done. taken.given done (told_known plan pages_told since.flash.page catalog database knows)))

  answers_now : (database : Database) → KnowsButBy plan pages_told since.flash.page catalog database
      → HasAnswerLines catalog (hidden_of catalog.schema database) texts journal old.count (reason_of result) ends.lines
  answers_now database knows =
      answers_so catalog (hidden_of catalog.schema database) texts journal old.count written here
      (λ query accepted. decided catalog texts journal old.count written query here accepted)
      (λ query accepted. taken.came old.count written query (next_number old.count) here accepted)
      state here_is ends.lines result (tells_why database knows)

  both_now : (more : HaveSoFar catalog texts journal (old.count + 1) (AreKeptSoFar plan pages_told since.flash.page catalog texts new.counts marks since.flash.faults now.flash.faults))
      × (longer : HaveLines catalog texts journal more.reasons since.sink now.sink) × (more.reasons ≡ telling.reasons.reasons ++ reason_of result ∷ [])
      × (longer.lines ≡ telling.lines.lines ++ ends.lines ∷ [])
      × (more.counted.kept.met.damages ≡ telling.reasons.counted.kept.met.damages ++ damage_in result ∷ [])
  both_now =
      one_reason plan pages_told since.flash.page catalog texts join journal old.count old.counts new.counts since.flash.faults before.flash.faults now.flash.faults marks marked result
      since.sink first.sink now.sink ends.lines telling.reasons has_reason tells tells_mark counted ended.first blames_now telling.lines has_lines ends.handed_on

  same_marks : marks ≡ marks_behind store new.count
  same_marks =
      marks_next later pages_told now.flash more catalog (heard_in catalog texts journal) (old.count + 1) top old.count store kept telling.near
      ∙ ap (λ (n : ℕ). marks_behind store n) (sym next_count)

  calls : min before.flash.calls last_count ≤ now.flash.calls
  calls = no_fall last_count before.flash.calls now.flash.calls kept_pages.never_falls

  stayed : min since.flash.calls last_count ≤ first.flash.calls
  stayed = no_fall last_count since.flash.calls first.flash.calls taken.files.never_falls

  pub tell_one : IsTelling plan pages_told catalog texts journal top since now.sink now.flash more (texts_left new) new.count new.counts store
  tell_one = record {
    left_are = subst (λ (n : ℕ). AreLeft texts (texts_left new) n) (sym next_count) (left_more texts old.count (texts_left old) (texts_left new) ended.texts.0 telling.left_are ended.texts.1);
    kept = subst (λ (n : ℕ). IsKept pages_told now.flash more catalog (heard_in catalog texts journal) (n + 1) top store) (sym next_count)
        (rises pages_told now.flash more catalog (heard_in catalog texts journal) (old.count + 1) top store kept);
    near = (let near : top ≤ old.count + 2 = telling.near in omega (arith, near, next_count));
    within = telling.within;
    pages = files;
    calls = still_no_fall last_count since.flash.calls before.flash.calls now.flash.calls telling.calls calls;
    called = called_more since.flash.calls first.flash.calls before.flash.calls now.flash.calls old.counts new.counts marked result counted telling.called calls stayed ends.called tells_mark
        (telling.marked.called (old.count + 1) (omega arith));
    damage_called = damage_called_more since.flash.calls first.flash.calls before.flash.calls now.flash.calls old.counts new.counts result counted telling.damage_called calls stayed ends.called;
    faults = never_falls since.flash.faults before.flash.faults now.flash.faults result telling.faults tells;
    marked = subst (λ (n : ℕ). AreMarked catalog texts n since.flash.calls now.flash.calls store) (sym next_count)
        (marked_next catalog texts old.count since.flash.calls before.flash.calls now.flash.calls store calls telling.marked);
    prints = some_more join since.sink first.sink now.sink telling.prints (record { piece = concat ends.lines; handed = ends.handed_on });
    damaged = one_damage plan pages_told since.flash.page catalog texts old.count old.counts.damage new.counts.damage result ended.first blames_now telling.damaged;
    read = subst (AreRead plan pages_told since.flash.calls now.flash catalog texts) (sym both_now.4)
        (one_read plan pages_told catalog texts since.flash.calls now.flash met.damages old.count result (one_each met.damages telling.reasons.reasons met.by_reason ∙ telling.reasons.as_many) read_now
        (read_later since.flash.calls since.flash.calls before.flash now.flash (omega arith) kept_pages.gave plan pages_told catalog texts met.damages telling.read));
    reasons = record {
      reasons = both_now.0.reasons;
      as_many = both_now.0.as_many ∙ sym next_count;
      each = both_now.0.each;
      counted = record {
        kept = both_now.0.counted.kept;
        faults = subst (λ (n : ℕ). AreBlamed n both_now.0.reasons since.flash.faults now.flash.faults) same_marks both_now.0.counted.faults;
      };
    };
    lines = both_now.1;
    answers = λ database knows. (answers_more database knows).0;
    same = λ database knows.
        (answers_more database knows).1 ∙ ap (λ (lines : List (List (List ℕ))). lines ++ ends.lines ∷ []) (telling.same database knows) ∙ sym both_now.3;
    are_told = subst (λ (lines : List (List (List ℕ))). AreTold catalog.schema texts lines (told_in new.counts.told)) (sym both_now.3)
        (subst (λ (told : List ToldText). AreTold catalog.schema texts (telling.lines.lines ++ ends.lines ∷ []) told) (sym ended.told)
        (told_more catalog.schema texts telling.lines.lines (told_in old.counts.told) ends.lines one telling.are_told
        (record { written = written; stands = subst (λ (n : ℕ). slice_get texts n ≡ Some written) (sym (telling.lines.as_many ∙ telling.reasons.as_many)) here; is_told = ends.entry })));
  }
    where
      answers_more : (database : Database) → (knows : KnowsButBy plan pages_told since.flash.page catalog database)
          → (more : HaveAnswerLines catalog (hidden_of catalog.schema database) texts journal both_now.0.reasons since.sink now.sink)
          × (more.lines ≡ (telling.answers database knows).lines ++ ends.lines ∷ [])
      answers_more database knows =
          subst (λ (rs : List Reason). (more : HaveAnswerLines catalog (hidden_of catalog.schema database) texts journal rs since.sink now.sink)
          × (more.lines ≡ (telling.answers database knows).lines ++ ends.lines ∷ [])) (sym both_now.2)
          (one_lines join (HasAnswerLines catalog (hidden_of catalog.schema database) texts journal) telling.reasons.reasons (reason_of result) since.sink first.sink now.sink ends.lines
          (telling.answers database knows) (subst (λ (n : ℕ). HasAnswerLines catalog (hidden_of catalog.schema database) texts journal n (reason_of result) ends.lines) (sym telling.reasons.as_many) (answers_now database knows)) ends.handed_on)
