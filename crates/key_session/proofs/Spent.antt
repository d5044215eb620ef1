-- What a slice calls is spent for its text.
use Rattle.std.proofs.Common.{◌≡◌, ℕ, suc, ◌+◌, ◌-◌, ◌≤◌, arith, Bool, true, List, refl, sym, ◌∙◌, ap, subst, Option, Some, None, Ok, slice_get}
use Rattle.std.specs.Prelude.{min, take, sum_by}
use Rattle.ghost_model.specs.core.Causes.{Rose, last_count}
use Rattle.ghost_model.specs.core.Channel.{Catalog, Journal}
use Rattle.ghost_model.specs.core.Query.{Query}
use Rattle.ghost_model.specs.core.Schema.{Schema}
use Rattle.ghost_model.specs.core.Values.{Database}
use Rattle.ghost_model.specs.readings.QueryReading.{reading}
use Rattle.ghost_model.specs.core.Asks.{asked_of}
use Rattle.ghost_model.specs.core.Lines.{all_done}
use Rattle.ghost_model.specs.core.NextMove.{standing_after, ended_of}
use Rattle.ghost_model.specs.core.Replies.{Reply, replies, reply_about}
use Rattle.ghost_model.specs.core.Split.{public_of}
use Rattle.ghost_model.specs.laws.SchemaTrees.{IsTree}
use Rattle.ghost_model.specs.laws.SessionLaws.{whole_reply, whole_replies}
use Rattle.channel_pump.specs.Marks.{state_of}
use Rattle.channel_pump.specs.declared.state.ReplyState.{ReplyState}
use Rattle.channel_pump.specs.declared.state.ReplyState.TheVariants as state_is
use Rattle.session_laws.specs.TextCases.{TextsAreDecided}
use Rattle.visible_spool.specs.declared.half.Half.{Half}
use Rattle.key_lines.specs.Handing.{Handed}
use Rattle.key_exec.specs.Plans.{by_pre}
use Rattle.edge_traits.specs.Devices.{Device, Counts}
use Rattle.page_pool.specs.Pools.{Pool}
use Rattle.key_exec.specs.Laws.{DamageIsNeverMet, KnowledgeIsEnough, PagesStayKnown}
use Rattle.key_exec.specs.Reading.{KnowsBy}
use Rattle.key_exec.specs.Texts.{ToldTells, StepTells}
use Rattle.key_exec.specs.Telling.{HasTold}
use Rattle.key_exec.specs.Within.{IsServed, SpentWithin, text_work}
use Rattle.key_exec.specs.declared.telling.Telling.{Telling}
use Rattle.key_exec.specs.declared.text.Told.{Told}
use Rattle.key_exec.specs.declared.text.Told.TheVariants as told
use Rattle.key_session.specs.Going.{IsTaken}
use Rattle.key_session.specs.Spending.{IsServedText, spent_by, spent_for}
use Rattle.key_session.specs.Telling.{SessionSide}
use Rattle.key_session.specs.declared.teller.Teller.{Teller}
use Rattle.key_session.proofs.CallSums.{taken_more}
use Rattle.key_session.proofs.Coming.{done_so}
use Rattle.key_session.proofs.HonestReplies.{about_its_table}
use Rattle.key_session.proofs.OneMore.{static_later}

-- what the laws say of damage, and of pages that stay
pub record SpendLaws : Type 0 where
  pub never : DamageIsNeverMet
  pub enough : KnowledgeIsEnough
  pub stays : PagesStayKnown
  pub decided : TextsAreDecided

module _ (laws : SpendLaws) (pages_told : Bool) (catalog : Catalog) (tree : IsTree catalog.schema) (texts : List (List ℕ)) (journal : Journal) (since first before : SessionSide) (count : ℕ) (marked : Bool) (state : ReplyState) (half : Half) (pool : Pool) (text : Telling)
    (taken : IsTaken by_pre pages_told catalog texts journal count state marked half since.flash first before pool text)
    (database : Database) (is : IsServedText pages_told since.flash.page catalog texts journal count database) where
  number : suc count ≡ count + 1
  number = omega arith

  abbrev given : List Reply
  given = replies catalog (asked_of catalog.schema texts) journal (count + 1)

  pages_now : KnowsBy by_pre pages_told first.flash.page catalog database
  pages_now = laws.stays by_pre pages_told since.flash.page first.flash.page catalog database tree (static_later catalog since.flash first.flash taken.files) is.pages

  all_done_now : state ≡ state_is.Done → (query : Query) → reading catalog.schema taken.written ≡ Ok query → all_done catalog.schema query (ended_of catalog (asked_of catalog.schema texts) journal (suc count)) ≡ true
  all_done_now done query accepted =
      let so = done_so catalog texts journal (suc count) (subst (λ (n : ℕ). state_of (asked_of catalog.schema texts) n (standing_after catalog (asked_of catalog.schema texts) journal) ≡ state_is.Done) (sym number) (sym taken.is_state ∙ done)) in
      (laws.decided catalog texts journal count taken.written query taken.stands accepted).done ∙ rw (so.0, so.1) refl

  whole_now : state ≡ state_is.Done → (query : Query) → reading catalog.schema taken.written ≡ Ok query → replies catalog (asked_of catalog.schema texts) journal (count + 1) ≡ whole_replies catalog.schema (public_of catalog.schema database) query
  whole_now done query accepted =
      subst (λ (n : ℕ). replies catalog (asked_of catalog.schema texts) journal n ≡ whole_replies catalog.schema (public_of catalog.schema database) query) number
      (is.honest taken.written query taken.stands accepted (all_done_now done query accepted))

  pub served : IsServed pages_told first.flash.page catalog taken.written state marked half database (replies catalog (asked_of catalog.schema texts) journal (count + 1))
  served = record {
    pages = laws.enough by_pre pages_told first.flash.page catalog database tree pages_now;
    of_text = λ done. taken.given done is.pages.0.is_told;
    honest = λ done query accepted ask there.
        subst (λ (some : List Reply). reply_about ask.table some ≡ Some (whole_reply catalog.schema (public_of catalog.schema database) ask)) (sym (whole_now done.0 query accepted))
        (about_its_table catalog.schema (public_of catalog.schema database) query ask there);
  }

  -- no slot is damaged
  pub undamaged : (side own : ℕ) (now : Device) (last : Handed) (damage : _) (one : _) → HasTold by_pre pages_told catalog side own taken.written state marked half first.flash now first.sink last (told.Damaged damage) one → ⊥
  undamaged side own now last damage one ends =
      let blamed = ends.blames (λ done is_told. record { replies = replies catalog (asked_of catalog.schema texts) journal (count + 1); are = taken.given done is_told }) in
      laws.never by_pre pages_told first.flash.page catalog blamed.query blamed.top side half database damage.page damage.slot damage.found tree pages_now blamed.is

-- a step of the text is within its work, where the flash does not fail and no slot is damaged
pub ended_within : (old_spent new_spent work before now before_faults now_faults : ℕ) (result : Told) → Counts (new_spent - old_spent) before now → old_spent ≤ new_spent
    → SpentWithin new_spent work (Some result) → ToldTells before_faults now_faults result → (Rose before_faults now_faults → ⊥) → ((damage : _) → result ≡ told.Damaged damage → ⊥)
    → now + old_spent ≤ before + work
ended_within old_spent new_spent work before now before_faults now_faults told.Refused counts rises within tells unfailed undamaged = let most = counts.most in omega (arith, most, rises, within)
ended_within old_spent new_spent work before now before_faults now_faults told.Answered counts rises within tells unfailed undamaged = let most = counts.most in omega (arith, most, rises, within)
ended_within old_spent new_spent work before now before_faults now_faults told.Host counts rises within tells unfailed undamaged = let most = counts.most in omega (arith, most, rises, within)
ended_within old_spent new_spent work before now before_faults now_faults told.Link counts rises within tells unfailed undamaged = let most = counts.most in omega (arith, most, rises, within)
ended_within old_spent new_spent work before now before_faults now_faults told.Protocol counts rises within tells unfailed undamaged = let most = counts.most in omega (arith, most, rises, within)
ended_within old_spent new_spent work before now before_faults now_faults told.Marked counts rises within tells unfailed undamaged = let most = counts.most in omega (arith, most, rises, within)
ended_within old_spent new_spent work before now before_faults now_faults told.Flash counts rises within tells unfailed undamaged = absurd (unfailed tells)
ended_within old_spent new_spent work before now before_faults now_faults (told.Damaged damage) counts rises within tells unfailed undamaged = absurd (undamaged damage refl)

-- the sum of what was spent, where the text goes on and where it ended
pub goes_on_spent : (f : List ℕ → ℕ) (texts : List (List ℕ)) (count old_spent new_spent before now : ℕ) → now ≤ before + (new_spent - old_spent) → old_spent ≤ new_spent
    → now + (sum_by f (take count texts) + old_spent) ≤ before + (sum_by f (take count texts) + new_spent)
goes_on_spent f texts count old_spent new_spent before now most rises = omega (arith, most, rises)

pub ended_spent : (f : List ℕ → ℕ) (texts : List (List ℕ)) (count later spent before now : ℕ) (written : List ℕ) → slice_get texts count ≡ Some written → later ≡ count + 1 → now + spent ≤ before + f written
    → now + (sum_by f (take count texts) + spent) ≤ before + (sum_by f (take later texts) + 0)
ended_spent f texts count later spent before now written stands next within =
    let more = taken_more f texts count written stands in
    let same : suc count ≡ later = omega (arith, next) in
    let sums : sum_by f (take later texts) ≡ sum_by f (take (suc count) texts) = ap (λ (n : ℕ). sum_by f (take n texts)) (sym same) in
    omega (arith, more, sums, within)

-- the count of faults after a step of the text
rises_then : (before now : ℕ) → Rose before now → min before last_count ≤ now
rises_then before now rose = omega (arith, rose)

stays_then : (before now : ℕ) → now ≡ before → min before last_count ≤ now
stays_then before now same = omega (arith, same)

pub faults_stay : (before now : ℕ) (result : Option Told) → StepTells before now result → min before last_count ≤ now
faults_stay before now None tells = stays_then before now tells
faults_stay before now (Some told.Refused) tells = stays_then before now tells
faults_stay before now (Some told.Answered) tells = stays_then before now tells
faults_stay before now (Some told.Host) tells = stays_then before now tells
faults_stay before now (Some told.Link) tells = stays_then before now tells
faults_stay before now (Some told.Protocol) tells = stays_then before now tells
faults_stay before now (Some told.Marked) tells = stays_then before now tells
faults_stay before now (Some told.Flash) tells = rises_then before now tells
faults_stay before now (Some (told.Damaged damage)) tells = stays_then before now tells

-- a text that is taken up has nothing spent
pub same_spent : (schema : Schema) (database : Database) (texts : List (List ℕ)) (old taken : Teller) → taken.count ≡ old.count → spent_by taken.running ≡ spent_by old.running → (now most : ℕ)
    → now + spent_for schema database texts taken ≤ most → now + spent_for schema database texts old ≤ most
same_spent schema database texts old taken count spent now most calls =
    let sums = ap (λ (n : ℕ). sum_by (text_work schema database) (take n texts)) count in
    omega (arith, sums, spent, calls)
