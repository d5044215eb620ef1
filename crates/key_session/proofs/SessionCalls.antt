-- How often a whole session calls the flash, where its texts are answered by the plan `pre`.
use Rattle.std.proofs.Common.{◌≡◌, ℕ, zero, suc, ◌+◌, ◌-◌, ◌*◌, ◌≤◌, ◌<◌, min, arith, not, ◌&&◌, ◌||◌, Bool, true, false, List, [], ◌∷◌, ◌++◌, length, take, refl, sym, ◌∙◌, ap, subst, append-nil, append_assoc, Option, Some, None, Ok, slice_get}
use Rattle.std.specs.Prelude.{⊤, sum_by, count_by, is_err, Result, Err}
use Rattle.std.proofs.lemmas.List.Sums.{sum_by-append}
use Rattle.ghost_model.specs.core.Causes.{Rose, last_count}
use Rattle.ghost_model.specs.core.Channel.{Catalog, Journal}
use Rattle.ghost_model.specs.core.Query.{Query}
use Rattle.ghost_model.specs.core.Values.{Database}
use Rattle.ghost_model.specs.refusals.QueryMeaning.{Refusal}
use Rattle.ghost_model.specs.readings.QueryReading.{reading}
use Rattle.ghost_model.specs.core.Asks.{NumberedAsk, asked_of}
use Rattle.ghost_model.specs.core.Lines.{was_refused, is_refused_by}
use Rattle.ghost_model.specs.core.Moves.{taken}
use Rattle.ghost_model.specs.core.NextMove.{EndedAsk, IsFinished}
use Rattle.channel_pump.specs.Progress.{Tells}
use Rattle.channel_pump.specs.Sessions.{asked_in}
use Rattle.page_pool.specs.Pools.{Pool}
use Rattle.leakless_plan.specs.declared.plan.Plan.{Plan}
use Rattle.key_exec.specs.Plans.{by_pre}
use Rattle.session_laws.specs.HonestSessions.{IsHonestSession, HonestAsksAreDone, HonestSessionsAreSmooth, HonestAsksAreRepliedWhole, HonestTextsAreRepliedWhole, AreRepliedWhole, replies_in}
use Rattle.session_laws.specs.TextCases.{TextsAreDecided, is_refused_in}
use Rattle.session_laws.specs.TextEnds.{EndedTextsStay, OverTextsAreSettled, AsksAreAwaitedInOrder, heard_in, is_settled_in}
use Rattle.key_exec.specs.Reading.{KnowsBy}
use Rattle.key_exec.specs.Within.{text_work}
use Rattle.key_session.specs.Calls.{pages_of_reply, reply_pages, session_calls}
use Rattle.key_session.specs.Counting.{is_flash, one_if}
use Rattle.key_session.specs.Filling.{FillsPages, full_pages, pages_heard}
use Rattle.key_session.specs.FewCalls.{IsServedSoFar, CallsSoFar, StepsTakeFewCalls}
use Rattle.key_session.specs.Going.{WasAmid, WasMoved, WasSliced}
use Rattle.key_session.specs.Kept.{is_lost, with_lease}
use Rattle.key_session.specs.Laws.{LaterTextsAreUnmarked}
use Rattle.key_session.specs.Spending.{IsServedText, spent_by, spent_for}
use Rattle.key_session.specs.Telling.{SessionSide, marks_behind}
use Rattle.key_session.specs.TextOrder.{TextsComeInOrder}
use Rattle.key_session.specs.declared.session.Session.{Session}
use Rattle.key_session.specs.declared.teller.Teller.{Teller}
use Rattle.key_session.proofs.Attending.{unsettled}
use Rattle.key_session.proofs.CallSums.{whole_pages, all_calls}
use Rattle.key_session.proofs.HonestRuns.{no_flash}
use Rattle.key_session.proofs.Leasing.{was_amid}
use Rattle.key_session.proofs.Marking.{awaited_accepted}
use Rattle.key_session.proofs.Settings.{stored}

-- what the laws say
pub record CallLaws : Type 0 where
  pub stay : EndedTextsStay
  pub decided : TextsAreDecided
  pub over : OverTextsAreSettled
  pub in_order : AsksAreAwaitedInOrder
  pub order : TextsComeInOrder
  pub done : HonestAsksAreDone
  pub smooth : HonestSessionsAreSmooth
  pub asks : HonestAsksAreRepliedWhole
  pub texts : HonestTextsAreRepliedWhole
  pub later : LaterTextsAreUnmarked

true_is_not_false : true ≡ false → ⊥
true_is_not_false e = cc

both_true : (a b : Bool) → (not a && b) ≡ true → b ≡ true
both_true true b e = cc
both_true false b e = e

refused_front : (one other : List EndedAsk) → was_refused (one ++ other) ≡ false → was_refused one ≡ false
refused_front [] other e = refl
refused_front (end ∷ one) other e = by (is_refused_by end.ending) e (refused_front one other)
  where
    by : (b : Bool) → (b || was_refused (one ++ other)) ≡ false → (was_refused (one ++ other) ≡ false → was_refused one ≡ false) → (b || was_refused one) ≡ false
    by true e later = absurd (true_is_not_false e)
    by false e later = later e

none_of : (b : Bool) → one_if b ≡ 0 → b ≡ false
none_of true e = (let bad : ⊥ = omega (arith, e) in absurd bad)
none_of false e = refl

text_at : (texts : List (List ℕ)) (place : ℕ) → place < length texts → (written : List ℕ) × (slice_get texts place ≡ Some written)
text_at [] place less = absurd (omega (arith, less))
text_at (first ∷ texts) zero less = (first, refl)
text_at (first ∷ texts) (suc place) less = text_at texts place (omega (arith, less))

accepted_of : (read : Result Query Refusal) → is_err read ≡ false → (query : Query) × (read ≡ Ok query)
accepted_of (Ok query) e = (query, refl)
accepted_of (Err refusal) e = absurd (true_is_not_false e)

-- the flash did not fail before either
unfailed_before : (since before now : ℕ) → min before last_count ≤ now → (Rose since now → ⊥) → Rose since before → ⊥
unfailed_before since before now stays unfailed rose = unfailed (omega (arith, stays, rose))

unfailed_between : (since before now : ℕ) → min since last_count ≤ before → (Rose since now → ⊥) → Rose before now → ⊥
unfailed_between since before now stayed unfailed rose = unfailed (omega (arith, stayed, rose))

module _ (laws : CallLaws) (told : Bool) (texts : List (List ℕ)) (journal : Journal) (since before now : SessionSide) (pool : Pool) (old new : Session) (database : Database) where
  abbrev cat : Catalog
  cat = old.cat.now

  -- a move
  module _ (moved : WasMoved (λ went. ⊤) by_pre told texts journal since before now pool old new) (served : IsServedSoFar told old.cat.now database texts (journal ++ moved.made ∷ []) since now) where
    was : WasAmid by_pre told new.cat.now texts (journal ++ moved.made ∷ []) since now new.pump new.teller new.replies
    was = was_amid by_pre told texts (journal ++ moved.made ∷ []) since now pool new moved.live

    no_marks : marks_behind new.replies new.teller.count ≡ 0
    no_marks =
        let telling = was.amid.going.telling in
        let none = no_flash since.flash.faults (count_by is_flash telling.reasons.reasons + marks_behind new.replies new.teller.count) now.flash.faults telling.reasons.counted.faults.blamed served.flash in
        omega (arith, none)

    unmarked_from : (more : ℕ) (text : ℕ) → text ≡ new.teller.count + 1 + more → is_lost new.replies text ≡ false
    unmarked_from zero text e =
        let none = no_marks in
        let first : one_if (is_lost new.replies (new.teller.count + 1)) ≡ 0 = omega (arith, none) in
        let is : text ≡ new.teller.count + 1 = omega (arith, e) in
        ap (is_lost new.replies) is ∙ none_of (is_lost new.replies (new.teller.count + 1)) first
    unmarked_from (suc zero) text e =
        let none = no_marks in
        let second : one_if (is_lost new.replies (new.teller.count + 2)) ≡ 0 = omega (arith, none) in
        let is : text ≡ new.teller.count + 2 = omega (arith, e) in
        ap (is_lost new.replies) is ∙ none_of (is_lost new.replies (new.teller.count + 2)) second
    unmarked_from (suc (suc more)) text e =
        let going = was.amid.going in
        let near = going.telling.near in
        laws.later told now.flash was.had new.cat.now (heard_in new.cat.now texts (journal ++ moved.made ∷ [])) (new.teller.count + 1) going.top text (with_lease was.lease new.replies) going.telling.kept (omega (arith, near, e))

    same_count : new.teller.count ≡ old.teller.count
    same_count = ap (λ (teller : Teller). teller.count) moved.teller

    unmarked : (text : ℕ) → old.teller.count + 1 ≤ text → is_lost new.replies text ≡ false
    unmarked text from = let count = same_count in unmarked_from (text - (new.teller.count + 1)) text (omega (arith, from, count))

    tells : Tells cat moved.page moved.event (heard_in cat texts journal) (heard_in cat texts (journal ++ moved.made ∷ []))
    tells = subst (λ (c : Catalog). Tells c moved.page moved.event (heard_in c texts journal) (heard_in c texts (journal ++ moved.made ∷ []))) moved.cat moved.tells

    unrefused_before : was_refused (heard_in cat texts journal).ended ≡ false
    unrefused_before = refused_front (heard_in cat texts journal).ended _ (ap was_refused (sym tells.ended) ∙ served.unrefused)

    fills : now.flash.calls + 2 * pages_heard cat.schema (heard_in cat texts journal) ≤ before.flash.calls + 2 * pages_heard cat.schema (heard_in cat texts (journal ++ moved.made ∷ []))
    fills =
        subst (λ (c : Catalog). FillsPages c.schema (old.teller.count + 1) (heard_in c texts journal) (heard_in c texts (journal ++ moved.made ∷ [])) before.flash now.flash new.replies) moved.cat moved.fills
        served.unrefused unmarked

    served_before : IsServedSoFar told cat database texts journal since before
    served_before = record {
      at = served.at;
      rest = moved.made ∷ served.rest;
      honest = subst (IsHonestSession cat database served.at texts) (append_assoc journal (moved.made ∷ []) served.rest) served.honest;
      finished = subst IsFinished (append_assoc journal (moved.made ∷ []) served.rest) served.finished;
      unrefused = unrefused_before;
      pages = served.pages;
      flash = unfailed_before since.flash.faults before.flash.faults now.flash.faults moved.counts.faults served.flash;
    }

    move_calls : CallsSoFar told cat texts journal since before old.teller
        → now.flash.calls ≤ since.flash.calls + (spent_for cat.schema database texts new.teller + 2 * pages_heard cat.schema (heard_in cat texts (journal ++ moved.made ∷ [])))
    move_calls few =
        let had = few database served_before in
        let more_pages = fills in
        let spent = ap (spent_for cat.schema database texts) moved.teller in
        omega (arith, had, more_pages, spent)

  -- a slice
  module _ (low : min since.flash.faults last_count ≤ before.flash.faults) (sliced : WasSliced (λ went. ⊤) by_pre told texts journal since before now pool old new)
      (served : IsServedSoFar told old.cat.now database texts journal since now) where
    -- the replies to a text are whole, once all its asks came to their end
    served_at : (place : ℕ) → IsServedText told since.flash.page cat texts journal place database
    served_at place = record {
      pages = served.pages;
      honest = λ written asked stands accepted done.
          let settled : is_settled_in cat texts journal (suc place) ≡ true =
          both_true (is_refused_in cat texts journal (suc place)) (is_settled_in cat texts journal (suc place)) (sym (laws.decided cat texts journal place written asked stands accepted).done ∙ done) in
          sym (laws.stay cat texts journal served.rest (suc place) settled).replied
          ∙ laws.texts cat database served.at texts (journal ++ served.rest) place written asked served.honest stands accepted
          (laws.done cat database served.at texts (journal ++ served.rest) place written asked served.honest served.finished stands accepted);
    }

    spends : now.flash.calls + spent_for cat.schema database texts old.teller ≤ before.flash.calls + spent_for cat.schema database texts new.teller
    spends = sliced.spends refl database (served_at old.teller.count) (unfailed_between since.flash.faults before.flash.faults now.flash.faults low served.flash)

    slice_calls : CallsSoFar told cat texts journal since before old.teller
        → now.flash.calls ≤ since.flash.calls + (spent_for cat.schema database texts new.teller + 2 * pages_heard cat.schema (heard_in cat texts journal))
    slice_calls few =
        let had =
        few database (record {
          at = served.at;
          rest = served.rest;
          honest = served.honest;
          finished = served.finished;
          unrefused = served.unrefused;
          pages = served.pages;
          flash = unfailed_before since.flash.faults before.flash.faults now.flash.faults sliced.counts.faults served.flash;
        }) in
        let calls = spends in
        omega (arith, had, calls)

-- at the end
module _ (laws : CallLaws) (told : Bool) (cat : Catalog) (database : Database) (at : List ℕ) (texts : List (List ℕ)) (since now : SessionSide) (final : Journal)
    (knows : KnowsBy by_pre told since.flash.page cat database) (honest : IsHonestSession cat database at texts final) (finished : IsFinished final) where
  cannot_be : (text number : ℕ) → text ≡ number → is_settled_in cat texts final text ≡ false → is_settled_in cat texts final number ≡ true → ⊥
  cannot_be text number same unset settled = true_is_not_false (sym settled ∙ (ap (is_settled_in cat texts final) (sym same) ∙ unset))

  none_awaited : (asked : Option NumberedAsk) → asked_in (heard_in cat texts final).awaits ≡ asked → asked_in (heard_in cat texts final).awaits ≡ None
  none_awaited None e = e
  none_awaited (Some one) e =
      let in_order = laws.order cat texts (taken final) one e in
      let numbered = in_order.numbered in
      let within = in_order.within in
      let is : one.text ≡ suc (one.text - 1) = omega (arith, numbered) in
      let text = text_at texts (one.text - 1) (omega (arith, numbered, within)) in
      let query = accepted_of (reading cat.schema text.0) (awaited_accepted laws.in_order cat texts final one e (one.text - 1) text.0 is text.1) in
      let done = laws.done cat database at texts final (one.text - 1) text.0 query.0 honest finished text.1 query.1 in
      let settled : is_settled_in cat texts final (suc (one.text - 1)) ≡ true =
      both_true (is_refused_in cat texts final (suc (one.text - 1))) (is_settled_in cat texts final (suc (one.text - 1))) (sym (laws.decided cat texts final (one.text - 1) text.0 query.0 text.1 query.1).done ∙ done) in
      let unset : is_settled_in cat texts final one.text ≡ false = unsettled laws.over laws.order laws.decided cat texts final one e in
      absurd (cannot_be one.text (suc (one.text - 1)) is unset settled)

  pages_at_end : pages_heard cat.schema (heard_in cat texts final) ≤ sum_by (λ (one : NumberedAsk). reply_pages cat.schema database one.ask) (asked_of cat.schema texts)
  pages_at_end =
      let whole : AreRepliedWhole cat database texts final = laws.asks cat database at texts final honest in
      let came : sum_by (pages_of_reply cat.schema) (replies_in cat.schema (heard_in cat texts final).ended) ≡ sum_by (λ (one : NumberedAsk). reply_pages cat.schema database one.ask) whole.first =
      ap (sum_by (pages_of_reply cat.schema)) whole.replied ∙ whole_pages cat database whole.first in
      let all : sum_by (λ (one : NumberedAsk). reply_pages cat.schema database one.ask) (asked_of cat.schema texts)
      ≡ sum_by (λ (one : NumberedAsk). reply_pages cat.schema database one.ask) whole.first + sum_by (λ (one : NumberedAsk). reply_pages cat.schema database one.ask) whole.later =
      ap (sum_by (λ (one : NumberedAsk). reply_pages cat.schema database one.ask)) whole.asked_are ∙ sum_by-append (λ (one : NumberedAsk). reply_pages cat.schema database one.ask) whole.first whole.later in
      let none : full_pages cat.schema (asked_in (heard_in cat texts final).awaits) (heard_in cat texts final).rows ≡ 0 =
      ap (λ (asked : Option NumberedAsk). full_pages cat.schema asked (heard_in cat texts final).rows) (none_awaited (asked_in (heard_in cat texts final).awaits) refl) in
      omega (arith, came, all, none)

  -- all texts were told, and none is told now
  pub whole_calls : (teller : Teller) → teller.count ≡ length texts → teller.running ≡ None → (Rose since.flash.faults now.flash.faults → ⊥)
      → CallsSoFar told cat texts final since now teller → now.flash.calls ≤ since.flash.calls + session_calls cat.schema database texts
  whole_calls teller count none unfailed few =
      let holds : now.flash.calls ≤ since.flash.calls + (spent_for cat.schema database texts teller + 2 * pages_heard cat.schema (heard_in cat texts final)) =
      few database (record {
        at = at;
        rest = [];
        honest = subst (IsHonestSession cat database at texts) (sym (append-nil final)) honest;
        finished = subst IsFinished (sym (append-nil final)) finished;
        unrefused = (laws.smooth cat database at texts final honest).none_refused;
        pages = knows;
        flash = unfailed;
      }) in
      let works : sum_by (text_work cat.schema database) (take teller.count texts) ≡ sum_by (text_work cat.schema database) texts =
      ap (λ (n : ℕ). sum_by (text_work cat.schema database) (take n texts)) count ∙ ap (sum_by (text_work cat.schema database)) (take_all texts) in
      let spent : spent_by teller.running ≡ 0 = ap spent_by none in
      let most = pages_at_end in
      let all = all_calls cat database 1 texts in
      omega (arith, holds, works, spent, most, all)
    where
      take_all : (some : List (List ℕ)) → take (length some) some ≡ some
      take_all [] = refl
      take_all (first ∷ some) = ap (λ (xs : List (List ℕ)). first ∷ xs) (take_all some)

pub few_calls : CallLaws → StepsTakeFewCalls
few_calls laws = record {
  moved = λ told texts journal since before now pool old new moved few. λ database served. move_calls laws told texts journal since before now pool old new database moved served few;
  sliced = λ told texts journal since before now pool old new low sliced few. λ database served. slice_calls laws told texts journal since before now pool old new database low sliced served few;
  ended = λ plan told cat at texts journal since now teller setting is_proper finished count none few. λ database is_pre sound.
      let pages : KnowsBy by_pre told since.flash.page cat database = subst (λ (by : Plan). KnowsBy by told since.flash.page cat database) is_pre sound.pages in
      whole_calls laws told cat database at texts since now journal pages
      (record { setting = setting; stored = stored by_pre told since.flash.page cat database setting.proper pages; proper = is_proper; honest = sound.host }) finished
      teller count none sound.flash (few is_pre);
}
