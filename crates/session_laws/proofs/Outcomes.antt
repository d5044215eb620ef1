-- Whatever host and link there are: how an accepted text came out.
use Rattle.std.proofs.Common.{◌≡◌, ℕ, suc, Bool, true, false, not, ◌&&◌, List, [], sym, ◌∙◌, ap, refl, Some, slice_get, Ok}
use Rattle.std.specs.Prelude.{if◌then◌else◌, codes}
use Rattle.std.specs.List.{list_any}
use Rattle.ghost_model.specs.core.Query.{Query}
use Rattle.ghost_model.specs.readings.QueryReading.{reading}
use Rattle.ghost_model.specs.core.Channel.{Catalog, Journal}
use Rattle.ghost_model.specs.core.Asks.{asked_of}
use Rattle.ghost_model.specs.core.Moves.{taken, answers}
use Rattle.ghost_model.specs.core.NextMove.{Awaits, AwaitsNothing, EndedAsk, Heard, heard, standing_after, is_stop, GoesOn, IsFinished, ended_of}
use Rattle.ghost_model.specs.core.Lines.{was_refused, all_done, broken_word}
use Rattle.session_laws.specs.TextEnds.{is_settled, is_settled_in}
use Rattle.session_laws.specs.TextCases.{IsDecided, Outcome, IsDone, ByHost, ByLink, ByFrame}
use Rattle.session_laws.proofs.Closing.{Closes, by_stop, by_invalid, by_end, why_closed, any_answer}
use Rattle.session_laws.proofs.Decided.{decided}

module _ (catalog : Catalog) (texts : List (List ℕ)) (journal : Journal) (place : ℕ) (written : List ℕ) (query : Query) (here : slice_get texts place ≡ Some written) (read : reading catalog.schema written ≡ Ok query) where
  abbrev now : Heard
  now = heard catalog (asked_of catalog.schema texts) (taken journal)

  abbrev mine : List EndedAsk
  mine = ended_of catalog (asked_of catalog.schema texts) journal (suc place)

  abbrev is_decided : IsDecided catalog texts journal (suc place) query
  is_decided = decided catalog texts journal place written query here read

  not_done : (b : Bool) → b ≡ false → b ≡ true → ⊥
  not_done b e f = cc

  word_is : (ends : List EndedAsk) (refused stops : Bool) → was_refused ends ≡ refused → list_any is_stop (answers journal) ≡ stops → broken_word ends journal ≡ (if refused then codes "host" else if stops then codes "link" else codes "protocol")
  word_is ends refused stops r s =
      ap (λ (b : Bool). if b then codes "host" else if list_any is_stop (answers journal) then codes "link" else codes "protocol") r
      ∙ ap (λ (b : Bool). if refused then codes "host" else if b then codes "link" else codes "protocol") s

  none_awaited : now.awaits ≡ AwaitsNothing → is_settled_in catalog texts journal (suc place) ≡ true
  none_awaited e = ap (λ (a : Awaits). is_settled (asked_of catalog.schema texts) (suc place) a) e

  both_so : (refused settled : Bool) → refused ≡ false → settled ≡ true → (not refused && settled) ≡ true
  both_so refused settled r s = rw (r, s)

  abbrev Out : Type 0
  Out = Outcome catalog texts journal (suc place) query

  unfinished : (stops invalid : Bool) → all_done catalog.schema query mine ≡ false → was_refused mine ≡ false → list_any is_stop (answers journal) ≡ stops → now.broken ≡ invalid → Closes (standing_after catalog (asked_of catalog.schema texts) journal).stopped now.broken now.awaits → Out
  unfinished true invalid d r s b why = ByLink d (sym is_decided.refused ∙ r) s (word_is mine false true r s)
  unfinished false true d r s b why = ByFrame d (sym is_decided.refused ∙ r) s b (word_is mine false false r s)
  unfinished false false d r s b (by_stop e) = absurd (not_done _ (sym (any_answer journal) ∙ s) e)
  unfinished false false d r s b (by_invalid e) = absurd (not_done now.broken b e)
  unfinished false false d r s b (by_end e) =
      absurd (not_done (all_done catalog.schema query mine) d (is_decided.done ∙ both_so _ _ (sym is_decided.refused ∙ r) (none_awaited e)))

  outcome_by : (done refused : Bool) → all_done catalog.schema query mine ≡ done → was_refused mine ≡ refused → Closes (standing_after catalog (asked_of catalog.schema texts) journal).stopped now.broken now.awaits → Out
  outcome_by true refused d r why = IsDone d
  outcome_by false true d r why = ByHost d (sym is_decided.refused ∙ r) (word_is mine true _ r refl)
  outcome_by false false d r why = unfinished (list_any is_stop (answers journal)) now.broken d r refl refl why

  pub outcome : (at : List ℕ) → GoesOn catalog at (asked_of catalog.schema texts) [] journal → IsFinished journal → Out
  outcome at goes f =
      outcome_by (all_done catalog.schema query mine) (was_refused mine) refl refl (why_closed catalog (asked_of catalog.schema texts) at journal goes f)
