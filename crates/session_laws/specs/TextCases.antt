-- How an accepted text came out, whatever host and link there were. All its asks were ended by DONE exactly where the host
-- refused none of them and the text is settled. A finished session in which some of them were not has a cause, and the
-- text's word names it.
use Rattle.std.specs.Prelude.{◌≡◌, ℕ, suc, Bool, true, false, not, ◌&&◌, ◌==◌, List, slice_get, codes, Some, Ok}
use Rattle.std.specs.List.{list_any}
use Rattle.ghost_model.specs.core.Query.{Query}
use Rattle.ghost_model.specs.readings.QueryReading.{reading}
use Rattle.ghost_model.specs.core.Channel.{Catalog, Journal}
use Rattle.ghost_model.specs.core.Moves.{answers}
use Rattle.ghost_model.specs.core.NextMove.{is_stop, IsProper, IsFinished, ended_of}
use Rattle.ghost_model.specs.core.Lines.{is_refused_by, was_refused, all_done, broken_word}
use Rattle.session_laws.specs.TextEnds.{heard_in, is_settled_in}
use Rattle.ghost_model.specs.core.Asks.{asked_of}

-- whether the host refused an ask of a text
abbrev pub is_refused_in : Catalog → (texts : List (List ℕ)) → Journal → (text : ℕ) → Bool
is_refused_in catalog texts journal text =
    list_any (λ end. is_refused_by end.ending && end.asked.text == text) (heard_in catalog texts journal).ended

pub record IsDecided (catalog : Catalog) (texts : List (List ℕ)) (journal : Journal) (text : ℕ) (asked : Query) : Type 0 where
  pub refused : was_refused (ended_of catalog (asked_of catalog.schema texts) journal text) ≡ is_refused_in catalog texts journal text
  pub done : all_done catalog.schema asked (ended_of catalog (asked_of catalog.schema texts) journal text)
      ≡ (not (is_refused_in catalog texts journal text) && is_settled_in catalog texts journal text)

-- the text at place 0 has number 1
abbrev pub TextsAreDecided : Type 0
TextsAreDecided =
    (catalog : Catalog) (texts : List (List ℕ)) (journal : Journal) (place : ℕ) (written : List ℕ) (asked : Query)
    → slice_get texts place ≡ Some written → reading catalog.schema written ≡ Ok asked
    → IsDecided catalog texts journal (suc place) asked

-- all asks were ended by DONE; or the host refused one; or else the link or, where it did not fail, an invalid frame
-- ended the session before
pub data Outcome (catalog : Catalog) (texts : List (List ℕ)) (journal : Journal) (text : ℕ) (asked : Query) : Type 0 where
  IsDone : all_done catalog.schema asked (ended_of catalog (asked_of catalog.schema texts) journal text) ≡ true → Outcome catalog texts journal text asked
  ByHost :
      all_done catalog.schema asked (ended_of catalog (asked_of catalog.schema texts) journal text) ≡ false
      → is_refused_in catalog texts journal text ≡ true
      → broken_word (ended_of catalog (asked_of catalog.schema texts) journal text) journal ≡ codes "host"
      → Outcome catalog texts journal text asked
  ByLink :
      all_done catalog.schema asked (ended_of catalog (asked_of catalog.schema texts) journal text) ≡ false
      → is_refused_in catalog texts journal text ≡ false → list_any is_stop (answers journal) ≡ true
      → broken_word (ended_of catalog (asked_of catalog.schema texts) journal text) journal ≡ codes "link"
      → Outcome catalog texts journal text asked
  ByFrame :
      all_done catalog.schema asked (ended_of catalog (asked_of catalog.schema texts) journal text) ≡ false
      → is_refused_in catalog texts journal text ≡ false → list_any is_stop (answers journal) ≡ false
      → (heard_in catalog texts journal).broken ≡ true
      → broken_word (ended_of catalog (asked_of catalog.schema texts) journal text) journal ≡ codes "protocol"
      → Outcome catalog texts journal text asked

abbrev pub TextsHaveOutcomes : Type 0
TextsHaveOutcomes =
    (catalog : Catalog) (at : List ℕ) (texts : List (List ℕ)) (journal : Journal)
    (place : ℕ) (written : List ℕ) (asked : Query)
    → IsProper catalog at texts journal → IsFinished journal
    → slice_get texts place ≡ Some written → reading catalog.schema written ≡ Ok asked
    → Outcome catalog texts journal (suc place) asked
