-- How many calls of the flash sessions over the clinic take at most, and pages of replies of notes.
use Rattle.std.specs.Prelude.{◌≡◌, ℕ, List, [], ◌∷◌, ◌+◌, codes, sum_by, Result, Ok, Err}
use Rattle.ghost_model.specs.core.Values.{Database}
use Rattle.ghost_model.specs.core.Query.{Query}
use Rattle.ghost_model.specs.core.Asks.{asks_of}
use Rattle.ghost_model.specs.refusals.QueryMeaning.{Refusal}
use Rattle.ghost_model.specs.readings.QueryReading.{reading}
use Rattle.ghost_model.specs.examples.Clinic.{clinic_schema, clinic, note_schema}
use Rattle.ghost_model.specs.examples.Meaning.{cardio_on, from_day_two, names_of_ann}
use Rattle.ghost_model.specs.examples.QueryWork.{notes_alike}
use Rattle.key_session.specs.Calls.{reply_pages, text_calls, session_calls}

-- a text's work, and two calls for each page that a reply to it fills; a refused text takes none
pub record CallsOfTheClinic : Type 0 where
  pub one_page : text_calls clinic_schema clinic (cardio_on (codes "flu")) ≡ 322 + 2
  pub no_reply : text_calls clinic_schema clinic names_of_ann ≡ 167
  pub refused : text_calls clinic_schema clinic (codes "SELECT nothing FROM visit") ≡ 0
  pub a_session :
      session_calls clinic_schema clinic (cardio_on (codes "flu") ∷ from_day_two ∷ names_of_ann ∷ codes "SELECT nothing FROM visit" ∷ []) ≡ 869

-- the pages of the replies to a text over so many notes
abbrev pub pages_of_reading : Database → Result Query Refusal → ℕ
pages_of_reading database (Ok asked) = sum_by (reply_pages note_schema database) (asks_of note_schema asked)
pages_of_reading database (Err refusal) = 0

abbrev pub pages_of_notes : (count : ℕ) → (text : List ℕ) → ℕ
pages_of_notes count text = pages_of_reading (notes_alike 1 count (codes "x") ∷ []) (reading note_schema text)

-- a row that is asked for no column takes four bytes of a page's 2,048, and one with its topic more
pub record PagesOfNotes : Type 0 where
  pub identifiers_alone : pages_of_notes 300 (codes "SELECT id FROM note WHERE topic = 'a'") ≡ 1
  pub with_a_column : pages_of_notes 300 (codes "SELECT topic FROM note WHERE topic = 'a'") ≡ 2
