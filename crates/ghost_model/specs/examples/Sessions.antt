-- Telling sessions over the clinic: an honest host, one that tells wrong rows in good form, and one that refuses; and the
-- lines that texts have in them.
use Rattle.std.specs.Prelude.{◌≡◌, ℕ, true, false, List, [], ◌∷◌, ◌++◌, take, codes}
use Rattle.ghost_model.specs.core.Values.{Row, Text, Database}
use Rattle.ghost_model.specs.core.Channel.{HelloFrame, AskFrame, MoreFrame, ByeFrame, DoneFrame, Frame, Ask, Catalog, Journal, Entry, Take, End}
use Rattle.ghost_model.specs.core.NextMove.{IsProper, IsFinished, EndedAsk, ended_of}
use Rattle.ghost_model.specs.core.Asks.{RowCells, asked_of}
use Rattle.ghost_model.specs.core.Split.{public_of, hidden_of, Hidden, Public, reply_rows}
use Rattle.ghost_model.specs.core.Host.{rows_frame, host_of}
use Rattle.ghost_model.specs.core.Local.{IsServedBy}
use Rattle.ghost_model.specs.core.Meaning.{answer}
use Rattle.ghost_model.specs.core.Honest.{IsHonest}
use Rattle.ghost_model.specs.core.Lines.{AreLines, all_done, broken_word}
use Rattle.ghost_model.specs.laws.ShortWords.{rows_from_replies}
use Rattle.ghost_model.specs.examples.Clinic.{clinic, clinic_schema, clinic_catalog, number, doctor_row, patient_row, visit_row}
use Rattle.ghost_model.specs.examples.Channel.{hex, cardio_text, cardio_query, cardio_ask, cardio_test, cardio_journal, late_text, name_text, dialled, sends, takes, welcomed, closed}
use Rattle.ghost_model.specs.core.Printed.{printed}
use Rattle.ghost_model.specs.examples.Meaning.{cardio_on, tabbed}

abbrev pub ends : ℕ → Entry
ends most = record { move = Take most; answer = End }

abbrev pub clinic_public : Public
clinic_public = public_of clinic_schema clinic

abbrev pub clinic_hidden : Hidden
clinic_hidden = hidden_of clinic_schema clinic

abbrev pub cardio_texts : List (List ℕ)
cardio_texts = cardio_text ∷ []

-- what a session answers the text about cardiologists from the replies that came
abbrev pub rows_by : Journal → List Row
rows_by journal = rows_from_replies clinic_catalog clinic_hidden (asked_of clinic_schema cardio_texts) journal 1 cardio_query

-- which asks of it were ended, and how
abbrev pub ends_by : Journal → List EndedAsk
ends_by journal = ended_of clinic_catalog (asked_of clinic_schema cardio_texts) journal 1

abbrev pub cardio_row : ℕ → Row
cardio_row visit = number visit ∷ Text (codes "cardio") ∷ []

-- doctors 1 and 2 for 1 and 3
abbrev pub lying_journal : Journal
lying_journal =
    dialled []
    ∷ sends (HelloFrame 1)
    ∷ takes 8 (codes "1102016e00000000")
    ∷ welcomed clinic_catalog
    ∷ sends cardio_ask
    ∷ takes 8 (codes "1202001800000001")
    ∷ takes 24 (codes "0000000163617264696f00000000000263617264696f0000")
    ∷ sends (MoreFrame 1)
    ∷ takes 8 (codes "1302000400000001")
    ∷ takes 4 (codes "00000002")
    ∷ sends ByeFrame
    ∷ closed
    ∷ []

-- the host refuses the ask
abbrev pub refusing_journal : Journal
refusing_journal =
    dialled []
    ∷ sends (HelloFrame 1)
    ∷ takes 8 (codes "1102016e00000000")
    ∷ welcomed clinic_catalog
    ∷ sends cardio_ask
    ∷ takes 8 (codes "1402000100000001")
    ∷ takes 1 (codes "01")
    ∷ sends ByeFrame
    ∷ closed
    ∷ []

-- the stream ends after five bytes of a header
abbrev pub ending_journal : Journal
ending_journal =
    dialled []
    ∷ sends (HelloFrame 1)
    ∷ takes 8 (codes "1102016e00000000")
    ∷ welcomed clinic_catalog
    ∷ sends cardio_ask
    ∷ takes 8 (codes "1202001800")
    ∷ ends 3
    ∷ closed
    ∷ []

-- a row of the reply has this identifier
abbrev pub one_row_journal : (identifier : List ℕ) → Journal
one_row_journal identifier =
    dialled []
    ∷ sends (HelloFrame 1)
    ∷ takes 8 (codes "1102016e00000000")
    ∷ welcomed clinic_catalog
    ∷ sends cardio_ask
    ∷ takes 8 (codes "1202000c00000001")
    ∷ takes 12 (identifier ++ codes "63617264696f0000")
    ∷ closed
    ∷ []

-- identifier 4, and there are three doctors; and identifier 0
abbrev pub invalid_journal : Journal
invalid_journal = one_row_journal (codes "00000004")

abbrev pub zero_journal : Journal
zero_journal = one_row_journal (codes "00000000")

-- the ask for the cardiologists, and what an honest host says to it
abbrev pub cardio_wanted : Ask
cardio_wanted = record { table = 0; columns = 1 ∷ []; tests = cardio_test ∷ [] }

abbrev pub cardio_replied : List RowCells
cardio_replied = reply_rows clinic_schema clinic_public cardio_wanted

abbrev pub cardio_reply : List Frame
cardio_reply = rows_frame 1 cardio_replied ∷ DoneFrame 1 2 ∷ []

pub record HonestSession : Type 0 where
  pub served : IsServedBy (host_of clinic_catalog clinic_public) cardio_journal
  pub honest : IsHonest clinic_catalog clinic_public cardio_journal
  pub done : all_done clinic_schema cardio_query (ends_by cardio_journal) ≡ true
  pub rows : rows_by cardio_journal ≡ cardio_row 1 ∷ cardio_row 3 ∷ []
  pub plain : answer clinic_schema clinic cardio_query ≡ cardio_row 1 ∷ cardio_row 3 ∷ []

-- rows that are wrong but in good form are answered by, and nothing tells them apart
pub record LyingSession : Type 0 where
  pub proper : IsProper clinic_catalog [] cardio_texts lying_journal
  pub done : all_done clinic_schema cardio_query (ends_by lying_journal) ≡ true
  pub rows : rows_by lying_journal ≡ cardio_row 1 ∷ cardio_row 4 ∷ []

pub record RefusingSession : Type 0 where
  pub proper : IsProper clinic_catalog [] cardio_texts refusing_journal
  pub broken : all_done clinic_schema cardio_query (ends_by refusing_journal) ≡ false
  pub word : broken_word (ends_by refusing_journal) refusing_journal ≡ codes "host"

-- the stream ends within a frame, or a frame is invalid
pub record BrokenSessions : Type 0 where
  pub ended : broken_word (ends_by ending_journal) ending_journal ≡ codes "link"
  pub ended_is_proper : IsProper clinic_catalog [] cardio_texts ending_journal
  pub invalid : broken_word (ends_by invalid_journal) invalid_journal ≡ codes "protocol"
  pub invalid_is_proper : IsProper clinic_catalog [] cardio_texts invalid_journal
  pub zero : broken_word (ends_by zero_journal) zero_journal ≡ codes "protocol"
  pub zero_is_proper : IsProper clinic_catalog [] cardio_texts zero_journal

-- a line by its text, and one of a visit and a specialty
abbrev pub line : List ℕ → List ℕ
line text = text ++ 10 ∷ []

abbrev pub visit_line : (visit : List ℕ) → List ℕ
visit_line visit = line (tabbed visit (codes "cardio"))

-- lines of a text over the clinic
abbrev pub Lines : (texts : List (List ℕ)) → Journal → (number : ℕ) → (lines : List (List ℕ)) → Type 0
Lines texts journal number lines = AreLines clinic_catalog clinic_hidden texts journal number lines

-- a text that is refused, and one whose asks the host, the link or an invalid frame ended
pub record LinesOfEndings : Type 0 where
  pub refused : Lines (cardio_text ∷ codes "SELECT age patient" ∷ []) cardio_journal 2 (line (codes "! 2 syntax 11") ∷ [])
  pub by_host : Lines cardio_texts refusing_journal 1 (line (codes "! 1 host") ∷ [])
  pub by_link : Lines cardio_texts ending_journal 1 (line (codes "! 1 link") ∷ [])
  pub by_frame : Lines cardio_texts invalid_journal 1 (line (codes "! 1 protocol") ∷ [])

-- a text that was answered, rightly or by wrong rows, or whose rows the key's own fault cut: after one, after none, after all
pub record LinesOfAnswers : Type 0 where
  pub answered : Lines cardio_texts cardio_journal 1 (visit_line (codes "1") ∷ visit_line (codes "3") ∷ line (codes "= 1 2") ∷ [])
  pub by_wrong_rows : Lines cardio_texts lying_journal 1 (visit_line (codes "1") ∷ visit_line (codes "4") ∷ line (codes "= 1 2") ∷ [])
  pub cut_after_one : Lines cardio_texts cardio_journal 1 (visit_line (codes "1") ∷ line (codes "! 1 flash") ∷ [])
  pub cut_after_none : Lines cardio_texts cardio_journal 1 (line (codes "! 1 damaged") ∷ [])
  pub cut_after_all : Lines cardio_texts cardio_journal 1 (visit_line (codes "1") ∷ visit_line (codes "3") ∷ line (codes "! 1 flash") ∷ [])

-- the text about cardiologists with another purpose, and a hidden part in which the first visit has this purpose
abbrev pub none_texts : List (List ℕ)
none_texts = cardio_on (codes "none") ∷ []

abbrev pub first_for_none : Hidden
first_for_none = hidden_of clinic_schema (
    (doctor_row 1 (codes "cardio") (codes "FR") ∷ doctor_row 2 (codes "neuro") (codes "ES")
    ∷ doctor_row 3 (codes "cardio") (codes "ES") ∷ [])
    ∷ (patient_row 1 30 (codes "Ann") ∷ patient_row 2 41 (codes "Bob") ∷ [])
    ∷ (visit_row 1 5 (codes "none") 1 1 ∷ visit_row 2 5 (codes "check") 3 2 ∷ visit_row 3 9 (codes "flu") 3 1
    ∷ visit_row 4 2 (codes "flu") 2 2 ∷ [])
    ∷ []
    )

-- the journal is the same byte for byte where no row is left, where one is, and where the text asks for the other purpose
pub record SameJournal : Type 0 where
  pub proper : IsProper clinic_catalog [] none_texts cardio_journal
  pub no_row : AreLines clinic_catalog clinic_hidden none_texts cardio_journal 1 (line (codes "= 1 0") ∷ [])
  pub one_row : AreLines clinic_catalog first_for_none none_texts cardio_journal 1 (visit_line (codes "1") ∷ line (codes "= 1 1") ∷ [])

-- the clinic without a visit, a text about its days, and the session in which the ask for them gets no row
abbrev pub quiet_clinic : Database
quiet_clinic = take 2 clinic ++ [] ∷ []

abbrev pub quiet_catalog : Catalog
quiet_catalog = record { schema = clinic_schema; counts = 3 ∷ 2 ∷ 0 ∷ []; generation = 1; version = 2 }

abbrev pub day_texts : List (List ℕ)
day_texts = codes "SELECT day FROM visit" ∷ []

abbrev pub quiet_journal : Journal
quiet_journal =
    dialled []
    ∷ sends (HelloFrame 1)
    ∷ takes 8 (codes "1102016e00000000")
    ∷ welcomed quiet_catalog
    ∷ sends (AskFrame 1 (hex (codes "02010100")))
    ∷ takes 8 (codes "1302000400000001")
    ∷ takes 4 (codes "00000000")
    ∷ sends ByeFrame
    ∷ closed
    ∷ []

pub record EmptyTable : Type 0 where
  pub printed_line : printed clinic_schema day_texts quiet_clinic ≡ line (codes "= 1 0")
  pub proper : IsProper quiet_catalog [] day_texts quiet_journal
  pub finished : IsFinished quiet_journal
  pub lines : AreLines quiet_catalog (hidden_of clinic_schema quiet_clinic) day_texts quiet_journal 1 (line (codes "= 1 0") ∷ [])

-- three texts with two asks
abbrev pub three_texts : List (List ℕ)
three_texts = cardio_text ∷ late_text ∷ name_text ∷ []

abbrev pub three_texts_journal : Journal
three_texts_journal =
    dialled []
    ∷ sends (HelloFrame 1)
    ∷ takes 8 (codes "1102016e00000000")
    ∷ welcomed clinic_catalog
    ∷ sends cardio_ask
    ∷ takes 8 (codes "1202001800000001")
    ∷ takes 24 (codes "0000000163617264696f00000000000363617264696f0000")
    ∷ sends (MoreFrame 1)
    ∷ takes 8 (codes "1302000400000001")
    ∷ takes 4 (codes "00000002")
    ∷ sends (AskFrame 2 (hex (codes "0201010101068000000000000002")))
    ∷ takes 8 (codes "1202003000000002")
    ∷ takes 48 (codes "000000018000000000000005000000028000000000000005000000038000000000000009000000048000000000000002")
    ∷ sends (MoreFrame 2)
    ∷ takes 8 (codes "1302000400000002")
    ∷ takes 4 (codes "00000004")
    ∷ sends ByeFrame
    ∷ closed
    ∷ []

abbrev pub day_line : (visit day : List ℕ) → List ℕ
day_line visit day = line (tabbed visit day)

-- the flash fails in the first text, and the others are answered
pub record LinesOfThreeTexts : Type 0 where
  pub first : Lines three_texts three_texts_journal 1 (visit_line (codes "1") ∷ line (codes "! 1 flash") ∷ [])
  pub second :
      Lines three_texts three_texts_journal 2
      (day_line (codes "1") (codes "5") ∷ day_line (codes "2") (codes "5") ∷ day_line (codes "3") (codes "9")
      ∷ day_line (codes "4") (codes "2") ∷ line (codes "= 2 4") ∷ [])
  pub third : Lines three_texts three_texts_journal 3 (line (codes "> Ann") ∷ line (codes "= 3 1") ∷ [])

pub record JournalOfThreeTexts : Type 0 where
  pub proper : IsProper clinic_catalog [] three_texts three_texts_journal
  pub finished : IsFinished three_texts_journal
