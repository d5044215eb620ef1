-- What the relations leave out: journals that are not proper, finished, honest or served, lines that no session gives, lists of
-- rows that are no database, and slots that are not damaged. Each stands beside a member among the other examples, and
-- mostly differs from it in one thing.
use Rattle.std.specs.Prelude.{ℕ, ◌==◌, List, [], ◌∷◌, ◌++◌, codes, drop, get_or, replicate, if◌then◌else◌}
use Rattle.std.specs.List.{concat}
use Rattle.ghost_model.specs.core.Values.{Row, Database, Text}
use Rattle.ghost_model.specs.core.Database.{IsDatabase}
use Rattle.ghost_model.specs.core.Channel.{HelloFrame, AskFrame, Journal, Take, Failed}
use Rattle.ghost_model.specs.core.NextMove.{IsProper, IsFinished}
use Rattle.ghost_model.specs.core.Host.{host_of}
use Rattle.ghost_model.specs.core.Honest.{IsHonest}
use Rattle.ghost_model.specs.core.Local.{IsServedBy}
use Rattle.ghost_model.specs.forms.Slots.{IsDamagedSlot}
use Rattle.ghost_model.specs.examples.Clinic.{clinic, clinic_schema, clinic_catalog, note_catalog, number, doctor_row, visit_row}
use Rattle.ghost_model.specs.examples.Channel.{hex, entry, cardio_ask, cardio_journal, cut_journal, silent_journal, greeted, dialled, sends, takes, closed}
use Rattle.ghost_model.specs.examples.Sessions.{cardio_texts, clinic_public, lying_journal, ending_journal, Lines, line, visit_line}
use Rattle.ghost_model.specs.examples.Flash.{small, filled, page_with}

-- the session of the text about cardiologists up to its first ask, and what may follow the ask
abbrev pub asking : Journal
asking = greeted clinic_catalog

-- the same ask, but for the name of the specialty
abbrev pub other_ask : Journal
other_ask = asking ++ sends (AskFrame 1 (hex (codes "00010101010163617264696e0000"))) ∷ []

-- the ask has a condition on the hidden column doctor.country too
abbrev pub hidden_ask : Journal
hidden_ask = asking ++ sends (AskFrame 1 (hex (codes "00010102010163617264696f000002014652"))) ∷ []

abbrev pub early_take : Journal
early_take = asking ++ takes 8 (codes "1202001800000001") ∷ []

-- a byte more is taken than the header lacks
abbrev pub long_take : Journal
long_take = asking ++ sends cardio_ask ∷ takes 9 (codes "120200180000000100") ∷ []

-- a failed take is tried again
abbrev pub second_try : Journal
second_try =
    asking ++ sends cardio_ask ∷ entry (Take 8) Failed ∷ takes 8 (codes "1202001800000001") ∷ []

-- each begins as a proper journal does, and has one move that is not the next one
pub record JournalsThatAreNotProper : Type 0 where
  pub dials_another_address : IsProper clinic_catalog [] cardio_texts (dialled (1 ∷ []) ∷ []) → ⊥
  pub begins_without_a_dial : IsProper clinic_catalog [] cardio_texts (sends (HelloFrame 1) ∷ []) → ⊥
  pub ends_without_its_ask : IsProper clinic_catalog [] cardio_texts silent_journal → ⊥
  pub asks_for_nothing_wanted : IsProper clinic_catalog [] [] (asking ++ sends cardio_ask ∷ []) → ⊥
  pub asks_for_another_value : IsProper clinic_catalog [] cardio_texts other_ask → ⊥
  pub asks_by_a_hidden_column : IsProper clinic_catalog [] cardio_texts hidden_ask → ⊥
  pub takes_before_it_asks : IsProper clinic_catalog [] cardio_texts early_take → ⊥
  pub takes_a_byte_more : IsProper clinic_catalog [] cardio_texts long_take → ⊥
  pub tries_again : IsProper clinic_catalog [] cardio_texts second_try → ⊥
  pub closes_twice : IsProper clinic_catalog [] [] (silent_journal ++ closed ∷ []) → ⊥

pub record JournalsThatAreNotFinished : Type 0 where
  pub nothing : IsFinished [] → ⊥
  pub no_close : IsFinished asking → ⊥
  pub a_move_after_close : IsFinished (silent_journal ++ dialled [] ∷ []) → ⊥

-- wrong rows in good form, a stream that ends, and a reply that comes byte by byte: an honest host's, but not one of the
-- key's own process
pub record JournalsOfOtherHosts : Type 0 where
  pub wrong_rows : IsHonest clinic_catalog clinic_public lying_journal → ⊥
  pub a_stream_that_ends : IsHonest clinic_catalog clinic_public ending_journal → ⊥
  pub wrong_rows_within : IsServedBy (host_of clinic_catalog clinic_public) lying_journal → ⊥
  pub single_bytes_within : IsServedBy (host_of clinic_catalog clinic_public) cut_journal → ⊥

-- the answer to the text about cardiologists has the visits 1 and 3
pub record LinesThatNoSessionGives : Type 0 where
  pub none : Lines cardio_texts cardio_journal 1 [] → ⊥
  pub a_row_too_few : Lines cardio_texts cardio_journal 1 (visit_line (codes "1") ∷ line (codes "= 1 1") ∷ []) → ⊥
  pub another_row : Lines cardio_texts cardio_journal 1 (visit_line (codes "1") ∷ visit_line (codes "4") ∷ line (codes "= 1 2") ∷ []) → ⊥
  pub a_fault_after_another_row : Lines cardio_texts cardio_journal 1 (visit_line (codes "3") ∷ line (codes "! 1 flash") ∷ []) → ⊥
  pub a_link_that_held : Lines cardio_texts cardio_journal 1 (line (codes "! 1 link") ∷ []) → ⊥
  pub of_no_text : Lines cardio_texts cardio_journal 2 (line (codes "= 2 0") ∷ []) → ⊥

-- the clinic with other doctors, and with other visits
abbrev pub with_doctors : List Row → Database
with_doctors rows = rows ∷ drop 1 clinic

abbrev pub with_visits : List Row → Database
with_visits rows = get_or clinic 0 [] ∷ get_or clinic 1 [] ∷ rows ∷ []

pub record RowsThatAreNoDatabase : Type 0 where
  pub a_table_is_missing : IsDatabase clinic_schema (drop 1 clinic) → ⊥
  pub a_value_is_missing : IsDatabase clinic_schema (with_doctors ((number 1 ∷ Text (codes "cardio") ∷ []) ∷ [])) → ⊥
  pub rows_from_two_on : IsDatabase clinic_schema (with_doctors (doctor_row 2 (codes "cardio") (codes "FR") ∷ [])) → ⊥
  pub a_number_for_a_text : IsDatabase clinic_schema (with_doctors ((number 1 ∷ number 1 ∷ Text (codes "FR") ∷ []) ∷ [])) → ⊥
  pub a_long_text : IsDatabase clinic_schema (with_doctors (doctor_row 1 (codes "cardio") (codes "FRA") ∷ [])) → ⊥
  pub no_such_doctor : IsDatabase clinic_schema (with_visits (visit_row 1 5 (codes "flu") 4 1 ∷ [])) → ⊥
  pub doctor_zero : IsDatabase clinic_schema (with_visits (visit_row 1 5 (codes "flu") 0 1 ∷ [])) → ⊥

-- the pages of the notes: their bodies, and the index of them
abbrev pub body : List ℕ → List ℕ
body letter = letter ++ replicate 7 0

-- an entry of the index: a body, and the place of its rows
abbrev pub body_at : (letter : List ℕ) → (first count : ℕ) → List ℕ
body_at letter first count = body letter ++ (small first ++ small count)

-- the files with these entries and these bytes of the index's level file
abbrev pub files_with : (entries : List (List ℕ)) → (codes_there : List ℕ) → List (List (List ℕ))
files_with entries codes_there =
    (body (codes "x") ∷ body (codes "y") ∷ body (codes "z") ∷ []) ∷ (small 3 ∷ []) ∷ entries ∷ (codes_there ∷ []) ∷ []

abbrev pub note_files : List (List (List ℕ))
note_files = files_with (body_at (codes "x") 0 1 ∷ body_at (codes "y") 1 1 ∷ body_at (codes "z") 2 1 ∷ []) (1 ∷ 2 ∷ 3 ∷ [])

abbrev pub note_page : (place : ℕ) → List ℕ
note_page place = page_with note_catalog note_files place

-- the last entry of the index's directory says that its rows begin before those of the entry before it end
abbrev pub bad_directory : List ℕ
bad_directory = filled (concat (body_at (codes "x") 0 1 ∷ body_at (codes "y") 1 1 ∷ body_at (codes "z") 1 1 ∷ []))

abbrev pub bad_page : (place : ℕ) → List ℕ
bad_page place = if place == 258 then bad_directory else note_page place

-- the last entry, with one body or another, leads to a byte behind the codes
abbrev pub led_page : (letter : List ℕ) → (place : ℕ) → List ℕ
led_page letter place =
    page_with note_catalog (files_with (body_at (codes "x") 0 1 ∷ body_at (codes "y") 1 1 ∷ body_at letter 5 1 ∷ []) (1 ∷ 2 ∷ 3 ∷ [])) place

-- the first entry has three rows: the third one, then one past all rows, and then no code stands
abbrev pub long_page : (place : ℕ) → List ℕ
long_page place =
    page_with note_catalog (files_with (body_at (codes "x") 0 3 ∷ body_at (codes "y") 0 1 ∷ body_at (codes "z") 0 1 ∷ []) (3 ∷ 3 ∷ 0 ∷ [])) place

-- whole pages have no damaged slot, and beside a damaged one others are not, nor is it by other bytes. A slot of the level file to
-- which only a damaged entry leads is not, and none behind the code that passed the rows is
pub record SlotsThatAreNotDamaged : Type 0 where
  pub none_of_whole_pages : (number slot found : ℕ) → IsDamagedSlot note_catalog note_page number slot found → ⊥
  pub one_of_a_bad_page : IsDamagedSlot note_catalog bad_page 258 2 0x7a00000000000000
  pub none_before_it : (found : ℕ) → IsDamagedSlot note_catalog bad_page 258 1 found → ⊥
  pub no_other_bytes : IsDamagedSlot note_catalog bad_page 258 2 0 → ⊥
  pub led_to_by_an_entry : IsDamagedSlot note_catalog (led_page (codes "z")) 259 5 0xffffffffffffffff
  pub by_a_damaged_entry : (found : ℕ) → IsDamagedSlot note_catalog (led_page (31 ∷ [])) 259 5 found → ⊥
  pub the_entry_itself : IsDamagedSlot note_catalog (led_page (31 ∷ [])) 258 2 0x1f00000000000000
  pub past_the_rows : IsDamagedSlot note_catalog long_page 259 1 0x0300ffffffffffff
  pub behind_it : (found : ℕ) → IsDamagedSlot note_catalog long_page 259 2 found → ⊥
