-- Frames, asks, journals and what the host sends, for telling sessions. Bytes stand in hexadecimal.
use Rattle.std.specs.Prelude.{◌≡◌, ℕ, Bool, true, false, zero, suc, flat_map, ◌+◌, pos, negsuc, List, [], ◌∷◌, ◌++◌, codes, length, map, take, drop, Option, Some, None, Result, Ok, Err}
use Rattle.std.specs.List.{range_with_len}
use Rattle.hex.specs.Hex.{decode_of, encode_lower}
use Rattle.hex.specs.declared.error.FromHexError.{FromHexError}
use Rattle.ghost_model.specs.core.Values.{Number, Text}
use Rattle.ghost_model.specs.core.Query as query
use Rattle.ghost_model.specs.core.Channel.{Frame, HelloFrame, AskFrame, MoreFrame, ByeFrame, WelcomeFrame, RowsFrame, DoneFrame, SorryFrame, Catalog, Ask, ColumnTest, Move, Dial, Send, Take, Close, Answer, Made, Piece, Entry, Journal}
use Rattle.ghost_model.specs.core.Asks.{NumberedAsk, asked, asked_of, asks_of, ask_payload, RowCells}
use Rattle.ghost_model.specs.readings.AskReading.{ask_in}
use Rattle.ghost_model.specs.core.Moves.{lines, sent}
use Rattle.ghost_model.specs.core.NextMove.{IsProper, IsProperWith, IsFinished, InvalidFrame, invalid_frame, heard}
use Rattle.ghost_model.specs.laws.ShortWords.{due}
use Rattle.ghost_model.specs.forms.Frames.{frame_bytes, frame_kind, payload_of, Got, got_of, Found, Short, Bad}
use Rattle.ghost_model.specs.forms.Catalog.{catalog_bytes}
use Rattle.ghost_model.specs.core.Host.{Holding, host_of, host_says, bad_request}
use Rattle.ghost_model.specs.core.Split.{public_of}
use Rattle.ghost_model.specs.examples.Clinic.{clinic, clinic_schema, clinic_catalog, note_schema, note_catalog}

abbrev pub bytes_or_none : Result (List ℕ) FromHexError → List ℕ
bytes_or_none (Ok bytes) = bytes
bytes_or_none (Err _) = []

-- the bytes of a text in hexadecimal
abbrev pub hex : List ℕ → List ℕ
hex text = bytes_or_none (decode_of text)

-- the frame in hexadecimal
abbrev pub spelled : Frame → List ℕ
spelled frame = encode_lower (frame_bytes frame)

-- the ask for the cardiologists, their two rows, and the ask for notes of one topic
abbrev pub cardio_ask : Frame
cardio_ask = AskFrame 1 (hex (codes "00010101010163617264696f0000"))

abbrev pub cardio_rows : Frame
cardio_rows = RowsFrame 1 (hex (codes "0000000163617264696f00000000000363617264696f0000"))

abbrev pub topic_ask : Frame
topic_ask = AskFrame 1 (hex (codes "000001010161000000"))

pub record SpellingsOfFrames : Type 0 where
  pub hello : spelled (HelloFrame 1) ≡ codes "010200040000000000000001"
  pub ask : spelled cardio_ask ≡ codes "0202000e0000000100010101010163617264696f0000"
  pub more : spelled (MoreFrame 1) ≡ codes "0302000000000001"
  pub bye : spelled ByeFrame ≡ codes "0402000000000000"
  pub rows : spelled cardio_rows ≡ codes "12020018000000010000000163617264696f00000000000363617264696f0000"
  pub done : spelled (DoneFrame 1 2) ≡ codes "130200040000000100000002"
  pub sorry : spelled (SorryFrame 1 1) ≡ codes "140200010000000101"
  pub short_ask : spelled topic_ask ≡ codes "0202000900000001000001010161000000"
  pub ask_of_a_column : spelled (AskFrame 1 (hex (codes "02010100"))) ≡ codes "020200040000000102010100"
  pub ask_of_a_column_and_a_condition :
      spelled (AskFrame 1 (hex (codes "0201010101068000000000000002"))) ≡ codes "0202000e000000010201010101068000000000000002"
  pub done_of_no_row : spelled (DoneFrame 1 0) ≡ codes "130200040000000100000000"
  pub welcome : encode_lower (take 9 (frame_bytes (WelcomeFrame 1 (catalog_bytes clinic_catalog)))) ≡ codes "1102016e0000000001"

-- what bytes in hexadecimal amount to that begin with a frame
abbrev pub got : List ℕ → Got
got text = got_of (hex text)

pub record ReadingsOfFrames : Type 0 where
  pub hello : got (codes "010200040000000000000001") ≡ Found (HelloFrame 1)
  pub ask : got (codes "0202000e0000000100010101010163617264696f0000") ≡ Found cardio_ask
  pub rows : got (codes "12020018000000010000000163617264696f00000000000363617264696f0000") ≡ Found cardio_rows
  pub more_with_others_after : got (codes "03020000000000010402000000000000") ≡ Found (MoreFrame 1)
  pub bye : got (codes "0402000000000000") ≡ Found ByeFrame
  pub done : got (codes "130200040000000100000002") ≡ Found (DoneFrame 1 2)
  pub sorry : got (codes "140200010000000101") ≡ Found (SorryFrame 1 1)
  pub nothing : got [] ≡ Short 8
  pub part_of_a_header : got (codes "1202001800") ≡ Short 3
  pub part_of_a_payload : got (codes "130200040000000100") ≡ Short 3
  pub another_kind : got (codes "0502000000000000") ≡ Bad 5
  pub another_version : got (codes "0401000000000000") ≡ Bad 4
  pub another_length : got (codes "0402000100000000") ≡ Bad 4
  pub bye_with_a_serial : got (codes "0402000000000001") ≡ Bad 4
  pub more_without_a_serial : got (codes "0302000000000000") ≡ Bad 3
  pub sorry_of_zero : got (codes "140200010000000100") ≡ Bad 20
  pub welcome_of_two : got (codes "11020002000000000241") ≡ Bad 17

abbrev pub field : (table column : ℕ) → query.Field
field table column = record { table = table; column = column }

abbrev pub topic_text : List ℕ
topic_text = codes "SELECT body FROM note WHERE topic = 'a'"

abbrev pub topic_query : query.Query
topic_query = record {
  from = 0 ∷ [];
  select = field 0 2 ∷ [];
  conditions = query.compared (field 0 1) query.Equal (Text (codes "a")) ∷ [];
}

abbrev pub entry : Move → Answer → Entry
entry move answer = record { move = move; answer = answer }

-- a dial, a frame sent, and bytes taken that were asked for, given in hexadecimal
abbrev pub dialled : List ℕ → Entry
dialled at = entry (Dial at) Made

abbrev pub sends : Frame → Entry
sends frame = entry (Send (frame_bytes frame)) Made

abbrev pub takes : ℕ → List ℕ → Entry
takes most text = entry (Take most) (Piece (hex text))

-- the payload of the one WELCOME frame of a small catalog
abbrev pub welcomed : Catalog → Entry
welcomed catalog = entry (Take (length (catalog_bytes catalog) + 1)) (Piece (1 ∷ catalog_bytes catalog))

abbrev pub closed : Entry
closed = entry Close Made

-- the session of the text above
abbrev pub topic_journal : Journal
topic_journal =
    dialled []
    ∷ sends (HelloFrame 1)
    ∷ takes 8 (codes "1102006500000000")
    ∷ welcomed note_catalog
    ∷ sends topic_ask
    ∷ takes 8 (codes "1202000800000001")
    ∷ takes 8 (codes "0000000100000003")
    ∷ sends (MoreFrame 1)
    ∷ takes 8 (codes "1302000400000001")
    ∷ takes 4 (codes "00000002")
    ∷ sends ByeFrame
    ∷ closed
    ∷ []

abbrev pub asks_of_text : List Ask → List NumberedAsk
asks_of_text asks = map (asked 1) asks

pub record JournalOfTheNotes : Type 0 where
  pub payloads : map (ask_payload note_schema) (asks_of note_schema topic_query) ≡ hex (codes "000001010161000000") ∷ []
  pub proper : IsProper note_catalog [] (topic_text ∷ []) topic_journal
  pub finished : IsFinished topic_journal
  pub file :
      lines topic_journal
      ≡ codes "dial ok\nsend 010200040000000000000001 ok\ntake 8 1102006500000000\ntake 101 01"
      ++ (encode_lower (catalog_bytes note_catalog)
      ++ codes "\nsend 0202000900000001000001010161000000 ok\ntake 8 1202000800000001\ntake 8 0000000100000003\nsend 0302000000000001 ok\ntake 8 1302000400000001\ntake 4 00000002\nsend 0402000000000000 ok\nclose\n")

abbrev pub cardio_text : List ℕ
cardio_text =
    codes "SELECT visit.id, specialty FROM visit, doctor WHERE doc = doctor.id AND specialty = 'cardio' AND purpose = 'flu'"

-- the same but for the value of a hidden column
abbrev pub other_text : List ℕ
other_text =
    codes "SELECT visit.id, specialty FROM visit, doctor WHERE doc = doctor.id AND specialty = 'cardio' AND purpose = 'none'"

abbrev pub cardio_query : query.Query
cardio_query = record {
  from = 2 ∷ 0 ∷ [];
  select = field 2 0 ∷ field 0 1 ∷ [];
  conditions =
      query.Join (field 2 3) (field 0 0) ∷ query.compared (field 0 1) query.Equal (Text (codes "cardio"))
      ∷ query.compared (field 2 2) query.Equal (Text (codes "flu")) ∷ [];
}

abbrev pub name_text : List ℕ
name_text = codes " SELECT name FROM patient WHERE name = 'Ann'"

abbrev pub name_query : query.Query
name_query = record {
  from = 1 ∷ [];
  select = field 1 2 ∷ [];
  conditions = query.compared (field 1 2) query.Equal (Text (codes "Ann")) ∷ [];
}

-- SELECT day FROM visit
abbrev pub day_query : query.Query
day_query = record { from = 2 ∷ []; select = field 2 1 ∷ []; conditions = [] }

abbrev pub late_text : List ℕ
late_text = codes " SELECT visit.id, day FROM visit WHERE day >= 2"

abbrev pub late_query : query.Query
late_query = record {
  from = 2 ∷ [];
  select = field 2 0 ∷ field 2 1 ∷ [];
  conditions = query.compared (field 2 1) query.AtLeast (Number (pos 2)) ∷ [];
}

-- SELECT patient.id FROM patient WHERE age >= -9223372036854775808
abbrev pub any_age_query : query.Query
any_age_query = record {
  from = 1 ∷ [];
  select = field 1 0 ∷ [];
  conditions = query.compared (field 1 1) query.AtLeast (Number (negsuc 9223372036854775807)) ∷ [];
}

-- SELECT day, specialty, day FROM visit, doctor WHERE doc = doctor.id AND visit.id < 3 AND day BETWEEN 2 AND 5
abbrev pub both_query : query.Query
both_query = record {
  from = 2 ∷ 0 ∷ [];
  select = field 2 1 ∷ field 0 1 ∷ field 2 1 ∷ [];
  conditions =
      query.Join (field 2 3) (field 0 0) ∷ query.compared (field 2 0) query.Less (Number (pos 3))
      ∷ query.compared (field 2 1) query.AtLeast (Number (pos 2)) ∷ query.compared (field 2 1) query.AtMost (Number (pos 5)) ∷ [];
}

-- the payloads of the asks of a query over the clinic
abbrev pub payloads : query.Query → List (List ℕ)
payloads text = map (λ ask. encode_lower (ask_payload clinic_schema ask)) (asks_of clinic_schema text)

pub record AsksOfQueries : Type 0 where
  pub a_join_and_a_hidden_condition : payloads cardio_query ≡ codes "00010101010163617264696f0000" ∷ []
  pub hidden_columns_alone : payloads name_query ≡ []
  pub a_column_alone : payloads day_query ≡ codes "02010100" ∷ []
  pub a_column_and_its_condition : payloads late_query ≡ codes "0201010101068000000000000002" ∷ []
  pub the_lowest_number : payloads any_age_query ≡ codes "01000101060000000000000000" ∷ []
  pub of_texts :
      asked_of clinic_schema (cardio_text ∷ name_text ∷ codes "SELECT age patient" ∷ late_text ∷ [])
      ≡ map (asked 1) (asks_of clinic_schema cardio_query) ++ map (asked 4) (asks_of clinic_schema late_query)
  pub two_tables_in_their_own_order : payloads both_query ≡ codes "00010100" ∷ codes "020101020106800000000000000201048000000000000005" ∷ []

abbrev pub day_test : query.Test → (more : Bool) → ColumnTest
day_test test more = record { column = 1; test = test; more = more }

-- the ask that bytes in hexadecimal spell over the clinic
abbrev pub ask_read : List ℕ → Option Ask
ask_read text = ask_in clinic_schema (hex text)

abbrev pub cardio_test : ColumnTest
cardio_test = record { column = 1; test = query.Compared query.Equal (Text (codes "cardio")); more = false }

pub record AsksOfBytes : Type 0 where
  pub an_ask :
      ask_read (codes "00010101010163617264696f0000")
      ≡ Some (record { table = 0; columns = 1 ∷ []; tests = cardio_test ∷ [] })
  pub of_nothing : ask_read (codes "020000") ≡ Some (record { table = 2; columns = []; tests = [] })
  pub no_such_table : ask_read (codes "030000") ≡ None
  pub a_hidden_column : ask_read (codes "00010200") ≡ None
  pub the_identifier : ask_read (codes "00010000") ≡ None
  pub a_column_twice : ask_read (codes "0002010100") ≡ None
  pub a_condition_on_the_identifier : ask_read (codes "02000100018000000000000001") ≡ None
  pub null : ask_read (codes "0200010107") ≡ Some (record { table = 2; columns = []; tests = day_test query.IsNull false ∷ [] })
  pub a_group : ask_read (codes "020002018801018000000000000002")
      ≡ Some (record { table = 2; columns = []; tests = day_test query.IsNotNull true ∷ day_test (query.Compared query.Equal (Number (pos 2))) false ∷ [] })
  pub a_cell_behind_null : ask_read (codes "02000101078000000000000002") ≡ None
  pub no_cell : ask_read (codes "0200010101") ≡ None
  pub code_0 : ask_read (codes "02000101008000000000000002") ≡ None
  pub code_9 : ask_read (codes "02000101098000000000000002") ≡ None
  pub code_9_alone : ask_read (codes "0200010109") ≡ None
  pub code_0_in_a_group : ask_read (codes "02000201800107") ≡ None
  pub code_9_in_a_group : ask_read (codes "02000201890107") ≡ None
  pub a_group_without_its_last : ask_read (codes "0200010187") ≡ None
  pub last_of_two_without_another : ask_read (codes "02000201070188") ≡ None
  pub seventeen_conditions : ask_read (codes "020011" ++ flat_map (λ one. codes "0107") (range_with_len 1 17)) ≡ None
  pub no_such_cell : ask_read (codes "00000101016300610000000000") ≡ None
  pub a_byte_too_many : ask_read (codes "02000000") ≡ None
  pub a_byte_too_few : ask_read (codes "0200") ≡ None

abbrev pub cardio_asks : List NumberedAsk
cardio_asks = asks_of_text (asks_of clinic_schema cardio_query)

-- the session of the first text over the clinic
abbrev pub cardio_journal : Journal
cardio_journal =
    dialled []
    ∷ sends (HelloFrame 1)
    ∷ takes 8 (codes "1102016e00000000")
    ∷ welcomed clinic_catalog
    ∷ sends cardio_ask
    ∷ takes 8 (codes "1202001800000001")
    ∷ takes 24 (codes "0000000163617264696f00000000000363617264696f0000")
    ∷ sends (MoreFrame 1)
    ∷ takes 8 (codes "1302000400000001")
    ∷ takes 4 (codes "00000002")
    ∷ sends ByeFrame
    ∷ closed
    ∷ []

pub record JournalOfTheClinic : Type 0 where
  pub proper : IsProper clinic_catalog [] (cardio_text ∷ []) cardio_journal
  pub also_for_another_hidden_value : IsProper clinic_catalog [] (other_text ∷ []) cardio_journal
  pub finished : IsFinished cardio_journal

-- the session of a script without an ask
abbrev pub silent_journal : Journal
silent_journal =
    dialled [] ∷ sends (HelloFrame 1) ∷ takes 8 (codes "1102016e00000000") ∷ welcomed clinic_catalog ∷ sends ByeFrame ∷ closed ∷ []

pub record JournalWithoutAsks : Type 0 where
  pub proper : IsProper clinic_catalog [] [] silent_journal
  pub also_for_hidden_columns_alone : IsProper clinic_catalog [] (name_text ∷ []) silent_journal
  pub finished : IsFinished silent_journal

-- how a session with the clinic begins: up to its first ask, or BYE
abbrev pub greeted : Catalog → Journal
greeted catalog = dialled [] ∷ sends (HelloFrame 1) ∷ takes 8 (codes "1102016e00000000") ∷ welcomed catalog ∷ []

abbrev pub day_asks : List NumberedAsk
day_asks = asks_of_text (asks_of clinic_schema day_query)

-- the days of the visits of a clinic without a visit
abbrev pub visitless_catalog : Catalog
visitless_catalog = record clinic_catalog { counts = 3 ∷ 2 ∷ 0 ∷ [] }

abbrev pub rowless_journal : Journal
rowless_journal =
    greeted visitless_catalog
    ++ sends (AskFrame 1 (hex (codes "02010100")))
    ∷ takes 8 (codes "1302000400000001")
    ∷ takes 4 (codes "00000000")
    ∷ sends ByeFrame
    ∷ closed
    ∷ []

-- two texts that ask: for the cardiologists, and for the visits from day 2 on
abbrev pub two_asks : List NumberedAsk
two_asks = cardio_asks ++ map (asked 2) (asks_of clinic_schema late_query)

abbrev pub late_ask : Frame
late_ask = AskFrame 2 (hex (codes "0201010101068000000000000002"))

-- the second text is asked and answered by one row, and the session ends
abbrev pub late_entries : Journal
late_entries =
    sends late_ask
    ∷ takes 8 (codes "1202000c00000002")
    ∷ takes 12 (codes "000000038000000000000009")
    ∷ sends (MoreFrame 2)
    ∷ takes 8 (codes "1302000400000002")
    ∷ takes 4 (codes "00000001")
    ∷ sends ByeFrame
    ∷ closed
    ∷ []

abbrev pub journal_of_two : Journal
journal_of_two =
    greeted clinic_catalog
    ++ sends cardio_ask
    ∷ takes 8 (codes "1202001800000001")
    ∷ takes 24 (codes "0000000163617264696f00000000000363617264696f0000")
    ∷ sends (MoreFrame 1)
    ∷ takes 8 (codes "1302000400000001")
    ∷ takes 4 (codes "00000002")
    ∷ late_entries

-- where a reply has no row no MORE is sent; the ask of a second text follows the end of the first one's
pub record JournalsOfAsks : Type 0 where
  pub no_row : IsProperWith visitless_catalog [] day_asks rowless_journal
  pub two_texts : IsProperWith clinic_catalog [] two_asks journal_of_two

-- the first text is refused
abbrev pub refused_journal : Journal
refused_journal =
    greeted clinic_catalog
    ++ sends cardio_ask
    ∷ takes 8 (codes "1402000100000001")
    ∷ takes 1 (codes "01")
    ∷ late_entries

-- a second ROWS frame has the identifier of the first one
abbrev pub repeating_journal : Journal
repeating_journal =
    greeted clinic_catalog
    ++ sends cardio_ask
    ∷ takes 8 (codes "1202000c00000001")
    ∷ takes 12 (codes "0000000163617264696f0000")
    ∷ sends (MoreFrame 1)
    ∷ takes 8 (codes "1202000c00000001")
    ∷ takes 12 (codes "0000000163617264696f0000")
    ∷ closed
    ∷ []

-- the WELCOME frame has another byte in the place of the catalog's first one
abbrev pub unwelcome_journal : Journal
unwelcome_journal =
    dialled []
    ∷ sends (HelloFrame 1)
    ∷ takes 8 (codes "1102016e00000000")
    ∷ entry (Take 366) (Piece (1 ∷ 0 ∷ drop 1 (catalog_bytes clinic_catalog)))
    ∷ closed
    ∷ []

-- a refusal ends the asks of its own text alone; an invalid frame ends the session, at once
pub record JournalsCutShort : Type 0 where
  pub refused : IsProperWith clinic_catalog [] two_asks refused_journal
  pub one_more : IsProperWith clinic_catalog [] cardio_asks repeating_journal
  pub nothing_is_asked : IsProperWith clinic_catalog [] cardio_asks unwelcome_journal

-- takes of what is still missing, each answered by one byte
abbrev pub byte_by_byte : List ℕ → Journal
byte_by_byte [] = []
byte_by_byte (byte ∷ bytes) = entry (Take (1 + length bytes)) (Piece (byte ∷ [])) ∷ byte_by_byte bytes

-- the session of the first text, the reply of which comes byte by byte
abbrev pub cut_journal : Journal
cut_journal =
    greeted clinic_catalog
    ++ sends cardio_ask
    ∷ (byte_by_byte (hex (codes "1202001800000001")) ++ (byte_by_byte (hex (codes "0000000163617264696f00000000000363617264696f0000"))
    ++ sends (MoreFrame 1) ∷ (byte_by_byte (hex (codes "1302000400000001")) ++ (byte_by_byte (hex (codes "00000002")) ++ sends ByeFrame ∷ closed ∷ []))))

-- however the stream is cut, the same is sent
pub record JournalInSingleBytes : Type 0 where
  pub proper : IsProperWith clinic_catalog [] cardio_asks cut_journal
  pub sends_the_same : sent cut_journal ≡ sent cardio_journal

-- the clinic's one WELCOME frame, and received bytes that follow it, in hexadecimal
abbrev pub clinic_welcome : List ℕ
clinic_welcome = frame_bytes (WelcomeFrame 1 (catalog_bytes clinic_catalog))

abbrev pub after_welcome : List ℕ → List ℕ
after_welcome text = clinic_welcome ++ hex text

abbrev pub invalid_in : List ℕ → Option InvalidFrame
invalid_in received = invalid_frame (heard clinic_catalog cardio_asks received)

abbrev pub invalid : (kind at : ℕ) → Option InvalidFrame
invalid kind at = Some (record { kind = kind; at = at })

-- a ROWS frame of one cardiologist, its identifier in hexadecimal
abbrev pub one_row : List ℕ → List ℕ
one_row identifier = codes "1202000c00000001" ++ (identifier ++ codes "63617264696f0000")

pub record InvalidFrames : Type 0 where
  pub valid_so_far : invalid_in (after_welcome (one_row (codes "00000003"))) ≡ None
  pub an_identifier_above_the_rows : invalid_in (after_welcome (one_row (codes "00000004"))) ≡ invalid 18 374
  pub identifier_zero : invalid_in (after_welcome (one_row (codes "00000000"))) ≡ invalid 18 374
  pub an_identifier_again : invalid_in (after_welcome (one_row (codes "00000001") ++ one_row (codes "00000001"))) ≡ invalid 18 394
  pub a_cell_of_no_value : invalid_in (after_welcome (codes "1202000c00000001000000016300617264696f00")) ≡ invalid 18 374
  pub another_total :
      invalid_in (after_welcome (codes "12020018000000010000000163617264696f00000000000363617264696f0000130200040000000100000001"))
      ≡ invalid 19 406
  pub a_header_of_another_serial : invalid_in (after_welcome (codes "1202000c00000002")) ≡ invalid 18 374
  pub a_header_of_half_a_row : invalid_in (after_welcome (codes "1202000600000001")) ≡ invalid 18 374
  pub a_header_of_no_row : invalid_in (after_welcome (codes "1202000000000001")) ≡ invalid 18 374
  pub a_header_of_the_greatest_length : invalid_in (after_welcome (codes "120207f800000001")) ≡ None
  pub a_header_past_the_greatest_length : invalid_in (after_welcome (codes "1202080400000001")) ≡ invalid 18 374
  pub sorry_of_zero : invalid_in (after_welcome (codes "140200010000000100")) ≡ invalid 20 374
  pub another_byte_of_the_catalog :
      invalid_in (frame_bytes (WelcomeFrame 1 (0 ∷ drop 1 (catalog_bytes clinic_catalog)))) ≡ invalid 17 0
  pub another_generation :
      invalid_in (frame_bytes (WelcomeFrame 1 (catalog_bytes (record clinic_catalog { generation = 2 })))) ≡ invalid 17 0
  pub a_last_frame_that_is_not_marked : invalid_in (frame_bytes (WelcomeFrame 0 (catalog_bytes clinic_catalog))) ≡ invalid 17 0
  pub a_second_hello : invalid_in (hex (codes "0102000400000000")) ≡ invalid 1 0
  pub a_longer_catalog : invalid_in (hex (codes "1102016f00000000")) ≡ invalid 17 0

-- two texts, each with the ask for cardiologists; and a text with two asks before one with a third
abbrev pub same_twice : List NumberedAsk
same_twice = cardio_asks ++ map (asked 2) (asks_of clinic_schema cardio_query)

abbrev pub two_then_one : List NumberedAsk
two_then_one = map (asked 1) (asks_of clinic_schema both_query) ++ map (asked 3) (asks_of clinic_schema day_query)

-- the payload of the asks of these sessions
abbrev pub cardio_payload : List ℕ
cardio_payload = hex (codes "00010101010163617264696f0000")

pub record FramesThatAreDue : Type 0 where
  pub at_first : due clinic_catalog same_twice [] ≡ HelloFrame 1 ∷ []
  pub welcomed : due clinic_catalog same_twice clinic_welcome ≡ HelloFrame 1 ∷ AskFrame 1 cardio_payload ∷ []
  pub in_two_frames :
      due clinic_catalog same_twice
      (frame_bytes (WelcomeFrame 0 (take 300 (catalog_bytes clinic_catalog)))
      ++ frame_bytes (WelcomeFrame 1 (drop 300 (catalog_bytes clinic_catalog))))
      ≡ HelloFrame 1 ∷ AskFrame 1 cardio_payload ∷ []
  pub serials_go_on :
      due clinic_catalog same_twice (after_welcome (one_row (codes "00000001") ++ codes "130200040000000100000001"))
      ≡ HelloFrame 1 ∷ AskFrame 1 cardio_payload ∷ MoreFrame 1 ∷ AskFrame 2 cardio_payload ∷ []
  pub sorry_ends_a_text :
      due clinic_catalog two_then_one (after_welcome (codes "140200010000000101"))
      ≡ HelloFrame 1 ∷ AskFrame 1 (hex (codes "00010100")) ∷ AskFrame 2 (hex (codes "02010100")) ∷ []
  pub nothing_is_left :
      due clinic_catalog two_then_one (after_welcome (codes "140200010000000101130200040000000200000000"))
      ≡ HelloFrame 1 ∷ AskFrame 1 (hex (codes "00010100")) ∷ AskFrame 2 (hex (codes "02010100")) ∷ ByeFrame ∷ []
  pub nothing_after_an_invalid_frame :
      due clinic_catalog cardio_asks (after_welcome (codes "130200040000000100000001130200040000000100000000"))
      ≡ HelloFrame 1 ∷ AskFrame 1 cardio_payload ∷ []

abbrev pub clinic_host : Holding
clinic_host = host_of clinic_catalog (public_of clinic_schema clinic)

-- a host that holds so many notes of which no cell is asked for
abbrev pub counting : (identifier : ℕ) (count : ℕ) → List RowCells
counting identifier zero = []
counting identifier (suc count) = record { identifier = identifier; cells = [] } ∷ counting (identifier + 1) count

abbrev pub note_host : ℕ → Holding
note_host count = record { catalog = note_catalog; rows = λ ask. counting 1 count }

abbrev pub key_bytes : List Frame → List ℕ
key_bytes frames = flat_map frame_bytes frames

-- the kinds of frames, and the lengths of their payloads
abbrev pub shape_of : Frame → List ℕ
shape_of frame = frame_kind frame ∷ length (payload_of frame) ∷ []

pub record AnswersOfTheHost : Type 0 where
  pub a_session :
      host_says clinic_host (key_bytes (HelloFrame 1 ∷ cardio_ask ∷ MoreFrame 1 ∷ ByeFrame ∷ []))
      ≡ WelcomeFrame 1 (catalog_bytes clinic_catalog) ∷ cardio_rows ∷ DoneFrame 1 2 ∷ []
  pub conditions_are_met :
      host_says clinic_host (key_bytes (HelloFrame 1 ∷ AskFrame 1 (hex (codes "0201010101068000000000000006")) ∷ MoreFrame 1 ∷ ByeFrame ∷ []))
      ≡ WelcomeFrame 1 (catalog_bytes clinic_catalog) ∷ RowsFrame 1 (hex (codes "000000038000000000000009")) ∷ DoneFrame 1 1 ∷ []
  pub another_generation : host_says clinic_host (key_bytes (HelloFrame 7 ∷ [])) ≡ WelcomeFrame 1 (catalog_bytes clinic_catalog) ∷ []
  pub no_row :
      map shape_of (host_says (note_host 0) (key_bytes (HelloFrame 1 ∷ topic_ask ∷ ByeFrame ∷ []))) ≡ (17 ∷ 101 ∷ []) ∷ (19 ∷ 4 ∷ []) ∷ []
  pub as_many_rows_as_fit :
      map shape_of (host_says (note_host 511) (key_bytes (HelloFrame 1 ∷ topic_ask ∷ MoreFrame 1 ∷ MoreFrame 1 ∷ ByeFrame ∷ [])))
      ≡ (17 ∷ 101 ∷ []) ∷ (18 ∷ 2040 ∷ []) ∷ (18 ∷ 4 ∷ []) ∷ (19 ∷ 4 ∷ []) ∷ []
  pub nothing_after_a_wrong_serial :
      host_says clinic_host (key_bytes (HelloFrame 1 ∷ AskFrame 2 cardio_payload ∷ ByeFrame ∷ [])) ≡ WelcomeFrame 1 (catalog_bytes clinic_catalog) ∷ []
  pub no_such_table : bad_request clinic_host (key_bytes (HelloFrame 1 ∷ AskFrame 1 (hex (codes "030000")) ∷ [])) ≡ invalid 2 12
  pub a_second_hello : bad_request clinic_host (key_bytes (HelloFrame 1 ∷ HelloFrame 1 ∷ [])) ≡ invalid 1 12
  pub bye_within_a_reply : bad_request clinic_host (key_bytes (HelloFrame 1 ∷ cardio_ask ∷ ByeFrame ∷ [])) ≡ invalid 4 34
  pub a_frame_of_a_host : bad_request clinic_host (key_bytes (DoneFrame 1 1 ∷ [])) ≡ invalid 19 0
  pub no_such_kind : bad_request clinic_host (key_bytes (HelloFrame 1 ∷ []) ++ hex (codes "0502000000000000")) ≡ invalid 5 12
  pub nothing_is_read_after_bye : bad_request clinic_host (key_bytes (HelloFrame 1 ∷ ByeFrame ∷ ByeFrame ∷ [])) ≡ None
