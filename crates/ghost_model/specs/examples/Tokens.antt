-- Telling texts and their tokens, and telling scripts and their texts.
use Rattle.std.specs.Prelude.{◌≡◌, ℕ, true, false, List, [], ◌∷◌, ◌++◌, codes, Some, None, length, nat_le, replicate, flat_map}
use Rattle.ghost_model.specs.refusals.Tokens.{Word, Reserved, Name, Digits, Quoted, Open, Closing, Comma, Point, Semicolon, Star, PlusSign, MinusSign, EqualSign, UnequalSign, LessSign, AtMostSign, MoreSign, AtLeastSign, NoToken, EndOfText, SelectWord, AndWord, InWord, IntegerWord, NullWord, OrWord, TableWord, symbols, offset_of}
use Rattle.ghost_model.specs.laws.Spelled.{text_of}
use Rattle.ghost_model.specs.core.Texts.{texts_of, most_script_bytes, most_texts}

pub record TokensOfTexts : Type 0 where
  pub no_bytes : symbols [] ≡ EndOfText ∷ []
  pub words_without_case : symbols (codes "Select aGe NULL") ≡ Word SelectWord ∷ Name (codes "age") ∷ Word NullWord ∷ EndOfText ∷ []
  pub int_is_integer : symbols (codes "INT integer") ≡ Word IntegerWord ∷ Word IntegerWord ∷ EndOfText ∷ []
  pub words_of_later_grammars_are_no_names : symbols (codes "count by GROUP max") ≡ Reserved ∷ Reserved ∷ Reserved ∷ Reserved ∷ EndOfText ∷ []
  pub in_and_or : symbols (codes "IN or In") ≡ Word InWord ∷ Word OrWord ∷ Word InWord ∷ EndOfText ∷ []
  pub other_words_are_names : symbols (codes "distinct ORDER as id") ≡ Name (codes "distinct") ∷ Name (codes "order") ∷ Name (codes "as") ∷ Name (codes "id") ∷ EndOfText ∷ []
  pub a_name_runs_as_far_as_its_bytes : symbols (codes "_a1B_2 table2 table") ≡ Name (codes "_a1b_2") ∷ Name (codes "table2") ∷ Word TableWord ∷ EndOfText ∷ []
  pub a_number_ends_at_a_letter : symbols (codes "12abc 1AND") ≡ Digits (codes "12") ∷ Name (codes "abc") ∷ Digits (codes "1") ∷ Word AndWord ∷ EndOfText ∷ []
  pub a_number_ends_at_a_point : symbols (codes "1.5") ≡ Digits (codes "1") ∷ Point ∷ Digits (codes "5") ∷ EndOfText ∷ []
  pub digits_stand_as_written : symbols (codes "007") ≡ Digits (codes "007") ∷ EndOfText ∷ []
  pub a_sign_is_a_token : symbols (codes "--5 + 5") ≡ MinusSign ∷ MinusSign ∷ Digits (codes "5") ∷ PlusSign ∷ Digits (codes "5") ∷ EndOfText ∷ []
  pub points_between_names : symbols (codes "a.b.c") ≡ Name (codes "a") ∷ Point ∷ Name (codes "b") ∷ Point ∷ Name (codes "c") ∷ EndOfText ∷ []
  pub the_longest_sign : symbols (codes "<=<>>=< >=>") ≡ AtMostSign ∷ UnequalSign ∷ AtLeastSign ∷ LessSign ∷ AtLeastSign ∷ MoreSign ∷ EndOfText ∷ []
  pub signs_apart : symbols (codes "< > < =") ≡ LessSign ∷ MoreSign ∷ LessSign ∷ EqualSign ∷ EndOfText ∷ []
  pub signs_of_one_byte : symbols (codes "(*,);") ≡ Open ∷ Star ∷ Comma ∷ Closing ∷ Semicolon ∷ EndOfText ∷ []
  pub no_such_sign : symbols (codes "!=") ≡ NoToken ∷ EqualSign ∷ EndOfText ∷ []
  pub a_literal_keeps_its_case_and_spaces : symbols (codes "' Ann; '") ≡ Quoted (codes " Ann; ") ∷ EndOfText ∷ []
  pub a_doubled_quote : symbols (codes "'it''s'") ≡ Quoted (codes "it's") ∷ EndOfText ∷ []
  pub quotes_alone : symbols (codes "'' ''''") ≡ Quoted [] ∷ Quoted (codes "'") ∷ EndOfText ∷ []
  pub literals_apart : symbols (codes "'a' 'b'") ≡ Quoted (codes "a") ∷ Quoted (codes "b") ∷ EndOfText ∷ []
  -- a broken literal is a bad token at its first `'`, and the tokens go on after that byte
  pub no_end_of_a_literal : symbols (codes "a = 'b") ≡ Name (codes "a") ∷ EqualSign ∷ NoToken ∷ Name (codes "b") ∷ EndOfText ∷ []
  pub a_doubled_quote_is_no_end : symbols (codes "'abc''") ≡ NoToken ∷ Name (codes "abc") ∷ Quoted [] ∷ EndOfText ∷ []
  pub a_new_line_in_a_literal : symbols (codes "'a" ++ (10 ∷ codes "'")) ≡ NoToken ∷ Name (codes "a") ∷ NoToken ∷ EndOfText ∷ []
  pub a_byte_over_126_in_a_literal : symbols (codes "'a" ++ (127 ∷ codes "' 'b'")) ≡ NoToken ∷ Name (codes "a") ∷ NoToken ∷ Quoted (codes " ") ∷ Name (codes "b") ∷ NoToken ∷ EndOfText ∷ []
  pub white_space_is_four_bytes : symbols (9 ∷ 10 ∷ 13 ∷ 32 ∷ []) ≡ EndOfText ∷ []
  pub other_bytes_begin_no_token : symbols (11 ∷ 12 ∷ 0 ∷ 128 ∷ 255 ∷ []) ≡ NoToken ∷ NoToken ∷ NoToken ∷ NoToken ∷ NoToken ∷ EndOfText ∷ []

-- where tokens stand
pub record OffsetsOfTokens : Type 0 where
  pub a_token : offset_of (codes "SELECT age patient") 2 ≡ Some 11
  pub white_space_counts : offset_of (codes " SELECT a b") 2 ≡ Some 10
  pub a_broken_literal : offset_of (codes "a = 'abc''") 2 ≡ Some 4
  pub after_a_literal : offset_of (codes "'it''s' b") 1 ≡ Some 8
  pub the_end : offset_of (codes "SELECT age") 2 ≡ Some 10
  pub the_end_after_white_space : offset_of (codes "SELECT  ") 1 ≡ Some 8
  pub the_end_of_no_bytes : offset_of [] 0 ≡ Some 0
  pub none_after_the_end : offset_of (codes "SELECT") 2 ≡ None

-- a text for a list of symbols
pub record TextsOfSymbols : Type 0 where
  pub words_and_signs : text_of (Word SelectWord ∷ Name (codes "age") ∷ LessSign ∷ EqualSign ∷ Digits (codes "5") ∷ []) ≡ codes "select age < = 5 "
  pub a_literal : text_of (Quoted (codes "it's") ∷ Reserved ∷ NoToken ∷ []) ≡ codes "'it''s' MAX ? "

-- so many spaces, and so many texts of one letter
abbrev pub spaces : ℕ → List ℕ
spaces count = replicate count 32

abbrev pub short_texts : ℕ → List ℕ
short_texts count = flat_map (λ letter. letter ∷ 59 ∷ []) (replicate count 97)

pub record TextsOfScripts : Type 0 where
  pub no_bytes : texts_of [] ≡ []
  pub one_without_a_semicolon : texts_of (codes "SELECT a") ≡ codes "SELECT a" ∷ []
  pub one_with_a_semicolon : texts_of (codes "SELECT a;") ≡ codes "SELECT a" ∷ []
  pub white_space_is_kept : texts_of (codes "SELECT a b; SELECT a b ;" ++ (10 ∷ [])) ≡ codes "SELECT a b" ∷ codes " SELECT a b " ∷ []
  pub blank_parts_are_no_texts : texts_of (codes ";; ;a;" ++ (9 ∷ 10 ∷ 13 ∷ codes " ;;b")) ≡ codes "a" ∷ codes "b" ∷ []
  pub a_byte_that_is_no_white_space : texts_of (codes "a; " ++ (11 ∷ codes ";b")) ≡ codes "a" ∷ (32 ∷ 11 ∷ []) ∷ codes "b" ∷ []
  pub a_semicolon_in_a_literal : texts_of (codes "a ';' b;c") ≡ codes "a ';' b" ∷ codes "c" ∷ []
  pub a_doubled_quote : texts_of (codes "'it''s;';c") ≡ codes "'it''s;'" ∷ codes "c" ∷ []
  pub one_odd_quote_joins_all : texts_of (codes "SELECT don't; SELECT id FROM doctor;") ≡ codes "SELECT don't; SELECT id FROM doctor;" ∷ []
  pub quotes_count_over_the_whole_script : texts_of (codes "a';b';c'd;e") ≡ codes "a';b'" ∷ codes "c'd;e" ∷ []
  pub a_bad_byte_in_a_literal_changes_nothing : texts_of (codes "'a;" ++ (10 ∷ codes "';b")) ≡ (codes "'a;" ++ (10 ∷ codes "'")) ∷ codes "b" ∷ []
  pub bytes_within : nat_le (length (spaces 65536)) most_script_bytes ≡ true
  pub one_byte_over : nat_le (length (spaces 65537)) most_script_bytes ≡ false
  pub texts_within : nat_le (length (texts_of (short_texts 64))) most_texts ≡ true
  pub one_text_over : nat_le (length (texts_of (short_texts 65))) most_texts ≡ false
