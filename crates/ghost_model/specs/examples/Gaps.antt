-- Identifiers as gaps: codes and bytes that are none, small level files, and reading them back.
use Rattle.std.specs.Prelude.{◌≡◌, ℕ, List, [], ◌∷◌, ◌++◌, map, drop, replicate, Some, None}
use Rattle.ghost_model.specs.forms.Runs.{Run}
use Rattle.ghost_model.specs.forms.Gaps.{code_of, filling, with_code, level_bytes, list_begin, gaps_of, code_place, code_in, code_at, past_filling, reading_at, reading_of, listed_from, bytes_at, told_by}

-- the lists of three entries, the second of which has none
abbrev pub three_lists : List (List ℕ)
three_lists = (2 ∷ 130 ∷ 131 ∷ []) ∷ [] ∷ (300 ∷ 301 ∷ []) ∷ []

-- a file of two pages, each page of which has so many bytes and no more
abbrev pub level_run : Run
level_run = record { first = 70; count = 4096; width = 1 }

abbrev pub level_page : ℕ → List ℕ
level_page number = level_bytes three_lists ++ 0xff ∷ []

-- a page in which the third code is broken
abbrev pub broken_page : ℕ → List ℕ
broken_page number = 2 ∷ 0x81 ∷ 0 ∷ 0 ∷ 5 ∷ 6 ∷ []

-- a page with filling in its last two bytes
abbrev pub filled_page : ℕ → List ℕ
filled_page number = replicate 2045 1 ++ 2 ∷ 0x80 ∷ 0x80 ∷ []

-- a page of records of four bytes
abbrev pub record_run : Run
record_run = record { first = 70; count = 2; width = 4 }

abbrev pub record_page : ℕ → List ℕ
record_page number = 0 ∷ 0 ∷ 1 ∷ 44 ∷ 0 ∷ 0 ∷ 0 ∷ 7 ∷ []

pub record GapExamples : Type 0 where
  pub codes :
      map code_of (1 ∷ 127 ∷ 128 ∷ 300 ∷ 400 ∷ 16383 ∷ 16384 ∷ 1000000 ∷ [])
      ≡ (0x01 ∷ []) ∷ (0x7f ∷ []) ∷ (0x81 ∷ 0x00 ∷ []) ∷ (0x82 ∷ 0x2c ∷ []) ∷ (0x83 ∷ 0x10 ∷ []) ∷ (0xff ∷ 0x7f ∷ [])
      ∷ (0x81 ∷ 0x80 ∷ 0x00 ∷ []) ∷ (0xbd ∷ 0x84 ∷ 0x40 ∷ []) ∷ []
  pub read :
      map code_in ((0x7f ∷ 5 ∷ []) ∷ (0x81 ∷ 0x00 ∷ []) ∷ (0xff ∷ 0x7f ∷ 0xff ∷ []) ∷ (0xbd ∷ 0x84 ∷ 0x40 ∷ 9 ∷ []) ∷ [])
      ≡ Some (127, 1) ∷ Some (128, 2) ∷ Some (16383, 2) ∷ Some (1000000, 3) ∷ []
  pub broken :
      map code_in ((0x00 ∷ []) ∷ (0x80 ∷ 0x01 ∷ []) ∷ (0x81 ∷ []) ∷ (0x81 ∷ 0x80 ∷ []) ∷ (0xff ∷ 0xff ∷ 0xff ∷ []) ∷ [] ∷ [])
      ≡ None ∷ None ∷ None ∷ None ∷ None ∷ None ∷ []
  pub fillings :
      filling 2047 (code_of 300) ∷ filling 2046 (code_of 20000) ∷ filling 2046 (code_of 300) ∷ filling 2048 (code_of 20000) ∷ []
      ≡ (0x80 ∷ []) ∷ (0x80 ∷ 0x80 ∷ []) ∷ [] ∷ [] ∷ []
  pub filled : drop 2046 (with_code (replicate 2046 1) (code_of 20000)) ≡ 0x80 ∷ 0x80 ∷ 0x81 ∷ 0x9c ∷ 0x20 ∷ []
  pub gaps : gaps_of three_lists ≡ 2 ∷ 128 ∷ 1 ∷ 300 ∷ 1 ∷ []
  pub bytes : level_bytes three_lists ≡ 0x02 ∷ 0x81 ∷ 0x00 ∷ 0x01 ∷ 0x82 ∷ 0x2c ∷ 0x01 ∷ []
  pub begins : map (list_begin three_lists) (0 ∷ 1 ∷ 2 ∷ []) ≡ 0 ∷ 4 ∷ 4 ∷ []
  pub places : map (code_place (gaps_of three_lists)) (0 ∷ 1 ∷ 2 ∷ 3 ∷ 4 ∷ 5 ∷ []) ≡ 0 ∷ 1 ∷ 3 ∷ 4 ∷ 6 ∷ 7 ∷ []
  pub first_list : listed_from level_page level_run 0 0 3 ≡ 2 ∷ 130 ∷ 131 ∷ []
  pub last_list : listed_from level_page level_run 4 0 2 ≡ 300 ∷ 301 ∷ []
  pub stands :
      map (reading_of level_page level_run 0) (0 ∷ 1 ∷ 2 ∷ 3 ∷ [])
      ≡ Some (record { place = 0; last = 0 }) ∷ Some (record { place = 1; last = 2 }) ∷ Some (record { place = 3; last = 130 })
      ∷ Some (record { place = 4; last = 131 }) ∷ []
  pub behind_the_last : reading_of level_page level_run 4 3 ≡ None
  pub before_the_broken : listed_from broken_page level_run 0 0 5 ≡ 2 ∷ 130 ∷ 0 ∷ 0 ∷ 0 ∷ []
  pub nowhere : map (reading_at broken_page 70 4096 0) (2 ∷ 3 ∷ 4 ∷ []) ≡ Some (record { place = 3; last = 130 }) ∷ None ∷ None ∷ []
  pub over_filling : reading_at filled_page 70 4096 2045 1 ≡ Some (record { place = 2048; last = 2 })
  pub no_filling_so_early : past_filling (λ number. replicate 2045 1 ++ 0x80 ∷ 0x80 ∷ 0x80 ∷ []) 70 4096 2045 ≡ 2045
  pub no_filling_in_the_last_page : past_filling filled_page 70 2048 2046 ≡ 2046
  pub to_the_files_end : map (λ room. code_at broken_page 70 room 1) (3 ∷ 4 ∷ []) ≡ None ∷ Some (128, 2) ∷ []
  pub told : map (told_by level_run 3 130) ((1 ∷ 5 ∷ []) ∷ (0 ∷ 5 ∷ []) ∷ []) ≡ 131 ∷ 0 ∷ []
  pub to_the_end : bytes_at broken_page level_run 2050 ≡ 0 ∷ 0 ∷ 5 ∷ 6 ∷ []
  pub records : listed_from record_page record_run 0 0 2 ≡ 300 ∷ 7 ∷ []
  pub before_records :
      map (reading_of record_page record_run 0) (0 ∷ 1 ∷ 2 ∷ [])
      ≡ Some (record { place = 0; last = 0 }) ∷ Some (record { place = 1; last = 300 }) ∷ Some (record { place = 2; last = 7 }) ∷ []
  pub a_record : bytes_at record_page record_run 1 ≡ 0 ∷ 0 ∷ 0 ∷ 7 ∷ []
