-- Level files by the tables of their levels.
use Rattle.std.specs.Prelude.{◌≡◌, ℕ, ◌+◌, ◌<◌, List, length, take, map, sum_by, slice_index}
use Rattle.ghost_model.specs.forms.Runs.{Run, pages_of}
use Rattle.ghost_model.specs.forms.Gaps.{room_of}
use Rattle.ghost_model.specs.forms.Layout.{files_pages}
use Rattle.ghost_model.specs.forms.Work.{levels_written}
use Rattle.index_files.specs.Files.{AreLevels, level_pages, level_file, written_pages}

-- the pages of the room of level files with an identifier for each row of some tables
abbrev pub pages_of_levels : (rows : ℕ → ℕ) → (tables : List ℕ) → ℕ
pages_of_levels rows tables = sum_by (λ table. pages_of (rows table) 4) tables

pub record FilesOfTables : Type 0 where
  pub pages : (rows : ℕ → ℕ) (tables : List ℕ) → level_pages (map rows tables) ≡ pages_of_levels rows tables
  pub file :
      (rows : ℕ → ℕ) (tables : List ℕ) (begin level : ℕ) → level < length tables
      → level_file begin (map rows tables) level
      ≡ room_of (record { first = begin + pages_of_levels rows (take level tables); count = rows (slice_index tables level); width = 4 })
  -- the pages that hold a byte of them
  pub written :
      (levels : List (List ℕ)) (entries begin : ℕ) (tables : List ℕ) (lists : ℕ → List (List ℕ)) (file : ℕ → Run)
      → AreLevels levels entries begin tables lists file → written_pages levels entries ≡ files_pages (levels_written lists tables)
