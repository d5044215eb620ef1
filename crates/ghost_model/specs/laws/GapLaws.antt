-- Laws of identifiers as gaps: a code is read as its number; from pages that store a level file each of its codes is read at its place,
-- and behind it the next one's; and a level file has room to spare in the pages of four bytes for each row.
use Rattle.std.specs.Prelude.{◌≡◌, ℕ, ◌+◌, ◌*◌, ◌<◌, ◌≤◌, List, [], ◌++◌, length, take, get_or, Some}
use Rattle.std.specs.List.{concat}
use Rattle.ghost_model.specs.forms.Runs.{Run, page_bytes, pages_of}
use Rattle.ghost_model.specs.forms.Gaps.{StoresBytes, code_at, code_in, code_of, code_place, gaps_of, level_bytes, list_begin, past_filling, ReadsCode}

-- a number that has a code
pub record HasCode (number : ℕ) : Type 0 where
  pub some : 0 < number
  pub small : number < 2097152

abbrev pub CodesAreRead : Type 0
CodesAreRead = (number : ℕ) → HasCode number → (rest : List ℕ) → code_in (code_of number ++ rest) ≡ Some (number, length (code_of number))

-- identifiers ascend, from 1 to so many rows
pub record AscendsTo (rows : ℕ) (identifiers : List ℕ) : Type 0 where
  pub above : (i : ℕ) → i < length identifiers → 0 < get_or identifiers i 0
  pub order : (i j : ℕ) → i < j → j < length identifiers → get_or identifiers i 0 < get_or identifiers j 0
  pub within : (i : ℕ) → i < length identifiers → get_or identifiers i 0 ≤ rows

-- such lists, which have together at most as many identifiers as there are rows
pub record AreLevelLists (rows : ℕ) (lists : List (List ℕ)) : Type 0 where
  pub each : (entry : ℕ) → entry < length lists → AscendsTo rows (get_or lists entry [])
  pub few : length (concat lists) ≤ rows
  pub small : rows < 2097152

-- all their gaps have codes, one for each identifier
pub record GapsHaveCodes (lists : List (List ℕ)) : Type 0 where
  pub count : length (gaps_of lists) ≡ length (concat lists)
  pub each : (k : ℕ) → k < length (gaps_of lists) → HasCode (get_or (gaps_of lists) k 0)

abbrev pub LevelListsHaveCodes : Type 0
LevelListsHaveCodes = (rows : ℕ) (lists : List (List ℕ)) → AreLevelLists rows lists → GapsHaveCodes lists

-- a list with an identifier begins at its first code, which comes behind those of the lists before it
abbrev pub ListsBeginAtCodes : Type 0
ListsBeginAtCodes =
    (lists : List (List ℕ)) (entry : ℕ) → GapsHaveCodes lists → entry < length lists → 0 < length (get_or lists entry [])
    → list_begin lists entry ≡ code_place (gaps_of lists) (length (concat (take entry lists)))

-- a level file that ends before its room does
abbrev pub CodesAreReadFromPages : Type 0
CodesAreReadFromPages =
    (page : ℕ → List ℕ) (run : Run) (lists : List (List ℕ)) → run.width ≡ 1 → GapsHaveCodes lists
    → length (level_bytes lists) < run.count → StoresBytes page run (level_bytes lists)
    → (k : ℕ) → k < length (gaps_of lists) → ReadsCode page run (gaps_of lists) k

-- a level file ends at least 512 bytes before its room
abbrev pub LevelFilesFit : Type 0
LevelFilesFit =
    (rows : ℕ) (lists : List (List ℕ)) → AreLevelLists rows lists → 0 < rows
    → length (level_bytes lists) + 512 ≤ page_bytes * pages_of rows 4
