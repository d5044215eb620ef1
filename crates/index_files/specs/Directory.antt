-- The records of a directory as they are made: from where the lists start at each level.
use Rattle.std.specs.Prelude.{◌≡◌, ℕ, ◌+◌, ◌-◌, ◌*◌, ◌<◌, ◌≤◌, List, [], ◌++◌, length, map, flat_map, get_or, slice_index}
use Rattle.ghost_model.specs.forms.Layout.{below}
use Rattle.ghost_model.specs.forms.Gaps.{list_begin}
use Rattle.ghost_model.specs.forms.Runs.{number_cell}
use Rattle.index_lists.specs.Lists.{lists_of, start_of}

-- where each list starts, and behind the last one where it ends
pub record AreStartsOf (lists : List (List ℕ)) (entries : ℕ) (starts : List ℕ) : Type 0 where
  pub long : length starts ≡ entries + 1
  pub each : (entry : ℕ) → entry ≤ entries → slice_index starts entry ≡ start_of lists entry

-- the same at each level
pub record AreStarts (levels : List (List ℕ)) (entries : ℕ) (starts : List (List ℕ)) : Type 0 where
  pub many : length starts ≡ length levels
  pub each :
      (level : ℕ) → level < length levels
      → AreStartsOf (lists_of (get_or levels level []) entries) entries (get_or starts level [])

-- where each list begins in the bytes of its level's file
pub record AreBeginsOf (lists : List (List ℕ)) (entries : ℕ) (begins : List ℕ) : Type 0 where
  pub long : length begins ≡ entries
  pub each : (entry : ℕ) → entry < entries → slice_index begins entry ≡ list_begin lists entry

-- the same at each level
pub record AreBegins (levels : List (List ℕ)) (entries : ℕ) (begins : List (List ℕ)) : Type 0 where
  pub many : length begins ≡ length levels
  pub each :
      (level : ℕ) → level < length levels
      → AreBeginsOf (lists_of (get_or levels level []) entries) entries (get_or begins level [])

-- the place of an entry's list at a level: where it begins, and how many rows stand between its start and the next one's
abbrev pub entry_place : (starts begins : List (List ℕ)) → (entry level : ℕ) → List ℕ
entry_place starts begins entry level =
    number_cell (slice_index (get_or begins level []) entry)
    ++ number_cell (slice_index (get_or starts level []) (entry + 1) - slice_index (get_or starts level []) entry)

-- the places of an entry's lists at so many levels, and its record
abbrev pub entry_places : (starts begins : List (List ℕ)) → (entry levels : ℕ) → List ℕ
entry_places starts begins entry levels = flat_map (entry_place starts begins entry) (below levels)

abbrev pub entry_record : (heads starts begins : List (List ℕ)) → (entry : ℕ) → List ℕ
entry_record heads starts begins entry = get_or heads entry [] ++ entry_places starts begins entry (length starts)

abbrev pub entry_records : (heads starts begins : List (List ℕ)) → List (List ℕ)
entry_records heads starts begins = map (entry_record heads starts begins) (below (length heads))

-- records can be made: at each level all lists have a start and a beginning, and the starts rise; a record has at most 256 bytes
pub record CanBeRead (heads starts begins : List (List ℕ)) : Type 0 where
  pub narrow : (entry : ℕ) → entry < length heads → length (get_or heads entry []) + 8 * length starts ≤ 256
  pub many : length begins ≡ length starts
  pub long : (level : ℕ) → level < length starts → length (get_or starts level []) ≡ length heads + 1
  pub wide : (level : ℕ) → level < length starts → length (get_or begins level []) ≡ length heads
  pub rise :
      (level entry : ℕ) → level < length starts → entry < length heads
      → slice_index (get_or starts level []) entry ≤ slice_index (get_or starts level []) (entry + 1)
