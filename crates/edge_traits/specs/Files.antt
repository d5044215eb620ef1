-- What a depot holds, where it tells it: a finite map from the names of its files to their bytes. `None` is the telling
-- of a depot that tells nothing, and each word here then claims nothing.
use Rattle.std.specs.Prelude.{◌≡◌, ◌≢◌, ℕ, ◌-◌, ◌<◌, ◌≤◌, ⊤, List, [], take, drop, length, Option, None, Some, MatchOption, is_some}
use Rattle.std.specs.Ordering.{nat_cmp}
use Rattle.std.specs.Cmp.Lexicographic.{slice_cmp}
use Rattle.std.specs.FinMap as map

-- the files of a depot, by name
abbrev pub Files : Type 0
Files = map.FinMap (slice_cmp nat_cmp) (List ℕ)

-- the bytes of a named file, where the depot tells its files and the file is there
abbrev pub file_of : Option Files → List ℕ → Option (List ℕ)
file_of None name = None
file_of (Some files) name = map.get files name

-- the told files with one of them replaced, or added
abbrev pub with_file : Option Files → List ℕ → List ℕ → Option Files
with_file None name bytes = None
with_file (Some files) name bytes = Some (map.insert files name bytes)

-- the bytes of a file, and none for a file that is not there
abbrev pub or_empty : Option (List ℕ) → List ℕ
or_empty None = []
or_empty (Some bytes) = bytes

-- the told files have such a file
abbrev pub HasFile : Option Files → List ℕ → List ℕ → Type 0
HasFile None name bytes = ⊤
HasFile (Some files) name bytes = map.get files name ≡ Some bytes

-- the told files have that file, and it is longer than a limit
abbrev pub HasLonger : Option Files → List ℕ → ℕ → Type 0
HasLonger None name limit = ⊤
HasLonger (Some files) name limit = MatchOption (map.get files name) ⊥ (λ bytes. limit < length bytes)

-- each file that is there is one whose reads go well
abbrev pub AreSure : Files → (List ℕ → Type 0) → Type 0
AreSure files sure = (name bytes : List ℕ) → map.get files name ≡ Some bytes → sure name

-- every file but the named one is as it was, and what was told is told
pub record SameBut (name : List ℕ) (before after : Option Files) : Type 0 where
  pub told : is_some after ≡ is_some before
  pub others : (other : List ℕ) → other ≢ name → file_of after other ≡ file_of before other

-- a read of `count` bytes into a buffer gives those that stand at a place; it gives none exactly from the end on
pub record GivesAt (bytes : List ℕ) (place : ℕ) (buffer : List ℕ) (count : ℕ) (filled : List ℕ) : Type 0 where
  pub same : take count filled ≡ take count (drop place bytes)
  pub within : count ≤ length bytes - place
  pub some : place < length bytes → 0 < length buffer → 0 < count

-- a read of a named file: it is there, and the read gives what stands at the place
abbrev pub ReadsAt : Option Files → List ℕ → ℕ → List ℕ → ℕ → List ℕ → Type 0
ReadsAt None name place buffer count filled = ⊤
ReadsAt (Some files) name place buffer count filled =
    MatchOption (map.get files name) ⊥ (λ bytes. GivesAt bytes place buffer count filled)
