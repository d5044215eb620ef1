-- The files of a depot in memory lie in slots, of which the first so many are in use. Each slot has the room that was
-- asked for.
use Rattle.std.specs.Prelude.{◌≡◌, ◌⊎◌, ◌<◌, ◌≤◌, ℕ, ◌+◌, ◌-◌, refl, Bool, true, List, take, length, is_some, All, vec_capacity, map as each}
use Rattle.std.specs.Prelude.{nat_eq}
use Rattle.std.specs.Coded.{Coded, code_by, coded×, coded_ℕ, coded_list}
use Rattle.std.specs.Cmp.Lexicographic.{pointwise}
use Rattle.std.specs.FinMap as map
use Rattle.edge_traits.specs.Files.{Files}
use Rattle.edge_traits.specs.declared.slots.Slot.{Slot}

-- the slot has that name
abbrev pub is_named : List ℕ → Slot → Bool
is_named name slot = pointwise nat_eq name slot.name.items

-- the name and the bytes of a slot
abbrev pub entry_of : Slot → List ℕ × List ℕ
entry_of slot = (slot.name.items, slot.bytes.items)

-- the files in the slots in use
abbrev pub files_in : ℕ → List Slot → Files
files_in used slots = map.from_entries (each entry_of (take used slots))

-- files, and the room that is left: how many more there may be, how long a name may be, and how long a file
pub record Stored : Type 0 where
  pub files : Files
  pub unused : ℕ
  pub name_bytes : ℕ
  pub file_bytes : ℕ

abbrev pub stored_code : Coded Stored
stored_code =
    code_by (Files × (ℕ × (ℕ × ℕ))) (coded× (map.code (coded_list coded_ℕ) (coded_list coded_ℕ)) (coded× coded_ℕ (coded× coded_ℕ coded_ℕ)))
    (λ stored. (stored.files, (stored.unused, (stored.name_bytes, stored.file_bytes))))
    (λ parts. record { files = parts.0; unused = parts.1.0; name_bytes = parts.1.1.0; file_bytes = parts.1.1.1 }) (λ _. refl)

abbrev pub stored_in : (used name_bytes file_bytes : ℕ) → List Slot → Stored
stored_in used name_bytes file_bytes slots = record {
  files = files_in used slots;
  unused = length slots - used;
  name_bytes = name_bytes;
  file_bytes = file_bytes;
}

-- no file, and room for so many
abbrev pub empty : (files name_bytes file_bytes : ℕ) → Stored
empty files name_bytes file_bytes = record { files = map.empty; unused = files; name_bytes = name_bytes; file_bytes = file_bytes }

-- a slot has room for so many bytes of a name and of a file
pub record IsSized (name_bytes file_bytes : ℕ) (slot : Slot) : Type 0 where
  pub name : vec_capacity slot.name ≡ name_bytes
  pub file : vec_capacity slot.bytes ≡ file_bytes

-- each slot has the room that was asked for, and the first so many are in use
pub record AreSlots (used name_bytes file_bytes : ℕ) (slots : List Slot) : Type 0 where
  pub within : used ≤ length slots
  pub sized : All (IsSized name_bytes file_bytes) slots

-- there is room for the whole of a file: its name and its bytes are not too long, and it is there or may be new
pub record HasRoom (stored : Stored) (name bytes : List ℕ) : Type 0 where
  pub place : (is_some (map.get stored.files name) ≡ true) ⊎ (0 < stored.unused)
  pub name_fits : length name ≤ stored.name_bytes
  pub bytes_fit : length bytes ≤ stored.file_bytes

-- the room for a name and for a file is as it was, and no more than one file is new
pub record KeepsRoom (before after : Stored) : Type 0 where
  pub name_bytes : after.name_bytes ≡ before.name_bytes
  pub file_bytes : after.file_bytes ≡ before.file_bytes
  pub unused : before.unused ≤ after.unused + 1
