-- The room of a depot in memory.
use Rattle.std.specs.Prelude.{◌≡◌, ℕ, List}
use Rattle.edge_traits.specs.Slots.{HasRoom, KeepsRoom, empty}
use Rattle.edge_traits.specs.declared.mem_depot.MemDepot.{MemDepot}
use Rattle.edge_traits.specs.declared.mem_depot.Room.{Room}

-- a depot has no file, and just the room that was asked for
abbrev pub IsEmptyWith : Room → MemDepot → Type 0
IsEmptyWith room depot = depot.files ≡ empty room.files room.name_bytes room.file_bytes

-- a depot has room for a file of that name and of these bytes
abbrev pub HasRoomFor : MemDepot → (name bytes : List ℕ) → Type 0
HasRoomFor depot name bytes = HasRoom depot.files name bytes

-- a depot has the room that it had, but for one file at most
abbrev pub KeepsRoomOf : (before after : MemDepot) → Type 0
KeepsRoomOf before after = KeepsRoom before.files after.files

-- a depot has the files and the room that it had
abbrev pub KeepsFilesOf : (before after : MemDepot) → Type 0
KeepsFilesOf before after = after.files ≡ before.files
