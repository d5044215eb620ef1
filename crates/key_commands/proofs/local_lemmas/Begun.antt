-- A journal's file that was begun as an empty one.
use Rattle.std.proofs.Common.{◌≡◌, ◌<◌, ◌≤◌, ℕ, cond, inr, length, List, Option, None, Some, Result, Ok, Err, OnOk, sym, ◌∙◌, ap, subst}
use Rattle.std.specs.Cmp.{eq_by_cmp_equiv}
use Rattle.std.specs.Cmp.Lexicographic.{nat_list_cmp_total}
use Rattle.std.specs.FinMap as finite
use Rattle.edge_traits.specs.Files.{Files, HasFile, with_file}
use Rattle.edge_traits.specs.Rooms.{HasRoomFor, IsEmptyWith}
use Rattle.edge_traits.specs.Slots.{HasRoom, Stored}
use Rattle.edge_traits.specs.declared.mem_depot.MemDepot.{MemDepot}
use Rattle.edge_traits.specs.declared.mem_depot.Room.{Room}

has_put : (old : Option Files) (name bytes : List ℕ) → HasFile (with_file old name bytes) name bytes
has_put None name bytes = tt
has_put (Some files) name bytes =
    finite.get-insert nat_list_cmp_total files name bytes name
    ∙ ap (λ b. cond b (Some bytes) (finite.get files name)) ((eq_by_cmp_equiv nat_list_cmp_total).refl name)

pub on_replaced : {T E : Type 0} (result : Result T E) (old new : Option Files) (name bytes : List ℕ) → OnOk result (new ≡ with_file old name bytes) → OnOk result (HasFile new name bytes)
on_replaced (Ok done) old new name bytes is = subst (λ (held : Option Files). HasFile held name bytes) (sym is) (has_put old name bytes)
on_replaced (Err fault) old new name bytes is = tt

-- a file that was put into a depot that tells its files
pub put_there : (old new : Files) (name bytes : List ℕ) → Some new ≡ with_file (Some old) name bytes → finite.get new name ≡ Some bytes
put_there old new name bytes is =
    let same : new ≡ finite.insert old name bytes = cc in
    subst (λ (files : Files). finite.get files name ≡ Some bytes) (sym same) (has_put (Some old) name bytes)

-- a depot that was made with room for this one file has room for it
pub has_just_room : (depot : MemDepot) (room : Room) (name bytes : List ℕ) → IsEmptyWith room depot → 0 < room.files → length name ≤ room.name_bytes → length bytes ≤ room.file_bytes
    → HasRoomFor depot name bytes
has_just_room depot room name bytes is some name_fits bytes_fit =
    subst (λ (stored : Stored). HasRoom stored name bytes) (sym is) (record { place = inr some; name_fits = name_fits; bytes_fit = bytes_fit })
