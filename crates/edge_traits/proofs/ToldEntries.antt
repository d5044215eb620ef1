-- The moves that a link tells, with one more.
use Rattle.std.proofs.Common.{◌≡◌, ℕ, zero, suc, ◌+◌, ◌≤◌, Bool, true, false, List, [], ◌∷◌, ◌++◌, length, drop, Option, Some, None, Ok, Err, refl, sym, ◌∙◌, ap, add_assoc, arith, nat_lt, nat_le, vec_len, vec_capacity}
use Rattle.std.proofs.lemmas.Bool.Decides.{nat_tests}
use Rattle.std.proofs.lemmas.List.{take-append-le, drop-append-le, length-append}
use Rattle.std.proofs.lemmas.Bool.{and_parts, and_from}
use Rattle.std.proofs.lemmas.Grind.{common_steps}
use Rattle.ghost_model.specs.core.Channel as channel
use Rattle.ghost_model.specs.core.Channel.{Entry, Journal}
use Rattle.edge_traits.specs.Links.{entry, done, listening, appended, GrewBy}
use Rattle.edge_traits.specs.Told.{size_of, entry_of, entries, sizes}
use Rattle.edge_traits.specs.MemLinks.{told_in, told_while, has_room, told_within}
use Rattle.edge_traits.specs.declared.told.Told.{Told}
use Rattle.edge_traits.specs.declared.told.Told.TheVariants.{Dial, Listen, Accept, Send, Take, Close}
use Rattle.edge_traits.specs.declared.told.ToldMoves.{ToldMoves}

sizes_push : (moves : List Told) (told : Told) → sizes (moves ++ told ∷ []) ≡ sizes moves + size_of told
sizes_push [] told = omega arith
sizes_push (first ∷ moves) told = ap (λ n. size_of first + n) (sizes_push moves told) ∙ sym (add_assoc (size_of first) (sizes moves) (size_of told))

entry_front : (told : Told) (bytes more : List ℕ) → size_of told ≤ length bytes → entry_of told (bytes ++ more) ≡ entry_of told bytes
entry_front (Dial size answer) bytes more fits = ap (λ b. entry (channel.Dial b) (done answer)) (take-append-le size bytes more fits)
entry_front (Listen size answer) bytes more fits = ap (λ b. entry (channel.Listen b) (listening answer)) (take-append-le size bytes more fits)
entry_front (Accept answer) bytes more fits = refl
entry_front (Send size answer) bytes more fits = ap (λ b. entry (channel.Send b) (done answer)) (take-append-le size bytes more fits)
entry_front (Take most (Ok zero)) bytes more fits = refl
entry_front (Take most (Ok (suc size))) bytes more fits = ap (λ b. entry (channel.Take most) (channel.Piece b)) (take-append-le (suc size) bytes more fits)
entry_front (Take most (Err e)) bytes more fits = refl
entry_front Close bytes more fits = refl

entries_push : (moves : List Told) (told : Told) (bytes more : List ℕ) → sizes moves ≡ length bytes → entries (moves ++ told ∷ []) (bytes ++ more) ≡ entries moves bytes ++ entry_of told more ∷ []
entries_push [] told [] more sized = refl
entries_push [] told (byte ∷ bytes) more sized = cc
entries_push (first ∷ moves) told bytes more sized =
    let fits : size_of first ≤ length bytes = omega (arith, sized) in
    let later : sizes moves ≡ length (drop (size_of first) bytes) = grind (arith, common_steps) in
    ap (λ e. e ∷ entries (moves ++ told ∷ []) (drop (size_of first) (bytes ++ more))) (entry_front first bytes more fits)
    ∙ ap (λ b. entry_of first bytes ∷ entries (moves ++ told ∷ []) b) (drop-append-le (size_of first) bytes more fits)
    ∙ ap (λ rest. entry_of first bytes ∷ rest) (entries_push moves told (drop (size_of first) bytes) more later)

-- the bytes that are kept are those of the moves, with one more
pub sized_push : (moves : List Told) (told : Told) (bytes more : List ℕ) → sizes moves ≡ length bytes → size_of told ≡ length more → sizes (moves ++ told ∷ []) ≡ length (bytes ++ more)
sized_push moves told bytes more sized one = sizes_push moves told ∙ ap (λ n. n + size_of told) sized ∙ ap (λ n. length bytes + n) one ∙ sym (length-append bytes more)

-- a move that had room is told after those before
pub told_push : (old new : ToldMoves) (told : Told) (bytes : List ℕ) → new.telling ≡ old.telling → has_room old (length bytes) ≡ true → new.list.items ≡ old.list.items ++ told ∷ [] → new.bytes.items ≡ old.bytes.items ++ bytes → sizes old.list.items ≡ length old.bytes.items
    → told_in new ≡ told_within (has_room old (length bytes)) (told_in old) (entry_of told bytes ∷ [])
told_push old new told bytes same room list kept sized =
    let is : old.telling ≡ true = (and_parts old.telling _ room).0 in
    ap (λ b. told_while b new) (same ∙ is)
    ∙ ap (λ m. Some (entries m new.bytes.items)) list
    ∙ ap (λ b. Some (entries (old.list.items ++ told ∷ []) b)) kept
    ∙ ap Some (entries_push old.list.items told old.bytes.items bytes sized)
    ∙ sym (ap (λ b. told_within b (told_in old) (entry_of told bytes ∷ [])) room ∙ ap (λ b. appended (told_while b old) (entry_of told bytes ∷ [])) is)

stopped : (b : Bool) (move : Entry) → told_within b None (move ∷ []) ≡ None
stopped true move = refl
stopped false move = refl

less_fits : (have less size most : ℕ) → nat_le (have + size) most ≡ true → less ≤ size → nat_le (have + less) most ≡ true
less_fits have less size most fits within = grind (arith, nat_tests)

roomy : (moves : ToldMoves) (size less : ℕ) → has_room moves size ≡ true → less ≤ size → has_room moves less ≡ true
roomy moves size less room within =
    let parts = and_parts moves.telling _ room in
    let sides = and_parts (nat_lt (vec_len moves.list) (vec_capacity moves.list)) (nat_le (vec_len moves.bytes + size) (vec_capacity moves.bytes)) parts.1 in
    and_from _ _ parts.0 (and_from _ _ sides.0 (less_fits (vec_len moves.bytes) less size (vec_capacity moves.bytes) sides.1 within))

-- what is told after a call that began by asking for room
pub told_made : (old between new : ToldMoves) (size : ℕ) (told : Told) (bytes : List ℕ) (move : Entry) → (has_room old size ≡ true → between ≡ old) → (has_room old size ≡ false → told_in between ≡ None)
    → told_in new ≡ told_within (has_room between (length bytes)) (told_in between) (entry_of told bytes ∷ []) → length bytes ≤ size → entry_of told bytes ≡ move
    → told_in new ≡ told_within (has_room old size) (told_in old) (move ∷ [])
told_made old between new size told bytes move kept ended added within is =
    elim (has_room old size) as (λ b. has_room old size ≡ b → told_in new ≡ told_within b (told_in old) (move ∷ [])) [
      | true ↦ λ room.
          added ∙ ap (λ m. told_within (has_room m (length bytes)) (told_in m) (entry_of told bytes ∷ [])) (kept room)
          ∙ ap (λ b. told_within b (told_in old) (entry_of told bytes ∷ [])) (roomy old size (length bytes) room within)
          ∙ ap (λ e. appended (told_in old) (e ∷ [])) is
      | false ↦ λ room.
          added ∙ ap (λ t. told_within (has_room between (length bytes)) t (entry_of told bytes ∷ [])) (ended room)
          ∙ stopped (has_room between (length bytes)) (entry_of told bytes)
    ] refl

-- what is told within the room has grown by the moves
pub grew_within : (room : Bool) (before after : Option Journal) (more : Journal) → after ≡ told_within room before more → GrewBy before more after
grew_within true before None more is = tt
grew_within true before (Some journal) more is = is
grew_within false before None more is = tt
grew_within false before (Some journal) more is = cc
