-- Laws of lists of the identifiers of a reply: where the pages have its rows, and an id index but for slots that are out of
-- range by themselves, they are the lists of these identifiers; and a slot that is damaged of them is one that the layout's
-- slots call so, none of the reply.
use Rattle.std.specs.Prelude.{◌≡◌, ℕ, ◌-◌, ◌<◌, ◌≤◌, false, List, [], length, map, get_or}
use Rattle.ghost_model.specs.core.Schema.{is_empty}
use Rattle.ghost_model.specs.core.Values.{Database}
use Rattle.ghost_model.specs.core.Channel.{Catalog}
use Rattle.ghost_model.specs.core.Split.{hidden_of}
use Rattle.ghost_model.specs.forms.Layout.{count_of, above_of}
use Rattle.ghost_model.specs.forms.Slots.{IsDamagedSlot}
use Rattle.climbing_index.specs.declared.directory.Directory.{Directory}
use Rattle.climbing_index.specs.declared.index.IdIndex.{IdIndex}
use Rattle.climbing_index.specs.Holding.{HoldsIdIndexWhole, HoldsIdIndexBut, ids_at}
use Rattle.climbing_index.specs.Indexes.{IsIdIndexOf}
use Rattle.climbing_index.specs.Laws.{IsOf}
use Rattle.visible_spool.specs.Replies.{HoldsRows, IsSound, id_of_bytes}
use Rattle.entry_lists.specs.declared.replies.ReplyLists.{ReplyLists}
use Rattle.entry_lists.specs.Laws.{rows_at}
use Rattle.entry_lists.specs.Replied.{RepliesHave, IsDamaged}

-- lists of a reply of a table with so many rows, by a directory, at one of some levels
pub record AreListsOf (directory : Directory) (levels entries : ℕ) (lists : ReplyLists) : Type 0 where
  pub directory_is : lists.directory ≡ directory
  pub level : lists.level < levels
  pub sound : IsSound lists.reply
  pub rows : lists.reply.rows ≤ entries

-- none was given, no row was looked at, and there is room for so many identifiers
pub record AreBegun (rows : ℕ) (lists : ReplyLists) : Type 0 where
  pub given : lists.given ≡ 0
  pub ids : lists.ids.items ≡ []
  pub last : lists.last ≡ 0
  pub room : rows ≤ lists.left

-- the list of the identifier of each row
abbrev pub lists_of : (lists held : List (List ℕ)) → List (List ℕ)
lists_of lists held = map (λ row. get_or lists (id_of_bytes row - 1) []) held

abbrev pub RepliesHaveIdLists : Type 0
RepliesHaveIdLists =
    (page right : ℕ → List ℕ) (cat : Catalog) (database : Database) → IsOf cat database → (table : ℕ) → table < length cat.schema
    → HoldsIdIndexWhole right cat (hidden_of cat.schema database) table
    → HoldsIdIndexBut page cat (hidden_of cat.schema database) table
    → (index : IdIndex) → IsIdIndexOf cat table index
    → (lists : ReplyLists) → AreListsOf index.directory (length (above_of cat.schema table)) (count_of cat table) lists
    → AreBegun (rows_at cat (above_of cat.schema table) lists.level) lists
    → (held : List (List ℕ)) → HoldsRows page lists.reply held
    → RepliesHave page right (rows_at cat (above_of cat.schema table) lists.level) lists
    (lists_of (ids_at cat (hidden_of cat.schema database) table lists.level) held)

abbrev pub RepliesDamageSlots : Type 0
RepliesDamageSlots =
    (page : ℕ → List ℕ) (cat : Catalog) (table : ℕ) → table < length cat.schema → is_empty (above_of cat.schema table) ≡ false
    → (index : IdIndex) → IsIdIndexOf cat table index
    → (lists : ReplyLists) → AreListsOf index.directory (length (above_of cat.schema table)) (count_of cat table) lists
    → (number slot found : ℕ) → IsDamaged page (rows_at cat (above_of cat.schema table) lists.level) lists number slot found
    → IsDamagedSlot cat page number slot found
