-- Laws of subtree key tables: where pages hold a database's, the slot of each row has the rows that it leads to.
use Rattle.std.specs.Prelude.{◌≡◌, ◌⊎◌, ℕ, ◌+◌, ◌-◌, ◌<◌, ◌≤◌, false, if◌then◌else◌, List, length, map, Option, Some, None}
use Rattle.ghost_model.specs.core.Schema.{is_empty}
use Rattle.ghost_model.specs.core.Values.{Database}
use Rattle.ghost_model.specs.core.Channel.{Catalog}
use Rattle.ghost_model.specs.core.Database.{IsDatabase, row_counts}
use Rattle.ghost_model.specs.core.Split.{Hidden, hidden_of}
use Rattle.ghost_model.specs.laws.LayoutLaws.{IsLimited}
use Rattle.ghost_model.specs.forms.Runs.{record_at, page_of, slot_of, found_in}
use Rattle.ghost_model.specs.forms.Layout.{count_of, descendants_of, Subtrees, subtree_table}
use Rattle.ghost_model.specs.forms.Flash.{HoldsSubtrees, leads_to, subtree_record}
use Rattle.ghost_model.specs.forms.Slots.{IsDamagedIn, are_rows, in_slot, may_stand}
use Rattle.subtree_keys.specs.declared.table.SubtreeTable.{SubtreeTable}
use Rattle.subtree_keys.specs.Tables.{IsTableOf, identifiers, slot_row}

-- the identifiers that bytes spell in a subtree key table, if each is in range
abbrev pub rows_spelled : Catalog → (tables bytes : List ℕ) → Option (List ℕ)
rows_spelled cat tables bytes = if are_rows cat tables bytes then Some (identifiers tables bytes) else None

-- the identifiers that pages have for a row in the subtree key table
abbrev pub row_on : (ℕ → List ℕ) → Catalog → (table identifier : ℕ) → Option (List ℕ)
row_on page cat table identifier =
    rows_spelled cat (descendants_of cat.schema table) (record_at page (subtree_table cat table) (identifier - 1))

-- these are the rows of the tables below that a row leads to, one for each
abbrev pub LeadsTo : Catalog → Hidden → (table identifier : ℕ) → List ℕ → Type 0
LeadsTo cat hidden table identifier rows =
    map Some rows ≡ map (leads_to cat.schema hidden table identifier) (descendants_of cat.schema table)

-- a row leads to rows, and the pages have them, in all words for it
pub record HasRow (page : ℕ → List ℕ) (cat : Catalog) (hidden : Hidden) (table identifier : ℕ) : Type 0 where
  pub rows : List ℕ
  pub led : LeadsTo cat hidden table identifier rows
  pub on_pages : row_on page cat table identifier ≡ Some rows
  pub in_slot : (keys : SubtreeTable) → IsTableOf cat table keys → slot_row page keys identifier ≡ Some rows

abbrev pub TablesGiveRows : Type 0
TablesGiveRows =
    (page : ℕ → List ℕ) (cat : Catalog) (database : Database) → IsLimited cat → IsDatabase cat.schema database
    → row_counts database ≡ cat.counts → HoldsSubtrees page cat (hidden_of cat.schema database)
    → (table : ℕ) → table < length cat.schema → is_empty (descendants_of cat.schema table) ≡ false
    → (identifier : ℕ) → 1 ≤ identifier → identifier ≤ count_of cat table
    → HasRow page cat (hidden_of cat.schema database) table identifier

-- pages hold the subtree key table of a table but for slots that are out of range by themselves
abbrev pub HoldsTableBut : (ℕ → List ℕ) → Catalog → Hidden → (table : ℕ) → Type 0
HoldsTableBut page cat hidden table =
    (place : ℕ) → place < count_of cat table
    → (in_slot page cat (Subtrees table) place ≡ subtree_record cat.schema hidden table (place + 1))
    ⊎ (may_stand cat (Subtrees table) (in_slot page cat (Subtrees table) place) ≡ false)

-- those that hold all such tables hold each so: no slot is out of range
abbrev pub HeldTablesAreHeldBut : Type 0
HeldTablesAreHeldBut =
    (page : ℕ → List ℕ) (cat : Catalog) (hidden : Hidden) → HoldsSubtrees page cat hidden
    → (table : ℕ) → table < length cat.schema → is_empty (descendants_of cat.schema table) ≡ false
    → HoldsTableBut page cat hidden table

-- a subtree key table may have damaged slots, but each slot that spells identifiers has those that its row leads to
abbrev pub IsTableBut : (ℕ → List ℕ) → Catalog → Hidden → (table : ℕ) → Type 0
IsTableBut page cat hidden table =
    (identifier : ℕ) → 1 ≤ identifier → identifier ≤ count_of cat table
    → (rows : List ℕ) → row_on page cat table identifier ≡ Some rows → LeadsTo cat hidden table identifier rows

abbrev pub TablesAreRightButForDamage : Type 0
TablesAreRightButForDamage =
    (page : ℕ → List ℕ) (cat : Catalog) (database : Database) → IsLimited cat → IsDatabase cat.schema database
    → row_counts database ≡ cat.counts → (table : ℕ) → table < length cat.schema
    → HoldsTableBut page cat (hidden_of cat.schema database) table
    → IsTableBut page cat (hidden_of cat.schema database) table

-- what the table's own words say is what the pages have
abbrev pub TablesAreOfSlots : Type 0
TablesAreOfSlots =
    (page : ℕ → List ℕ) (cat : Catalog) (table : ℕ) (keys : SubtreeTable) → IsTableOf cat table keys
    → (identifier : ℕ) → slot_row page keys identifier ≡ row_on page cat table identifier

-- a slot that spells no identifiers is a damaged one
abbrev pub DamageIsOfSlots : Type 0
DamageIsOfSlots =
    (page : ℕ → List ℕ) (cat : Catalog) (table : ℕ) → is_empty (descendants_of cat.schema table) ≡ false
    → (place : ℕ) → place < count_of cat table → row_on page cat table (place + 1) ≡ None
    → IsDamagedIn cat page (Subtrees table) place (page_of (subtree_table cat table) place) (slot_of (subtree_table cat table) place)
    (found_in (record_at page (subtree_table cat table) place))
