-- The identifiers of an id index: its entries are those from 1 on in order.
use Rattle.std.specs.Prelude.{◌≡◌, ℕ, ℤ, pos, ◌+◌, ◌<◌, ◌≤◌, Bool, true, false, not, ◌&&◌, Option, Some, None}
use Rattle.std.specs.Ordering.{int_cmp}
use Rattle.ghost_model.specs.core.Values.{Number}
use Rattle.ghost_model.specs.core.Database.{order_of}
use Rattle.ghost_base.specs.Views.{value_of}
use Rattle.climbing_index.specs.declared.search.Bound.{Bound}
use Rattle.climbing_index.specs.declared.search.Group.{Group}
use Rattle.climbing_index.specs.Searches.{IsIn, before_by, is_past}

-- whether an identifier lies below an integer, or is it and that counts
abbrev pub below_number : (past : Bool) (number : ℤ) (identifier : ℕ) → Bool
below_number past number identifier = before_by past (int_cmp (pos identifier) number)

-- the same of a bound, as the beginning or as the end of a group
abbrev pub id_before : (end : Bool) → Option Bound → (identifier : ℕ) → Bool
id_before end None identifier = end
id_before end (Some bound) identifier = before_by (is_past end bound.included) (order_of (Number (pos identifier)) (value_of bound.value))

abbrev pub is_id_between : (low high : Option Bound) → (identifier : ℕ) → Bool
is_id_between low high identifier = not (id_before false low identifier) && id_before true high identifier

-- the identifiers up to one pass a test, and no later one does
pub record IsCut (rows : ℕ) (test : ℕ → Bool) (cut : ℕ) : Type 0 where
  pub most : cut ≤ rows
  pub below : (identifier : ℕ) → 1 ≤ identifier → identifier ≤ cut → test identifier ≡ true
  pub above : (identifier : ℕ) → cut < identifier → identifier ≤ rows → test identifier ≡ false

-- these are all entries whose identifiers lie between bounds
pub record IsBetweenIds (rows : ℕ) (low high : Option Bound) (group : Group) : Type 0 where
  pub within : group.first + group.count ≤ rows
  pub found : (entry : ℕ) → IsIn group entry → is_id_between low high (entry + 1) ≡ true
  pub all : (entry : ℕ) → entry < rows → is_id_between low high (entry + 1) ≡ true → IsIn group entry
