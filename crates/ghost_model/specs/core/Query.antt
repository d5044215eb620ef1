-- A query with its names resolved: the tables that it is from, the columns that it selects and its conditions. Tables
-- and columns stand by their places in the schema. One of its tables is the top one.
use Rattle.std.specs.Prelude.{ℕ, List, Bool, true, false, not, [], ◌∷◌, ◌==◌, Option, Some, None, filter, flat_map}
use Rattle.ghost_model.specs.core.Values.{Value}
use Rattle.std.specs.List.{list_any}
use Rattle.ghost_model.specs.core.Schema.{Schema, parent}

pub record Field : Type 0 where
  pub table : ℕ
  pub column : ℕ

pub data Operator : Type 0 where
  Equal Unequal Less AtMost More AtLeast : Operator

-- what is tested of a value: that an operator holds between it and a literal, that it is NULL, or that it is not
pub data Test : Type 0 where
  Compared : Operator → Value → Test
  IsNull IsNotNull : Test

-- a test of a column
pub record Member : Type 0 where
  pub field : Field
  pub test : Test

-- a group of members, of which one is to be true, or two columns that are to be equal. A test that stands alone is a group of one
pub data Condition : Type 0 where
  OneOf : (first : Member) → (others : List Member) → Condition
  Join : Field → Field → Condition

abbrev pub tested : Field → Test → Member
tested field test = record { field = field; test = test }

-- the condition that a comparison is alone
abbrev pub compared : Field → Operator → Value → Condition
compared field operator literal = OneOf (tested field (Compared operator literal)) []

-- a member, and whether the next one is of its group
pub record GroupMember : Type 0 where
  pub member : Member
  pub more : Bool

abbrev pub members_of_group : (first : Member) → (others : List Member) → List GroupMember
members_of_group first [] = record { member = first; more = false } ∷ []
members_of_group first (next ∷ others) = record { member = first; more = true } ∷ members_of_group next others

abbrev pub members_of : Condition → List GroupMember
members_of (OneOf first others) = members_of_group first others
members_of (Join one other) = []

-- the members of all groups in their order
abbrev pub members_in : List Condition → List GroupMember
members_in conditions = flat_map members_of conditions

-- tables, columns (those that `*` stands for among them) and conditions in the order of the text, BETWEEN being two
pub record Query : Type 0 where
  pub from : List ℕ
  pub select : List Field
  pub conditions : List Condition

abbrev pub is_among : List ℕ → ℕ → Bool
is_among tables table = list_any (λ other. other == table) tables

abbrev pub is_some_among : List ℕ → Option ℕ → Bool
is_some_among tables None = false
is_some_among tables (Some table) = is_among tables table

abbrev pub only : {X : Type 0} → List X → Option X
only (x ∷ []) = Some x
only _ = None

-- the one FROM table whose parent is not in FROM; the root has none
abbrev pub top_of : Schema → Query → Option ℕ
top_of schema query = only (filter (λ table. not (is_some_among query.from (parent schema table))) query.from)
