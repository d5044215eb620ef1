-- What may stand in slots that spell no value. Any pages hold the hidden columns of some database but for such slots: of one for
-- whatever values of their kind and range stand there. So what a scan answers in full is the answer over each of these databases: no
-- such slot has a part in it.
use Rattle.std.specs.Prelude.{◌≡◌, ℕ, ◌≤◌, ◌&&◌, Bool, true, false, nat_eq, nat_lt, List, length, Some, None, Ok, unwrap_or}
use Rattle.std.specs.List.{list_all}
use Rattle.ghost_model.specs.core.Values.{Value, Database}
use Rattle.ghost_model.specs.core.Channel.{Catalog}
use Rattle.ghost_model.specs.core.Query.{Query}
use Rattle.ghost_model.specs.core.Replies.{Reply, answer_from}
use Rattle.ghost_model.specs.core.Printed.{answer_lines}
use Rattle.ghost_model.specs.readings.QueryReading.{reading}
use Rattle.ghost_model.specs.core.Database.{IsDatabase, is_of_kind, row_counts, value_at_row}
use Rattle.ghost_model.specs.core.Asks.{kind_at}
use Rattle.ghost_model.specs.core.Split.{Public, IsPublic, public_of, hidden_of}
use Rattle.ghost_model.specs.forms.Layout.{is_hidden, count_of}
use Rattle.ghost_model.specs.forms.Slots.{child_at, child_rows, is_in_range}
use Rattle.ghost_model.specs.laws.LayoutLaws.{IsLimited}
use Rattle.ghost_model.specs.laws.SchemaTrees.{IsTree}
use Rattle.hidden_columns.specs.Laws.{value_on}
use Rattle.edge_traits.specs.Devices.{Device}
use Rattle.visible_spool.specs.declared.half.Half.{Half}
use Rattle.leakless_plan.specs.declared.plan.Plan.TheVariants as plan
use Rattle.channel_pump.specs.declared.state.ReplyState.{ReplyState}
use Rattle.key_lines.specs.Handing.{Handed}
use Rattle.key_exec.specs.Reading.{KnowsBut}
use Rattle.key_lines.specs.declared.told.ToldText.{ToldText}
use Rattle.key_exec.specs.Telling.{AreRepliesOf, HasTold}
use Rattle.key_exec.specs.declared.text.Told.TheVariants as told

-- pages have bytes
abbrev pub HaveBytes : (ℕ → List ℕ) → Type 0
HaveBytes page = (number : ℕ) → list_all (λ byte. nat_lt byte 256) (page number) ≡ true

-- The tables of a catalog can have as many rows as it says: it says so of each, and where a table has rows, so has each table that one of
-- its foreign keys names.
pub record CanHaveRows (cat : Catalog) : Type 0 where
  pub counted : length cat.counts ≡ length cat.schema
  pub named : (table column child : ℕ) → 1 ≤ count_of cat table → child_at cat.schema table column ≡ Some child → 1 ≤ count_of cat child

-- a value may stand in a column
pub record MayStand (cat : Catalog) (table column : ℕ) (value : Value) : Type 0 where
  pub kind : is_of_kind (kind_at cat.schema table column) value ≡ true
  pub range : is_in_range (child_rows cat table column) value ≡ true

-- so may a value for each row in each hidden column
abbrev pub MayFill : Catalog → (fill : (table column identifier : ℕ) → Value) → Type 0
MayFill cat fill =
    (table column identifier : ℕ) → is_hidden cat.schema table column ≡ true → 1 ≤ identifier → identifier ≤ count_of cat table
    → MayStand cat table column (fill table column identifier)

-- the value of a row in a hidden column: the one that its slot spells, or else the one that stands for it
abbrev pub value_filled : (ℕ → List ℕ) → Catalog → (fill : (table column identifier : ℕ) → Value) → (table column identifier : ℕ) → Value
value_filled page cat fill table column identifier = unwrap_or (value_on page cat table column identifier) (fill table column identifier)

-- A database has a public part, and these values in its hidden columns.
pub record IsFilled (page : ℕ → List ℕ) (cat : Catalog) (public : Public) (fill : (table column identifier : ℕ) → Value) (database : Database) : Type 0 where
  pub is : IsDatabase cat.schema database
  pub counts : row_counts database ≡ cat.counts
  pub shown : public_of cat.schema database ≡ public
  pub values :
      (table column identifier : ℕ) → is_hidden cat.schema table column ≡ true → 1 ≤ identifier → identifier ≤ count_of cat table
      → value_at_row database table identifier column ≡ Some (value_filled page cat fill table column identifier)

pub record IsThere (page : ℕ → List ℕ) (cat : Catalog) (public : Public) (fill : (table column identifier : ℕ) → Value) : Type 0 where
  pub database : Database
  pub is : IsFilled page cat public fill database

pub record CanBeFilled (cat : Catalog) : Type 0 where
  pub fill : (table column identifier : ℕ) → Value
  pub may : MayFill cat fill

-- the row of an identifier in a column of a table
abbrev pub is_slot : (table column identifier other_table other_column other : ℕ) → Bool
is_slot table column identifier other_table other_column other = (nat_eq other_table table && nat_eq other_column column) && nat_eq other identifier

-- Two databases with one public part, of both of which the pages hold the columns but for damaged slots, have these values in a slot, and
-- are alike elsewhere.
pub record HaveBoth (page : ℕ → List ℕ) (cat : Catalog) (public : Public) (table column identifier : ℕ) (value other_value : Value) : Type 0 where
  pub one : Database
  pub other : Database
  pub known : KnowsBut true page cat one
  pub other_known : KnowsBut true page cat other
  pub shown : public_of cat.schema one ≡ public
  pub other_shown : public_of cat.schema other ≡ public
  pub has : value_at_row one table identifier column ≡ Some value
  pub other_has : value_at_row other table identifier column ≡ Some other_value
  pub alike :
      (at_table at_column at : ℕ) → is_hidden cat.schema at_table at_column ≡ true → 1 ≤ at → at ≤ count_of cat at_table
      → is_slot table column identifier at_table at_column at ≡ false
      → value_at_row one at_table at at_column ≡ value_at_row other at_table at at_column

-- Over any pages, and for any number of rows that some database has, whatever may stand for the slots that spell no value:
pub record SlotsCanBeFilled : Type 0 where
  -- a database has it, with any public part
  pub there :
      (page : ℕ → List ℕ) (cat : Catalog) (public : Public) (fill : (table column identifier : ℕ) → Value) → HaveBytes page → IsLimited cat
      → CanHaveRows cat → IsPublic cat public → MayFill cat fill → IsThere page cat public fill
  -- and the pages hold its columns but for these slots
  pub known :
      (page : ℕ → List ℕ) (cat : Catalog) (public : Public) (fill : (table column identifier : ℕ) → Value) (database : Database) → IsTree cat.schema
      → IsFilled page cat public fill database → KnowsBut true page cat database
  -- there is something that may stand for them
  pub fills : (cat : Catalog) → IsTree cat.schema → CanHaveRows cat → CanBeFilled cat
  -- and so may, in each of them, any two values of its kind and range, where it has two: a foreign key to a table of one row has one
  pub both :
      (page : ℕ → List ℕ) (cat : Catalog) (public : Public) → HaveBytes page → IsLimited cat → CanHaveRows cat → IsPublic cat public
      → (table column identifier : ℕ) → is_hidden cat.schema table column ≡ true → 1 ≤ identifier → identifier ≤ count_of cat table
      → value_on page cat table column identifier ≡ None
      → (value other : Value) → MayStand cat table column value → MayStand cat table column other
      → HaveBoth page cat public table column identifier value other

-- Of other numbers of rows there is no database; and where a foreign key names a table without rows, no slot of it spells a value.
pub record NoOthersHaveRows : Type 0 where
  pub only : (cat : Catalog) (database : Database) → IsDatabase cat.schema database → row_counts database ≡ cat.counts → CanHaveRows cat
  pub none :
      (page : ℕ → List ℕ) (cat : Catalog) (table column child : ℕ) → child_at cat.schema table column ≡ Some child → count_of cat child ≡ 0
      → (identifier : ℕ) → value_on page cat table column identifier ≡ None

-- So no such slot has a part in what a scan answers, over pages that are told: the lines of an answered text are those of its answer
-- over each such database, whatever stands there, from replies that stand in the half; and these answers, of any two of them, have the
-- same lines.
pub record AnswersAreOfEach : Type 0 where
  pub each :
      (cat : Catalog) (side number : ℕ) (text : List ℕ) (state : ReplyState) (is_marked : Bool) (half : Half) (start device : Device) (before now : Handed)
      → IsTree cat.schema → (one : ToldText) → (has : HasTold plan.Scan true cat side number text state is_marked half start device before now told.Answered one)
      → (replies : List Reply) → AreRepliesOf start.page cat text half replies
      → (public : Public) (fill : (table column identifier : ℕ) → Value) (database : Database) → IsFilled start.page cat public fill database
      → (asked : Query) → reading cat.schema text ≡ Ok asked
      → has.lines ≡ answer_lines number (answer_from cat.schema (hidden_of cat.schema database) asked replies)
  pub same :
      (cat : Catalog) (side number : ℕ) (text : List ℕ) (state : ReplyState) (is_marked : Bool) (half : Half) (start device : Device) (before now : Handed)
      → IsTree cat.schema → (one : ToldText) → HasTold plan.Scan true cat side number text state is_marked half start device before now told.Answered one
      → (replies : List Reply) → AreRepliesOf start.page cat text half replies
      → (public : Public) (fill other_fill : (table column identifier : ℕ) → Value) (database other : Database)
      → IsFilled start.page cat public fill database → IsFilled start.page cat public other_fill other
      → (asked : Query) → reading cat.schema text ≡ Ok asked
      → answer_lines number (answer_from cat.schema (hidden_of cat.schema database) asked replies)
      ≡ answer_lines number (answer_from cat.schema (hidden_of cat.schema other) asked replies)
