-- Laws of costs: what the lists of a term are is within the term's cost, and the terms of an accepted query cost at most its work.
use Rattle.std.specs.Prelude.{◌≡◌, ℕ, ◌+◌, ◌-◌, ◌*◌, ◌/◌, ◌<◌, ◌≤◌, true, false, List, [], ◌++◌, length, get_or, map, Contains, Option, Some, Ok}
use Rattle.std.specs.List.{concat}
use Rattle.ghost_model.specs.core.Schema.{Schema, is_empty}
use Rattle.ghost_model.specs.core.Values.{Value, Database}
use Rattle.ghost_model.specs.core.Channel.{Catalog, Ask}
use Rattle.ghost_model.specs.core.Query.{Condition, Query, Operator, top_of}
use Rattle.ghost_model.specs.core.Asks.{asks_of}
use Rattle.ghost_model.specs.core.Meaning.{answer}
use Rattle.ghost_model.specs.core.Split.{public_of, hidden_of}
use Rattle.ghost_model.specs.core.Replies as replies
use Rattle.ghost_model.specs.core.Replies.{reply_about}
use Rattle.ghost_model.specs.forms.Flash.{AreValues, hidden_cells}
use Rattle.ghost_model.specs.forms.Layout.{count_of}
use Rattle.ghost_model.specs.forms.Left.{without_left}
use Rattle.ghost_model.specs.laws.SchemaTrees.{IsTree}
use Rattle.ghost_model.specs.laws.SessionLaws.{whole_reply}
use Rattle.ghost_model.specs.readings.QueryReading.{reading}
use Rattle.ghost_model.specs.refusals.QueryMeaning.{field}
use Rattle.climbing_index.specs.declared.index.ClimbingIndex.{ClimbingIndex}
use Rattle.climbing_index.specs.declared.index.IdIndex.{IdIndex}
use Rattle.climbing_index.specs.declared.search.Group.{Group}
use Rattle.climbing_index.specs.Holding.{values_at, ids_at}
use Rattle.spj_parse.specs.Resolved.{IsMeant, linked}
use Rattle.leakless_plan.specs.declared.form.Form.{Form}
use Rattle.condition_lists.specs.declared.bounds.Bounds.{Bounds}
use Rattle.condition_lists.specs.declared.term.Term.{Term}
use Rattle.condition_lists.specs.declared.term.GroupTerm.{GroupTerm}
use Rattle.condition_lists.specs.declared.term.Term.TheVariants.{Entries, Identifiers, Reply}
use Rattle.condition_lists.specs.Bounds.{AreOfKind}
use Rattle.condition_lists.specs.Terms.{AreIdsOf, AreTermsBy, IsIndexAt, IsIdIndexAt, IsBehind, IsTermOf, IsReplyTermOf, is_listed}
use Rattle.condition_lists.specs.Laws.{IsOver, IsMet, AreGroupsOf, AreReplied, lists_in, replied_ids}
use Rattle.condition_lists.specs.Costs.{rows_meeting, values_within, replied_count, term_cost, terms_cost}
use Rattle.ghost_model.specs.forms.QueryWork.{bits, union_work, values_of, count_values, condition_work, reply_work, row_work, work}
use Rattle.ghost_model.specs.laws.ShortWords.{search_work}

-- more lists, or more identifiers in them, are no less work
pub record WorkGrows : Type 0 where
  pub bits_grow : (number other : ℕ) → number ≤ other → bits number ≤ bits other
  pub search : (values others : ℕ) → values ≤ others → search_work values ≤ search_work others
  pub union :
      (lists others identifiers more : ℕ) → lists ≤ others → identifiers ≤ more
      → union_work lists identifiers ≤ union_work others more

-- Beside a reduction of the lists to one, the work of a union is enough to read that one and to write and read again twice what is
-- left of it.
abbrev pub UnionsPay : Type 0
UnionsPay =
    (lists identifiers : ℕ)
    → (bits lists + 2) * (8 * lists + identifiers / 64 + 8) + (7 * (identifiers / 512) + 10) ≤ union_work lists identifiers

-- so many lists at most, with so many identifiers in all
pub record AreWithin (lists : List (List ℕ)) (most rows : ℕ) : Type 0 where
  pub few : length lists ≤ most
  pub short : length (concat lists) ≤ rows

abbrev pub AreAscending : (ids : List ℕ) → Type 0
AreAscending ids = (i j : ℕ) → i < j → j < length ids → get_or ids i 0 < get_or ids j 0

-- The lists of a term are as many as its cost counts, and have as many identifiers.
pub record ListsAreWithinCosts : Type 0 where
  pub values :
      (cat : Catalog) (database : Database) → IsOver cat database
      → (top table column : ℕ) (index : ClimbingIndex) (level : ℕ) → IsIndexAt cat top table column index level
      → (values : List (List ℕ)) → AreValues (hidden_cells cat.schema (hidden_of cat.schema database) table column) values
      → length values ≤ count_values (values_of database (field table column))
  pub entries :
      (cat : Catalog) (database : Database) → IsOver cat database
      → (given : List replies.Reply) (top table column : ℕ) (index : ClimbingIndex) (level : ℕ) (bounds : Bounds)
      → IsIndexAt cat top table column index level → AreOfKind index.directory.kind bounds
      → (values : List (List ℕ)) → AreValues (hidden_cells cat.schema (hidden_of cat.schema database) table column) values
      → (first second : Group) → AreGroupsOf index.directory.kind bounds values first second → IsBehind first second
      → AreWithin
      (lists_in (values_at cat (hidden_of cat.schema database) table column values level) first
      ++ lists_in (values_at cat (hidden_of cat.schema database) table column values level) second)
      (values_within database (field table column) bounds)
      (rows_meeting cat database given top (Entries table column index level bounds))
  pub identifiers :
      (cat : Catalog) (database : Database) → IsOver cat database
      → (given : List replies.Reply) (top table : ℕ) (index : IdIndex) (level : ℕ) → IsIdIndexAt cat top table index level
      → (operator : Operator) (literal : Value) (first second : Group) → AreIdsOf (count_of cat table) operator literal first second
      → AreWithin
      (lists_in (ids_at cat (hidden_of cat.schema database) table (level - 1)) first
      ++ lists_in (ids_at cat (hidden_of cat.schema database) table (level - 1)) second)
      (first.count + second.count) (rows_meeting cat database given top (Identifiers table index level first second))
  pub top_reply :
      (cat : Catalog) (given : List replies.Reply) (top : ℕ) (reply : replies.Reply) → AreReplied cat given top reply
      → length (replied_ids reply) ≡ replied_count given top
  pub reply :
      (cat : Catalog) (database : Database) → IsOver cat database
      → (given : List replies.Reply) (top table : ℕ) (index : IdIndex) (level : ℕ) → IsIdIndexAt cat top table index level
      → (reply : replies.Reply) → AreReplied cat given table reply → AreAscending (replied_ids reply)
      → AreWithin (map (λ other. get_or (ids_at cat (hidden_of cat.schema database) table (level - 1)) (other - 1) []) (replied_ids reply))
      (replied_count given table) (rows_meeting cat database given top (Reply table index level))

-- Rows that meet a term, each once, are at most as many as its cost counts.
abbrev pub RowsAreCounted : Type 0
RowsAreCounted =
    (cat : Catalog) (database : Database) (given : List replies.Reply) (top : ℕ) (term : Term)
    → (identifiers : List ℕ) → AreAscending identifiers
    → ((place : ℕ) → place < length identifiers → IsMet cat database given top term (get_or identifiers place 0))
    → length identifiers ≤ rows_meeting cat database given top term

-- A query takes the same work with each of its joins once.
abbrev pub WorkCountsJoinsOnce : Type 0
WorkCountsJoinsOnce =
    (schema : Schema) → IsTree schema → (database : Database) (text : List ℕ) (asked : Query) → reading schema text ≡ Ok asked
    → work schema database (linked schema asked) ≡ work schema database asked

-- the replies of an honest host: of each ask the rows that meet its conditions
abbrev pub AreHonest : Catalog → Database → Query → (given : List replies.Reply) → Type 0
AreHonest cat database asked given =
    (ask : Ask) → Contains (asks_of cat.schema asked) ask
    → reply_about ask.table given ≡ Some (whole_reply cat.schema (public_of cat.schema database) ask)

-- A term costs at most the work of the condition that is a term, or of the ask whose reply it is of. So the terms of an accepted
-- query, with what its rows take, cost at most its work.
pub record TermsCostTheirWork : Type 0 where
  pub condition :
      (cat : Catalog) (database : Database) → IsOver cat database
      → (given : List replies.Reply) (top : ℕ) (condition : Condition) → is_listed cat.schema top condition ≡ true → (term : Term) → IsTermOf cat top condition term
      → term_cost cat database given top term ≤ condition_work cat.schema database top condition
  pub reply :
      (cat : Catalog) (database : Database) → IsOver cat database
      → (given : List replies.Reply) (top : ℕ) (ask : Ask) (term : Term) → IsReplyTermOf cat top ask.table term
      → reply_about ask.table given ≡ Some (whole_reply cat.schema (public_of cat.schema database) ask)
      → is_empty ask.tests ≡ false → term_cost cat database given top term ≤ reply_work cat.schema database top ask
  pub query :
      (cat : Catalog) (database : Database) → IsOver cat database
      → (text : List ℕ) (asked : Query) → IsMeant cat.schema text asked
      → (top : ℕ) → top_of cat.schema asked ≡ Some top
      → (forms : List (Option Form)) (terms : List GroupTerm) → AreTermsBy cat asked forms (Some top) terms
      → (given : List replies.Reply) → AreHonest cat database asked given
      → 64 + (terms_cost cat database given top terms + length (answer cat.schema database (without_left cat.schema asked)) * row_work cat.schema database asked)
      ≤ work cat.schema database asked
