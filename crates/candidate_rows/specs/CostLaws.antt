-- Laws of what rows cost where the replies are those of an honest host: all rows that meet an ask.
use Rattle.std.specs.Prelude.{◌≡◌, ℕ, ◌+◌, ◌≤◌, Bool, true, false, List, length, filter, Contains, Some}
use Rattle.std.specs.List.{list_all, list_any}
use Rattle.ghost_model.specs.core.Schema.{Schema}
use Rattle.ghost_model.specs.core.Values.{Database}
use Rattle.ghost_model.specs.core.Channel.{Catalog, Ask}
use Rattle.ghost_model.specs.core.Query.{Query, Condition, OneOf, Join, top_of}
use Rattle.ghost_model.specs.core.Groups.{each_of}
use Rattle.ghost_model.specs.core.Meaning.{answer}
use Rattle.ghost_model.specs.core.Asks.{asks_of}
use Rattle.ghost_model.specs.core.Replies.{Reply, reply_about}
use Rattle.ghost_model.specs.core.Split.{public_of}
use Rattle.ghost_model.specs.forms.QueryWork.{row_work}
use Rattle.ghost_model.specs.laws.SchemaTrees.{IsTree}
use Rattle.ghost_model.specs.laws.SessionLaws.{whole_reply}
use Rattle.ghost_laws.specs.Scans.{known_along, holds_or_asked_along, stands_along, known_answer}
use Rattle.spj_parse.specs.Resolved.{IsMeant}
use Rattle.visible_spool.specs.declared.half.Half.{Half}
use Rattle.candidate_rows.specs.declared.plan.RowPlan.{RowPlan}
use Rattle.ghost_laws.specs.Asking.{is_shown_of, is_gathered, without_left}
use Rattle.candidate_rows.specs.Plans.{IsPlan, IsPlanOfCandidates}
use Rattle.candidate_rows.specs.Rows.{HoldsReplies}
use Rattle.flash_layout.specs.Ranges.{IsRowOf}
use Rattle.candidate_rows.specs.Working.{Knows}
use Rattle.candidate_rows.specs.Steps.{row_known}
use Rattle.candidate_rows.specs.Costs.{row_calls}

-- the reply to each ask has all rows that meet the ask
abbrev pub AreAllRows : Schema → Database → Query → (given : List Reply) → Type 0
AreAllRows schema database asked given =
    (ask : Ask) → Contains (asks_of schema asked) ask
    → reply_about ask.table given ≡ Some (whole_reply schema (public_of schema database) ask)

-- by a plan of candidates a row costs less than the work of a row, which has one call more for how it was found
abbrev pub RowsCostTheirWork : Type 0
RowsCostTheirWork =
    (page : ℕ → List ℕ) (cat : Catalog) (asked : Query) (database : Database) (half : Half) (given : List Reply) (plan : RowPlan)
    → IsTree cat.schema → (text : List ℕ) → IsMeant cat.schema text asked
    → IsPlanOfCandidates cat asked plan → HoldsReplies page cat.schema asked half given → AreAllRows cat.schema database asked given
    → row_calls half plan + 1 ≤ row_work cat.schema database asked

-- whether a condition is a visible group of a table, so that the table's reply may lack some of its rows
abbrev pub is_visible_group : Schema → (table : ℕ) → Condition → Bool
is_visible_group schema table (OneOf first others) = each_of (λ one. is_shown_of schema table one.field) first others
is_visible_group schema table (Join one other) = false

-- A row of the top table is one of the answer to the query without its groups that are left, where the conditions that the indexes
-- have the rows of hold along it, and the row that it leads to in each table with a visible group stands in that table's reply.
abbrev pub RowsThatMeetAllAreAnswers : Type 0
RowsThatMeetAllAreAnswers =
    (page : ℕ → List ℕ) (cat : Catalog) (asked : Query) (database : Database) (half : Half) (given : List Reply) (identifier : ℕ) (plan : RowPlan)
    → Knows page cat asked database half given → IsPlan cat asked plan → IsRowOf cat plan.top identifier
    → AreAllRows cat.schema database asked given
    → list_all (holds_or_asked_along cat.schema (known_along cat.schema database given plan.top identifier)) (filter (is_gathered cat.schema) asked.conditions) ≡ true
    → list_all (stands_along cat.schema database given plan.top identifier) (filter (λ table. list_any (is_visible_group cat.schema table) asked.conditions) asked.from) ≡ true
    → length (row_known cat (without_left cat.schema asked) database given identifier plan) ≡ 1

-- what the key answers by such replies to the query without its groups that are left is that query's answer
abbrev pub HonestAnswersAreWhole : Type 0
HonestAnswersAreWhole =
    (page : ℕ → List ℕ) (cat : Catalog) (asked : Query) (database : Database) (half : Half) (given : List Reply) (top : ℕ)
    → Knows page cat asked database half given → top_of cat.schema asked ≡ Some top
    → AreAllRows cat.schema database asked given
    → known_answer cat.schema database (without_left cat.schema asked) given top ≡ answer cat.schema database (without_left cat.schema asked)
