-- Laws of plans and of the work on rows.
use Rattle.std.specs.Prelude.{◌≡◌, ℕ, ◌≤◌, ◌&&◌, ◌||◌, Bool, true, false, not, nat_eq, Some, List, [], ◌∷◌, filter, if◌then◌else◌, None}
use Rattle.std.specs.List.{list_all, list_any}
use Rattle.ghost_model.specs.core.Schema.{Schema, is_visible}
use Rattle.ghost_model.specs.core.Values.{Database}
use Rattle.ghost_model.specs.core.Channel.{Catalog}
use Rattle.ghost_model.specs.core.Query.{Query, Field, Condition, OneOf, Join, is_among}
use Rattle.ghost_model.specs.core.Groups.{some_of}
use Rattle.ghost_model.specs.core.Asks.{ask_for}
use Rattle.ghost_model.specs.core.Replies.{Reply, reply_about}
use Rattle.ghost_laws.specs.Scans.{known_along, holds_along, holds_or_asked_along, stands_along}
use Rattle.ghost_laws.specs.Selected.{AreWholeReplies}
use Rattle.candidate_rows.specs.declared.plan.RowPlan.{RowPlan}
use Rattle.candidate_rows.specs.declared.plan.SubtreeFile.{SubtreeFile}
use Rattle.edge_traits.specs.Devices.{Device}
use Rattle.visible_spool.specs.declared.half.Half.{Half}
use Rattle.visible_spool.specs.Sparing.{AreInHalf, SparesHalf}
use Rattle.candidate_rows.specs.declared.work.RowWork.{RowWork}
use Rattle.ghost_laws.specs.Asking.{is_asked, is_gathered, is_left, without_left}
use Rattle.candidate_rows.specs.Plans.{IsPlan, IsPlanOfCandidates, is_left_by}
use Rattle.candidate_rows.specs.Rows.{AreAllAsked}
use Rattle.flash_layout.specs.Ranges.{IsRowOf}
use Rattle.candidate_rows.specs.Working.{Knows, StandsFor, IsWorking, IsSifted, passes, told, steps_left, most_left}
use Rattle.candidate_rows.specs.Steps.{row_known}

-- The tests of a plan and the groups that it leaves are exactly those of the answer: a row is in it where it meets them all, with the
-- selected values. Where the plan has no tests of the conditions that the indexes have the rows of, the row is one that meets these.
abbrev pub TestsAreThoseOfAnswers : Type 0
TestsAreThoseOfAnswers =
    (page : ℕ → List ℕ) (cat : Catalog) (asked : Query) (database : Database) (half : Half) (given : List Reply) (identifier : ℕ) (plan : RowPlan)
    → Knows page cat asked database half given → IsPlan cat asked plan → IsRowOf cat plan.top identifier
    → IsSifted cat asked database given identifier plan
    → row_known cat asked database given identifier plan
    ≡ (if list_all (passes cat.schema database given plan.top identifier) plan.tests.items
    && list_all (holds_along (known_along cat.schema database given plan.top identifier)) (filter (is_left_by cat.schema plan.sifted) asked.conditions)
    then told (known_along cat.schema database given plan.top identifier) asked.select ∷ [] else [])

-- a row of the top table along which a condition that the indexes have the rows of does not hold, or that does not stand along some
-- table of FROM, is not in the answer, whether or not it meets the groups that are left
abbrev pub RowsSiftedOutAreNoAnswers : Type 0
RowsSiftedOutAreNoAnswers =
    (cat : Catalog) (asked : Query) (database : Database) (given : List Reply) (identifier : ℕ) (plan : RowPlan)
    → list_all (holds_or_asked_along cat.schema (known_along cat.schema database given plan.top identifier)) (filter (is_gathered cat.schema) asked.conditions) ≡ false
    → row_known cat (without_left cat.schema asked) database given identifier plan ≡ []

abbrev pub RowsThatStandNotAreNoAnswers : Type 0
RowsThatStandNotAreNoAnswers =
    (cat : Catalog) (asked : Query) (database : Database) (given : List Reply) (identifier table : ℕ) (plan : RowPlan)
    → is_among asked.from table ≡ true → stands_along cat.schema database given plan.top identifier table ≡ false
    → row_known cat asked database given identifier plan ≡ []

-- no row is in the answer that is not in it without the groups that are left
abbrev pub LeftGroupsAddNoRows : Type 0
LeftGroupsAddNoRows =
    (cat : Catalog) (asked : Query) (database : Database) (given : List Reply) (identifier : ℕ) (plan : RowPlan)
    → row_known cat (without_left cat.schema asked) database given identifier plan ≡ []
    → row_known cat asked database given identifier plan ≡ []

-- one reply to each ask of a query is about asked tables alone
abbrev pub WholeRepliesAreOfAsked : Type 0
WholeRepliesAreOfAsked =
    (schema : Schema) (asked : Query) (given : List Reply) → AreWholeReplies schema asked given
    → (table : ℕ) → is_asked schema asked table ≡ false → reply_about table given ≡ None

-- there is one for each asked table of FROM
abbrev pub WholeRepliesAreAll : Type 0
WholeRepliesAreAll = (schema : Schema) (asked : Query) (given : List Reply) → AreWholeReplies schema asked given → AreAllAsked schema asked given

-- and each is one to the ask for its table
abbrev pub WholeRepliesAreToAsks : Type 0
WholeRepliesAreToAsks =
    (schema : Schema) (asked : Query) (given : List Reply) → AreWholeReplies schema asked given
    → (table : ℕ) (reply : Reply) → reply_about table given ≡ Some reply → reply.ask ≡ ask_for schema asked table

-- whether a query selects a column of another table than the top one, or has a visible one in a group or any in a group that is left
abbrev pub is_of_other : (top : ℕ) → Field → Bool
is_of_other top field = not (nat_eq field.table top)

abbrev pub compares_other : Schema → (top : ℕ) → Condition → Bool
compares_other schema top (OneOf first others) =
    some_of (λ one. is_of_other top one.field && (is_visible schema one.field.table one.field.column || is_left schema (OneOf first others))) first others
compares_other schema top (Join one other) = false

abbrev pub wants_below : Schema → Query → (top : ℕ) → Bool
wants_below schema asked top = list_any (is_of_other top) asked.select || list_any (compares_other schema top) asked.conditions

-- a plan of candidates has the subtree key table of the top table only where it does
abbrev pub RecordsAreWanted : Type 0
RecordsAreWanted =
    (cat : Catalog) (asked : Query) (plan : RowPlan) (file : SubtreeFile)
    → IsPlanOfCandidates cat asked plan → plan.keys ≡ Some file → wants_below cat.schema asked plan.top ≡ true

-- the work on a row goes on for so many steps at most
abbrev pub FewStepsAreLeft : Type 0
FewStepsAreLeft =
    (cat : Catalog) (asked : Query) (device : Device) (half : Half) (plan : RowPlan) (work : RowWork)
    → IsWorking cat asked device half plan work → steps_left plan work ≤ most_left

-- the work on a row goes on as before where others spared the static pages and the half of its replies, and stands for the same
abbrev pub WorkStaysReady : Type 0
WorkStaysReady =
    (cat : Catalog) (asked : Query) (side : ℕ) (before now : Device) (half : Half) (plan : RowPlan) (work : RowWork)
    → SparesHalf cat side before now → IsWorking cat asked before half plan work → IsWorking cat asked now half plan work

abbrev pub WorkStillStands : Type 0
WorkStillStands =
    (cat : Catalog) (asked : Query) (side : ℕ) (before now : Device) (half : Half) (given : List Reply) (database : Database) (identifier : ℕ) (plan : RowPlan) (work : RowWork)
    → SparesHalf cat side before now → AreInHalf cat side half → IsWorking cat asked before half plan work
    → StandsFor before.page cat asked database half given identifier plan work → StandsFor now.page cat asked database half given identifier plan work
