-- What the queries and refusals of the code stand for, in the words of the definitions.
use Rattle.std.specs.Prelude.{ℕ, suc, ◌==◌, Bool, true, false, List, [], ◌∷◌, ◌++◌, map, if◌then◌else◌}
use Rattle.ghost_model.specs.core.Query as query
use Rattle.ghost_model.specs.refusals.QueryMeaning as refusal
use Rattle.ghost_base.specs.Views.{test_of}
use Rattle.spj_parse.specs.declared.query.Member.{Member}
use Rattle.spj_parse.specs.declared.query.Field.{Field}
use Rattle.spj_parse.specs.declared.query.Join.{Join}
use Rattle.spj_parse.specs.declared.refusal.Refusal.{Refusal}
use Rattle.spj_parse.specs.declared.refusal.Refusal.TheVariants as told

abbrev pub field_of : Field → query.Field
field_of field = record { table = field.table; column = field.column }

abbrev pub member_of : Member → query.GroupMember
member_of member = record { member = query.tested (field_of member.field) (test_of member.test); more = member.more }

abbrev pub says_more : Member → Bool
says_more member = member.more

-- a member before the others of the first group
abbrev pub into_first : query.Member → List query.Condition → List query.Condition
into_first member [] = query.OneOf member [] ∷ []
into_first member (query.OneOf first others ∷ conditions) = query.OneOf member (first ∷ others) ∷ conditions
into_first member (query.Join one other ∷ conditions) = query.OneOf member [] ∷ query.Join one other ∷ conditions

-- the conditions that members are in their order
unfoldable pub grouped : List query.GroupMember → List query.Condition
grouped [] = []
grouped (one ∷ members) =
    if one.more then into_first one.member (grouped members) else query.OneOf one.member [] ∷ grouped members

-- whether the column of a member is of a table
abbrev pub is_of_table : (table : ℕ) → Member → Bool
is_of_table table member = member.field.table == table

-- how many members are of a group whose first member stands before them and says this
abbrev pub others_after : (more : Bool) → List Member → ℕ
others_after false members = 0
others_after true [] = 0
others_after true (member ∷ members) = suc (others_after member.more members)

abbrev pub join_of : Join → query.Condition
join_of join = query.Join (field_of join.key) (field_of join.identifier)

abbrev pub query_of : List ℕ → List Field → List Join → List Member → query.Query
query_of tables fields joins members =
    record { from = tables; select = map field_of fields; conditions = map join_of joins ++ grouped (map member_of members) }

abbrev pub refusal_of : Refusal → refusal.Refusal
refusal_of (told.Syntax at) = refusal.Syntax at
refusal_of told.Limit = refusal.Limit
refusal_of told.UnknownTable = refusal.UnknownTable
refusal_of told.UnknownColumn = refusal.UnknownColumn
refusal_of told.Ambiguous = refusal.Ambiguous
refusal_of told.KindMismatch = refusal.KindMismatch
refusal_of told.BadLiteral = refusal.BadLiteral
refusal_of told.NotLinked = refusal.NotLinked
refusal_of told.MixedTables = refusal.MixedTables
