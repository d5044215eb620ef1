-- The members of conditions in their order, and the groups that members in their order are.
use Rattle.std.proofs.Common.{◌≡◌, Bool, true, false, not, ◌&&◌, List, [], ◌∷◌, ◌++◌, map, filter, refl, ap, ◌∙◌}
use Rattle.std.specs.Prelude.{if◌then◌else◌}
use Rattle.std.specs.List.{list_all}
use Rattle.ghost_model.specs.core.Groups.{ends}
use Rattle.ghost_model.specs.core.Query as query
use Rattle.ghost_model.specs.core.Query.{Condition, OneOf, Join, GroupMember, members_of_group, members_of, members_in}
use Rattle.ghost_model.specs.core.Schema.{Schema}
use Rattle.ghost_model.specs.refusals.QueryGrammar.{QueryText}
use Rattle.ghost_model.specs.refusals.QueryMeaning.{is_of_one_table, resolved}
use Rattle.ghost_model.proofs.GroupLemmas.{ends_flat}
use Rattle.spj_parse.specs.Resolved.{is_group}
use Rattle.spj_parse.specs.declared.query.Member.{Member}
use Rattle.spj_parse.specs.Views.{into_first, grouped, member_of}

abbrev more_of : GroupMember → Bool
more_of one = one.more

-- members in their order are groups

-- a member before conditions, of their first group or alone
abbrev begun : Bool → query.Member → List Condition → List Condition
begun b first conditions = if b then into_first first conditions else OneOf first [] ∷ conditions

into_groups :
    (first : query.Member) (conditions : List Condition) → list_all is_group conditions ≡ true
    → list_all is_group (into_first first conditions) ≡ true
into_groups first [] h = refl
into_groups first (OneOf next others ∷ conditions) h = h
into_groups first (Join left right ∷ conditions) h = absurd (let no : false ≡ true = h in cc)

begun_groups : (b : Bool) (first : query.Member) (conditions : List Condition) → list_all is_group conditions ≡ true
    → list_all is_group (begun b first conditions) ≡ true
begun_groups true first conditions h = into_groups first conditions h
begun_groups false first conditions h = h

pub all_groups : (members : List GroupMember) → list_all is_group (grouped members) ≡ true
unfolding grouped
all_groups [] = refl
all_groups (one ∷ members) = begun_groups one.more one.member (grouped members) (all_groups members)

-- the members of conditions are their groups again

group_again :
    (first : query.Member) (others : List query.Member) (members : List GroupMember)
    → grouped (members_of_group first others ++ members) ≡ OneOf first others ∷ grouped members
unfolding grouped
group_again first [] members = refl
group_again first (next ∷ others) members = ap (into_first first) (group_again next others members)

pub groups_again : (conditions : List Condition) → grouped (members_in conditions) ≡ filter is_group conditions
unfolding grouped
groups_again [] = refl
groups_again (OneOf first others ∷ conditions) =
    group_again first others (members_in conditions)
    ∙ ap (λ (rest : List Condition). OneOf first others ∷ rest) (groups_again conditions)
groups_again (Join left right ∷ conditions) = groups_again conditions

-- they say where each group ends

group_ends : (first : query.Member) (others : List query.Member) → ends more_of (members_of_group first others) ≡ true
group_ends first [] = refl
group_ends first (next ∷ []) = refl
group_ends first (next ∷ other ∷ others) = group_ends next (other ∷ others)

condition_ends : (condition : Condition) → ends more_of (members_of condition) ≡ true
condition_ends (OneOf first others) = group_ends first others
condition_ends (Join left right) = refl

pub members_end : (conditions : List Condition) → ends more_of (members_in conditions) ≡ true
members_end conditions = ends_flat more_of members_of conditions condition_ends

-- and where the last group ends, the members of groups are those that they were made of

abbrev with_more : query.Member → Bool → GroupMember
with_more member more = record { member = member; more = more }

first_in :
    (b : Bool) (first next : query.Member) (conditions : List Condition)
    → members_in (into_first first (begun b next conditions)) ≡ with_more first true ∷ members_in (begun b next conditions)
first_in true first next [] = refl
first_in true first next (OneOf other others ∷ conditions) = refl
first_in true first next (Join left right ∷ conditions) = refl
first_in false first next conditions = refl

last_again : (b : Bool) (member : query.Member) → not b ≡ true → members_in (begun b member []) ≡ with_more member b ∷ []
last_again true member h = absurd (let no : false ≡ true = h in cc)
last_again false member h = refl

next_again :
    (b : Bool) (member : query.Member) (groups : List Condition) (members : List GroupMember)
    → members_in (into_first member groups) ≡ with_more member true ∷ members_in groups → members_in groups ≡ members
    → members_in (begun b member groups) ≡ with_more member b ∷ members
next_again true member groups members f h = f ∙ ap (λ (rest : List GroupMember). with_more member true ∷ rest) h
next_again false member groups members f h = ap (λ (rest : List GroupMember). with_more member false ∷ rest) h

pub members_again : (members : List GroupMember) → ends more_of members ≡ true → members_in (grouped members) ≡ members
unfolding grouped
members_again [] h = refl
members_again (one ∷ []) h = last_again one.more one.member h
members_again (one ∷ next ∷ members) h =
    next_again one.more one.member (grouped (next ∷ members)) (next ∷ members)
    (first_in next.more one.member next.member (grouped members))
    (members_again (next ∷ members) h)

-- groups of several tables, over the members that a text has

groups_alone : (conditions : List Condition) → list_all is_of_one_table (filter is_group conditions) ≡ list_all is_of_one_table conditions
groups_alone [] = refl
groups_alone (OneOf first others ∷ conditions) = ap (λ b. is_of_one_table (OneOf first others) && b) (groups_alone conditions)
groups_alone (Join left right ∷ conditions) = groups_alone conditions

pub mixed_in :
    (schema : Schema) (tree : QueryText) (members seen : List Member) (b : Bool) → map member_of members ≡ members_in (resolved schema tree).conditions → seen ≡ members
    → b ≡ not (list_all is_of_one_table (grouped (map member_of seen))) → b ≡ not (list_all is_of_one_table (resolved schema tree).conditions)
mixed_in schema tree members seen b e s h =
    h
    ∙ ap (λ all. not (list_all is_of_one_table (grouped all))) (ap (map member_of) s ∙ e)
    ∙ ap (λ groups. not (list_all is_of_one_table groups)) (groups_again (resolved schema tree).conditions)
    ∙ ap not (groups_alone (resolved schema tree).conditions)
