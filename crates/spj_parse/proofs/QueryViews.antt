-- The joins and the members among the conditions of a query.
use Rattle.std.proofs.Common.{◌≡◌, true, false, List, [], ◌∷◌, ◌++◌, map, filter, refl, ap, ap₂, sym, ◌∙◌, append-nil}
use Rattle.std.specs.List.{list_all}
use Rattle.std.proofs.lemmas.List.Elements.{filter-append}
use Rattle.std.proofs.lemmas.Grind.{flat_map-append}
use Rattle.ghost_model.specs.core.Groups.{ends}
use Rattle.ghost_model.specs.core.Query.{Condition, OneOf, GroupMember, members_of, members_in}
use Rattle.ghost_model.specs.core.Query as query
use Rattle.spj_parse.specs.declared.query.Member.{Member}
use Rattle.spj_parse.specs.declared.query.Join.{Join}
use Rattle.spj_parse.specs.Resolved.{is_group, is_join}
use Rattle.spj_parse.specs.Views.{grouped, join_of, member_of, says_more}
use Rattle.spj_parse.proofs.GroupedLemmas.{all_groups, members_again}

kept_joins : (joins : List Join) → filter is_join (map join_of joins) ≡ map join_of joins
kept_joins [] = refl
kept_joins (join ∷ joins) = ap (λ rest. join_of join ∷ rest) (kept_joins joins)

no_joins : (groups : List Condition) → list_all is_group groups ≡ true → filter is_join groups ≡ []
no_joins [] h = refl
no_joins (OneOf first others ∷ groups) h = no_joins groups h
no_joins (query.Join left right ∷ groups) h = absurd (let no : false ≡ true = h in cc)

pub joins_among :
    (joins : List Join) (members : List GroupMember) → filter is_join (map join_of joins ++ grouped members) ≡ map join_of joins
joins_among joins members =
    filter-append is_join (map join_of joins) (grouped members)
    ∙ ap₂ (λ xs ys. xs ++ ys) (kept_joins joins) (no_joins (grouped members) (all_groups members))
    ∙ append-nil (map join_of joins)

no_members : (joins : List Join) → members_in (map join_of joins) ≡ []
no_members [] = refl
no_members (join ∷ joins) = no_members joins

ends_mapped : (members : List Member) → ends (λ (one : GroupMember). one.more) (map member_of members) ≡ ends says_more members
ends_mapped [] = refl
ends_mapped (member ∷ []) = refl
ends_mapped (member ∷ next ∷ members) = ends_mapped (next ∷ members)

pub members_among :
    (joins : List Join) (members : List Member) → ends says_more members ≡ true
    → members_in (map join_of joins ++ grouped (map member_of members)) ≡ map member_of members
members_among joins members h =
    flat_map-append members_of (map join_of joins) (grouped (map member_of members))
    ∙ ap₂ (λ xs ys. xs ++ ys) (no_members joins) (members_again (map member_of members) (ends_mapped members ∙ h))

-- the members of a query's conditions, where they are gathered, end their last group
pub ended_by :
    (members : List Member) (all : List GroupMember) → map member_of members ≡ all
    → ends (λ (one : GroupMember). one.more) all ≡ true → ends says_more members ≡ true
ended_by members all e h = sym (ends_mapped members) ∙ ap (ends (λ (one : GroupMember). one.more)) e ∙ h

-- the groups among the conditions

no_groups : (joins : List Join) → filter is_group (map join_of joins) ≡ []
no_groups [] = refl
no_groups (join ∷ joins) = no_groups joins

kept_groups : (groups : List Condition) → list_all is_group groups ≡ true → filter is_group groups ≡ groups
kept_groups [] h = refl
kept_groups (OneOf first others ∷ groups) h = ap (λ (rest : List Condition). OneOf first others ∷ rest) (kept_groups groups h)
kept_groups (query.Join left right ∷ groups) h = absurd (let no : false ≡ true = h in cc)

pub groups_among :
    (joins : List Join) (members : List GroupMember) → filter is_group (map join_of joins ++ grouped members) ≡ grouped members
groups_among joins members =
    filter-append is_group (map join_of joins) (grouped members)
    ∙ ap₂ (λ xs ys. xs ++ ys) (no_groups joins) (kept_groups (grouped members) (all_groups members))
