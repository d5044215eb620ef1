-- The first group of some members, and the members behind it.
use Rattle.std.proofs.Common.{◌≡◌, ℕ, Bool, true, false, not, ◌&&◌, ◌==◌, List, [], ◌∷◌, map, take, drop, refl, ap, ap₂, sym, ◌∙◌}
use Rattle.std.specs.Prelude.{if◌then◌else◌}
use Rattle.std.specs.List.{list_all}
use Rattle.ghost_model.specs.refusals.QueryMeaning.{is_of_one_table}
use Rattle.ghost_model.specs.core.Query as query
use Rattle.ghost_model.specs.core.Query.{Condition, OneOf}
use Rattle.spj_parse.specs.declared.query.Member.{Member}
use Rattle.spj_parse.specs.Views.{grouped, into_first, is_of_table, member_of, others_after}

abbrev test_of_member : Member → query.Member
test_of_member member = (member_of member).member

-- the first group, where this many members of it stand behind its first
abbrev split_at : Member → List Member → ℕ → List Condition
split_at first behind count =
    OneOf (test_of_member first) (map test_of_member (take count behind)) ∷ grouped (map member_of (drop count behind))

-- where the first says whether another follows it
others_split :
    (more : Bool) (first : Member) (behind : List Member)
    → (if more then into_first (test_of_member first) (grouped (map member_of behind))
    else OneOf (test_of_member first) [] ∷ grouped (map member_of behind))
    ≡ split_at first behind (others_after more behind)
unfolding grouped
others_split false first behind = refl
others_split true first [] = refl
others_split true first (next ∷ rest) = ap (into_first (test_of_member first)) (others_split next.more next rest)

first_split :
    (first : Member) (behind : List Member)
    → grouped (map member_of (first ∷ behind)) ≡ split_at first behind (others_after first.more behind)
unfolding grouped
first_split first behind = others_split first.more first behind

pub rest_split :
    (members : List Member) (first : Member) (behind others later : List Member) (count : ℕ)
    → members ≡ first ∷ behind → count ≡ others_after first.more behind → others ≡ take count behind → later ≡ drop count behind
    → grouped (map member_of members) ≡ OneOf (test_of_member first) (map test_of_member others) ∷ grouped (map member_of later)
rest_split members first behind others later count m c o l =
    ap (λ list. grouped (map member_of list)) m ∙ first_split first behind
    ∙ ap₂ (λ front back. OneOf (test_of_member first) (map test_of_member front) ∷ grouped (map member_of back))
    (ap (λ n. take n behind) (sym c) ∙ sym o) (ap (λ n. drop n behind) (sym c) ∙ sym l)

-- the tables of members, as a clause sees them
pub of_table_seen :
    (table : ℕ) (members : List Member) → list_all (is_of_table table) members ≡ list_all (λ one. one.field.table == table) (map test_of_member members)
of_table_seen table [] = refl
of_table_seen table (member ∷ members) = ap (λ b. (member.field.table == table) && b) (of_table_seen table members)

pub none_mixed :
    (members left : List Member) → list_all is_of_one_table (grouped (map member_of members)) ≡ list_all is_of_one_table (grouped (map member_of left)) → left ≡ []
    → false ≡ not (list_all is_of_one_table (grouped (map member_of members)))
unfolding grouped
none_mixed members left h e = sym (ap not (h ∙ ap (λ (rest : List Member). list_all is_of_one_table (grouped (map member_of rest))) e))
