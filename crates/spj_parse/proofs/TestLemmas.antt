-- The tests of a group as things of a text are the members of the group that it means, where each column means one column.
use Rattle.std.proofs.Common.{◌≡◌, ℕ, Bool, true, false, ◌||◌, nat_lt, List, [], ◌∷◌, ◌++◌, length, map, flat_map, append-nil, refl, ap, ap₂, sym, ◌∙◌, arith}
use Rattle.std.specs.Prelude.{option_to_list}
use Rattle.std.specs.List.{list_any}
use Rattle.std.proofs.lemmas.Bool.{lt-ltb}
use Rattle.std.proofs.lemmas.List.Folds.{list_any-append}
use Rattle.std.proofs.lemmas.Grind.{flat_map-append}
use Rattle.ghost_model.specs.core.Schema.{Schema, is_empty, first_of}
use Rattle.ghost_model.specs.core.Groups.{some_of}
use Rattle.ghost_model.specs.core.Query.{Field, Equal, Compared, Member, OneOf, tested, GroupMember, members_of_group, members_in}
use Rattle.ghost_model.specs.refusals.QueryGrammar as grammar
use Rattle.ghost_model.specs.refusals.QueryGrammar.{ColumnText, LiteralText, MemberText}
use Rattle.ghost_model.specs.refusals.QueryMeaning.{meanings, value_of_literal, tests_of_member, member_column, members_meant, group_of}
use Rattle.spj_parse.specs.declared.conditions.ConditionTest.{ConditionTest}
use Rattle.spj_parse.specs.declared.conditions.ConditionTest.TheVariants as test
use Rattle.spj_parse.specs.Items.{TestText, Compares, TestsNull, Tests, Where, tests_in, group_items}
use Rattle.spj_parse.specs.Rules.{test_column}
use Rattle.spj_parse.specs.Conditions.{first_alone, test_meant, passes_test, item_passes}
use Rattle.spj_parse.specs.Resolved.{test_kept, item_members}
use Rattle.spj_parse.proofs.WalkLemmas.{any_map}

-- where a column has one meaning

abbrev pub is_unclear : Schema → (from : List ℕ) → ColumnText → Bool
is_unclear schema from column = is_empty (meanings schema from column) || nat_lt 1 (length (meanings schema from column))

one_field : (fields : List Field) → (is_empty fields || nat_lt 1 (length fields)) ≡ false → (place : Field) × (fields ≡ place ∷ [])
one_field [] h = absurd (let no : true ≡ false = h in cc)
one_field (x ∷ []) h = (x, refl)
one_field (x ∷ y ∷ xs) h = absurd (let more : nat_lt 1 (length (x ∷ y ∷ xs)) ≡ true = lt-ltb 1 (length (x ∷ y ∷ xs)) (omega arith) in let no : true ≡ false = sym more ∙ h in cc)

pub one_meaning : (schema : Schema) (from : List ℕ) (column : ColumnText) → is_unclear schema from column ≡ false → (place : Field) × (meanings schema from column ≡ place ∷ [])
one_meaning schema from column h = one_field (meanings schema from column) h

pub clear : (schema : Schema) (from : List ℕ) (column : ColumnText) → is_unclear schema from column ≡ false → first_alone schema from column ≡ meanings schema from column
clear schema from column h =
    let one = one_meaning schema from column h in
    ap (λ (fields : List Field). option_to_list (first_of fields)) one.1 ∙ sym one.1

pub left_of : (a b : Bool) → (a || b) ≡ false → a ≡ false
left_of true b h = h
left_of false b h = refl

pub right_of : (a b : Bool) → (a || b) ≡ false → b ≡ false
right_of true b h = absurd (let no : true ≡ false = h in cc)
right_of false b h = h

or_none : (a : Bool) → (a || false) ≡ a
or_none true = refl
or_none false = refl

-- the members that a test is

abbrev pub test_members : Schema → (from : List ℕ) → TestText → List Member
test_members schema from one = map (λ place. tested place (test_meant one)) (meanings schema from (test_column one))

in_list : (schema : Schema) (from : List ℕ) (column : ColumnText) (place : Field) → meanings schema from column ≡ place ∷ [] → (literals : List LiteralText)
    → map (tested place) (map (λ literal. Compared Equal (value_of_literal literal)) literals) ≡ flat_map (test_members schema from) (map (Compares column Equal) literals)
in_list schema from column place e [] = refl
in_list schema from column place e (literal ∷ literals) =
    ap₂ (λ xs ys. xs ++ ys) (ap (map (λ other. tested other (Compared Equal (value_of_literal literal)))) (sym e)) (in_list schema from column place e literals)

one_of_member : (schema : Schema) (from : List ℕ) (member : MemberText) (place : Field) → meanings schema from (member_column member) ≡ place ∷ []
    → map (tested place) (tests_of_member member) ≡ flat_map (test_members schema from) (tests_in member)
one_of_member schema from (grammar.Compares column operator literal) place e = sym (append-nil _ ∙ ap (map (λ other. tested other (Compared operator (value_of_literal literal)))) e)
one_of_member schema from (grammar.TestsNull column negated) place e = sym (append-nil _ ∙ ap (map (λ other. tested other (test_meant (TestsNull column negated)))) e)
one_of_member schema from (grammar.IsIn column first others) place e = in_list schema from column place e (first ∷ others)

pub members_are : (schema : Schema) (from : List ℕ) (member : MemberText) → is_unclear schema from (member_column member) ≡ false
    → members_meant schema from member ≡ flat_map (test_members schema from) (tests_in member)
members_are schema from member h =
    let one = one_meaning schema from (member_column member) h in
    ap (flat_map (λ meant. map (tested meant) (tests_of_member member))) one.1
    ∙ append-nil (map (tested one.0) (tests_of_member member))
    ∙ one_of_member schema from member one.0 one.1

pub all_members_are : (schema : Schema) (from : List ℕ) (members : List MemberText) → list_any (is_unclear schema from) (map member_column members) ≡ false
    → flat_map (members_meant schema from) members ≡ flat_map (test_members schema from) (flat_map tests_in members)
all_members_are schema from [] h = refl
all_members_are schema from (member ∷ members) h =
    ap₂ (λ xs ys. xs ++ ys) (members_are schema from member (left_of _ _ h)) (all_members_are schema from members (right_of _ _ h))
    ∙ sym (flat_map-append (test_members schema from) (tests_in member) (flat_map tests_in members))

-- a test of conditions, over the tests of a group

some_any : {X : Type 0} (holds : X → Bool) (first : X) (others : List X) → some_of holds first others ≡ list_any holds (first ∷ others)
some_any holds first [] = sym (or_none (holds first))
some_any holds first (next ∷ others) = ap (λ b. holds first || b) (some_any holds next others)

never : {X : Type 0} (xs : List X) → list_any (λ x. false) xs ≡ false
never [] = refl
never (x ∷ xs) = never xs

abbrev pub alone_passes : ConditionTest → Schema → Member → Bool
alone_passes t schema one = passes_test t schema (OneOf one [])

group_passes : (t : ConditionTest) (schema : Schema) (first : Member) (others : List Member)
    → passes_test t schema (OneOf first others) ≡ list_any (alone_passes t schema) (first ∷ others)
group_passes test.OtherKind schema first others = some_any (alone_passes test.OtherKind schema) first others
group_passes test.TooLarge schema first others = some_any (alone_passes test.TooLarge schema) first others
group_passes test.Improper schema first others = sym (never (first ∷ others))
group_passes (test.JoinOf table) schema first others = sym (never (first ∷ others))

pub groups_pass : (t : ConditionTest) (schema : Schema) (members : List Member)
    → list_any (passes_test t schema) (group_of members) ≡ list_any (alone_passes t schema) members
groups_pass t schema [] = refl
groups_pass t schema (first ∷ others) = or_none (passes_test t schema (OneOf first others)) ∙ group_passes t schema first others

test_passes : (t : ConditionTest) (schema : Schema) (from : List ℕ) (one : TestText) (more : Bool) → is_unclear schema from (test_column one) ≡ false
    → item_passes t schema from (Where (Tests one more)) ≡ list_any (alone_passes t schema) (test_members schema from one)
test_passes t schema from one more h =
    any_map (passes_test t schema) (λ place. OneOf (tested place (test_meant one)) []) (first_alone schema from (test_column one))
    ∙ ap (list_any (λ place. alone_passes t schema (tested place (test_meant one)))) (clear schema from (test_column one) h)
    ∙ sym (any_map (alone_passes t schema) (λ place. tested place (test_meant one)) (meanings schema from (test_column one)))

pub tests_pass : (t : ConditionTest) (schema : Schema) (from : List ℕ) (tests : List TestText) → list_any (λ one. is_unclear schema from (test_column one)) tests ≡ false
    → list_any (item_passes t schema from) (group_items tests) ≡ list_any (alone_passes t schema) (flat_map (test_members schema from) tests)
tests_pass t schema from [] h = refl
tests_pass t schema from (last ∷ []) h =
    or_none _ ∙ test_passes t schema from last false (left_of _ false h) ∙ ap (list_any (alone_passes t schema)) (sym (append-nil (test_members schema from last)))
tests_pass t schema from (one ∷ next ∷ tests) h =
    ap₂ (λ a b. a || b) (test_passes t schema from one true (left_of _ _ h)) (tests_pass t schema from (next ∷ tests) (right_of _ _ h))
    ∙ sym (list_any-append (alone_passes t schema) (test_members schema from one) (flat_map (test_members schema from) (next ∷ tests)))

-- the members of a group, and whether another of it follows each

abbrev grouping : Member → Bool → GroupMember
grouping member more = record { member = member; more = more }

abbrev as_group : List Member → List GroupMember
as_group [] = []
as_group (last ∷ []) = grouping last false ∷ []
as_group (member ∷ next ∷ members) = grouping member true ∷ as_group (next ∷ members)

of_group : (first : Member) (others : List Member) → members_of_group first others ≡ as_group (first ∷ others)
of_group first [] = refl
of_group first (next ∷ others) = ap (λ rest. grouping first true ∷ rest) (of_group next others)

group_members : (members : List Member) → members_in (group_of members) ≡ as_group members
group_members [] = refl
group_members (first ∷ others) = append-nil (members_of_group first others) ∙ of_group first others

-- where a test fails at no literal, its value is kept as it is
abbrev pub KeepsTests : Schema → (from : List ℕ) → Type 0
KeepsTests schema from =
    (one : TestText) (place : Field) → meanings schema from (test_column one) ≡ place ∷ [] → alone_passes test.OtherKind schema (tested place (test_meant one)) ≡ false
    → alone_passes test.TooLarge schema (tested place (test_meant one)) ≡ false → test_kept one ≡ test_meant one

first_fails : (holds : Member → Bool) (schema : Schema) (from : List ℕ) (one : TestText) (place : Field) (rest : List Member) → meanings schema from (test_column one) ≡ place ∷ []
    → list_any holds (test_members schema from one ++ rest) ≡ false → holds (tested place (test_meant one)) ≡ false
first_fails holds schema from one place rest e h =
    left_of (holds (tested place (test_meant one))) (list_any holds rest)
    (ap (λ fields. list_any holds (map (λ other. tested other (test_meant one)) fields ++ rest)) (sym e) ∙ h)

rest_fails : (holds : Member → Bool) (members rest : List Member) → list_any holds (members ++ rest) ≡ false → list_any holds rest ≡ false
rest_fails holds members rest h = right_of (list_any holds members) (list_any holds rest) (sym (list_any-append holds members rest) ∙ h)

test_is : (schema : Schema) (from : List ℕ) → KeepsTests schema from → (one : TestText) (more : Bool) (rest : List Member) (place : Field) → meanings schema from (test_column one) ≡ place ∷ []
    → list_any (alone_passes test.OtherKind schema) (test_members schema from one ++ rest) ≡ false → list_any (alone_passes test.TooLarge schema) (test_members schema from one ++ rest) ≡ false
    → item_members schema from (Where (Tests one more)) ≡ grouping (tested place (test_meant one)) more ∷ []
test_is schema from keeps one more rest place e o l =
    ap (λ (fields : List Field). map (λ other. grouping (tested other (test_kept one)) more) (option_to_list (first_of fields))) e
    ∙ ap (λ kept. grouping (tested place kept) more ∷ [])
    (keeps one place e (first_fails (alone_passes test.OtherKind schema) schema from one place rest e o) (first_fails (alone_passes test.TooLarge schema) schema from one place rest e l))

as_more : (member : Member) (members rest : List Member) (next : Member) → members ≡ next ∷ [] → as_group (member ∷ (members ++ rest)) ≡ grouping member true ∷ as_group (members ++ rest)
as_more member members rest next e =
    ap (λ front. as_group (member ∷ (front ++ rest))) e ∙ ap (λ front. grouping member true ∷ as_group (front ++ rest)) (sym e)

tests_are : (schema : Schema) (from : List ℕ) → KeepsTests schema from → (tests : List TestText) → list_any (λ one. is_unclear schema from (test_column one)) tests ≡ false
    → list_any (alone_passes test.OtherKind schema) (flat_map (test_members schema from) tests) ≡ false → list_any (alone_passes test.TooLarge schema) (flat_map (test_members schema from) tests) ≡ false
    → flat_map (item_members schema from) (group_items tests) ≡ as_group (flat_map (test_members schema from) tests)
tests_are schema from keeps [] h o l = refl
tests_are schema from keeps (last ∷ []) h o l =
    let one = one_meaning schema from (test_column last) (left_of _ false h) in
    append-nil _ ∙ test_is schema from keeps last false [] one.0 one.1 o l
    ∙ ap (λ fields. as_group (map (λ other. tested other (test_meant last)) fields ++ [])) (sym one.1)
tests_are schema from keeps (first ∷ next ∷ tests) h o l =
    let one = one_meaning schema from (test_column first) (left_of _ _ h) in
    let other = one_meaning schema from (test_column next) (left_of _ _ (right_of (is_unclear schema from (test_column first)) _ h)) in
    let rest = flat_map (test_members schema from) (next ∷ tests) in
    ap₂ (λ xs ys. xs ++ ys) (test_is schema from keeps first true rest one.0 one.1 o l)
    (tests_are schema from keeps (next ∷ tests) (right_of (is_unclear schema from (test_column first)) _ h)
    (rest_fails (alone_passes test.OtherKind schema) (test_members schema from first) rest o) (rest_fails (alone_passes test.TooLarge schema) (test_members schema from first) rest l))
    ∙ sym (as_more (tested one.0 (test_meant first)) (test_members schema from next) (flat_map (test_members schema from) tests) (tested other.0 (test_meant next)) (ap (map (λ place. tested place (test_meant next))) other.1))
    ∙ ap (λ fields. as_group (map (λ place. tested place (test_meant first)) fields ++ rest)) (sym one.1)

pub group_is_kept : (schema : Schema) (from : List ℕ) → KeepsTests schema from → (tests : List TestText) → list_any (λ one. is_unclear schema from (test_column one)) tests ≡ false
    → list_any (passes_test test.OtherKind schema) (group_of (flat_map (test_members schema from) tests)) ≡ false → list_any (passes_test test.TooLarge schema) (group_of (flat_map (test_members schema from) tests)) ≡ false
    → flat_map (item_members schema from) (group_items tests) ≡ members_in (group_of (flat_map (test_members schema from) tests))
group_is_kept schema from keeps tests h o l =
    tests_are schema from keeps tests h (sym (groups_pass test.OtherKind schema (flat_map (test_members schema from) tests)) ∙ o) (sym (groups_pass test.TooLarge schema (flat_map (test_members schema from) tests)) ∙ l)
    ∙ sym (group_members (flat_map (test_members schema from) tests))
