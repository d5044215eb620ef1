-- What the next step of work on a row needs is what is read for the query.
use Rattle.std.proofs.Common.{◌≡◌, ◌∙◌, inl, inr, ◌⊎◌, ℕ, zero, suc, ◌<◌, ◌≤◌, Bool, true, false, not, ◌&&◌, ◌||◌, nat_eq, List, [], ◌∷◌, length, get_or, slice_get, ◌++◌, map, filter, Option, Some, None, option_and_then, refl, sym, ap, ap₂, subst, arith}
use Rattle.std.specs.Prelude.{⊤, if◌then◌else◌}
use Rattle.std.specs.List.{list_all, list_any}
use Rattle.std.proofs.lemmas.Bool.{eqb-true}
use Rattle.std.proofs.lemmas.List.{map-append}
use Rattle.std.proofs.lemmas.List.Folds.{list_any-append}
use Rattle.std.proofs.lemmas.Bool.Decides.{nat_tests}
use Rattle.ghost_model.specs.core.Schema.{Schema, parent, ancestor, IsAtOrBelow}
use Rattle.ghost_model.specs.core.Channel.{Catalog}
use Rattle.ghost_model.specs.core.Groups.{some_of}
use Rattle.ghost_model.specs.core.Query.{Query, Field, Member, GroupMember, Condition, OneOf, Join, members_of_group, members_of, members_in}
use Rattle.ghost_model.specs.forms.Left.{is_same_field, new_fields}
use Rattle.ghost_model.specs.forms.Layout.{count_of}
use Rattle.edge_traits.specs.Devices.{Device}
use Rattle.visible_spool.specs.declared.half.Half.{Half}
use Rattle.candidate_rows.specs.declared.plan.Hop.{Hop}
use Rattle.candidate_rows.specs.declared.plan.Source.{Source}
use Rattle.candidate_rows.specs.declared.plan.Source.TheVariants as source
use Rattle.candidate_rows.specs.declared.plan.Known.{Known}
use Rattle.candidate_rows.specs.declared.plan.Check.{Check}
use Rattle.candidate_rows.specs.declared.plan.Check.TheVariants.{Stands, Holds}
use Rattle.candidate_rows.specs.declared.plan.Test.{Test}
use Rattle.candidate_rows.specs.declared.plan.RowPlan.{RowPlan}
use Rattle.candidate_rows.specs.declared.plan.SubtreeFile.{SubtreeFile}
use Rattle.candidate_rows.specs.declared.next.Follow.{Follow}
use Rattle.candidate_rows.specs.declared.next.Slot.{Slot}
use Rattle.candidate_rows.specs.declared.next.Next.{Next}
use Rattle.candidate_rows.specs.declared.next.Next.TheVariants as next
use Rattle.candidate_rows.specs.declared.work.RowWork.{RowWork}
use Rattle.ghost_laws.specs.Asking.{is_asked, is_shown_of, is_compared_of}
use Rattle.candidate_rows.specs.Plans.{columns_needed, members_left_by, conditions_tested, is_by_itself, is_left_by, IsPlanOf, IsFile, IsHop, IsHopOrNone, AreHops, IsSource, HaveSources, IsKnown, AreKnowns, test_meets, check_meets}
use Rattle.flash_layout.specs.Ranges.{IsRowOf}
use Rattle.candidate_rows.specs.Working.{IsWorking, Need, NoNeed, OfSlot, OfRow, OfRecord, need_by, need_of, next_slot, next_look, next_record, way_by, way_for, next_test, next_value, with_row, go_on, way_to, along_hop, from_row, reached_at, source_slot, check_slot, check_look}
use Rattle.key_exec.specs.ReadFor.{IsReadFor, AsColumn, AsKey, uses, compares, is_at, is_of}

-- ---- lists

pub either : (a b : Bool) → (a || b) ≡ true → (a ≡ true) ⊎ (b ≡ true)
either true b h = inl refl
either false b h = inr h

pub or_later : (a b : Bool) → b ≡ true → (a || b) ≡ true
or_later true b h = refl
or_later false b h = h

pub or_first : (a b : Bool) → a ≡ true → (a || b) ≡ true
or_first true b h = refl
or_first false b h = cc

pub both : (a b : Bool) → (a && b) ≡ true → (a ≡ true) × (b ≡ true)
both true true h = (refl, refl)
both true false h = cc
both false b h = cc

pub clash : {b : Bool} → b ≡ true → b ≡ false → ⊥
clash t f = cc

itself_equal : (n : ℕ) → nat_eq n n ≡ true
itself_equal n = grind (arith, nat_tests)

pub any_weaker : {X : Type 0} (p q : X → Bool) → ((x : X) → p x ≡ true → q x ≡ true) → (xs : List X) → list_any p xs ≡ true → list_any q xs ≡ true
any_weaker p q weaker [] h = absurd (cc (h))
any_weaker p q weaker (x ∷ xs) h = by (any_weaker p q weaker xs) (either (p x) (list_any p xs) h)
  where
    by : (list_any p xs ≡ true → list_any q xs ≡ true) → (p x ≡ true) ⊎ (list_any p xs ≡ true) → list_any q (x ∷ xs) ≡ true
    by rest (inl here) = or_first (q x) (list_any q xs) (weaker x here)
    by rest (inr later) = or_later (q x) (list_any q xs) (rest later)

pub some_weaker : {X : Type 0} (p q : X → Bool) → ((x : X) → p x ≡ true → q x ≡ true) → (first : X) (others : List X) → some_of p first others ≡ true → some_of q first others ≡ true
some_weaker p q weaker first [] h = weaker first h
some_weaker p q weaker first (next ∷ others) h = by (some_weaker p q weaker next others) (either (p first) (some_of p next others) h)
  where
    by : (some_of p next others ≡ true → some_of q next others ≡ true) → (p first ≡ true) ⊎ (some_of p next others ≡ true) → (q first || some_of q next others) ≡ true
    by rest (inl here) = or_first (q first) (some_of q next others) (weaker first here)
    by rest (inr later) = or_later (q first) (some_of q next others) (rest later)

any_at : {X : Type 0} (p : X → Bool) (xs : List X) (i : ℕ) (x : X) → slice_get xs i ≡ Some x → p x ≡ true → list_any p xs ≡ true
any_at p [] i x e h = absurd (cc (e))
any_at p (y ∷ xs) zero x e h = let same : y ≡ x = cc in or_first (p y) (list_any p xs) (ap p same ∙ h)
any_at p (y ∷ xs) (suc i) x e h = or_later (p y) (list_any p xs) (any_at p xs i x e h)

pub unmet : {X : Type 0} (p : X → Bool) (xs : List X) (i : ℕ) (x : X) → slice_get xs i ≡ Some x → p x ≡ false → list_all p xs ≡ false
unmet p [] i x e h = absurd (cc (e))
unmet p (y ∷ xs) zero x e h = let same : y ≡ x = cc in ap (λ b. b && list_all p xs) (ap p same ∙ h)
unmet p (y ∷ xs) (suc i) x e h = ap (λ b. p y && b) (unmet p xs i x e h) ∙ none (p y)
  where
    none : (b : Bool) → (b && false) ≡ false
    none true = refl
    none false = refl

pub all_true : {X : Type 0} (xs : List X) → list_all (λ _. true) xs ≡ true
all_true [] = refl
all_true (x ∷ xs) = all_true xs

-- ---- what a query uses, the columns of groups that are left among it

uses_weaker : (asked : Query) (p q : Field → Bool) → ((field : Field) → p field ≡ true → q field ≡ true) → uses asked p ≡ true → uses asked q ≡ true
uses_weaker asked p q weaker h = by (either (list_any p asked.select) (list_any (compares p) asked.conditions) h)
  where
    of_condition : (condition : Condition) → compares p condition ≡ true → compares q condition ≡ true
    of_condition (OneOf first others) here = some_weaker (λ one. p one.field) (λ one. q one.field) (λ one. weaker one.field) first others here
    of_condition (Join one other) here = here

    by : (list_any p asked.select ≡ true) ⊎ (list_any (compares p) asked.conditions ≡ true) → uses asked q ≡ true
    by (inl here) = or_first (list_any q asked.select) (list_any (compares q) asked.conditions) (any_weaker p q weaker asked.select here)
    by (inr here) = or_later (list_any q asked.select) (list_any (compares q) asked.conditions) (any_weaker (compares p) (compares q) of_condition asked.conditions here)

-- columns of groups
new_are_some : (p : Field → Bool) (before xs : List Field) → list_any p (new_fields before xs) ≡ true → list_any p xs ≡ true
unfolding new_fields
new_are_some p before [] h = h
new_are_some p before (one ∷ later) h =
    by (new_are_some p before later) (new_are_some p (one ∷ before) later) (list_any (is_same_field one) before) h
  where
    of : (list_any p (new_fields (one ∷ before) later) ≡ true → list_any p later ≡ true)
        → (p one ≡ true) ⊎ (list_any p (new_fields (one ∷ before) later) ≡ true) → list_any p (one ∷ later) ≡ true
    of rest (inl here) = or_first (p one) (list_any p later) here
    of rest (inr behind) = or_later (p one) (list_any p later) (rest behind)

    by : (list_any p (new_fields before later) ≡ true → list_any p later ≡ true) → (list_any p (new_fields (one ∷ before) later) ≡ true → list_any p later ≡ true)
        → (b : Bool) → list_any p (if b then new_fields before later else one ∷ new_fields (one ∷ before) later) ≡ true → list_any p (one ∷ later) ≡ true
    by known rest true g = or_later (p one) (list_any p later) (known g)
    by known rest false g = of rest (either (p one) (list_any p (new_fields (one ∷ before) later)) g)

abbrev field_in : GroupMember → Field
field_in one = one.member.field

some_in_group : (p : Field → Bool) (first : Member) (others : List Member) → list_any p (map field_in (members_of_group first others)) ≡ true
    → some_of (λ one. p one.field) first others ≡ true
some_in_group p first [] h = by (either (p first.field) false h)
  where
    by : (p first.field ≡ true) ⊎ (false ≡ true) → p first.field ≡ true
    by (inl here) = here
    by (inr never) = absurd (cc never)
some_in_group p first (next ∷ others) h = by (some_in_group p next others) (either (p first.field) (list_any p (map field_in (members_of_group next others))) h)
  where
    by : (list_any p (map field_in (members_of_group next others)) ≡ true → some_of (λ one. p one.field) next others ≡ true)
        → (p first.field ≡ true) ⊎ (list_any p (map field_in (members_of_group next others)) ≡ true) → some_of (λ one. p one.field) first (next ∷ others) ≡ true
    by rest (inl here) = or_first (p first.field) (some_of (λ one. p one.field) next others) here
    by rest (inr behind) = or_later (p first.field) (some_of (λ one. p one.field) next others) (rest behind)

compared_in : (p : Field → Bool) (condition : Condition) → list_any p (map field_in (members_of condition)) ≡ true → compares p condition ≡ true
compared_in p (OneOf first others) h = some_in_group p first others h
compared_in p (Join one other) h = h

-- some column of filtered groups is one of a group that passes the filter
pub some_left : (p : Field → Bool) (left : Condition → Bool) (conditions : List Condition)
    → list_any p (map field_in (members_in (filter left conditions))) ≡ true → list_any (λ c. left c && compares p c) conditions ≡ true
some_left p left [] h = h
some_left p left (c ∷ conditions) h = by (some_left p left conditions) (left c) refl h
  where
    of : (list_any p (map field_in (members_in (filter left conditions))) ≡ true → list_any (λ c. left c && compares p c) conditions ≡ true)
        → left c ≡ true → (list_any p (map field_in (members_of c)) ≡ true) ⊎ (list_any p (map field_in (members_in (filter left conditions))) ≡ true)
        → (left c && compares p c || list_any (λ c. left c && compares p c) conditions) ≡ true
    of rest is (inl here) = or_first (left c && compares p c) (list_any (λ c. left c && compares p c) conditions) (ap₂ (λ a b. a && b) is (compared_in p c here))
    of rest is (inr behind) = or_later (left c && compares p c) (list_any (λ c. left c && compares p c) conditions) (rest behind)

    with_it : (list_any p (map field_in (members_in (filter left conditions))) ≡ true → list_any (λ c. left c && compares p c) conditions ≡ true)
        → left c ≡ true → list_any p (map field_in (members_of c ++ members_in (filter left conditions))) ≡ true
        → (left c && compares p c || list_any (λ c. left c && compares p c) conditions) ≡ true
    with_it rest is g =
        of rest is
        (either (list_any p (map field_in (members_of c))) (list_any p (map field_in (members_in (filter left conditions))))
        (sym (list_any-append p (map field_in (members_of c)) (map field_in (members_in (filter left conditions))))
        ∙ ap (list_any p) (sym (map-append field_in (members_of c) (members_in (filter left conditions)))) ∙ g))

    by : (list_any p (map field_in (members_in (filter left conditions))) ≡ true → list_any (λ c. left c && compares p c) conditions ≡ true)
        → (b : Bool) → left c ≡ b → list_any p (map field_in (members_in (if b then c ∷ filter left conditions else filter left conditions))) ≡ true
        → (left c && compares p c || list_any (λ c. left c && compares p c) conditions) ≡ true
    by rest true is g = with_it rest is g
    by rest false is g = or_later (left c && compares p c) (list_any (λ c. left c && compares p c) conditions) (rest g)

-- a column that is needed is selected, or stands in a group that the plan leaves
pub needed_of : (schema : Schema) (asked : Query) (sifted : Bool) (p : Field → Bool) → list_any p (columns_needed schema asked sifted) ≡ true
    → (list_any p asked.select || list_any (λ c. is_left_by schema sifted c && compares p c) asked.conditions) ≡ true
needed_of schema asked sifted p h =
    by (either (list_any p asked.select) (list_any p behind) (sym (list_any-append p asked.select behind) ∙ h))
  where
    behind : List Field
    behind = new_fields asked.select (map field_in (members_left_by schema asked sifted))

    by : (list_any p asked.select ≡ true) ⊎ (list_any p behind ≡ true)
        → (list_any p asked.select || list_any (λ c. is_left_by schema sifted c && compares p c) asked.conditions) ≡ true
    by (inl here) = or_first (list_any p asked.select) (list_any (λ c. is_left_by schema sifted c && compares p c) asked.conditions) here
    by (inr later) =
        or_later (list_any p asked.select) (list_any (λ c. is_left_by schema sifted c && compares p c) asked.conditions)
        (some_left p (is_left_by schema sifted) asked.conditions (new_are_some p asked.select (map field_in (members_left_by schema asked sifted)) later))

needed_is_used : (schema : Schema) (asked : Query) (sifted : Bool) (table column : ℕ) → list_any (is_at table column) (columns_needed schema asked sifted) ≡ true
    → uses asked (is_at table column) ≡ true
needed_is_used schema asked sifted table column h =
    by (either (list_any (is_at table column) asked.select) (list_any (λ c. is_left_by schema sifted c && compares (is_at table column) c) asked.conditions)
    (needed_of schema asked sifted (is_at table column) h))
  where
    by : (list_any (is_at table column) asked.select ≡ true) ⊎ (list_any (λ c. is_left_by schema sifted c && compares (is_at table column) c) asked.conditions ≡ true)
        → uses asked (is_at table column) ≡ true
    by (inl here) = or_first (list_any (is_at table column) asked.select) (list_any (compares (is_at table column)) asked.conditions) here
    by (inr behind) =
        or_later (list_any (is_at table column) asked.select) (list_any (compares (is_at table column)) asked.conditions)
        (any_weaker (λ c. is_left_by schema sifted c && compares (is_at table column) c) (compares (is_at table column))
        (λ c g. (both (is_left_by schema sifted c) (compares (is_at table column) c) g).1) asked.conditions behind)

-- a column of a table
of_column : (asked : Query) (table column : ℕ) → uses asked (is_at table column) ≡ true → uses asked (is_of table) ≡ true
of_column asked table column h =
    uses_weaker asked (is_at table column) (is_of table) (λ field here. (both (nat_eq field.table table) (nat_eq field.column column) here).0) h

-- and a visible one of a table that it asks for
of_asked : (schema : Schema) (asked : Query) (table : ℕ) → is_asked schema asked table ≡ true → uses asked (is_of table) ≡ true
of_asked schema asked table h = by (either (list_any (is_shown_of schema table) asked.select) (list_any (is_compared_of schema table) asked.conditions) h)
  where
    of_field : (field : Field) → is_shown_of schema table field ≡ true → is_of table field ≡ true
    of_field field here = (both (nat_eq field.table table) _ here).0

    of_condition : (condition : Condition) → is_compared_of schema table condition ≡ true → compares (is_of table) condition ≡ true
    of_condition (OneOf first others) here =
        some_weaker (λ one. is_shown_of schema table one.field) (λ one. is_of table one.field) (λ one. of_field one.field) first others here
    of_condition (Join one other) here = here

    by : (list_any (is_shown_of schema table) asked.select ≡ true) ⊎ (list_any (is_compared_of schema table) asked.conditions ≡ true) → uses asked (is_of table) ≡ true
    by (inl here) = or_first _ (list_any (compares (is_of table)) asked.conditions) (any_weaker (is_shown_of schema table) (is_of table) of_field asked.select here)
    by (inr here) =
        or_later (list_any (is_of table) asked.select) _
        (any_weaker (is_compared_of schema table) (compares (is_of table)) of_condition asked.conditions here)

-- ---- the tests and the selected columns of a plan

-- where not all of those that are kept are another table, it is kept
kept_table : (p : ℕ → Bool) (table : ℕ) (xs : List ℕ) → list_all (λ t. not (nat_eq t table)) (filter p xs) ≡ false → p table ≡ true
kept_table p table [] h = cc
kept_table p table (x ∷ xs) h = by (kept_table p table xs) (p x) refl h
  where
    at : (list_all (λ t. not (nat_eq t table)) (filter p xs) ≡ false → p table ≡ true) → (b : Bool) → nat_eq x table ≡ b → p x ≡ true → (not b && list_all (λ t. not (nat_eq t table)) (filter p xs)) ≡ false → p table ≡ true
    at rest true e kept g = ap p (sym (eqb-true x table e)) ∙ kept
    at rest false e kept g = rest g

    by : (list_all (λ t. not (nat_eq t table)) (filter p xs) ≡ false → p table ≡ true) → (b : Bool) → p x ≡ b → list_all (λ t. not (nat_eq t table)) (if b then x ∷ filter p xs else filter p xs) ≡ false → p table ≡ true
    by rest false e g = rest g
    by rest true e g = at rest (nat_eq x table) refl e g

kept_condition : (p : Condition → Bool) (is : Field → Bool) (xs : List Condition) → list_all (λ c. not (compares is c)) (filter p xs) ≡ false
    → list_any (compares is) xs ≡ true
kept_condition p is [] h = cc
kept_condition p is (x ∷ xs) h = by (kept_condition p is xs) (p x) h
  where
    at : (list_all (λ c. not (compares is c)) (filter p xs) ≡ false → list_any (compares is) xs ≡ true) → (b : Bool) → (not b && list_all (λ c. not (compares is c)) (filter p xs)) ≡ false → (b || list_any (compares is) xs) ≡ true
    at rest true g = refl
    at rest false g = rest g

    by : (list_all (λ c. not (compares is c)) (filter p xs) ≡ false → list_any (compares is) xs ≡ true) → (b : Bool) → list_all (λ c. not (compares is c)) (if b then x ∷ filter p xs else filter p xs) ≡ false → (compares is x || list_any (compares is) xs) ≡ true
    by rest false g = or_later (compares is x) (list_any (compares is) xs) (rest g)
    by rest true g = at rest (compares is x) g

left_false : (a b : Bool) → (a && b) ≡ false → b ≡ true → a ≡ false
left_false true b h t = absurd (clash t h)
left_false false b h t = refl

right_false : (a b : Bool) → (a && b) ≡ false → a ≡ true → b ≡ false
right_false true b h t = h
right_false false b h t = cc

pub known_at : (cat : Catalog) (fields : List Field) (knowns : List Known) (i : ℕ) (known : Known) → AreKnowns cat fields knowns → slice_get knowns i ≡ Some known
    → IsSource cat known.field.table known.field.column known.source × (list_any (is_at known.field.table known.field.column) fields ≡ true)
known_at cat [] [] i known are e = absurd (cc (e))
known_at cat [] (_ ∷ _) i known are e = absurd are
known_at cat (_ ∷ _) [] i known are e = absurd are
known_at cat (field ∷ fields) (first ∷ knowns) zero known are e =
    let same : first ≡ known = cc in
    let is = subst (IsKnown cat field) same are.0 in (
      is.source_is,
      or_first (is_at known.field.table known.field.column field) (list_any (is_at known.field.table known.field.column) fields)
          (ap (is_at known.field.table known.field.column) (sym is.field_is)
          ∙ ap₂ (λ a b. a && b) (itself_equal known.field.table) (itself_equal known.field.column)),
    )
known_at cat (field ∷ fields) (first ∷ knowns) (suc i) known are e =
    let later = known_at cat fields knowns i known are.1 e in
    (later.0, or_later (is_at known.field.table known.field.column field) (list_any (is_at known.field.table known.field.column) fields) later.1)

source_at : (cat : Catalog) (tests : List Test) (i : ℕ) (test : Test) → HaveSources cat tests → slice_get tests i ≡ Some test
    → IsSource cat test.known.field.table test.known.field.column test.known.source
source_at cat [] i test are e = absurd (cc (e))
source_at cat (first ∷ tests) zero test are e =
    let same : first ≡ test = cc in
    subst (λ (t : Test). IsSource cat t.known.field.table t.known.field.column t.known.source) same are.0
source_at cat (first ∷ tests) (suc i) test are e = source_at cat tests i test are.1 e

-- ---- the way to a table

-- a foreign key that is followed, and the table that it names is on the way to another
record IsWayTo (schema : Schema) (hops : List (Option Hop)) (reached : List (Option ℕ)) (table : ℕ) (follow : Follow) : Type 0 where
  hop_is : get_or hops follow.to None ≡ Some follow.hop
  row_is : get_or reached follow.hop.above None ≡ Some follow.identifier
  ends : IsAtOrBelow schema follow.to table

at_itself : (schema : Schema) (table : ℕ) → IsAtOrBelow schema table table
unfolding ancestor
at_itself schema table = (0, refl)

further_up : (schema : Schema) (to above table : ℕ) → parent schema to ≡ Some above → (steps : ℕ) → ancestor schema steps table ≡ Some to
    → ancestor schema (suc steps) table ≡ Some above
unfolding ancestor
further_up schema to above table up steps e = ap (option_and_then (parent schema)) e ∙ up

some_follow : (a b : Follow) → Some a ≡ Some b → a ≡ b
some_follow a b e = cc

way_is : (cat : Catalog) (hops : List (Option Hop)) (reached : List (Option ℕ)) → AreHops cat hops → (table most to : ℕ) (follow : Follow) → IsAtOrBelow cat.schema to table
    → way_to hops reached most to ≡ Some follow → IsWayTo cat.schema hops reached table follow
way_is cat hops reached are table zero to follow down e = absurd (cc (e))
way_is cat hops reached are table (suc most) to follow down e = by (λ above below h. way_is cat hops reached are table most above follow below h) (get_or hops to None) refl (are to) e
  where
    at : ((above : ℕ) → IsAtOrBelow cat.schema above table → way_to hops reached most above ≡ Some follow → IsWayTo cat.schema hops reached table follow) → (hop : Hop) → get_or hops to None ≡ Some hop → IsHop cat to hop → (row : Option ℕ) → get_or reached hop.above None ≡ row
        → from_row to hop row (way_to hops reached most hop.above) ≡ Some follow → IsWayTo cat.schema hops reached table follow
    at rest hop there is None here g = rest hop.above (suc down.0, further_up cat.schema to hop.above table is.above_is down.0 down.1) g
    at rest hop there is (Some identifier) here g =
        subst (IsWayTo cat.schema hops reached table) (some_follow (record { to = to; hop = hop; identifier = identifier }) follow g)
        (record { hop_is = there; row_is = here; ends = down })

    by : ((above : ℕ) → IsAtOrBelow cat.schema above table → way_to hops reached most above ≡ Some follow → IsWayTo cat.schema hops reached table follow) → (found : Option Hop) → get_or hops to None ≡ found → IsHopOrNone cat to (get_or hops to None)
        → along_hop to found reached (λ above. way_to hops reached most above) ≡ Some follow → IsWayTo cat.schema hops reached table follow
    by rest None there is g = absurd (cc (g))
    by rest (Some hop) there is g = at rest hop there (subst (IsHopOrNone cat to) there is) (get_or reached hop.above None) refl g

-- ---- what is needed

-- what is so of a test that is a condition
abbrev IfHolds : Check → Type 0 → Type 0
IfHolds (Stands number) so = ⊤
IfHolds (Holds wanted) so = so

-- the slot of a row in the file of a column that is read for the query, or a row in the reply about a table that it asks for
pub record IsReadSlot (cat : Catalog) (asked : Query) (top : ℕ) (slot : Slot) : Type 0 where
  pub table : ℕ
  pub column : ℕ
  pub read_for : IsReadFor cat.schema asked top table column
  pub file : IsFile cat table column slot.file
  pub some : 1 ≤ slot.identifier
  pub within : slot.identifier ≤ count_of cat table

abbrev pub IsReadNeed : Catalog → Query → (top : ℕ) → Need → Type 0
IsReadNeed cat asked top NoNeed = ⊤
IsReadNeed cat asked top (OfSlot slot) = IsReadSlot cat asked top slot
IsReadNeed cat asked top (OfRow look) = (look.table < 12) × (is_asked cat.schema asked look.table ≡ true)
IsReadNeed cat asked top (OfRecord file identifier) = ⊥

module _ (cat : Catalog) (asked : Query) (device : Device) (half : Half) (plan : RowPlan) (work : RowWork) (plan_is : IsPlanOf cat asked plan)
    (w : IsWorking cat asked device half plan work) where
  tests_are : (stands : ℕ → Bool) (holds : Condition → Bool)
      → list_all (test_meets stands holds) plan.tests.items
      ≡ (list_all stands (filter (is_asked cat.schema asked) asked.from) && list_all holds (filter (is_by_itself cat.schema) asked.conditions))
  tests_are stands holds =
      plan_is.is.tests stands holds
      ∙ ap (λ (sifted : Bool). list_all stands (filter (is_asked cat.schema asked) asked.from) && list_all holds (conditions_tested cat.schema asked sifted)) plan_is.not_sifted

  sources_are : HaveSources cat plan.tests.items
  sources_are = plan_is.is.sources

  columns_are : AreKnowns cat (columns_needed cat.schema asked plan.sifted) plan.columns.items
  columns_are = plan_is.is.columns

  abbrev IsReadNext : Next → Type 0
  IsReadNext n = IsReadNeed cat asked plan.top (need_by (next_slot n) (next_look n) (next_record plan.keys n))

  along_way : (table : ℕ) → uses asked (is_of table) ≡ true → (way : Option Follow) → way_to plan.hops.items work.reached 12 table ≡ way → IsReadNext (go_on way)
  along_way table used None e = tt
  along_way table used (Some follow) e =
      let way = way_is cat plan.hops.items work.reached plan_is.hops table 12 table follow (at_itself cat.schema table) e in
      let hop = subst (IsHopOrNone cat follow.to) way.hop_is (plan_is.hops follow.to) in
      let row = w.rows follow.hop.above follow.identifier way.row_is in
      record {
        table = follow.hop.above;
        column = follow.hop.column;
        read_for = AsKey table used (record {
          child = follow.to;
          parent_is = hop.above_is;
          key_is = hop.key_is;
          starts = w.below plan_is.no_keys follow.hop.above follow.identifier way.row_is;
          ends = way.ends;
        });
        file = hop.file;
        some = row.some;
        within = row.within;
      }

  way_read : (table : ℕ) → uses asked (is_of table) ≡ true → IsReadNext (way_for plan work table)
  way_read table used =
      subst (λ (keys : Option SubtreeFile). IsReadNext (way_by plan work table keys)) (sym plan_is.no_keys)
      (along_way table used (way_to plan.hops.items work.reached 12 table) refl)

  from_source : (table column identifier : ℕ) (from : Source) → IsSource cat table column from → IsRowOf cat table identifier → uses asked (is_at table column) ≡ true
      → IsReadNeed cat asked plan.top (need_by (source_slot from identifier) None NoNeed)
  from_source table column identifier source.Absent is row used = tt
  from_source table column identifier source.Identifier is row used = tt
  from_source table column identifier source.Reply is row used = tt
  from_source table column identifier (source.File file number) is row used =
      record { table = table; column = column; read_for = AsColumn used; file = is; some = row.some; within = row.within }

  within : (xs : List (Option ℕ)) (i x : ℕ) → get_or xs i None ≡ Some x → i < length xs
  within [] i x h = absurd (cc (h))
  within (y ∷ xs) zero x h = omega arith
  within (y ∷ xs) (suc i) x h = let later = within xs i x h in omega (arith, later)

  row_low : (table identifier : ℕ) → reached_at work table ≡ Some identifier → table < 12
  row_low table identifier there = let low = within work.reached table identifier there in let all = w.tables in omega (arith, low, all)

  -- the row of a table that is looked up is one of a table that the query asks for
  looked_up : (test : Test) (number : ℕ) → slice_get plan.tests.items work.at ≡ Some test → test.check ≡ Stands number → is_asked cat.schema asked test.known.field.table ≡ true
  looked_up test number there check =
      let table = test.known.field.table in
      let stands : ℕ → Bool = λ t. not (nat_eq t table) in
      let misses : test_meets stands (λ _. true) test ≡ false = ap (check_meets stands (λ _. true) test.known.field) check ∙ ap not (itself_equal table) in
      kept_table (is_asked cat.schema asked) table asked.from
      (left_false _ _ (sym (tests_are stands (λ _. true)) ∙ unmet (test_meets stands (λ _. true)) plan.tests.items work.at test there misses)
      (all_true (filter (is_by_itself cat.schema) asked.conditions)))

  -- a column that is tested is compared
  tested : (test : Test) → slice_get plan.tests.items work.at ≡ Some test → (check : Check) → test.check ≡ check
      → IfHolds check (uses asked (is_at test.known.field.table test.known.field.column) ≡ true)
  tested test there (Stands number) e = tt
  tested test there (Holds wanted) e =
      let is = is_at test.known.field.table test.known.field.column in
      let holds : Condition → Bool = λ c. not (compares is c) in
      let misses : test_meets (λ _. true) holds test ≡ false =
      ap (check_meets (λ _. true) holds test.known.field) e
      ∙ ap not (ap₂ (λ a b. a && b) (itself_equal test.known.field.table) (itself_equal test.known.field.column)) in
      or_later (list_any is asked.select) (list_any (compares is) asked.conditions)
      (kept_condition (is_by_itself cat.schema) is asked.conditions
      (right_false _ _ (sym (tests_are (λ _. true) holds) ∙ unmet (test_meets (λ _. true) holds) plan.tests.items work.at test there misses)
      (all_true (filter (is_asked cat.schema asked) asked.from))))

  test_uses : (test : Test) → slice_get plan.tests.items work.at ≡ Some test → (check : Check) → test.check ≡ check → uses asked (is_of test.known.field.table) ≡ true
  test_uses test there (Stands number) e = of_asked cat.schema asked test.known.field.table (looked_up test number there e)
  test_uses test there (Holds wanted) e =
      of_column asked test.known.field.table test.known.field.column (tested test there (Holds wanted) e)

  at_test : (test : Test) → slice_get plan.tests.items work.at ≡ Some test → (row : Option ℕ) → reached_at work test.known.field.table ≡ row
      → IsReadNext (with_row row (next.Try test) (way_for plan work test.known.field.table))
  at_test test there None e = way_read test.known.field.table (test_uses test there test.check refl)
  at_test test there (Some identifier) e = by test.check refl
    where
      by : (check : Check) → test.check ≡ check
          → IsReadNeed cat asked plan.top (need_by (check_slot check test.known.source identifier) (check_look check test.known.field.table identifier) NoNeed)
      by (Stands number) c = (row_low test.known.field.table identifier e, looked_up test number there c)
      by (Holds wanted) c =
          from_source test.known.field.table test.known.field.column identifier test.known.source (source_at cat plan.tests.items work.at test sources_are there)
          (w.rows test.known.field.table identifier e) (tested test there (Holds wanted) c)

  at_value : (known : Known) → slice_get plan.columns.items work.put ≡ Some known → (row : Option ℕ) → reached_at work known.field.table ≡ row
      → IsReadNext (with_row row (next.Put known) (way_for plan work known.field.table))
  at_value known there None e =
      let is = known_at cat (columns_needed cat.schema asked plan.sifted) plan.columns.items work.put known columns_are there in
      way_read known.field.table (of_column asked known.field.table known.field.column (needed_is_used cat.schema asked plan.sifted known.field.table known.field.column is.1))
  at_value known there (Some identifier) e =
      let is = known_at cat (columns_needed cat.schema asked plan.sifted) plan.columns.items work.put known columns_are there in
      from_source known.field.table known.field.column identifier known.source is.0 (w.rows known.field.table identifier e)
      (needed_is_used cat.schema asked plan.sifted known.field.table known.field.column is.1)

  any_value : (found : Option Known) → slice_get plan.columns.items work.put ≡ found → IsReadNext (next_value plan work found)
  any_value None e = tt
  any_value (Some known) e = at_value known e (reached_at work known.field.table) refl

  any_test : (found : Option Test) → slice_get plan.tests.items work.at ≡ found → IsReadNext (next_test plan work found)
  any_test None e = any_value (slice_get plan.columns.items work.put) refl
  any_test (Some test) e = at_test test e (reached_at work test.known.field.table) refl

  pub need_is_read : IsReadNeed cat asked plan.top (need_of plan work)
  need_is_read = any_test (slice_get plan.tests.items work.at) refl
