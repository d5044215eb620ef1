-- Which tables a query asks for.
use Rattle.std.proofs.Common.{◌≡◌, ◌∙◌, ◌⊎◌, inl, inr, ◌<◌, ◌≤◌, ℕ, Bool, true, false, ◌||◌, ◌&&◌, nat_lt, nat_eq, filter, List, [], ◌∷◌, ◌++◌, length, get_or, slice_get, Option, None, Some, ap, sym, refl, subst, arith}
use Rattle.std.specs.List.{list_any}
use Rattle.std.proofs.lemmas.Bool.{or_right, eqb-true}
use Rattle.std.proofs.lemmas.Option.{slice_get_cases}
use Rattle.ghost_model.specs.core.Schema.{Schema, Table, columns_or_none, column_at, is_shown, is_visible}
use Rattle.ghost_model.specs.core.Query.{Query, Field, Condition, OneOf, Join}
use Rattle.ghost_model.specs.core.Replies.{Reply, reply_about}
use Rattle.ghost_model.specs.laws.SchemaTrees.{IsTree}
use Rattle.ghost_model.proofs.GroupLemmas.{some_is_any}
use Rattle.spj_parse.specs.Resolved.{is_group, joins_of, linked}
use Rattle.ghost_laws.specs.Asking.{is_asked, is_shown_of, is_compared_of}
use Rattle.key_exec.specs.Reading.{AreOfAsked}

any_append : {X : Type 0} (p : X → Bool) (xs ys : List X) → list_any p ys ≡ true → list_any p (xs ++ ys) ≡ true
any_append p [] ys some = some
any_append p (x ∷ xs) ys some = or_right (p x) (list_any p (xs ++ ys)) (any_append p xs ys some)

compared : (schema : Schema) (table : ℕ) (conditions : List Condition)
    → list_any (is_compared_of schema table) (filter is_group conditions) ≡ list_any (is_compared_of schema table) conditions
compared schema table [] = refl
compared schema table (OneOf first others ∷ conditions) = ap (λ b. is_compared_of schema table (OneOf first others) || b) (compared schema table conditions)
compared schema table (Join one other ∷ conditions) = compared schema table conditions

-- a query with its joins once asks for the same tables
asked_still : (schema : Schema) (meant : Query) (table : ℕ) → is_asked schema meant table ≡ true → is_asked schema (linked schema meant) table ≡ true
asked_still schema meant table asked = by (list_any (is_shown_of schema table) meant.select) asked
  where
    by : (shown : Bool) → (shown || list_any (is_compared_of schema table) meant.conditions) ≡ true
        → (shown || list_any (is_compared_of schema table) (joins_of schema meant.from ++ filter is_group meant.conditions)) ≡ true
    by true held = refl
    by false held =
        any_append (is_compared_of schema table) (joins_of schema meant.from) (filter is_group meant.conditions) (compared schema table meant.conditions ∙ held)

not_both : (b : Bool) → b ≡ true → b ≡ false → ⊥
not_both b is isnt = true_false (sym is ∙ isnt)
  where
    true_false : true ≡ false → ⊥
    true_false e = cc

pub of_asked_linked : (schema : Schema) (asked meant : Query) (given : List Reply) → asked ≡ linked schema meant → AreOfAsked schema meant given → AreOfAsked schema asked given
of_asked_linked schema asked meant given same of_asked table out =
    of_asked table
    (by (is_asked schema meant table) (λ in_meant. not_both (is_asked schema asked table) (ap (λ q. is_asked schema q table) same ∙ asked_still schema meant table in_meant) out))
  where
    by : (b : Bool) → (b ≡ true → ⊥) → b ≡ false
    by false never = refl
    by true never = absurd (never refl)

-- ---- a reply is about one of twelve tables

and_false : (b : Bool) → (b && false) ≡ false
and_false true = refl
and_false false = refl

none_some : {X : Type 0} (found : Option X) (x : X) → found ≡ None → found ≡ Some x → ⊥
none_some None x none some = cc
none_some (Some one) x none some = cc

shown_low : (schema : Schema) (table column : ℕ) → is_visible schema table column ≡ true → table < length schema
shown_low schema table column shown = by (slice_get_cases schema table).1
  where
    by : ((x : Table) × (table < length schema) × (slice_get schema table ≡ Some x) × (get_or schema table x ≡ x)) ⊎ ((length schema ≤ table) × (slice_get schema table ≡ None))
        → table < length schema
    by (inl there) = there.1
    by (inr none) =
        absurd (not_both (nat_lt 0 column && is_shown (column_at schema table column)) shown
        (ap (λ found. nat_lt 0 column && is_shown (slice_get (columns_or_none found) column)) none.1 ∙ and_false (nat_lt 0 column)))

is_low : (schema : Schema) (table : ℕ) (field : Field) → is_shown_of schema table field ≡ true → table < length schema
is_low schema table field shown = by (nat_eq field.table table) refl shown
  where
    by : (same : Bool) → nat_eq field.table table ≡ same → (same && is_visible schema field.table field.column) ≡ true → table < length schema
    by true at visible = subst (λ (n : ℕ). n < length schema) (eqb-true field.table table at) (shown_low schema field.table field.column visible)
    by false at visible = cc

any_low : {X : Type 0} (P : Type 0) (p : X → Bool) (xs : List X) → ((x : X) → p x ≡ true → P) → list_any p xs ≡ true → P
any_low P p [] each some = cc
any_low P p (x ∷ xs) each some = by (p x) refl (any_low P p xs each) some
  where
    by : (b : Bool) → p x ≡ b → (list_any p xs ≡ true → P) → (b || list_any p xs) ≡ true → P
    by true at rest held = each x at
    by false at rest held = rest held

one_low : (schema : Schema) (table : ℕ) (condition : Condition) → is_compared_of schema table condition ≡ true → table < length schema
one_low schema table (OneOf first others) shown =
    any_low (table < length schema) (λ one. is_shown_of schema table one.field) (first ∷ others) (λ one. is_low schema table one.field)
    (sym (some_is_any (λ one. is_shown_of schema table one.field) first others) ∙ shown)
one_low schema table (Join one other) shown = cc

-- an asked table is one of the schema
is_asked_low : (schema : Schema) (asked : Query) (table : ℕ) → is_asked schema asked table ≡ true → table < length schema
is_asked_low schema asked table is = by (list_any (is_shown_of schema table) asked.select) refl is
  where
    by : (shown : Bool) → list_any (is_shown_of schema table) asked.select ≡ shown
        → (shown || list_any (is_compared_of schema table) asked.conditions) ≡ true → table < length schema
    by true at held = any_low (table < length schema) (is_shown_of schema table) asked.select (λ field. is_low schema table field) at
    by false at held = any_low (table < length schema) (is_compared_of schema table) asked.conditions (λ condition. one_low schema table condition) held

pub asked_low : (schema : Schema) (asked : Query) (given : List Reply) → IsTree schema → AreOfAsked schema asked given
    → (table : ℕ) (reply : Reply) → reply_about table given ≡ Some reply → table < 12
asked_low schema asked given tree of_asked table reply about =
    let low : table < length schema = by (is_asked schema asked table) refl in
    omega (arith, low, tree.few_tables)
  where
    by : (is : Bool) → is_asked schema asked table ≡ is → table < length schema
    by true is = is_asked_low schema asked table is
    by false isnt = absurd (none_some (reply_about table given) reply (of_asked table isnt) about)
