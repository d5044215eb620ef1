-- The order of values between bounds.
use Rattle.std.proofs.Common.{◌≡◌, ◌∙◌, refl, ap, ap₂, sym, ℕ, ◌<◌, pos, inl, inr, Bool, true, false, not, ◌&&◌, arith}
use Rattle.std.specs.Prelude.{◌||◌, cond, int_lt, Option}
use Rattle.std.specs.Cmp.{IsTotalOrder}
use Rattle.std.specs.Ordering.{ordering_reverse}
use Rattle.std.specs.declared.cmp.Ordering.{Ordering}
use Rattle.std.specs.declared.cmp.Ordering.TheVariants as order
use Rattle.std.proofs.lemmas.Bool.{cases_lt}
use Rattle.std.proofs.lemmas.Int.{ints}
use Rattle.ghost_model.specs.core.Values.{Value, Null, Number, Text, is_null}
use Rattle.ghost_model.specs.core.Query.{Operator, Compared}
use Rattle.ghost_model.specs.core.Database.{order_of, meets, holds}
use Rattle.ghost_base.specs.Views.{operator_of, test_of, value_of}
use Rattle.ghost_base.specs.declared.kind.Kind.{Kind}
use Rattle.ghost_base.specs.declared.operator.Operator.{Operator as Sign}
use Rattle.ghost_base.specs.declared.operator.Operator.TheVariants as sign
use Rattle.ghost_base.specs.declared.test.Test.{Test as Sought}
use Rattle.ghost_base.specs.declared.test.Test.TheVariants as tests
use Rattle.ghost_base.specs.declared.value.Value.{Value as Literal}
use Rattle.ghost_base.specs.declared.value.Value.TheVariants as literals
use Rattle.climbing_index.specs.Searches.{IsOfKind, before_by, fits_kind}
use Rattle.condition_lists.specs.declared.bounds.Bounds.{Bounds}
use Rattle.condition_lists.specs.Bounds.{AreBoundsOf, AreOfKind, HasKind, bounds_by, first_by, lies_between, lies_in_second, lies_within, low_of, second_by, value_before}

below : (at : Ordering) → before_by false at ≡ true → at ≡ order.Less
below order.Less e = refl
below order.Equal e = absurd (cc (e))
below order.Greater e = absurd (cc (e))

above : (at : Ordering) → (not (before_by true at) && true) ≡ true → at ≡ order.Greater
above order.Less e = absurd (cc (e))
above order.Equal e = absurd (cc (e))
above order.Greater e = refl

-- what lies below a literal lies below what lies above it
pub below_above : IsTotalOrder order_of → (literal value other : Value) → before_by false (order_of value literal) ≡ true
    → (not (before_by true (order_of other literal)) && true) ≡ true → order_of value other ≡ order.Less
below_above total literal value other low high =
    total.trans value literal other (below (order_of value literal) low)
    (total.antisymm literal other ∙ ap ordering_reverse (above (order_of other literal) high))

-- numbers are ordered as they count
never_less : (b : Bool) → cond b order.Greater order.Equal ≡ order.Less → ⊥
never_less true e = cc
never_less false e = cc

pub counts_less : (a b : ℕ) → order_of (Number (pos a)) (Number (pos b)) ≡ order.Less → a < b
counts_less a b e =
    elim (cases_lt a b) [
      | inl less ↦ less
      | inr most ↦ (
          let no : int_lt (pos a) (pos b) ≡ false = grind (arith, ints) in
          absurd (never_less (int_lt (pos b) (pos a)) (sym (ap (λ t. cond t order.Less (cond (int_lt (pos b) (pos a)) order.Greater order.Equal)) no) ∙ e)))
    ]

-- whether a value lies within the bounds of an operator, by its order to their literal
abbrev lies_by : Sign → Ordering → Bool
lies_by sign.Equal at = (not (before_by false at) && before_by true at) || false
lies_by sign.Unequal at = (true && before_by false at) || (not (before_by true at) && true)
lies_by sign.Less at = (true && before_by false at) || false
lies_by sign.AtMost at = (true && before_by true at) || false
lies_by sign.More at = (not (before_by true at) && true) || false
lies_by sign.AtLeast at = (not (before_by false at) && true) || false

-- the same of NULL, which may lie below the lower bound
abbrev null_by : Sign → (low : Bool) → Ordering → Bool
null_by sign.Equal low at = (not (before_by false at) && before_by true at) || false
null_by sign.Unequal low at = (not low && before_by false at) || (not (before_by true at) && true)
null_by sign.Less low at = (not low && before_by false at) || false
null_by sign.AtMost low at = (not low && before_by true at) || false
null_by sign.More low at = (not (before_by true at) && true) || false
null_by sign.AtLeast low at = (not (before_by false at) && true) || false

-- below, above and at a literal lie the values with which an operator holds
holds_by : (operator : Sign) (at : Ordering) → lies_by operator at ≡ meets (operator_of operator) at
holds_by sign.Equal order.Less = refl
holds_by sign.Equal order.Equal = refl
holds_by sign.Equal order.Greater = refl
holds_by sign.Unequal order.Less = refl
holds_by sign.Unequal order.Equal = refl
holds_by sign.Unequal order.Greater = refl
holds_by sign.Less order.Less = refl
holds_by sign.Less order.Equal = refl
holds_by sign.Less order.Greater = refl
holds_by sign.AtMost order.Less = refl
holds_by sign.AtMost order.Equal = refl
holds_by sign.AtMost order.Greater = refl
holds_by sign.More order.Less = refl
holds_by sign.More order.Equal = refl
holds_by sign.More order.Greater = refl
holds_by sign.AtLeast order.Less = refl
holds_by sign.AtLeast order.Equal = refl
holds_by sign.AtLeast order.Greater = refl

-- no value but NULL lies below the bound that leaves NULL out
above_null : (nullable : Bool) (value : Value) → is_null value ≡ false → value_before false (low_of nullable) value ≡ false
above_null false value some = refl
above_null true Null some = absurd (cc (some))
above_null true (Number n) some = refl
above_null true (Text t) some = refl

abbrev compared_bounds : Bool → Sign → Literal → Bounds
compared_bounds nullable operator literal = record { nullable = nullable; test = tests.Compared operator literal }

within_by : (nullable : Bool) (operator : Sign) (literal : Literal) (value : Value) → is_null value ≡ false
    → lies_within (compared_bounds nullable operator literal) value ≡ lies_by operator (order_of value (value_of literal))
within_by nullable sign.Equal literal value some = refl
within_by nullable sign.Unequal literal value some =
    ap (λ b. (not b && before_by false (order_of value (value_of literal))) || (not (before_by true (order_of value (value_of literal))) && true)) (above_null nullable value some)
within_by nullable sign.Less literal value some = ap (λ b. (not b && before_by false (order_of value (value_of literal))) || false) (above_null nullable value some)
within_by nullable sign.AtMost literal value some = ap (λ b. (not b && before_by true (order_of value (value_of literal))) || false) (above_null nullable value some)
within_by nullable sign.More literal value some = refl
within_by nullable sign.AtLeast literal value some = refl

-- NULL lies below each literal, and it is left out
null_left_out : (operator : Sign) (at : Ordering) → at ≡ order.Less → (low : Bool) → low ≡ true → null_by operator low at ≡ false
null_left_out sign.Equal at e low f = ap (λ o. (not (before_by false o) && before_by true o) || false) e
null_left_out sign.Unequal at e low f = ap₂ (λ b o. (not b && before_by false o) || (not (before_by true o) && true)) f e
null_left_out sign.Less at e low f = ap (λ b. (not b && before_by false at) || false) f
null_left_out sign.AtMost at e low f = ap (λ b. (not b && before_by true at) || false) f
null_left_out sign.More at e low f = ap (λ o. (not (before_by true o) && true) || false) e
null_left_out sign.AtLeast at e low f = ap (λ o. (not (before_by false o) && true) || false) e

null_within : (operator : Sign) (literal : Literal) → order_of Null (value_of literal) ≡ order.Less → lies_within (compared_bounds true operator literal) Null ≡ false
null_within sign.Equal literal e = null_left_out sign.Equal (order_of Null (value_of literal)) e true refl
null_within sign.Unequal literal e = null_left_out sign.Unequal (order_of Null (value_of literal)) e true refl
null_within sign.Less literal e = refl
null_within sign.AtMost literal e = refl
null_within sign.More literal e = null_left_out sign.More (order_of Null (value_of literal)) e true refl
null_within sign.AtLeast literal e = null_left_out sign.AtLeast (order_of Null (value_of literal)) e true refl

-- what lies in the first pair lies below its upper bound
under : (a b : Bool) → (a && b) ≡ true → b ≡ true
under true b e = e
under false b e = absurd (cc (e))

ascend_by : IsTotalOrder order_of → (nullable : Bool) (operator : Sign) (literal : Literal) (value other : Value)
    → lies_between (first_by nullable operator literal) value ≡ true → lies_in_second (second_by operator literal) other ≡ true → order_of value other ≡ order.Less
ascend_by total nullable sign.Equal literal value other low high = absurd (cc (high))
ascend_by total nullable sign.Unequal literal value other low high =
    below_above total (value_of literal) value other (under (not (value_before false (low_of nullable) value)) (before_by false (order_of value (value_of literal))) low) high
ascend_by total nullable sign.Less literal value other low high = absurd (cc (high))
ascend_by total nullable sign.AtMost literal value other low high = absurd (cc (high))
ascend_by total nullable sign.More literal value other low high = absurd (cc (high))
ascend_by total nullable sign.AtLeast literal value other low high = absurd (cc (high))

-- an operator holds between values that are not NULL as their order meets it
holds_some : (operator : Operator) (a b : Value) → is_null a ≡ false → is_null b ≡ false → meets operator (order_of a b) ≡ holds operator a b
holds_some operator a b some other = ap₂ (λ x y. not (x || y) && meets operator (order_of a b)) (sym some) (sym other)

of_value : (nullable : Bool) (operator : Sign) (literal : Literal) → is_null (value_of literal) ≡ false → (value : Value) → is_null value ≡ false
    → lies_within (compared_bounds nullable operator literal) value ≡ holds (operator_of operator) value (value_of literal)
of_value nullable operator literal other value some =
    within_by nullable operator literal value some ∙ holds_by operator (order_of value (value_of literal))
    ∙ holds_some (operator_of operator) value (value_of literal) some other

-- NULL is less than a literal that is not NULL
null_less : (literal : Value) → is_null literal ≡ false → order_of Null literal ≡ order.Less
null_less Null some = absurd (cc (some))
null_less (Number n) some = refl
null_less (Text t) some = refl

admits_by : (nullable : Bool) (operator : Sign) (literal : Literal) → is_null (value_of literal) ≡ false → (value : Value) → (is_null value ≡ true → nullable ≡ true)
    → lies_within (compared_bounds nullable operator literal) value ≡ holds (operator_of operator) value (value_of literal)
admits_by true operator literal other Null may = null_within operator literal (null_less (value_of literal) other)
admits_by false operator literal other Null may = absurd (let no : false ≡ true = may refl in cc)
admits_by nullable operator literal other (Number n) may = of_value nullable operator literal other (Number n) refl
admits_by nullable operator literal other (Text t) may = of_value nullable operator literal other (Text t) refl

of_operator : IsTotalOrder order_of → (nullable : Bool) (operator : Sign) (literal : Literal) → is_null (value_of literal) ≡ false
    → AreBoundsOf nullable (Compared (operator_of operator) (value_of literal)) (compared_bounds nullable operator literal)
of_operator total nullable operator literal other = record {
  admits = λ value may. admits_by nullable operator literal other value may;
  ascend = λ value other low high. ascend_by total nullable operator literal value other low high;
}

-- below NULL lies nothing
none_by : (operator : Operator) (value : Value) → lies_within (compared_bounds false sign.Less literals.Null) value ≡ holds operator value Null
none_by operator Null = refl
none_by operator (Number n) = refl
none_by operator (Text t) = refl

null_by_test : (nullable : Bool) (value : Value) → lies_within (record { nullable = nullable; test = tests.IsNull }) value ≡ is_null value
null_by_test nullable Null = refl
null_by_test nullable (Number n) = refl
null_by_test nullable (Text t) = refl

some_by_test : (nullable : Bool) (value : Value) → lies_within (record { nullable = nullable; test = tests.IsNotNull }) value ≡ not (is_null value)
some_by_test nullable Null = refl
some_by_test nullable (Number n) = refl
some_by_test nullable (Text t) = refl

-- those of any test
pub of_test : IsTotalOrder order_of → (nullable : Bool) (test : Sought) → AreBoundsOf nullable (test_of test) (bounds_by nullable test)
of_test total nullable (tests.Compared operator literals.Null) = record {
  admits = λ value may. none_by (operator_of operator) value;
  ascend = λ value other low high. ascend_by total false sign.Less literals.Null value other low high;
}
of_test total nullable (tests.Compared operator (literals.Int number)) = of_operator total nullable operator (literals.Int number) refl
of_test total nullable (tests.Compared operator (literals.Chars text)) = of_operator total nullable operator (literals.Chars text) refl
of_test total nullable tests.IsNull = record {
  admits = λ value may. null_by_test nullable value;
  ascend = λ value other low high. absurd (cc (high));
}
of_test total nullable tests.IsNotNull = record {
  admits = λ value may. some_by_test nullable value;
  ascend = λ value other low high. absurd (cc (high));
}

-- they have the literal or NULL for their values
low_fits : (kind : Option Kind) (nullable : Bool) → (nullable ≡ true → fits_kind kind Null ≡ true) → IsOfKind kind (low_of nullable)
low_fits kind true null = null refl
low_fits kind false null = tt

compared_fit : (kind : Option Kind) (nullable : Bool) (operator : Sign) (literal : Literal) → (nullable ≡ true → fits_kind kind Null ≡ true)
    → fits_kind kind (value_of literal) ≡ true → AreOfKind kind (compared_bounds nullable operator literal)
compared_fit kind nullable sign.Equal literal null fits = record { first = record { low = fits; high = fits }; second = tt }
compared_fit kind nullable sign.Unequal literal null fits = record { first = record { low = low_fits kind nullable null; high = fits }; second = record { low = fits; high = tt } }
compared_fit kind nullable sign.Less literal null fits = record { first = record { low = low_fits kind nullable null; high = fits }; second = tt }
compared_fit kind nullable sign.AtMost literal null fits = record { first = record { low = low_fits kind nullable null; high = fits }; second = tt }
compared_fit kind nullable sign.More literal null fits = record { first = record { low = fits; high = tt }; second = tt }
compared_fit kind nullable sign.AtLeast literal null fits = record { first = record { low = fits; high = tt }; second = tt }

pub of_kind : (kind : Option Kind) (nullable : Bool) (test : Sought) → HasKind kind nullable (test_of test) → AreOfKind kind (bounds_by nullable test)
of_kind kind nullable (tests.Compared operator literals.Null) are = record { first = record { low = tt; high = are.has }; second = tt }
of_kind kind nullable (tests.Compared operator (literals.Int number)) are = compared_fit kind nullable operator (literals.Int number) are.null are.has
of_kind kind nullable (tests.Compared operator (literals.Chars text)) are = compared_fit kind nullable operator (literals.Chars text) are.null are.has
of_kind kind nullable tests.IsNull are = record { first = record { low = are.null are.has; high = are.null are.has }; second = tt }
of_kind kind nullable tests.IsNotNull are = record { first = record { low = are.null are.has; high = tt }; second = tt }
