-- Bounds of values, and of the cells and identifiers that stand for them.
use Rattle.std.specs.Prelude.{◌≡◌, ⊤, Bool, true, false, not, ◌&&◌, ◌||◌, Option, Some, None, if◌then◌else◌}
use Rattle.std.specs.declared.cmp.Ordering.TheVariants.{Less}
use Rattle.ghost_model.specs.core.Values.{Value, Null, is_null}
use Rattle.ghost_model.specs.core.Query.{Test, Compared, IsNull, IsNotNull}
use Rattle.ghost_model.specs.core.Database.{order_of}
use Rattle.ghost_model.specs.core.Meaning.{meets_test}
use Rattle.ghost_base.specs.Views.{value_of}
use Rattle.ghost_base.specs.declared.kind.Kind.{Kind}
use Rattle.ghost_base.specs.declared.operator.Operator.{Operator as Sign}
use Rattle.ghost_base.specs.declared.operator.Operator.TheVariants as sign
use Rattle.ghost_base.specs.declared.test.Test.{Test as Sought}
use Rattle.ghost_base.specs.declared.test.Test.TheVariants as tests
use Rattle.ghost_base.specs.declared.value.Value.{Value as Literal}
use Rattle.ghost_base.specs.declared.value.Value.TheVariants as literals
use Rattle.climbing_index.specs.declared.search.Bound.{Bound}
use Rattle.climbing_index.specs.Searches.{IsOfKind, before_by, fits_kind, is_past}
use Rattle.condition_lists.specs.declared.bounds.Between.{Between}
use Rattle.condition_lists.specs.declared.bounds.Bounds.{Bounds}

-- the bound below all values but NULL, where NULL may be among them
abbrev pub low_of : (nullable : Bool) → Option Bound
low_of nullable = if nullable then Some (record { value = literals.Null; included = false }) else None

-- the values below a literal, those above it, and it alone
abbrev pub below : (nullable included : Bool) → Literal → Between
below nullable included literal = record { low = low_of nullable; high = Some (record { value = literal; included = included }) }

abbrev pub above : (included : Bool) → Literal → Between
above included literal = record { low = Some (record { value = literal; included = included }); high = None }

abbrev pub only : Literal → Between
only literal = record { low = Some (record { value = literal; included = true }); high = Some (record { value = literal; included = true }) }

-- the first pair of a comparison, and the second, which only `<>` has
abbrev pub first_by : (nullable : Bool) → Sign → Literal → Between
first_by nullable sign.Equal literal = only literal
first_by nullable sign.Unequal literal = below nullable false literal
first_by nullable sign.Less literal = below nullable false literal
first_by nullable sign.AtMost literal = below nullable true literal
first_by nullable sign.More literal = above false literal
first_by nullable sign.AtLeast literal = above true literal

abbrev pub second_by : Sign → Literal → Option Between
second_by sign.Equal literal = None
second_by sign.Unequal literal = Some (above false literal)
second_by sign.Less literal = None
second_by sign.AtMost literal = None
second_by sign.More literal = None
second_by sign.AtLeast literal = None

-- those of a test: NULL alone, or all above it
abbrev pub first_in : (nullable : Bool) → Sought → Between
first_in nullable (tests.Compared operator literal) = first_by nullable operator literal
first_in nullable tests.IsNull = only literals.Null
first_in nullable tests.IsNotNull = above false literals.Null

abbrev pub second_in : Sought → Option Between
second_in (tests.Compared operator literal) = second_by operator literal
second_in tests.IsNull = None
second_in tests.IsNotNull = None

-- the pairs of some bounds
abbrev pub first_of : Bounds → Between
first_of bounds = first_in bounds.nullable bounds.test

abbrev pub second_of : Bounds → Option Between
second_of bounds = second_in bounds.test

-- the bounds of a test; a literal that is NULL meets no comparison, and nothing lies below it
abbrev pub bounds_by : (nullable : Bool) → Sought → Bounds
bounds_by nullable (tests.Compared operator literals.Null) = record { nullable = false; test = tests.Compared sign.Less literals.Null }
bounds_by nullable (tests.Compared operator (literals.Int number)) = record { nullable = nullable; test = tests.Compared operator (literals.Int number) }
bounds_by nullable (tests.Compared operator (literals.Chars text)) = record { nullable = nullable; test = tests.Compared operator (literals.Chars text) }
bounds_by nullable tests.IsNull = record { nullable = nullable; test = tests.IsNull }
bounds_by nullable tests.IsNotNull = record { nullable = nullable; test = tests.IsNotNull }

-- whether a value lies before a bound, which is the beginning or the end of what lies between two
abbrev pub value_before : (end : Bool) → Option Bound → Value → Bool
value_before end None value = end
value_before end (Some bound) value = before_by (is_past end bound.included) (order_of value (value_of bound.value))

abbrev pub lies_between : Between → Value → Bool
lies_between pair value = not (value_before false pair.low value) && value_before true pair.high value

abbrev pub lies_in_second : Option Between → Value → Bool
lies_in_second None value = false
lies_in_second (Some pair) value = lies_between pair value

-- whether it lies between one of the pairs
abbrev pub lies_within : Bounds → Value → Bool
lies_within bounds value = lies_between (first_of bounds) value || lies_in_second (second_of bounds) value

-- the values of a column between the bounds are those that meet the test, NULL among them only where the column may be NULL; and
-- those of the first pair lie below those of the second
pub record AreBoundsOf (nullable : Bool) (test : Test) (bounds : Bounds) : Type 0 where
  pub admits : (value : Value) → (is_null value ≡ true → nullable ≡ true) → lies_within bounds value ≡ meets_test test (Some value)
  pub ascend : (value other : Value) → lies_between (first_of bounds) value ≡ true → lies_in_second (second_of bounds) other ≡ true → order_of value other ≡ Less

-- the literal of a test is of a column's kind, and so is NULL where the column may be NULL; no other column is tested for it
abbrev pub has_kind : Option Kind → (nullable : Bool) → Test → Bool
has_kind kind nullable (Compared operator literal) = fits_kind kind literal
has_kind kind nullable IsNull = nullable
has_kind kind nullable IsNotNull = nullable

pub record HasKind (kind : Option Kind) (nullable : Bool) (test : Test) : Type 0 where
  pub null : nullable ≡ true → fits_kind kind Null ≡ true
  pub has : has_kind kind nullable test ≡ true

-- the bounds have values of a column's kind
pub record IsPairOfKind (kind : Option Kind) (pair : Between) : Type 0 where
  pub low : IsOfKind kind pair.low
  pub high : IsOfKind kind pair.high

abbrev pub IsSecondOfKind : Option Kind → Option Between → Type 0
IsSecondOfKind kind None = ⊤
IsSecondOfKind kind (Some pair) = IsPairOfKind kind pair

pub record AreOfKind (kind : Option Kind) (bounds : Bounds) : Type 0 where
  pub first : IsPairOfKind kind (first_of bounds)
  pub second : IsSecondOfKind kind (second_of bounds)
