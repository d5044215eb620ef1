-- What the kinds, values and operators of the code stand for, in the words of the definitions.
use Rattle.ghost_model.specs.core.Schema as schema
use Rattle.ghost_model.specs.core.Values as values
use Rattle.ghost_model.specs.core.Query as query
use Rattle.ghost_base.specs.declared.kind.Kind.{Kind}
use Rattle.ghost_base.specs.declared.kind.Kind.TheVariants as kind
use Rattle.ghost_base.specs.declared.operator.Operator.{Operator}
use Rattle.ghost_base.specs.declared.operator.Operator.TheVariants as operator
use Rattle.ghost_base.specs.declared.test.Test.{Test}
use Rattle.ghost_base.specs.declared.test.Test.TheVariants as test
use Rattle.ghost_base.specs.declared.value.Value.{Value}
use Rattle.ghost_base.specs.declared.value.Value.TheVariants as value

abbrev pub kind_of : Kind → schema.Kind
kind_of kind.Integer = schema.Integer
kind_of (kind.Chars most) = schema.Chars most
kind_of kind.IntegerOrNull = schema.IntegerOrNull
kind_of (kind.CharsOrNull most) = schema.CharsOrNull most

abbrev pub value_of : Value → values.Value
value_of value.Null = values.Null
value_of (value.Int number) = values.Number number
value_of (value.Chars text) = values.Text text

abbrev pub operator_of : Operator → query.Operator
operator_of operator.Equal = query.Equal
operator_of operator.Unequal = query.Unequal
operator_of operator.Less = query.Less
operator_of operator.AtMost = query.AtMost
operator_of operator.More = query.More
operator_of operator.AtLeast = query.AtLeast

abbrev pub test_of : Test → query.Test
test_of (test.Compared operator literal) = query.Compared (operator_of operator) (value_of literal)
test_of test.IsNull = query.IsNull
test_of test.IsNotNull = query.IsNotNull
