use Rattle.std.proofs.Common.{◌≡◌, false, refl}
use Rattle.ghost_model.specs.core.Values.{Value, Null, Number, Text}
use Rattle.ghost_model.specs.core.Query.{Operator}
use Rattle.ghost_model.specs.core.Database.{holds}
use Rattle.ghost_model.proofs.meaning.comparisons_with_null.Goals as goal

null_second : (operator : Operator) (value : Value) → holds operator value Null ≡ false
null_second operator Null = refl
null_second operator (Number _) = refl
null_second operator (Text _) = refl

pub returns : goal.returns
returns c = record {
  before_the_least = refl;
  before_the_empty_text = refl;
  behind_null = refl;
  beside_itself = refl;
  first = refl;
  second = refl;
  both = refl;
  first_beside_any = λ operator value. refl;
  second_beside_any = null_second;
  first_beside_a_text = refl;
  second_beside_a_text = refl;
  less = refl;
  equal = refl;
}
