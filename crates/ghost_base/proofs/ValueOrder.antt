-- The order of values is a total order.
use Rattle.std.proofs.Common.{◌≡◌, refl, ap, Less, Equal}
use Rattle.std.proofs.lemmas.Cmp.{nat_list_cmp_total, int_cmp_total}
use Rattle.std.proofs.lemmas.Map.Lookups.{exact_bytes, exact_signed}
use Rattle.std.specs.Ordering.{ordering_reverse}
use Rattle.std.specs.Cmp.{IsTotalOrder}
use Rattle.ghost_model.specs.core.Values.{Value, Null, Number, Text}
use Rattle.ghost_model.specs.core.Database.{order_of}

reversed : (a b : Value) → order_of a b ≡ ordering_reverse (order_of b a)
reversed Null Null = refl
reversed Null (Number b) = refl
reversed Null (Text b) = refl
reversed (Number a) Null = refl
reversed (Number a) (Number b) = int_cmp_total.antisymm a b
reversed (Number a) (Text b) = refl
reversed (Text a) Null = refl
reversed (Text a) (Number b) = refl
reversed (Text a) (Text b) = nat_list_cmp_total.antisymm a b

chained : (a b c : Value) → order_of a b ≡ Less → order_of b c ≡ Less → order_of a c ≡ Less
chained Null Null c h k = cc
chained Null (Number b) Null h k = cc
chained Null (Text b) Null h k = cc
chained Null (Number b) (Number c) h k = refl
chained Null (Number b) (Text c) h k = refl
chained Null (Text b) (Number c) h k = refl
chained Null (Text b) (Text c) h k = refl
chained (Number a) Null c h k = cc
chained (Number a) (Number b) Null h k = cc
chained (Number a) (Number b) (Number c) h k = int_cmp_total.trans a b c h k
chained (Number a) (Number b) (Text c) h k = refl
chained (Number a) (Text b) Null h k = cc
chained (Number a) (Text b) (Number c) h k = cc
chained (Number a) (Text b) (Text c) h k = refl
chained (Text a) Null c h k = cc
chained (Text a) (Number b) c h k = cc
chained (Text a) (Text b) Null h k = cc
chained (Text a) (Text b) (Number c) h k = cc
chained (Text a) (Text b) (Text c) h k = nat_list_cmp_total.trans a b c h k

pub same_value : (a b : Value) → order_of a b ≡ Equal → a ≡ b
same_value Null Null h = refl
same_value Null (Number b) h = cc
same_value Null (Text b) h = cc
same_value (Number a) Null h = cc
same_value (Number a) (Number b) h = ap Number (exact_signed a b h)
same_value (Number a) (Text b) h = cc
same_value (Text a) Null h = cc
same_value (Text a) (Number b) h = cc
same_value (Text a) (Text b) h = ap Text (exact_bytes a b h)

pub values_total : IsTotalOrder order_of
values_total = record {
  antisymm = reversed;
  trans = chained;
  congr = λ a b c h. ap (λ v. order_of v c) (same_value a b h);
}
