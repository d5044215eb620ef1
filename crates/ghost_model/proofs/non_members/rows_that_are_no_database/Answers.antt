use Rattle.std.proofs.Common.{◌≡◌, refl, ap, arith, ℕ, pos, Option, Some}
use Rattle.ghost_model.specs.core.Values.{Value, Number}
use Rattle.ghost_model.proofs.non_members.rows_that_are_no_database.Goals as goal

abbrev number_in : Option Value → ℕ
number_in (Some (Number (pos number))) = number
number_in _ = 0

pub returns : goal.returns
returns c = record {
  a_table_is_missing = λ d. let clash : 2 ≡ 3 = d.tables in absurd (omega (arith, clash));
  a_value_is_missing = λ d. let clash : 2 ≡ 3 = d.widths 0 1 _ refl in absurd (omega (arith, clash));
  rows_from_two_on = λ d. let clash : 2 ≡ 1 = ap number_in (d.identifiers 0 1 _ refl) in absurd (omega (arith, clash));
  a_number_for_a_text = λ d. absurd (cc (d.kinds 0 1 1 _ _ refl refl));
  a_long_text = λ d. absurd (cc (d.kinds 0 1 2 _ _ refl refl));
  no_such_doctor = λ d. absurd (cc (d.references 2 1 3 0 _ _ refl refl refl));
  doctor_zero = λ d. absurd (cc (d.references 2 1 3 0 _ _ refl refl refl));
}
