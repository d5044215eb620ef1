use Rattle.std.proofs.Common.{◌≡◌, refl, ap, ℕ, zero, suc, ◌<◌, List, [], slice_index, get_or, arith}
use Rattle.std.specs.Fmt.{digits}
use Rattle.ghost_model.specs.core.Schema.{places_from, ancestor}
use Rattle.ghost_model.specs.forms.Runs.{Run, record_at, HasBlankRest}
use Rattle.ghost_model.specs.core.Database.{leads_within}
use Rattle.ghost_model.specs.forms.Gaps.{with_codes, with_lists}
use Rattle.ghost_model.specs.forms.Layout.{column_file}
use Rattle.ghost_model.specs.forms.Flash.{hidden_cells}
use Rattle.ghost_model.specs.forms.Work.{with_value, values_among}
use Rattle.ghost_model.specs.examples.Clinic.{clinic_schema, clinic_catalog}
use Rattle.ghost_model.specs.examples.Flash.{hidden_clinic, country_page}
use Rattle.ghost_model.proofs.flash.pages_of_the_clinic.Goals as goal

country_cells : List (List ℕ)
country_cells = hidden_cells clinic_schema hidden_clinic 0 2

country : Run
country = column_file clinic_catalog 0 2

each : (i : ℕ) → i < 3 → record_at (λ _. country_page) country i ≡ get_or country_cells i []
unfolding country country_cells record_at places_from
each zero low = refl
each (suc zero) low = refl
each (suc (suc zero)) low = refl
each (suc (suc (suc i))) low = absurd (omega (arith, low))

rest : HasBlankRest (λ _. country_page) country
unfolding country
rest zero low = refl
rest (suc i) low = absurd (omega (arith, low))

pub returns : goal.returns
unfolding country country_cells ancestor digits record_at places_from leads_within with_codes with_lists with_value values_among
returns c = record {
  first_page_is_whole = refl;
  second_page = refl;
  last_page = refl;
  country = record { has = record { count = refl; each = each }; rest = rest };
  another_country = λ h. let clash : 69 ≡ 70 = ap (λ bytes. slice_index bytes 0) (h.has.each 0 (omega arith)) in absurd (omega (arith, clash));
  a_byte_after_the_records = λ h. let clash : 0 ≡ 255 = ap (λ bytes. slice_index bytes 0) (h.rest 0 (omega arith)) in absurd (omega (arith, clash));
  for_the_catalog = refl;
  with_the_gate = refl;
  for_the_files = refl;
  built = refl;
  built_at_version_one = refl;
  built_for_the_notes = refl;
}
