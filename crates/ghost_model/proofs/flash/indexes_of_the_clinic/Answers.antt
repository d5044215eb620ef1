use Rattle.std.proofs.Common.{◌≡◌, refl, ℕ, zero, suc, ◌<◌, List, Contains, slice_index_or, arith}
use Rattle.std.specs.List.Sorted.{IsStrictlySortedBy}
use Rattle.ghost_model.specs.core.Schema.{places_from, ancestor}
use Rattle.ghost_model.specs.core.Database.{leads_within}
use Rattle.ghost_model.specs.forms.Gaps.{with_codes, with_lists}
use Rattle.ghost_model.specs.forms.Flash.{hidden_cells}
use Rattle.ghost_model.specs.examples.Clinic.{clinic_schema}
use Rattle.ghost_model.specs.examples.Flash.{hidden_clinic, countries}
use Rattle.ghost_model.proofs.flash.indexes_of_the_clinic.Goals as goal

country_cells : List (List ℕ)
country_cells = hidden_cells clinic_schema hidden_clinic 0 2

only : (value : List ℕ) (k : ℕ) → k < 2 → slice_index_or countries k value ≡ value → Contains country_cells value
unfolding country_cells places_from
only value zero low is = (1, omega arith, is)
only value (suc zero) low is = (0, omega arith, is)
only value (suc (suc k)) low is = absurd (omega (arith, low))

all : (cell : List ℕ) (k : ℕ) → k < 3 → slice_index_or country_cells k cell ≡ cell → Contains countries cell
unfolding country_cells places_from
all cell zero low is = (1, omega arith, is)
all cell (suc zero) low is = (0, omega arith, is)
all cell (suc (suc zero)) low is = (0, omega arith, is)
all cell (suc (suc (suc k))) low is = absurd (omega (arith, low))

pub returns : goal.returns
unfolding country_cells places_from ancestor leads_within IsStrictlySortedBy with_codes with_lists
returns c = record {
  are_countries = record {
    ascending = ((refl, tt), (tt, tt));
    only = λ value h. only value h.0 h.1 h.2;
    all = λ cell h. all cell h.0 h.1 h.2;
  };
  below_visits = refl;
  countries_of_doctors = refl;
  countries_of_visits = refl;
  directory_of_countries = refl;
  directory_of_names = refl;
  directory_of_purposes = refl;
  purposes_of_visits = refl;
  doctors_of_visits = refl;
  directory_of_doctors = refl;
  visits_of_doctors = refl;
}
