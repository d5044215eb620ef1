-- Which files plans read for texts over the clinic, and of which a slot may be blamed.
use Rattle.std.specs.Prelude.{◌≡◌, ℕ, Bool, true, false, List, [], ◌∷◌, codes, filter, Option, Some, None, Result, Ok, Err}
use Rattle.ghost_model.specs.core.Values.{Text}
use Rattle.ghost_model.specs.core.Query.{Query, compared, Join, Equal}
use Rattle.ghost_model.specs.forms.Layout.{File, Cells, Subtrees, IndexHeader, IndexDirectory, IndexLevel, IdDirectory, IdLevel, run_of_file}
use Rattle.ghost_model.specs.refusals.QueryMeaning.{Refusal, field}
use Rattle.ghost_model.specs.readings.QueryReading.{reading}
use Rattle.ghost_model.specs.examples.Clinic.{clinic_schema, clinic_catalog, clinic}
use Rattle.ghost_model.specs.examples.Meaning.{cardio_on, doctors_where, visits_of_spain, visits_where}
use Rattle.ghost_model.specs.examples.Slots.{clinic_files, directory_page}
use Rattle.leakless_plan.specs.declared.form.Form.{Form}
use Rattle.leakless_plan.specs.declared.form.Form.TheVariants.{Pre, Post}
use Rattle.candidate_gathering.specs.known.Reading.{is_read_by, IsBadSlotBy}
use Rattle.candidate_gathering.specs.known.May.{may_blame}

-- the files of the clinic that are read for a text that was read, whose top table is visit; of a refused one none is
abbrev pub files_for : (forced : Option Form) → Result Query Refusal → List File
files_for forced (Ok asked) = filter (is_read_by clinic_catalog asked forced 2) clinic_files
files_for forced (Err refusal) = []

abbrev pub files_read : (forced : Option Form) → (text : List ℕ) → List File
files_read forced text = files_for forced (reading clinic_schema text)

-- the visits to doctors of a specialty and a country, and the names of patients
abbrev pub cardio_in_spain : List ℕ
cardio_in_spain = codes "SELECT visit.id FROM visit, doctor WHERE doc = doctor.id AND specialty = 'cardio' AND country = 'ES'"

abbrev pub names_of_visits : List ℕ
names_of_visits = codes "SELECT name, purpose FROM visit, patient WHERE pat = patient.id AND day >= 5"

pub record FilesReadOverTheClinic : Type 0 where
  -- the index of purposes, and the visits of the replied doctors
  pub a_condition_and_a_reply : files_read None (cardio_on (codes "flu"))
      ≡ IdDirectory 0 ∷ IdLevel 0 0 ∷ Subtrees 2 ∷ IndexHeader 2 2 ∷ IndexDirectory 2 2 ∷ IndexLevel 2 2 0 ∷ []
  -- by `post` the replied doctors are no list
  pub by_post : files_read (Some Post) (cardio_on (codes "flu")) ≡ Subtrees 2 ∷ IndexHeader 2 2 ∷ IndexDirectory 2 2 ∷ IndexLevel 2 2 0 ∷ []
  -- the visits of a country, and no list of its doctors
  pub a_condition_below : files_read None visits_of_spain ≡ IndexHeader 0 2 ∷ IndexDirectory 0 2 ∷ IndexLevel 0 2 1 ∷ []
  -- by a cross form its doctors are intersected with the replied ones
  pub crossed : files_read None cardio_in_spain
      ≡ IndexHeader 0 2 ∷ IndexDirectory 0 2 ∷ IndexLevel 0 2 0 ∷ IndexLevel 0 2 1 ∷ IdDirectory 0 ∷ IdLevel 0 0 ∷ Subtrees 2 ∷ []
  pub not_crossed : files_read (Some Pre) cardio_in_spain
      ≡ IndexHeader 0 2 ∷ IndexDirectory 0 2 ∷ IndexLevel 0 2 1 ∷ IdDirectory 0 ∷ IdLevel 0 0 ∷ Subtrees 2 ∷ []
  pub selected_columns : files_read None names_of_visits ≡ Cells 1 2 ∷ Cells 2 2 ∷ Subtrees 2 ∷ []
  -- the hidden column of a mixed group is read of each row that is left, and so is that of a list for now; the host tests a visible list
  pub a_mixed_group : files_read None (visits_where (codes "(day = 9 OR purpose = 'check')")) ≡ Cells 2 2 ∷ []
  pub a_hidden_list : files_read None (doctors_where (codes "country IN ('FR', 'DE')")) ≡ Cells 0 2 ∷ Subtrees 2 ∷ []
  pub a_visible_list : files_read None (doctors_where (codes "specialty IN ('cardio', 'derma')")) ≡ IdDirectory 0 ∷ IdLevel 0 0 ∷ Subtrees 2 ∷ []

-- SELECT visit.id FROM visit, doctor WHERE doc = doctor.id AND country = 'ES', and the same of purposes
abbrev pub spanish : Query
spanish = record {
  from = 2 ∷ 0 ∷ [];
  select = field 2 0 ∷ [];
  conditions = Join (field 2 3) (field 0 0) ∷ compared (field 0 2) Equal (Text (codes "ES")) ∷ [];
}

abbrev pub for_flu : Query
for_flu = record {
  from = 2 ∷ [];
  select = field 2 0 ∷ [];
  conditions = compared (field 2 2) Equal (Text (codes "flu")) ∷ [];
}

-- whether a slot of the directory of doctor.country may be blamed for a query
abbrev pub blames_countries : Query → Bool
blames_countries asked = may_blame true clinic_catalog asked None 2 0 (run_of_file clinic_catalog (IndexDirectory 0 2))

-- a directory whose second country stands before its first one
pub record DamageInAnIndex : Type 0 where
  pub means : reading clinic_schema visits_of_spain ≡ Ok spanish
  pub is_bad : IsBadSlotBy (λ _. directory_page) clinic_catalog spanish None 2 clinic 258 1 0x4553000000020000
  pub blamed : blames_countries spanish ≡ true
  pub not_for_another_text : blames_countries for_flu ≡ false
