-- Forms of texts over the remainders, the clinic and three tables one below another, with so many replied rows of each table.
use Rattle.std.specs.Prelude.{◌≡◌, ℕ, List, [], ◌∷◌, ◌++◌, codes, Option, Some, None, Result, Ok, Err}
use Rattle.ghost_model.specs.core.Channel.{Catalog}
use Rattle.ghost_model.specs.core.Query.{Query}
use Rattle.ghost_model.specs.refusals.QueryMeaning.{Refusal}
use Rattle.ghost_model.specs.readings.QueryReading.{reading}
use Rattle.ghost_model.specs.examples.Layout.{remainders_catalog}
use Rattle.ghost_model.specs.examples.Clinic.{clinic_catalog, id_column, number_column, hidden_text_column, key_column}
use Rattle.leakless_plan.specs.declared.form.Form.{Form}
use Rattle.leakless_plan.specs.declared.form.Form.TheVariants.{Pre, Post, CrossPre, CrossPost}
use Rattle.leakless_plan.specs.Choices.{forms_of, form_by_rows}

-- the forms of a text that was read; a refused one has none
abbrev pub forms_of_reading : Catalog → Result Query Refusal → (replied : List ℕ) → (forced : Option Form) → List (Option Form)
forms_of_reading cat (Ok asked) replied forced = forms_of cat asked replied forced
forms_of_reading cat (Err refusal) replied forced = []

-- those of a text over the remainders with such conditions: leaf is the first table, with 50 rows, and top the second
abbrev pub forms_on_leaves : (conditions : List ℕ) → (replied : ℕ) → (forced : Option Form) → List (Option Form)
forms_on_leaves conditions replied forced =
    forms_of_reading remainders_catalog
    (reading remainders_catalog.schema (codes "SELECT top.id FROM top, leaf WHERE lf = leaf.id AND " ++ conditions))
    (replied ∷ 0 ∷ []) forced

-- those of a text over the clinic: doctor, patient, visit
abbrev pub forms_on_clinic : (text : List ℕ) → (replied : List ℕ) → (forced : Option Form) → List (Option Form)
forms_on_clinic text replied forced = forms_of_reading clinic_catalog (reading clinic_catalog.schema text) replied forced

pub record FormsByRows : Type 0 where
  pub a_tenth : form_by_rows 5 50 ≡ Pre
  pub one_row_more : form_by_rows 6 50 ≡ Post
  pub no_rows : form_by_rows 0 0 ≡ Pre

-- the form of leaf comes first; top, the top table, has none
pub record FormsOnLeaves : Type 0 where
  pub up_to_a_tenth : forms_on_leaves (codes "tag <= 5") 5 None ≡ Some Pre ∷ None ∷ []
  pub above_a_tenth : forms_on_leaves (codes "tag <= 6") 6 None ≡ Some Post ∷ None ∷ []
  pub with_a_hidden_column : forms_on_leaves (codes "tag <= 5 AND mark = 3") 5 None ≡ Some CrossPre ∷ None ∷ []
  pub with_an_identifier : forms_on_leaves (codes "tag <= 6 AND leaf.id > 2") 6 None ≡ Some CrossPost ∷ None ∷ []
  pub with_a_condition_above : forms_on_leaves (codes "tag <= 5 AND val = 3") 5 None ≡ Some Pre ∷ None ∷ []
  pub without_visible_conditions : forms_on_leaves (codes "mark = 3") 0 None ≡ None ∷ None ∷ []
  pub of_the_top_table : forms_on_leaves (codes "num <= 5") 0 None ≡ None ∷ None ∷ []
  pub forced : forms_on_leaves (codes "tag <= 6 AND mark = 3") 6 (Some Pre) ≡ Some Pre ∷ None ∷ []
  pub post_forced : forms_on_leaves (codes "tag <= 5 AND mark = 3") 5 (Some Post) ≡ Some Post ∷ None ∷ []
  pub cross_forced : forms_on_leaves (codes "tag <= 5 AND mark = 3") 5 (Some CrossPost) ≡ Some CrossPost ∷ None ∷ []
  pub cross_forced_without_a_condition : forms_on_leaves (codes "tag <= 5") 5 (Some CrossPost) ≡ Some Post ∷ None ∷ []

-- a group of visible columns links its table, a mixed one does not, and one of several hidden columns does not cross for now
pub record FormsOfGroups : Type 0 where
  pub of_visible_columns : forms_on_leaves (codes "tag IN (3, 4)") 5 None ≡ Some Pre ∷ None ∷ []
  pub with_another : forms_on_leaves (codes "(tag = 3 OR tag > 48) AND mark = 3") 6 None ≡ Some CrossPost ∷ None ∷ []
  pub of_mixed_columns : forms_on_leaves (codes "(tag = 3 OR mark = 3)") 5 None ≡ None ∷ None ∷ []
  pub of_hidden_columns : forms_on_leaves (codes "tag <= 5 AND mark IN (3, 4)") 5 None ≡ Some Pre ∷ None ∷ []

pub record FormsOnTheClinic : Type 0 where
  pub of_one_table :
      forms_on_clinic (codes "SELECT visit.id FROM visit, doctor WHERE doc = doctor.id AND specialty = 'cardio' AND country = 'ES'") (2 ∷ 0 ∷ 0 ∷ []) None
      ≡ Some CrossPost ∷ None ∷ None ∷ []
  pub of_two_tables :
      forms_on_clinic (codes "SELECT day FROM visit, doctor, patient WHERE doc = doctor.id AND pat = patient.id AND specialty = 'x' AND age > 50 AND name = 'Ann'") (0 ∷ 0 ∷ 0 ∷ []) (Some CrossPre)
      ≡ Some Pre ∷ Some CrossPre ∷ None ∷ []

-- three tables: the rows of high lead to those of mid, and these to those of low
abbrev pub levels_catalog : Catalog
levels_catalog = record {
  schema =
      record { name = codes "low"; columns = id_column ∷ number_column (codes "size") ∷ hidden_text_column (codes "mark") 2 ∷ [] }
      ∷ record { name = codes "mid"; columns = id_column ∷ number_column (codes "tag") ∷ hidden_text_column (codes "name") 2 ∷ key_column (codes "lo") 0 ∷ [] }
      ∷ record { name = codes "high"; columns = id_column ∷ key_column (codes "mi") 1 ∷ [] }
      ∷ [];
  counts = 10 ∷ 20 ∷ 30 ∷ [];
  generation = 1;
  version = 2;
}

-- those of a text over them with such conditions: low, mid, high
abbrev pub forms_on_levels : (conditions : List ℕ) → (replied : List ℕ) → List (Option Form)
forms_on_levels conditions replied =
    forms_of_reading levels_catalog
    (reading levels_catalog.schema (codes "SELECT high.id FROM high, mid, low WHERE mi = mid.id AND lo = low.id AND " ++ conditions))
    replied None

-- a condition of the key's crosses a table where it lies below that table, and not where it lies above
pub record FormsOverThreeLevels : Type 0 where
  pub with_a_condition_below : forms_on_levels (codes "tag < 3 AND mark = 'x'") (0 ∷ 2 ∷ 0 ∷ []) ≡ None ∷ Some CrossPre ∷ None ∷ []
  pub with_a_condition_above : forms_on_levels (codes "size < 3 AND name = 'x'") (1 ∷ 0 ∷ 0 ∷ []) ≡ Some Pre ∷ None ∷ None ∷ []
