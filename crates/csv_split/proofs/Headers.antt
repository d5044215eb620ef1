-- The names of a header, one by one.
use Rattle.std.proofs.Common.{◌≡◌, ◌≤◌, ◌<◌, ◌+◌, ◌∙◌, ℕ, suc, Bool, true, false, ◌&&◌, List, [], ◌∷◌, length, drop, get_or, Some, sym, ap, ap₂, refl, arith, bytes_eq}
use Rattle.std.specs.Prelude.{slice_get}
use Rattle.std.proofs.lemmas.List.{drop_all, get_or-map, length-map}
use Rattle.tree_schema.specs.declared.schema.Column.{Column}
use Rattle.tree_schema.specs.Views.{column_of}
use Rattle.std.proofs.lemmas.Option.{slice_get-get_or}
use Rattle.ghost_model.specs.refusals.LoadFaults.{is_header}
use Rattle.ghost_model.specs.core.Schema as schema
use Rattle.ghost_model.specs.laws.SchemaTrees.{identifier}
use Rattle.ghost_model.specs.refusals.Tokens.{in_lower_case}
use Rattle.csv_split.proofs.FieldPlaces.{next}
use Rattle.csv_split.specs.Reading.{columns_of, with_identifier}

-- records of other lengths are no header
pub other_length : (columns : List schema.Column) (fields : List (List ℕ)) → (length fields ≡ length columns → ⊥) → false ≡ is_header columns fields
other_length [] [] other = absurd (other refl)
other_length [] (_ ∷ _) other = refl
other_length (_ ∷ _) [] other = refl
other_length (k ∷ ks) (f ∷ fs) other = both (bytes_eq (in_lower_case f) k.name) (other_length ks fs (λ same. other (ap suc same)))
  where
    both : (b : Bool) {rest : Bool} → false ≡ rest → false ≡ (b && rest)
    both true e = e
    both false e = refl

-- a header is one where its first name is right, and the others are
pub first_wrong : (columns : List schema.Column) (fields : List (List ℕ)) → length fields ≡ length columns + 1 → bytes_eq (in_lower_case (get_or fields 0 [])) identifier.name ≡ false
    → false ≡ is_header (with_identifier columns) fields
first_wrong columns [] many wrong = absurd (omega arith)
first_wrong columns (f ∷ fs) many wrong = ap (λ b. b && is_header columns fs) (sym wrong)

pub first_right : (columns : List schema.Column) (fields : List (List ℕ)) → length fields ≡ length columns + 1 → bytes_eq (in_lower_case (get_or fields 0 [])) identifier.name ≡ true
    → is_header (with_identifier columns) fields ≡ is_header (drop 0 columns) (drop (0 + 1) fields)
first_right columns [] many right = absurd (omega arith)
first_right columns (f ∷ fs) many right = ap (λ b. b && is_header columns fs) right

-- the names from a column on begin with its own
pub names_next : (columns : List schema.Column) (fields : List (List ℕ)) (i : ℕ) → i < length columns → length fields ≡ length columns + 1
    → is_header (drop i columns) (drop (i + 1) fields)
    ≡ (bytes_eq (in_lower_case (get_or fields (i + 1) [])) (get_or columns i identifier).name && is_header (drop (i + 1) columns) (drop (i + 1 + 1) fields))
names_next columns fields i within many = ap₂ is_header (next columns i identifier within) (next fields (i + 1) [] (omega arith))

pub all_named : (columns : List schema.Column) (fields : List (List ℕ)) (i : ℕ) → length columns ≤ i → length fields ≡ length columns + 1
    → is_header (drop i columns) (drop (i + 1) fields) ≡ true
all_named columns fields i past many = ap₂ is_header (drop_all i columns past) (drop_all (i + 1) fields (omega arith))

-- the column at a place
pub column_there : (declared : List Column) (i : ℕ) (column : Column) → i < length declared → column ≡ get_or declared i column
    → get_or (columns_of declared) i identifier ≡ column_of column
column_there declared i column within is = get_or-map column_of declared i column identifier within ∙ ap column_of (sym is)

pub held_there : (declared : List Column) (i : ℕ) (column : Column) → i < length declared → column ≡ get_or declared i column
    → slice_get (columns_of declared) i ≡ Some (column_of column)
held_there declared i column within is =
    let wide : length (columns_of declared) ≡ length declared = length-map declared column_of in
    slice_get-get_or (columns_of declared) i identifier (omega arith) ∙ ap Some (column_there declared i column within is)

-- one name further
pub name_next : (declared : List Column) (fields : List (List ℕ)) (i : ℕ) (column : Column) (same : Bool) → i < length declared → length fields ≡ length declared + 1
    → column ≡ get_or declared i column → same ≡ bytes_eq (in_lower_case (get_or fields (i + 1) [])) column.name.items
    → is_header (drop i (columns_of declared)) (drop (i + 1) fields) ≡ (same && is_header (drop (i + 1) (columns_of declared)) (drop (i + 1 + 1) fields))
name_next declared fields i column same within many is tested =
    let wide : length (columns_of declared) ≡ length declared = length-map declared column_of in
    names_next (columns_of declared) fields i (omega arith) (omega arith)
    ∙ ap (λ (held : schema.Column). bytes_eq (in_lower_case (get_or fields (i + 1) [])) held.name && is_header (drop (i + 1) (columns_of declared)) (drop (i + 1 + 1) fields)) (column_there declared i column within is)
    ∙ ap (λ b. b && is_header (drop (i + 1) (columns_of declared)) (drop (i + 1 + 1) fields)) (sym tested)
