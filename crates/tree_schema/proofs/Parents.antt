-- The parents of all tables, noted table after table.
use Rattle.std.proofs.Common.{◌≡◌, ℕ, ◌+◌, ◌<◌, ◌≤◌, Bool, true, false, cond, not, ◌||◌, List, [], ◌∷◌, length, drop, get_or, Option, Some, None, refl, ap, sym, ◌∙◌, drop-cons, add-one}
use Rattle.std.specs.Option.{option_or}
use Rattle.std.proofs.lemmas.Option.{slice_get-get_or}
use Rattle.std.proofs.lemmas.List.{at_drop_all}
use Rattle.ghost_model.specs.core.Schema.{Schema, Table, places_from, places_where, is_empty, first_of, is_table, references_to, columns_of, columns_or_none, parent}
use Rattle.tree_schema.specs.Schemas.{noted}

-- the first of some tables, from this place on, that names a table
abbrev pub first_holder : (child at : ℕ) → List Table → Option ℕ
first_holder child at tables = first_of (places_from (λ table. not (is_empty (references_to child table))) at tables)

nowhere : Table
nowhere = record { name = []; columns = [] }

pub noted_none : (holder : ℕ) (p : Option ℕ) → p ≡ noted holder false p
noted_none holder None = refl
noted_none holder (Some x) = refl

pub noted_more : (holder : ℕ) (a b : Bool) (p : Option ℕ) → noted holder b (noted holder a p) ≡ noted holder (a || b) p
noted_more holder true true None = refl
noted_more holder true false None = refl
noted_more holder false true None = refl
noted_more holder false false None = refl
noted_more holder true b (Some x) = refl
noted_more holder false b (Some x) = refl

by_case : (holder : ℕ) (named : Bool) (p : Option ℕ) (later : List ℕ)
    → option_or (noted holder named p) (first_of later) ≡ option_or p (first_of (cond named (holder ∷ later) later))
by_case holder true None later = refl
by_case holder false None later = refl
by_case holder true (Some x) later = refl
by_case holder false (Some x) later = refl

-- one table further
pub one_holder_more : (schema : Schema) (child holder : ℕ) (p q : Option ℕ) → holder < length schema
    → q ≡ noted holder (not (is_empty (places_where (λ column. is_table child column.child) (columns_of schema holder)))) p
    → option_or p (first_holder child holder (drop holder schema)) ≡ parent schema child
    → option_or q (first_holder child (holder + 1) (drop (holder + 1) schema)) ≡ parent schema child
unfolding places_from
one_holder_more schema child holder p q within new before =
    let later = places_from (λ (table : Table). not (is_empty (references_to child table))) (holder + 1) (drop (holder + 1) schema) in
    let here = get_or schema holder nowhere in
    let same = ap columns_or_none (slice_get-get_or schema holder nowhere within) in
    ap (λ r. option_or r (first_of later)) (new ∙ ap (λ columns. noted holder (not (is_empty (places_where (λ column. is_table child column.child) columns))) p) same)
    ∙ by_case holder (not (is_empty (references_to child here))) p later
    ∙ ap (λ next. option_or p (first_of (cond (not (is_empty (references_to child here))) (holder ∷ places_from (λ (table : Table). not (is_empty (references_to child table))) (holder + 1) (drop next schema)) (places_from (λ (table : Table). not (is_empty (references_to child table))) (holder + 1) (drop next schema))))) (add-one holder)
    ∙ sym (ap (λ tables. option_or p (first_holder child holder tables)) (drop-cons schema holder nowhere within))
    ∙ before

none_later : (p : Option ℕ) → option_or p None ≡ p
none_later None = refl
none_later (Some x) = refl

-- behind the last one
pub all_holders : (schema : Schema) (child holder : ℕ) (p : Option ℕ) → length schema ≤ holder
    → option_or p (first_holder child holder (drop holder schema)) ≡ parent schema child → p ≡ parent schema child
unfolding places_from
all_holders schema child holder p past h =
    sym (none_later p) ∙ ap (option_or p) (sym (at_drop_all (first_holder child holder) schema holder past)) ∙ h

-- where there is no table, none is named
pub none_named : (child : ℕ) → not (is_empty (places_where (λ column. is_table child column.child) (columns_or_none None))) ≡ false
unfolding places_from
none_named child = refl
