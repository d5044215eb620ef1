-- The first place at which a test passes, on the tables and columns of the code and on those of the definitions.
use Rattle.std.proofs.Common.{◌≡◌, ℕ, ◌+◌, Bool, true, false, cond, not, ◌||◌, ◌<◌, List, [], ◌∷◌, ◌++◌, length, drop, map, Option, Some, refl, ap, sym, ◌∙◌, ◌≤◌, drop-cons, add-one, append_assoc, append-nil}
use Rattle.std.specs.List.{position, position_from, list_any}
use Rattle.std.proofs.lemmas.Iterator.Adapters.{position_from-zero}
use Rattle.std.proofs.lemmas.List.{at_drop_all}
use Rattle.ghost_model.specs.core.Schema.{Schema, Table, places_from, is_empty, first_of, is_table, parent}
use Rattle.ghost_model.specs.laws.SchemaLaws.{children_from}

choose : (b : Bool) (at : ℕ) (here rest : List ℕ) (later : Option ℕ) → first_of rest ≡ later → first_of (cond b (at ∷ here) rest) ≡ cond b (Some at) later
choose true at here rest later e = refl
choose false at here rest later e = e

pub first_from : {X Y : Type 0} (view : X → Y) (test : X → Bool) (passes : Y → Bool) → ((x : X) → passes (view x) ≡ test x)
    → (xs : List X) (at : ℕ) → first_of (places_from passes at (map view xs)) ≡ position_from test at xs
unfolding places_from
first_from view test passes same [] at = refl
first_from view test passes same (x ∷ xs) at =
    ap (λ b. first_of (cond b (at ∷ places_from passes (at + 1) (map view xs)) (places_from passes (at + 1) (map view xs)))) (same x)
    ∙ choose (test x) at _ _ _ (first_from view test passes same xs (at + 1))

pub first_place : {X Y : Type 0} (view : X → Y) (test : X → Bool) (passes : Y → Bool) → ((x : X) → passes (view x) ≡ test x)
    → (xs : List X) → first_of (places_from passes 0 (map view xs)) ≡ position test xs
first_place view test passes same xs = first_from view test passes same xs 0 ∙ sym (position_from-zero test xs)

position_mapped_from : {X Y : Type 0} (view : X → Y) (test : Y → Bool) (xs : List X) (at : ℕ) → position_from (λ x. test (view x)) at xs ≡ position_from test at (map view xs)
position_mapped_from view test [] at = refl
position_mapped_from view test (x ∷ xs) at = ap (λ later. cond (test (view x)) (Some at) later) (position_mapped_from view test xs (at + 1))

pub position_mapped : {X Y : Type 0} (view : X → Y) (test : Y → Bool) (xs : List X) → position (λ x. test (view x)) xs ≡ position test (map view xs)
position_mapped view test xs =
    position_from-zero (λ x. test (view x)) xs ∙ position_mapped_from view test xs 0 ∙ sym (position_from-zero test (map view xs))

some_by : (b : Bool) (at : ℕ) (here rest : List ℕ) (later : Bool) → not (is_empty rest) ≡ later → not (is_empty (cond b (at ∷ here) rest)) ≡ (b || later)
some_by true at here rest later e = refl
some_by false at here rest later e = e

pub some_place : {X Y : Type 0} (view : X → Y) (test : Y → Bool) (xs : List X) (at : ℕ) → not (is_empty (places_from test at (map view xs))) ≡ list_any (λ x. test (view x)) xs
unfolding places_from
some_place view test [] at = refl
some_place view test (x ∷ xs) at = some_by (test (view x)) at _ _ _ (some_place view test xs (at + 1))

nowhere : Table
nowhere = record { name = []; columns = [] }

pub children_next : (schema : Schema) (table at : ℕ) (xs : List Table) → at < length xs
    → children_from schema table at (drop at xs)
    ≡ cond (is_table table (parent schema at)) (at ∷ children_from schema table (at + 1) (drop (at + 1) xs)) (children_from schema table (at + 1) (drop (at + 1) xs))
unfolding children_from
children_next schema table at xs within =
    ap (children_from schema table at) (drop-cons xs at nowhere within)
    ∙ ap (λ next. cond (is_table table (parent schema at)) (at ∷ children_from schema table (at + 1) (drop next xs)) (children_from schema table (at + 1) (drop next xs))) (sym (add-one at))

-- the children so far and those to come, one table further
pub more_children : (schema : Schema) (table at : ℕ) (found new all : List ℕ) (held : Bool) → at < length schema → is_table table (parent schema at) ≡ held
    → new ≡ cond held (found ++ at ∷ []) found
    → found ++ children_from schema table at (drop at schema) ≡ all → new ++ children_from schema table (at + 1) (drop (at + 1) schema) ≡ all
more_children schema table at found new all held within tested grown h =
    ap (λ xs. xs ++ children_from schema table (at + 1) (drop (at + 1) schema)) grown
    ∙ split held found (children_from schema table (at + 1) (drop (at + 1) schema))
    ∙ ap (λ b. found ++ cond b (at ∷ children_from schema table (at + 1) (drop (at + 1) schema)) (children_from schema table (at + 1) (drop (at + 1) schema))) (sym tested)
    ∙ ap (λ xs. found ++ xs) (sym (children_next schema table at schema within))
    ∙ h
  where
    split : (b : Bool) (xs ys : List ℕ) → cond b (xs ++ at ∷ []) xs ++ ys ≡ xs ++ cond b (at ∷ ys) ys
    split true xs ys = append_assoc xs (at ∷ []) ys
    split false xs ys = refl

pub all_children : (schema : Schema) (table at : ℕ) (found all : List ℕ) → length schema ≤ at
    → found ++ children_from schema table at (drop at schema) ≡ all → found ≡ all
unfolding children_from
all_children schema table at found all past h =
    sym (append-nil found) ∙ ap (λ xs. found ++ xs) (sym (at_drop_all (children_from schema table at) schema at past)) ∙ h
