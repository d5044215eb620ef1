-- The way from a table to the root of a tree: it meets no table twice, so it is no longer than there are tables.
use Rattle.std.proofs.Common.{◌≡◌, ℕ, zero, suc, ◌+◌, ◌-◌, ◌<◌, ◌≤◌, Bool, true, false, cond, not, ◌||◌, eqb, inl, inr, List, [], ◌∷◌, ◌++◌, length, length-append, slice_get, Option, Some, None, option_and_then, refl, ap, sym, subst, ◌∙◌, zero-add, arith}
use Rattle.std.specs.List.{list_any, AllByRecursion, IsDistinct}
use Rattle.std.proofs.lemmas.Bool.{ne_eqb, eqb-true, cases_lt}
use Rattle.std.proofs.lemmas.Map.Steps.{length-le_from_distinct_below}
use Rattle.std.proofs.lemmas.Option.{slice_get_past}
use Rattle.ghost_model.specs.core.Schema.{Schema, Table, places_from, first_of, is_empty, references_to, parent, ancestor}
use Rattle.ghost_model.specs.laws.SchemaTrees.{Returns}

some_before : (o : Option ℕ) (f : ℕ → Option ℕ) (x : ℕ) → option_and_then f o ≡ Some x → (y : ℕ) × (o ≡ Some y) × (f y ≡ Some x)
some_before None f x e = absurd (cc)
some_before (Some y) f x e = (y, refl, e)

first_by : (t : Bool) (at p size : ℕ) (here rest : List ℕ) → first_of (cond t (at ∷ here) rest) ≡ Some p → (first_of rest ≡ Some p → p < at + 1 + size) → p < at + suc size
first_by true at p size here rest e h = let same : at ≡ p = cc in omega (arith, same)
first_by false at p size here rest e h = omega (arith, h e)

first_below : {X : Type 0} (test : X → Bool) (xs : List X) (at p : ℕ) → first_of (places_from test at xs) ≡ Some p → p < at + length xs
unfolding places_from
first_below test [] at p e = absurd (cc)
first_below test (x ∷ xs) at p e = first_by (test x) at p (length xs) _ _ e (first_below test xs (at + 1) p)

parent_below : (schema : Schema) (table p : ℕ) → parent schema table ≡ Some p → p < length schema
parent_below schema table p e = let h : p < 0 + length schema = first_below (λ (holder : Table). not (is_empty (references_to table holder))) schema 0 p e in omega (arith, h)

far : (schema : Schema) (table y j i total : ℕ) → total ≡ i + j → ancestor schema j table ≡ Some y → ancestor schema total table ≡ ancestor schema i y
unfolding ancestor
far schema table y j zero total f e = ap (λ n. ancestor schema n table) (f ∙ zero-add j) ∙ e
far schema table y j (suc i) zero f e = absurd (omega (arith, f))
far schema table y j (suc i) (suc total) f e = ap (option_and_then (parent schema)) (far schema table y j i total (omega (arith, f)) e)

pub next_ancestor : (schema : Schema) (table n x : ℕ) (next : Option ℕ) → ancestor schema n table ≡ Some x → next ≡ parent schema x → next ≡ ancestor schema (suc n) table
unfolding ancestor
next_ancestor schema table n x next e f = f ∙ ap (option_and_then (parent schema)) (sym e)

no_further : (schema : Schema) (table n : ℕ) → ancestor schema n table ≡ None → (more total : ℕ) → total ≡ more + n → ancestor schema total table ≡ None
unfolding ancestor
no_further schema table n e zero total f = ap (λ k. ancestor schema k table) (f ∙ zero-add n) ∙ e
no_further schema table n e (suc more) zero f = absurd (omega (arith, f))
no_further schema table n e (suc more) (suc total) f = ap (option_and_then (parent schema)) (no_further schema table n e more total (omega (arith, f)))

all_before : (schema : Schema) (table m x k : ℕ) → ancestor schema m table ≡ Some x → k ≤ m → (y : ℕ) × (ancestor schema k table ≡ Some y)
unfolding ancestor
all_before schema table zero x k e h = let none : k ≡ 0 = omega (arith, h) in (table, ap (λ n. ancestor schema n table) none)
all_before schema table (suc m) x k e h =
    let before = some_before (ancestor schema m table) (parent schema) x e in
    elim (cases_lt k (suc m)) [
      | inl less ↦ all_before schema table m before.0 k before.1 (omega (arith, less))
      | inr more ↦ (let same : k ≡ suc m = omega (arith, more, h) in (x, ap (λ n. ancestor schema n table) same ∙ e))
    ]

pub table_on_way : (schema : Schema) (table n x : ℕ) → table < length schema → ancestor schema n table ≡ Some x → x < length schema
unfolding ancestor
table_on_way schema table zero x h e = let same : table ≡ x = cc in subst (λ k. k < length schema) same h
table_on_way schema table (suc n) x h e =
    let before = some_before (ancestor schema n table) (parent schema) x e in parent_below schema before.0 x before.2

number : Option ℕ → ℕ
number None = 0
number (Some x) = x

back_way : Schema → (table n : ℕ) → List ℕ
back_way schema table zero = table ∷ []
back_way schema table (suc n) = number (ancestor schema (suc n) table) ∷ back_way schema table n

back_length : (schema : Schema) (table n : ℕ) → length (back_way schema table n) ≡ suc n
unfolding back_way
back_length schema table zero = refl
back_length schema table (suc n) = ap suc (back_length schema table n)

apart : (schema : Schema) (table m j x y : ℕ) → ((at : ℕ) → Returns schema at → ⊥) → ancestor schema m table ≡ Some x → ancestor schema j table ≡ Some y → j < m → eqb x y ≡ false
apart schema table m j x y none e f h =
    ne_eqb x y (λ same. none y (record {
      steps = m - j;
      moves = omega (arith, h);
      back = sym (far schema table y j (m - j) m (omega (arith, h)) f) ∙ e ∙ ap Some same;
    }))

apart_all : (schema : Schema) (table m x n : ℕ) → ((at : ℕ) → Returns schema at → ⊥) → ancestor schema m table ≡ Some x → n < m → AllByRecursion (λ y. eqb x y ≡ false) (back_way schema table n)
unfolding back_way number ancestor
apart_all schema table m x zero none e h = (apart schema table m 0 x table none e refl h, tt)
apart_all schema table m x (suc n) none e h =
    let before = all_before schema table m x (suc n) e (omega (arith, h)) in
    (subst (λ (o : Option ℕ). eqb x (number o) ≡ false) (sym before.1) (apart schema table m (suc n) x before.0 none e before.1 h), apart_all schema table m x n none e (omega (arith, h)))

distinct : (schema : Schema) (table n x : ℕ) → ((at : ℕ) → Returns schema at → ⊥) → ancestor schema n table ≡ Some x → IsDistinct eqb (back_way schema table n)
unfolding back_way number ancestor IsDistinct
distinct schema table zero x none e = (tt, tt)
distinct schema table (suc n) x none e =
    let before = some_before (ancestor schema n table) (parent schema) x e in
    (subst (λ (o : Option ℕ). AllByRecursion (λ y. eqb (number o) y ≡ false) (back_way schema table n)) (sym e) (apart_all schema table (suc n) x n none e (omega arith)), distinct schema table n before.0 none before.1)

in_by : (t rest : Bool) (q w size : ℕ) → (eqb q w) ≡ t → (t || rest) ≡ true → w < size → (rest ≡ true → q < size) → q < size
in_by true rest q w size f e h g = subst (λ k. k < size) (sym (eqb-true q w f)) h
in_by false rest q w size f e h g = g e

within : (schema : Schema) (table n x q : ℕ) → table < length schema → ancestor schema n table ≡ Some x → list_any (eqb q) (back_way schema table n) ≡ true → q < length schema
unfolding back_way number ancestor
within schema table zero x q h e f = in_by (eqb q table) false q table (length schema) refl f h (λ g. absurd (cc))
within schema table (suc n) x q h e f =
    let before = some_before (ancestor schema n table) (parent schema) x e in
    in_by (eqb q (number (ancestor schema (suc n) table))) _ q (number (ancestor schema (suc n) table)) (length schema) refl f
    (subst (λ (o : Option ℕ). number o < length schema) (sym e) (parent_below schema before.0 x before.2)) (within schema table n before.0 q h before.1)

pub way_is_short : (schema : Schema) (table n x : ℕ) → ((at : ℕ) → Returns schema at → ⊥) → table < length schema → ancestor schema n table ≡ Some x → n < length schema
way_is_short schema table n x none h e =
    let few : length (back_way schema table n) ≤ length schema = length-le_from_distinct_below (back_way schema table n) (length schema) (distinct schema table n x none e) (λ q f. within schema table n x q h e f) in
    omega (arith, few, back_length schema table n)

-- the tables that were passed, and the next one
pub record Walks (schema : Schema) (table : ℕ) (path : List ℕ) (next : Option ℕ) : Type 0 where
  pub so_far : (steps : ℕ) → steps < length path → slice_get path steps ≡ ancestor schema steps table
  pub ahead : next ≡ ancestor schema (length path) table

get_more : (xs : List ℕ) (x k : ℕ) → k < length xs → slice_get (xs ++ x ∷ []) k ≡ slice_get xs k
get_more [] x k h = absurd (let no : k < 0 = h in omega (arith, no))
get_more (y ∷ ys) x zero h = refl
get_more (y ∷ ys) x (suc k) h = get_more ys x k (omega (arith, h))

get_last : (xs : List ℕ) (x : ℕ) → slice_get (xs ++ x ∷ []) (length xs) ≡ Some x
get_last [] x = refl
get_last (y ∷ ys) x = get_last ys x

pub walk_begins : (schema : Schema) (table : ℕ) (path : List ℕ) (next : Option ℕ) → path ≡ [] → next ≡ Some table → Walks schema table path next
unfolding ancestor
walk_begins schema table path next e f =
    subst (λ xs. Walks schema table xs next) (sym e) (record { so_far = λ steps h. absurd (let no : steps < 0 = h in omega (arith, no)); ahead = f })

pub walk_goes : (schema : Schema) (table : ℕ) (path new : List ℕ) (here : ℕ) (old next : Option ℕ) → Walks schema table path old → old ≡ Some here → new ≡ path ++ here ∷ [] → next ≡ parent schema here → Walks schema table new next
walk_goes schema table path new here old next w f e g =
    let at_last : ancestor schema (length path) table ≡ Some here = sym w.ahead ∙ f in
    let size : length (path ++ here ∷ []) ≡ suc (length path) = length-append path (here ∷ []) ∙ omega arith in
    subst (λ xs. Walks schema table xs next) (sym e) (record {
      so_far = λ steps h. elim (cases_lt steps (length path)) [
        | inl less ↦ get_more path here steps less ∙ w.so_far steps less
        | inr more ↦ (let same : steps ≡ length path = omega (arith, more, h, size) in
            ap (slice_get (path ++ here ∷ [])) same ∙ get_last path here ∙ sym at_last ∙ ap (λ n. ancestor schema n table) (sym same))
      ];
      ahead = next_ancestor schema table (length path) here next at_last g ∙ ap (λ n. ancestor schema n table) (sym size);
    })

pub walk_ends : (schema : Schema) (table : ℕ) (path : List ℕ) (next : Option ℕ) → Walks schema table path next → next ≡ None → (steps : ℕ) → slice_get path steps ≡ ancestor schema steps table
walk_ends schema table path next w e steps = elim (cases_lt steps (length path)) [
  | inl less ↦ w.so_far steps less
  | inr more ↦ slice_get_past path steps more ∙ sym (no_further schema table (length path) (sym w.ahead ∙ e) (steps - length path) steps (omega (arith, more)))
]
