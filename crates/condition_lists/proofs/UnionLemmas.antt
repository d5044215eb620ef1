-- Which replies are united: a form at each table's place, and the form of united lists at all.
use Rattle.std.proofs.Common.{◌≡◌, ◌∙◌, refl, ap, ap₂, ℕ, inl, inr, Bool, true, false, ◌&&◌, nat_eq, List, [], ◌∷◌, length, filter, get_or, Contains, Option, Some, None, if◌then◌else◌, arith}
use Rattle.std.specs.Prelude.{◌⊎◌, ◌||◌, not}
use Rattle.std.specs.List.{list_all}
use Rattle.std.specs.Option.{option_map_or}
use Rattle.std.proofs.lemmas.Bool.Decides.{nat_tests}
use Rattle.std.proofs.lemmas.List.FromFn.{get_or-map-range_with_len}
use Rattle.ghost_model.specs.core.Schema.{Schema, is_table}
use Rattle.ghost_model.specs.core.Channel.{Catalog}
use Rattle.ghost_model.specs.core.Query.{Query, top_of}
use Rattle.ghost_model.proofs.MeaningLemmas.OneRow.{Among, among_is}
use Rattle.ghost_model.specs.forms.Layout.{count_of}
use Rattle.leakless_plan.specs.declared.form.Form.{Form}
use Rattle.leakless_plan.specs.declared.form.Form.TheVariants.{Pre}
use Rattle.leakless_plan.specs.Choices.{form_of, form_with, forms_of, is_crossed, is_linked}
use Rattle.condition_lists.specs.Terms.{is_compared, is_united, unites_whole}
use Rattle.condition_lists.specs.Laws.{UnitesAll}
use Rattle.condition_lists.proofs.FilterLemmas.{compared_there, filters_agree}
use Rattle.condition_lists.proofs.MemberLemmas.{among_of, contains_of}
use Rattle.condition_lists.proofs.TermLemmas.{no_and, and_no}

-- one that fails
pub one_absent : {X : Type 0} (p : X → Bool) (xs : List X) (x : X) → Among x xs → p x ≡ false → list_all p xs ≡ false
one_absent p [] x among e = absurd among
one_absent p (y ∷ ys) x among e =
    elim among [
      | inl same ↦ no_and (p y) (list_all p ys) (ap p same ∙ e)
      | inr later ↦ and_no (p y) (list_all p ys) (one_absent p ys x later e)
    ]

-- what fails of those that are kept fails of all
kept_on : (a f g : Bool) → (f ≡ false → g ≡ false) → (a && f) ≡ false → (a && g) ≡ false
kept_on true f g rest e = rest e
kept_on false f g rest e = refl

pub one_fails : {X : Type 0} (p q : X → Bool) (xs : List X) → list_all p (filter q xs) ≡ false → list_all p xs ≡ false
one_fails p q [] e = e
one_fails p q (x ∷ xs) e = by (q x) (one_fails p q xs) e
  where
    by : (b : Bool) → (list_all p (filter q xs) ≡ false → list_all p xs ≡ false) → list_all p (if b then x ∷ filter q xs else filter q xs) ≡ false → (p x && list_all p xs) ≡ false
    by true rest e = kept_on (p x) (list_all p (filter q xs)) (list_all p xs) rest e
    by false rest e = and_no (p x) (list_all p xs) (rest e)

pub either_fails : (a b : Bool) → (a && b) ≡ false → (a ≡ false) ⊎ (b ≡ false)
either_fails true b e = inr e
either_fails false b e = inl refl

-- where all compared tables are united, these are the compared ones
pub all_tables : (schema : Schema) (asked : Query) (forms : List (Option Form)) (top : ℕ) → UnitesAll schema asked forms top
    → filter (λ table. is_compared schema asked table && is_united forms top table) asked.from ≡ filter (is_compared schema asked) asked.from
all_tables schema asked forms top all =
    filters_agree (λ table. is_compared schema asked table && is_united forms top table) (is_compared schema asked) asked.from
    (λ table among. by (is_compared schema asked table) (is_united forms top table) (all table (contains_of asked.from table among)))
  where
    by : (a b : Bool) → (a ≡ true → b ≡ true) → (a && b) ≡ a
    by true b follows = follows refl
    by false b follows = refl

-- a compared table is one that is linked, if it is not the top one
linked : (schema : Schema) (asked : Query) (top table : ℕ) → top_of schema asked ≡ Some top → Contains asked.from table
    → is_compared schema asked table ≡ true → nat_eq table top ≡ false → is_linked schema asked table ≡ true
linked schema asked top table top_is held compared other =
    ap₂ (λ a b. a && b)
    (ap₂ (λ a b. a && not b) (among_is table asked.from (among_of asked.from table held)) (ap (is_table table) top_is ∙ turned table top other))
    compared
  where
    turned : (a b : ℕ) → nat_eq a b ≡ false → nat_eq b a ≡ false
    turned a b e = grind (arith, nat_tests, e)

-- the form of united lists, forced
always_pre : (crosses : Bool) (replied rows : ℕ) → form_with crosses (Some Pre) replied rows ≡ Pre
always_pre true replied rows = refl
always_pre false replied rows = refl

pub forced_unites : (cat : Catalog) (asked : Query) (top : ℕ) → top_of cat.schema asked ≡ Some top
    → (replied : List ℕ) → UnitesAll cat.schema asked (forms_of cat asked replied (Some Pre)) top
forced_unites cat asked top top_is replied table held compared = by (nat_eq table top) refl
  where
    form : ℕ → Option Form
    form = form_of cat asked replied (Some Pre)

    its : get_or (forms_of cat asked replied (Some Pre)) table None ≡ form_of cat asked replied (Some Pre) table
    its = get_or-map-range_with_len form 0 (length cat.schema) table table None (compared_there cat.schema table asked.conditions compared) (omega arith)

    chosen : form_with (is_crossed cat.schema asked table) (Some Pre) (get_or replied table 0) (count_of cat table) ≡ Pre
    chosen = always_pre (is_crossed cat.schema asked table) (get_or replied table 0) (count_of cat table)

    by : (b : Bool) → nat_eq table top ≡ b → is_united (forms_of cat asked replied (Some Pre)) top table ≡ true
    by true e = ap (λ b. b || option_map_or unites_whole (get_or (forms_of cat asked replied (Some Pre)) table None) false) e
    by false e =
        ap₂ (λ b o. b || option_map_or unites_whole o false) e its
        ∙ ap (λ b. option_map_or unites_whole (if b then Some (form_with (is_crossed cat.schema asked table) (Some Pre) (get_or replied table 0) (count_of cat table)) else None) false)
        (linked cat.schema asked top table top_is held compared e)
        ∙ ap (λ o. option_map_or unites_whole o false) (ap Some chosen)
