-- Each selected value stands in the row that a row of the top table leads to, and is of its column's kind.
use Rattle.std.proofs.Common.{◌≡◌, ℕ, zero, suc, ◌+◌, ◌<◌, ◌≤◌, inl, inr, Bool, true, false, List, [], ◌∷◌, map, flat_map, sym, ◌∙◌, ap, subst, refl, arith, Option, Some, is_some, slice_get, unwrap_or, option_and_then, if◌then◌else◌}
use Rattle.std.specs.Prelude.{filter_map}
use Rattle.std.specs.List.{list_all, cons_option, range_with_len}
use Rattle.std.proofs.lemmas.List.Folds.{list_all-append}
use Rattle.ghost_model.specs.core.Schema.{Schema, Column, Kind, columns_of, column_at}
use Rattle.ghost_model.specs.laws.SchemaTrees.{IsTree}
use Rattle.ghost_model.specs.core.Values.{Value, Row, Database}
use Rattle.ghost_model.specs.core.Query.{Query, Field}
use Rattle.ghost_model.specs.core.Database.{IsDatabase, rows_of, row_of, row_count, value_at_row, is_of_kind}
use Rattle.ghost_model.specs.core.Asks.{kind_or_none, kind_at}
use Rattle.ghost_model.specs.core.Split.{are_of_kinds}
use Rattle.ghost_model.proofs.ChannelLemmas.Tests.{hold_both}
use Rattle.ghost_model.proofs.MeaningLemmas.OneRow.{Among, IsLinked, query_is_linked}
use Rattle.ghost_model.proofs.MeaningLemmas.Leading.{landing, get_within, place_within}
use Rattle.ghost_model.proofs.SessionLemmas.Accepted.{each_is, query_is_sound}
use Rattle.ghost_laws.specs.Scans.{led_value, holds_along, row_along}
use Rattle.ghost_laws.specs.Selected.{has_selected, AnswersHaveSelected}
use Rattle.ghost_laws.proofs.ScanLemmas.Keys.{below_top}
use Rattle.ghost_laws.proofs.ScanLemmas.Columns.{HasColumn, select_has}
use Rattle.ghost_model.specs.core.Meaning.{no_value}

-- a value that stands, and of this kind
abbrev pub Stands : Kind → Option Value → Type 0
Stands kind found = (value : Value) × (found ≡ Some value) × (is_of_kind kind value ≡ true)

pub all_stand : (kind : Field → Kind) (value : Field → Option Value) (select : List Field)
    → ((f : Field) → Among f select → Stands (kind f) (value f)) → are_of_kinds (map kind select) (filter_map value select) ≡ true
all_stand kind value [] stand = refl
all_stand kind value (f ∷ select) stand =
    let first = stand f (inl refl) in
    subst (λ o. are_of_kinds (kind f ∷ map kind select) (cons_option o (filter_map value select)) ≡ true) (sym first.1)
    (hold_both _ _ first.2 (all_stand kind value select (λ g a. stand g (inr a))))

-- a value for each, where none is missing
pub all_told : (kind : Field → Kind) (value : Field → Option Value) (select : List Field)
    → ((f : Field) → Among f select → Stands (kind f) (value f)) → are_of_kinds (map kind select) (map (λ f. unwrap_or (value f) no_value) select) ≡ true
all_told kind value [] stand = refl
all_told kind value (f ∷ select) stand =
    let first = stand f (inl refl) in
    subst (λ o. are_of_kinds (kind f ∷ map kind select) (unwrap_or o no_value ∷ map (λ g. unwrap_or (value g) no_value) select) ≡ true) (sym first.1)
    (hold_both _ _ first.2 (all_told kind value select (λ g a. stand g (inr a))))

pub none_missing : (kind : Field → Kind) (value : Field → Option Value) (select : List Field)
    → ((f : Field) → Among f select → Stands (kind f) (value f)) → list_all (λ f. is_some (value f)) select ≡ true
none_missing kind value [] stand = refl
none_missing kind value (f ∷ select) stand =
    hold_both _ _ (ap is_some (stand f (inl refl)).1) (none_missing kind value select (λ g a. stand g (inr a)))

pub all_found : (kind : Field → Kind) (value : Field → Option Value) (select : List Field)
    → ((f : Field) → Among f select → Stands (kind f) (value f)) → map (λ f. unwrap_or (value f) no_value) select ≡ filter_map value select
all_found kind value [] stand = refl
all_found kind value (f ∷ select) stand =
    let first = stand f (inl refl) in
    ap (λ o. unwrap_or o no_value ∷ map (λ g. unwrap_or (value g) no_value) select) first.1
    ∙ ap (λ rest. first.0 ∷ rest) (all_found kind value select (λ g a. stand g (inr a)))
    ∙ sym (ap (λ o. cons_option o (filter_map value select)) first.1)

-- what holds of a row holds where it stands alone or does not
pub alone_or_none : {X : Type 0} (p : X → Bool) (b : Bool) (x : X) → (b ≡ true → p x ≡ true) → list_all p (if b then x ∷ [] else []) ≡ true
alone_or_none p true x h = hold_both (p x) true (h refl) refl
alone_or_none p false x h = refl

pub all_by_number : {X : Type 0} (p : X → Bool) (f : ℕ → List X) (from count : ℕ)
    → ((identifier : ℕ) → from ≤ identifier → identifier < from + count → list_all p (f identifier) ≡ true)
    → list_all p (flat_map f (range_with_len from count)) ≡ true
all_by_number p f from zero all = refl
all_by_number p f from (suc count) all =
    list_all-append p (f from) (flat_map f (range_with_len (from + 1) count))
    ∙ hold_both _ _ (all from (omega arith) (omega arith))
    (all_by_number p f (from + 1) count (λ identifier low high. all identifier (omega (arith, low)) (omega (arith, high))))

module _ (schema : Schema) (database : Database) (tree : IsTree schema) (is : IsDatabase schema database) where
  -- the value of a column in a row that stands
  pub field_stands : (table identifier : ℕ) (row : Row) → row_of database table identifier ≡ Some row → (column : ℕ) (declared : Column)
      → column_at schema table column ≡ Some declared → Stands (kind_at schema table column) (value_at_row database table identifier column)
  field_stands table identifier row there column declared h =
      let within = place_within (columns_of schema table) column declared h in
      let width = is.widths table identifier row there in
      let v = get_within row column (omega (arith, within, width)) in
      let stands : value_at_row database table identifier column ≡ Some v.0 =
      ap (option_and_then (λ r. slice_get r column)) there ∙ v.1 in
      (v.0, stands, ap (λ o. is_of_kind (kind_or_none o) v.0) h ∙ is.kinds table identifier column v.0 declared stands h)

  pub row_numbered : (table identifier : ℕ) → 1 ≤ identifier → identifier ≤ row_count database table → (row : Row) × (row_of database table identifier ≡ Some row)
  row_numbered table zero low high = let bad : ⊥ = omega (arith, low) in absurd bad
  row_numbered table (suc place) low high = get_within (rows_of database table) place (omega (arith, high))

  pub led_stands : (asked : Query) (top : ℕ) → IsLinked schema asked top → (identifier : ℕ) (row : Row) → row_of database top identifier ≡ Some row
      → (f : Field) → Among f.table asked.from → HasColumn schema f → Stands (kind_at schema f.table f.column) (led_value schema database top identifier f)
  led_stands asked top linked identifier row there f from has =
      let below = below_top schema tree asked top linked f.table from in
      let l = landing schema database tree is below.0 top f.table identifier row below.1 there in
      let value = field_stands f.table l.reached l.row l.stands f.column has.0 has.1 in
      (value.0, ap (option_and_then (λ reached. value_at_row database f.table reached f.column)) l.led ∙ value.1, value.2)

pub answers_have_selected : AnswersHaveSelected
answers_have_selected schema tree database is text asked means top at_top =
    let linked = query_is_linked schema text asked top means at_top in
    let sound = query_is_sound schema text asked tree means in
    let each : (identifier : ℕ) → 1 ≤ identifier → identifier ≤ row_count database top
    → list_all (has_selected schema asked) (row_along (led_value schema database top identifier) asked) ≡ true =
    λ identifier low high.
    let row = row_numbered schema database tree is top identifier low high in
    alone_or_none (has_selected schema asked) (list_all (holds_along (led_value schema database top identifier)) asked.conditions)
    (filter_map (led_value schema database top identifier) asked.select)
    (λ passes.
    all_stand (λ f. kind_at schema f.table f.column) (led_value schema database top identifier) asked.select
    (λ f a.
    led_stands schema database tree is asked top linked identifier row.0 row.1 f
    (each_is (λ (g : Field). Among g.table asked.from) f asked.select sound.chosen a) (select_has schema text asked means f a))) in
    record {
      row = each;
      answer = all_by_number (has_selected schema asked) (λ identifier. row_along (led_value schema database top identifier) asked) 1 (row_count database top)
          (λ identifier low high. each identifier low (omega (arith, high)));
    }
