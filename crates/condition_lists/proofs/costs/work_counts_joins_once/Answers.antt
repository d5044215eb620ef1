use Rattle.std.proofs.Common.{◌≡◌, ◌∙◌, refl, ap, ap₂, ℕ, ◌+◌, ◌*◌, true, false, List, [], ◌∷◌, ◌++◌, length, filter, map, Option, Some, None, if◌then◌else◌, arith}
use Rattle.std.specs.Prelude.{count_by, sum_by, flat_map}
use Rattle.std.proofs.lemmas.List.Sums.{sum_by-cons, sum_by-append}
use Rattle.std.proofs.lemmas.List.Elements.{filter-append}
use Rattle.ghost_model.specs.core.Schema.{Schema, parent, first_of}
use Rattle.ghost_model.specs.core.Values.{Row, Database}
use Rattle.ghost_model.specs.core.Channel.{Ask}
use Rattle.ghost_model.specs.core.Query.{Query, Field, Condition, OneOf, Join, is_among, members_in, top_of}
use Rattle.ghost_model.specs.core.Meaning.{answer}
use Rattle.ghost_model.specs.core.Asks.{asks_of}
use Rattle.ghost_model.specs.forms.Layout.{is_hidden}
use Rattle.ghost_model.specs.forms.Left.{columns_left, is_left, new_fields, without_left}
use Rattle.spj_parse.specs.Resolved.{linked, joins_of, join_to, join_with, join_by, keys_between, is_group}
use Rattle.ghost_model.specs.forms.QueryWork.{bits, condition_work, reply_work, honest_rows, work_by_top}
use Rattle.condition_lists.proofs.costs.work_counts_joins_once.Goals as goal

module _ (schema : Schema) (database : Database) where
  module _ (top : ℕ) where
    abbrev work_of : Condition → ℕ
    work_of = condition_work schema database top

    one_join : (table holder : ℕ) (key : Option ℕ) → sum_by work_of (join_by table holder key) ≡ 0
    one_join table holder None = refl
    one_join table holder (Some column) = refl

    joins_with : (from : List ℕ) (table : ℕ) (holder : Option ℕ) → sum_by work_of (join_with schema from table holder) ≡ 0
    joins_with from table None = refl
    joins_with from table (Some holder) =
        elim (is_among from holder) as (λ b. sum_by work_of (if b then join_by table holder (first_of (keys_between schema holder table)) else []) ≡ 0) [
          | true ↦ one_join table holder (first_of (keys_between schema holder table))
          | false ↦ refl
        ]

    no_work : (from tables : List ℕ) → sum_by work_of (flat_map (join_to schema from) tables) ≡ 0
    no_work from [] = refl
    no_work from (table ∷ tables) =
        let a = sum_by-append work_of (join_to schema from table) (flat_map (join_to schema from) tables) in
        let b = joins_with from table (parent schema table) in
        let c = no_work from tables in
        omega (arith, a, b, c)

    members : (conditions : List Condition) → sum_by work_of (filter is_group conditions) ≡ sum_by work_of conditions
    members [] = refl
    members (OneOf first others ∷ conditions) =
        let a = sum_by-cons work_of (OneOf first others) (filter is_group conditions) in
        let b = sum_by-cons work_of (OneOf first others) conditions in
        let c = members conditions in
        omega (arith, a, b, c)
    members (Join one other ∷ conditions) =
        let b = sum_by-cons work_of (Join one other) conditions in
        let c = members conditions in
        omega (arith, b, c)

    same_conditions : (asked : Query) → sum_by work_of (linked schema asked).conditions ≡ sum_by work_of asked.conditions
    same_conditions asked =
        let a = sum_by-append work_of (joins_of schema asked.from) (filter is_group asked.conditions) in
        let b = no_work asked.from asked.from in
        let c = members asked.conditions in
        omega (arith, a, b, c)

  -- the columns of the groups that are left

  one_left : (table holder : ℕ) (key : Option ℕ) → filter (is_left schema) (join_by table holder key) ≡ []
  one_left table holder None = refl
  one_left table holder (Some column) = refl

  joins_left_with : (from : List ℕ) (table : ℕ) (holder : Option ℕ) → filter (is_left schema) (join_with schema from table holder) ≡ []
  joins_left_with from table None = refl
  joins_left_with from table (Some holder) =
      elim (is_among from holder) as (λ b. filter (is_left schema) (if b then join_by table holder (first_of (keys_between schema holder table)) else []) ≡ []) [
        | true ↦ one_left table holder (first_of (keys_between schema holder table))
        | false ↦ refl
      ]

  joins_left : (from tables : List ℕ) → filter (is_left schema) (flat_map (join_to schema from) tables) ≡ []
  joins_left from [] = refl
  joins_left from (table ∷ tables) =
      filter-append (is_left schema) (join_to schema from table) (flat_map (join_to schema from) tables)
      ∙ ap₂ (λ xs ys. xs ++ ys) (joins_left_with from table (parent schema table)) (joins_left from tables)

  groups_left : (conditions : List Condition) → filter (is_left schema) (filter is_group conditions) ≡ filter (is_left schema) conditions
  groups_left [] = refl
  groups_left (Join one other ∷ conditions) = groups_left conditions
  groups_left (OneOf first others ∷ conditions) =
      ap (λ later. if is_left schema (OneOf first others) then OneOf first others ∷ later else later) (groups_left conditions)

  same_columns : (asked : Query) → columns_left schema (linked schema asked) ≡ columns_left schema asked
  same_columns asked =
      ap (λ (cs : List Condition). new_fields asked.select (map (λ one. one.member.field) (members_in cs)))
      (filter-append (is_left schema) (joins_of schema asked.from) (filter is_group asked.conditions)
      ∙ ap₂ (λ xs ys. xs ++ ys) (joins_left asked.from asked.from) (groups_left asked.conditions))

  -- the work by its parts
  abbrev by_parts : (conditions : ℕ) → (top : ℕ) → (asks : List Ask) → (rows : List Row) → (hidden : ℕ) → ℕ
  by_parts conditions top asks rows hidden =
      64
      + (conditions
      + (sum_by (reply_work schema database top) asks
      + length rows * (2 + (hidden + sum_by (λ ask. bits (length (honest_rows schema database ask)) + 3) asks))))

  by_top : (asked : Query) → asks_of schema (linked schema asked) ≡ asks_of schema asked
      → answer schema database (without_left schema (linked schema asked)) ≡ answer schema database (without_left schema asked)
      → (top : Option ℕ) → work_by_top schema database (linked schema asked) top ≡ work_by_top schema database asked top
  by_top asked asks answers None = refl
  by_top asked asks answers (Some top) =
      let hidden : List Field → ℕ = λ more. count_by (λ column. is_hidden schema column.table column.column) (asked.select ++ more) in
      ap₂ (λ n more. by_parts n top (asks_of schema (linked schema asked)) (answer schema database (without_left schema (linked schema asked))) (hidden more)) (same_conditions top asked) (same_columns asked)
      ∙ ap₂ (λ some rows. by_parts (sum_by (condition_work schema database top) asked.conditions) top some rows (hidden (columns_left schema asked))) asks answers

pub returns : goal.returns
returns c = λ schema tree database text asked reads.
    let once = c.joins_count_once.ensures in
    ap (work_by_top schema database (linked schema asked)) (once.top schema asked)
    ∙ by_top schema database asked (once.asks schema asked)
    (once.left schema tree database text asked reads) (top_of schema asked)
