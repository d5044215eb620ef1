-- The terms at a table below the top one: which they are in an accepted query, and what a row that leads to none that meets them is.
use Rattle.std.proofs.Common.{◌≡◌, ◌∙◌, refl, ap, ap₂, sym, subst, ℕ, inl, inr, Bool, true, false, ◌&&◌, nat_eq, List, [], ◌∷◌, filter, map, get_or, Contains, Option, Some, None, option_and_then, if◌then◌else◌}
use Rattle.std.specs.Prelude.{◌≢◌, ◌||◌, unwrap_or}
use Rattle.std.specs.List.{list_all}
use Rattle.std.specs.Option.{option_map_or}
use Rattle.std.proofs.lemmas.Bool.{eqb-true}
use Rattle.ghost_model.specs.core.Schema.{Schema, is_visible, IsAtOrBelow}
use Rattle.ghost_model.specs.core.Values.{Database}
use Rattle.ghost_model.specs.core.Channel.{Catalog}
use Rattle.ghost_model.specs.core.Database.{leads}
use Rattle.ghost_model.specs.core.Meaning.{meets_test, no_value}
use Rattle.ghost_model.specs.core.Query.{Query, Condition, OneOf, Join, is_among, top_of}
use Rattle.ghost_model.specs.core.Replies as replies
use Rattle.ghost_model.specs.core.Replies.{known_value, reply_about}
use Rattle.ghost_model.specs.core.Split.{hidden_of}
use Rattle.ghost_model.specs.refusals.QueryMeaning.{has_repeat}
use Rattle.ghost_model.specs.laws.FlashLaws.{HiddenValuesOfDatabases}
use Rattle.ghost_model.specs.laws.LayoutLaws.{LevelsAreAncestors}
use Rattle.ghost_model.specs.laws.MeaningLaws.{LeadsFollowKeys}
use Rattle.ghost_model.specs.laws.QueryLaws.{OneReading}
use Rattle.ghost_model.specs.laws.SchemaTrees.{IsTree}
use Rattle.ghost_model.proofs.MeaningLemmas.OneRow.{among_is, both_true, neither_true}
use Rattle.ghost_laws.specs.Asking.{without_left}
use Rattle.ghost_laws.specs.Followed.{AcceptedQueriesAreFollowed}
use Rattle.ghost_laws.specs.Scans.{known_along, holds_or_asked_along, is_kept_row, stands_along, known_row}
use Rattle.spj_parse.specs.Resolved.{IsMeant}
use Rattle.leakless_plan.specs.declared.form.Form.{Form}
use Rattle.flash_layout.specs.Ranges.{IsRowOf}
use Rattle.condition_lists.specs.declared.term.GroupTerm.{GroupTerm}
use Rattle.condition_lists.specs.Terms.{AreTableTerms, AreTermsBy, AreTermsOf, has_level, has_lists, is_compared, is_listed, is_replied, is_united, level_in, listed_members, meets_all, unites_whole}
use Rattle.condition_lists.specs.Laws.{IsOver, LeadsInto, leads_into}
use Rattle.condition_lists.proofs.FilterLemmas.{compared_there, filters_agree, follows, leveled, listed_without_left}
use Rattle.condition_lists.proofs.MeetLemmas.{all_met}
use Rattle.condition_lists.proofs.MemberLemmas.{among_of}
use Rattle.condition_lists.proofs.PathLemmas.{below_level, itself, led_on, some_level}
use Rattle.condition_lists.proofs.RowLemmas.{is_row, led}
use Rattle.condition_lists.proofs.TermLemmas.{and_no, no_and, no_rows}
use Rattle.condition_lists.proofs.UnionLemmas.{either_fails, one_fails}

-- ---- the table alone

none_left : (table : ℕ) (xs : List ℕ) → is_among xs table ≡ false → filter (λ other. nat_eq other table) xs ≡ []
none_left table [] e = refl
none_left table (x ∷ xs) e =
    let both = neither_true (nat_eq x table) (is_among xs table) e in
    ap (λ b. if b then x ∷ filter (λ other. nat_eq other table) xs else filter (λ other. nat_eq other table) xs) both.0 ∙ none_left table xs both.1

one_left : (table : ℕ) (xs : List ℕ) → is_among xs table ≡ true → has_repeat xs ≡ false → filter (λ other. nat_eq other table) xs ≡ table ∷ []
one_left table [] e once = absurd (cc (e))
one_left table (x ∷ xs) e once = by (λ later. one_left table xs later parts.1) (nat_eq x table) refl e
  where
    parts : (is_among xs x ≡ false) × (has_repeat xs ≡ false)
    parts = neither_true (is_among xs x) (has_repeat xs) once

    by : (is_among xs table ≡ true → filter (λ other. nat_eq other table) xs ≡ table ∷ [])
        → (b : Bool) → nat_eq x table ≡ b → (b || is_among xs table) ≡ true
        → (if b then x ∷ filter (λ other. nat_eq other table) xs else filter (λ other. nat_eq other table) xs) ≡ table ∷ []
    by rest true same e =
        let is : x ≡ table = eqb-true x table same in
        ap₂ (λ y ys. y ∷ ys) is (none_left table xs (ap (is_among xs) (sym is) ∙ parts.0))
    by rest false other e = rest e

module _ (schema : Schema) (tree : IsTree schema) (levels : LevelsAreAncestors) (asked : Query) (table : ℕ) (compared : is_compared schema asked table ≡ true) where
  replied_alone : (other : ℕ) → is_replied schema asked [] table other ≡ nat_eq other table
  replied_alone other = by (nat_eq other table) refl
    where
      all_are : (a b c : Bool) → a ≡ true → b ≡ true → c ≡ true → (a && b && c) ≡ true
      all_are true true c e f g = g
      all_are true false c e f g = f
      all_are false b c e f g = e

      by : (b : Bool) → nat_eq other table ≡ b → is_replied schema asked [] table other ≡ b
      by true e =
          let is : other ≡ table = eqb-true other table e in
          all_are (is_compared schema asked other) (has_level schema table other) (is_united [] table other) (ap (is_compared schema asked) is ∙ compared)
          (ap (has_level schema table) is ∙ leveled schema tree levels table table (compared_there schema table asked.conditions compared) (itself schema table))
          (ap (λ b. b || option_map_or unites_whole (get_or [] other None) false) e)
      by false e =
          and_no (is_compared schema asked other && has_level schema table other) (is_united [] table other)
          (ap (λ b. b || option_map_or unites_whole (get_or [] other None) false) e)

  pub table_alone : Contains asked.from table → has_repeat asked.from ≡ false → filter (is_replied schema asked [] table) asked.from ≡ table ∷ []
  table_alone held once =
      filters_agree (is_replied schema asked [] table) (λ other. nat_eq other table) asked.from (λ other a. replied_alone other)
      ∙ one_left table asked.from (among_is table asked.from (among_of asked.from table held)) once

pub terms_by : (cat : Catalog) (tree : IsTree cat.schema) (levels : LevelsAreAncestors) (text : List ℕ) (asked : Query) (read : IsMeant cat.schema text asked)
    (one : OneReading) (accepted : AcceptedQueriesAreFollowed) (top : ℕ) → top_of cat.schema asked ≡ Some top
    → (table : ℕ) → Contains asked.from table → is_compared cat.schema asked table ≡ true
    → (terms : List GroupTerm) → AreTableTerms cat asked table terms → AreTermsBy cat asked [] (Some table) terms
terms_by cat tree levels text asked read one accepted top top_is table held compared terms are =
    let followed = follows cat.schema tree levels top text asked read one accepted top_is in
    subst (λ (tables : List ℕ). AreTermsOf cat table (listed_members cat.schema table asked.conditions) tables terms)
    (sym (table_alone cat.schema tree levels asked table compared held (ap (λ (q : Query). has_repeat q.from) read.once ∙ followed.once))) are

pub among_from : (asked : Query) (table : ℕ) → Contains asked.from table → is_among asked.from table ≡ true
among_from asked table held = among_is table asked.from (among_of asked.from table held)

-- ---- rows that lead to a row which does not meet the terms

module _ (cat : Catalog) (database : Database) (over : IsOver cat database) (given : List replies.Reply) (top identifier : ℕ) (row : IsRowOf cat top identifier)
    (levels : LevelsAreAncestors) (keys : LeadsFollowKeys cat.schema database) (values : HiddenValuesOfDatabases)
    (table : ℕ) (below : IsAtOrBelow cat.schema top table) (reached : ℕ) (is_led : leads cat.schema database top identifier table ≡ Some reached) (row_is : IsRowOf cat table reached) where
  abbrev holds_above : Condition → Bool
  holds_above = holds_or_asked_along cat.schema (known_along cat.schema database given top identifier)

  abbrev holds_there : Condition → Bool
  holds_there = holds_or_asked_along cat.schema (known_along cat.schema database given table reached)

  alike : (condition : Condition) → is_listed cat.schema table condition ≡ true → holds_there condition ≡ holds_above condition
  alike (Join one other) e = refl
  alike (OneOf first []) e =
      let wanted = first.field in
      let found = some_level (level_in cat.schema table wanted.table) (both_true (has_lists cat.schema wanted first.test) (has_level cat.schema table wanted.table) e).1 in
      let way = below_level cat.schema over.tree levels table wanted.table found.0 found.1 in
      ap (λ o. if is_visible cat.schema wanted.table wanted.column then true
      else meets_test first.test (option_and_then (λ r. known_value cat.schema (hidden_of cat.schema database) given wanted.table r wanted.column) o))
      (sym (led_on cat.schema database keys top table identifier reached below is_led way.0 wanted.table way.1))
  alike (OneOf first (next ∷ others)) e = absurd (cc (e))

  all_alike : (conditions : List Condition)
      → list_all holds_there (filter (is_listed cat.schema table) conditions) ≡ list_all holds_above (filter (is_listed cat.schema table) conditions)
  all_alike [] = refl
  all_alike (condition ∷ conditions) = by (all_alike conditions) (is_listed cat.schema table condition) refl
    where
      rest : List Condition
      rest = filter (is_listed cat.schema table) conditions

      by : list_all holds_there rest ≡ list_all holds_above rest → (b : Bool) → is_listed cat.schema table condition ≡ b
          → list_all holds_there (if b then condition ∷ rest else rest) ≡ list_all holds_above (if b then condition ∷ rest else rest)
      by later true e = ap₂ (λ a b. a && b) (alike condition e) later
      by later false e = later

  abbrev stands_above : ℕ → Bool
  stands_above = stands_along cat.schema database given top identifier

  abbrev stands_there : ℕ → Bool
  stands_there = stands_along cat.schema database given table reached

  stands_alike : (other : ℕ) → has_level cat.schema table other ≡ true → stands_there other ≡ stands_above other
  stands_alike other e =
      let found = some_level (level_in cat.schema table other) e in
      let way = below_level cat.schema over.tree levels table other found.0 found.1 in
      ap (λ o. is_kept_row o (reply_about other given)) (sym (led_on cat.schema database keys top table identifier reached below is_led way.0 other way.1))

  all_stand_alike : (asked : Query) (forms : List (Option Form)) (tables : List ℕ)
      → list_all stands_there (filter (is_replied cat.schema asked forms table) tables) ≡ list_all stands_above (filter (is_replied cat.schema asked forms table) tables)
  all_stand_alike asked forms [] = refl
  all_stand_alike asked forms (other ∷ tables) = by (all_stand_alike asked forms tables) (is_replied cat.schema asked forms table other) refl
    where
      rest : List ℕ
      rest = filter (is_replied cat.schema asked forms table) tables

      by : list_all stands_there rest ≡ list_all stands_above rest → (b : Bool) → is_replied cat.schema asked forms table other ≡ b
          → list_all stands_there (if b then other ∷ rest else rest) ≡ list_all stands_above (if b then other ∷ rest else rest)
      by later true e =
          let both = both_true (is_compared cat.schema asked other && has_level cat.schema table other) (is_united forms table other) e in
          let parts = both_true (is_compared cat.schema asked other) (has_level cat.schema table other) both.0 in
          ap₂ (λ a b. a && b) (stands_alike other parts.1) later
      by later false e = later

  pub unmet_there : (asked : Query) (forms : List (Option Form)) (terms : List GroupTerm) → AreTermsBy cat asked forms (Some table) terms
      → meets_all cat.schema database given table reached terms ≡ false → known_row cat.schema database (without_left cat.schema asked) given top identifier ≡ []
  unmet_there asked forms terms are unmet =
      let shown = map (λ one. unwrap_or (known_along cat.schema database given top identifier one) no_value) asked.select in
      let listed = filter (is_listed cat.schema table) asked.conditions in
      let replied = filter (is_replied cat.schema asked forms table) asked.from in
      let failed = sym (all_met cat database over given table reached row_is levels keys values asked.conditions replied terms are) ∙ unmet in
      let kept = (without_left cat.schema asked).conditions in
      no_rows (shown ∷ []) (list_all stands_above asked.from && list_all holds_above kept)
      (elim (either_fails (list_all holds_there listed) (list_all stands_there replied) failed) [
        | inl unheld ↦ and_no (list_all stands_above asked.from) (list_all holds_above kept)
            (one_fails holds_above (is_listed cat.schema table) kept
            (ap (list_all holds_above) (listed_without_left cat.schema table asked.conditions) ∙ sym (all_alike asked.conditions) ∙ unheld))
        | inr absent ↦ no_and (list_all stands_above asked.from) (list_all holds_above kept)
            (one_fails stands_above (is_replied cat.schema asked forms table) asked.from (sym (all_stand_alike asked forms asked.from) ∙ absent))
      ])

module _ (cat : Catalog) (database : Database) (over : IsOver cat database) (given : List replies.Reply) (top identifier : ℕ) (row : IsRowOf cat top identifier)
    (levels : LevelsAreAncestors) (keys : LeadsFollowKeys cat.schema database) (values : HiddenValuesOfDatabases)
    (asked : Query) (table : ℕ) (below : IsAtOrBelow cat.schema top table)
    (forms : List (Option Form)) (terms : List GroupTerm) (are : AreTermsBy cat asked forms (Some table) terms) where
  pub outside_set : leads_into cat.schema database given top identifier table terms ≡ false → known_row cat.schema database (without_left cat.schema asked) given top identifier ≡ []
  outside_set e =
      let lands = led cat database over keys top table identifier below row in
      unmet_there cat database over given top identifier row levels keys values table below lands.reached lands.led
      (is_row cat database over table lands.reached lands.row lands.stands) asked forms terms are
      (sym (ap (λ o. option_map_or (λ reached. meets_all cat.schema database given table reached terms) o false) lands.led) ∙ e)

  pub inside_set : known_row cat.schema database (without_left cat.schema asked) given top identifier ≢ [] → LeadsInto cat database given top identifier table terms
  inside_set some = by (leads_into cat.schema database given top identifier table terms) refl
    where
      by : (b : Bool) → leads_into cat.schema database given top identifier table terms ≡ b → LeadsInto cat database given top identifier table terms
      by true e =
          let lands = led cat database over keys top table identifier below row in
          record {
            reached = lands.reached;
            row = is_row cat database over table lands.reached lands.row lands.stands;
            led = lands.led;
            met = sym (ap (λ o. option_map_or (λ reached. meets_all cat.schema database given table reached terms) o false) lands.led) ∙ e;
          }
      by false e = absurd (some (outside_set e))
