-- The asks of texts: they come in the order of the texts, and one text has few of them and few rows of replies.
use Rattle.std.proofs.Common.{◌≡◌, ℕ, zero, suc, ◌+◌, ◌<◌, ◌≤◌, Bool, true, false, List, [], ◌∷◌, ◌++◌, length, map, filter, sum_by, sum, ◌∙◌, ap, refl, arith, eqb-true, Option, Some, None, Result, Ok, Err, if◌then◌else◌}
use Rattle.std.specs.Prelude.{◌==◌}
use Rattle.std.proofs.lemmas.List.{length-map}
use Rattle.std.specs.List.{range_with_len}
use Rattle.std.proofs.lemmas.List.Sums.{sum_by-append, sum_by-cons}
use Rattle.ghost_model.specs.core.Schema.{Schema, Column, Kind, columns_of, column_at, is_visible, places_of}
use Rattle.ghost_model.specs.core.Query.{Query}
use Rattle.ghost_model.specs.readings.QueryReading.{reading}
use Rattle.ghost_model.specs.forms.Cells.{cell_width}
use Rattle.ghost_model.specs.core.Channel.{Ask}
use Rattle.ghost_model.specs.core.Asks.{NumberedAsk, asked, asked_from, asked_of, asks_of, asks_of_reading, ask_for, is_needed, is_wanted, kind_or_none, kind_at, row_width}
use Rattle.ghost_model.specs.laws.ShortWords.{is_from}
use Rattle.ghost_model.specs.forms.Layout.{below, width_at, spool_width}
use Rattle.ghost_model.proofs.LayoutLemmas.Columns.{width_or_none}
use Rattle.ghost_model.proofs.ChannelLemmas.Tests.{both_hold}
use Rattle.ghost_model.proofs.SessionLemmas.Accepted.{Each}
use Rattle.key_session.proofs.Sums.{sum_mapped, sum_less, sum_fewer, sum_part, sum_none, places_below}
use Rattle.key_session.proofs.Hearing.{Rises, rises_lower, each_joined}

-- the order of the texts
module _ (schema : Schema) where
  rises_here : (number : ℕ) (asks : List Ask) (rest : List NumberedAsk) → Rises number rest → Rises number (map (asked number) asks ++ rest)
  rises_here number [] rest r = r
  rises_here number (ask ∷ asks) rest r = (omega arith, rises_here number asks rest r)

  pub rises_from : {Refusal : Type 0} (number : ℕ) (readings : List (Result Query Refusal)) → Rises number (asked_from schema number readings)
  rises_from number [] = tt
  rises_from number (one ∷ later) =
      rises_here number (asks_of_reading schema one) (asked_from schema (number + 1) later)
      (rises_lower number (number + 1) (asked_from schema (number + 1) later) (omega arith) (rises_from (number + 1) later))

  within_here : (number top : ℕ) (asks : List Ask) → number ≤ top → Each (λ (one : NumberedAsk). one.text ≤ top) (map (asked number) asks)
  within_here number top [] h = tt
  within_here number top (ask ∷ asks) h = (h, within_here number top asks h)

  pub within_from : {Refusal : Type 0} (number top : ℕ) (readings : List (Result Query Refusal)) → number + length readings ≤ top + 1
      → Each (λ (one : NumberedAsk). one.text ≤ top) (asked_from schema number readings)
  within_from number top [] h = tt
  within_from number top (one ∷ later) h =
      each_joined (λ (one : NumberedAsk). one.text ≤ top) (map (asked number) (asks_of_reading schema one)) (asked_from schema (number + 1) later)
      (within_here number top (asks_of_reading schema one) (omega (arith, h)))
      (within_from (number + 1) top later (omega (arith, h)))

-- what the asks of one text weigh
abbrev pub weight : (text : ℕ) → (Ask → ℕ) → NumberedAsk → ℕ
weight text f one = if one.text == text then f one.ask else 0

module _ (schema : Schema) (text : ℕ) (f : Ask → ℕ) where
  here : (number : ℕ) (asks : List Ask) → sum_by (weight text f) (map (asked number) asks) ≡ (if number == text then sum_by f asks else 0)
  here number asks = sum_mapped (weight text f) (asked number) asks ∙ go (number == text)
    where
      go : (b : Bool) → sum_by (λ (ask : Ask). if b then f ask else 0) asks ≡ (if b then sum_by f asks else 0)
      go true = refl
      go false = sum_none asks

  elsewhere : (number : ℕ) (asks : List Ask) → text < number → sum_by (weight text f) (map (asked number) asks) ≡ 0
  elsewhere number asks h = here number asks ∙ go (number == text) refl
    where
      go : (b : Bool) → (number == text) ≡ b → (if b then sum_by f asks else 0) ≡ 0
      go true e = let same = eqb-true number text e in absurd (omega (arith, same, h))
      go false e = refl

  later_none : {Refusal : Type 0} (number : ℕ) (readings : List (Result Query Refusal)) → text < number → sum_by (weight text f) (asked_from schema number readings) ≡ 0
  later_none number [] h = refl
  later_none number (one ∷ later) h =
      let joined = sum_by-append (weight text f) (map (asked number) (asks_of_reading schema one)) (asked_from schema (number + 1) later) in
      let first = elsewhere number (asks_of_reading schema one) h in
      let rest = later_none (number + 1) later (omega (arith, h)) in
      omega (arith, joined, first, rest)

  pub text_weighs : {Refusal : Type 0} (most : ℕ) → ((query : Query) → sum_by f (asks_of schema query) ≤ most)
      → (number : ℕ) (readings : List (Result Query Refusal)) → sum_by (weight text f) (asked_from schema number readings) ≤ most
  text_weighs most each number [] = omega arith
  text_weighs {Refusal} most each number (one ∷ later) = go (text_weighs most each (number + 1) later) (number == text) refl
    where
      first : List NumberedAsk
      first = map (asked number) (asks_of_reading schema one)

      joined : sum_by (weight text f) (asked_from schema number (one ∷ later)) ≡ sum_by (weight text f) first + sum_by (weight text f) (asked_from schema (number + 1) later)
      joined = sum_by-append (weight text f) first (asked_from schema (number + 1) later)

      read : (r : Result Query Refusal) → sum_by f (asks_of_reading schema r) ≤ most
      read (Ok query) = each query
      read (Err refusal) = omega arith

      go : sum_by (weight text f) (asked_from schema (number + 1) later) ≤ most
          → (b : Bool) → (number == text) ≡ b → sum_by (weight text f) (asked_from schema number (one ∷ later)) ≤ most
      go after true e =
          let same = eqb-true number text e in
          let this : sum_by (weight text f) first ≡ sum_by f (asks_of_reading schema one) = here number (asks_of_reading schema one) ∙ ap (λ (b : Bool). if b then sum_by f (asks_of_reading schema one) else 0) e in
          let rest = later_none (number + 1) later (omega (arith, same)) in
          let few = read one in
          omega (arith, joined, this, rest, few)
      go after false e =
          let this : sum_by (weight text f) first ≡ 0 = here number (asks_of_reading schema one) ∙ ap (λ (b : Bool). if b then sum_by f (asks_of_reading schema one) else 0) e in
          omega (arith, joined, this, after)

-- the asks of a query are of different tables
asks_weigh : (schema : Schema) (query : Query) (f : Ask → ℕ) (g : ℕ → ℕ) → ((table : ℕ) → f (ask_for schema query table) ≤ g table)
    → sum_by f (asks_of schema query) ≤ sum_by g (below (length schema))
asks_weigh schema query f g less =
    let tables : List ℕ = filter (is_from query) (places_of schema) in
    let needed = sum_part f is_needed (map (ask_for schema query) tables) in
    let mapped = sum_mapped f (ask_for schema query) tables in
    let lower = sum_less (λ (table : ℕ). f (ask_for schema query table)) g less tables in
    let part = sum_part g (is_from query) (places_of schema) in
    let all : sum_by g (places_of schema) ≡ sum_by g (below (length schema)) = ap (sum_by g) (places_below 0 schema) in
    omega (arith, needed, mapped, lower, part, all)

-- a row of a reply is no wider than one with all visible columns
pub narrow : (schema : Schema) (query : Query) (table : ℕ) → row_width schema (ask_for schema query table) ≤ spool_width schema table
narrow schema query table =
    let columns : List ℕ = filter (is_wanted schema query table) (places_of (columns_of schema table)) in
    let kinds : List Kind = map (kind_at schema table) columns in
    let cells : sum (map cell_width kinds) ≡ sum_by cell_width kinds = sum_mapped (λ (x : ℕ). x) cell_width kinds in
    let widths = sum_mapped cell_width (kind_at schema table) columns in
    let lower = sum_less (λ (column : ℕ). cell_width (kind_at schema table column)) (width_at schema table) (λ column. as_wide (column_at schema table column)) columns in
    let seen = sum_fewer (width_at schema table) (is_wanted schema query table) (is_visible schema table) (λ column wanted. (both_hold (is_visible schema table column) _ wanted).one) (places_of (columns_of schema table)) in
    let all : sum_by (width_at schema table) (filter (is_visible schema table) (places_of (columns_of schema table))) ≡ sum_by (width_at schema table) (filter (is_visible schema table) (below (length (columns_of schema table)))) =
    ap (λ (ks : List ℕ). sum_by (width_at schema table) (filter (is_visible schema table) ks)) (places_below 0 (columns_of schema table)) in
    omega (arith, cells, widths, lower, seen, all)
  where
    as_wide : (held : Option Column) → cell_width (kind_or_none held) ≤ width_or_none held
    as_wide None = omega arith
    as_wide (Some column) = omega arith

abbrev pub one_if : Bool → ℕ
one_if b = if b then 1 else 0

-- a table is one of a range once at most
module _ (table : ℕ) where
  abbrev is_it : ℕ → ℕ
  is_it other = one_if (other == table)

  none_above : (at count : ℕ) → table < at → sum_by is_it (range_with_len at count) ≡ 0
  none_above at zero h = refl
  none_above at (suc count) h =
      let split = sum_by-cons is_it at (range_with_len (at + 1) count) in
      let later = none_above (at + 1) count (omega (arith, h)) in
      let first = go (at == table) refl in
      omega (arith, split, later, first)
    where
      go : (b : Bool) → (at == table) ≡ b → one_if b ≡ 0
      go true e = let same = eqb-true at table e in absurd (omega (arith, same, h))
      go false e = refl

  pub once : (at count : ℕ) → sum_by is_it (range_with_len at count) ≤ 1
  once at zero = omega arith
  once at (suc count) = go (at == table) refl (once (at + 1) count)
    where
      split : sum_by is_it (range_with_len at (suc count)) ≡ is_it at + sum_by is_it (range_with_len (at + 1) count)
      split = sum_by-cons is_it at (range_with_len (at + 1) count)

      go : (b : Bool) → (at == table) ≡ b → sum_by is_it (range_with_len (at + 1) count) ≤ 1 → sum_by is_it (range_with_len at (suc count)) ≤ 1
      go true e later =
          let same = eqb-true at table e in
          let none = none_above (at + 1) count (omega (arith, same)) in
          let here : is_it at ≡ 1 = ap one_if e in
          omega (arith, split, none, here)
      go false e later =
          let here : is_it at ≡ 0 = ap one_if e in
          omega (arith, split, later, here)

abbrev pub for_table : (table : ℕ) → Ask → ℕ
for_table table ask = one_if (ask.table == table)

-- of a text one ask at most is for a table
pub texts_ask_once : (schema : Schema) (texts : List (List ℕ)) (text table : ℕ) → sum_by (weight text (for_table table)) (asked_of schema texts) ≤ 1
texts_ask_once schema texts text table =
    text_weighs schema text (for_table table) 1
    (λ query. (let less = asks_weigh schema query (for_table table) (λ (other : ℕ). one_if (other == table)) (λ other. omega arith) in
    let few = once table 0 (length schema) in
    omega (arith, less, few)))
    1 (map (reading schema) texts)

pub texts_rise : (schema : Schema) (texts : List (List ℕ)) → Rises 1 (asked_of schema texts)
texts_rise schema texts = rises_from schema 1 (map (reading schema) texts)

pub texts_end : (schema : Schema) (texts : List (List ℕ)) → Each (λ (one : NumberedAsk). one.text ≤ length texts) (asked_of schema texts)
texts_end schema texts =
    let size = length-map texts (reading schema) in
    within_from schema 1 (length texts) (map (reading schema) texts) (omega (arith, size))
