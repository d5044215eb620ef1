-- Each ask of a text is for a table of the schema that has a visible column, and its rows are no wider than all visible columns.
use Rattle.std.proofs.Common.{◌≡◌, ℕ, ◌+◌, ◌<◌, Bool, true, false, not, ◌&&◌, List, [], ◌∷◌, ◌++◌, length, map, filter, refl, arith, nat_lt, nat_le, lt-ltb, le-leb, Result, Ok, Err, if◌then◌else◌}
use Rattle.std.specs.Prelude.{◌==◌}
use Rattle.ghost_model.specs.core.Schema.{Schema, columns_of, is_visible, is_empty, places_from, places_of}
use Rattle.ghost_model.specs.core.Query.{Query, Condition, Member, OneOf, Join, members_of_group}
use Rattle.ghost_model.specs.core.Groups.{each_of}
use Rattle.ghost_model.specs.readings.QueryReading.{reading}
use Rattle.ghost_model.specs.core.Channel.{Catalog, Ask}
use Rattle.ghost_model.specs.core.Asks.{NumberedAsk, asked, asked_from, asked_of, asks_of, asks_of_reading, ask_for, column_test, is_needed, is_shown, is_wanted, row_width}
use Rattle.ghost_model.specs.laws.ShortWords.{tests_of, is_from}
use Rattle.ghost_model.specs.forms.Layout.{spool_width}
use Rattle.ghost_model.proofs.ChannelLemmas.Tests.{false_is_not, both_hold, hold_both}
use Rattle.ghost_model.proofs.SessionLemmas.Accepted.{Each}
use Rattle.key_session.proofs.Asks.{narrow}
use Rattle.key_session.proofs.Hearing.{each_joined}

abbrev pub is_placed : Catalog → NumberedAsk → Bool
is_placed catalog one =
    nat_lt one.ask.table (length catalog.schema)
    && (nat_lt 4 (spool_width catalog.schema one.ask.table) && nat_le (row_width catalog.schema one.ask) (spool_width catalog.schema one.ask.table))

-- what passes a test
passes : (p : ℕ → Bool) (xs : List ℕ) → is_empty (filter p xs) ≡ false → (x : ℕ) × (p x ≡ true)
passes p [] e = absurd (false_is_not (sym_of e))
  where
    sym_of : true ≡ false → false ≡ true
    sym_of e = cc
passes p (x ∷ xs) e = go (λ some. passes p xs some) (p x) refl e
  where
    go : (is_empty (filter p xs) ≡ false → (y : ℕ) × (p y ≡ true)) → (b : Bool) → p x ≡ b → is_empty (if b then x ∷ filter p xs else filter p xs) ≡ false → (y : ℕ) × (p y ≡ true)
    go later true is e = (x, is)
    go later false is e = later e

each_filtered : (Q : ℕ → Type 0) (q : ℕ → Bool) (ts : List ℕ) → Each Q ts → Each Q (filter q ts)
each_filtered Q q [] e = tt
each_filtered Q q (t ∷ ts) e = go (q t) (each_filtered Q q ts e.1)
  where
    go : (b : Bool) → Each Q (filter q ts) → Each Q (if b then t ∷ filter q ts else filter q ts)
    go true later = (e.0, later)
    go false later = later

each_needed : (P : Ask → Type 0) (Q : ℕ → Type 0) (p : Ask → Bool) (f : ℕ → Ask) → ((t : ℕ) → Q t → p (f t) ≡ true → P (f t))
    → (ts : List ℕ) → Each Q ts → Each P (filter p (map f ts))
each_needed P Q p f so [] e = tt
each_needed P Q p f so (t ∷ ts) e = go (p (f t)) refl (each_needed P Q p f so ts e.1)
  where
    go : (b : Bool) → p (f t) ≡ b → Each P (filter p (map f ts)) → Each P (if b then f t ∷ filter p (map f ts) else filter p (map f ts))
    go true is later = (so t e.0 is, later)
    go false is later = later

places_in : {X : Type 0} (at top : ℕ) (xs : List X) → at + length xs ≡ top → Each (λ (t : ℕ). t < top) (places_from (λ _. true) at xs)
unfolding places_from
places_in at top [] e = tt
places_in at top (x ∷ xs) e = (omega (arith, e), places_in (at + 1) top xs (omega (arith, e)))

module _ (schema : Schema) (table : ℕ) where
  abbrev Seen : Type 0
  Seen = (column : ℕ) × (is_visible schema table column ≡ true)

  shown : (one : Member) → is_shown schema table one ≡ true → Seen
  shown one is = (one.field.column, (both_hold (one.field.table == table) (is_visible schema table one.field.column) is).other)

  all_shown : (first : Member) (others : List Member) → each_of (is_shown schema table) first others ≡ true → Seen
  all_shown first [] all = shown first all
  all_shown first (next ∷ others) all = shown first (both_hold (is_shown schema table first) (each_of (is_shown schema table) next others) all).one

  tested : (conditions : List Condition) → is_empty (tests_of schema table conditions) ≡ false → Seen
  tested [] e = let bad : ⊥ = cc in absurd bad
  tested (OneOf first others ∷ later) e = go (λ some. tested later some) (each_of (is_shown schema table) first others) refl e
    where
      go : (is_empty (tests_of schema table later) ≡ false → Seen) → (b : Bool) → each_of (is_shown schema table) first others ≡ b
          → is_empty ((if b then map column_test (members_of_group first others) else []) ++ tests_of schema table later) ≡ false → Seen
      go on true all e = all_shown first others all
      go on false all e = on e
  tested (Join one other ∷ later) e = tested later e

  seen_of : (query : Query) → is_needed (ask_for schema query table) ≡ true → Seen
  seen_of query needed = go (is_empty columns) refl (is_empty (tests_of schema table query.conditions)) refl needed
    where
      columns : List ℕ
      columns = filter (is_wanted schema query table) (places_of (columns_of schema table))

      go : (a : Bool) → is_empty (filter (is_wanted schema query table) (places_of (columns_of schema table))) ≡ a
          → (b : Bool) → is_empty (tests_of schema table query.conditions) ≡ b → not (a && b) ≡ true → Seen
      go false some b e n =
          let found = passes (is_wanted schema query table) (places_of (columns_of schema table)) some in
          (found.0, (both_hold (is_visible schema table found.0) _ found.1).one)
      go true none false some n = tested query.conditions some
      go true none true all n = absurd (false_is_not n)

-- in a table that has a visible column a row may have more than an identifier
abbrev pub HasRoom : Schema → Type 0
HasRoom schema = (table column : ℕ) → is_visible schema table column ≡ true → 4 < spool_width schema table

module _ (catalog : Catalog) (room : HasRoom catalog.schema) where
  abbrev schema : Schema
  schema = catalog.schema

  here : (number : ℕ) (query : Query) → Each (λ (ask : Ask). is_placed catalog (asked number ask) ≡ true) (asks_of schema query)
  here number query =
      each_needed (λ (ask : Ask). is_placed catalog (asked number ask) ≡ true) (λ (t : ℕ). t < length schema) is_needed (ask_for schema query)
      (λ t there needed. (let seen = seen_of schema t query needed in
      hold_both _ _ (lt-ltb t (length schema) there)
      (hold_both _ _ (lt-ltb 4 (spool_width schema t) (room t seen.0 seen.1)) (le-leb (row_width schema (ask_for schema query t)) (spool_width schema t) (narrow schema query t)))))
      (filter (is_from query) (places_of schema)) (each_filtered (λ (t : ℕ). t < length schema) (is_from query) (places_of schema) (places_in 0 (length schema) schema (omega arith)))

  numbered : (number : ℕ) (asks : List Ask) → Each (λ (ask : Ask). is_placed catalog (asked number ask) ≡ true) asks
      → Each (λ (one : NumberedAsk). is_placed catalog one ≡ true) (map (asked number) asks)
  numbered number [] e = tt
  numbered number (ask ∷ asks) e = (e.0, numbered number asks e.1)

  of_reading : {Refusal : Type 0} (number : ℕ) (read : Result Query Refusal) → Each (λ (ask : Ask). is_placed catalog (asked number ask) ≡ true) (asks_of_reading schema read)
  of_reading number (Ok query) = here number query
  of_reading number (Err refusal) = tt

  placed_from : {Refusal : Type 0} (number : ℕ) (readings : List (Result Query Refusal)) → Each (λ (one : NumberedAsk). is_placed catalog one ≡ true) (asked_from schema number readings)
  placed_from number [] = tt
  placed_from number (one ∷ later) =
      each_joined (λ (one : NumberedAsk). is_placed catalog one ≡ true) (map (asked number) (asks_of_reading schema one)) (asked_from schema (number + 1) later)
      (numbered number (asks_of_reading schema one) (of_reading number one)) (placed_from (number + 1) later)

  pub texts_are_placed : (texts : List (List ℕ)) → Each (λ (one : NumberedAsk). is_placed catalog one ≡ true) (asked_of schema texts)
  texts_are_placed texts = placed_from 1 (map (reading schema) texts)
