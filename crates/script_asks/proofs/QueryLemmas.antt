-- The asks of a query, table after table.
use Rattle.std.proofs.Common.{◌≡◌, ◌<◌, ◌≤◌, ◌+◌, ◌||◌, ℕ, Bool, true, false, cond, not, ◌&&◌, ◌==◌, arith, List, [], ◌∷◌, ◌++◌, length, drop, map, filter, refl, ap, ap₂, sym, ◌∙◌, append_assoc, append-nil}
use Rattle.std.specs.List.{list_all, list_any}
use Rattle.std.proofs.lemmas.List.{length-map}
use Rattle.std.proofs.lemmas.List.Folds.{list_all-map}
use Rattle.std.proofs.lemmas.Bool.Decides.{nat_tests}
use Rattle.ghost_model.specs.core.Schema.{Schema, places_from, columns_of, is_empty, places_of}
use Rattle.ghost_model.specs.core.Query.{Query, Member, Condition, OneOf, Join}
use Rattle.ghost_model.specs.core.Groups.{each_of, some_of}
use Rattle.ghost_model.proofs.GroupLemmas.{each_is_all, some_is_any}
use Rattle.ghost_model.specs.core.Channel.{Ask, ColumnTest}
use Rattle.ghost_model.specs.core.Asks as asks
use Rattle.ghost_model.specs.core.Asks.{is_needed, is_wanted}
use Rattle.ghost_model.specs.laws.ShortWords.{tests_of, is_from}
use Rattle.spj_parse.specs.Resolved.{is_group}
use Rattle.spj_parse.specs.Views.{grouped, member_of}
use Rattle.spj_parse.specs.declared.query.Member as declared_member
use Rattle.tree_schema.proofs.RuleSteps.{place_next, places_end}
use Rattle.std.specs.Prelude.{Option, Some, None, is_some, option_to_list, option_map, IfSome}
use Rattle.channel_codec.specs.AskViews.{ask_view}
use Rattle.channel_codec.specs.declared.ask.Ask as declared
use Rattle.script_asks.specs.Left.{asks_for, asks_after}
use Rattle.script_asks.specs.Shown.{mixes_column}

pub any_map : {X Y : Type 0} (view : X → Y) (test : Y → Bool) (xs : List X) → list_any (λ x. test (view x)) xs ≡ list_any test (map view xs)
any_map view test [] = refl
any_map view test (x ∷ xs) = ap (λ (b : Bool). test (view x) || b) (any_map view test xs)

-- the places_of of the columns that pass, where those before this one were looked at
one_more : {X : Type 0} (test : ℕ → Bool) (xs : List X) (at : ℕ) (b : Bool) → test at ≡ b → at < length xs
    → filter test (places_from (λ (_ : X). true) at (drop at xs)) ≡ cond b (at ∷ []) [] ++ filter test (places_from (λ (_ : X). true) (at + 1) (drop (at + 1) xs))
one_more test xs at true e within = ap (filter test) (place_next xs at within) ∙ passes e
  where
    passes : test at ≡ true → filter test (at ∷ places_from (λ (_ : _). true) (at + 1) (drop (at + 1) xs)) ≡ at ∷ filter test (places_from (λ (_ : _). true) (at + 1) (drop (at + 1) xs))
    passes e = ap (λ (k : Bool). cond k (at ∷ filter test (places_from (λ (_ : _). true) (at + 1) (drop (at + 1) xs))) (filter test (places_from (λ (_ : _). true) (at + 1) (drop (at + 1) xs)))) e
one_more test xs at false e within = ap (filter test) (place_next xs at within) ∙ fails e
  where
    fails : test at ≡ false → filter test (at ∷ places_from (λ (_ : _). true) (at + 1) (drop (at + 1) xs)) ≡ filter test (places_from (λ (_ : _). true) (at + 1) (drop (at + 1) xs))
    fails e = ap (λ (k : Bool). cond k (at ∷ filter test (places_from (λ (_ : _). true) (at + 1) (drop (at + 1) xs))) (filter test (places_from (λ (_ : _). true) (at + 1) (drop (at + 1) xs)))) e

pub more_columns : {X : Type 0} (test : ℕ → Bool) (xs : List X) (at : ℕ) (found now : List ℕ) (b : Bool) → at < length xs → test at ≡ b → now ≡ found ++ cond b (at ∷ []) []
    → found ++ filter test (places_from (λ (_ : X). true) at (drop at xs)) ≡ filter test (places_of xs)
    → now ++ filter test (places_from (λ (_ : X). true) (at + 1) (drop (at + 1) xs)) ≡ filter test (places_of xs)
more_columns test xs at found now b within e is h =
    ap (λ (ys : List ℕ). ys ++ filter test (places_from (λ (_ : _). true) (at + 1) (drop (at + 1) xs))) is
    ∙ (append_assoc found (cond b (at ∷ []) []) (filter test (places_from (λ (_ : _). true) (at + 1) (drop (at + 1) xs)))
    ∙ (ap (λ (ys : List ℕ). found ++ ys) (sym (one_more test xs at b e within)) ∙ h))

pub all_columns : {X : Type 0} (test : ℕ → Bool) (xs : List X) (at : ℕ) (found : List ℕ) → length xs ≤ at
    → found ++ filter test (places_from (λ (_ : X). true) at (drop at xs)) ≡ filter test (places_of xs) → found ≡ filter test (places_of xs)
all_columns test xs at found past h =
    sym (append-nil found) ∙ (ap (λ (ys : List ℕ). found ++ filter test ys) (sym (places_end xs at past)) ∙ h)

-- ---- groups

abbrev member : declared_member.Member → Member
member one = (member_of one).member

-- what holds of each or of one of a group's members
module _ (p : Member → Bool) (first : declared_member.Member) (others : List declared_member.Member) where
  pub each_then : (a b : Bool) → a ≡ p (member first) → a ≡ true → b ≡ list_all (λ one. p (member_of one).member) others
      → b ≡ each_of p (member first) (map member others)
  each_then a b e f h =
      h ∙ (sym (list_all-map p member others)
      ∙ (ap (λ (c : Bool). c && list_all p (map member others)) (sym f ∙ e) ∙ sym (each_is_all p (member first) (map member others))))

  pub each_else : (a : Bool) → a ≡ p (member first) → a ≡ false → a ≡ each_of p (member first) (map member others)
  each_else a e f =
      f ∙ (ap (λ (c : Bool). c && list_all p (map member others)) (sym f ∙ e) ∙ sym (each_is_all p (member first) (map member others)))

  pub some_then : (a : Bool) → a ≡ p (member first) → a ≡ true → a ≡ some_of p (member first) (map member others)
  some_then a e f =
      f ∙ (ap (λ (c : Bool). c || list_any p (map member others)) (sym f ∙ e) ∙ sym (some_is_any p (member first) (map member others)))

  pub some_else : (a b : Bool) → a ≡ p (member first) → a ≡ false → b ≡ list_any (λ one. p (member_of one).member) others
      → b ≡ some_of p (member first) (map member others)
  some_else a b e f h =
      h ∙ (any_map member p others
      ∙ (ap (λ (c : Bool). c || list_any p (map member others)) (sym f ∙ e) ∙ sym (some_is_any p (member first) (map member others))))

-- no members are no groups
pub no_group : {X : Type 0} (f : List Condition → X) (members : List declared_member.Member) → members ≡ [] → f (grouped (map member_of members)) ≡ f []
unfolding grouped
no_group f members e = ap (λ (ones : List declared_member.Member). f (grouped (map member_of ones))) e

-- joins are in no group
pub mixed_aside : (schema : Schema) (table column : ℕ) (conditions : List Condition)
    → list_any (mixes_column schema table column) (filter is_group conditions) ≡ list_any (mixes_column schema table column) conditions
mixed_aside schema table column [] = refl
mixed_aside schema table column (OneOf first others ∷ conditions) =
    ap (λ (b : Bool). mixes_column schema table column (OneOf first others) || b) (mixed_aside schema table column conditions)
mixed_aside schema table column (Join left right ∷ conditions) = mixed_aside schema table column conditions

tests_aside : (schema : Schema) (table : ℕ) (conditions : List Condition) → tests_of schema table (filter is_group conditions) ≡ tests_of schema table conditions
tests_aside schema table [] = refl
tests_aside schema table (OneOf first others ∷ conditions) =
    ap (λ (tests : List ColumnTest). asks.test_of schema table (OneOf first others) ++ tests) (tests_aside schema table conditions)
tests_aside schema table (Join left right ∷ conditions) = tests_aside schema table conditions

abbrev ask_with : (table : ℕ) → List ℕ → List ColumnTest → Ask
ask_with table columns tests = record { table = table; columns = columns; tests = tests }

-- an ask is that of a query for a table
pub ask_is : (schema : Schema) (query : Query) (table : ℕ) (columns : List ℕ) (tests : List ColumnTest) (members : List declared_member.Member)
    → grouped (map member_of members) ≡ filter is_group query.conditions → columns ≡ filter (is_wanted schema query table) (places_of (columns_of schema table))
    → tests ≡ tests_of schema table (grouped (map member_of members)) → ask_with table columns tests ≡ asks.ask_for schema query table
ask_is schema query table columns tests members g c t =
    ap₂ (ask_with table) c (t ∙ (ap (tests_of schema table) g ∙ tests_aside schema table query.conditions))

-- one table and those behind it
split_needed : (ask : Ask) (later : List Ask) (b : Bool) → is_needed ask ≡ b → filter is_needed (ask ∷ later) ≡ cond b (ask ∷ []) [] ++ filter is_needed later
split_needed ask later true e = ap (λ (k : Bool). cond k (ask ∷ filter is_needed later) (filter is_needed later)) e
split_needed ask later false e = ap (λ (k : Bool). cond k (ask ∷ filter is_needed later) (filter is_needed later)) e

alone_needed : (ask : Ask) (b : Bool) → is_needed ask ≡ b → filter is_needed (ask ∷ []) ≡ cond b (ask ∷ []) []
alone_needed ask true e = ap (λ (k : Bool). cond k (ask ∷ []) []) e
alone_needed ask false e = ap (λ (k : Bool). cond k (ask ∷ []) []) e

pub split_tables : (schema : Schema) (query : Query) (table : ℕ) (tables : List ℕ) → asks_for schema query (table ∷ tables) ≡ asks_for schema query (table ∷ []) ++ asks_for schema query tables
split_tables schema query table tables = by_from (is_from query table) refl
  where
    by_from : (b : Bool) → is_from query table ≡ b → asks_for schema query (table ∷ tables) ≡ asks_for schema query (table ∷ []) ++ asks_for schema query tables
    by_from true e =
        ap (λ (k : Bool). filter is_needed (map (asks.ask_for schema query) (cond k (table ∷ filter (is_from query) tables) (filter (is_from query) tables)))) e
        ∙ (split_needed (asks.ask_for schema query table) (map (asks.ask_for schema query) (filter (is_from query) tables)) _ refl
        ∙ ap (λ (ys : List Ask). ys ++ asks_for schema query tables)
        (sym (ap (λ (k : Bool). filter is_needed (map (asks.ask_for schema query) (cond k (table ∷ []) []))) e
        ∙ alone_needed (asks.ask_for schema query table) _ refl)))
    by_from false e =
        ap (λ (k : Bool). filter is_needed (map (asks.ask_for schema query) (cond k (table ∷ filter (is_from query) tables) (filter (is_from query) tables)))) e
        ∙ ap (λ (ys : List Ask). ys ++ asks_for schema query tables)
        (sym (ap (λ (k : Bool). filter is_needed (map (asks.ask_for schema query) (cond k (table ∷ []) []))) e))

-- a table that is not in FROM is not asked, and what is asked of one that is is its ask
pub not_asked : (schema : Schema) (query : Query) (table : ℕ) → is_from query table ≡ false → [] ≡ asks_for schema query (table ∷ [])
not_asked schema query table e = sym (ap (λ (k : Bool). filter is_needed (map (asks.ask_for schema query) (cond k (table ∷ []) []))) e)

pub asked_alone : (schema : Schema) (query : Query) (table : ℕ) (ask : Ask) → is_from query table ≡ true → ask ≡ asks.ask_for schema query table → is_needed ask ≡ true
    → ask ∷ [] ≡ asks_for schema query (table ∷ [])
asked_alone schema query table ask e is needed =
    sym (ap (λ (k : Bool). filter is_needed (map (asks.ask_for schema query) (cond k (table ∷ []) []))) e
    ∙ (alone_needed (asks.ask_for schema query table) true (ap is_needed (sym is) ∙ needed)
    ∙ ap (λ (a : Ask). a ∷ []) (sym is)))

-- an ask with a column or a condition is needed
none_of_length : {X : Type 0} (xs : List X) → (length xs == 0) ≡ is_empty xs
none_of_length [] = refl
none_of_length (x ∷ xs) = grind (arith, nat_tests)

pub needs_columns : (ask : Ask) → (length ask.columns == 0) ≡ false → is_needed ask ≡ true
needs_columns ask some = ap (λ (b : Bool). not (b && is_empty ask.tests)) (sym (none_of_length ask.columns) ∙ some)

not_both : (b : Bool) → not (b && false) ≡ true
not_both true = refl
not_both false = refl

pub needs_tests : (table : ℕ) (columns : List ℕ) {X : Type 0} (view : X → ColumnTest) (tests : List X) → (length tests == 0) ≡ false → is_needed (ask_with table columns (map view tests)) ≡ true
needs_tests table columns view tests some =
    ap (λ (b : Bool). not (is_empty columns && b))
    (sym (none_of_length (map view tests)) ∙ (ap (λ (n : ℕ). n == 0) (length-map tests view) ∙ some))
    ∙ not_both (is_empty columns)

pub next_table : (schema : Schema) (query : Query) (table : ℕ) → table < length schema
    → asks_after schema query table ≡ asks_for schema query (table ∷ []) ++ asks_after schema query (table + 1)
next_table schema query table within =
    ap (asks_for schema query) (place_next schema table within)
    ∙ split_tables schema query table (places_from (λ _. true) (table + 1) (drop (table + 1) schema))

pub no_table : (schema : Schema) (query : Query) (table : ℕ) → length schema ≤ table → asks_after schema query table ≡ []
no_table schema query table past = ap (asks_for schema query) (places_end schema table past)

-- the ask of a table is the first one from it on
pub found_ask : (schema : Schema) (query : Query) (first table place : ℕ) (found : Option declared.Ask) → table < length schema → asks_after schema query first ≡ asks_after schema query table
    → place ≡ table → option_to_list (option_map ask_view found) ≡ asks_for schema query (place ∷ []) → IfSome found (λ ask. ask.table ≡ place)
    → IfSome found (λ ask. asks_after schema query first ≡ ask_view ask ∷ asks_after schema query (ask.table + 1))
found_ask schema query first table place None within e same its at = tt
found_ask schema query first table place (Some ask) within e same its at =
    e ∙ (next_table schema query table within
    ∙ (ap (λ (n : ℕ). asks_for schema query (n ∷ []) ++ asks_after schema query (table + 1)) (sym same)
    ∙ (ap (λ (ys : List Ask). ys ++ asks_after schema query (table + 1)) (sym its)
    ∙ ap (λ (n : ℕ). ask_view ask ∷ asks_after schema query (n + 1)) (sym (at ∙ same)))))

pub passed_table : (schema : Schema) (query : Query) (first table place : ℕ) (found : Option declared.Ask) → table < length schema → asks_after schema query first ≡ asks_after schema query table
    → place ≡ table → option_to_list (option_map ask_view found) ≡ asks_for schema query (place ∷ []) → is_some found ≡ false
    → asks_after schema query first ≡ asks_after schema query (table + 1)
passed_table schema query first table place None within e same its none =
    e ∙ (next_table schema query table within
    ∙ (ap (λ (n : ℕ). asks_for schema query (n ∷ []) ++ asks_after schema query (table + 1)) (sym same)
    ∙ ap (λ (ys : List Ask). ys ++ asks_after schema query (table + 1)) (sym its)))
passed_table schema query first table place (Some ask) within e same its none = cc
