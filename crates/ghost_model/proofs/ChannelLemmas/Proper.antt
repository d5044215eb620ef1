-- That the asks of queries are such as a key may send.
use Rattle.std.proofs.Common.{◌≡◌, ℕ, ◌+◌, ◌<◌, ◌≤◌, Bool, true, false, ◌&&◌, List, [], ◌∷◌, ◌++◌, length, map, sym, ◌∙◌, ap, subst, refl, arith, length-append, lit<, Option, Some, None, Ok}
use Rattle.std.specs.Prelude.{◌==◌, ◌||◌, nat_lt, not, if◌then◌else◌, filter, flat_map}
use Rattle.std.specs.List.{sum_by}
use Rattle.std.proofs.lemmas.List.{length-map}
use Rattle.std.specs.Option.{option_map}
use Rattle.std.proofs.lemmas.Bool.{eqb-true}
use Rattle.std.specs.List.{list_all, list_any}
use Rattle.std.proofs.lemmas.List.Folds.{list_all-append, list_all-map}
use Rattle.std.proofs.lemmas.Grind.{flat_map-append}
use Rattle.std.proofs.lemmas.List.Sums.{sum_by-cons}
use Rattle.std.proofs.lemmas.Bool.{ltb-false, lt-ltb, le-leb}
use Rattle.ghost_model.specs.core.Schema.{Schema, Column, Kind, Integer, Chars, IntegerOrNull, CharsOrNull, plain_of, columns_of, column_at, is_visible, is_shown, places_from}
use Rattle.ghost_model.specs.core.Values.{Value, Null, Number, Text}
use Rattle.ghost_model.specs.core.Query.{Query, Field, Test, Compared, IsNull, IsNotNull, Member, GroupMember, members_of_group, Condition, OneOf, Join, tested, compared, Equal, AtLeast, AtMost}
use Rattle.ghost_model.specs.core.Groups.{each_of, some_of, ends}
use Rattle.ghost_model.specs.core.Channel.{ColumnTest}
use Rattle.ghost_model.specs.refusals.Tokens.{Symbol, Quoted, Open, Closing, EndOfText, Word, AndWord, InWord, OrWord, Comma, is_printable, symbols}
use Rattle.ghost_model.specs.laws.Spelled.{is_spelled, IsBeforeEnd}
use Rattle.ghost_model.specs.core.Database.{is_of_kind, fits_integer}
use Rattle.ghost_model.specs.refusals.QueryGrammar.{MemberText, Compares, TestsNull, IsIn, ConditionText, Alone, AnyOf, LiesBetween, Joins, ColumnText, LiteralText, Unsigned, Signed, Written, QueryText, spelling, spell_member, spell_condition, spell_literal, spell_where, spell_column, spell_table, spell_selection}
use Rattle.ghost_model.specs.refusals.Grammar.{separated}
use Rattle.ghost_model.specs.laws.ShortWords as short
use Rattle.ghost_model.specs.core.Schema as schemas
use Rattle.ghost_model.specs.refusals.QueryMeaning as meaning
use Rattle.ghost_model.specs.core.Asks as asks
use Rattle.ghost_model.specs.laws.ChannelLaws as laws
use Rattle.ghost_model.specs.readings.QueryReading.{reading}
use Rattle.ghost_model.proofs.TokenLemmas.{before_end}
use Rattle.ghost_model.proofs.QueryReadingLemmas.{means_of, KeptRules, kept_rules}
use Rattle.ghost_model.proofs.GroupLemmas.{ends_flat, each_is_all}
use Rattle.ghost_model.proofs.ChannelLemmas.Tests.{false_is_not, both_hold, hold_both, BothHold}

-- tests of lists
filtered : {X : Type 0} (p q : X → Bool) (x : X) (xs : List X) (b : Bool) → q x ≡ b → (b ≡ true → p x ≡ true) → list_all p (filter q xs) ≡ true → list_all p (if b then x ∷ filter q xs else filter q xs) ≡ true
filtered p q x xs true e h r = hold_both (p x) (list_all p (filter q xs)) (h refl) r
filtered p q x xs false e h r = r

all_filter : {X : Type 0} (p q : X → Bool) (xs : List X) → ((x : X) → q x ≡ true → p x ≡ true) → list_all p (filter q xs) ≡ true
all_filter p q [] h = refl
all_filter p q (x ∷ xs) h = filtered p q x xs (q x) refl (h x) (all_filter p q xs h)

all_kept : {X : Type 0} (p q : X → Bool) (xs : List X) → list_all p xs ≡ true → list_all p (filter q xs) ≡ true
all_kept p q [] h = refl
all_kept p q (x ∷ xs) h =
    let both : BothHold (p x) (list_all p xs) = both_hold (p x) (list_all p xs) h in
    filtered p q x xs (q x) refl (λ _. both.one) (all_kept p q xs both.other)

all_weaker : {X : Type 0} (p r : X → Bool) (xs : List X) → ((x : X) → p x ≡ true → r x ≡ true) → list_all p xs ≡ true → list_all r xs ≡ true
all_weaker p r [] h e = refl
all_weaker p r (x ∷ xs) h e =
    let both : BothHold (p x) (list_all p xs) = both_hold (p x) (list_all p xs) e in
    hold_both (r x) (list_all r xs) (h x both.one) (all_weaker p r xs h both.other)

all_flat : {X Y : Type 0} (p : Y → Bool) (f : X → List Y) (xs : List X) → list_all (λ x. list_all p (f x)) xs ≡ true → list_all p (flat_map f xs) ≡ true
all_flat p f [] e = refl
all_flat p f (x ∷ xs) e =
    let both : BothHold (list_all p (f x)) (list_all (λ y. list_all p (f y)) xs) = both_hold _ _ e in
    list_all-append p (f x) (flat_map f xs) ∙ hold_both _ _ both.one (all_flat p f xs both.other)

all_inside : {X Y : Type 0} (p : Y → Bool) (f : X → List Y) (xs : List X) → list_all p (flat_map f xs) ≡ true → list_all (λ x. list_all p (f x)) xs ≡ true
all_inside p f [] e = refl
all_inside p f (x ∷ xs) e =
    let both : BothHold (list_all p (f x)) (list_all p (flat_map f xs)) = both_hold _ _ (sym (list_all-append p (f x) (flat_map f xs)) ∙ e) in
    hold_both _ _ both.one (all_inside p f xs both.other)

all_each : {X : Type 0} (p : X → Bool) (xs : List X) → ((x : X) → p x ≡ true) → list_all p xs ≡ true
all_each p [] h = refl
all_each p (x ∷ xs) h = hold_both (p x) (list_all p xs) (h x) (all_each p xs h)

neither : (a b : Bool) → (a || b) ≡ false → (a ≡ false) × (b ≡ false)
neither true b e = absurd (false_is_not (sym e))
neither false b e = (refl, e)

not_true : (a : Bool) → a ≡ false → not a ≡ true
not_true a e = rw e

not_false : (a : Bool) → not a ≡ true → a ≡ false
not_false true e = absurd (false_is_not e)
not_false false e = refl

none_all : {X : Type 0} (p : X → Bool) (xs : List X) → list_any p xs ≡ false → list_all (λ x. not (p x)) xs ≡ true
none_all p [] e = refl
none_all p (x ∷ xs) e =
    let both : (p x ≡ false) × (list_any p xs ≡ false) = neither (p x) (list_any p xs) e in
    hold_both _ _ (not_true (p x) both.0) (none_all p xs both.1)

-- the columns of asks
abbrev always : {X : Type 0} → X → Bool
always _ = true

-- the conditions of a group whose members all pass a test
all_members :
    (p : Member → Bool) (r : ColumnTest → Bool) → ((one : GroupMember) → p one.member ≡ true → r (asks.column_test one) ≡ true)
    → (first : Member) (others : List Member) → each_of p first others ≡ true
    → list_all r (map asks.column_test (members_of_group first others)) ≡ true
all_members p r h first [] e = hold_both _ _ (h (record { member = first; more = false }) e) refl
all_members p r h first (next ∷ others) e =
    let both : BothHold (p first) (each_of p next others) = both_hold _ _ e in
    hold_both _ _ (h (record { member = first; more = true }) both.one) (all_members p r h next others both.other)

-- the last member of a group says that none of it follows
group_ends : (first : Member) (others : List Member) → ends (λ one. one.more) (map asks.column_test (members_of_group first others)) ≡ true
group_ends first [] = refl
group_ends first (next ∷ []) = refl
group_ends first (next ∷ third ∷ others) = group_ends next (third ∷ others)

ends_if : (tests : List ColumnTest) (b : Bool) → ends (λ one. one.more) tests ≡ true → ends (λ one. one.more) (if b then tests else []) ≡ true
ends_if tests true e = e
ends_if tests false e = refl

module _ (schema : Schema) where
  visible_columns : (query : Query) (table : ℕ) → list_all (is_visible schema table) (filter (asks.is_wanted schema query table) (schemas.places_of (columns_of schema table))) ≡ true
  visible_columns query table =
      all_filter (is_visible schema table) (asks.is_wanted schema query table) (schemas.places_of (columns_of schema table))
      (λ column e. (both_hold (is_visible schema table column) _ e).one)

  unless_none : (r : ColumnTest → Bool) (tests : List ColumnTest) (b : Bool) → (b ≡ true → list_all r tests ≡ true) → list_all r (if b then tests else []) ≡ true
  unless_none r tests true h = h refl
  unless_none r tests false h = refl

  visible_test : (table : ℕ) (condition : Condition) → list_all (λ test. is_visible schema table test.column) (asks.test_of schema table condition) ≡ true
  visible_test table (OneOf first others) =
      unless_none (λ test. is_visible schema table test.column) (map asks.column_test (members_of_group first others))
      (each_of (asks.is_shown schema table) first others)
      (all_members (asks.is_shown schema table) (λ test. is_visible schema table test.column)
      (λ one e. (both_hold (one.member.field.table == table) (is_visible schema table one.member.field.column) e).other) first others)
  visible_test table (Join left right) = refl

  visible_tests : (table : ℕ) (conditions : List Condition) → list_all (λ test. is_visible schema table test.column) (short.tests_of schema table conditions) ≡ true
  visible_tests table conditions =
      all_flat (λ test. is_visible schema table test.column) (asks.test_of schema table) conditions
      (all_each (λ condition. list_all (λ test. is_visible schema table test.column) (asks.test_of schema table condition)) conditions (visible_test table))

  pub asks_are_visible : (query : Query) → list_all (laws.names_visible schema) (asks.asks_of schema query) ≡ true
  asks_are_visible query =
      all_kept (laws.names_visible schema) asks.is_needed (map (asks.ask_for schema query) (filter (short.is_from query) (schemas.places_of schema)))
      (list_all-map (laws.names_visible schema) (asks.ask_for schema query) (filter (short.is_from query) (schemas.places_of schema))
      ∙ all_each (λ table. laws.names_visible schema (asks.ask_for schema query table)) (filter (short.is_from query) (schemas.places_of schema))
      (λ table. hold_both _ _ (visible_columns query table) (visible_tests table query.conditions)))

  -- the last group of an ask ends
  ended_test : (table : ℕ) (condition : Condition) → ends (λ one. one.more) (asks.test_of schema table condition) ≡ true
  ended_test table (OneOf first others) =
      ends_if (map asks.column_test (members_of_group first others)) (each_of (asks.is_shown schema table) first others) (group_ends first others)
  ended_test table (Join left right) = refl

  pub tests_end : (table : ℕ) (conditions : List Condition) → ends (λ one. one.more) (short.tests_of schema table conditions) ≡ true
  tests_end table conditions = ends_flat (λ (one : ColumnTest). one.more) (asks.test_of schema table) conditions (ended_test table)

-- places are below the length, and ascend
places_below : {X : Type 0} (at : ℕ) (xs : List X) (most : ℕ) → at + length xs ≤ most → list_all (λ place. nat_lt place most) (places_from always at xs) ≡ true
unfolding places_from
places_below at [] most h = refl
places_below at (x ∷ xs) most h =
    hold_both _ _ (lt-ltb at most (omega (arith, h))) (places_below (at + 1) xs most (omega (arith, h)))

-- what is kept of places from `at` on ascends from any number below
ascending_if : (before at : ℕ) (kept : List ℕ) (b : Bool) → before < at → asks.ascend_from at kept ≡ true → asks.ascend_from before kept ≡ true → asks.ascend_from before (if b then at ∷ kept else kept) ≡ true
ascending_if before at kept true h e f = hold_both _ _ (lt-ltb before at h) e
ascending_if before at kept false h e f = f

ascending : {X : Type 0} (q : ℕ → Bool) (before at : ℕ) (xs : List X) → before < at → asks.ascend_from before (filter q (places_from always at xs)) ≡ true
unfolding places_from
ascending q before at [] h = refl
ascending q before at (x ∷ xs) h =
    ascending_if before at (filter q (places_from always (at + 1) xs)) (q at) h
    (ascending q at (at + 1) xs (omega arith)) (ascending q before (at + 1) xs (omega (arith, h)))

-- a value that breaks no rule of literals is of its column's kind; `printable` says that a text is
abbrev is_plain : Value → Bool
is_plain Null = false
is_plain (Number _) = true
is_plain (Text bytes) = list_all is_printable bytes

not_not : (b : Bool) → not b ≡ false → b ≡ true
not_not true e = refl
not_not false e = absurd (false_is_not (sym e))

by_kind : (kind : Kind) (value : Value) → meaning.is_other_kind (Some kind) value ≡ false → meaning.is_too_large (Some kind) value ≡ false → is_plain value ≡ true → is_of_kind (plain_of kind) value ≡ true
by_kind kind Null a b c = absurd (false_is_not c)
by_kind Integer (Number z) a b c = not_not (fits_integer z) b
by_kind Integer (Text text) a b c = absurd (false_is_not (sym a))
by_kind (Chars most) (Number z) a b c = absurd (false_is_not (sym a))
by_kind (Chars most) (Text text) a b c = hold_both _ _ (le-leb (length text) most (ltb-false most (length text) b)) c
by_kind IntegerOrNull (Number z) a b c = not_not (fits_integer z) b
by_kind IntegerOrNull (Text text) a b c = absurd (false_is_not (sym a))
by_kind (CharsOrNull most) (Number z) a b c = absurd (false_is_not (sym a))
by_kind (CharsOrNull most) (Text text) a b c = hold_both _ _ (le-leb (length text) most (ltb-false most (length text) b)) c

by_column : (o : Option Column) (value : Value) → is_shown o ≡ true → meaning.is_other_kind (option_map (λ column. column.kind) o) value ≡ false → meaning.is_too_large (option_map (λ column. column.kind) o) value ≡ false → is_plain value ≡ true → is_of_kind (plain_of (asks.kind_or_none o)) value ≡ true
by_column None value e a b c = absurd (false_is_not e)
by_column (Some column) value e a b c = by_kind column.kind value a b c

abbrev is_plain_test : Test → Bool
is_plain_test (Compared operator literal) = is_plain literal
is_plain_test IsNull = true
is_plain_test IsNotNull = true

abbrev is_plain_condition : Condition → Bool
is_plain_condition (OneOf first others) = each_of (λ one. is_plain_test one.test) first others
is_plain_condition (Join left right) = true

all_from_three : {X : Type 0} (p q r s : X → Bool) (xs : List X) → ((x : X) → p x ≡ true → q x ≡ true → r x ≡ true → s x ≡ true) → list_all p xs ≡ true → list_all q xs ≡ true → list_all r xs ≡ true → list_all s xs ≡ true
all_from_three p q r s [] h a b c = refl
all_from_three p q r s (x ∷ xs) h a b c =
    let one : BothHold (p x) (list_all p xs) = both_hold (p x) (list_all p xs) a in
    let two : BothHold (q x) (list_all q xs) = both_hold (q x) (list_all q xs) b in
    let three : BothHold (r x) (list_all r xs) = both_hold (r x) (list_all r xs) c in
    hold_both (s x) (list_all s xs) (h x one.one two.one three.one) (all_from_three p q r s xs h one.other two.other three.other)

module _ (schema : Schema) where
  abbrev is_sound : (table : ℕ) → ColumnTest → Bool
  is_sound table one = asks.fits_kind (asks.kind_at schema table one.column) one.test

  abbrev breaks : (Option Kind → Value → Bool) → Field → Test → Bool
  breaks fails field test = meaning.fails_with (fails (schemas.column_kind schema field.table field.column)) test

  sound_member :
      (table : ℕ) (field : Field) (test : Test) → (field.table == table && is_visible schema table field.column) ≡ true
      → breaks meaning.is_other_kind field test ≡ false → breaks meaning.is_too_large field test ≡ false → is_plain_test test ≡ true
      → asks.fits_kind (asks.kind_at schema table field.column) test ≡ true
  sound_member table field (Compared operator value) e a b c =
      let both : BothHold (field.table == table) (is_visible schema table field.column) = both_hold _ _ e in
      let same : field.table ≡ table = eqb-true field.table table both.one in
      let shown : BothHold (nat_lt 0 field.column) (is_shown (column_at schema table field.column)) = both_hold _ _ both.other in
      by_column (column_at schema table field.column) value shown.other
      (subst (λ (t : ℕ). meaning.is_other_kind (option_map (λ column. column.kind) (column_at schema t field.column)) value ≡ false) same a)
      (subst (λ (t : ℕ). meaning.is_too_large (option_map (λ column. column.kind) (column_at schema t field.column)) value ≡ false) same b)
      c
  sound_member table field IsNull e a b c = refl
  sound_member table field IsNotNull e a b c = refl

  sound_group :
      (table : ℕ) (first : Member) (others : List Member)
      → some_of (λ one. breaks meaning.is_other_kind one.field one.test) first others ≡ false
      → some_of (λ one. breaks meaning.is_too_large one.field one.test) first others ≡ false
      → each_of (λ one. is_plain_test one.test) first others ≡ true → each_of (asks.is_shown schema table) first others ≡ true
      → list_all (is_sound table) (map asks.column_test (members_of_group first others)) ≡ true
  sound_group table first [] a b c e = hold_both _ _ (sound_member table first.field first.test e a b c) refl
  sound_group table first (next ∷ others) a b c e =
      let one : (breaks meaning.is_other_kind first.field first.test ≡ false) × (some_of (λ one. breaks meaning.is_other_kind one.field one.test) next others ≡ false) = neither _ _ a in
      let two : (breaks meaning.is_too_large first.field first.test ≡ false) × (some_of (λ one. breaks meaning.is_too_large one.field one.test) next others ≡ false) = neither _ _ b in
      let three : BothHold (is_plain_test first.test) (each_of (λ one. is_plain_test one.test) next others) = both_hold _ _ c in
      let four : BothHold (asks.is_shown schema table first) (each_of (asks.is_shown schema table) next others) = both_hold _ _ e in
      hold_both _ _ (sound_member table first.field first.test four.one one.0 two.0 three.one)
      (sound_group table next others one.1 two.1 three.other four.other)

  sound_test : (table : ℕ) (condition : Condition) → meaning.literal_fails schema meaning.is_other_kind condition ≡ false → meaning.literal_fails schema meaning.is_too_large condition ≡ false → is_plain_condition condition ≡ true → list_all (is_sound table) (asks.test_of schema table condition) ≡ true
  sound_test table (Join left right) a b c = refl
  sound_test table (OneOf first others) a b c =
      unless_none schema (is_sound table) (map asks.column_test (members_of_group first others)) (each_of (asks.is_shown schema table) first others)
      (sound_group table first others a b c)

  sound_tests :
      (table : ℕ) (conditions : List Condition) → list_any (meaning.literal_fails schema meaning.is_other_kind) conditions ≡ false
      → list_any (meaning.literal_fails schema meaning.is_too_large) conditions ≡ false → list_all is_plain_condition conditions ≡ true
      → list_all (is_sound table) (short.tests_of schema table conditions) ≡ true
  sound_tests table conditions a b c =
      all_flat (is_sound table) (asks.test_of schema table) conditions
      (all_from_three (λ x. not (meaning.literal_fails schema meaning.is_other_kind x)) (λ x. not (meaning.literal_fails schema meaning.is_too_large x)) is_plain_condition
      (λ x. list_all (is_sound table) (asks.test_of schema table x)) conditions
      (λ x p q r. sound_test table x (not_false _ p) (not_false _ q) r)
      (none_all _ conditions a) (none_all _ conditions b) c)

-- the texts of literals have characters alone
abbrev is_loose : Symbol → Bool
is_loose (Quoted value) = list_all is_printable value
is_loose _ = true

loose_if_spelled : (symbol : Symbol) → is_spelled symbol ≡ true → is_loose symbol ≡ true
loose_if_spelled (Quoted value) e = e
loose_if_spelled _ e = refl

loose_text : (text : List ℕ) → list_all is_loose (symbols text) ≡ true
loose_text text =
    let before : (xs : List Symbol) × IsBeforeEnd text xs = before_end text in
    ap (λ (xs : List Symbol). list_all is_loose xs) before.1.whole
    ∙ (list_all-append is_loose before.0 (EndOfText ∷ [])
    ∙ hold_both _ _ (all_weaker is_spelled is_loose before.0 loose_if_spelled before.1.spelled) refl)

loose_right : (xs ys : List Symbol) → list_all is_loose (xs ++ ys) ≡ true → list_all is_loose ys ≡ true
loose_right xs ys e = (both_hold (list_all is_loose xs) (list_all is_loose ys) (sym (list_all-append is_loose xs ys) ∙ e)).other

loose_left : (xs ys : List Symbol) → list_all is_loose (xs ++ ys) ≡ true → list_all is_loose xs ≡ true
loose_left xs ys e = (both_hold (list_all is_loose xs) (list_all is_loose ys) (sym (list_all-append is_loose xs ys) ∙ e)).one

plain_literal : (literal : LiteralText) → list_all is_loose (spell_literal literal) ≡ true → is_plain (meaning.value_of_literal literal) ≡ true
plain_literal (Unsigned digits) e = refl
plain_literal (Signed sign digits) e = refl
plain_literal (Written text) e = (both_hold (list_all is_printable text) true e).one

plain_null : (negated : Bool) → is_plain_test (meaning.null_test negated) ≡ true
plain_null false = refl
plain_null true = refl

-- what is said of items with a symbol between them is said of each
loose_separated : {X : Type 0} (by : Symbol) (spell : X → List Symbol) (x : X) (xs : List X) → list_all is_loose (separated by spell x xs) ≡ true
    → list_all (λ item. list_all is_loose (spell item)) (x ∷ xs) ≡ true
loose_separated by spell x xs e =
    hold_both _ _ (loose_left (spell x) _ e)
    (all_weaker (λ item. list_all is_loose (by ∷ spell item)) (λ item. list_all is_loose (spell item)) xs (λ item h. loose_right (by ∷ []) (spell item) h)
    (all_inside is_loose (λ item. by ∷ spell item) xs (loose_right (spell x) _ e)))

plain_tests : (member : MemberText) → list_all is_loose (spell_member member) ≡ true → list_all is_plain_test (meaning.tests_of_member member) ≡ true
plain_tests (Compares column operator literal) e =
    let right : BothHold _ (list_all is_loose (spell_literal literal)) = both_hold _ _ (loose_right (spell_column column) _ e) in
    hold_both _ _ (plain_literal literal right.other) refl
plain_tests (TestsNull column negated) e = hold_both _ _ (plain_null negated) refl
plain_tests (IsIn column first others) e =
    let listed : list_all is_loose (separated Comma spell_literal first others ++ (Closing ∷ [])) ≡ true =
    loose_right (Word InWord ∷ Open ∷ []) (separated Comma spell_literal first others ++ (Closing ∷ [])) (loose_right (spell_column column) _ e) in
    list_all-map is_plain_test (λ literal. Compared Equal (meaning.value_of_literal literal)) (first ∷ others)
    ∙ all_weaker (λ literal. list_all is_loose (spell_literal literal)) (λ literal. is_plain (meaning.value_of_literal literal)) (first ∷ others)
    plain_literal (loose_separated Comma spell_literal first others (loose_left (separated Comma spell_literal first others) (Closing ∷ []) listed))

plain_group : (members : List Member) → list_all (λ one. is_plain_test one.test) members ≡ true → list_all is_plain_condition (meaning.group_of members) ≡ true
plain_group [] e = refl
plain_group (first ∷ others) e = hold_both _ _ (each_is_all (λ one. is_plain_test one.test) first others ∙ e) refl

module _ (schema : Schema) (from : List ℕ) where
  plain_members : (member : MemberText) → list_all is_loose (spell_member member) ≡ true
      → list_all (λ one. is_plain_test one.test) (meaning.members_meant schema from member) ≡ true
  plain_members member e =
      all_flat (λ one. is_plain_test one.test) (λ meant. map (tested meant) (meaning.tests_of_member member)) (meaning.meanings schema from (meaning.member_column member))
      (all_each (λ meant. list_all (λ one. is_plain_test one.test) (map (tested meant) (meaning.tests_of_member member))) (meaning.meanings schema from (meaning.member_column member))
      (λ meant. list_all-map (λ one. is_plain_test one.test) (tested meant) (meaning.tests_of_member member) ∙ plain_tests member e))

  plain_conditions : (condition : ConditionText) → list_all is_loose (spell_condition condition) ≡ true → list_all is_plain_condition (meaning.conditions_of schema from condition) ≡ true
  plain_conditions (Alone member) e = plain_group (meaning.members_meant schema from member) (plain_members member e)
  plain_conditions (AnyOf first second others) e =
      let inside : list_all is_loose (separated (Word OrWord) spell_member first (second ∷ others)) ≡ true =
      loose_left (separated (Word OrWord) spell_member first (second ∷ others)) (Closing ∷ []) (loose_right (Open ∷ []) (separated (Word OrWord) spell_member first (second ∷ others) ++ (Closing ∷ [])) e) in
      plain_group (flat_map (meaning.members_meant schema from) (first ∷ second ∷ others))
      (all_flat (λ one. is_plain_test one.test) (meaning.members_meant schema from) (first ∷ second ∷ others)
      (all_weaker (λ member. list_all is_loose (spell_member member)) (λ member. list_all (λ one. is_plain_test one.test) (meaning.members_meant schema from member))
      (first ∷ second ∷ others) plain_members (loose_separated (Word OrWord) spell_member first (second ∷ others) inside)))
  plain_conditions (LiesBetween column low high) e =
      let both : list_all is_loose (spell_literal low ++ (Word AndWord ∷ spell_literal high)) ≡ true = loose_right (spell_column column) _ e in
      let first : is_plain (meaning.value_of_literal low) ≡ true = plain_literal low (loose_left (spell_literal low) _ both) in
      let second : is_plain (meaning.value_of_literal high) ≡ true = plain_literal high (loose_right (spell_literal low) _ both) in
      all_flat is_plain_condition (λ meant. compared meant AtLeast (meaning.value_of_literal low) ∷ compared meant AtMost (meaning.value_of_literal high) ∷ []) (meaning.meanings schema from column)
      (all_each (λ meant. is_plain (meaning.value_of_literal low) && (is_plain (meaning.value_of_literal high) && true)) (meaning.meanings schema from column)
      (λ _. hold_both _ _ first (hold_both _ _ second refl)))
  plain_conditions (Joins left right) e =
      all_flat is_plain_condition (λ meant. map (Join meant) (meaning.meanings schema from right)) (meaning.meanings schema from left)
      (all_each (λ meant. list_all is_plain_condition (map (Join meant) (meaning.meanings schema from right))) (meaning.meanings schema from left)
      (λ meant. list_all-map is_plain_condition (Join meant) (meaning.meanings schema from right) ∙ all_each (λ _. true) (meaning.meanings schema from right) (λ _. refl)))

loose_where : (conditions : List ConditionText) → list_all is_loose (spell_where conditions) ≡ true → list_all (λ condition. list_all is_loose (spell_condition condition)) conditions ≡ true
loose_where [] e = refl
loose_where (condition ∷ more) e =
    hold_both _ _ (loose_left (spell_condition condition) _ e)
    (all_inside is_loose (λ other. Word AndWord ∷ spell_condition other) more (loose_right (spell_condition condition) _ e))

loose_conditions : (text : List ℕ) (tree : QueryText) → symbols text ≡ spelling tree → list_all (λ condition. list_all is_loose (spell_condition condition)) tree.conditions ≡ true
loose_conditions text tree e =
    let whole : list_all is_loose (spelling tree) ≡ true = ap (λ (xs : List Symbol). list_all is_loose xs) (sym e) ∙ loose_text text in
    let tables : List Symbol = separated Comma spell_table tree.table tree.more_tables in
    let after : list_all is_loose (tables ++ (spell_where tree.conditions ++ (EndOfText ∷ []))) ≡ true = loose_right (spell_selection tree.selection) _ whole in
    loose_where tree.conditions (loose_left (spell_where tree.conditions) (EndOfText ∷ []) (loose_right tables _ after))

-- how many conditions an ask has
one_at_most : (b : Bool) (test : ColumnTest) (rest : List ColumnTest) → length ((if b then test ∷ [] else []) ++ rest) ≤ 1 + length rest
one_at_most true test rest = omega arith
one_at_most false test rest = omega arith

all_at_most : (b : Bool) (tests : List ColumnTest) (most : ℕ) → length tests ≤ most → length ((if b then tests else []) ++ []) ≤ most
all_at_most true tests most h = let same : length (tests ++ []) ≡ length tests = length-append tests [] ∙ omega arith in omega (arith, h, same)
all_at_most false tests most h = omega arith

as_many : (first : Member) (others : List Member) → length (map asks.column_test (members_of_group first others)) ≡ length (first ∷ others)
as_many first [] = refl
as_many first (next ∷ others) = let rest = as_many next others in omega (arith, rest)

module _ (schema : Schema) (from : List ℕ) (table : ℕ) where
  few : (test : Test) (field : Field) (rest : List ColumnTest) → length (asks.test_of schema table (OneOf (tested field test) []) ++ rest) ≤ 1 + length rest
  few test field rest =
      one_at_most (field.table == table && is_visible schema table field.column) (record { column = field.column; test = test; more = false }) rest

  few_of_group : (members : List Member) (most : ℕ) → length members ≤ most → length (flat_map (asks.test_of schema table) (meaning.group_of members)) ≤ most
  few_of_group [] most h = omega arith
  few_of_group (first ∷ others) most h =
      let many : length (map asks.column_test (members_of_group first others)) ≡ length (first ∷ others) = as_many first others in
      all_at_most (each_of (asks.is_shown schema table) first others) (map asks.column_test (members_of_group first others)) most (omega (arith, h, many))

  few_of_meant : (tests : List Test) (fields : List Field) → length fields ≤ 1 → length (flat_map (λ meant. map (tested meant) tests) fields) ≤ length tests
  few_of_meant tests [] h = omega arith
  few_of_meant tests (field ∷ []) h =
      let one : length (map (tested field) tests ++ []) ≡ length (map (tested field) tests) + 0 = length-append (map (tested field) tests) [] in
      let same : length (map (tested field) tests) ≡ length tests = length-map tests (tested field) in
      omega (arith, one, same)
  few_of_meant tests (field ∷ other ∷ rest) h = absurd (omega (arith, h))

  few_of_two : (low high : Value) (fields : List Field) → length fields ≤ 1 → length (flat_map (asks.test_of schema table) (flat_map (λ meant. compared meant AtLeast low ∷ compared meant AtMost high ∷ []) fields)) ≤ 2
  few_of_two low high [] h = omega arith
  few_of_two low high (field ∷ []) h =
      let one = few (Compared AtLeast low) field (asks.test_of schema table (compared field AtMost high) ++ []) in
      let two = few (Compared AtMost high) field [] in
      omega (arith, one, two)
  few_of_two low high (field ∷ other ∷ rest) h = absurd (omega (arith, h))

  none_of_joins : (left : Field) (fields : List Field) → flat_map (asks.test_of schema table) (map (Join left) fields) ≡ []
  none_of_joins left [] = refl
  none_of_joins left (field ∷ fields) = none_of_joins left fields

  none_of_all_joins : (right : List Field) (fields : List Field) → flat_map (asks.test_of schema table) (flat_map (λ left. map (Join left) right) fields) ≡ []
  none_of_all_joins right [] = refl
  none_of_all_joins right (field ∷ fields) =
      flat_map-append (asks.test_of schema table) (map (Join field) right) (flat_map (λ left. map (Join left) right) fields)
      ∙ (ap (λ (xs : List ColumnTest). xs ++ flat_map (asks.test_of schema table) (flat_map (λ left. map (Join left) right) fields)) (none_of_joins field right)
      ∙ none_of_all_joins right fields)

  abbrev has_one : ColumnText → Bool
  has_one column = not (nat_lt 1 (length (meaning.meanings schema from column)))

  at_most_one : (column : ColumnText) → has_one column ≡ true → length (meaning.meanings schema from column) ≤ 1
  at_most_one column e = ltb-false 1 (length (meaning.meanings schema from column)) (not_false _ e)

  few_members : (member : MemberText) → has_one (meaning.member_column member) ≡ true → length (meaning.members_meant schema from member) ≤ length (meaning.tests_of_member member)
  few_members member e =
      few_of_meant (meaning.tests_of_member member) (meaning.meanings schema from (meaning.member_column member)) (at_most_one (meaning.member_column member) e)

  few_of_members : (members : List MemberText) → list_all (λ member. has_one (meaning.member_column member)) members ≡ true
      → length (flat_map (meaning.members_meant schema from) members) ≤ sum_by (λ member. length (meaning.tests_of_member member)) members
  few_of_members [] e = omega arith
  few_of_members (member ∷ more) e =
      let both : BothHold (has_one (meaning.member_column member)) (list_all (λ other. has_one (meaning.member_column other)) more) = both_hold _ _ e in
      let here : List Member = meaning.members_meant schema from member in
      let rest : List Member = flat_map (meaning.members_meant schema from) more in
      let split : length (here ++ rest) ≡ length here + length rest = length-append here rest in
      let total : sum_by (λ member. length (meaning.tests_of_member member)) (member ∷ more) ≡ length (meaning.tests_of_member member) + sum_by (λ member. length (meaning.tests_of_member member)) more =
      sum_by-cons (λ member. length (meaning.tests_of_member member)) member more in
      omega (arith, split, total, few_members member both.one, few_of_members more both.other)

  few_tests : (condition : ConditionText) → list_all has_one (meaning.condition_columns condition) ≡ true → length (flat_map (asks.test_of schema table) (meaning.conditions_of schema from condition)) ≤ meaning.literal_conditions condition
  few_tests (Alone member) e =
      few_of_group (meaning.members_meant schema from member) (length (meaning.tests_of_member member))
      (few_members member (both_hold (has_one (meaning.member_column member)) true e).one)
  few_tests (AnyOf first second others) e =
      few_of_group (flat_map (meaning.members_meant schema from) (first ∷ second ∷ others)) (meaning.literal_conditions (AnyOf first second others))
      (few_of_members (first ∷ second ∷ others) (sym (list_all-map has_one meaning.member_column (first ∷ second ∷ others)) ∙ e))
  few_tests (LiesBetween column low high) e =
      few_of_two (meaning.value_of_literal low) (meaning.value_of_literal high) (meaning.meanings schema from column) (at_most_one column (both_hold (has_one column) true e).one)
  few_tests (Joins left right) e =
      let none : length (flat_map (asks.test_of schema table) (meaning.conditions_of schema from (Joins left right))) ≡ 0 =
      ap length (none_of_all_joins (meaning.meanings schema from right) (meaning.meanings schema from left)) in
      omega (arith, none)

  few_in_all : (conditions : List ConditionText) → list_all (λ condition. list_all has_one (meaning.condition_columns condition)) conditions ≡ true → length (short.tests_of schema table (flat_map (meaning.conditions_of schema from) conditions)) ≤ sum_by meaning.literal_conditions conditions
  few_in_all [] e = omega arith
  few_in_all (condition ∷ more) e =
      let both : BothHold (list_all has_one (meaning.condition_columns condition)) (list_all (λ condition. list_all has_one (meaning.condition_columns condition)) more) = both_hold _ _ e in
      let here : List Condition = meaning.conditions_of schema from condition in
      let rest : List Condition = flat_map (meaning.conditions_of schema from) more in
      let split : length (short.tests_of schema table (flat_map (meaning.conditions_of schema from) (condition ∷ more))) ≡ length (flat_map (asks.test_of schema table) here) + length (flat_map (asks.test_of schema table) rest) =
      ap length (flat_map-append (asks.test_of schema table) here rest) ∙ length-append (flat_map (asks.test_of schema table) here) (flat_map (asks.test_of schema table) rest) in
      let total : sum_by meaning.literal_conditions (condition ∷ more) ≡ meaning.literal_conditions condition + sum_by meaning.literal_conditions more = sum_by-cons meaning.literal_conditions condition more in
      omega (arith, split, total, few_tests condition both.one, few_in_all more both.other)

-- the columns of asks ascend
skipped : (kept : List ℕ) (b : Bool) → b ≡ false → asks.ascend_from 0 kept ≡ true → asks.ascend_from 0 (if b then 0 ∷ kept else kept) ≡ true
skipped kept true e h = absurd (false_is_not (sym e))
skipped kept false e h = h

columns_ascend : {X : Type 0} (q : ℕ → Bool) (xs : List X) → q 0 ≡ false → asks.ascend_from 0 (filter q (places_from always 0 xs)) ≡ true
unfolding places_from
columns_ascend q [] e = refl
columns_ascend q (x ∷ xs) e = skipped (filter q (places_from always 1 xs)) (q 0) e (ascending q 0 1 xs (lit< tt))

module _ (schema : Schema) (text : List ℕ) (tree : QueryText) (spells : symbols text ≡ spelling tree) (keeps : KeptRules schema text tree) where
  abbrev tables : List ℕ
  tables = meaning.from_tables schema tree

  limited : sum_by meaning.literal_conditions tree.conditions ≤ 16
  limited =
      let four : ((nat_lt 4096 (length text) || list_any (λ name. nat_lt 32 (length name)) (short.names_in tree) || nat_lt 12 (length (meaning.from_names tree)) || nat_lt 16 (sum_by meaning.literal_conditions tree.conditions)) ≡ false) × (nat_lt 32 (meaning.selected_count schema tree tree.selection) ≡ false) = neither _ _ keeps.limits in
      let three : ((nat_lt 4096 (length text) || list_any (λ name. nat_lt 32 (length name)) (short.names_in tree) || nat_lt 12 (length (meaning.from_names tree))) ≡ false) × (nat_lt 16 (sum_by meaning.literal_conditions tree.conditions) ≡ false) = neither _ _ four.0 in
      ltb-false 16 (sum_by meaning.literal_conditions tree.conditions) three.1

  single : list_all (λ condition. list_all (has_one schema tables 0) (meaning.condition_columns condition)) tree.conditions ≡ true
  single =
      let both : (meaning.has_repeat tables ≡ false) × (list_any (λ column. nat_lt 1 (length (meaning.meanings schema tables column))) (meaning.columns_in tree) ≡ false) = neither _ _ keeps.one_meaning in
      let all : list_all (has_one schema tables 0) (meaning.columns_in tree) ≡ true = none_all (λ column. nat_lt 1 (length (meaning.meanings schema tables column))) (meaning.columns_in tree) both.1 in
      let parts : BothHold (list_all (has_one schema tables 0) (meaning.selection_columns tree.selection)) (list_all (has_one schema tables 0) (flat_map meaning.condition_columns tree.conditions)) =
      both_hold _ _ (sym (list_all-append (has_one schema tables 0) (meaning.selection_columns tree.selection) (flat_map meaning.condition_columns tree.conditions)) ∙ all) in
      all_inside (has_one schema tables 0) meaning.condition_columns tree.conditions parts.other

  plain : list_all is_plain_condition (meaning.resolved schema tree).conditions ≡ true
  plain =
      all_flat is_plain_condition (meaning.conditions_of schema tables) tree.conditions
      (all_weaker (λ condition. list_all is_loose (spell_condition condition)) (λ condition. list_all is_plain_condition (meaning.conditions_of schema tables condition)) tree.conditions
      (plain_conditions schema tables) (loose_conditions text tree spells))

  proper_ask : (table : ℕ) → nat_lt table (length schema) ≡ true → asks.is_proper_ask schema (asks.ask_for schema (meaning.resolved schema tree) table) ≡ true
  proper_ask table e =
      let query : Query = meaning.resolved schema tree in
      let count : length (short.tests_of schema table query.conditions) ≤ 16 = omega (arith, few_in_all schema tables table tree.conditions single, limited) in
      hold_both _ _
      (hold_both _ _
      (hold_both _ _
      (hold_both _ _
      (hold_both _ _
      (hold_both _ _ e (visible_columns schema query table))
      (columns_ascend (asks.is_wanted schema query table) (columns_of schema table) refl))
      (le-leb (length (short.tests_of schema table query.conditions)) 16 count))
      (visible_tests schema table query.conditions))
      (sound_tests schema table query.conditions keeps.kinds keeps.literals plain))
      (tests_end schema table query.conditions)

  proper_asks : list_all (asks.is_proper_ask schema) (asks.asks_of schema (meaning.resolved schema tree)) ≡ true
  proper_asks =
      let query : Query = meaning.resolved schema tree in
      let places : List ℕ = schemas.places_of schema in
      let below : list_all (λ place. nat_lt place (length schema)) (schemas.places_of schema) ≡ true = places_below 0 schema (length schema) (omega arith) in
      all_kept (asks.is_proper_ask schema) asks.is_needed (map (asks.ask_for schema query) (filter (short.is_from query) (schemas.places_of schema)))
      (list_all-map (asks.is_proper_ask schema) (asks.ask_for schema query) (filter (short.is_from query) (schemas.places_of schema))
      ∙ all_weaker (λ place. nat_lt place (length schema)) (λ table. asks.is_proper_ask schema (asks.ask_for schema query table)) (filter (short.is_from query) (schemas.places_of schema))
      proper_ask (all_kept (λ place. nat_lt place (length schema)) (short.is_from query) (schemas.places_of schema) below))

pub asks_are_proper : (schema : Schema) (text : List ℕ) (query : Query) → reading schema text ≡ Ok query → list_all (asks.is_proper_ask schema) (asks.asks_of schema query) ≡ true
asks_are_proper schema text query read =
    let means : meaning.Means schema text query = means_of schema text query read in
    subst (λ (q : Query). list_all (asks.is_proper_ask schema) (asks.asks_of schema q) ≡ true) (sym means.means)
    (proper_asks schema text means.tree means.spells (kept_rules schema text means.tree means.keeps))
