-- The literals of an accepted query are of their columns' kinds.
use Rattle.std.proofs.Common.{◌≡◌, ℕ, Bool, true, false, ◌&&◌, List, [], ◌∷◌, ◌++◌, length, map, sym, ◌∙◌, ap, subst, refl, Option, Some, None}
use Rattle.std.specs.Prelude.{◌||◌, not, flat_map}
use Rattle.std.specs.Option.{option_map}
use Rattle.std.specs.List.{list_all, list_any}
use Rattle.std.proofs.lemmas.List.Folds.{list_all-append, list_all-map}
use Rattle.std.proofs.lemmas.Bool.{ltb-false, le-leb}
use Rattle.ghost_model.specs.core.Schema.{Schema, Column, Kind, Integer, Chars, IntegerOrNull, CharsOrNull, plain_of, column_at, column_kind}
use Rattle.ghost_model.specs.core.Values.{Value, Null, Number, Text, fits_integer}
use Rattle.ghost_model.specs.core.Query.{Query, Test, Compared, IsNull, IsNotNull, Member, Condition, OneOf, Join, compared, tested, Equal, AtLeast, AtMost}
use Rattle.ghost_model.specs.core.Groups.{each_of, some_of}
use Rattle.ghost_model.specs.core.Database.{is_of_kind}
use Rattle.ghost_model.specs.refusals.Tokens.{Symbol, Quoted, Open, Closing, EndOfText, Word, AndWord, InWord, OrWord, Comma, is_printable, symbols}
use Rattle.ghost_model.specs.laws.Spelled.{is_spelled, IsBeforeEnd}
use Rattle.ghost_model.specs.refusals.QueryGrammar.{MemberText, Compares, TestsNull, IsIn, ConditionText, Alone, AnyOf, LiesBetween, Joins, LiteralText, Unsigned, Signed, Written, QueryText, spelling, spell_member, spell_condition, spell_literal, spell_where, spell_column, spell_table, spell_selection}
use Rattle.ghost_model.specs.refusals.Grammar.{separated}
use Rattle.ghost_model.specs.refusals.QueryMeaning as meaning
use Rattle.ghost_model.proofs.TokenLemmas.{before_end}
use Rattle.ghost_model.proofs.QueryReadingLemmas.{kept_rules}
use Rattle.ghost_model.proofs.GroupLemmas.{each_is_all}
use Rattle.ghost_model.proofs.ChannelLemmas.Tests.{false_is_not, both_hold, hold_both, BothHold}

-- tests of lists
all_weaker : {X : Type 0} (p r : X → Bool) (xs : List X) → ((x : X) → p x ≡ true → r x ≡ true) → list_all p xs ≡ true → list_all r xs ≡ true
all_weaker p r [] h e = refl
all_weaker p r (x ∷ xs) h e =
    let both : BothHold (p x) (list_all p xs) = both_hold (p x) (list_all p xs) e in
    hold_both (r x) (list_all r xs) (h x both.one) (all_weaker p r xs h both.other)

all_flat : {X Y : Type 0} (p : Y → Bool) (f : X → List Y) (xs : List X) → list_all (λ x. list_all p (f x)) xs ≡ true → list_all p (flat_map f xs) ≡ true
all_flat p f [] e = refl
all_flat p f (x ∷ xs) e =
    let both : BothHold (list_all p (f x)) (list_all (λ y. list_all p (f y)) xs) = both_hold _ _ e in
    list_all-append p (f x) (flat_map f xs) ∙ hold_both _ _ both.one (all_flat p f xs both.other)

all_inside : {X Y : Type 0} (p : Y → Bool) (f : X → List Y) (xs : List X) → list_all p (flat_map f xs) ≡ true → list_all (λ x. list_all p (f x)) xs ≡ true
all_inside p f [] e = refl
all_inside p f (x ∷ xs) e =
    let both : BothHold (list_all p (f x)) (list_all p (flat_map f xs)) = both_hold _ _ (sym (list_all-append p (f x) (flat_map f xs)) ∙ e) in
    hold_both _ _ both.one (all_inside p f xs both.other)

all_each : {X : Type 0} (p : X → Bool) (xs : List X) → ((x : X) → p x ≡ true) → list_all p xs ≡ true
all_each p [] h = refl
all_each p (x ∷ xs) h = hold_both (p x) (list_all p xs) (h x) (all_each p xs h)

neither : (a b : Bool) → (a || b) ≡ false → (a ≡ false) × (b ≡ false)
neither true b e = absurd (false_is_not (sym e))
neither false b e = (refl, e)

not_true : (a : Bool) → a ≡ false → not a ≡ true
not_true a e = rw e

not_false : (a : Bool) → not a ≡ true → a ≡ false
not_false true e = absurd (false_is_not e)
not_false false e = refl

none_all : {X : Type 0} (p : X → Bool) (xs : List X) → list_any p xs ≡ false → list_all (λ x. not (p x)) xs ≡ true
none_all p [] e = refl
none_all p (x ∷ xs) e =
    let both : (p x ≡ false) × (list_any p xs ≡ false) = neither (p x) (list_any p xs) e in
    hold_both _ _ (not_true (p x) both.0) (none_all p xs both.1)

-- a value that breaks no rule of literals is of its column's kind; `is_plain` says that a text is printable, and that it is not NULL
abbrev is_plain : Value → Bool
is_plain Null = false
is_plain (Number _) = true
is_plain (Text bytes) = list_all is_printable bytes

not_not : (b : Bool) → not b ≡ false → b ≡ true
not_not true e = refl
not_not false e = absurd (false_is_not (sym e))

by_kind : (kind : Kind) (value : Value) → meaning.is_other_kind (Some kind) value ≡ false → meaning.is_too_large (Some kind) value ≡ false → is_plain value ≡ true → is_of_kind (plain_of kind) value ≡ true
by_kind kind Null a b c = absurd (false_is_not c)
by_kind Integer (Number z) a b c = not_not (fits_integer z) b
by_kind Integer (Text text) a b c = absurd (false_is_not (sym a))
by_kind (Chars most) (Number z) a b c = absurd (false_is_not (sym a))
by_kind (Chars most) (Text text) a b c = hold_both _ _ (le-leb (length text) most (ltb-false most (length text) b)) c
by_kind IntegerOrNull (Number z) a b c = not_not (fits_integer z) b
by_kind IntegerOrNull (Text text) a b c = absurd (false_is_not (sym a))
by_kind (CharsOrNull most) (Number z) a b c = absurd (false_is_not (sym a))
by_kind (CharsOrNull most) (Text text) a b c = hold_both _ _ (le-leb (length text) most (ltb-false most (length text) b)) c

abbrev is_plain_test : Test → Bool
is_plain_test (Compared operator literal) = is_plain literal
is_plain_test IsNull = true
is_plain_test IsNotNull = true

-- whether a literal is of a column's kind and not NULL, where there is such a column
abbrev pub fits_if : Option Column → Value → Bool
fits_if None value = true
fits_if (Some column) value = is_of_kind (plain_of column.kind) value

-- so of the literal of a test, where it has one, and of those of a condition
abbrev pub fits_test : Option Column → Test → Bool
fits_test o (Compared operator literal) = fits_if o literal
fits_test o IsNull = true
fits_test o IsNotNull = true

abbrev pub fits_column : Schema → Condition → Bool
fits_column schema (OneOf first others) = each_of (λ one. fits_test (column_at schema one.field.table one.field.column) one.test) first others
fits_column schema (Join left right) = true

by_column : (o : Option Column) (value : Value) → meaning.is_other_kind (option_map (λ column. column.kind) o) value ≡ false → meaning.is_too_large (option_map (λ column. column.kind) o) value ≡ false → is_plain value ≡ true → fits_if o value ≡ true
by_column None value a b c = refl
by_column (Some column) value a b c = by_kind column.kind value a b c

by_test : (o : Option Column) (test : Test) → meaning.fails_with (meaning.is_other_kind (option_map (λ column. column.kind) o)) test ≡ false
    → meaning.fails_with (meaning.is_too_large (option_map (λ column. column.kind) o)) test ≡ false → is_plain_test test ≡ true → fits_test o test ≡ true
by_test o (Compared operator literal) a b c = by_column o literal a b c
by_test o IsNull a b c = refl
by_test o IsNotNull a b c = refl

abbrev is_plain_condition : Condition → Bool
is_plain_condition (OneOf first others) = each_of (λ one. is_plain_test one.test) first others
is_plain_condition (Join left right) = true

all_from_three : {X : Type 0} (p q r s : X → Bool) (xs : List X) → ((x : X) → p x ≡ true → q x ≡ true → r x ≡ true → s x ≡ true) → list_all p xs ≡ true → list_all q xs ≡ true → list_all r xs ≡ true → list_all s xs ≡ true
all_from_three p q r s [] h a b c = refl
all_from_three p q r s (x ∷ xs) h a b c =
    let one : BothHold (p x) (list_all p xs) = both_hold (p x) (list_all p xs) a in
    let two : BothHold (q x) (list_all q xs) = both_hold (q x) (list_all q xs) b in
    let three : BothHold (r x) (list_all r xs) = both_hold (r x) (list_all r xs) c in
    hold_both (s x) (list_all s xs) (h x one.one two.one three.one) (all_from_three p q r s xs h one.other two.other three.other)

abbrev test_fails : Schema → (Option Kind → Value → Bool) → Member → Bool
test_fails schema fails one = meaning.fails_with (fails (column_kind schema one.field.table one.field.column)) one.test

fits_one : (schema : Schema) (condition : Condition) → meaning.literal_fails schema meaning.is_other_kind condition ≡ false → meaning.literal_fails schema meaning.is_too_large condition ≡ false → is_plain_condition condition ≡ true → fits_column schema condition ≡ true
fits_one schema (Join left right) a b c = refl
fits_one schema (OneOf first []) a b c = by_test (column_at schema first.field.table first.field.column) first.test a b c
fits_one schema (OneOf first (next ∷ others)) a b c =
    let kinds = neither (test_fails schema meaning.is_other_kind first) (some_of (test_fails schema meaning.is_other_kind) next others) a in
    let sizes = neither (test_fails schema meaning.is_too_large first) (some_of (test_fails schema meaning.is_too_large) next others) b in
    let plain : BothHold (is_plain_test first.test) (each_of (λ one. is_plain_test one.test) next others) = both_hold _ _ c in
    hold_both _ _ (by_test (column_at schema first.field.table first.field.column) first.test kinds.0 sizes.0 plain.one)
    (fits_one schema (OneOf next others) kinds.1 sizes.1 plain.other)

fits_each : (schema : Schema) (conditions : List Condition) → list_any (meaning.literal_fails schema meaning.is_other_kind) conditions ≡ false
    → list_any (meaning.literal_fails schema meaning.is_too_large) conditions ≡ false → list_all is_plain_condition conditions ≡ true
    → list_all (fits_column schema) conditions ≡ true
fits_each schema conditions a b c =
    all_from_three (λ x. not (meaning.literal_fails schema meaning.is_other_kind x)) (λ x. not (meaning.literal_fails schema meaning.is_too_large x)) is_plain_condition
    (fits_column schema) conditions (λ x p q r. fits_one schema x (not_false _ p) (not_false _ q) r)
    (none_all _ conditions a) (none_all _ conditions b) c

-- the texts of literals have characters alone
abbrev is_loose : Symbol → Bool
is_loose (Quoted value) = list_all is_printable value
is_loose _ = true

loose_if_spelled : (symbol : Symbol) → is_spelled symbol ≡ true → is_loose symbol ≡ true
loose_if_spelled (Quoted value) e = e
loose_if_spelled _ e = refl

loose_text : (text : List ℕ) → list_all is_loose (symbols text) ≡ true
loose_text text =
    let before : (xs : List Symbol) × IsBeforeEnd text xs = before_end text in
    ap (λ (xs : List Symbol). list_all is_loose xs) before.1.whole
    ∙ (list_all-append is_loose before.0 (EndOfText ∷ [])
    ∙ hold_both _ _ (all_weaker is_spelled is_loose before.0 loose_if_spelled before.1.spelled) refl)

loose_right : (xs ys : List Symbol) → list_all is_loose (xs ++ ys) ≡ true → list_all is_loose ys ≡ true
loose_right xs ys e = (both_hold (list_all is_loose xs) (list_all is_loose ys) (sym (list_all-append is_loose xs ys) ∙ e)).other

loose_left : (xs ys : List Symbol) → list_all is_loose (xs ++ ys) ≡ true → list_all is_loose xs ≡ true
loose_left xs ys e = (both_hold (list_all is_loose xs) (list_all is_loose ys) (sym (list_all-append is_loose xs ys) ∙ e)).one

plain_literal : (literal : LiteralText) → list_all is_loose (spell_literal literal) ≡ true → is_plain (meaning.value_of_literal literal) ≡ true
plain_literal (Unsigned digits) e = refl
plain_literal (Signed sign digits) e = refl
plain_literal (Written text) e = (both_hold (list_all is_printable text) true e).one

plain_null : (negated : Bool) → is_plain_test (meaning.null_test negated) ≡ true
plain_null false = refl
plain_null true = refl

-- what is said of items with a symbol between them is said of each
loose_separated : {X : Type 0} (by : Symbol) (spell : X → List Symbol) (x : X) (xs : List X) → list_all is_loose (separated by spell x xs) ≡ true
    → list_all (λ item. list_all is_loose (spell item)) (x ∷ xs) ≡ true
loose_separated by spell x xs e =
    hold_both _ _ (loose_left (spell x) _ e)
    (all_weaker (λ item. list_all is_loose (by ∷ spell item)) (λ item. list_all is_loose (spell item)) xs (λ item h. loose_right (by ∷ []) (spell item) h)
    (all_inside is_loose (λ item. by ∷ spell item) xs (loose_right (spell x) _ e)))

plain_tests : (member : MemberText) → list_all is_loose (spell_member member) ≡ true → list_all is_plain_test (meaning.tests_of_member member) ≡ true
plain_tests (Compares column operator literal) e =
    let right : BothHold _ (list_all is_loose (spell_literal literal)) = both_hold _ _ (loose_right (spell_column column) _ e) in
    hold_both _ _ (plain_literal literal right.other) refl
plain_tests (TestsNull column negated) e = hold_both _ _ (plain_null negated) refl
plain_tests (IsIn column first others) e =
    let listed : list_all is_loose (separated Comma spell_literal first others ++ (Closing ∷ [])) ≡ true =
    loose_right (Word InWord ∷ Open ∷ []) (separated Comma spell_literal first others ++ (Closing ∷ [])) (loose_right (spell_column column) _ e) in
    list_all-map is_plain_test (λ literal. Compared Equal (meaning.value_of_literal literal)) (first ∷ others)
    ∙ all_weaker (λ literal. list_all is_loose (spell_literal literal)) (λ literal. is_plain (meaning.value_of_literal literal)) (first ∷ others)
    plain_literal (loose_separated Comma spell_literal first others (loose_left (separated Comma spell_literal first others) (Closing ∷ []) listed))

plain_group : (members : List Member) → list_all (λ one. is_plain_test one.test) members ≡ true → list_all is_plain_condition (meaning.group_of members) ≡ true
plain_group [] e = refl
plain_group (first ∷ others) e = hold_both _ _ (each_is_all (λ one. is_plain_test one.test) first others ∙ e) refl

module _ (schema : Schema) (from : List ℕ) where
  plain_members : (member : MemberText) → list_all is_loose (spell_member member) ≡ true
      → list_all (λ one. is_plain_test one.test) (meaning.members_meant schema from member) ≡ true
  plain_members member e =
      all_flat (λ one. is_plain_test one.test) (λ meant. map (tested meant) (meaning.tests_of_member member)) (meaning.meanings schema from (meaning.member_column member))
      (all_each (λ meant. list_all (λ one. is_plain_test one.test) (map (tested meant) (meaning.tests_of_member member))) (meaning.meanings schema from (meaning.member_column member))
      (λ meant. list_all-map (λ one. is_plain_test one.test) (tested meant) (meaning.tests_of_member member) ∙ plain_tests member e))

  plain_conditions : (condition : ConditionText) → list_all is_loose (spell_condition condition) ≡ true → list_all is_plain_condition (meaning.conditions_of schema from condition) ≡ true
  plain_conditions (Alone member) e = plain_group (meaning.members_meant schema from member) (plain_members member e)
  plain_conditions (AnyOf first second others) e =
      let inside : list_all is_loose (separated (Word OrWord) spell_member first (second ∷ others)) ≡ true =
      loose_left (separated (Word OrWord) spell_member first (second ∷ others)) (Closing ∷ []) (loose_right (Open ∷ []) (separated (Word OrWord) spell_member first (second ∷ others) ++ (Closing ∷ [])) e) in
      plain_group (flat_map (meaning.members_meant schema from) (first ∷ second ∷ others))
      (all_flat (λ one. is_plain_test one.test) (meaning.members_meant schema from) (first ∷ second ∷ others)
      (all_weaker (λ member. list_all is_loose (spell_member member)) (λ member. list_all (λ one. is_plain_test one.test) (meaning.members_meant schema from member))
      (first ∷ second ∷ others) plain_members (loose_separated (Word OrWord) spell_member first (second ∷ others) inside)))
  plain_conditions (LiesBetween column low high) e =
      let both : list_all is_loose (spell_literal low ++ (Word AndWord ∷ spell_literal high)) ≡ true = loose_right (spell_column column) _ e in
      let first : is_plain (meaning.value_of_literal low) ≡ true = plain_literal low (loose_left (spell_literal low) _ both) in
      let second : is_plain (meaning.value_of_literal high) ≡ true = plain_literal high (loose_right (spell_literal low) _ both) in
      all_flat is_plain_condition (λ meant. compared meant AtLeast (meaning.value_of_literal low) ∷ compared meant AtMost (meaning.value_of_literal high) ∷ []) (meaning.meanings schema from column)
      (all_each (λ meant. is_plain (meaning.value_of_literal low) && (is_plain (meaning.value_of_literal high) && true)) (meaning.meanings schema from column)
      (λ _. hold_both _ _ first (hold_both _ _ second refl)))
  plain_conditions (Joins left right) e =
      all_flat is_plain_condition (λ meant. map (Join meant) (meaning.meanings schema from right)) (meaning.meanings schema from left)
      (all_each (λ meant. list_all is_plain_condition (map (Join meant) (meaning.meanings schema from right))) (meaning.meanings schema from left)
      (λ meant. list_all-map is_plain_condition (Join meant) (meaning.meanings schema from right) ∙ all_each (λ _. true) (meaning.meanings schema from right) (λ _. refl)))

loose_where : (conditions : List ConditionText) → list_all is_loose (spell_where conditions) ≡ true → list_all (λ condition. list_all is_loose (spell_condition condition)) conditions ≡ true
loose_where [] e = refl
loose_where (condition ∷ more) e =
    hold_both _ _ (loose_left (spell_condition condition) _ e)
    (all_inside is_loose (λ other. Word AndWord ∷ spell_condition other) more (loose_right (spell_condition condition) _ e))

loose_conditions : (text : List ℕ) (tree : QueryText) → symbols text ≡ spelling tree → list_all (λ condition. list_all is_loose (spell_condition condition)) tree.conditions ≡ true
loose_conditions text tree e =
    let whole : list_all is_loose (spelling tree) ≡ true = ap (λ (xs : List Symbol). list_all is_loose xs) (sym e) ∙ loose_text text in
    let tables : List Symbol = separated Comma spell_table tree.table tree.more_tables in
    let after : list_all is_loose (tables ++ (spell_where tree.conditions ++ (EndOfText ∷ []))) ≡ true = loose_right (spell_selection tree.selection) _ whole in
    loose_where tree.conditions (loose_left (spell_where tree.conditions) (EndOfText ∷ []) (loose_right tables _ after))

pub literals_fit : (schema : Schema) (text : List ℕ) (query : Query) → meaning.Means schema text query → list_all (fits_column schema) query.conditions ≡ true
literals_fit schema text query means =
    let tree = means.tree in
    let tables = meaning.from_tables schema tree in
    let kept = kept_rules schema text tree means.keeps in
    let plain : list_all is_plain_condition (meaning.resolved schema tree).conditions ≡ true =
    all_flat is_plain_condition (meaning.conditions_of schema tables) tree.conditions
    (all_weaker (λ condition. list_all is_loose (spell_condition condition)) (λ condition. list_all is_plain_condition (meaning.conditions_of schema tables condition)) tree.conditions
    (plain_conditions schema tables) (loose_conditions text tree means.spells)) in
    subst (λ (q : Query). list_all (fits_column schema) q.conditions ≡ true) (sym means.means)
    (fits_each schema (meaning.resolved schema tree).conditions kept.kinds kept.literals plain)
