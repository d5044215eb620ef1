-- That from the hidden part and whole replies follows the answer: combination by combination.
use Rattle.std.proofs.Common.{◌≡◌, ℕ, zero, suc, ◌+◌, ◌<◌, ◌≤◌, inl, inr, Bool, true, false, not, ◌&&◌, List, [], ◌∷◌, ◌++◌, length, map, filter, flat_map, sym, ◌∙◌, ap, subst, refl, arith, Option, Some, None, slice_get, unwrap_or}
use Rattle.std.specs.Prelude.{◌==◌, if◌then◌else◌, option_and_then}
use Rattle.std.specs.List.{list_all, list_any, range_with_len}
use Rattle.std.proofs.lemmas.List.{length-map}
use Rattle.std.proofs.lemmas.Bool.Decides.{nat_tests}
use Rattle.std.proofs.lemmas.Bool.{eqb-true}
use Rattle.ghost_model.specs.core.Schema.{Schema, is_visible, parent}
use Rattle.ghost_model.specs.laws.SchemaTrees.{IsTree}
use Rattle.ghost_model.specs.core.Values.{Value, Row, Rows, Database}
use Rattle.ghost_model.specs.core.Query.{Query, Field, Member, members_of_group, Condition, OneOf, Join, top_of, only, is_some_among}
use Rattle.ghost_model.specs.core.Query as query
use Rattle.ghost_model.specs.refusals.QueryMeaning.{Means}
use Rattle.ghost_model.specs.core.Groups.{each_of, some_of, each_group}
use Rattle.ghost_model.specs.core.Channel.{ColumnTest}
use Rattle.ghost_model.specs.core.Asks.{column_test, is_column, is_mixed, names_column, is_wanted}
use Rattle.ghost_model.specs.core.Asks as asks
use Rattle.ghost_model.specs.laws.ShortWords.{tests_of, rows_or_none, others_of}
use Rattle.ghost_model.specs.core.Database.{rows_of, row_of, row_count, IsDatabase}
use Rattle.ghost_model.specs.core.Split.{Hidden, hidden_of, public_of}
use Rattle.ghost_model.specs.core.Meaning as meaning
use Rattle.ghost_model.specs.core.Meaning.{Pick, pick, combinations, compares, meets_test, no_value, all_of, answer_by_top, answer}
use Rattle.ghost_model.proofs.MeaningLemmas.PartsByFlags.{hidden_rows_at}
use Rattle.ghost_model.specs.core.Replies as replies
use Rattle.ghost_model.specs.core.Replies.{Reply, known_value, known, answer_from}
use Rattle.ghost_model.specs.laws.SessionLaws.{whole_replies}
use Rattle.ghost_model.proofs.ChannelLemmas.Tests.{false_is_not, BothHold, both_hold, hold_both}
use Rattle.ghost_model.proofs.MeaningLemmas.Picks.{picks, identifiers_of, known_in, is_true_or_asked, stands_in_reply, is_kept, answer_of_pick}
use Rattle.ghost_model.proofs.MeaningLemmas.ByRows as by_row
use Rattle.ghost_model.proofs.MeaningLemmas.ByRows.{Chosen, choice, Combination, row_combinations, row_in, value_in, is_met_in, is_true_in, passes, projection, answer_of_row, mapped_twice, by_rows}
use Rattle.ghost_model.proofs.MeaningLemmas.OneRow.{Among, Distinct, among-filter, from_filter, not_equal}
use Rattle.ghost_model.proofs.SessionLemmas.Whole.{holds_in, stands_by, stands_in_is, known_is}
use Rattle.ghost_model.proofs.SessionLemmas.Accepted.{Each, each_is, ComparesFrom, JoinsUnseen, IsSound, query_is_sound}
use Rattle.ghost_model.proofs.SessionLemmas.Members.{left_true, right_true, any_true, some_true, some_agree, each_true, true_of_each, says_more, no_group_fails, group_then}

same_bool : (a b : Bool) → (a ≡ true → b ≡ true) → (b ≡ true → a ≡ true) → a ≡ b
same_bool true true p q = refl
same_bool true false p q = sym (p refl)
same_bool false true p q = q refl
same_bool false false p q = refl

never_true : (b : Bool) → (b ≡ true → ⊥) → b ≡ false
never_true true h = absurd (h refl)
never_true false h = refl

same_number : (n : ℕ) → (n == n) ≡ true
same_number n = grind (arith, nat_tests)

-- lists that correspond
same_filtered :
    {X Y Z : Type 0} (P : X → Type 0) (h : X → Y) (p : X → Bool) (q : Y → Bool) (f : X → Z) (g : Y → Z) (xs : List X)
    → ((x : X) → P x → p x ≡ q (h x)) → ((x : X) → P x → q (h x) ≡ true → f x ≡ g (h x)) → Each P xs
    → map f (filter p xs) ≡ map g (filter q (map h xs))
same_filtered P h p q f g [] tests values each = refl
same_filtered {Z} P h p q f g (x ∷ xs) tests values each =
    let later = same_filtered P h p q f g xs tests values each.1 in
    ap (λ (b : Bool). map f (if b then x ∷ filter p xs else filter p xs)) (tests x each.0)
    ∙ (elim (q (h x)) as (λ v. q (h x) ≡ v → map f (if v then x ∷ filter p xs else filter p xs) ≡ map g (if v then h x ∷ filter q (map h xs) else filter q (map h xs))) [
      | true ↦ λ e. ap (λ (z : Z). z ∷ map f (filter p xs)) (values x each.0 e) ∙ ap (λ (zs : List Z). g (h x) ∷ zs) later
      | false ↦ λ e. later
    ]) refl

each_joined : {X : Type 0} (P : X → Type 0) (xs ys : List X) → Each P xs → Each P ys → Each P (xs ++ ys)
each_joined P [] ys e f = f
each_joined P (x ∷ xs) ys e f = (e.0, each_joined P xs ys e.1 f)

each_mapped : {X Y : Type 0} (P : Y → Type 0) (Q : X → Type 0) (f : X → Y) (xs : List X) → ((x : X) → Q x → P (f x)) → Each Q xs → Each P (map f xs)
each_mapped P Q f [] h e = tt
each_mapped P Q f (x ∷ xs) h e = (h x e.0, each_mapped P Q f xs h e.1)

each_flat : {X Y : Type 0} (P : Y → Type 0) (Q : X → Type 0) (f : X → List Y) (xs : List X) → ((x : X) → Q x → Each P (f x)) → Each Q xs → Each P (flat_map f xs)
each_flat P Q f [] h e = tt
each_flat P Q f (x ∷ xs) h e = each_joined P (f x) (flat_map f xs) (h x e.0) (each_flat P Q f xs h e.1)

distinct_filter : (p : ℕ → Bool) (xs : List ℕ) → Distinct xs → Distinct (filter p xs)
distinct_filter p [] d = d
distinct_filter p (x ∷ xs) d =
    (elim (p x) as (λ v. Distinct (if v then x ∷ filter p xs else filter p xs)) [
      | true ↦ (λ h. d.0 (from_filter p x xs h).0, distinct_filter p xs d.1)
      | false ↦ distinct_filter p xs d.1
    ])

only_among : (xs : List ℕ) (x : ℕ) → only xs ≡ Some x → Among x xs
only_among [] x e = absurd (cc)
only_among (y ∷ []) x e = inl (ap (λ (o : Option ℕ). unwrap_or o y) e)
only_among (y ∷ z ∷ xs) x e = absurd (cc)

there_is : {X : Type 0} (xs : List X) (place : ℕ) (other : X) → place < length xs → slice_get xs place ≡ Some (unwrap_or (slice_get xs place) other)
there_is [] place other h = absurd (omega (arith, h))
there_is (x ∷ xs) zero other h = refl
there_is (x ∷ xs) (suc place) other h = there_is xs place other (omega (arith, h))

field_selected : (f : Field) (select : List Field) → Among f select → list_any (is_column f.table f.column) select ≡ true
field_selected f select among =
    any_true (is_column f.table f.column) f select among (hold_both (f.table == f.table) (f.column == f.column) (same_number f.table) (same_number f.column))

module _ (schema : Schema) (database : Database) (is : IsDatabase schema database) (asked : Query) where
  abbrev kept : Hidden
  kept = hidden_of schema database

  abbrev given : List Reply
  given = whole_replies schema (public_of schema database) asked

  -- the row of a pick
  abbrev row_at : Pick → Row
  row_at one = unwrap_or (row_of database one.table one.identifier) []

  abbrev chosen : Pick → Chosen
  chosen one = choice one.table (row_at one)

  record IsThere (one : Pick) : Type 0 where
    place : ℕ
    numbered : one.identifier ≡ suc place
    stands : slice_get (rows_of database one.table) place ≡ Some (row_at one)
    from : Among one.table asked.from

  -- a row of each of these tables
  record IsPicked (tables : List ℕ) (combination : List Pick) : Type 0 where
    there : Each IsThere combination
    tables_are : map (λ (one : Pick). one.table) combination ≡ tables

  abbrev Stands : Pick → Type 0
  Stands one = stands_by schema database is asked one.table (row_at one) ≡ true

  -- known values are those of the rows
  known_one :
      (one : Pick) (f : Field) → IsThere one → one.table ≡ f.table
      → (is_visible schema f.table f.column ≡ true → Stands one × (is_wanted schema asked f.table f.column ≡ true))
      → known_value schema kept given one.table one.identifier f.column ≡ slice_get (row_at one) f.column
  known_one one f there same told =
      subst (λ (n : ℕ). known_value schema kept given one.table n f.column ≡ slice_get (row_at one) f.column) (sym there.numbered)
      (known_is schema database is asked one.table there.place f.column (row_at one) there.stands
      (λ v. let t = told (subst (λ (n : ℕ). is_visible schema n f.column ≡ true) same v) in
      record { from = there.from; stands = t.0; wanted = subst (λ (n : ℕ). is_wanted schema asked n f.column ≡ true) (sym same) t.1 }))

  known_agrees :
      (combination : List Pick) (f : Field) → Each IsThere combination
      → (is_visible schema f.table f.column ≡ true → Each Stands combination × (is_wanted schema asked f.table f.column ≡ true))
      → known_in schema kept given combination f ≡ value_in (map chosen combination) f
  known_agrees [] f there told = refl
  known_agrees (one ∷ others) f there told =
      (elim (one.table == f.table) as (λ v. (one.table == f.table) ≡ v → (if v then known_value schema kept given one.table one.identifier f.column else known_in schema kept given others f) ≡ option_and_then (λ row. slice_get row f.column) (if v then Some (row_at one) else row_in (map chosen others) f.table)) [
        | true ↦ λ e. known_one one f there.0 (eqb-true one.table f.table e) (λ v. let t = told v in (t.0.0, t.1))
        | false ↦ λ e. known_agrees others f there.1 (λ v. let t = told v in (t.0.1, t.1))
      ]) refl

  unseen_agrees : (combination : List Pick) (f : Field) → Each IsThere combination → is_visible schema f.table f.column ≡ false → known_in schema kept given combination f ≡ value_in (map chosen combination) f
  unseen_agrees combination f there e = known_agrees combination f there (λ v. absurd (false_is_not (sym e ∙ v)))

  -- the row of a table in a combination
  found_in : (combination : List Pick) (table : ℕ) → Among table (map (λ (one : Pick). one.table) combination) → (one : Pick) × Among one combination × (one.table ≡ table) × (row_in (map chosen combination) table ≡ Some (row_at one))
  found_in [] table h = absurd h
  found_in (one ∷ others) table h =
      (elim (one.table == table) as (λ v. (one.table == table) ≡ v → (it : Pick) × Among it (one ∷ others) × (it.table ≡ table) × ((if v then Some (row_at one) else row_in (map chosen others) table) ≡ Some (row_at it))) [
        | true ↦ λ e. (one, inl refl, eqb-true one.table table e, refl)
        | false ↦ λ e. (let it = found_in others table (later_one e h) in (it.0, inr it.1, it.2, it.3))
      ]) refl
    where
      later_one : (one.table == table) ≡ false → Among table (one.table ∷ map (λ (other : Pick). other.table) others) → Among table (map (λ (other : Pick). other.table) others)
      later_one differs (inl same) = absurd (false_is_not (sym differs ∙ (ap (λ (n : ℕ). n == table) same ∙ same_number table)))
      later_one differs (inr later) = later

  tail_rows :
      (one : Pick) (all some : List Pick) → (Among one.table (map (λ (other : Pick). other.table) some) → ⊥)
      → Each (λ (other : Pick). row_in (map chosen all) other.table ≡ Some (row_at other)) some
      → Each (λ (other : Pick). row_in (map chosen (one ∷ all)) other.table ≡ Some (row_at other)) some
  tail_rows one all [] apart e = tt
  tail_rows one all (first ∷ some) apart e = (
    ap (λ (b : Bool). if b then Some (row_at one) else row_in (map chosen all) first.table) (not_equal one.table first.table (λ same. apart (inl (sym same)))) ∙ e.0,
    tail_rows one all some (λ h. apart (inr h)) e.1,
  )

  own_rows : (combination : List Pick) → Distinct (map (λ (one : Pick). one.table) combination) → Each (λ (one : Pick). row_in (map chosen combination) one.table ≡ Some (row_at one)) combination
  own_rows [] d = tt
  own_rows (one ∷ others) d =
      (ap (λ (b : Bool). if b then Some (row_at one) else row_in (map chosen others) one.table) (same_number one.table), tail_rows one others others d.0 (own_rows others d.1))

  -- a condition holds in a row of a table, where it is a visible group of that table
  abbrev meets_in : Row → Member → Bool
  meets_in row one = meets_test one.test (slice_get row one.field.column)

  abbrev group_holds : (table : ℕ) → Row → Condition → Bool
  group_holds table row (OneOf first others) =
      if each_of (asks.is_shown schema table) first others then some_of (meets_in row) first others else true
  group_holds table row (Join left right) = true

  abbrev all_hold : (table : ℕ) → Row → List Condition → Bool
  all_hold table row conditions = each_group says_more (holds_in schema database is asked row) (tests_of schema table conditions)

  holds_as :
      (row : Row) (test : ColumnTest) (one : Member) → test.column ≡ one.field.column → test.test ≡ one.test
      → holds_in schema database is asked row test ≡ meets_in row one
  holds_as row test one column same = ap (λ t. meets_test t (slice_get row test.column)) same ∙ ap (λ (n : ℕ). meets_test one.test (slice_get row n)) column

  hold_then :
      (table : ℕ) (row : Row) (condition : Condition) (conditions : List Condition)
      → all_hold table row (condition ∷ conditions) ≡ (group_holds table row condition && all_hold table row conditions)
  hold_then table row (Join left right) conditions = refl
  hold_then table row (OneOf first others) conditions =
      (elim (each_of (asks.is_shown schema table) first others) as (λ v. each_group says_more (holds_in schema database is asked row) ((if v then map column_test (members_of_group first others) else []) ++ tests_of schema table conditions) ≡ ((if v then some_of (meets_in row) first others else true) && all_hold table row conditions)) [
        | true ↦ group_then (holds_in schema database is asked row) (meets_in row) (holds_as row) first others (tests_of schema table conditions)
        | false ↦ refl
      ])

  condition_holds :
      (table : ℕ) (row : Row) (conditions : List Condition) (condition : Condition) → all_hold table row conditions ≡ true
      → Among condition conditions → group_holds table row condition ≡ true
  condition_holds table row [] condition h among = absurd among
  condition_holds table row (first ∷ conditions) condition h among =
      let both : BothHold (group_holds table row first) (all_hold table row conditions) =
      both_hold _ _ (sym (hold_then table row first conditions) ∙ h) in
      (elim among [
        | inl same ↦ subst (λ (c : Condition). group_holds table row c ≡ true) same both.one
        | inr later ↦ condition_holds table row conditions condition both.other later
      ])

  -- a member of a visible group is met in a row of its table where it is met in a combination with that row
  met_as :
      (combination : List Pick) (one : Pick) (first : Member) (others : List Member) → row_in (map chosen combination) one.table ≡ Some (row_at one)
      → each_of (asks.is_shown schema one.table) first others ≡ true → some_of (is_met_in (map chosen combination)) first others ≡ some_of (meets_in (row_at one)) first others
  met_as combination one first others at shown =
      some_agree (is_met_in (map chosen combination)) (meets_in (row_at one)) first others
      (λ member among.
      let both : BothHold (member.field.table == one.table) (is_visible schema one.table member.field.column) =
      both_hold _ _ (each_true (asks.is_shown schema one.table) member first others shown among) in
      let row : row_in (map chosen combination) member.field.table ≡ Some (row_at one) =
      ap (λ (n : ℕ). row_in (map chosen combination) n) (eqb-true member.field.table one.table both.one) ∙ at in
      ap (λ (o : Option Row). meets_test member.test (option_and_then (λ r. slice_get r member.field.column) o)) row)

  holds_from :
      (combination : List Pick) (one : Pick) → row_in (map chosen combination) one.table ≡ Some (row_at one)
      → (condition : Condition) → is_true_in (map chosen combination) condition ≡ true
      → group_holds one.table (row_at one) condition ≡ true
  holds_from combination one at (Join left right) h = refl
  holds_from combination one at (OneOf first others) h =
      (elim (each_of (asks.is_shown schema one.table) first others) as (λ v. each_of (asks.is_shown schema one.table) first others ≡ v → (if v then some_of (meets_in (row_at one)) first others else true) ≡ true) [
        | true ↦ λ e. sym (met_as combination one first others at e) ∙ h
        | false ↦ λ e. refl
      ]) refl

  stands_from :
      (combination : List Pick) (one : Pick) → row_in (map chosen combination) one.table ≡ Some (row_at one)
      → (conditions : List Condition) → list_all (is_true_in (map chosen combination)) conditions ≡ true
      → all_hold one.table (row_at one) conditions ≡ true
  stands_from combination one at [] h = no_group_fails says_more (holds_in schema database is asked (row_at one)) [] refl
  stands_from combination one at (condition ∷ conditions) h =
      let both : BothHold (is_true_in (map chosen combination) condition) (list_all (is_true_in (map chosen combination)) conditions) = both_hold _ _ h in
      hold_then one.table (row_at one) condition conditions
      ∙ hold_both _ _ (holds_from combination one at condition both.one) (stands_from combination one at conditions both.other)

  all_stand_from : (combination some : List Pick) → Each (λ (one : Pick). row_in (map chosen combination) one.table ≡ Some (row_at one)) some → passes asked.conditions (map chosen combination) ≡ true → Each Stands some
  all_stand_from combination [] e h = tt
  all_stand_from combination (one ∷ some) e h = (stands_from combination one e.0 asked.conditions h, all_stand_from combination some e.1 h)

  -- standing in the replies
  stands_is : (one : Pick) → IsThere one → stands_in_reply given one ≡ stands_by schema database is asked one.table (row_at one)
  stands_is one there =
      ap (λ (n : ℕ). replies.stands_in n (replies.reply_about one.table given)) there.numbered
      ∙ stands_in_is schema database is asked one.table there.place (row_at one) there.stands there.from

  all_stand : (combination : List Pick) → Each IsThere combination → list_all (stands_in_reply given) combination ≡ true → Each Stands combination
  all_stand [] there h = tt
  all_stand (one ∷ others) there h =
      let both : BothHold (stands_in_reply given one) (list_all (stands_in_reply given) others) = both_hold _ _ h in
      (sym (stands_is one there.0) ∙ both.one, all_stand others there.1 both.other)

  stand_all : (combination : List Pick) → Each IsThere combination → Each Stands combination → list_all (stands_in_reply given) combination ≡ true
  stand_all [] there h = refl
  stand_all (one ∷ others) there h = hold_both _ _ (stands_is one there.0 ∙ h.0) (stand_all others there.1 h.1)

  -- conditions
  abbrev is_judged : Member → Bool
  is_judged one = is_visible schema one.field.table one.field.column

  judged_true :
      (combination : List Pick) (first : Member) (others : List Member) → Each Stands combination
      → ComparesFrom schema (map (λ (one : Pick). one.table) combination) (OneOf first others) → Among (OneOf first others) asked.conditions
      → each_of is_judged first others ≡ true → is_true_in (map chosen combination) (OneOf first others) ≡ true
  judged_true combination first others stand from among judged =
      let it = found_in combination first.field.table from.0 in
      let stands : Stands it.0 = each_is Stands it.0 combination stand it.1 in
      let of_one : (member : Member) → Among member (first ∷ others) → member.field.table ≡ it.0.table = λ member a.
      (elim a [
        | inl same ↦ sym (it.2 ∙ ap (λ (m : Member). m.field.table) same)
        | inr later ↦ each_is (λ (m : Member). m.field.table ≡ first.field.table) member others from.1 later ∙ sym it.2
      ]) in
      let shown : each_of (asks.is_shown schema it.0.table) first others ≡ true =
      true_of_each (asks.is_shown schema it.0.table) first others
      (λ member a.
      hold_both _ _ (ap (λ (n : ℕ). n == it.0.table) (of_one member a) ∙ same_number it.0.table)
      (subst (λ (n : ℕ). is_visible schema n member.field.column ≡ true) (of_one member a) (each_true is_judged member first others judged a))) in
      let at : row_in (map chosen combination) it.0.table ≡ Some (row_at it.0) =
      ap (λ (n : ℕ). row_in (map chosen combination) n) it.2 ∙ it.3 in
      let holds : group_holds it.0.table (row_at it.0) (OneOf first others) ≡ true =
      condition_holds it.0.table (row_at it.0) asked.conditions (OneOf first others) stands among in
      met_as combination it.0 first others at shown
      ∙ (sym (ap (λ (b : Bool). if b then some_of (meets_in (row_at it.0)) first others else true) shown) ∙ holds)

  -- a visible column of a mixed group is wanted
  mixed_wanted :
      (first : Member) (others : List Member) (member : Member) → Among (OneOf first others) asked.conditions → Among member (first ∷ others)
      → each_of is_judged first others ≡ false → is_judged member ≡ true → is_wanted schema asked member.field.table member.field.column ≡ true
  mixed_wanted first others member among within unjudged visible =
      let table : ℕ = member.field.table in
      let column : ℕ = member.field.column in
      let some_shown : some_of (asks.is_shown schema table) first others ≡ true =
      some_true (asks.is_shown schema table) member first others within (hold_both _ _ (same_number table) visible) in
      let judged_if : each_of (asks.is_shown schema table) first others ≡ true → each_of is_judged first others ≡ true = λ shown.
      true_of_each is_judged first others
      (λ other a.
      let both : BothHold (other.field.table == table) (is_visible schema table other.field.column) =
      both_hold _ _ (each_true (asks.is_shown schema table) other first others shown a) in
      subst (λ (n : ℕ). is_visible schema n other.field.column ≡ true) (sym (eqb-true other.field.table table both.one)) both.other) in
      let mixed : is_mixed schema table (OneOf first others) ≡ true =
      hold_both _ _ some_shown (ap not (never_true _ (λ shown. false_is_not (sym unjudged ∙ judged_if shown)))) in
      let named : names_column table column (OneOf first others) ≡ true =
      some_true (λ (one : Member). is_column table column one.field) member first others within (hold_both _ _ (same_number table) (same_number column)) in
      hold_both (is_visible schema table column) _ visible
      (right_true (list_any (is_column table column) asked.select) _
      (any_true (λ condition. is_mixed schema table condition && names_column table column condition) (OneOf first others) asked.conditions among (hold_both _ _ mixed named)))

  -- the members of a group that was not judged
  members_agree :
      (combination : List Pick) (first : Member) (others : List Member) → Each IsThere combination → Each Stands combination
      → Among (OneOf first others) asked.conditions → each_of is_judged first others ≡ false
      → some_of (meaning.is_met_in (known schema kept given) combination) first others ≡ some_of (is_met_in (map chosen combination)) first others
  members_agree combination first others there stand among unjudged =
      some_agree (meaning.is_met_in (known schema kept given) combination) (is_met_in (map chosen combination)) first others
      (λ member within.
      ap (λ (o : Option Value). meets_test member.test o)
      (known_agrees combination member.field there (λ v. (stand, mixed_wanted first others member among within unjudged v))))

  join_agrees : (combination : List Pick) (one other : Field) → Each IsThere combination → is_visible schema one.table one.column ≡ false → is_visible schema other.table other.column ≡ false → is_true_or_asked schema kept given combination (Join one other) ≡ is_true_in (map chosen combination) (Join one other)
  join_agrees combination one other there d e =
      ap (λ (o : Option Value). compares query.Equal o (known_in schema kept given combination other)) (unseen_agrees combination one there d)
      ∙ ap (λ (o : Option Value). compares query.Equal (value_in (map chosen combination) one) o) (unseen_agrees combination other there e)

  condition_true :
      (combination : List Pick) (condition : Condition) → Each IsThere combination → Each Stands combination
      → (ComparesFrom schema (map (λ (one : Pick). one.table) combination) condition) → JoinsUnseen schema condition → Among condition asked.conditions
      → is_true_or_asked schema kept given combination condition ≡ true → is_true_in (map chosen combination) condition ≡ true
  condition_true combination (OneOf first others) there stand from unseen among h =
      (elim (each_of is_judged first others) as (λ v. each_of is_judged first others ≡ v → (if v then true else some_of (meaning.is_met_in (known schema kept given) combination) first others) ≡ true → is_true_in (map chosen combination) (OneOf first others) ≡ true) [
        | true ↦ λ e k. judged_true combination first others stand from among e
        | false ↦ λ e k. sym (members_agree combination first others there stand among e) ∙ k
      ]) refl h
  condition_true combination (Join one other) there stand from unseen among h = sym (join_agrees combination one other there unseen.0 unseen.1) ∙ h

  condition_asked :
      (combination : List Pick) (condition : Condition) → Each IsThere combination → Each Stands combination → JoinsUnseen schema condition
      → Among condition asked.conditions → is_true_in (map chosen combination) condition ≡ true → is_true_or_asked schema kept given combination condition ≡ true
  condition_asked combination (OneOf first others) there stand unseen among h =
      (elim (each_of is_judged first others) as (λ v. each_of is_judged first others ≡ v → (if v then true else some_of (meaning.is_met_in (known schema kept given) combination) first others) ≡ true) [
        | true ↦ λ e. refl
        | false ↦ λ e. members_agree combination first others there stand among e ∙ h
      ]) refl
  condition_asked combination (Join one other) there stand unseen among h = join_agrees combination one other there unseen.0 unseen.1 ∙ h

  all_true :
      (combination : List Pick) (conditions : List Condition) → Each IsThere combination → Each Stands combination
      → Each (ComparesFrom schema (map (λ (one : Pick). one.table) combination)) conditions → Each (JoinsUnseen schema) conditions
      → ((condition : Condition) → Among condition conditions → Among condition asked.conditions)
      → list_all (is_true_or_asked schema kept given combination) conditions ≡ true → passes conditions (map chosen combination) ≡ true
  all_true combination [] there stand from unseen among h = refl
  all_true combination (condition ∷ conditions) there stand from unseen among h =
      let both : BothHold (is_true_or_asked schema kept given combination condition) (list_all (is_true_or_asked schema kept given combination) conditions) = both_hold _ _ h in
      hold_both _ _ (condition_true combination condition there stand from.0 unseen.0 (among condition (inl refl)) both.one)
      (all_true combination conditions there stand from.1 unseen.1 (λ other a. among other (inr a)) both.other)

  all_asked :
      (combination : List Pick) (conditions : List Condition) → Each IsThere combination → Each Stands combination → Each (JoinsUnseen schema) conditions
      → ((condition : Condition) → Among condition conditions → Among condition asked.conditions)
      → passes conditions (map chosen combination) ≡ true → list_all (is_true_or_asked schema kept given combination) conditions ≡ true
  all_asked combination [] there stand unseen among h = refl
  all_asked combination (condition ∷ conditions) there stand unseen among h =
      let both : BothHold (is_true_in (map chosen combination) condition) (passes conditions (map chosen combination)) = both_hold _ _ h in
      hold_both _ _ (condition_asked combination condition there stand unseen.0 (among condition (inl refl)) both.one)
      (all_asked combination conditions there stand unseen.1 (λ other a. among other (inr a)) both.other)

  compares_there : (tables : List ℕ) → ((table : ℕ) → Among table asked.from → Among table tables) → (conditions : List Condition) → Each (ComparesFrom schema asked.from) conditions → Each (ComparesFrom schema tables) conditions
  compares_there tables within [] e = tt
  compares_there tables within (OneOf first others ∷ conditions) e = ((within first.field.table e.0.0, e.0.1), compares_there tables within conditions e.1)
  compares_there tables within (Join one other ∷ conditions) e = (tt, compares_there tables within conditions e.1)

  module _ (sound : IsSound schema asked) (tables : List ℕ) (distinct : Distinct tables) (within : (table : ℕ) → Among table asked.from → Among table tables) where
    -- the rows of a kept combination stand in their replies
    kept_stands : (combination : List Pick) → IsPicked tables combination → passes asked.conditions (map chosen combination) ≡ true → Each Stands combination
    kept_stands combination picked h =
        all_stand_from combination combination
        (own_rows combination (subst (λ (ts : List ℕ). Distinct ts) (sym picked.tables_are) distinct)) h

    kept_is : (combination : List Pick) → IsPicked tables combination → is_kept schema kept given asked.conditions combination ≡ passes asked.conditions (map chosen combination)
    kept_is combination picked =
        same_bool _ _
        (λ h.
        let both : BothHold (list_all (stands_in_reply given) combination) (list_all (is_true_or_asked schema kept given combination) asked.conditions) = both_hold _ _ h in
        all_true combination asked.conditions picked.there (all_stand combination picked.there both.one)
        (subst (λ (ts : List ℕ). Each (ComparesFrom schema ts) asked.conditions) (sym picked.tables_are) (compares_there tables within asked.conditions sound.compared))
        sound.joined (λ condition a. a) both.other)
        (λ h.
        let stand : Each Stands combination = kept_stands combination picked h in
        hold_both _ _ (stand_all combination picked.there stand) (all_asked combination asked.conditions picked.there stand sound.joined (λ condition a. a) h))

    values_are : (combination : List Pick) (select : List Field) → Each IsThere combination → Each Stands combination → ((f : Field) → Among f select → Among f asked.select) → map (λ column. unwrap_or (known_in schema kept given combination column) no_value) select ≡ projection select (map chosen combination)
    values_are combination [] there stand among = refl
    values_are combination (f ∷ select) there stand among =
        ap (λ (o : Option Value). unwrap_or o no_value ∷ map (λ column. unwrap_or (known_in schema kept given combination column) no_value) select)
        (known_agrees combination f there (λ v. (stand, hold_both _ _ v (left_true _ _ (field_selected f asked.select (among f (inl refl)))))))
        ∙ ap (λ (values : Row). unwrap_or (value_in (map chosen combination) f) no_value ∷ values) (values_are combination select there stand (λ g a. among g (inr a)))

    -- the same rows from picks and from rows
    same_rows :
        (combinations : List (List Pick)) → Each (IsPicked tables) combinations
        → map (λ combination. map (λ column. unwrap_or (known_in schema kept given combination column) no_value) asked.select) (filter (is_kept schema kept given asked.conditions) combinations)
        ≡ map (projection asked.select) (filter (passes asked.conditions) (map (map chosen) combinations))
    same_rows combinations each =
        same_filtered (IsPicked tables) (map chosen) (is_kept schema kept given asked.conditions) (passes asked.conditions)
        (λ combination. map (λ column. unwrap_or (known_in schema kept given combination column) no_value) asked.select) (projection asked.select) combinations kept_is
        (λ combination picked h. values_are combination asked.select picked.there (kept_stands combination picked h) (λ f a. a)) each

  -- the identifiers of a table are those of its rows
  many : (table : ℕ) → length (rows_or_none (slice_get kept.hidden table)) ≡ row_count database table
  many table =
      ap (λ (rows : Rows). length rows) (hidden_rows_at schema database is.tables table)
      ∙ length-map (rows_of database table) _

  how_many : (table : ℕ) → identifiers_of kept table ≡ range_with_len 1 (length (rows_of database table))
  how_many table = ap (λ (n : ℕ). range_with_len 1 n) (many table)

  there_from : (table : ℕ) → Among table asked.from → (count before : ℕ) → before + count ≤ length (rows_of database table) → Each (λ (identifier : ℕ). IsThere (pick table identifier)) (range_with_len (suc before) count)
  there_from table from zero before h = tt
  there_from table from (suc count) before h =
      let next : suc before + 1 ≡ suc (suc before) = omega arith in (
        record { place = before; numbered = refl; stands = there_is (rows_of database table) before [] (omega (arith, h)); from = from },
        subst (λ (n : ℕ). Each (λ (identifier : ℕ). IsThere (pick table identifier)) (range_with_len n count)) (sym next)
            (there_from table from count (suc before) (omega (arith, h))),
      )

  all_there : (table : ℕ) → Among table asked.from → Each (λ (identifier : ℕ). IsThere (pick table identifier)) (identifiers_of kept table)
  all_there table from =
      subst (λ (identifiers : List ℕ). Each (λ (identifier : ℕ). IsThere (pick table identifier)) identifiers) (sym (how_many table))
      (there_from table from (length (rows_of database table)) 0 (omega arith))

  picked_more : (table identifier : ℕ) (tables : List ℕ) (others : List Pick) → IsThere (pick table identifier) → IsPicked tables others → IsPicked (table ∷ tables) (pick table identifier ∷ others)
  picked_more table identifier tables others there picked =
      record { there = (there, picked.there); tables_are = ap (λ (ts : List ℕ). table ∷ ts) picked.tables_are }

  all_picked : (tables : List ℕ) → ((table : ℕ) → Among table tables → Among table asked.from) → Each (IsPicked tables) (picks kept tables)
  unfolding combinations
  all_picked [] from = (record { there = tt; tables_are = refl }, tt)
  all_picked (table ∷ tables) from =
      each_flat (IsPicked (table ∷ tables)) (λ (identifier : ℕ). IsThere (pick table identifier))
      (λ identifier. map (λ others. pick table identifier ∷ others) (picks kept tables)) (identifiers_of kept table)
      (λ identifier there.
      each_mapped (IsPicked (table ∷ tables)) (IsPicked tables) (λ others. pick table identifier ∷ others) (picks kept tables)
      (λ others picked. picked_more table identifier tables others there picked)
      (all_picked tables (λ other a. from other (inr a))))
      (all_there table (from table (inl refl)))

  -- combinations of rows are those of picks
  combinations_are : (tables : List ℕ) → row_combinations database tables ≡ map (map chosen) (picks kept tables)
  combinations_are tables =
      by_row.combinations_are database tables
      ∙ ap (λ (count : ℕ → ℕ). map (map chosen) (combinations count tables)) (λ i table. sym (many table) i)

  -- the tables of a query with a top table
  others_within : (top table : ℕ) → Among table asked.from → Among table (top ∷ others_of top asked.from)
  others_within top table h =
      (elim (table == top) as (λ v. (table == top) ≡ v → Among table (top ∷ others_of top asked.from)) [
        | true ↦ λ e. inl (sym (eqb-true table top e))
        | false ↦ λ e. inr (among-filter (λ other. not (other == top)) table asked.from h (ap not e))
      ]) refl

  others_distinct : (top : ℕ) → Distinct asked.from → Distinct (top ∷ others_of top asked.from)
  others_distinct top d = (
    λ h. false_is_not (ap not (sym (same_number top)) ∙ (from_filter (λ other. not (other == top)) top asked.from h).1),
    distinct_filter (λ other. not (other == top)) asked.from d,
  )

  module _ (sound : IsSound schema asked) (top : ℕ) (from : Among top asked.from) where
    abbrev others : List ℕ
    others = others_of top asked.from

    abbrev tables : List ℕ
    tables = top ∷ others

    same_answer_of : (identifier : ℕ) → IsThere (pick top identifier) → answer_of_pick schema kept asked given top identifier ≡ meaning.answer_of_row (all_of database) asked top identifier
    same_answer_of identifier there =
        let row : Row = row_at (pick top identifier) in
        same_rows sound tables (others_distinct top sound.distinct) (others_within top)
        (map (λ rest. pick top identifier ∷ rest) (picks kept others))
        (each_mapped (IsPicked tables) (IsPicked others) (λ rest. pick top identifier ∷ rest) (picks kept others)
        (λ rest picked. picked_more top identifier others rest there picked)
        (all_picked others (λ table a. (from_filter (λ other. not (other == top)) table asked.from a).0)))
        ∙ ap (λ (xs : List Combination). map (projection asked.select) (filter (passes asked.conditions) xs))
        (sym (ap (λ (xs : List Combination). map (λ rest. choice top row ∷ rest) xs) (combinations_are others)
        ∙ mapped_twice (map chosen) (λ rest. choice top row ∷ rest) (λ rest. pick top identifier ∷ rest) (map chosen) (picks kept others) (λ rest. refl)))
        ∙ sym (by_rows database asked top identifier row (ap (row_of database top) there.numbered ∙ there.stands))

    same_answers : (identifiers : List ℕ) → Each (λ (identifier : ℕ). IsThere (pick top identifier)) identifiers → flat_map (answer_of_pick schema kept asked given top) identifiers ≡ flat_map (meaning.answer_of_row (all_of database) asked top) identifiers
    same_answers [] there = refl
    same_answers (identifier ∷ identifiers) there =
        ap (λ (rows : List Row). rows ++ flat_map (answer_of_pick schema kept asked given top) identifiers) (same_answer_of identifier there.0)
        ∙ ap (λ (rows : List Row). meaning.answer_of_row (all_of database) asked top identifier ++ rows) (same_answers identifiers there.1)

    same_answer : answer_by_top (known schema kept given) asked (Some top) ≡ answer_by_top (all_of database) asked (Some top)
    same_answer =
        same_answers (identifiers_of kept top) (all_there top from)
        ∙ ap (λ (identifiers : List ℕ). flat_map (meaning.answer_of_row (all_of database) asked top) identifiers) (how_many top)

  by_top : IsSound schema asked → (o : Option ℕ) → top_of schema asked ≡ o → answer_by_top (known schema kept given) asked o ≡ answer_by_top (all_of database) asked o
  by_top sound None e = refl
  by_top sound (Some top) e =
      same_answer sound top
      (from_filter (λ table. not (is_some_among asked.from (parent schema table))) top asked.from
      (only_among (filter (λ table. not (is_some_among asked.from (parent schema table))) asked.from) top e)).0

pub whole_replies_answer :
    (schema : Schema) → IsTree schema → (database : Database) → IsDatabase schema database → (text : List ℕ) (asked : Query)
    → Means schema text asked
    → answer_from schema (hidden_of schema database) asked (whole_replies schema (public_of schema database) asked) ≡ answer schema database asked
whole_replies_answer schema tree database is text asked means =
    by_top schema database is asked (query_is_sound schema text asked tree means) (top_of schema asked) refl
