-- Conditions are written one by one.
use Rattle.std.proofs.Common.{◌≡◌, ℕ, ◌+◌, ◌*◌, ◌≤◌, ◌&&◌, not, nat_lt, nat_le, Bool, true, false, List, [], ◌∷◌, ◌++◌, length, map, take, drop, flat_map, ap, ap₂, sym, refl, ◌∙◌, arith, length-append, append_assoc}
use Rattle.std.proofs.lemmas.List.{length-map}
use Rattle.std.proofs.lemmas.List.Folds.{list_all-map}
use Rattle.std.specs.List.{list_all}
use Rattle.std.specs.Cmp.{second_so}
use Rattle.ghost_model.specs.core.Schema.{Schema, is_visible}
use Rattle.ghost_model.specs.core.Channel as channel
use Rattle.ghost_model.specs.core.Groups.{ends}
use Rattle.ghost_model.specs.core.Asks.{test_bytes, ascend_from, is_proper_ask}
use Rattle.ghost_model.specs.laws.ShortWords.{most_tests}
use Rattle.channel_codec.specs.AskViews.{has_kind, test_view, ask_view}
use Rattle.channel_codec.specs.declared.ask.ColumnTest.{ColumnTest}
use Rattle.channel_codec.specs.declared.ask.Ask.{Ask}
use Rattle.channel_codec.proofs.Writing.{same_further}

-- what is written of some conditions: all but the last ones
pub record AreWritten (schema : Schema) (table : ℕ) (at : ℕ) (before : List ℕ) (tests : List channel.ColumnTest) (room : ℕ) (end : ℕ) (out : List ℕ) (rest : List channel.ColumnTest) (left : ℕ) : Type 0 where
  pub kinds : list_all (has_kind schema table) rest ≡ true
  pub bytes : take end out ++ flat_map (test_bytes schema table) rest ≡ take at before ++ flat_map (test_bytes schema table) tests
  pub behind : drop end out ≡ drop end before
  pub count : end + length (flat_map (test_bytes schema table) rest) ≡ at + length (flat_map (test_bytes schema table) tests)
  pub within : end + 66 * left ≤ at + 66 * room

pub one_written : (schema : Schema) (table at : ℕ) (before : List ℕ) (tests : List channel.ColumnTest) (room end : ℕ) (out : List ℕ) (rest : List channel.ColumnTest) (left : ℕ)
    (test : channel.ColumnTest) (later : List channel.ColumnTest) (fewer next : ℕ) (new : List ℕ)
    → AreWritten schema table at before tests room end out rest left → rest ≡ test ∷ later → left ≡ 1 + fewer
    → take next new ≡ take end out ++ test_bytes schema table test → drop next new ≡ drop next out
    → next ≡ end + length (test_bytes schema table test) → next ≤ end + 66
    → AreWritten schema table at before tests room next new later fewer
one_written schema table at before tests room end out rest left test later fewer next new h e l bytes behind count short =
    let all : (has_kind schema table test && list_all (has_kind schema table) later) ≡ true = ap (list_all (has_kind schema table)) (sym e) ∙ h.kinds in
    let more : flat_map (test_bytes schema table) rest ≡ test_bytes schema table test ++ flat_map (test_bytes schema table) later = ap (flat_map (test_bytes schema table)) e in
    record {
      kinds = second_so _ _ all;
      bytes = ap (λ (xs : List ℕ). xs ++ flat_map (test_bytes schema table) later) bytes
          ∙ (append_assoc (take end out) (test_bytes schema table test) (flat_map (test_bytes schema table) later)
          ∙ (ap (λ (xs : List ℕ). take end out ++ xs) (sym more) ∙ h.bytes));
      behind = behind ∙ same_further end next out before h.behind (omega (arith, count));
      count = omega (arith, h.count, count, ap length more, length-append (test_bytes schema table test) (flat_map (test_bytes schema table) later));
      within = omega (arith, h.within, l, short);
    }

-- whether an ask is proper, by its columns and its conditions as the code keeps them
regrouped : (columns few visible fit ended : Bool) → (columns && (few && visible && fit && ended)) ≡ (columns && few && visible && fit && ended)
regrouped true few visible fit ended = refl
regrouped false few visible fit ended = refl

abbrev columns_fit : Schema → Ask → Bool
columns_fit schema ask =
    nat_lt ask.table (length schema) && list_all (is_visible schema ask.table) ask.columns.items && ascend_from 0 ask.columns.items

abbrev tests_fit : Schema → Ask → Bool
tests_fit schema ask =
    nat_le (length ask.tests.items) 16 && list_all (λ test. is_visible schema ask.table test.column) ask.tests.items
    && list_all (λ test. has_kind schema ask.table (test_view test)) ask.tests.items && ends (λ test. test.more) ask.tests.items

same_end : (tests : List ColumnTest) → ends (λ (test : ColumnTest). test.more) tests ≡ ends (λ (one : channel.ColumnTest). one.more) (map test_view tests)
same_end [] = refl
same_end (test ∷ []) = refl
same_end (test ∷ next ∷ tests) = same_end (next ∷ tests)

pub proper_by_parts : (schema : Schema) (ask : Ask) (columns tests : Bool) → columns ≡ columns_fit schema ask → tests ≡ tests_fit schema ask
    → (columns && tests) ≡ is_proper_ask schema (ask_view ask)
proper_by_parts schema ask columns tests c t =
    let few : nat_le (length ask.tests.items) 16 ≡ nat_le (length (map test_view ask.tests.items)) most_tests =
    ap (λ (n : ℕ). nat_le n 16) (sym (length-map ask.tests.items test_view)) in
    let visible : list_all (λ (test : ColumnTest). is_visible schema ask.table test.column) ask.tests.items ≡ list_all (λ test. is_visible schema ask.table test.column) (map test_view ask.tests.items) =
    sym (list_all-map (λ test. is_visible schema ask.table test.column) test_view ask.tests.items) in
    let fit : list_all (λ (test : ColumnTest). has_kind schema ask.table (test_view test)) ask.tests.items ≡ list_all (has_kind schema ask.table) (map test_view ask.tests.items) =
    sym (list_all-map (has_kind schema ask.table) test_view ask.tests.items) in
    ap₂ (λ (one other : Bool). one && other) c t
    ∙ (regrouped (columns_fit schema ask) _ _ _ _
    ∙ ap₂ (λ (one other : Bool). one && other)
    (ap₂ (λ (one other : Bool). one && other) (ap₂ (λ (one other : Bool). columns_fit schema ask && one && other) few visible) fit)
    (same_end ask.tests.items))

-- ---- whether the last condition ends its group

-- what is told of the conditions that are left, where those before them were looked at
abbrev pub ended_after : (ended : Bool) → List ColumnTest → Bool
ended_after ended [] = ended
ended_after ended (test ∷ tests) = ends (λ one. one.more) (test ∷ tests)

pub none_before : (tests : List ColumnTest) → ended_after true tests ≡ ends (λ one. one.more) tests
none_before [] = refl
none_before (test ∷ tests) = refl

pub one_more : (ended : Bool) (test : ColumnTest) (later : List ColumnTest) → ended_after (not test.more) later ≡ ended_after ended (test ∷ later)
one_more ended test [] = refl
one_more ended test (next ∷ later) = refl
