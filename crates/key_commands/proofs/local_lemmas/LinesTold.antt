-- That the lines which were told of the texts are those of their meaning, or fronts of them where the flash failed.
use Rattle.std.proofs.Common.{◌≡◌, ℕ, zero, suc, ◌+◌, Bool, true, false, ◌||◌, List, [], ◌∷◌, ◌++◌, length, sym, ◌∙◌, ap, subst, refl, arith, Option, None, Some, slice_get, Ok}
use Rattle.std.specs.Prelude.{fold, cond, count_by, flat_map, is_some, Result}
use Rattle.std.specs.List.{concat, list_any}
use Rattle.std.proofs.lemmas.List.Folds.{concat-append}
use Rattle.ghost_model.specs.core.Schema.{Schema}
use Rattle.ghost_model.specs.core.Values.{Database}
use Rattle.ghost_model.specs.core.Query.{Query}
use Rattle.ghost_model.specs.refusals.QueryMeaning.{Refusal}
use Rattle.ghost_model.specs.readings.QueryReading.{reading}
use Rattle.ghost_model.specs.core.Meaning.{answer}
use Rattle.ghost_model.specs.core.Printed.{answer_lines, lines_of_reading, lines_of_text, lines_from, printed}
use Rattle.ghost_model.specs.core.Channel.{Catalog, Journal}
use Rattle.ghost_model.specs.core.NextMove.{Standing, ended_of}
use Rattle.ghost_model.specs.core.Split.{hidden_of}
use Rattle.ghost_model.specs.core.Lines.{Reason, WasRefused, WasBroken, WasAnswered, MetFault, OnFlash, OnDamage, AreLinesFor, all_done, session_text}
use Rattle.ghost_model.specs.laws.ShortWords.{rows_from_replies}
use Rattle.key_session.specs.Counting.{is_flash, is_damage, is_broken}
use Rattle.key_lines.specs.Handing.{Hands}
use Rattle.key_session.specs.Reasons.{HasAnswerLines}
use Rattle.key_session.specs.Telling.{SessionSide}
use Rattle.key_exec.specs.declared.damage.Damage.{Damage}
use Rattle.key_session.specs.Running.{status_of, status_with}
use Rattle.key_session.specs.declared.tally.Tally.{Tally}
use Rattle.leakless_plan.specs.declared.plan.Plan.{Plan}
use Rattle.key_commands.specs.local.Lines.{TextLines, AreAnswered, AreLinesBy, AreTextLines, GivesByTally, is_cut, bytes_given, lines_in}
use Rattle.ghost_model.specs.core.Asks.{asked_of}

or_false : (first second : Bool) → (first || second) ≡ false → (first ≡ false) × (second ≡ false)
or_false true second e = cc
or_false false second e = (refl, e)

-- the lines that were told of a text, cut where the flash is their reason
abbrev lines_told : Reason → List (List ℕ) → TextLines
lines_told reason lines = record { cut = is_flash reason; lines = lines }

abbrev all_told : List Reason → List (List (List ℕ)) → List TextLines
all_told [] lines = []
all_told (reason ∷ reasons) [] = []
all_told (reason ∷ reasons) (one ∷ lines) = lines_told reason one ∷ all_told reasons lines

same_bytes : (reasons : List Reason) (lines : List (List (List ℕ))) → length lines ≡ length reasons → bytes_given (all_told reasons lines) ≡ flat_map concat lines
same_bytes [] [] many = refl
same_bytes [] (one ∷ lines) many = absurd (omega (arith, many))
same_bytes (reason ∷ reasons) [] many = absurd (omega (arith, many))
same_bytes (reason ∷ reasons) (one ∷ lines) many = ap (λ (bytes : List ℕ). concat one ++ bytes) (same_bytes reasons lines (omega (arith, many)))

same_lines : (reasons : List Reason) (lines : List (List (List ℕ))) → length lines ≡ length reasons → lines_in (all_told reasons lines) ≡ lines
same_lines [] [] many = refl
same_lines [] (one ∷ lines) many = absurd (omega (arith, many))
same_lines (reason ∷ reasons) [] many = absurd (omega (arith, many))
same_lines (reason ∷ reasons) (one ∷ lines) many = ap (λ (rest : List (List (List ℕ))). one ∷ rest) (same_lines reasons lines (omega (arith, many)))

-- the counts go on from a number
same_count_from : (before : ℕ) (reasons : List Reason) (lines : List (List (List ℕ))) → length lines ≡ length reasons
    → fold (λ (n : ℕ) (one : TextLines). n + cond (is_cut one) 1 0) before (all_told reasons lines) ≡ fold (λ (n : ℕ) (reason : Reason). n + cond (is_flash reason) 1 0) before reasons
same_count_from before [] lines many = refl
same_count_from before (reason ∷ reasons) [] many = absurd (omega (arith, many))
same_count_from before (reason ∷ reasons) (one ∷ lines) many = same_count_from (before + cond (is_flash reason) 1 0) reasons lines (omega (arith, many))

same_count : (reasons : List Reason) (lines : List (List (List ℕ))) → length lines ≡ length reasons → count_by is_cut (all_told reasons lines) ≡ count_by is_flash reasons
same_count reasons lines many = same_count_from 0 reasons lines many

same_any : (reasons : List Reason) (lines : List (List (List ℕ))) → length lines ≡ length reasons → list_any is_cut (all_told reasons lines) ≡ list_any is_flash reasons
same_any [] lines many = refl
same_any (reason ∷ reasons) [] many = absurd (omega (arith, many))
same_any (reason ∷ reasons) (one ∷ lines) many = ap (λ (v : Bool). is_flash reason || v) (same_any reasons lines (omega (arith, many)))

same_length : (reasons : List Reason) (lines : List (List (List ℕ))) → length lines ≡ length reasons → length (all_told reasons lines) ≡ length reasons
same_length [] lines many = refl
same_length (reason ∷ reasons) [] many = absurd (omega (arith, many))
same_length (reason ∷ reasons) (one ∷ lines) many = ap suc (same_length reasons lines (omega (arith, many)))

-- the lines at a place are those that were told there
record IsOfTold (reasons : List Reason) (lines : List (List (List ℕ))) (place : ℕ) (given : TextLines) : Type 0 where
  reason : Reason
  one : List (List ℕ)
  is_reason : slice_get reasons place ≡ Some reason
  stands : slice_get lines place ≡ Some one
  are : given ≡ lines_told reason one

of_told : (reasons : List Reason) (lines : List (List (List ℕ))) (place : ℕ) (given : TextLines) → slice_get (all_told reasons lines) place ≡ Some given → IsOfTold reasons lines place given
of_told [] lines place given e = let bad : ⊥ = cc in absurd bad
of_told (reason ∷ reasons) [] place given e = let bad : ⊥ = cc in absurd bad
of_told (reason ∷ reasons) (one ∷ lines) zero given e = record { reason = reason; one = one; is_reason = refl; stands = refl; are = (cc) }
of_told (reason ∷ reasons) (one ∷ lines) (suc place) given e =
    let later : IsOfTold reasons lines place given = of_told reasons lines place given e in
    record { reason = later.reason; one = later.one; is_reason = later.is_reason; stands = later.stands; are = later.are }

-- what none of the reasons is the one at a place is not
none_at : (test : Reason → Bool) (reasons : List Reason) (place : ℕ) (reason : Reason) → list_any test reasons ≡ false → slice_get reasons place ≡ Some reason → test reason ≡ false
none_at test [] place reason none e = (let bad : ⊥ = cc in absurd bad)
none_at test (first ∷ reasons) zero reason none e =
    let same : first ≡ reason = cc in
    subst (λ (one : Reason). test one ≡ false) same (or_false (test first) (list_any test reasons) none).0
none_at test (first ∷ reasons) (suc place) reason none e =
    none_at test reasons place reason (or_false (test first) (list_any test reasons) none).1 e

false_is_not : false ≡ true → ⊥
false_is_not e = cc

-- none is cut, so neither is the first, nor one of the others
first_whole : (one : TextLines) (given : List TextLines) → list_any is_cut (one ∷ given) ≡ false → one.cut ≡ false
first_whole one given e =
    (elim one.cut as (λ v. (v || list_any is_cut given) ≡ false → v ≡ false) [
      | true ↦ λ k. k
      | false ↦ λ k. refl
    ]) e

others_whole : (one : TextLines) (given : List TextLines) → list_any is_cut (one ∷ given) ≡ false → list_any is_cut given ≡ false
others_whole one given e =
    (elim one.cut as (λ v. (v || list_any is_cut given) ≡ false → list_any is_cut given ≡ false) [
      | true ↦ λ k. absurd (false_is_not (sym k))
      | false ↦ λ k. k
    ]) e

module _ (schema : Schema) (database : Database) where
  -- lines of texts, the first of which has the number behind `before`, are what they print where none is cut
  whole_from :
      (before : ℕ) (some : List (List ℕ)) (given : List TextLines) → length given ≡ length some
      → ((place : ℕ) (one : TextLines) (written : List ℕ) → slice_get given place ≡ Some one → slice_get some place ≡ Some written → AreLinesBy one.cut schema database (suc (before + place)) written one.lines)
      → list_any is_cut given ≡ false → bytes_given given ≡ concat (lines_from schema database (suc before) some)
  whole_from before [] [] long each none = refl
  whole_from before [] (_ ∷ _) long each none = absurd (omega (arith, long))
  whole_from before (_ ∷ _) [] long each none = absurd (omega (arith, long))
  whole_from before (written ∷ some) (one ∷ given) long each none =
      let here : suc (before + 0) ≡ suc before = omega arith in
      let next : suc (suc before) ≡ suc before + 1 = omega arith in
      let first : one.lines ≡ lines_of_text schema database (suc before) written =
      subst (λ (n : ℕ). one.lines ≡ lines_of_text schema database n written) here
      (subst (λ (v : Bool). AreLinesBy v schema database (suc (before + 0)) written one.lines) (first_whole one given none) (each 0 one written refl refl)) in
      ap (λ (lines : List (List ℕ)). concat lines ++ bytes_given given) first
      ∙ (ap (λ (bytes : List ℕ). concat (lines_of_text schema database (suc before) written) ++ bytes)
      (whole_from (suc before) some given (let e : length given ≡ length some = omega (arith, long) in e)
      (λ place other w e f. (let moved : suc (before + suc place) ≡ suc (suc before + place) = omega arith in
      subst (λ (n : ℕ). AreLinesBy other.cut schema database n w other.lines) moved (each (suc place) other w e f)))
      (others_whole one given none)
      ∙ ap (λ (n : ℕ). concat (lines_from schema database n some)) next)
      ∙ sym (concat-append (lines_of_text schema database (suc before) written) (lines_from schema database (suc before + 1) some)))

  whole : (texts : List (List ℕ)) (given : List TextLines) → length given ≡ length texts
      → ((place : ℕ) (one : TextLines) (written : List ℕ) → slice_get given place ≡ Some one → slice_get texts place ≡ Some written → AreLinesBy one.cut schema database (suc place) written one.lines)
      → list_any is_cut given ≡ false → bytes_given given ≡ printed schema texts database
  whole texts given long each none =
      whole_from 0 texts given long
      (λ place one written e f. (let same : suc place ≡ suc (0 + place) = omega arith in
      subst (λ (n : ℕ). AreLinesBy one.cut schema database n written one.lines) same (each place one written e f)))
      none

-- every accepted text's asks are done, and its rows from the replies are its answer
module _ (catalog : Catalog) (database : Database) (texts : List (List ℕ)) (journal : Journal)
    (done : (place : ℕ) (written : List ℕ) (asked : Query) → slice_get texts place ≡ Some written → reading catalog.schema written ≡ Ok asked
    → all_done catalog.schema asked (ended_of catalog (asked_of catalog.schema texts) journal (suc place)) ≡ true)
    (answers : (place : ℕ) (written : List ℕ) (asked : Query) → slice_get texts place ≡ Some written → reading catalog.schema written ≡ Ok asked
    → rows_from_replies catalog (hidden_of catalog.schema database) (asked_of catalog.schema texts) journal (suc place) asked ≡ answer catalog.schema database asked) where
  lines_by :
      (place : ℕ) (written : List ℕ) (lines : List (List ℕ)) (reason : Reason) → slice_get texts place ≡ Some written → is_damage reason ≡ false
      → AreLinesFor reason (session_text catalog (hidden_of catalog.schema database) texts journal (suc place) written) lines
      → AreLinesBy (is_flash reason) catalog.schema database (suc place) written lines
  lines_by place written lines WasRefused here sound are =
      are.line ∙ ap (λ (r : Result Query Refusal). lines_of_reading catalog.schema database (suc place) r) (sym are.refused)
  lines_by place written lines WasBroken here sound are =
      absurd (false_is_not (sym are.broken ∙ done place written are.query here are.accepted))
  lines_by place written lines WasAnswered here sound are =
      are.answer
      ∙ (ap (answer_lines (suc place)) (answers place written are.query here are.accepted)
      ∙ ap (λ (r : Result Query Refusal). lines_of_reading catalog.schema database (suc place) r) (sym are.accepted))
  lines_by place written lines (MetFault OnFlash) here sound are =
      record {
        query = are.query;
        accepted = are.accepted;
        given = are.given;
        left = are.left;
        front = sym (answers place written are.query here are.accepted) ∙ are.front;
        are = are.answer;
      }
  lines_by place written lines (MetFault OnDamage) here sound are = absurd (false_is_not (sym sound))

  -- whether a text's asks were broken off
  unbroken :
      (place : ℕ) (written : List ℕ) (lines : List (List ℕ)) (reason : Reason) → slice_get texts place ≡ Some written
      → AreLinesFor reason (session_text catalog (hidden_of catalog.schema database) texts journal (suc place) written) lines → is_broken reason ≡ false
  unbroken place written lines WasRefused here are = refl
  unbroken place written lines WasBroken here are = absurd (false_is_not (sym are.broken ∙ done place written are.query here are.accepted))
  unbroken place written lines WasAnswered here are = refl
  unbroken place written lines (MetFault fault) here are = refl

  none_broken : (reasons : List Reason) → ((place : ℕ) (reason : Reason) → slice_get reasons place ≡ Some reason → is_broken reason ≡ false)
      → list_any is_broken reasons ≡ false
  none_broken [] each = refl
  none_broken (reason ∷ reasons) each =
      ap (λ (v : Bool). v || list_any is_broken reasons) (each 0 reason refl)
      ∙ none_broken reasons (λ place other stands. each (suc place) other stands)

  -- the lines at the place of a reason
  line_at : (reasons : List Reason) (lines : List (List (List ℕ))) (place : ℕ) (reason : Reason) → length lines ≡ length reasons → slice_get reasons place ≡ Some reason
      → (one : List (List ℕ)) × (slice_get lines place ≡ Some one)
  line_at [] lines place reason many e = (let bad : ⊥ = cc in absurd bad)
  line_at (first ∷ reasons) [] place reason many e = absurd (omega (arith, many))
  line_at (first ∷ reasons) (one ∷ lines) zero reason many e = (one, refl)
  line_at (first ∷ reasons) (one ∷ lines) (suc place) reason many e = line_at reasons lines place reason (omega (arith, many)) e

  module _ (reasons : List Reason) (lines : List (List (List ℕ))) (many : length lines ≡ length reasons) (all : length reasons ≡ length texts) (sound : list_any is_damage reasons ≡ false)
      (each : (place : ℕ) (reason : Reason) (one : List (List ℕ)) → slice_get reasons place ≡ Some reason → slice_get lines place ≡ Some one
      → HasAnswerLines catalog (hidden_of catalog.schema database) texts journal place reason one) where
    lines_at :
        (place : ℕ) (given : TextLines) (written : List ℕ) → slice_get (all_told reasons lines) place ≡ Some given → slice_get texts place ≡ Some written
        → AreLinesBy given.cut catalog.schema database (suc place) written given.lines
    lines_at place given written e here =
        let its : IsOfTold reasons lines place given = of_told reasons lines place given e in
        let is = each place its.reason its.one its.is_reason its.stands in
        let same : is.written ≡ written = same_some is.written written (slice_get texts place) is.stands here in
        subst (λ (ls : TextLines). AreLinesBy ls.cut catalog.schema database (suc place) written ls.lines) (sym its.are)
        (subst (λ (w : List ℕ). AreLinesBy (is_flash its.reason) catalog.schema database (suc place) w its.one) same
        (lines_by place is.written its.one its.reason is.stands (none_at is_damage reasons place its.reason sound its.is_reason) is.lines_are))
      where
        same_some : (a b : List ℕ) (o : Option (List ℕ)) → o ≡ Some a → o ≡ Some b → a ≡ b
        same_some a b o e f = cc

    given_texts : AreTextLines catalog.schema database texts (all_told reasons lines)
    given_texts =
        let long : length (all_told reasons lines) ≡ length texts = same_length reasons lines many ∙ all in
        record {
          as_many = long;
          each = lines_at;
          whole = whole catalog.schema database texts (all_told reasons lines) long lines_at;
        }

    unbroken_all : list_any is_broken reasons ≡ false
    unbroken_all =
        none_broken reasons (λ place reason e.
        let found = line_at reasons lines place reason many e in
        let is = each place reason found.0 e found.1 in
        unbroken place is.written found.0 reason is.stands is.lines_are)

  no_damage : (damage : Option Damage) → is_some damage ≡ false → damage ≡ None
  no_damage None e = refl
  no_damage (Some damage) e = cc

  pub gives :
      (by : Plan) (pages_told : Bool) (page : ℕ → List ℕ) (failed : Bool) (session : Standing) (tally : Tally) (since now : SessionSide)
      → (are : AreAnswered by pages_told page catalog database texts journal failed session tally since now)
      → GivesByTally failed session tally catalog.schema database texts since now are.answers.lines
  gives by pages_told page failed session tally since now are =
      let reasons = are.reasons.reasons in
      let lines = are.answers.lines in
      let many : length lines ≡ length reasons = are.answers.as_many in
      record {
        gives = record {
          given = all_told reasons lines;
          lines = given_texts reasons lines many are.reasons.as_many are.undamaged are.answers.each;
          handed_on = subst (λ (bytes : List ℕ). Hands bytes since.sink now.sink) (sym (same_bytes reasons lines many)) are.answers.handed_on;
          blamed = rw (same_count reasons lines many) are.reasons.blamed;
          unblamed = λ none. are.reasons.unblamed (sym (same_any reasons lines many) ∙ none)
              (unbroken_all reasons lines many are.reasons.as_many are.undamaged are.answers.each);
        };
        same = same_lines reasons lines many;
        status_is = are.reasons.counted.status_is
            ∙ ap (λ (damage : Option Damage). status_with failed session (list_any is_flash reasons) damage) (no_damage are.reasons.counted.damage (are.reasons.counted.found ∙ are.undamaged))
            ∙ ap (status_of failed session) (sym (same_any reasons lines many));
      }
