-- What was told of the texts that were printed so far.
use Rattle.std.proofs.Common.{◌≡◌, ◌≤◌, ◌<◌, ℕ, zero, suc, ◌+◌, ◌⊎◌, inl, inr, arith, Bool, true, false, List, [], ◌∷◌, ◌++◌, length, slice_get, Option, Some, None, Ok, Err, Result, option_map, refl, sym, ap, ◌∙◌, subst, append_assoc, append-nil, length-append}
use Rattle.std.proofs.lemmas.List.{length-map}
use Rattle.std.proofs.lemmas.Option.{slice_get_within}
use Rattle.std.specs.Prelude.{map, OnOk}
use Rattle.ghost_model.specs.core.Values.{Database, Row}
use Rattle.ghost_model.specs.core.Schema.{Schema}
use Rattle.ghost_model.specs.core.Query.{Query}
use Rattle.ghost_model.specs.core.Meaning.{answer}
use Rattle.ghost_model.specs.readings.QueryReading.{reading}
use Rattle.ghost_model.specs.core.Printed.{row_line, count_line, answer_lines, lines_of_reading, lines_of_text}
use Rattle.ghost_model.specs.refusals.QueryMeaning.{Refusal}
use Rattle.spj_parse.specs.Views.{refusal_of}
use Rattle.key_lines.specs.Handing.{Handed, Hands}
use Rattle.key_lines.specs.Told.{AreRuled, HasRule, IsTold, refusal_in}
use Rattle.key_lines.specs.declared.told.ToldText.{ToldText}
use Rattle.key_plain.specs.Views.{AreAllTold}

-- some texts were told, and these are left; as long as no write failed each is told by its lines
pub record ToldSoFar (schema : Schema) (database : Database) (texts left : List (List ℕ)) (told : List ToldText) (failed : Bool) (count : ℕ) : Type 0 where
  pub done : List (List ℕ)
  pub split : texts ≡ done ++ left
  pub many : length done ≡ count
  pub as_many : length told ≡ count
  pub ruled : (place : ℕ) (written : List ℕ) (one : ToldText) → slice_get texts place ≡ Some written → slice_get told place ≡ Some one → HasRule schema written one
  pub lined : failed ≡ false → (place : ℕ) (written : List ℕ) (one : ToldText) → slice_get texts place ≡ Some written → slice_get told place ≡ Some one
      → IsTold schema written (lines_of_text schema database (place + 1) written) one

pub none_told : (schema : Schema) (database : Database) (texts left : List (List ℕ)) (told : List ToldText) (failed : Bool) → left ≡ texts → told ≡ []
    → ToldSoFar schema database texts left told failed 0
none_told schema database texts left told failed all none = record {
  done = [];
  split = sym all;
  many = refl;
  as_many = ap length none;
  ruled = λ place written one e f. absurd (no_one place one (sym (ap (λ (ts : List ToldText). slice_get ts place) none) ∙ f));
  lined = λ fine place written one e f. absurd (no_one place one (sym (ap (λ (ts : List ToldText). slice_get ts place) none) ∙ f));
}
  where
    no_one : (place : ℕ) (one : ToldText) → slice_get {X = ToldText} [] place ≡ Some one → ⊥
    no_one place one e = cc

some_same : {X : Type 0} (x y : X) → Some x ≡ Some y → x ≡ y
some_same x y e = cc

-- an element of a list with one more at its end
last_or_before : {X : Type 0} (xs : List X) (x : X) (i : ℕ) (y : X) → slice_get (xs ++ x ∷ []) i ≡ Some y → (slice_get xs i ≡ Some y) ⊎ ((i ≡ length xs) × (x ≡ y))
last_or_before [] x zero y e = inr (refl, some_same x y e)
last_or_before [] x (suc i) y e = cc
last_or_before (z ∷ xs) x zero y e = inl e
last_or_before (z ∷ xs) x (suc i) y e =
    elim (last_or_before xs x i y e) [
      | inl f ↦ inl f
      | inr f ↦ inr (ap suc f.0, f.1)
    ]

got_next : (done : List (List ℕ)) (text : List ℕ) (later : List (List ℕ)) → slice_get (done ++ text ∷ later) (length done) ≡ Some text
got_next [] text later = refl
got_next (one ∷ done) text later = got_next done text later

-- one more text was told
pub told_next : (schema : Schema) (database : Database) (texts left later : List (List ℕ)) (text : List ℕ) (told more : List ToldText) (one : ToldText) (failed now : Bool) (count : ℕ)
    → failed ≡ false → left ≡ text ∷ later → more ≡ told ++ one ∷ [] → HasRule schema text one
    → (now ≡ false → IsTold schema text (lines_of_text schema database (count + 1) text) one)
    → ToldSoFar schema database texts left told failed count → ToldSoFar schema database texts later more now (count + 1)
told_next schema database texts left later text told more one failed now count unfailed next is_more rule lined so =
    let long : length so.done ≡ count = so.many in
    let many : length told ≡ count = so.as_many in
    let longer : length (so.done ++ text ∷ []) ≡ length so.done + 1 = length-append so.done (text ∷ []) in
    let told_more : length (told ++ one ∷ []) ≡ length told + 1 = length-append told (one ∷ []) in
    let whole : texts ≡ so.done ++ text ∷ later = so.split ∙ ap (λ (ts : List (List ℕ)). so.done ++ ts) next in
    record {
      done = so.done ++ text ∷ [];
      split = whole ∙ sym (append_assoc so.done (text ∷ []) later);
      many = omega (arith, long, longer);
      as_many = ap length is_more ∙ omega (arith, many, told_more);
      ruled = λ place written it e f.
          elim (last_or_before told one place it (sym (ap (λ (ts : List ToldText). slice_get ts place) is_more) ∙ f)) [
            | inl g ↦ so.ruled place written it e g
            | inr g ↦ subst (λ (t : ToldText). HasRule schema written t) g.1 (subst (λ (w : List ℕ). HasRule schema w one) (here place written whole e (g.0 ∙ (many ∙ sym long))) rule)
          ];
      lined = λ fine place written it e f.
          elim (last_or_before told one place it (sym (ap (λ (ts : List ToldText). slice_get ts place) is_more) ∙ f)) [
            | inl g ↦ so.lined unfailed place written it e g
            | inr g ↦
                subst (λ (t : ToldText). IsTold schema written (lines_of_text schema database (place + 1) written) t) g.1
                (subst (λ (w : List ℕ). IsTold schema w (lines_of_text schema database (place + 1) w) one) (here place written whole e (g.0 ∙ (many ∙ sym long)))
                (subst (λ (n : ℕ). IsTold schema text (lines_of_text schema database (n + 1) text) one) (sym (g.0 ∙ many)) (lined fine)))
          ];
    }
  where
    here : (place : ℕ) (written : List ℕ) → texts ≡ so.done ++ text ∷ later → slice_get texts place ≡ Some written → place ≡ length so.done → text ≡ written
    here place written whole e at =
        some_same text written
        (sym (got_next so.done text later) ∙ ap (λ (n : ℕ). slice_get (so.done ++ text ∷ later) n) (sym at) ∙ sym (ap (λ (ts : List (List ℕ)). slice_get ts place) whole) ∙ e)

-- the texts that were told are some from the front
pub are_ruled : (schema : Schema) (database : Database) (texts left : List (List ℕ)) (told : List ToldText) (failed : Bool) (count : ℕ)
    → ToldSoFar schema database texts left told failed count → AreRuled schema texts told
are_ruled schema database texts left told failed count so =
    let long : length so.done ≡ count = so.many in
    let many : length told ≡ count = so.as_many in
    let all : length texts ≡ length so.done + length left = ap length so.split ∙ length-append so.done left in
    record { front = omega (arith, long, many, all); each = λ place written one e f. so.ruled place written one e f }

-- and all of them, where none is left and no write failed
pub are_all_told : (schema : Schema) (database : Database) (texts left : List (List ℕ)) (told : List ToldText) (failed : Bool) (count : ℕ)
    → ToldSoFar schema database texts left told failed count → left ≡ [] → failed ≡ false → AreAllTold schema database texts told
are_all_told schema database texts left told failed count so none fine =
    let long : length so.done ≡ count = so.many in
    let many : length told ≡ count = so.as_many in
    let all : length texts ≡ length so.done + length left = ap length so.split ∙ length-append so.done left in
    let empty : length left ≡ 0 = ap length none in
    record { as_many = omega (arith, long, many, all, empty); each = λ place written one e f. so.lined fine place written one e f }

-- what is told of a text of which all rows were given
pub answered : (schema : Schema) (database : Database) (number : ℕ) (text : List ℕ) (query : Query) → reading schema text ≡ Ok query
    → (rows : List Row) → rows ≡ answer schema database query → (count : ℕ) → count ≡ length rows → (one : ToldText) → one.refusal ≡ None → one.rows ≡ count
    → IsTold schema text (lines_of_text schema database number text) one
answered schema database number text query reads rows are count many one none given =
    let given_rows = answer schema database query in
    let lines : lines_of_text schema database number text ≡ map row_line given_rows ++ count_line number (length given_rows) ∷ [] = ap (lines_of_reading schema database number) reads in
    let long : length (lines_of_text schema database number text) ≡ length (map row_line given_rows ++ count_line number (length given_rows) ∷ []) = ap length lines in
    let front = length-map given_rows row_line in
    let whole = length-append (map row_line given_rows) (count_line number (length given_rows) ∷ []) in
    let same : length rows ≡ length given_rows = ap length are in
    record {
      rule = ap (option_map refusal_of) none ∙ sym (ap refusal_in reads);
      rows = omega (arith, long, front, whole, same, many, given);
    }

-- where a later write did not fail no earlier one did
pub unfailed : {piece : List ℕ} (before after : Handed) → Hands piece before after → after.failed ≡ false → before.failed ≡ false
unfailed before after hands fine = (hands.whole fine).not_failed

-- a text of one line, that of its refusal
pub refused : (schema : Schema) (database : Database) (number : ℕ) (text : List ℕ) (refusal : Refusal) → reading schema text ≡ Err refusal
    → (one : ToldText) → option_map refusal_of one.refusal ≡ Some refusal → one.rows ≡ 0 → IsTold schema text (lines_of_text schema database number text) one
refused schema database number text refusal reads one rule rows =
    let long = ap (λ (r : Result Query Refusal). length (lines_of_reading schema database number r)) reads in
    record { rule = rule ∙ sym (ap refusal_in reads); rows = omega (arith, long, rows) }
