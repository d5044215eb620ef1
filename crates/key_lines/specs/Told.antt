-- What was told of texts: of each the rule by which it is refused, and how many rows were given of its answer. Both go by its
-- reading and its own lines.
use Rattle.std.specs.Prelude.{◌≡◌, ℕ, ◌≤◌, ◌+◌, List, length, take, slice_get, Option, None, Some, option_map, Result, Ok, Err}
use Rattle.ghost_model.specs.core.Schema.{Schema}
use Rattle.ghost_model.specs.refusals.QueryMeaning.{Refusal}
use Rattle.ghost_model.specs.readings.QueryReading.{reading}
use Rattle.spj_parse.specs.Views.{refusal_of}
use Rattle.key_lines.specs.declared.told.ToldText.{ToldText}
use Rattle.key_lines.specs.declared.told.ToldTexts.{ToldTexts}

abbrev pub told_in : ToldTexts → List ToldText
told_in told = take told.count told.places

-- the refusal of a reading, none where the text is accepted
abbrev pub refusal_in : {X : Type 0} → Result X Refusal → Option Refusal
refusal_in (Ok _) = None
refusal_in (Err refusal) = Some refusal

-- the rule is the one by which a text is refused
abbrev pub HasRule : Schema → (written : List ℕ) → ToldText → Type 0
HasRule schema written one = option_map refusal_of one.refusal ≡ refusal_in (reading schema written)

-- this is told of a text with these lines: behind its rows stands one line more
pub record IsTold (schema : Schema) (written : List ℕ) (lines : List (List ℕ)) (one : ToldText) : Type 0 where
  pub rule : HasRule schema written one
  pub rows : length lines ≡ one.rows + 1

-- this is told of the text at a place, which has these lines
pub record IsToldAt (schema : Schema) (texts : List (List ℕ)) (place : ℕ) (lines : List (List ℕ)) (one : ToldText) : Type 0 where
  pub written : List ℕ
  pub stands : slice_get texts place ≡ Some written
  pub is_told : IsTold schema written lines one

-- this is told of the texts from the front that have these lines, text by text
pub record AreTold (schema : Schema) (texts : List (List ℕ)) (lines : List (List (List ℕ))) (told : List ToldText) : Type 0 where
  pub as_many : length told ≡ length lines
  pub each : (place : ℕ) (own : List (List ℕ)) (one : ToldText) → slice_get lines place ≡ Some own → slice_get told place ≡ Some one
      → IsToldAt schema texts place own one

-- some texts from the front are told by the rules by which they are refused
pub record AreRuled (schema : Schema) (texts : List (List ℕ)) (told : List ToldText) : Type 0 where
  pub front : length told ≤ length texts
  pub each : (place : ℕ) (written : List ℕ) (one : ToldText) → slice_get texts place ≡ Some written → slice_get told place ≡ Some one
      → HasRule schema written one
