-- Where a script is cut.
use Rattle.std.specs.Prelude.{◌≡◌, ℕ, ◌%◌, ◌==◌, List, [], ◌∷◌, ◌++◌, count_by}
use Rattle.ghost_model.specs.readings.TextReading.{parts_of}

-- how many `'` there are
abbrev pub quotes : List ℕ → ℕ
quotes bytes = count_by (λ byte. byte == 39) bytes

-- the parts are those between the `;` that have an even number of `'` before them: each such `;` cuts, and bytes
-- without one are one part
pub record ScriptsAreCut : Type 0 where
  pub cut : (before after : List ℕ) → quotes before % 2 ≡ 0 → parts_of (before ++ 59 ∷ after) ≡ parts_of before ++ parts_of after
  pub uncut : (script : List ℕ) → ((before after : List ℕ) → script ≡ before ++ 59 ∷ after → quotes before % 2 ≡ 1) → parts_of script ≡ script ∷ []
