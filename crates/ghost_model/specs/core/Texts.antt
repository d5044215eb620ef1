-- The texts of a script, which is any list of bytes. The script is cut at each `;` that has an even number of `'`
-- before it, counted from the script's start; the law ScriptsAreCut says so of `parts_of`. A part of white space alone
-- is no text; each other part is one as it stands, its white space included. Texts are numbered from 1.
use Rattle.std.specs.Prelude.{ℕ, Bool, not, List, filter}
use Rattle.std.specs.List.{list_all}
use Rattle.ghost_model.specs.refusals.Tokens.{is_space}
use Rattle.ghost_model.specs.readings.TextReading.{parts_of}

abbrev pub is_blank : List ℕ → Bool
is_blank part = list_all is_space part

abbrev pub texts_of : List ℕ → List (List ℕ)
texts_of script = filter (λ part. not (is_blank part)) (parts_of script)

-- the limits of a script: its bytes and its texts, at most
abbrev pub most_script_bytes : ℕ
most_script_bytes = 65536

abbrev pub most_texts : ℕ
most_texts = 64
