-- The lines that `gen` prints: `# k n m` for text k, n being the rows that the session gave and m those of its plain answer, and then the
-- moves of the session's journal, the bytes that they sent and those that they took. Each of these three is told up to 2^64 - 1.
use Rattle.std.specs.Prelude.{ℕ, ◌+◌, min, List, [], ◌∷◌, ◌++◌, length, map, codes, decimal, Result, Ok, Err}
use Rattle.std.specs.List.{range_with_len}
use Rattle.ghost_model.specs.core.Causes.{last_count}
use Rattle.ghost_model.specs.core.Channel.{Journal}
use Rattle.ghost_model.specs.core.Meaning.{answer}
use Rattle.ghost_model.specs.core.Query.{Query}
use Rattle.ghost_model.specs.core.Schema.{Schema}
use Rattle.ghost_model.specs.core.Values.{Database}
use Rattle.ghost_model.specs.readings.QueryReading.{reading}
use Rattle.ghost_model.specs.refusals.QueryMeaning.{Refusal}
use Rattle.ghost_model.specs.examples.Clinic.{clinic_schema}
use Rattle.generated_clinic.specs.Questions.{question}
use Rattle.local_links.specs.Counting.{moves_in, bytes_sent, bytes_taken}
use Rattle.key_lines.specs.declared.told.ToldText.{ToldText}
use Rattle.key_words.specs.Words.{Gen}
use Rattle.key_commands.specs.generate.Drawing.{drawn_database}

abbrev pub text_line : (number given meant : ℕ) → List ℕ
text_line number given meant = codes "# " ++ (decimal number ++ 32 ∷ (decimal given ++ 32 ∷ (decimal meant ++ 10 ∷ [])))

-- the lines of texts, of which the first has this number
abbrev pub text_lines : (number : ℕ) → (given meant : List ℕ) → List ℕ
text_lines number [] meant = []
text_lines number (rows ∷ given) [] = []
text_lines number (rows ∷ given) (all ∷ meant) = text_line number rows all ++ text_lines (number + 1) given meant

abbrev pub moves_line : (moves sent taken : ℕ) → List ℕ
moves_line moves sent taken =
    codes "moves " ++ (decimal moves ++ (codes " sent " ++ (decimal sent ++ (codes " taken " ++ (decimal taken ++ 10 ∷ [])))))

-- the rows that were given of each text
abbrev pub rows_given : List ToldText → List ℕ
rows_given told = map (λ (one : ToldText). one.rows) told

-- the rows of the answers to the queries that the texts of the script mean
abbrev pub rows_meant : Gen → List ℕ
rows_meant words = map (λ number. length (answer clinic_schema (drawn_database words) (question number))) (range_with_len 1 words.texts)

abbrev pub counted : ℕ → ℕ
counted count = min count last_count

abbrev pub line_of_moves : Journal → List ℕ
line_of_moves journal = moves_line (counted (moves_in journal)) (counted (bytes_sent journal)) (counted (bytes_taken journal))

abbrev pub counted_lines : (given meant : List ℕ) → Journal → List ℕ
counted_lines given meant journal = text_lines 1 given meant ++ line_of_moves journal

-- the rows of a text's answer, none where it is refused
abbrev pub rows_by : Schema → Database → Result Query Refusal → ℕ
rows_by schema database (Ok query) = length (answer schema database query)
rows_by schema database (Err refusal) = 0

abbrev pub rows_of_text : Schema → Database → (written : List ℕ) → ℕ
rows_of_text schema database written = rows_by schema database (reading schema written)
