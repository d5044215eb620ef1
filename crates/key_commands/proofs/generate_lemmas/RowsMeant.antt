-- The rows of the answers to the texts of a drawn script.
use Rattle.std.proofs.Common.{◌≡◌, ◌≤◌, ℕ, List, [], ◌∷◌, ◌++◌, length, map, Ok, refl, sym, ap, ◌∙◌, append_assoc, append-nil, arith}
use Rattle.std.proofs.lemmas.List.{length-map}
use Rattle.std.specs.List.{range_with_len}
use Rattle.std.proofs.lemmas.List.FromFn.{length-map-range_with_len}
use Rattle.ghost_model.specs.core.Schema.{Schema}
use Rattle.ghost_model.specs.core.Texts.{most_texts, texts_of}
use Rattle.ghost_model.specs.core.Values.{Database}
use Rattle.ghost_model.specs.readings.QueryReading.{reading}
use Rattle.ghost_model.specs.examples.Clinic.{clinic_schema}
use Rattle.generated_clinic.specs.Laws.{MeansQuestions}
use Rattle.generated_clinic.specs.Questions.{question}
use Rattle.key_words.specs.Words.{Gen}
use Rattle.key_commands.specs.generate.Counting.{rows_by, rows_meant, rows_of_text}
use Rattle.key_commands.specs.generate.Drawing.{drawn_database, drawn_texts}

-- what is made of what was made
map_after : {A B C : Type 0} (f : A → B) (g : B → C) (all : List A) → map (λ one. g (f one)) all ≡ map g (map f all)
map_after f g [] = refl
map_after f g (one ∷ all) = ap (λ later. g (f one) ∷ later) (map_after f g all)

pub texts_mean : (words : Gen) → MeansQuestions words.texts → map (rows_of_text clinic_schema (drawn_database words)) (drawn_texts words) ≡ rows_meant words
texts_mean words means =
    map_after (reading clinic_schema) (rows_by clinic_schema (drawn_database words)) (drawn_texts words)
    ∙ (ap (map (rows_by clinic_schema (drawn_database words))) means.meant
    ∙ sym (map_after (λ number. Ok (question number)) (rows_by clinic_schema (drawn_database words)) (range_with_len 1 words.texts)))

-- a script of at most forty texts
pub few_texts : (words : Gen) → MeansQuestions words.texts → words.texts ≤ 40 → length (drawn_texts words) ≤ most_texts
few_texts words means few =
    let same : length (drawn_texts words) ≡ words.texts =
    sym (length-map (drawn_texts words) (reading clinic_schema)) ∙ ap length means.meant
    ∙ length-map-range_with_len (λ number. Ok (question number)) 1 words.texts in
    omega (arith, same, few)

-- one more text was counted
pub counted_next : (schema : Schema) (database : Database) (texts left later : List (List ℕ)) (written : List ℕ) (before after : List ℕ) (rows : ℕ)
    → before ++ map (rows_of_text schema database) left ≡ map (rows_of_text schema database) texts → left ≡ written ∷ later
    → rows ≡ rows_of_text schema database written → after ≡ before ++ rows ∷ []
    → after ++ map (rows_of_text schema database) later ≡ map (rows_of_text schema database) texts
counted_next schema database texts left later written before after rows so_far next is more =
    ap (λ (xs : List ℕ). xs ++ map (rows_of_text schema database) later) (more ∙ ap (λ n. before ++ n ∷ []) is)
    ∙ append_assoc before (rows_of_text schema database written ∷ []) (map (rows_of_text schema database) later)
    ∙ (ap (λ (some : List (List ℕ)). before ++ map (rows_of_text schema database) some) (sym next) ∙ so_far)

-- and all were
pub counted_all : (schema : Schema) (database : Database) (texts left : List (List ℕ)) (before : List ℕ)
    → before ++ map (rows_of_text schema database) left ≡ map (rows_of_text schema database) texts → left ≡ []
    → before ≡ map (rows_of_text schema database) texts
counted_all schema database texts left before so_far none =
    sym (ap (λ (some : List (List ℕ)). before ++ map (rows_of_text schema database) some) none ∙ append-nil before) ∙ so_far

pub none_left : (left : List (List ℕ)) → length left ≤ 0 → left ≡ []
none_left [] few = refl
none_left (text ∷ left) few = let bad : ⊥ = omega (arith, few) in absurd bad

-- the rows of the texts of a script
abbrev pub rows_in : Schema → Database → (script : List ℕ) → List ℕ
rows_in schema database script = map (rows_of_text schema database) (texts_of script)
