-- The texts of a script mean the queries with their numbers: those of the longest script are read one by one, and each
-- script has the first of them.
use Rattle.std.proofs.Common.{◌≡◌, ◌≤◌, ◌<◌, ◌+◌, ◌*◌, ◌∙◌, ℕ, zero, suc, Bool, true, false, not, ◌&&◌, ◌==◌, if◌then◌else◌, List, [], ◌∷◌, ◌++◌, length, map, filter, flat_map, take, nat_le, Result, Ok, inl, inr, refl, sym, ap, append_assoc, length-append, arith}
use Rattle.std.specs.Fmt.{digits}
use Rattle.std.specs.List.{list_all, range_with_len}
use Rattle.std.proofs.lemmas.Bool.{and_parts, cases_eq}
use Rattle.std.proofs.lemmas.Bool.Decides.{nat_tests}
use Rattle.std.proofs.lemmas.List.FromFn.{take-map-range_with_len}
use Rattle.ghost_model.specs.core.Schema.{places_from}
use Rattle.ghost_model.specs.core.Query.{Query}
use Rattle.ghost_model.specs.core.Generated.{script, text}
use Rattle.ghost_model.specs.core.Texts.{texts_of, is_blank}
use Rattle.ghost_model.specs.refusals.Tokens.{tokens_from, quoted_from}
use Rattle.ghost_model.specs.refusals.QueryMeaning.{Refusal}
use Rattle.ghost_model.specs.readings.TextReading.{before_parts, parts_after}
use Rattle.ghost_model.specs.readings.QueryPlaces.{read_from}
use Rattle.ghost_model.specs.readings.QueryReading.{reading}
use Rattle.ghost_model.specs.examples.Clinic.{clinic_schema}
use Rattle.generated_clinic.specs.Questions.{question}
use Rattle.generated_clinic.specs.Laws.{TextsAreGood}

abbrev longest : List (List ℕ)
longest = texts_of (script 40)

meaning : ℕ → Result Query Refusal
meaning number = Ok (question number)

longest_is_read : map (reading clinic_schema) longest ≡ map meaning (range_with_len 1 40)
unfolding digits parts_after tokens_from quoted_from places_from read_from meaning
longest_is_read = refl

-- whether a script is cut at the last of these bytes and at none before it
abbrev cut_at_end : (even : Bool) → List ℕ → Bool
cut_at_end even [] = false
cut_at_end even (byte ∷ []) = even && byte == 59
cut_at_end even (byte ∷ next ∷ bytes) =
    not (even && byte == 59) && cut_at_end (if byte == 39 then not even else even) (next ∷ bytes)

-- the bytes before the last one
abbrev front : List ℕ → List ℕ
front [] = []
front (byte ∷ []) = []
front (byte ∷ next ∷ bytes) = byte ∷ front (next ∷ bytes)

one_part : (even : Bool) (bytes rest : List ℕ) → cut_at_end even bytes ≡ true → parts_after even (bytes ++ rest) ≡ front bytes ∷ parts_after true rest
unfolding parts_after
one_part even [] rest cut = cc
one_part even (byte ∷ []) rest cut =
    rw cut (ap (λ (e : Bool). [] ∷ parts_after e rest) (and_parts even (byte == 59) cut).0)
one_part even (byte ∷ next ∷ bytes) rest cut =
    let parts = and_parts (not (even && byte == 59)) (cut_at_end (if byte == 39 then not even else even) (next ∷ bytes)) cut in
    by_byte (even && byte == 59) (byte == 39) parts.0
    (λ other. one_part other (next ∷ bytes) rest) parts.1
  where
    by_byte : (ends quotes : Bool) → not ends ≡ true
        → ((other : Bool) → cut_at_end other (next ∷ bytes) ≡ true → parts_after other (next ∷ bytes ++ rest) ≡ front (next ∷ bytes) ∷ parts_after true rest)
        → cut_at_end (if quotes then not even else even) (next ∷ bytes) ≡ true
        → (if ends then [] ∷ parts_after even (next ∷ bytes ++ rest)
        else if quotes then before_parts byte (parts_after (not even) (next ∷ bytes ++ rest))
        else before_parts byte (parts_after even (next ∷ bytes ++ rest)))
        ≡ (byte ∷ front (next ∷ bytes)) ∷ parts_after true rest
    by_byte true quotes goes later cuts = cc
    by_byte false true goes later cuts = ap (before_parts byte) (later (not even) cuts)
    by_byte false false goes later cuts = ap (before_parts byte) (later even cuts)

-- a text without its end
abbrev body : (number : ℕ) → List ℕ
body number = front (text number)

abbrev on_a_line : (number : ℕ) → List ℕ
on_a_line number = 10 ∷ body number

abbrev is_good : (number : ℕ) → Bool
is_good number = cut_at_end true (text number) && (not (is_blank (on_a_line number)) && nat_le (length (text number)) 1000)

all_are_good : list_all is_good (range_with_len 1 40) ≡ true
unfolding digits
all_are_good = refl

at_number : (test : ℕ → Bool) (start count : ℕ) → list_all test (range_with_len start count) ≡ true
    → (number : ℕ) → start ≤ number → number < start + count → test number ≡ true
at_number test start zero all number low high = absurd (omega (arith, low, high))
at_number test start (suc count) all number low high =
    let parts = and_parts (test start) (list_all test (range_with_len (start + 1) count)) all in
    elim (cases_eq number start) [
      | inl is ↦ rw is parts.0
      | inr other ↦ at_number test (start + 1) count parts.1 number (omega (arith, low, other)) (omega (arith, high))
    ]

record IsGood (number : ℕ) : Type 0 where
  cut : cut_at_end true (text number) ≡ true
  shown : not (is_blank (on_a_line number)) ≡ true
  short : length (text number) ≤ 1000

good : (number : ℕ) → 1 ≤ number → number ≤ 40 → IsGood number
good number low high =
    let all = and_parts (cut_at_end true (text number)) (not (is_blank (on_a_line number)) && nat_le (length (text number)) 1000)
    (at_number is_good 1 40 all_are_good number low (omega (arith, high))) in
    let rest = and_parts (not (is_blank (on_a_line number))) (nat_le (length (text number)) 1000) all.1 in
    record { cut = all.0; shown = rest.0; short = grind (arith, nat_tests, rest.1) }

-- the lines of the texts from a number on
abbrev lines_from : (start count : ℕ) → List ℕ
lines_from start count = flat_map (λ number. text number ++ 10 ∷ []) (range_with_len start count)

-- the parts of these lines, the first without the line feed before it
first_part : (start count : ℕ) → 1 ≤ start → start ≤ 40
    → parts_after true (lines_from start (suc count)) ≡ body start ∷ before_parts 10 (parts_after true (lines_from (start + 1) count))
unfolding parts_after
first_part start count low high =
    ap (parts_after true) (append_assoc (text start) (10 ∷ []) (lines_from (start + 1) count))
    ∙ one_part true (text start) (10 ∷ lines_from (start + 1) count) (good start low high).cut

later_parts : (start count : ℕ) → 1 ≤ start → start + count ≤ 41
    → before_parts 10 (parts_after true (lines_from start count)) ≡ map on_a_line (range_with_len start count) ++ (10 ∷ []) ∷ []
unfolding parts_after
later_parts start zero low high = refl
later_parts start (suc count) low high =
    ap (before_parts 10) (first_part start count low (omega (arith, high)))
    ∙ ap (λ (parts : List (List ℕ)). on_a_line start ∷ parts) (later_parts (start + 1) count (omega arith) (omega (arith, high)))

all_shown : (start count : ℕ) → 1 ≤ start → start + count ≤ 41
    → filter (λ part. not (is_blank part)) (map on_a_line (range_with_len start count) ++ (10 ∷ []) ∷ []) ≡ map on_a_line (range_with_len start count)
all_shown start zero low high = refl
all_shown start (suc count) low high =
    rw (good start low (omega (arith, high))).shown
    (ap (λ (parts : List (List ℕ)). on_a_line start ∷ parts) (all_shown (start + 1) count (omega arith) (omega (arith, high))))

texts_are : (count : ℕ) → count ≤ 39 → texts_of (script (suc count)) ≡ body 1 ∷ map on_a_line (range_with_len 2 count)
texts_are count few =
    ap (filter (λ part. not (is_blank part)))
    (first_part 1 count (omega arith) (omega arith) ∙ ap (λ (parts : List (List ℕ)). body 1 ∷ parts) (later_parts 2 count (omega arith) (omega (arith, few))))
    ∙ ap (λ (parts : List (List ℕ)). body 1 ∷ parts) (all_shown 2 count (omega arith) (omega (arith, few)))

first_texts : (count : ℕ) → count ≤ 39 → texts_of (script (suc count)) ≡ take (suc count) longest
first_texts count few =
    texts_are count few
    ∙ (ap (λ (texts : List (List ℕ)). body 1 ∷ texts) (sym (take-map-range_with_len on_a_line 2 39 count few))
    ∙ ap (take (suc count)) (sym (texts_are 39 (omega arith))))

not_long : (start count : ℕ) → 1 ≤ start → start + count ≤ 41 → length (lines_from start count) ≤ 1001 * count
not_long start zero low high = omega arith
not_long start (suc count) low high =
    omega (
      arith,
      (good start low (omega (arith, high))).short,
      not_long (start + 1) count (omega arith) (omega (arith, high)),
      length-append (text start) (10 ∷ []),
      length-append (text start ++ 10 ∷ []) (lines_from (start + 1) count),
    )

map_of_front : {X Y : Type 0} (f : X → Y) (count : ℕ) (xs : List X) → map f (take count xs) ≡ take count (map f xs)
map_of_front f zero xs = refl
map_of_front f (suc count) [] = refl
map_of_front f (suc count) (x ∷ xs) = ap (λ ys. f x ∷ ys) (map_of_front f count xs)

pub texts_are_good : TextsAreGood
unfolding meaning parts_after
texts_are_good zero few = record { short = omega arith; meant = refl }
texts_are_good (suc count) few = record {
  short = omega (arith, not_long 1 (suc count) (omega arith) (omega (arith, few)), few);
  meant =
      ap (map (reading clinic_schema)) (first_texts count (omega (arith, few)))
      ∙ (map_of_front (reading clinic_schema) (suc count) longest
      ∙ (ap (take (suc count)) longest_is_read
      ∙ take-map-range_with_len meaning 1 40 (suc count) few));
}
