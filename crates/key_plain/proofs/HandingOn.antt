-- Lines that were handed on so far, and those that are left.
use Rattle.std.proofs.Common.{◌≡◌, ℕ, ◌+◌, ◌≤◌, true, false, List, [], ◌∷◌, ◌++◌, length, map, Option, None, Some, Ok, refl, sym, ap, subst, ◌∙◌, append_assoc, append-nil, arith}
use Rattle.std.specs.List.{concat}
use Rattle.ghost_model.specs.core.Values.{Row, Database}
use Rattle.ghost_model.specs.core.Schema.{Schema}
use Rattle.ghost_model.specs.core.Query.{Query}
use Rattle.ghost_model.specs.readings.QueryReading.{reading}
use Rattle.ghost_model.specs.core.Meaning.{answer}
use Rattle.ghost_model.specs.core.Printed.{row_line, count_line, answer_lines, lines_of_reading, lines_of_text, lines_from, printed}
use Rattle.edge_traits.specs.Written.{grown}
use Rattle.key_lines.specs.Handing.{Handed, Hands, PiecesJoin}

-- a front of some lines was handed on, and these lines are left
pub record HandedSoFar (whole left : List ℕ) (before now : Handed) : Type 0 where
  pub given : List ℕ
  pub split : whole ≡ given ++ left
  pub hands : Hands given before now

grown_nothing : (told : Option (List ℕ)) → told ≡ grown told []
grown_nothing None = refl
grown_nothing (Some bytes) = ap Some (sym (append-nil bytes))

-- after a failed write any piece counts as handed on
after_failure : (piece : List ℕ) (state : Handed) → state.failed ≡ true → Hands piece state state
after_failure piece state failed = record {
  nothing_more = λ h. refl;
  whole = λ h. (let no : false ≡ true = sym h ∙ failed in let bad : ⊥ = cc in absurd bad);
  front = record { front = []; begins = record { rest = piece; joined = refl }; grew = grown_nothing state.written };
  rose = λ h g. (let no : false ≡ true = sym h ∙ g in let bad : ⊥ = cc in absurd bad);
  never_falls = omega arith;
}

pub nothing_yet : PiecesJoin → (whole : List ℕ) (state : Handed) → HandedSoFar whole whole state state
nothing_yet join whole state = record { given = []; split = refl; hands = join.none state }

-- one more piece was handed on
pub one_more : PiecesJoin → (whole piece left : List ℕ) (before between now : Handed)
    → HandedSoFar whole (piece ++ left) before between → Hands piece between now → HandedSoFar whole left before now
one_more join whole piece left before between now so_far hands = record {
  given = so_far.given ++ piece;
  split = so_far.split ∙ sym (append_assoc so_far.given piece left);
  hands = join.two so_far.given piece before between now so_far.hands hands;
}

-- all was handed on
pub all_given : (whole left : List ℕ) (before now : Handed) → HandedSoFar whole left before now → left ≡ [] → Hands whole before now
all_given whole left before now so_far none =
    let all : whole ≡ so_far.given = so_far.split ∙ ap (λ rest. so_far.given ++ rest) none ∙ append-nil so_far.given in
    subst (λ piece. Hands piece before now) (sym all) so_far.hands

-- a write failed, and what is left does not matter
pub given_up : PiecesJoin → (whole left : List ℕ) (before now : Handed) → HandedSoFar whole left before now → now.failed ≡ true
    → Hands whole before now
given_up join whole left before now so_far failed =
    subst (λ piece. Hands piece before now) (sym so_far.split)
    (join.two so_far.given left before now now so_far.hands (after_failure left now failed))

concat_two : (lines more : List (List ℕ)) → concat (lines ++ more) ≡ concat lines ++ concat more
concat_two [] more = refl
concat_two (line ∷ lines) more =
    ap (λ rest. line ++ rest) (concat_two lines more) ∙ sym (append_assoc line (concat lines) (concat more))

-- the rows of an answer were handed on, and then their number
pub text_answered : PiecesJoin → (schema : Schema) (database : Database) (number : ℕ) (text : List ℕ) (query : Query)
    → reading schema text ≡ Ok query → (rows : List Row) → rows ≡ answer schema database query
    → (count : ℕ) (before between now : Handed) → (between.failed ≡ false → count ≡ length rows)
    → Hands (concat (map row_line rows)) before between → Hands (count_line number count) between now
    → Hands (concat (lines_of_text schema database number text)) before now
text_answered join schema database number text query reads rows are count before between now many one two =
    let last = count_line number (length rows) in
    let lines : concat (lines_of_text schema database number text) ≡ concat (map row_line rows) ++ last =
    ap (λ r. concat (lines_of_reading schema database number r)) reads
    ∙ ap (λ given. concat (answer_lines number given)) (sym are)
    ∙ concat_two (map row_line rows) (last ∷ [])
    ∙ ap (λ rest. concat (map row_line rows) ++ rest) (append-nil last) in
    subst (λ piece. Hands piece before now) (sym lines)
    ((elim between.failed as (λ v. between.failed ≡ v → Hands (concat (map row_line rows) ++ last) before now) [
      | true ↦ λ failed. join.two (concat (map row_line rows)) last before between now one
          (subst (λ (s : Handed). Hands last between s) (sym (two.nothing_more failed)) (after_failure last between failed))
      | false ↦ λ fine. join.two (concat (map row_line rows)) last before between now one
          (subst (λ n. Hands (count_line number n) between now) (many fine) two)
    ]) refl)

-- no text was printed yet
pub no_text_yet : PiecesJoin → (schema : Schema) (database : Database) (texts left : List (List ℕ)) → left ≡ texts → (state : Handed)
    → HandedSoFar (printed schema texts database) (concat (lines_from schema database 1 left)) state state
no_text_yet join schema database texts left all state =
    subst (λ (some : List (List ℕ)). HandedSoFar (printed schema texts database) (concat (lines_from schema database 1 some)) state state) (sym all)
    (nothing_yet join (printed schema texts database) state)

-- one more text was printed
pub text_printed : PiecesJoin → (schema : Schema) (database : Database) (whole : List ℕ) (number : ℕ) (text : List ℕ) (left later : List (List ℕ))
    → left ≡ text ∷ later → (before between now : Handed)
    → HandedSoFar whole (concat (lines_from schema database number left)) before between
    → Hands (concat (lines_of_text schema database number text)) between now
    → HandedSoFar whole (concat (lines_from schema database (number + 1) later)) before now
text_printed join schema database whole number text left later next before between now so_far hands =
    let lines : concat (lines_from schema database number left)
    ≡ concat (lines_of_text schema database number text) ++ concat (lines_from schema database (number + 1) later) =
    ap (λ (some : List (List ℕ)). concat (lines_from schema database number some)) next
    ∙ concat_two (lines_of_text schema database number text) (lines_from schema database (number + 1) later) in
    one_more join whole (concat (lines_of_text schema database number text)) (concat (lines_from schema database (number + 1) later)) before between now
    (subst (λ rest. HandedSoFar whole rest before between) lines so_far) hands

-- all texts were printed
pub texts_printed : (schema : Schema) (database : Database) (whole : List ℕ) (number : ℕ) (left : List (List ℕ)) → left ≡ [] → (before now : Handed)
    → HandedSoFar whole (concat (lines_from schema database number left)) before now → Hands whole before now
texts_printed schema database whole number left none before now so_far =
    all_given whole (concat (lines_from schema database number left)) before now so_far (ap (λ (some : List (List ℕ)). concat (lines_from schema database number some)) none)

pub none_left : (left : List (List ℕ)) → length left ≤ 0 → left ≡ []
none_left [] h = refl
none_left (text ∷ left) h = let bad : ⊥ = omega (arith, h) in absurd bad
