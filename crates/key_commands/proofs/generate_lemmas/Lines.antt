-- The lines of texts that were handed on so far.
use Rattle.std.proofs.Common.{◌≡◌, ◌≤◌, ◌<◌, ◌+◌, ℕ, List, [], ◌∷◌, ◌++◌, length, refl, ap, subst, ◌∙◌}
use Rattle.std.specs.Prelude.{drop, get_or}
use Rattle.std.proofs.lemmas.List.{drop_more, drop_all}
use Rattle.key_lines.specs.Handing.{Handed, Hands, PiecesJoin}
use Rattle.key_lines.specs.declared.told.ToldText.{ToldText}
use Rattle.key_plain.proofs.HandingOn.{HandedSoFar, one_more, all_given}
use Rattle.key_commands.specs.generate.Counting.{rows_given, text_line, text_lines}

-- the lines from a place on
abbrev pub left_from : (place : ℕ) → (told : List ToldText) → (meant : List ℕ) → List ℕ
left_from place told meant = text_lines (place + 1) (rows_given (drop place told)) (drop place meant)

pub next_line : PiecesJoin → (whole : List ℕ) (place : ℕ) (told : List ToldText) (meant : List ℕ) (one : ToldText) (rows : ℕ) (before between now : Handed)
    → place < length told → place < length meant
    → HandedSoFar whole (left_from place told meant) before between
    → Hands (text_line (place + 1) (get_or told place one).rows (get_or meant place rows)) between now
    → HandedSoFar whole (left_from (place + 1) told meant) before now
next_line join whole place told meant one rows before between now in_told in_meant so_far hands =
    let lines : left_from place told meant ≡ text_line (place + 1) (get_or told place one).rows (get_or meant place rows) ++ left_from (place + 1) told meant =
    ap (λ (some : List ToldText). text_lines (place + 1) (rows_given some) (drop place meant)) (drop_more told place one in_told)
    ∙ ap (λ (some : List ℕ). text_lines (place + 1) (rows_given (get_or told place one ∷ drop (place + 1) told)) some) (drop_more meant place rows in_meant) in
    one_more join whole (text_line (place + 1) (get_or told place one).rows (get_or meant place rows)) (left_from (place + 1) told meant) before between now
    (subst (λ (left : List ℕ). HandedSoFar whole left before between) lines so_far) hands

no_lines : (number : ℕ) (given : List ℕ) → text_lines number given [] ≡ []
no_lines number [] = refl
no_lines number (rows ∷ given) = refl

pub all_lines : (whole : List ℕ) (place : ℕ) (told : List ToldText) (meant : List ℕ) (before now : Handed) → length meant ≤ place
    → HandedSoFar whole (left_from place told meant) before now → Hands whole before now
all_lines whole place told meant before now past so_far =
    all_given whole (left_from place told meant) before now so_far
    (ap (λ (some : List ℕ). text_lines (place + 1) (rows_given (drop place told)) some) (drop_all place meant past) ∙ no_lines (place + 1) (rows_given (drop place told)))
