-- What a line does to an audit that stands behind bytes of a file.
use Rattle.std.proofs.Common.{◌≡◌, ℕ, ◌+◌, ◌<◌, ◌≤◌, true, List, [], ◌∷◌, ◌++◌, length, refl, sym, ap, subst, ◌∙◌, arith, append_assoc, length-append}
use Rattle.ghost_model.specs.core.Asks.{NumberedAsk}
use Rattle.ghost_model.specs.core.Channel.{Catalog, Entry, Journal}
use Rattle.ghost_model.specs.core.Recorded.{Tells, lacks, most_journal, IsNoLineAt}
use Rattle.channel_audit.specs.Audited.{IsAudited, GoesOn, GoesWrong, IsWrongMove, StandsIn}
use Rattle.channel_audit.specs.Laws.{LinesArePassed}
use Rattle.channel_audit.specs.declared.audit.Audit.{Audit}
use Rattle.channel_audit.specs.declared.audit.Due.{Due}
use Rattle.key_audit.specs.Journals.{HasPassed}

ended : List ℕ → List ℕ
ended line = line ++ 10 ∷ []

module _ (laws : LinesArePassed) (catalog : Catalog) (asks : List NumberedAsk) where
  pub begins : (audit : Audit) → IsAudited catalog asks [] audit → HasPassed catalog asks [] audit 0
  begins audit audited = record {
    stands = λ file rest is. subst (λ (f : List ℕ). StandsIn catalog asks f rest audit 0 0) (sym is) (laws.begins catalog asks rest audit audited);
    within = omega arith;
    few = omega arith;
  }

  module _ (before line : List ℕ) (audit : Audit) (moves : ℕ) (has : HasPassed catalog asks before audit moves) where
    -- the audit stands before the line
    here : (file rest : List ℕ) → file ≡ before ++ (line ++ 10 ∷ rest) → StandsIn catalog asks file (line ++ 10 ∷ rest) audit (length before) moves
    here file rest is = has.stands file (line ++ 10 ∷ rest) is

    joined : (rest : List ℕ) → (before ++ (line ++ 10 ∷ [])) ++ rest ≡ before ++ (line ++ 10 ∷ rest)
    joined rest = append_assoc before (line ++ 10 ∷ []) rest ∙ ap (λ (xs : List ℕ). before ++ xs) (append_assoc line (10 ∷ []) rest)

    long : length (before ++ (line ++ 10 ∷ [])) ≡ length before + (length line + 1)
    long = length-append before (line ++ 10 ∷ []) ∙ ap (λ (n : ℕ). length before + n) (length-append line (10 ∷ []))

    pub fine : (after : Audit) → ((journal : Journal) → IsAudited catalog asks journal audit → GoesOn catalog asks journal line after)
        → length before + (length line + 1) ≤ most_journal → HasPassed catalog asks (before ++ (line ++ 10 ∷ [])) after (moves + 1)
    fine after goes within =
        let stands : (file rest : List ℕ) → file ≡ (before ++ (line ++ 10 ∷ [])) ++ rest → StandsIn catalog asks file rest after (length (before ++ (line ++ 10 ∷ []))) (moves + 1) =
        (λ file rest is.
        let at = here file rest (is ∙ joined rest) in
        subst (λ (n : ℕ). StandsIn catalog asks file rest after n (moves + 1)) (sym long)
        (laws.fine catalog asks file line rest audit after (length before) moves at (goes at.journal at.audited) within)) in
        record {
          stands = stands;
          within = subst (λ (n : ℕ). n ≤ most_journal) (sym long) within;
          few = laws.few catalog asks ((before ++ (line ++ 10 ∷ [])) ++ []) [] after (length (before ++ (line ++ 10 ∷ []))) (moves + 1)
              (stands ((before ++ (line ++ 10 ∷ [])) ++ []) [] refl);
        }

    pub wrong : (told due : Due) → ((journal : Journal) → IsAudited catalog asks journal audit → GoesWrong catalog asks journal line told due)
        → length before + (length line + 1) ≤ most_journal → (rest : List ℕ) → IsWrongMove catalog asks (before ++ (line ++ 10 ∷ rest)) (moves + 1) told due
    wrong told due goes within rest =
        let at = here (before ++ (line ++ 10 ∷ rest)) rest refl in
        laws.wrong catalog asks (before ++ (line ++ 10 ∷ rest)) line rest audit (length before) moves told due at (goes at.journal at.audited) within

    pub untold : lacks 10 line ≡ true → ((journal : Journal) → IsAudited catalog asks journal audit → (made : Entry) → Tells line made → ⊥)
        → (rest : List ℕ) → IsNoLineAt catalog asks (before ++ (line ++ 10 ∷ rest)) (moves + 1)
    untold lacking none rest =
        let at = here (before ++ (line ++ 10 ∷ rest)) rest refl in
        laws.untold catalog asks (before ++ (line ++ 10 ∷ rest)) line rest audit (length before) moves at lacking (none at.journal at.audited)

    pub beyond : lacks 10 line ≡ true → most_journal < length before + (length line + 1)
        → (rest : List ℕ) → IsNoLineAt catalog asks (before ++ (line ++ 10 ∷ rest)) (moves + 1)
    beyond lacking late rest =
        laws.beyond catalog asks (before ++ (line ++ 10 ∷ rest)) line rest audit (length before) moves
        (here (before ++ (line ++ 10 ∷ rest)) rest refl) lacking (omega (arith, late))
