-- What each kind of line does to an audit that stands in a file.
use Rattle.std.proofs.Common.{◌≡◌, ℕ, zero, suc, ◌+◌, ◌≤◌, ◌<◌, Bool, true, List, [], ◌∷◌, ◌++◌, length, take, refl, sym, ap, subst, ◌∙◌, arith, append_assoc, length-append}
use Rattle.std.proofs.lemmas.Bool.{and_parts}
use Rattle.ghost_model.specs.core.Channel.{Catalog, Entry, Journal}
use Rattle.ghost_model.specs.core.Asks.{NumberedAsk}
use Rattle.ghost_model.specs.core.NextMove.{standing_after}
use Rattle.ghost_model.specs.core.Recorded.{Tells, EachTells, ended_line, all_lines, most_journal, GoesOnWith, IsProperFile, IsNoLineAt, lacks}
use Rattle.channel_audit.specs.Audited.{IsAudited, GoesOn, GoesWrong, IsWrongMove, StandsIn}
use Rattle.channel_audit.specs.declared.audit.Audit.{Audit}
use Rattle.channel_audit.specs.declared.audit.Due.{Due}
use Rattle.ghost_model.proofs.RecordedLemmas.Texts.{cut_once, lacks_none}
use Rattle.ghost_model.proofs.RecordedLemmas.Ends.{told_lacks, lines_more, ended_rest}

pub each_more : (texts : List (List ℕ)) (journal : Journal) (text : List ℕ) (made : Entry) → EachTells texts journal → Tells text made
    → EachTells (texts ++ text ∷ []) (journal ++ made ∷ [])
each_more [] [] text made each tells = (tells, tt)
each_more [] (_ ∷ _) text made each tells = absurd each
each_more (_ ∷ _) [] text made each tells = absurd each
each_more (_ ∷ texts) (_ ∷ journal) text made each tells = (each.0, each_more texts journal text made each.1 tells)

module _ (catalog : Catalog) (asks : List NumberedAsk) (file : List ℕ) where
  -- no line was passed
  pub first_step : (audit : Audit) → IsAudited catalog asks [] audit → StandsIn catalog asks file file audit 0 0
  first_step audit audited = record {
    journal = [];
    begins = record { texts = []; tell = tt; begins = refl; within = omega arith; proper = tt };
    audited = audited;
    passed_is = refl;
    moves_is = refl;
  }

  -- a line that is fine was passed
  pub fine_step : (text rest : List ℕ) (audit after : Audit) (passed moves : ℕ) → (stands : StandsIn catalog asks file (text ++ 10 ∷ rest) audit passed moves)
      → GoesOn catalog asks stands.journal text after → passed + (length text + 1) ≤ most_journal
      → StandsIn catalog asks file rest after (passed + (length text + 1)) (moves + 1)
  fine_step text rest audit after passed moves stands goes within =
      let long : length (all_lines (stands.begins.texts ++ text ∷ [])) ≡ passed + (length text + 1) =
      ap length (lines_more stands.begins.texts text) ∙ (length-append (all_lines stands.begins.texts) (ended_line text)
      ∙ (ap (λ (n : ℕ). n + length (ended_line text)) stands.passed_is ∙ ap (λ (n : ℕ). passed + n) (length-append text (10 ∷ [])))) in
      record {
        journal = stands.journal ++ goes.made ∷ [];
        begins = record {
          texts = stands.begins.texts ++ text ∷ [];
          tell = each_more stands.begins.texts stands.journal text goes.made stands.begins.tell goes.tells;
          begins = stands.begins.begins ∙ (ap (λ (xs : List ℕ). all_lines stands.begins.texts ++ xs) (ended_rest text rest)
              ∙ (sym (append_assoc (all_lines stands.begins.texts) (ended_line text) rest)
              ∙ ap (λ (xs : List ℕ). xs ++ rest) (sym (lines_more stands.begins.texts text))));
          within = subst (λ (n : ℕ). n ≤ most_journal) (sym long) within;
          proper = goes.audited.proper;
        };
        audited = goes.audited;
        passed_is = long;
        moves_is = length-append stands.journal (goes.made ∷ []) ∙ ap (λ (n : ℕ). n + 1) stands.moves_is;
      }

  -- a line tells another move than the next one
  pub wrong_step : (text rest : List ℕ) (audit : Audit) (passed moves : ℕ) (told due : Due) → (stands : StandsIn catalog asks file (text ++ 10 ∷ rest) audit passed moves)
      → GoesWrong catalog asks stands.journal text told due → passed + (length text + 1) ≤ most_journal → IsWrongMove catalog asks file (moves + 1) told due
  wrong_step text rest audit passed moves told due stands goes within = record {
    wrong = record {
      journal = stands.journal;
      rest = text ++ 10 ∷ rest;
      before = stands.begins;
      made = goes.made;
      there = record {
        text = text;
        later = rest;
        tells = goes.tells;
        begins = ended_rest text rest;
        within = (let long = length-append text (10 ∷ []) in let is = stands.passed_is in omega (arith, long, is, within));
      };
      wrong = goes.wrong;
      place = ap (λ (n : ℕ). n + 1) (sym stands.moves_is);
    };
    told_is = goes.told_is;
    due_is = goes.due_is;
  }

  -- no line of a journal stands at the front of the rest
  no_line_step : (rest : List ℕ) (audit : Audit) (passed moves : ℕ) → (stands : StandsIn catalog asks file rest audit passed moves) → 0 < length rest
      → ((made : Entry) → GoesOnWith (length (all_lines stands.begins.texts)) rest made → ⊥) → IsNoLineAt catalog asks file (moves + 1)
  no_line_step rest audit passed moves stands some none = record {
    journal = stands.journal;
    rest = rest;
    before = stands.begins;
    some = some;
    no_line = none;
    place = ap (λ (n : ℕ). n + 1) (sym stands.moves_is);
  }

  same_text : (text rest : List ℕ) (before : ℕ) (made : Entry) → lacks 10 text ≡ true → (goes : GoesOnWith before (text ++ 10 ∷ rest) made) → text ≡ goes.text
  same_text text rest before made lacking goes =
      (cut_once 10 text rest goes.text goes.later lacking (told_lacks goes.text made goes.tells) (goes.begins ∙ sym (ended_rest goes.text goes.later))).0

  some_text : (text rest : List ℕ) → 0 < length (text ++ 10 ∷ rest)
  some_text text rest = let long = length-append text (10 ∷ rest) in omega (arith, long)

  -- a line that tells nothing
  pub untold_step : (text rest : List ℕ) (audit : Audit) (passed moves : ℕ) → StandsIn catalog asks file (text ++ 10 ∷ rest) audit passed moves → lacks 10 text ≡ true
      → ((made : Entry) → Tells text made → ⊥) → IsNoLineAt catalog asks file (moves + 1)
  untold_step text rest audit passed moves stands lacking none =
      no_line_step (text ++ 10 ∷ rest) audit passed moves stands (some_text text rest)
      (λ made goes. none made (subst (λ (t : List ℕ). Tells t made) (sym (same_text text rest _ made lacking goes)) goes.tells))

  -- a line that reaches past the limit of a file
  pub beyond_step : (text rest : List ℕ) (audit : Audit) (passed moves : ℕ) → StandsIn catalog asks file (text ++ 10 ∷ rest) audit passed moves → lacks 10 text ≡ true
      → most_journal ≤ passed + length text → IsNoLineAt catalog asks file (moves + 1)
  beyond_step text rest audit passed moves stands lacking beyond =
      no_line_step (text ++ 10 ∷ rest) audit passed moves stands (some_text text rest)
      (λ made goes.
      let same = ap length (same_text text rest _ made lacking goes) in
      let long = length-append goes.text (10 ∷ []) in
      let is = stands.passed_is in
      let within = goes.within in
      omega (arith, same, long, is, within, beyond))

  lf_within : (n : ℕ) (text later : List ℕ) → length text < n → lacks 10 (take n (text ++ 10 ∷ later)) ≡ true → ⊥
  lf_within zero text later low lacking = omega (arith, low)
  lf_within (suc n) [] later low lacking = lacks_none 10 [] (take n later) lacking
  lf_within (suc n) (one ∷ text) later low lacking = lf_within n text later (omega (arith, low)) (and_parts _ _ lacking).1

  -- no LF stands where that of a line would
  pub endless_step : (rest : List ℕ) (audit : Audit) (passed moves : ℕ) → StandsIn catalog asks file rest audit passed moves → 0 < length rest
      → lacks 10 (take 4201 rest) ≡ true → IsNoLineAt catalog asks file (moves + 1)
  endless_step rest audit passed moves stands some lacking =
      no_line_step rest audit passed moves stands some
      (λ made goes.
      let short = goes.tells.short in
      lf_within 4201 goes.text goes.later (omega (arith, short))
      (subst (λ (xs : List ℕ). lacks 10 (take 4201 xs) ≡ true) (goes.begins ∙ sym (ended_rest goes.text goes.later)) lacking))

  -- all lines were passed
  pub proper_end : (audit : Audit) (passed moves : ℕ) (closed : Bool) → (stands : StandsIn catalog asks file [] audit passed moves)
      → closed ≡ (standing_after catalog asks stands.journal).closed → IsProperFile catalog asks file moves closed
  proper_end audit passed moves closed stands ends = record {
    journal = stands.journal;
    whole = stands.begins;
    counted = sym stands.moves_is;
    ends = ends;
  }
