-- A line that is read part by part.
use Rattle.std.proofs.Common.{◌≡◌, ◌↔◌, ℕ, suc, ◌+◌, ◌<◌, ◌≤◌, true, false, List, [], ◌∷◌, ◌++◌, length, drop, Option, Result, Ok, Err, IsOk, OnOk, is_err, refl, sym, ap, subst, ◌∙◌, arith, append_assoc, append-nil, length-append}
use Rattle.std.proofs.lemmas.List.{length-drop}
use Rattle.ghost_model.specs.core.Recorded.{lacks}
use Rattle.ghost_model.proofs.RecordedLemmas.Texts.{lacks_append}
use Rattle.edge_traits.specs.Files.{Files}
use Rattle.channel_audit.specs.Lines.{Cuts}
use Rattle.key_audit.specs.Parts.{EndsPart, TakesAll, IsEndless, IsTooLong, ReadsLine}
use Rattle.key_audit.specs.Windows.{ahead, StandsBehind}
use Rattle.key_audit.specs.declared.window.Window.{Window}
use Rattle.key_audit.proofs.Ahead.{passes}
use Rattle.key_audit.proofs.Ending.{too_long}

module _ (contents : Option Files) (name passed line after : List ℕ) (before window : Window) (stands : StandsBehind contents name (passed ++ line) before)
    (lacking : lacks 10 line ≡ true) (counted : window.passed + length (ahead window) ≡ before.passed + length (ahead before)) where
  -- its LF was passed
  pub line_ended : EndsPart line (ahead before) after (ahead window) → ReadsLine contents name passed after window
  line_ended part =
      let piece = part.first ++ 10 ∷ [] in
      let is : ahead before ≡ piece ++ ahead window = part.cuts.joined ∙ sym (append_assoc part.first (10 ∷ []) (ahead window)) in
      let size = ap length is ∙ length-append piece (ahead window) in
      let whole : (passed ++ line) ++ piece ≡ passed ++ (after ++ 10 ∷ []) =
      append_assoc passed line piece
      ∙ ap (λ (xs : List ℕ). passed ++ xs) (sym (append_assoc line part.first (10 ∷ [])) ∙ ap (λ (xs : List ℕ). xs ++ 10 ∷ []) (sym part.line_is)) in
      record {
        lacking = subst (λ (xs : List ℕ). lacks 10 xs ≡ true) (sym part.line_is) (lacks_append 10 line part.first lacking part.cuts.lacking);
        stands = subst (λ (xs : List ℕ). StandsBehind contents name xs window) whole
            (passes contents name (passed ++ line) piece before window is stands (omega (arith, counted, size)));
      }

  -- all that is ahead was put to it
  pub line_goes_on : TakesAll line (ahead before) after (ahead window) → StandsBehind contents name (passed ++ after) window
  line_goes_on part =
      let is : ahead before ≡ ahead before ++ ahead window = sym (ap (λ (xs : List ℕ). ahead before ++ xs) part.ahead_is ∙ append-nil (ahead before)) in
      let size = ap length part.ahead_is in
      subst (λ (xs : List ℕ). StandsBehind contents name xs window)
      (append_assoc passed line (ahead before) ∙ ap (λ (xs : List ℕ). passed ++ xs) (sym part.line_is))
      (passes contents name (passed ++ line) (ahead before) before window is stands (omega (arith, counted, size)))

not_within : (n : ℕ) → (n ≤ 4200 → ⊥) → 4200 < n
not_within n none = grind arith

false_is_true : false ≡ true → ⊥
false_is_true e = cc e

-- what does not fit is too long
overfull : {E : Type 0} (result : Result (Unit {0}) E) (n : ℕ) → is_err result ≡ true → (IsOk result ↔ (n ≤ 4200)) → 4200 < n
overfull (Ok _) n e variant = absurd (false_is_true e)
overfull (Err _) n e variant = not_within n (λ low. false_is_true (variant.1 low))

fits_in : {E : Type 0} (result : Result (Unit {0}) E) (n : ℕ) → is_err result ≡ false → (IsOk result ↔ (n ≤ 4200)) → n ≤ 4200
fits_in (Ok _) n e variant = variant.0 refl
fits_in (Err _) n e variant = absurd (false_is_true (sym e))

grown_by : {E : Type 0} (result : Result (Unit {0}) E) (P : Type 0) → is_err result ≡ false → OnOk result P → P
grown_by (Ok _) P e ok = ok
grown_by (Err _) P e ok = absurd (false_is_true (sym e))

drop_line : (first later : List ℕ) → drop (suc (length first)) (first ++ 10 ∷ later) ≡ later
drop_line [] later = refl
drop_line (x ∷ first) later = drop_line first later

module _ {E : Type 0} (result : Result (Unit {0}) E) (line ahead text line_after ahead_after : List ℕ) (text_is : text ≡ ahead) where
  -- an LF is ahead
  module _ (first later : List ℕ) (cuts : Cuts 10 text first later) (variant : IsOk result ↔ (length line + length first ≤ 4200)) where
    cuts_ahead : Cuts 10 ahead first later
    cuts_ahead = subst (λ (xs : List ℕ). Cuts 10 xs first later) text_is cuts

    pub cut_too_long : is_err result ≡ true → IsTooLong line ahead
    cut_too_long e =
        let long = overfull result (length line + length first) e variant in
        let size = ap length cuts_ahead.joined ∙ length-append first (10 ∷ later) in
        record {
          long = omega (arith, long, size);
          endless = λ lacking.
              subst (λ (xs : List ℕ). IsEndless (line ++ xs)) (sym cuts_ahead.joined) (too_long line first (10 ∷ later) lacking cuts_ahead.lacking long);
        }

    pub cut_ends : is_err result ≡ false → OnOk result (line_after ≡ line ++ first) → ahead_after ≡ drop (length first + 1) ahead → EndsPart line ahead line_after ahead_after
    cut_ends e grew rest =
        let one_more : length first + 1 ≡ suc (length first) = omega arith in
        let later_is : ahead_after ≡ later =
        rest ∙ (ap (λ (n : ℕ). drop n ahead) one_more ∙ (ap (drop (suc (length first))) cuts_ahead.joined ∙ drop_line first later)) in
        record {
          first = first;
          cuts = subst (λ (xs : List ℕ). Cuts 10 ahead first xs) (sym later_is) cuts_ahead;
          line_is = grown_by result (line_after ≡ line ++ first) e grew;
        }

    pub cut_within : length first + 1 ≤ length ahead
    cut_within = let size = ap length cuts_ahead.joined ∙ length-append first (10 ∷ later) in omega (arith, size)

  -- no LF is ahead
  module _ (lacking : lacks 10 text ≡ true) (variant : IsOk result ↔ (length line + length text ≤ 4200)) where
    lacking_ahead : lacks 10 ahead ≡ true
    lacking_ahead = subst (λ (xs : List ℕ). lacks 10 xs ≡ true) text_is lacking

    pub all_too_long : is_err result ≡ true → IsTooLong line ahead
    all_too_long e =
        let long = overfull result (length line + length text) e variant in
        let size = ap length text_is in
        record {
          long = omega (arith, long, size);
          endless = λ lacks_line.
              subst (λ (xs : List ℕ). IsEndless (line ++ xs)) (append-nil ahead) (too_long line ahead [] lacks_line lacking_ahead (omega (arith, long, size)));
        }

-- the place in the file where what is ahead ends stays
pub place_kept : (old new count : ℕ) (before after : List ℕ) → new ≡ old + count → after ≡ drop count before → count ≤ length before → new + length after ≡ old + length before
place_kept old new count before after counted rest fits = let size = ap length rest ∙ length-drop count before in omega (arith, counted, size, fits)
