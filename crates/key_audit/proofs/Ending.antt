-- Lines that have no LF where one would stand.
use Rattle.std.proofs.Common.{◌≡◌, ℕ, zero, suc, ◌+◌, ◌<◌, ◌≤◌, true, List, [], ◌∷◌, ◌++◌, length, take, Option, refl, ap, subst, ◌∙◌, arith, append_assoc, length-append}
use Rattle.std.proofs.lemmas.Bool.{and_parts, and_from}
use Rattle.ghost_model.specs.core.Recorded.{lacks}
use Rattle.ghost_model.proofs.RecordedLemmas.Texts.{lacks_append}
use Rattle.edge_traits.specs.Files.{Files, HasFile}
use Rattle.key_audit.specs.Parts.{IsEndless, IsTooLong, ReadsNoLine}
use Rattle.key_audit.specs.Windows.{ahead, StandsBehind}
use Rattle.key_audit.specs.declared.window.Window.{Window}

pub lacks_take : (n : ℕ) (text : List ℕ) → lacks 10 text ≡ true → lacks 10 (take n text) ≡ true
lacks_take zero text lacking = refl
lacks_take (suc n) [] lacking = refl
lacks_take (suc n) (x ∷ text) lacking = and_from _ _ (and_parts _ _ lacking).0 (lacks_take n text (and_parts _ _ lacking).1)

lacks_front : (n : ℕ) (text more : List ℕ) → n ≤ length text → lacks 10 text ≡ true → lacks 10 (take n (text ++ more)) ≡ true
lacks_front zero text more short lacking = refl
lacks_front (suc n) [] more short lacking = absurd (omega (arith, short))
lacks_front (suc n) (x ∷ text) more short lacking =
    and_from _ _ (and_parts _ _ lacking).0 (lacks_front n text more (omega (arith, short)) (and_parts _ _ lacking).1)

-- what was read of a line has no LF, and is longer than a line
pub too_long : (line first later : List ℕ) → lacks 10 line ≡ true → lacks 10 first ≡ true → 4200 < length line + length first → IsEndless (line ++ (first ++ later))
too_long line first later one other long =
    let size = length-append line first in
    subst (λ (xs : List ℕ). lacks 10 (take 4201 xs) ≡ true) (append_assoc line first later)
    (lacks_front 4201 (line ++ first) later (omega (arith, size, long)) (lacks_append 10 line first one other))

endless_more : (n : ℕ) (bytes rest : List ℕ) → n ≤ length bytes → lacks 10 (take n bytes) ≡ true → lacks 10 (take n (bytes ++ rest)) ≡ true
endless_more zero bytes rest short lacking = refl
endless_more (suc n) [] rest short lacking = absurd (omega (arith, short))
endless_more (suc n) (x ∷ bytes) rest short lacking =
    and_from _ _ (and_parts _ _ lacking).0 (endless_more n bytes rest (omega (arith, short)) (and_parts _ _ lacking).1)

-- some bytes were read, and the file ends with no LF
pub unended : (contents : Option Files) (name passed line : List ℕ) → HasFile contents name (passed ++ line) → 0 < length line → lacks 10 line ≡ true → ReadsNoLine contents name passed
unended contents name passed line is some lacking = record { rest = line; is_file = is; some = some; endless = lacks_take 4201 line lacking }

-- there is more of a line than one may have
pub overlong : (contents : Option Files) (name passed line : List ℕ) (window : Window) → StandsBehind contents name (passed ++ line) window → lacks 10 line ≡ true
    → IsTooLong line (ahead window) → ReadsNoLine contents name passed
overlong contents name passed line window stands lacking is =
    let sum = length-append passed line in
    let long = is.long in
    let front = stands.read (omega (arith, sum, long)) in
    let size = length-append line (ahead window) in
    let size_more = length-append (line ++ ahead window) front.begins.rest in
    record {
      rest = (line ++ ahead window) ++ front.begins.rest;
      is_file = subst (HasFile contents name) (front.begins.joined
          ∙ (ap (λ (xs : List ℕ). xs ++ front.begins.rest) (append_assoc passed line (ahead window)) ∙ append_assoc passed (line ++ ahead window) front.begins.rest)) front.is_file;
      some = omega (arith, size_more, size, long);
      endless = endless_more 4201 (line ++ ahead window) front.begins.rest (omega (arith, size, long)) (is.endless lacking);
    }
