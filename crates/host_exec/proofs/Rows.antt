-- Rows of the file are gone through one by one.
use Rattle.std.proofs.Common.{◌≡◌, ℕ, suc, ◌+◌, ◌-◌, ◌*◌, ◌<◌, Bool, true, false, List, [], ◌∷◌, ◌++◌, take, drop, flat_map, ap, sym, refl, subst, ◌∙◌, arith, length-append, append_assoc, append-nil}
use Rattle.std.specs.Prelude.{if◌then◌else◌}
use Rattle.std.proofs.lemmas.Grind.{flat_map-append}
use Rattle.ghost_model.specs.core.Asks.{RowCells, row_bytes}
use Rattle.host_exec.specs.RowBytes.{Form, window, row_at, replies_at, replied, is_met}
use Rattle.host_exec.specs.Gathering.{Gathered}
use Rattle.host_exec.proofs.Windows.{window_front, window_back}

-- ---- rows

-- so many of some rows were gone through
pub record PassedIn (form : Form) (file : List ℕ) (start later : ℕ) (all : List RowCells) (place count passed : ℕ) (rest : List ℕ) (rows : ℕ) (bytes : List ℕ) : Type 0 where
  pub ahead : rest ≡ window file (start + (place + passed) * form.width) ((count - passed) * form.width)
  pub gathered : Gathered all rows bytes (replies_at form file start (place + passed) (count - passed + later))

abbrev pub Passed : Form → (place count : ℕ) → (piece : List ℕ) → (rows : ℕ) → (bytes : List ℕ) → (passed : ℕ) → (rest : List ℕ) → (rows_now : ℕ) → (bytes_now : List ℕ) → Type 0
Passed form place count piece rows bytes passed rest rows_now bytes_now =
    (file : List ℕ) (start later : ℕ) (all : List RowCells) → piece ≡ window file (start + place * form.width) (count * form.width)
    → Gathered all rows bytes (replies_at form file start place (count + later))
    → PassedIn form file start later all place count passed rest rows_now bytes_now

pub nothing_passed : (form : Form) (place count : ℕ) (piece : List ℕ) (rows : ℕ) (bytes : List ℕ) → Passed form place count piece rows bytes 0 piece rows bytes
nothing_passed form place count piece rows bytes file start later all e h =
    let p : place + 0 ≡ place = omega arith in
    let c : count - 0 ≡ count = omega arith in
    record {
      ahead = e ∙ (ap (λ (n : ℕ). window file (start + n * form.width) (count * form.width)) (sym p) ∙ ap (λ (n : ℕ). window file (start + (place + 0) * form.width) (n * form.width)) (sym c));
      gathered = subst (λ (n : ℕ). Gathered all rows bytes (replies_at form file start n (count - 0 + later))) (sym p) (subst (λ (n : ℕ). Gathered all rows bytes (replies_at form file start place (n + later))) (sym c) h);
    }

-- one more row was gathered, or not
pub found_one : (all left : List RowCells) (row : RowCells) (rows next : ℕ) (bytes new : List ℕ) → Gathered all rows bytes (row ∷ left)
    → next ≡ rows + 1 → new ≡ bytes ++ row_bytes row → Gathered all next new left
found_one all left row rows next bytes new h n b = record {
  found = h.found ++ row ∷ [];
  joined = h.joined ∙ sym (append_assoc h.found (row ∷ []) left);
  counted = omega (arith, length-append h.found (row ∷ []), h.counted, n);
  spelled = b ∙ (ap (λ (xs : List ℕ). xs ++ row_bytes row) h.spelled
      ∙ (ap (λ (xs : List ℕ). flat_map row_bytes h.found ++ xs) (sym (append-nil (row_bytes row))) ∙ sym (flat_map-append row_bytes h.found (row ∷ []))));
}

next_rows : (form : Form) (file : List ℕ) (start place count : ℕ) (here : Bool) → is_met form (row_at form file start place) ≡ here
    → replies_at form file start place (suc count)
    ≡ (if here then replied form (place + 1) (row_at form file start place) ∷ replies_at form file start (place + 1) count else replies_at form file start (place + 1) count)
unfolding replies_at
next_rows form file start place count here e =
    ap (λ (b : Bool). if b then replied form (place + 1) (row_at form file start place) ∷ replies_at form file start (place + 1) count else replies_at form file start (place + 1) count) e

same_row : (form : Form) (file : List ℕ) (start place count : ℕ) (here : Bool) (row : List ℕ) → row ≡ row_at form file start place → is_met form row ≡ here
    → replies_at form file start place (suc count)
    ≡ (if here then replied form (place + 1) row ∷ replies_at form file start (place + 1) count else replies_at form file start (place + 1) count)
same_row form file start place count here row r e =
    next_rows form file start place count here (ap (λ (xs : List ℕ). is_met form xs) (sym r) ∙ e)
    ∙ ap (λ (xs : List ℕ). if here then replied form (place + 1) xs ∷ replies_at form file start (place + 1) count else replies_at form file start (place + 1) count) (sym r)

one_row : (form : Form) (file : List ℕ) (start place count : ℕ) (all : List RowCells) (row : List ℕ) (now next : ℕ) (bytes new : List ℕ) (here : Bool)
    → row ≡ row_at form file start place → is_met form row ≡ here
    → Gathered all now bytes (replies_at form file start place (suc count))
    → (here ≡ true → (next ≡ now + 1) × (new ≡ bytes ++ row_bytes (replied form (place + 1) row))) → (here ≡ false → (next ≡ now) × (new ≡ bytes))
    → Gathered all next new (replies_at form file start (place + 1) count)
one_row form file start place count all row now next bytes new true r e h found gone =
    let f = found refl in
    found_one all (replies_at form file start (place + 1) count) (replied form (place + 1) row) now next bytes new
    (subst (λ (xs : List RowCells). Gathered all now bytes xs) (same_row form file start place count true row r e) h) f.0 f.1
one_row form file start place count all row now next bytes new false r e h found gone =
    let g = gone refl in
    let kept : Gathered all now bytes (replies_at form file start (place + 1) count) =
    subst (λ (xs : List RowCells). Gathered all now bytes xs) (same_row form file start place count false row r e) h in
    subst (λ (n : ℕ). Gathered all n new (replies_at form file start (place + 1) count)) (sym g.0)
    (subst (λ (xs : List ℕ). Gathered all now xs (replies_at form file start (place + 1) count)) (sym g.1) kept)

pub passed_one : (form : Form) (place count : ℕ) (piece : List ℕ) (rows : ℕ) (bytes : List ℕ) (passed : ℕ) (rest row later : List ℕ) (now next : ℕ) (bytes_now new : List ℕ)
    → Passed form place count piece rows bytes passed rest now bytes_now → passed < count → row ≡ take form.width rest → later ≡ drop form.width rest
    → (is_met form row ≡ true → (next ≡ now + 1) × (new ≡ bytes_now ++ row_bytes (replied form (place + passed + 1) row)))
    → (is_met form row ≡ false → (next ≡ now) × (new ≡ bytes_now))
    → Passed form place count piece rows bytes (passed + 1) later next new
passed_one form place count piece rows bytes passed rest row later now next bytes_now new so_far more r l found gone file start after all e h =
    let before = so_far file start after all e h in
    let left : ℕ = count - (passed + 1) in
    let one : count - passed ≡ suc left = omega (arith, more) in
    let wide : (count - passed) * form.width ≡ form.width + left * form.width = ap (λ (n : ℕ). n * form.width) one ∙ (let m : suc left * form.width ≡ form.width + left * form.width = omega arith in m) in
    let ahead : rest ≡ window file (start + (place + passed) * form.width) (form.width + left * form.width) =
    before.ahead ∙ ap (window file (start + (place + passed) * form.width)) wide in
    let here : row ≡ row_at form file start (place + passed) = r ∙ (ap (take form.width) ahead ∙ window_front file (start + (place + passed) * form.width) form.width (left * form.width)) in
    let further : start + (place + passed) * form.width + form.width ≡ start + (place + (passed + 1)) * form.width = omega arith in
    let behind : later ≡ window file (start + (place + (passed + 1)) * form.width) (left * form.width) =
    l ∙ (ap (drop form.width) ahead ∙ (window_back file (start + (place + passed) * form.width) form.width (left * form.width) ∙ ap (λ (n : ℕ). window file n (left * form.width)) further)) in
    let number : count - passed + after ≡ suc (left + after) = omega (arith, one) in
    let place_on : place + passed + 1 ≡ place + (passed + 1) = omega arith in
    let gathered : Gathered all now bytes_now (replies_at form file start (place + passed) (suc (left + after))) =
    subst (λ (n : ℕ). Gathered all now bytes_now (replies_at form file start (place + passed) n)) number before.gathered in
    let step = one_row form file start (place + passed) (left + after) all row now next bytes_now new (is_met form row) here refl gathered found gone in
    record { ahead = behind; gathered = subst (λ (n : ℕ). Gathered all next new (replies_at form file start n (left + after))) place_on step }
