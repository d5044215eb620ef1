-- What a text leaves in a window, by its length and its bytes.
use Rattle.std.proofs.Common.{◌≡◌, ℕ, zero, suc, ◌+◌, ◌-◌, ◌<◌, ◌≤◌, min, ltb, List, [], ◌∷◌, ◌++◌, length, take, drop, set, refl, sym, ap, ◌∙◌, subst, append-nil, append_assoc, inl, inr, if◌then◌else◌, arith}
use Rattle.std.proofs.lemmas.Bool.{cases_lt, lt-ltb, le-ltb}
use Rattle.std.proofs.lemmas.List.{length-set, drop-set-lt}
use Rattle.std.proofs.lemmas.Grind.{take-set_at}
use Rattle.tree_schema.specs.Windows.{Pane, with_byte, with_text}
use Rattle.tree_schema.proofs.WindowLemmas.{with_no_text}

-- so much is skipped, so many bytes are written, and these; those behind them are kept
pub record Fills (before : Pane) (text : List ℕ) (after : Pane) : Type 0 where
  pub skip : after.skip ≡ before.skip - length text
  pub length_kept : length after.out ≡ length before.out
  pub filled : after.filled ≡ before.filled + min (length before.out - before.filled) (length text - before.skip)
  pub written : take after.filled after.out ≡ take before.filled before.out ++ take (after.filled - before.filled) (drop before.skip text)
  pub kept : drop after.filled after.out ≡ drop after.filled before.out

abbrev pane_of : (skip filled : ℕ) → List ℕ → Pane
pane_of skip filled out = record { skip = skip; filled = filled; out = out }

take_none : (n : ℕ) (xs : List ℕ) → n ≡ 0 → take n xs ≡ []
take_none n xs e = ap (λ m. take m xs) e

fills_none : (before : Pane) → before.filled ≤ length before.out → Fills before [] before
fills_none before h = record {
  skip = omega arith;
  length_kept = refl;
  filled = omega arith;
  written = sym (ap (λ ys. take before.filled before.out ++ ys) (take_none (before.filled - before.filled) (drop before.skip []) (omega arith)) ∙ append-nil _);
  kept = refl;
}

-- a byte before the window, one in it, and one behind it
skipped : (skip filled : ℕ) (out : List ℕ) (byte : ℕ) (bytes : List ℕ) (after : Pane)
    → Fills (pane_of skip filled out) bytes after → Fills (pane_of (suc skip) filled out) (byte ∷ bytes) after
skipped skip filled out byte bytes after h = record {
  skip = h.skip ∙ omega arith;
  length_kept = h.length_kept;
  filled = h.filled ∙ omega arith;
  written = h.written;
  kept = h.kept;
}

shown : (filled : ℕ) (out : List ℕ) (byte : ℕ) (bytes : List ℕ) (after : Pane) → filled < length out
    → Fills (pane_of 0 (filled + 1) (set out filled byte)) bytes after → Fills (pane_of 0 filled out) (byte ∷ bytes) after
shown filled out byte bytes after room h =
    let same : length (set out filled byte) ≡ length out = length-set out filled byte in
    let more : after.filled - filled ≡ suc (after.filled - (filled + 1)) = omega (arith, h.filled) in
    record {
      skip = h.skip ∙ omega arith;
      length_kept = h.length_kept ∙ same;
      filled = omega (arith, h.filled, same);
      written = h.written
          ∙ (ap (λ xs. xs ++ take (after.filled - (filled + 1)) bytes) (take-set_at out filled (filled + 1) byte refl room)
          ∙ (append_assoc (take filled out) (byte ∷ []) (take (after.filled - (filled + 1)) bytes)
          ∙ ap (λ n. take filled out ++ take n (byte ∷ bytes)) (sym more)));
      kept = h.kept ∙ drop-set-lt after.filled out filled byte (omega (arith, h.filled));
    }

behind : (filled : ℕ) (out : List ℕ) (byte : ℕ) (bytes : List ℕ) (after : Pane) → length out ≤ filled
    → Fills (pane_of 0 filled out) bytes after → Fills (pane_of 0 filled out) (byte ∷ bytes) after
behind filled out byte bytes after full h =
    let none : after.filled - filled ≡ 0 = omega (arith, h.filled) in
    record {
      skip = h.skip ∙ omega arith;
      length_kept = h.length_kept;
      filled = omega (arith, h.filled);
      written = h.written ∙ ap (λ ys. take filled out ++ ys) (take_none (after.filled - filled) bytes none ∙ sym (take_none (after.filled - filled) (byte ∷ bytes) none));
      kept = h.kept;
    }

with_first : (before : Pane) (byte : ℕ) (bytes : List ℕ) → with_text before (byte ∷ bytes) ≡ with_text (with_byte before byte) bytes
unfolding with_text
with_first before byte bytes = refl

before_it : (skip filled : ℕ) (out : List ℕ) (byte : ℕ) → with_byte (pane_of (suc skip) filled out) byte ≡ pane_of skip filled out
before_it skip filled out byte =
    ap (λ test. if test then pane_of (suc skip - 1) filled out
    else if ltb filled (length out) then pane_of (suc skip) (filled + 1) (set out filled byte) else pane_of (suc skip) filled out)
    (lt-ltb 0 (suc skip) (omega arith))
    ∙ ap (λ n. pane_of n filled out) (omega arith)

in_it : (filled : ℕ) (out : List ℕ) (byte : ℕ) → filled < length out
    → with_byte (pane_of 0 filled out) byte ≡ pane_of 0 (filled + 1) (set out filled byte)
in_it filled out byte h =
    ap (λ test. if test then pane_of 0 (filled + 1) (set out filled byte) else pane_of 0 filled out) (lt-ltb filled (length out) h)

behind_it : (filled : ℕ) (out : List ℕ) (byte : ℕ) → length out ≤ filled → with_byte (pane_of 0 filled out) byte ≡ pane_of 0 filled out
behind_it filled out byte h =
    ap (λ test. if test then pane_of 0 (filled + 1) (set out filled byte) else pane_of 0 filled out) (le-ltb filled (length out) h)

pub fills : (text : List ℕ) (skip filled : ℕ) (out : List ℕ) → filled ≤ length out
    → Fills (pane_of skip filled out) text (with_text (pane_of skip filled out) text)
fills [] skip filled out h = subst (Fills (pane_of skip filled out) []) (sym (with_no_text (pane_of skip filled out))) (fills_none (pane_of skip filled out) h)
fills (byte ∷ bytes) (suc skip) filled out h =
    subst (Fills (pane_of (suc skip) filled out) (byte ∷ bytes))
    (sym (with_first (pane_of (suc skip) filled out) byte bytes ∙ ap (λ w. with_text w bytes) (before_it skip filled out byte)))
    (skipped skip filled out byte bytes _ (fills bytes skip filled out h))
fills (byte ∷ bytes) zero filled out h =
    elim (cases_lt filled (length out)) [
      | inl room ↦
          subst (Fills (pane_of 0 filled out) (byte ∷ bytes))
          (sym (with_first (pane_of 0 filled out) byte bytes ∙ ap (λ w. with_text w bytes) (in_it filled out byte room)))
          (shown filled out byte bytes _ room (fills bytes 0 (filled + 1) (set out filled byte) (omega (arith, length-set out filled byte))))
      | inr full ↦
          subst (Fills (pane_of 0 filled out) (byte ∷ bytes))
          (sym (with_first (pane_of 0 filled out) byte bytes ∙ ap (λ w. with_text w bytes) (behind_it filled out byte full)))
          (behind filled out byte bytes _ full (fills bytes 0 filled out h))
    ]

-- what a whole text leaves in a window that nothing was written through
pub record IsPart (text : List ℕ) (at : ℕ) (out : List ℕ) (after : Pane) : Type 0 where
  pub skip : after.skip ≡ at - length text
  pub count : after.filled ≡ min (length out) (length text - at)
  pub bytes : take after.filled after.out ≡ take after.filled (drop at text)
  pub rest : drop after.filled after.out ≡ drop after.filled out

pub is_part : (text : List ℕ) (at : ℕ) (out : List ℕ) (after : Pane) → after ≡ with_text (record { skip = at; filled = 0; out = out }) text
    → IsPart text at out after
is_part text at out after e =
    let h : Fills (pane_of at 0 out) text after = subst (Fills (pane_of at 0 out) text) (sym e) (fills text at 0 out (omega arith)) in
    record {
      skip = h.skip;
      count = omega (arith, h.filled);
      bytes = h.written ∙ ap (λ n. take n (drop at text)) (omega arith);
      rest = h.kept;
    }
