-- What moves do to a count of failed calls, one after another.
use Rattle.std.proofs.Common.{◌≡◌, ◌≤◌, ◌+◌, ℕ, arith, Bool, true, false, ◌||◌, List, [], ◌∷◌, ◌++◌, map, refl, sym, ◌∙◌, ap}
use Rattle.std.specs.Prelude.{min}
use Rattle.std.specs.List.{list_any}
use Rattle.std.proofs.lemmas.List.{map-append}
use Rattle.std.proofs.lemmas.List.Folds.{list_any-append}
use Rattle.ghost_model.specs.core.Causes.{Rose, last_count}
use Rattle.ghost_model.specs.core.Channel.{Entry, Journal}
use Rattle.ghost_model.specs.core.Moves.{answers}
use Rattle.ghost_model.specs.laws.ShortWords.{answer_of}
use Rattle.edge_traits.specs.Counting.{is_failure, has_failed, FaultsTell, WentCounting}

or_false : (b : Bool) → (b || false) ≡ b
or_false true = refl
or_false false = refl

never : (b : Bool) (P : Type 0) → b ≡ false → b ≡ true → P
never true P no_ yes_ = cc
never false P no_ yes_ = cc

failed_joins : (one other : Journal) → has_failed (one ++ other) ≡ (has_failed one || has_failed other)
failed_joins one other = ap (list_any is_failure) (map-append answer_of one other) ∙ list_any-append is_failure (answers one) (answers other)

-- moves of which none failed, and moves of which one did
pub tell_same : (before now : ℕ) (journal : Journal) → has_failed journal ≡ false → now ≡ before → FaultsTell before now journal
tell_same before now journal calm same = record { never_falls = omega (arith, same); rose = λ e. never (has_failed journal) _ calm e; same = λ _. same }

pub tell_rose : (before now : ℕ) (journal : Journal) → has_failed journal ≡ true → before ≤ now → Rose before now → FaultsTell before now journal
tell_rose before now journal failed up rose = record { never_falls = up; rose = λ _. rose; same = λ e. never (has_failed journal) _ e failed }

-- one move
pub made_well : (went : Journal → Type 0) (before now : ℕ) (made : Entry) → went (made ∷ []) → is_failure made.answer ≡ false → now ≡ before → WentCounting went before now (made ∷ [])
made_well went before now made gone calm same = record { gone = gone; counts = tell_same before now (made ∷ []) (or_false (is_failure made.answer) ∙ calm) same }

pub made_in_vain : (went : Journal → Type 0) (before now : ℕ) (made : Entry) → went (made ∷ []) → is_failure made.answer ≡ true → before ≤ now → Rose before now
    → WentCounting went before now (made ∷ [])
made_in_vain went before now made gone failed up rose = record { gone = gone; counts = tell_rose before now (made ∷ []) (or_false (is_failure made.answer) ∙ failed) up rose }

rose_later : (most before between now : ℕ) → min (before + 1) most ≤ between → between ≤ now → min (before + 1) most ≤ now
rose_later most before between now rose up = omega (arith, rose, up)

rose_before : (most before between now : ℕ) → before ≤ between → min (between + 1) most ≤ now → min (before + 1) most ≤ now
rose_before most before between now up rose = omega (arith, rose, up)

either : (first second : Bool) → (first || second) ≡ true → (P : Type 0) → (first ≡ true → P) → (second ≡ true → P) → P
either true second e P by_first by_second = by_first refl
either false second e P by_first by_second = by_second e

neither : (first second : Bool) → (first || second) ≡ false → (first ≡ false) × (second ≡ false)
neither true second e = cc
neither false second e = (refl, e)

-- some moves and then others
pub tell_more : (before between now : ℕ) (one other : Journal) → FaultsTell before between one → FaultsTell between now other → FaultsTell before now (one ++ other)
tell_more before between now one other first second = record {
  never_falls = (let a : before ≤ between = first.never_falls in let b : between ≤ now = second.never_falls in omega (arith, a, b));
  rose = λ e.
      either (has_failed one) (has_failed other) (sym (failed_joins one other) ∙ e) (Rose before now)
      (λ f. rose_later last_count before between now (first.rose f) second.never_falls)
      (λ f. rose_before last_count before between now first.never_falls (second.rose f));
  same = λ e. (let none = neither (has_failed one) (has_failed other) (sym (failed_joins one other) ∙ e) in second.same none.1 ∙ first.same none.0);
}

pub counting_more : (first second both : Journal → Type 0) (before between now : ℕ) → ((one other : Journal) → first one → second other → both (one ++ other))
    → (one other : Journal) → WentCounting first before between one → WentCounting second between now other → WentCounting both before now (one ++ other)
counting_more first second both before between now joins one other went goes = record {
  gone = joins one other went.gone goes.gone;
  counts = tell_more before between now one other went.counts goes.counts;
}

pub counting_none : (went : Journal → Type 0) (count : ℕ) → went [] → WentCounting went count count []
counting_none went count gone = record { gone = gone; counts = tell_same count count [] refl refl }
