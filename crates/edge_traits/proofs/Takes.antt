-- A buffer on its way to be filled from a link.
use Rattle.std.proofs.Common.{◌≡◌, ℕ, zero, suc, ◌+◌, ◌-◌, ◌<◌, ◌≤◌, Bool, true, false, ◌||◌, List, [], ◌∷◌, ◌++◌, length, take, drop, Result, Ok, Err, refl, sym, ◌∙◌, ap, subst, arith, append-nil, IsErr}
use Rattle.std.specs.List.{list_any}
use Rattle.std.proofs.lemmas.Grind.{common_steps, flat_map-append}
use Rattle.std.proofs.Math.Seq.{take-add}
use Rattle.std.proofs.lemmas.Bool.{lt-ltb, le-ltb}
use Rattle.ghost_model.specs.core.Channel.{Move, Answer, Made, Port, Piece, End, Failed, Entry, Journal}
use Rattle.ghost_model.specs.core.Channel as channel
use Rattle.ghost_model.specs.core.Moves.{piece_of, answers, taken}
use Rattle.ghost_model.specs.core.NextMove.{is_stop}
use Rattle.edge_traits.specs.Links.{entry, gave}
use Rattle.edge_traits.specs.Counting.{is_failure, has_failed}
use Rattle.edge_traits.specs.Filling.{AreTakes, Fills}

-- so far `have` bytes came, and neither the end nor a failure
pub record FillsSoFar (Went : Journal → Type 0) (most have faults_before faults_now : ℕ) (buffer : List ℕ) : Type 0 where
  pub within : have ≤ most
  pub size : length buffer ≡ most
  pub count : faults_now ≡ faults_before
  pub journal : Journal
  pub went : Went journal
  pub takes : AreTakes most journal
  pub front : take have buffer ≡ taken journal
  pub going : list_any is_stop (answers journal) ≡ false

no_stop : (made : Entry) (more : Journal) → list_any is_stop (answers (made ∷ more)) ≡ false → (is_stop made.answer ≡ false) × (list_any is_stop (answers more) ≡ false)
no_stop made more going =
    elim (is_stop made.answer) as (λ b. (b || list_any is_stop (answers more)) ≡ false → (b ≡ false) × (list_any is_stop (answers more) ≡ false)) [
      | true ↦ λ h. cc
      | false ↦ λ h. (refl, h)
    ] going

never : (b : Bool) (P : Type 0) → b ≡ false → b ≡ true → P
never true P no_ yes_ = cc
never false P no_ yes_ = cc

or_false : (b : Bool) → (b || false) ≡ b
or_false true = refl
or_false false = refl

takes_push : (most : ℕ) (journal : Journal) (answer : Answer) → AreTakes most journal → list_any is_stop (answers journal) ≡ false → AreTakes most (journal ++ entry (channel.Take (most - length (taken journal))) answer ∷ [])
takes_push most [] answer takes going = (record { asks = ap channel.Take (omega arith); stops = λ _. refl }, tt)
takes_push most (made ∷ more) answer takes going =
    let parts = no_stop made more going in
    let same : most - length (piece_of made.answer) - length (taken more) ≡ most - length (piece_of made.answer ++ taken more) = grind (arith, common_steps) in (
      record { asks = takes.0.asks; stops = λ is. never (is_stop made.answer) _ parts.0 is },
      subst (λ n. AreTakes (most - length (piece_of made.answer)) (more ++ entry (channel.Take n) answer ∷ [])) same (takes_push (most - length (piece_of made.answer)) more answer takes.1 parts.1),
    )

taken_push : (journal : Journal) (made : Entry) → taken (journal ++ made ∷ []) ≡ taken journal ++ piece_of made.answer
taken_push journal made = flat_map-append (λ e. piece_of e.answer) journal (made ∷ []) ∙ ap (λ p. taken journal ++ p) (append-nil (piece_of made.answer))

stop_push : (journal : Journal) (made : Entry) → list_any is_stop (answers journal) ≡ false → list_any is_stop (answers (journal ++ made ∷ [])) ≡ is_stop made.answer
stop_push [] made going = or_false (is_stop made.answer)
stop_push (first ∷ more) made going =
    let parts = no_stop first more going in
    ap (λ b. b || list_any is_stop (answers (more ++ made ∷ []))) parts.0 ∙ stop_push more made parts.1

-- where nothing stopped nothing failed
no_failure : (answer : Answer) → is_stop answer ≡ false → is_failure answer ≡ false
no_failure Made going = refl
no_failure (Port port) going = refl
no_failure (Piece bytes) going = refl
no_failure End going = cc
no_failure Failed going = cc

none_failed : (journal : Journal) → list_any is_stop (answers journal) ≡ false → has_failed journal ≡ false
none_failed [] going = refl
none_failed (first ∷ more) going =
    let parts = no_stop first more going in
    ap (λ b. b || has_failed more) (no_failure first.answer parts.0) ∙ none_failed more parts.1

fail_push : (journal : Journal) (made : Entry) → list_any is_stop (answers journal) ≡ false → has_failed (journal ++ made ∷ []) ≡ is_failure made.answer
fail_push [] made going = or_false (is_failure made.answer)
fail_push (first ∷ more) made going =
    let parts = no_stop first more going in
    ap (λ b. b || has_failed (more ++ made ∷ [])) (no_failure first.answer parts.0) ∙ fail_push more made parts.1

sized : (have most : ℕ) (buffer : List ℕ) (journal : Journal) → have ≤ most → length buffer ≡ most → take have buffer ≡ taken journal → length (taken journal) ≡ have
sized have most buffer journal within size front =
    let long : length (take have buffer) ≡ have = grind (arith, common_steps) in
    ap length (sym front) ∙ long

-- one take more, which gave something
pub filled_on : (E : Type 0) (Went Later : Journal → Type 0) (most have count first before now : ℕ) (old new : List ℕ) → FillsSoFar Went most have first before old → now ≡ before
    → ((journal : Journal) → Went journal → Later (journal ++ entry (channel.Take (most - have)) (gave {E = E} (Ok count) (drop have new)) ∷ []))
    → (count ≡ 0 → ⊥) → have + count ≤ most → length new ≡ most → take have new ≡ take have old → FillsSoFar Later most (have + count) first now new
filled_on E Went Later most have zero first before now old new so same joins some within size kept = absurd (some refl)
filled_on E Went Later most have (suc more) first before now old new so same joins some within size kept = record {
  within = within;
  size = size;
  count = same ∙ so.count;
  journal = so.journal ++ entry (channel.Take (most - have)) (Piece (take (suc more) (drop have new))) ∷ [];
  went = joins so.journal so.went;
  takes = subst (λ n. AreTakes most (so.journal ++ entry (channel.Take (most - n)) (Piece (take (suc more) (drop have new))) ∷ [])) (sized have most old so.journal so.within so.size so.front) (takes_push most so.journal (Piece (take (suc more) (drop have new))) so.takes so.going);
  front = take-add have (suc more) new
      ∙ ap (λ f. f ++ take (suc more) (drop have new)) (kept ∙ so.front)
      ∙ sym (taken_push so.journal (entry (channel.Take (most - have)) (Piece (take (suc more) (drop have new)))));
  going = stop_push so.journal (entry (channel.Take (most - have)) (Piece (take (suc more) (drop have new)))) so.going;
}

-- the buffer is full
pub full : (E : Type 0) (Went : Journal → Type 0) (most have first before : ℕ) (buffer : List ℕ) → FillsSoFar Went most have first before buffer → most ≤ have → Fills {E = E} Went most (Ok have) buffer
full E Went most have first before buffer so whole =
    let size : length (taken so.journal) ≡ have = sized have most buffer so.journal so.within so.size so.front in
    record {
      journal = so.journal;
      went = so.went;
      takes = so.takes;
      front = ap (λ n. take n buffer) size ∙ so.front;
      counted = sym size;
      ended = so.going ∙ sym (le-ltb have most whole);
      failed = tt;
      calm = none_failed so.journal so.going;
      broken = tt;
    }

-- one take more, which gave nothing
record Stops (Later : Journal → Type 0) (most have : ℕ) (answer : Answer) (buffer : List ℕ) : Type 0 where
  pub journal : Journal
  pub went : Later journal
  pub takes : AreTakes most journal
  pub front : take (length (taken journal)) buffer ≡ taken journal
  pub size : length (taken journal) ≡ have
  pub stops : list_any is_stop (answers journal) ≡ is_stop answer
  pub fails : has_failed journal ≡ is_failure answer

stops_by : (Went Later : Journal → Type 0) (most have first before : ℕ) (answer : Answer) (old new : List ℕ) → FillsSoFar Went most have first before old
    → ((journal : Journal) → Went journal → Later (journal ++ entry (channel.Take (most - have)) answer ∷ []))
    → piece_of answer ≡ [] → take have new ≡ take have old → Stops Later most have answer new
stops_by Went Later most have first before answer old new so joins none kept =
    let size : length (taken so.journal) ≡ have = sized have most old so.journal so.within so.size so.front in
    let all : taken (so.journal ++ entry (channel.Take (most - have)) answer ∷ []) ≡ taken so.journal =
    taken_push so.journal (entry (channel.Take (most - have)) answer) ∙ ap (λ p. taken so.journal ++ p) none ∙ append-nil (taken so.journal) in
    record {
      journal = so.journal ++ entry (channel.Take (most - have)) answer ∷ [];
      went = joins so.journal so.went;
      takes = subst (λ n. AreTakes most (so.journal ++ entry (channel.Take (most - n)) answer ∷ [])) size (takes_push most so.journal answer so.takes so.going);
      front = ap (λ t. take (length t) new) all ∙ ap (λ n. take n new) size ∙ kept ∙ so.front ∙ sym all;
      size = ap length all ∙ size;
      stops = stop_push so.journal (entry (channel.Take (most - have)) answer) so.going;
      fails = fail_push so.journal (entry (channel.Take (most - have)) answer) so.going;
    }

-- the stream ended
pub ended : (E : Type 0) (Went Later : Journal → Type 0) (most have first before : ℕ) (old new : List ℕ) → FillsSoFar Went most have first before old
    → ((journal : Journal) → Went journal → Later (journal ++ entry (channel.Take (most - have)) End ∷ []))
    → have < most → take have new ≡ take have old → Fills {E = E} Later most (Ok have) new
ended E Went Later most have first before old new so joins more kept =
    let end = stops_by Went Later most have first before End old new so joins refl kept in
    record {
      journal = end.journal;
      went = end.went;
      takes = end.takes;
      front = end.front;
      counted = sym end.size;
      ended = end.stops ∙ sym (lt-ltb have most more);
      failed = tt;
      calm = end.fails;
      broken = tt;
    }

-- a take failed
pub failed : (E : Type 0) (Went Later : Journal → Type 0) (most have first before : ℕ) (old new : List ℕ) (result : Result ℕ E) → IsErr result → FillsSoFar Went most have first before old
    → ((journal : Journal) → Went journal → Later (journal ++ entry (channel.Take (most - have)) Failed ∷ []))
    → take have new ≡ take have old → Fills {E = E} Later most result new
failed E Went Later most have first before old new (Ok count) is so joins kept = cc
failed E Went Later most have first before old new (Err error) is so joins kept =
    let end = stops_by Went Later most have first before Failed old new so joins refl kept in
    record {
      journal = end.journal;
      went = end.went;
      takes = end.takes;
      front = end.front;
      counted = tt;
      ended = tt;
      failed = end.stops;
      calm = tt;
      broken = end.fails;
    }
