-- What the moves of a session do to a link's count of failed calls, and how long they are.
use Rattle.std.proofs.Common.{◌≡◌, ◌≤◌, ◌+◌, ℕ, zero, suc, arith, Bool, true, false, ◌&&◌, ◌||◌, length, take, drop, List, [], ◌∷◌, ◌++◌, refl, sym, ◌∙◌, ap, le-leb}
use Rattle.std.specs.Prelude.{min}
use Rattle.std.specs.List.{list_any, list_all}
use Rattle.std.proofs.lemmas.List.{length-take}
use Rattle.std.proofs.lemmas.List.Folds.{list_any-append, list_all-append}
use Rattle.ghost_model.specs.core.Causes.{Rose, last_count}
use Rattle.ghost_model.specs.core.Channel.{Take, Piece, End, Entry, Journal}
use Rattle.ghost_model.specs.core.Moves.{piece_of}
use Rattle.edge_traits.specs.Links.{entry}
use Rattle.channel_pump.specs.Entries.{bytes_of, is_short_entry, is_failure, has_failed, FaultsTell, WentBy, MovesJoin}
use Rattle.channel_pump.specs.Sessions.{piece_at}

or_false : (b : Bool) → b ≡ false → (b || false) ≡ true → ⊥
or_false true e f = cc
or_false false e f = cc

or_true : (b : Bool) → b ≡ true → (b || false) ≡ false → ⊥
or_true true e f = cc
or_true false e f = cc

is_short : (made : Entry) → length (bytes_of made.move) + length (piece_of made.answer) ≤ 2048 → list_all is_short_entry (made ∷ []) ≡ true
is_short made less = ap (λ (b : Bool). b && true) (le-leb (length (bytes_of made.move) + length (piece_of made.answer)) 2048 less)

-- a move that went well
pub went_well : (went : Journal → Type 0) (before now : ℕ) (made : Entry) → went (made ∷ []) → is_failure made.answer ≡ false → now ≡ before
    → length (bytes_of made.move) + length (piece_of made.answer) ≤ 2048 → WentBy went before now (made ∷ [])
went_well went before now made gone calm same less = record {
  gone = gone;
  counts = record {
    never_falls = omega (arith, same);
    rose = λ e. absurd (or_false (is_failure made.answer) calm e);
    same = λ _. same;
  };
  short = is_short made less;
}

-- a move that failed
pub went_wrong : (went : Journal → Type 0) (before now : ℕ) (made : Entry) → went (made ∷ []) → is_failure made.answer ≡ true → before ≤ now → Rose before now
    → length (bytes_of made.move) + length (piece_of made.answer) ≤ 2048 → WentBy went before now (made ∷ [])
went_wrong went before now made gone failed never_falls rose less = record {
  gone = gone;
  counts = record {
    never_falls = never_falls;
    rose = λ _. rose;
    same = λ e. absurd (or_true (is_failure made.answer) failed e);
  };
  short = is_short made less;
}

taken_less : (count : ℕ) (bytes : List ℕ) → length (take count bytes) ≤ count
taken_less count bytes = let e : length (take count bytes) ≡ min count (length bytes) = length-take count bytes in omega (arith, e)

pub front_short : (count : ℕ) (bytes page : List ℕ) → bytes ≡ take count page → count ≤ 2048 → length bytes + 0 ≤ 2048
front_short count bytes page is fits =
    let less = taken_less count page in
    let same : length bytes ≡ length (take count page) = ap length is in
    omega (arith, less, same, fits)

-- a take that went well
pub took : (went : Journal → Type 0) (before now at most count : ℕ) (page : List ℕ) → went (entry (Take most) (piece_at at count page) ∷ []) → now ≡ before → count ≤ most → at + most ≤ 2048
    → WentBy went before now (entry (Take most) (piece_at at count page) ∷ [])
took went before now at most zero page gone same within fits = went_well went before now (entry (Take most) End) gone refl same (omega arith)
took went before now at most (suc more) page gone same within fits =
    went_well went before now (entry (Take most) (Piece (take (suc more) (drop at page)))) gone refl same
    (let less = taken_less (suc more) (drop at page) in omega (arith, less, within, fits))

-- moves after others
rose_later : (most before between now : ℕ) → min (before + 1) most ≤ between → between ≤ now → min (before + 1) most ≤ now
rose_later most before between now rose up = omega (arith, rose, up)

rose_before : (most before between now : ℕ) → before ≤ between → min (between + 1) most ≤ now → min (before + 1) most ≤ now
rose_before most before between now up rose = omega (arith, rose, up)

either : (first second : Bool) → (first || second) ≡ true → (P : Type 0) → (first ≡ true → P) → (second ≡ true → P) → P
either true second e P by_first by_second = by_first refl
either false second e P by_first by_second = by_second e

neither : (first second : Bool) → (first || second) ≡ false → (first ≡ false) × (second ≡ false)
neither true second e = cc
neither false second e = (refl, e)

tell_more : (before between now : ℕ) (old made : Journal) → FaultsTell before between old → FaultsTell between now made → FaultsTell before now (old ++ made)
tell_more before between now old made first second = record {
  never_falls = (let a : before ≤ between = first.never_falls in let b : between ≤ now = second.never_falls in omega (arith, a, b));
  rose = λ e.
      either (list_any has_failed old) (list_any has_failed made) (sym (list_any-append has_failed old made) ∙ e) (Rose before now)
      (λ f. rose_later last_count before between now (first.rose f) second.never_falls)
      (λ f. rose_before last_count before between now first.never_falls (second.rose f));
  same = λ e.
      let none = neither (list_any has_failed old) (list_any has_failed made) (sym (list_any-append has_failed old made) ∙ e) in
      second.same none.1 ∙ first.same none.0;
}

both_short : (old made : Journal) → list_all is_short_entry old ≡ true → list_all is_short_entry made ≡ true → list_all is_short_entry (old ++ made) ≡ true
both_short old made first second = list_all-append is_short_entry old made ∙ (ap (λ (b : Bool). b && list_all is_short_entry made) first ∙ second)

pub joined : MovesJoin
joined = record {
  none = λ count. record { never_falls = omega arith; rose = λ e. cc; same = λ _. refl };
  two = tell_more;
  short = both_short;
}
