-- What is told of a sink, through the writes of one piece: each takes the next bytes of it.
use Rattle.std.proofs.Common.{◌≡◌, ℕ, ◌+◌, ◌-◌, ◌≤◌, List, ◌++◌, length, take, drop, Option, None, Some, refl, sym, ◌∙◌, ap, append_assoc, append-nil, [], Result, Ok, Err, OnErr}
use Rattle.std.proofs.lemmas.List.{take_rest, take-append-drop}
use Rattle.std.proofs.Math.Seq.{take-add}
use Rattle.edge_traits.specs.Written.{grown, GrowsByFront}

-- so far `at` bytes of the piece were handed over, and nothing failed
pub record Handed (piece : List ℕ) (at faults_before faults_now : ℕ) (before now : Option (List ℕ)) : Type 0 where
  pub within : at ≤ length piece
  pub count : faults_now ≡ faults_before
  pub taken : now ≡ grown before (take at piece)

-- two pieces, one after the other, are one
pub grown-grown : (told : Option (List ℕ)) (a b : List ℕ) → grown (grown told a) b ≡ grown told (a ++ b)
grown-grown None a b = refl
grown-grown (Some bytes) a b = ap Some (append_assoc bytes a b)

-- a write that took `count` bytes of what was left of the piece at `at`
pub grown_on : (start now later : Option (List ℕ)) (piece : List ℕ) (at count : ℕ) → now ≡ grown start (take at piece) → later ≡ grown now (take count (take (length piece - at) (drop at piece))) → later ≡ grown start (take (at + count) piece)
grown_on start now later piece at count so_far step =
    step
    ∙ ap (λ told. grown told (take count (take (length piece - at) (drop at piece)))) so_far
    ∙ grown-grown start (take at piece) (take count (take (length piece - at) (drop at piece)))
    ∙ ap (λ rest. grown start (take at piece ++ take count rest)) (take_rest piece at)
    ∙ ap (grown start) (sym (take-add at count piece))

-- a failed write there
pub front_on : (start now later : Option (List ℕ)) (piece : List ℕ) (at : ℕ) → now ≡ grown start (take at piece) → GrowsByFront now (take (length piece - at) (drop at piece)) later → GrowsByFront start piece later
front_on start now later piece at so_far step = record {
  front = take at piece ++ step.front;
  begins = record {
    rest = step.begins.rest;
    joined = sym (take-append-drop at piece)
        ∙ ap (λ left. take at piece ++ left) (sym (take_rest piece at) ∙ step.begins.joined)
        ∙ sym (append_assoc (take at piece) step.front step.begins.rest);
  };
  grew = step.grew ∙ ap (λ told. grown told step.front) so_far ∙ grown-grown start (take at piece) step.front;
}

-- a sink that took nothing has grown by an empty front
pub nothing_taken : (bytes piece : List ℕ) → GrowsByFront (Some bytes) piece (Some bytes)
nothing_taken bytes piece = record {
  front = [];
  begins = record { rest = piece; joined = refl };
  grew = ap Some (sym (append-nil bytes));
}

-- whatever a call answers that took nothing
pub took_nothing : {T E : Type 0} (result : Result T E) (bytes piece : List ℕ) → OnErr result (GrowsByFront (Some bytes) piece (Some bytes))
took_nothing (Ok value) bytes piece = tt
took_nothing (Err error) bytes piece = nothing_taken bytes piece
