-- What is in each union, from one union to the next and from one round to the next.
use Rattle.std.proofs.Common.{◌≡◌, ◌≢◌, ◌∙◌, ℕ, zero, suc, ◌+◌, ◌<◌, ◌≤◌, ◌⊎◌, inl, inr, Bool, true, false, List, [], ◌∷◌, length, take, sum, ap, sym, refl, subst, get_or, None, Some, arith}
use Rattle.std.proofs.Common.{add_assoc}
use Rattle.std.proofs.lemmas.Bool.{cases_eq}
use Rattle.std.proofs.lemmas.List.Sums.{sum_by-cons, sum_by-take-le}
use Rattle.edge_traits.specs.Devices.{Device}
use Rattle.page_pool.specs.Pools.{Pool}
use Rattle.id_merge.specs.declared.cursor.Cursor.{Cursor}
use Rattle.id_merge.specs.declared.round.Sought.{Sought}
use Rattle.id_merge.specs.declared.round.Sought.TheVariants.{At}
use Rattle.id_merge.specs.declared.round.Round.{Round}
use Rattle.id_merge.specs.declared.round.Round.TheVariants.{Bound}
use Rattle.id_merge.specs.Cursors.{AreRight, Moves}
use Rattle.id_merge.specs.Merges.{MadeNone, InUnion, InAll, start_of}
use Rattle.id_merge.specs.Moving.{AllAdvance, Reaches, Keeps, IsLeastFrom, IsHead, IsSought, SoughtHead, SoughtFrom, SoughtTells, IsBoundOf, IsBound, IsRound, IsAbove, RoundIsAbove, RoundTells}
use Rattle.id_merge.proofs.Unions.{all_right, right_kept, union_fewer, union_same}

-- from `low` on nothing is lost where no identifier of all is below a bound, and from it on nothing was
pub keeps_of :
    (page right : ℕ → List ℕ) (low high : ℕ) (unions : List ℕ) (x z : List Cursor) → ((id : ℕ) → low ≤ id → InAll right x unions id → high ≤ id)
    → AllAdvance page right high x z → Keeps page right low unions x z
keeps_of page right low high unions x z bound advances = record {
  still = all_right x z advances;
  fewer = λ id is j within. union_fewer x z (start_of unions j) (start_of unions (j + 1)) id advances (is j within);
  same = λ id above is j within. union_same x z (start_of unions j) (start_of unions (j + 1)) id advances (bound id above is) (is j within);
}

pub keeps_trans :
    (page right : ℕ → List ℕ) (low high : ℕ) (unions : List ℕ) (x y z : List Cursor) → ((id : ℕ) → low ≤ id → InAll right x unions id → high ≤ id)
    → Keeps page right low unions x y → Keeps page right high unions y z → Keeps page right low unions x z
keeps_trans page right low high unions x y z bound first second = record {
  still = second.still;
  fewer = λ id is. first.fewer id (second.fewer id is);
  same = λ id above is. second.same id (bound id above is) (first.same id above is);
}

pub reaches_higher :
    {told : Bool} {low high : ℕ} {a b : Device} {p q : Pool} {x y : List Cursor} → low ≤ high → Reaches told low a b p q x y → Reaches told high a b p q x y
reaches_higher less reaches = record {
  moves = reaches.moves;
  ready = reaches.ready;
  hand = reaches.hand;
  advances = λ tells right was i.
      let one = reaches.advances tells right was i in
      record { still = one.still; fewer = one.fewer; same = λ id above ahead. one.same id (omega arith) ahead };
}

-- what was sought, by the bytes of the pages before an earlier call
pub sought_next :
    {told : Bool} {low : ℕ} {a b : Device} {p q : Pool} (high : ℕ) (x y z : List Cursor) (from to : ℕ) (sought : Sought) → Reaches told low a b p q x y
    → (told ≡ true → (right : ℕ → List ℕ) → AreRight b.page right y → IsSought high (InUnion right z from to) sought)
    → told ≡ true → (right : ℕ → List ℕ) → AreRight a.page right x → IsSought high (InUnion right z from to) sought
sought_next high x y z from to sought reaches gives tells right was =
    gives tells right (right_kept right y reaches.moves.kept.page (all_right x y (reaches.advances tells right was)))

-- one more union
pub bound_step :
    {page : ℕ → List ℕ} (right : ℕ → List ℕ) (low : ℕ) (unions : List ℕ) (j : ℕ) (x y z : List Cursor) (high id : ℕ) (all all' : Bool) → j < length unions
    → AllAdvance page right high y z → AllAdvance page right high x z → (all' ≡ true → (j ≡ 0) ⊎ ((all ≡ true) × (id ≡ high)))
    → IsLeastFrom high (InUnion right z (start_of unions j) (start_of unions (j + 1))) (Some id)
    → IsBoundOf right low unions j x y high all → IsBoundOf right low unions (j + 1) x z id all'
bound_step right low unions j x y z high id all all' within last whole agree least bound = record {
  least = λ other above is.
      least.2 other (bound.least other above is)
      (union_same x z (start_of unions j) (start_of unions (j + 1)) other whole (bound.least other above is) (is j within));
  in_each = λ agreed k below.
      elim (cases_eq k j) [
        | inl same ↦
            let P : ℕ → Type 0 = λ k. InUnion right z (start_of unions k) (start_of unions (k + 1)) id in
            subst P (sym same) least.1
        | inr apart ↦ elim (agree agreed) [
          | inl none ↦ absurd (omega arith)
          | inr both ↦
              let P : ℕ → Type 0 = λ other. InUnion right z (start_of unions k) (start_of unions (k + 1)) other in
              subst P (sym both.1)
              (union_same y z (start_of unions k) (start_of unions (k + 1)) high last (omega arith) (bound.in_each both.0 k (omega arith)))
        ]
      ];
}

pub none_in_all :
    {page : ℕ → List ℕ} (right : ℕ → List ℕ) (low : ℕ) (unions : List ℕ) (j : ℕ) (x y z : List Cursor) (high : ℕ) (all : Bool) → j < length unions
    → AllAdvance page right high x z → IsLeastFrom high (InUnion right z (start_of unions j) (start_of unions (j + 1))) None
    → IsBoundOf right low unions j x y high all → (id : ℕ) → low ≤ id → InAll right x unions id → ⊥
none_in_all right low unions j x y z high all within whole none bound id above is =
    none id (bound.least id above is)
    (union_same x z (start_of unions j) (start_of unions (j + 1)) id whole (bound.least id above is) (is j within))

pub start_next : (unions : List ℕ) (j : ℕ) → j < length unions → start_of unions j + get_or unions j 0 ≡ start_of unions (j + 1)
start_next [] j within = absurd (omega arith)
start_next (count ∷ unions) zero within = refl
start_next (count ∷ unions) (suc j) within =
    let first : start_of (count ∷ unions) (suc j) ≡ count + start_of unions j = sum_by-cons (λ (n : ℕ). n) count (take j unions) in
    let last : start_of (count ∷ unions) (suc (j + 1)) ≡ count + start_of unions (j + 1) = sum_by-cons (λ (n : ℕ). n) count (take (j + 1) unions) in
    let same : suc j + 1 ≡ suc (j + 1) = omega arith in
    let place : start_of (count ∷ unions) (suc j + 1) ≡ start_of (count ∷ unions) (suc (j + 1)) = ap (start_of (count ∷ unions)) same in
    let rest : start_of unions j + get_or unions j 0 ≡ start_of unions (j + 1) = start_next unions j (omega arith) in
    ap (λ n. n + get_or unions j 0) first ∙ (add_assoc count (start_of unions j) (get_or unions j 0) ∙ (ap (λ n. count + n) rest ∙ (sym last ∙ sym place)))

-- what was sought in the union at `j`
pub sought_in :
    (page : ℕ → List ℕ) (high : ℕ) (unions : List ℕ) (j : ℕ) (z : List Cursor) (from : ℕ) (sought sought' : Sought) → j < length unions
    → from ≡ start_of unions j → sought ≡ sought' → IsSought high (InUnion page z from (from + get_or unions j 0)) sought
    → IsSought high (InUnion page z (start_of unions j) (start_of unions (j + 1))) sought'
sought_in page high unions j z from sought sought' within begins is was =
    let P : Sought → Type 0 = IsSought high (InUnion page z from (from + get_or unions j 0)) in
    let Q : ℕ → Type 0 = λ from. IsSought high (InUnion page z from (from + get_or unions j 0)) sought' in
    let R : ℕ → Type 0 = λ to. IsSought high (InUnion page z (start_of unions j) to) sought' in
    subst R (start_next unions j within) (subst Q begins (subst P is was))

pub from_at :
    (low : ℕ) (cursors : List Cursor) (to id : ℕ) (sought : Sought) → sought ≡ At id → SoughtFrom low cursors to sought → SoughtHead low cursors to id
from_at low cursors to id sought is was = let P : Sought → Type 0 = SoughtFrom low cursors to in subst P is was

pub none_at : {a b : Device} {u v : ℕ} (id : ℕ) (sought : Sought) → sought ≡ At id → SoughtTells a b u v sought → MadeNone a b u v
none_at {a = a} {b = b} {u = u} {v = v} id sought is was = let P : Sought → Type 0 = SoughtTells a b u v in subst P is was

pub start_within : (unions : List ℕ) (j : ℕ) → start_of unions j ≤ sum unions
start_within unions j = sum_by-take-le (λ (n : ℕ). n) unions j

-- a head of one of the unions before one is a head of some cursor
pub head_within :
    (unions : List ℕ) (cursors : List Cursor) (from j n id : ℕ) → from ≡ start_of unions j → sum unions ≡ n → length cursors ≡ n
    → IsHead cursors from id → IsHead cursors (length cursors) id
head_within unions cursors from j n id is sums size head =
    record { at = head.at; below = omega (arith, head.below, is, sums, size, start_within unions j); has = head.has }

-- a bound that a union lacks is passed
pub strictly_above :
    (low high id : ℕ) (all all' : Bool) → high ≤ id → low ≤ high → (all' ≡ false → (all ≡ false) ⊎ (id ≢ high)) → (all ≡ false → low < high)
    → all' ≡ false → low < id
strictly_above low high id all all' less from lacks before is =
    elim (lacks is) [
      | inl early ↦ omega (arith, before early)
      | inr apart ↦ omega arith
    ]

-- what a round does, by the bytes of the pages before earlier ones
pub keeps_next :
    {told : Bool} {a b : Device} {p q : Pool} (right : ℕ → List ℕ) (low high : ℕ) (unions : List ℕ) (x y z : List Cursor) → Moves told a b p q x y
    → Keeps a.page right low unions x y → (told ≡ true → (right : ℕ → List ℕ) → AreRight b.page right y → Keeps b.page right high unions y z)
    → told ≡ true → Keeps a.page right high unions y z
keeps_next right low high unions x y z moves keeps goes tells =
    let P : (ℕ → List ℕ) → Type 0 = λ page. AreRight page right y → Keeps page right high unions y z in
    subst P moves.kept.page (goes tells right) keeps.still

pub round_next :
    {told : Bool} {a b : Device} {p q : Pool} (right : ℕ → List ℕ) (low high : ℕ) (unions : List ℕ) (x y z : List Cursor) (round round' : Round)
    → Moves told a b p q x y → Keeps a.page right low unions x y
    → (told ≡ true → (right : ℕ → List ℕ) → AreRight b.page right y → IsRound right high unions y z round) → round ≡ round' → told ≡ true
    → IsRound right high unions y z round'
round_next right low high unions x y z round round' moves keeps gives is tells =
    let Q : Round → Type 0 = IsRound right high unions y z in
    subst Q is (gives tells right (right_kept right y moves.kept.page keeps.still))

-- a round that ends says that nothing is in all unions, and one whose bound is in each that it is the least that is
pub ended_all :
    {page : ℕ → List ℕ} (right : ℕ → List ℕ) (low high : ℕ) (unions : List ℕ) (x y : List Cursor) → Keeps page right low unions x y
    → ((id : ℕ) → low ≤ id → InAll right x unions id → high ≤ id) → ((id : ℕ) → high ≤ id → InAll right y unions id → ⊥)
    → (id : ℕ) → low ≤ id → InAll right x unions id → ⊥
ended_all right low high unions x y keeps least none id above is = none id (least id above is) (keeps.same id above is)

pub found_all :
    {page : ℕ → List ℕ} (right : ℕ → List ℕ) (low from high : ℕ) (unions : List ℕ) (x y z : List Cursor) (all : Bool) → Keeps page right low unions x y
    → Keeps page right from unions y z → ((id : ℕ) → low ≤ id → InAll right x unions id → from ≤ id) → low ≤ from → from ≤ high → all ≡ true
    → IsBound right from unions y z high all → IsLeastFrom low (InAll right x unions) (Some high)
found_all right low from high unions x y z all keeps goes least less above agreed bound =
    (omega arith, keeps.fewer high (goes.fewer high (bound.in_all agreed)), λ id over is. bound.least id (least id over is) (keeps.same id over is))

pub least_on :
    {page : ℕ → List ℕ} (right : ℕ → List ℕ) (low from high : ℕ) (unions : List ℕ) (x y z : List Cursor) (all : Bool) → Keeps page right low unions x y
    → ((id : ℕ) → low ≤ id → InAll right x unions id → from ≤ id) → IsBound right from unions y z high all
    → (id : ℕ) → low ≤ id → InAll right x unions id → high ≤ id
least_on right low from high unions x y z all keeps least bound id over is = bound.least id (least id over is) (keeps.same id over is)

pub above_at :
    (low : ℕ) (unions : List ℕ) (z : List Cursor) (high : ℕ) (all : Bool) (round : Round) → round ≡ Bound high all → RoundIsAbove low unions z round
    → IsAbove low unions z high all
above_at low unions z high all round is was = let P : Round → Type 0 = RoundIsAbove low unions z in subst P is was

pub none_round :
    {a b : Device} {u v : ℕ} (high : ℕ) (all : Bool) (round : Round) → round ≡ Bound high all → RoundTells a b u v round → MadeNone a b u v
none_round {a = a} {b = b} {u = u} {v = v} high all round is was = let P : Round → Type 0 = RoundTells a b u v in subst P is was
