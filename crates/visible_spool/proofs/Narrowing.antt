-- The pages that are left: where an identifier may stand, and how many looks there are.
use Rattle.std.proofs.Common.{◌≡◌, ◌∙◌, ap, refl, ℕ, zero, suc, ◌+◌, ◌-◌, ◌*◌, ◌/◌, ◌^◌, ◌<◌, ◌≤◌, ◌⊎◌, inl, inr, min, List, pow-suc, arith}
use Rattle.std.proofs.lemmas.Bool.{cases_lt}
use Rattle.std.proofs.lemmas.Nat.{le-div}
use Rattle.std.proofs.Math.Nat.{div-mul-le_self}
use Rattle.ghost_model.specs.forms.Runs.{pages_of}
use Rattle.visible_spool.specs.declared.reply.Reply.{Reply}
use Rattle.visible_spool.specs.declared.search.Looking.{Looking}
use Rattle.visible_spool.specs.declared.search.Search.TheVariants.{Among}
use Rattle.visible_spool.specs.Replies.{HoldsRows}
use Rattle.visible_spool.specs.Searches.{IsSoughtAmong, LooksLeft, IsFewer, rows_in, width_left}
use Rattle.visible_spool.proofs.Places.{row_has_page}
use Rattle.visible_spool.proofs.RowsHere.{above_place, below_end}

before_div : (place first n : ℕ) → 0 < n → place / n < first / n → place < first
before_div place first n some less =
    elim (cases_lt place first) [
      | inl under ↦ under
      | inr over ↦ (let a = div-mul-le_self first n in let e = le-div (first / n) place n some (omega (arith, a, over)) in absurd (omega (arith, e, less)))
    ]

-- an identifier leaves those before it and those behind it room
pub ends_left : (pages : ℕ → List ℕ) (reply : Reply) (rows : List (List ℕ)) → HoldsRows pages reply rows → 0 < rows_in reply → reply.run.count ≤ reply.rows
    → (identifier each first after : ℕ) (looking : Looking) → each ≡ rows_in reply → first ≡ identifier - (reply.rows - reply.run.count + 1)
    → after ≡ min reply.run.count identifier → looking.low ≡ first / each → looking.high ≡ pages_of after reply.run.width
    → IsSoughtAmong reply rows identifier looking
ends_left pages reply rows holds some few identifier each first after looking ee ef ea el eh = record {
  below = λ place there less.
      let count = holds.has.count in
      let e : looking.low ≡ first / rows_in reply = el ∙ ap (λ n. first / n) ee in
      let at = before_div place first (rows_in reply) some (omega (arith, less, e)) in
      let down = below_end reply.rows reply rows holds.are place there in
      omega (arith, at, down, ef, count, few, there);
  above = λ place there from.
      let count = holds.has.count in
      let up = above_place reply.rows reply rows holds.are place there in
      elim (cases_lt place after) [
        | inl under ↦ (let h = row_has_page after place (rows_in reply) some under in absurd (omega (arith, h, from, eh)))
        | inr over ↦ omega (arith, over, ea, up, count, there)
      ];
}

-- a look leaves fewer
record HasHalf (width j : ℕ) : Type 0 where
  less : ℕ
  is : less + 1 ≡ j
  below : width < 2 ^ less

half_left : (before now j : ℕ) → 0 < before → 2 * now ≤ before → before < 2 ^ j → HasHalf now j
half_left before now zero some half few = absurd (omega (arith, some, few))
half_left before now (suc j) some half few = let twice = pow-suc 2 j in record { less = j; is = omega arith; below = omega (arith, half, few, twice) }

left_of_page : (looking next : Looking) (page : ℕ) → looking.low ≤ page → page < looking.high → looking.low ≤ next.low → next.high ≤ looking.high
    → ((next.high ≤ page) ⊎ (page < next.low)) → (width_left next ≤ page - looking.low) ⊎ (width_left next ≤ looking.high - (page + 1))
left_of_page looking next page low high from to (inl before) = inl (omega (arith, from, before))
left_of_page looking next page low high from to (inr behind) = inr (omega (arith, to, behind))

no_more : (looking next : Looking) (page : ℕ) → looking.low ≤ page → page < looking.high
    → ((width_left next ≤ page - looking.low) ⊎ (width_left next ≤ looking.high - (page + 1))) → width_left next ≤ width_left looking
no_more looking next page low high (inl h) = omega (arith, h, low, high)
no_more looking next page low high (inr h) = omega (arith, h, low, high)

no_more_than_half : (looking next : Looking) (page : ℕ) → looking.low ≤ page → page < looking.high → page ≡ looking.low + (looking.high - looking.low) / 2
    → ((width_left next ≤ page - looking.low) ⊎ (width_left next ≤ looking.high - (page + 1))) → 2 * width_left next ≤ width_left looking
no_more_than_half looking next page low high is (inl h) = omega (arith, h, low, high, is)
no_more_than_half looking next page low high is (inr h) = omega (arith, h, low, high, is)

fewer_by : (k : ℕ) (looking next : Looking) (page left guesses : ℕ) → looking.guesses ≡ guesses → looking.low ≤ page → page < looking.high
    → (looking.guesses ≡ 0 → page ≡ looking.low + (looking.high - looking.low) / 2) → next.guesses ≡ looking.guesses - 1
    → ((width_left next ≤ page - looking.low) ⊎ (width_left next ≤ looking.high - (page + 1))) → LooksLeft looking left → IsFewer k (Among next) left
fewer_by k looking next page left zero g low high middle same side looks =
    let half = no_more_than_half looking next page low high (middle g) side in
    let has : HasHalf (width_left next) looks.halvings = half_left (width_left looking) (width_left next) looks.halvings (omega (arith, low, high)) half looks.below in
    let enough = looks.enough in
    let one = has.is in
    record {
      rest = has.less;
      calls_left = record { halvings = has.less; below = has.below; enough = omega (arith, same, g) };
      less = omega (arith, enough, one, g);
    }
fewer_by k looking next page left (suc guesses) g low high middle same side looks =
    let narrow = no_more looking next page low high side in
    let enough = looks.enough in
    let below = looks.below in
    record {
      rest = guesses + looks.halvings;
      calls_left = record { halvings = looks.halvings; below = omega (arith, narrow, below); enough = omega (arith, same, g) };
      less = omega (arith, enough, g);
    }

pub fewer_left : (k : ℕ) (looking next : Looking) (page left : ℕ) → looking.low ≤ page → page < looking.high
    → (looking.guesses ≡ 0 → page ≡ looking.low + (looking.high - looking.low) / 2) → next.guesses ≡ looking.guesses - 1
    → looking.low ≤ next.low → next.high ≤ looking.high → ((next.high ≤ page) ⊎ (page < next.low)) → LooksLeft looking left → IsFewer k (Among next) left
fewer_left k looking next page left low high middle same from to side looks =
    fewer_by k looking next page left looking.guesses refl low high middle same (left_of_page looking next page low high from to side) looks

-- what is left of the pages where the one in the buffer was looked at
pub looks_kept : (looking next : Looking) (left : ℕ) → looking.low ≤ next.low → next.high ≤ looking.high → next.guesses ≡ looking.guesses
    → LooksLeft looking left → LooksLeft next left
looks_kept looking next left low high same looks =
    let below = looks.below in
    let enough = looks.enough in
    record { halvings = looks.halvings; below = omega (arith, below, low, high); enough = omega (arith, enough, same) }
