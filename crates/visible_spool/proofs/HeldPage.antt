-- An identifier that lies between those of rows of one page.
use Rattle.std.proofs.Common.{◌≡◌, ◌∙◌, ap, sym, subst, ℕ, ◌+◌, ◌/◌, ◌<◌, ◌≤◌, List, Option, Some, inl, inr, arith}
use Rattle.std.specs.Prelude.{IfSome}
use Rattle.std.proofs.lemmas.Bool.{cases_lt}
use Rattle.visible_spool.specs.declared.reply.Reply.{Reply}
use Rattle.visible_spool.specs.declared.search.Looking.{Looking}
use Rattle.visible_spool.specs.Replies.{HoldsRows}
use Rattle.visible_spool.specs.Searches.{IsElsewhere, IsInHeld, IsSoughtAmong, id_at, page_of, rows_in}
use Rattle.visible_spool.proofs.RowsHere.{id_here}

-- its page is one of those that are left
pub not_elsewhere : (reply : Reply) (rows : List (List ℕ)) (held : Option ℕ) (identifier : ℕ) (next : Looking) → IsInHeld reply rows held identifier
    → IsSoughtAmong reply rows identifier next → IsElsewhere reply held next → ⊥
not_elsewhere reply rows held identifier next is sought elsewhere =
    let q = page_of reply is.first in
    let same : page_of reply is.last ≡ q = is.same_page in
    let order = is.order in
    let within = is.within in
    let out = subst (λ (o : Option ℕ). IfSome o (λ number. reply.run.first + next.low ≤ number → number < reply.run.first + next.high → ⊥)) is.here elsewhere in
    elim (cases_lt q next.low) [
      | inl below ↦ (let less = sought.below is.last within (omega (arith, same, below)) in let to = is.to in absurd (omega (arith, less, to)))
      | inr low ↦ elim (cases_lt q next.high) [
        | inl high ↦ out (omega (arith, low)) (omega (arith, high))
        | inr above ↦ (let less = sought.above is.first (omega (arith, order, within)) above in let from = is.from in absurd (omega (arith, less, from)))
      ]
    ]

-- what the bytes of a page tell of it
pub held_between : (pages : ℕ → List ℕ) (reply : Reply) (rows : List (List ℕ)) → HoldsRows pages reply rows → (bytes : List ℕ) (page : ℕ) → bytes ≡ pages (reply.run.first + page)
    → (first last identifier : ℕ) → first ≤ last → last < reply.run.count → first / rows_in reply ≡ page → last / rows_in reply ≡ page
    → id_at reply bytes first ≤ identifier → identifier ≤ id_at reply bytes last → IsInHeld reply rows (Some (reply.run.first + page)) identifier
held_between pages reply rows holds bytes page is first last identifier order within at there from to =
    let count = holds.has.count in
    let low = id_here pages reply rows holds bytes page is first (omega (arith, order, within)) at in
    let high = id_here pages reply rows holds bytes page is last within there in
    record {
      first = first;
      last = last;
      order = order;
      within = omega (arith, within, count);
      here = ap (λ q. Some (reply.run.first + q)) (sym at);
      same_page = there ∙ sym at;
      from = omega (arith, low, from);
      to = omega (arith, high, to);
    }
