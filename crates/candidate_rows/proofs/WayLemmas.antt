-- The next foreign key on the way to a table.
use Rattle.std.proofs.Common.{◌≡◌, ◌∙◌, ℕ, zero, suc, ◌-◌, ◌<◌, List, get_or, Option, Some, None, sym, subst, refl, ap, arith}
use Rattle.candidate_rows.specs.declared.plan.Hop.{Hop}
use Rattle.candidate_rows.specs.declared.next.Follow.{Follow}
use Rattle.candidate_rows.specs.Working.{way_to, along_hop, from_row}

-- one table further up
pub way_step : (hops : List (Option Hop)) (reached : List (Option ℕ)) (left to : ℕ) → 0 < left
    → way_to hops reached left to ≡ along_hop to (get_or hops to None) reached (λ above. way_to hops reached (left - 1) above)
way_step hops reached zero to some = absurd (omega (arith, some))
way_step hops reached (suc left) to some =
    let same : suc left - 1 ≡ left = omega arith in
    ap (λ n. along_hop to (get_or hops to None) reached (λ above. way_to hops reached n above)) (sym same)

pub way_on : (hops : List (Option Hop)) (reached : List (Option ℕ)) (left to : ℕ) (hop : Hop) → 0 < left → get_or hops to None ≡ Some hop
    → get_or reached hop.above None ≡ None → way_to hops reached left to ≡ way_to hops reached (left - 1) hop.above
way_on hops reached left to hop some there none =
    way_step hops reached left to some
    ∙ ap (λ o. along_hop to o reached (λ above. way_to hops reached (left - 1) above)) there
    ∙ ap (λ row. from_row to hop row (way_to hops reached (left - 1) hop.above)) none

pub way_ends : (hops : List (Option Hop)) (reached : List (Option ℕ)) (left to : ℕ) → left ≡ 0 → way_to hops reached left to ≡ None
way_ends hops reached left to none = ap (λ n. way_to hops reached n to) none

-- the foreign key that is found is that to a table whose row was not reached, held by a row that was
pub record IsWay (hops : List (Option Hop)) (reached : List (Option ℕ)) (follow : Follow) : Type 0 where
  pub hop_is : get_or hops follow.to None ≡ Some follow.hop
  pub row_is : get_or reached follow.hop.above None ≡ Some follow.identifier
  pub unreached : get_or reached follow.to None ≡ None

some_follow : (a b : Follow) → Some a ≡ Some b → a ≡ b
some_follow a b e = cc

at_row : (hops : List (Option Hop)) (reached : List (Option ℕ)) (to : ℕ) (follow : Follow) (further : Option Follow) (hop : Hop)
    → get_or reached to None ≡ None → get_or hops to None ≡ Some hop → (row : Option ℕ) → get_or reached hop.above None ≡ row
    → (get_or reached hop.above None ≡ None → further ≡ Some follow → IsWay hops reached follow)
    → from_row to hop row further ≡ Some follow → IsWay hops reached follow
at_row hops reached to follow further hop closed there None here rest h = rest here h
at_row hops reached to follow further hop closed there (Some identifier) here rest h =
    subst (IsWay hops reached) (some_follow (record { to = to; hop = hop; identifier = identifier }) follow h)
    (record { hop_is = there; row_is = here; unreached = closed })

at_hop : (hops : List (Option Hop)) (reached : List (Option ℕ)) (to : ℕ) (follow : Follow) (further : ℕ → Option Follow)
    → get_or reached to None ≡ None → (found : Option Hop) → get_or hops to None ≡ found
    → ((above : ℕ) → get_or reached above None ≡ None → further above ≡ Some follow → IsWay hops reached follow)
    → along_hop to found reached further ≡ Some follow → IsWay hops reached follow
at_hop hops reached to follow further closed None there rest h = absurd (cc (h))
at_hop hops reached to follow further closed (Some hop) there rest h =
    at_row hops reached to follow (further hop.above) hop closed there (get_or reached hop.above None) refl (rest hop.above) h

pub way_is : (hops : List (Option Hop)) (reached : List (Option ℕ)) (most to : ℕ) (follow : Follow) → get_or reached to None ≡ None
    → way_to hops reached most to ≡ Some follow → IsWay hops reached follow
way_is hops reached zero to follow closed e = absurd (cc (e))
way_is hops reached (suc most) to follow closed e =
    at_hop hops reached to follow (λ above. way_to hops reached most above) closed (get_or hops to None) refl
    (λ above shut h. way_is hops reached most above follow shut h) e

-- there is one to each table at or below one whose row was reached
from_none : (to : ℕ) (hop : Hop) (row : Option ℕ) (further : Option Follow) → from_row to hop row further ≡ None → (row ≡ None) × (further ≡ None)
from_none to hop None further e = (refl, e)
from_none to hop (Some identifier) further e = absurd (cc (e))

no_some : (o : Option ℕ) (x : ℕ) → o ≡ None → o ≡ Some x → ⊥
no_some o x n s = cc
