-- The order in which asks are awaited.
use Rattle.std.proofs.Common.{◌≡◌, ℕ, ◌≤◌, true, List, [], ◌∷◌, length, subst, refl, arith, nat_le, le-leb, Some}
use Rattle.std.specs.List.{list_all}
use Rattle.ghost_model.specs.core.Channel.{Catalog}
use Rattle.ghost_model.specs.core.Asks.{NumberedAsk, asked_of}
use Rattle.ghost_model.specs.core.NextMove.{Awaits, AwaitsCatalog, AwaitsReply, AwaitsNothing, EndedAsk, Heard, heard, hear_all}
use Rattle.ghost_model.proofs.ChannelLemmas.Tests.{hold_both}
use Rattle.ghost_model.proofs.SessionLemmas.Accepted.{Each}
use Rattle.channel_pump.specs.Sessions.{asked_in}
use Rattle.key_session.specs.TextOrder.{TextsComeInOrder}
use Rattle.key_session.proofs.Hearing.{each_so, Rises, remaining, Orderly, IsHeard, by_bytes}
use Rattle.key_session.proofs.Fitting.{all_heard}

all_behind : (at : ℕ) (ends : List EndedAsk) → Each (λ (end : EndedAsk). end.asked.text ≤ at) ends → list_all (λ (end : EndedAsk). nat_le end.asked.text at) ends ≡ true
all_behind at [] each = refl
all_behind at (end ∷ ends) each = hold_both _ _ (le-leb end.asked.text at each.0) (all_behind at ends each.1)

module _ (catalog : Catalog) (asks : List NumberedAsk) (low top : ℕ) where
  -- where an ask is awaited
  record IsReached (awaits : Awaits) (ends : List EndedAsk) (one : NumberedAsk) : Type 0 where
    low_so : low ≤ one.text
    top_so : one.text ≤ top
    behind : Each (λ (end : EndedAsk). end.asked.text ≤ one.text) ends
    ahead : Rises one.text (remaining catalog asks low top awaits)

  reached : (awaits : Awaits) (rows : List ℕ) (ends : List EndedAsk) (one : NumberedAsk) → asked_in awaits ≡ Some one → Orderly catalog asks low top awaits rows ends
      → IsReached awaits ends one
  reached (AwaitsCatalog bytes) rows ends one e o = let bad : ⊥ = cc in absurd bad
  reached AwaitsNothing rows ends one e o = let bad : ⊥ = cc in absurd bad
  reached (AwaitsReply other serial later count last) rows ends one e o =
      let same : other ≡ one = cc in
      let from = o.reached in
      let first = o.ahead.0 in
      subst (λ (it : NumberedAsk). IsReached (AwaitsReply other serial later count last) ends it) same
      (record {
        low_so = omega (arith, from, first);
        top_so = o.within.0;
        behind = each_so (λ (end : EndedAsk). end.asked.text ≤ o.at) (λ (end : EndedAsk). end.asked.text ≤ other.text) (λ end h. omega (arith, h, first)) ends o.behind;
        ahead = (omega arith, o.ahead.1);
      })

-- the same, from the text of the ask at hand on
from_here : (catalog : Catalog) (asks : List NumberedAsk) (top : ℕ) (now : Heard) (one : NumberedAsk) → IsHeard catalog asks 1 top now
    → IsReached catalog asks 1 top now.awaits now.ended one → IsHeard catalog asks one.text top now
from_here catalog asks top now one o is = record {
  rows_so = o.rows_so;
  weigh = o.weigh;
  at = one.text;
  reached = omega arith;
  behind = is.behind;
  ahead = is.ahead;
  within = o.within;
}

pub texts_come_in_order : TextsComeInOrder
texts_come_in_order catalog texts received one awaited =
    let asks : List NumberedAsk = asked_of catalog.schema texts in
    let top : ℕ = length texts in
    let now : Heard = heard catalog asks received in
    let o : IsHeard catalog asks 1 top now = all_heard catalog texts received in
    let is : IsReached catalog asks 1 top now.awaits now.ended one = reached catalog asks 1 top now.awaits now.rows now.ended one awaited o in
    record {
      numbered = is.low_so;
      within = is.top_so;
      ended = all_behind one.text now.ended is.behind;
      onward = λ more later after.
          (let then_heard : Heard = hear_all catalog asks now more in
          let then_so = by_bytes catalog asks one.text top now more (from_here catalog asks top now one o is) in
          (reached catalog asks one.text top then_heard.awaits then_heard.rows then_heard.ended later after then_so).low_so);
    }
