-- The pages of a reply that a device has, and the rows of one of them.
use Rattle.std.proofs.Common.{◌≡◌, ap, ℕ, ◌+◌, ◌-◌, ◌*◌, ◌/◌, ◌<◌, ◌≤◌, min, arith}
use Rattle.std.proofs.lemmas.Nat.{le-div}
use Rattle.edge_traits.specs.Devices.{Device}
use Rattle.visible_spool.specs.declared.reply.Reply.{Reply}
use Rattle.visible_spool.specs.Replies.{IsReadable, IsSound}
use Rattle.visible_spool.specs.Searches.{rows_in, pages_in}
use Rattle.visible_spool.proofs.Places.{in_page, page_has_row}

pub some_rows : (reply : Reply) → IsSound reply → 0 < rows_in reply
some_rows reply sound =
    let wide = sound.wide in
    let narrow = sound.narrow in
    let e = le-div 1 2048 reply.run.width (omega (arith, wide)) (omega (arith, narrow)) in
    omega (arith, e)

pub page_there : (device : Device) (reply : Reply) → IsReadable device reply → (page : ℕ) → page < pages_in reply → reply.run.first + page < device.page_count
page_there device reply readable page within =
    let some = some_rows reply readable.sound in
    let here = page_has_row reply.run.count page (rows_in reply) some within in
    let e : page * rows_in reply / rows_in reply ≡ page = in_page (page * rows_in reply) page (rows_in reply) (omega arith) (omega (arith, some)) in
    let h = readable.has.pages (page * rows_in reply) here in
    let same = ap (λ p. reply.run.first + p) e in
    omega (arith, h, same)

-- the places of the rows of a page
pub record IsPage (reply : Reply) (page first last : ℕ) : Type 0 where
  pub some : 0 < rows_in reply
  pub low : first ≡ page * rows_in reply
  pub order : first ≤ last
  pub within : last < reply.run.count
  pub high : last < first + rows_in reply
  pub whole : (place : ℕ) → place < reply.run.count → place < page * rows_in reply + rows_in reply → place ≤ last

pub page_of_rows : (reply : Reply) → IsSound reply → (page each last : ℕ) → each ≡ rows_in reply → page < pages_in reply
    → last ≡ min (page * each + (each - 1)) (reply.run.count - 1) → IsPage reply page (page * each) last
page_of_rows reply sound page each last e within is =
    let some = some_rows reply sound in
    let here = page_has_row reply.run.count page (rows_in reply) some within in
    let low : page * each ≡ page * rows_in reply = ap (λ n. page * n) e in
    record {
      some = some;
      low = low;
      order = omega (arith, is, here, low, some, e);
      within = omega (arith, is, here);
      high = omega (arith, is, e, some);
      whole = λ place there to. omega (arith, is, there, to, low, e);
    }

pub its_page : (reply : Reply) (page first last place : ℕ) → IsPage reply page first last → first ≤ place → place ≤ last → place / rows_in reply ≡ page
its_page reply page first last place is from to =
    let low = is.low in
    let high = is.high in
    in_page place page (rows_in reply) (omega (arith, from, low)) (omega (arith, to, low, high))
