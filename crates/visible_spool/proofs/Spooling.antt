-- What holds of the spool between its calls.
use Rattle.std.proofs.Common.{if◌then◌else◌, ◌≡◌, ◌∙◌, ap, sym, subst, refl, ℕ, ◌<◌, ◌≤◌, Bool, true, false, ◌&&◌, ◌==◌, List, [], length, get_or, arith}
use Rattle.std.specs.Prelude.{Result}
use Rattle.std.proofs.lemmas.Bool.Decides.{nat_tests}
use Rattle.edge_traits.specs.Devices.{Device}
use Rattle.edge_traits.proofs.DeviceFrames.{changes_wider}
use Rattle.page_pool.specs.Pools.{Pool, IsOut}
use Rattle.page_pool.specs.Laws.{KeepsOut}
use Rattle.page_pool.proofs.Leases.{out_kept}
use Rattle.flash_pages.specs.declared.fault.PageFault.{PageFault}
use Rattle.visible_spool.specs.declared.reply.Reply.{Reply}
use Rattle.visible_spool.specs.declared.area.Area.{Area}
use Rattle.visible_spool.specs.declared.hand.Hand.{Hand}
use Rattle.visible_spool.specs.declared.sides.Sides.{Sides}
use Rattle.visible_spool.specs.declared.spool.Spool.{Spool}
use Rattle.visible_spool.specs.Areas.{IsArea, first_of, end_of, no_area}
use Rattle.visible_spool.specs.Sides.{side_of, is_marked, replies_of}
use Rattle.visible_spool.specs.Halves.{reply_of}
use Rattle.visible_spool.specs.Laws.{LiesWithin}
use Rattle.visible_spool.specs.Hands.{CanPut, HasRows, area_end}
use Rattle.visible_spool.specs.Spools.{IsHeld, IsSpooling, PushedIf, SpoolWrites, area_at, is_at}
use Rattle.visible_spool.proofs.SpoolLemmas.{area_within}

pub area_kept : (before now : Device) (area : Area) → now.page_count ≡ before.page_count → IsArea before area → IsArea now area
area_kept before now area same is = record {
  even_block = is.even_block;
  odd_block = is.odd_block;
  wide = is.wide;
  narrow = is.narrow;
  most = is.most;
  even_there = λ some. let h = is.even_there some in omega (arith, h, same);
  odd_there = λ some. let h = is.odd_there some in omega (arith, h, same);
}

-- the reply at hand, where its text and table are the same
pub held_on : (before now : Device) (old : Spool) (sides : Sides) (hand : Hand) → IsHeld before old → hand.text ≡ old.hand.text → hand.table ≡ old.hand.table
    → hand.reply ≡ old.hand.reply → (side_of sides old.hand.text).text ≡ old.hand.text → (is_marked sides old.hand.text ≡ false → CanPut now hand)
    → IsHeld now (record { areas = old.areas; sides = sides; hand = hand })
held_on before now old sides hand is text table reply holder can =
    let there = is.there in
    let visible = is.visible in
    let wide = is.wide in
    let width = is.width in
    let ew = ap (λ t. (get_or old.areas.items t no_area).width) table in
    let er = ap (λ (r : Reply). r.run.width) reply in
    record {
      there = omega (arith, there, table);
      holder = subst (λ n. (side_of sides n).text ≡ n) (sym text) holder;
      first = ap (λ (r : Reply). r.run.first) reply ∙ (is.first ∙ (sym (ap (λ t. first_of (get_or old.areas.items t no_area) old.hand.text) table) ∙ sym (ap (λ n. first_of (get_or old.areas.items hand.table no_area) n) text)));
      rows = ap (λ (r : Reply). r.rows) reply ∙ (is.rows ∙ sym (ap (λ t. (get_or old.areas.items t no_area).rows) table));
      visible = omega (arith, visible, ew);
      wide = omega (arith, wide, er);
      width = omega (arith, width, ew, er);
      can = subst (λ n. is_marked sides n ≡ false → CanPut now hand) (sym text) can;
    }

pub spooling_on : (before now : Device) (pool later : Pool) (old : Spool) (sides : Sides) (hand : Hand) → IsSpooling before pool old → now.page_count ≡ before.page_count
    → KeepsOut pool later → hand.writer.lease ≡ old.hand.writer.lease
    → ((hand.text ≡ 0 → ⊥) → IsHeld now (record { areas = old.areas; sides = sides; hand = hand }))
    → IsSpooling now later (record { areas = old.areas; sides = sides; hand = hand })
spooling_on before now pool later old sides hand is same keeps lease held =
    let small = is.small in
    record {
      out = subst (λ n. IsOut later n) (sym lease) (out_kept keeps is.out);
      areas = λ table there. area_kept before now (get_or old.areas.items table no_area) same (is.areas table there);
      few = is.few;
      small = omega (arith, small, same);
      hand = held;
    }

-- a reply that is written lies in its area
pub writes_in_area : {T : Type 0} (before now : Device) (device : Device) (spool : Spool) (result : Result T PageFault) → IsHeld device spool → IsArea device (area_at spool spool.hand.table)
    → SpoolWrites before now spool.hand.reply.run.first (area_end spool.hand.reply) result
    → SpoolWrites before now (first_of (area_at spool spool.hand.table) spool.hand.text) (end_of (area_at spool spool.hand.table) spool.hand.text) result
writes_in_area before now device spool result is area writes =
    let first = is.first in
    record {
      others = changes_wider writes.others (first_of (area_at spool spool.hand.table) spool.hand.text) (end_of (area_at spool spool.hand.table) spool.hand.text) (omega (arith, first))
          (area_within (area_at spool spool.hand.table) spool.hand.text spool.hand.reply area.narrow is.first is.rows is.wide is.width);
      at_most = writes.at_most;
      deep_reads = writes.deep_reads;
      cause = writes.cause;
      last = writes.last;
      called = writes.called;
      flash = writes.flash;
    }

pub writes_as : {T : Type 0} (before now : Device) (area other : Area) (n text : ℕ) (result : Result T PageFault) → area ≡ other → n ≡ text
    → SpoolWrites before now (first_of area n) (end_of area n) result → SpoolWrites before now (first_of other text) (end_of other text) result
writes_as before now area other n text result ea en writes =
    subst (λ a. SpoolWrites before now (first_of a text) (end_of a text) result) ea (subst (λ m. SpoolWrites before now (first_of area m) (end_of area m) result) en writes)

pub same_area : (before now : Spool) (n table : ℕ) → now.areas ≡ before.areas → n ≡ table → area_at now n ≡ area_at before table
same_area before now n table areas is = ap (λ list. get_or list.items n no_area) areas ∙ ap (λ t. area_at before t) is

pub still_at : (before now : Spool) (text table : ℕ) → now.hand.text ≡ before.hand.text → now.hand.table ≡ before.hand.table
    → is_at before text table ≡ true → is_at now text table ≡ true
still_at before now text table et eb is = ap (λ n. (n == text) && (now.hand.table == table)) et ∙ (ap (λ m. (before.hand.text == text) && (m == table)) eb ∙ is)

-- rows that were pushed for the reply at hand, and none for another
pub pushed_here : (told : Bool) (page : ℕ → List ℕ) (pool : Pool) (spool : Spool) (rows : List (List ℕ)) (b : Bool) → b ≡ true → PushedIf b told page pool spool rows
    → HasRows told page pool spool.hand rows
pushed_here told page pool spool rows true e pushed = pushed
pushed_here told page pool spool rows false e pushed = absurd (cc (e))

pub pushed_elsewhere : (told : Bool) (page : ℕ → List ℕ) (pool : Pool) (spool : Spool) (rows : List (List ℕ)) (b : Bool) → b ≡ false → PushedIf b told page pool spool rows
    → rows ≡ []
pushed_elsewhere told page pool spool rows true e pushed = absurd (cc (e))
pushed_elsewhere told page pool spool rows false e pushed = pushed

pub now_pushed : (told : Bool) (page : ℕ → List ℕ) (pool : Pool) (spool : Spool) (rows : List (List ℕ)) (b : Bool) → b ≡ true → HasRows told page pool spool.hand rows
    → PushedIf b told page pool spool rows
now_pushed told page pool spool rows true e has = has
now_pushed told page pool spool rows false e has = absurd (cc (e))

-- the reply at hand is that of a text for a table
pub its_text : (text table n m : ℕ) → (n == text && m == table) ≡ true → n ≡ text
its_text text table n m is = by_both (n == text) (m == table) is (number_is n text)
  where
    number_is : (a b : ℕ) → (a == b) ≡ true → a ≡ b
    number_is a b e = grind (arith, nat_tests)

    by_both : (a b : Bool) → (a && b) ≡ true → (a ≡ true → n ≡ text) → n ≡ text
    by_both true b e h = h refl
    by_both false b e h = absurd (cc (e))

pub its_table : (text table n m : ℕ) → (n == text && m == table) ≡ true → m ≡ table
its_table text table n m is = by_both (n == text) (m == table) is (number_is m table)
  where
    number_is : (a b : ℕ) → (a == b) ≡ true → a ≡ b
    number_is a b e = grind (arith, nat_tests)

    by_both : (a b : Bool) → (a && b) ≡ true → (b ≡ true → m ≡ table) → m ≡ table
    by_both true true e h = h refl
    by_both true false e h = absurd (cc (e))
    by_both false b e h = absurd (cc (e))

pub some_text : (text : ℕ) → 0 < text → text ≡ 0 → ⊥
some_text text some none = omega (arith, some, none)

-- a reply that was begun is at hand
pub held_begun : (device : Device) (spool : Spool) (text table : ℕ) (reply : Reply) → spool.hand.text ≡ text → spool.hand.table ≡ table → spool.hand.reply ≡ reply
    → table < length spool.areas.items → (side_of spool.sides text).text ≡ text → reply.run.first ≡ first_of (area_at spool table) text
    → reply.rows ≡ (area_at spool table).rows → 4 < (area_at spool table).width → 4 ≤ reply.run.width → reply.run.width ≤ (area_at spool table).width
    → CanPut device spool.hand → IsHeld device spool
held_begun device spool text table reply et eb er there holder first rows visible wide width can =
    let ew = ap (λ t. (area_at spool t).width) eb in
    let ev = ap (λ (r : Reply). r.run.width) er in
    record {
      there = omega (arith, there, eb);
      holder = subst (λ n. (side_of spool.sides n).text ≡ n) (sym et) holder;
      first = ap (λ (r : Reply). r.run.first) er ∙ (first ∙ (sym (ap (λ t. first_of (area_at spool t) text) eb) ∙ sym (ap (λ n. first_of (area_at spool spool.hand.table) n) et)));
      rows = ap (λ (r : Reply). r.rows) er ∙ (rows ∙ sym (ap (λ t. (area_at spool t).rows) eb));
      visible = omega (arith, visible, ew);
      wide = omega (arith, wide, ev);
      width = omega (arith, width, ew, ev);
      can = λ unmarked. can;
    }

-- a reply that was ended lies in its area
pub lies_as : {device : Device} (spool : Spool) (text table : ℕ) → IsHeld device spool → IsArea device (area_at spool spool.hand.table) → spool.hand.text ≡ text
    → spool.hand.table ≡ table → (sides : Sides)
    → LiesWithin spool.hand.reply.run.first (area_end spool.hand.reply) (reply_of (replies_of sides spool.hand.text) spool.hand.table)
    → LiesWithin (first_of (area_at spool table) text) (end_of (area_at spool table) text) (reply_of (replies_of sides text) table)
lies_as spool text table is area et eb sides lies =
    let first = is.first in
    let end = area_within (area_at spool spool.hand.table) spool.hand.text spool.hand.reply area.narrow is.first is.rows is.wide is.width in
    let P : ℕ → ℕ → Type 0 = λ n t. LiesWithin (first_of (area_at spool t) n) (end_of (area_at spool t) n) (reply_of (replies_of sides n) t) in
    let here : P spool.hand.text spool.hand.table = λ place there. let at = lies place there in (omega (arith, at.0, first), omega (arith, at.1, end)) in
    subst (λ t. P text t) eb (subst (λ n. P n spool.hand.table) et here)

pub last_here : (spool : Spool) (b : Bool) → b ≡ true → (if b then spool.hand.last else 0) ≡ spool.hand.last
last_here spool true e = refl
last_here spool false e = absurd (cc (e))
