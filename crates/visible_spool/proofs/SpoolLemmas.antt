-- A reply that is begun in its area, and the half of its text.
use Rattle.std.proofs.Common.{◌≡◌, ◌∙◌, ap, sym, subst, ℕ, ◌+◌, ◌%◌, ◌^◌, ◌<◌, ◌≤◌, Bool, true, false, ◌&&◌, ◌==◌, List, IsTrue, if◌then◌else◌, arith}
use Rattle.std.specs.List.{list_all}
use Rattle.std.proofs.lemmas.Bool.Decides.{nat_tests}
use Rattle.ghost_model.specs.core.Schema.{Kind}
use Rattle.ghost_model.specs.forms.Layout.{in_blocks}
use Rattle.ghost_model.specs.forms.Runs.{pages_of}
use Rattle.edge_traits.specs.Devices.{Device}
use Rattle.visible_spool.specs.declared.reply.Reply.{Reply}
use Rattle.visible_spool.specs.declared.area.Area.{Area}
use Rattle.visible_spool.specs.declared.sides.Side.{Side}
use Rattle.visible_spool.specs.Replies.{is_narrow, kinds_of}
use Rattle.visible_spool.specs.Halves.{no_half}
use Rattle.visible_spool.specs.Hands.{CanBegin, area_end}
use Rattle.visible_spool.specs.Areas.{IsArea, first_of, end_of, is_even}
use Rattle.visible_spool.specs.Sides.{IsTakenUp, mark_in, replies_in}
use Rattle.visible_spool.proofs.AreaLemmas.{fewer_pages}

pub same_number : (n : ℕ) → (n == n) ≡ true
same_number n = grind (arith, nat_tests)

both_same : (a b : Bool) → a ≡ true → b ≡ true → (a && b) ≡ true
both_same a b ea eb = cc (ea, eb)

pub is_here : (text table : ℕ) → (text == text && table == table) ≡ true
is_here text table = both_same (text == text) (table == table) (same_number text) (same_number table)

-- the half of a text, where it is the text's
pub its_mark : (side : Side) (text : ℕ) → side.text ≡ text → mark_in side text ≡ side.is_marked
its_mark side text is = ap (λ n. (n == text) && side.is_marked) is ∙ ap (λ b. b && side.is_marked) (same_number text)

pub its_replies : (side : Side) (text : ℕ) → side.text ≡ text → replies_in side text ≡ side.half
its_replies side text is = ap (λ n. if n == text then side.half else no_half) is ∙ ap (λ b. if b then side.half else no_half) (same_number text)

pub taken_mark : (text : ℕ) (before now : Side) → IsTakenUp text before now → mark_in now text ≡ mark_in before text
taken_mark text before now is = its_mark now text is.text_is ∙ is.mark

pub taken_replies : (text : ℕ) (before now : Side) → IsTakenUp text before now → replies_in now text ≡ replies_in before text
taken_replies text before now is = its_replies now text is.text_is ∙ is.replies

-- a half that begins at blocks
block_by : (even : Bool) (area : Area) → area.even % 64 ≡ 0 → area.odd % 64 ≡ 0 → (if even then area.even else area.odd) % 64 ≡ 0
block_by true area e o = e
block_by false area e o = o

there_by : (even : Bool) (area : Area) (pages most : ℕ) → area.even + pages ≤ most → area.odd + pages ≤ most → (if even then area.even else area.odd) + pages ≤ most
there_by true area pages most e o = e
there_by false area pages most e o = o

-- a reply lies in its area
pub area_within : (area : Area) (text : ℕ) (reply : Reply) → area.width ≤ 1564 → reply.run.first ≡ first_of area text → reply.rows ≡ area.rows
    → 4 ≤ reply.run.width → reply.run.width ≤ area.width → area_end reply ≤ end_of area text
area_within area text reply narrow first rows wide fits =
    let fewer = fewer_pages area.rows reply.run.width area.width wide fits narrow in
    let e = ap (λ n. in_blocks (pages_of n reply.run.width)) rows in
    omega (arith, first, fewer, e)

pub can_begin : (device : Device) (area : Area) (text : ℕ) (reply : Reply) (kinds : List Kind) → IsArea device area → device.page_count < 2 ^ 32 → 4 < area.width
    → reply.run.first ≡ first_of area text → reply.rows ≡ area.rows → 4 ≤ reply.run.width → reply.run.width ≤ area.width → reply.cells ≤ 24
    → kinds_of reply ≡ kinds → IsTrue (list_all is_narrow kinds) → CanBegin device reply
can_begin device area text reply kinds is small visible first rows wide fits cells same narrow =
    let block = block_by (is_even text) area is.even_block is.odd_block in
    let there = there_by (is_even text) area (in_blocks (pages_of area.rows area.width)) device.page_count (is.even_there visible) (is.odd_there visible) in
    let within = area_within area text reply is.narrow first rows wide fits in
    let most = is.most in
    let width = is.narrow in
    record {
      block = omega (arith, block, first);
      there = omega (arith, there, within);
      small = small;
      wide = wide;
      narrow = omega (arith, fits, width);
      most = omega (arith, most, rows);
      cells = cells;
      kinds = subst (λ (k : List Kind). IsTrue (list_all is_narrow k)) (sym same) narrow;
    }
