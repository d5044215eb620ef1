-- The reply at hand: its next page lies in its area, and what a row more makes of its rows.
use Rattle.std.proofs.Common.{◌-◌, ◌*◌, ◌≡◌, ◌∙◌, ap, sym, subst, refl, ℕ, ◌+◌, ◌/◌, ◌%◌, ◌<◌, ◌≤◌, ◌⊎◌, inl, inr, Bool, true, false, nat_eq, nat_lt, List, [], ◌∷◌, ◌++◌, length, take, drop, map, get_or, IsTrue, if◌then◌else◌, arith}
use Rattle.std.proofs.lemmas.Bool.{cases_lt}
use Rattle.std.proofs.lemmas.Bool.Decides.{nat_tests}
use Rattle.std.proofs.lemmas.Nat.{le-div}
use Rattle.std.proofs.lemmas.List.{length-append, get_or_append_left}
use Rattle.std.proofs.Math.Seq.{get_or-append_seam}
use Rattle.std.specs.List.{list_all}
use Rattle.ghost_base.specs.Views.{kind_of}
use Rattle.ghost_base.specs.declared.kind.Kind as code
use Rattle.ghost_model.specs.core.NextMove.{are_cells}
use Rattle.ghost_model.specs.core.Schema.{Kind}
use Rattle.ghost_model.specs.forms.Runs.{pages_of, number_in, per_page}
use Rattle.ghost_model.specs.forms.Layout.{in_blocks}
use Rattle.edge_traits.specs.Devices.{Device, KeepsPages, ChangesOnly}
use Rattle.edge_traits.proofs.DeviceFrames.{changes_wider, changes_kept}
use Rattle.flash_pages.specs.Writing.{IsEntered, reach, erases, page_calls}
use Rattle.flash_pages.specs.Writers.{CanWrite, next_page, waits}
use Rattle.flash_pages.proofs.Fillings.{whole_pages, page_left}
use Rattle.visible_spool.specs.declared.reply.Reply.{Reply}
use Rattle.visible_spool.specs.declared.hand.Hand.{Hand}
use Rattle.visible_spool.specs.Replies.{AreRows, IsReadable, id_of, id_of_bytes, is_narrow, kinds_of}
use Rattle.visible_spool.specs.Laws.{LiesWithin}
use Rattle.visible_spool.specs.Hands.{CanBegin, CanPut, IsReplyOf, area_end}
use Rattle.visible_spool.proofs.Places.{row_has_page}

some_rows_in : (reply : Reply) → 4 ≤ reply.run.width → reply.run.width ≤ 1564 → 0 < per_page reply.run.width
some_rows_in reply wide narrow = let e = le-div 1 2048 reply.run.width (omega (arith, wide)) (omega (arith, narrow)) in omega (arith, e)

-- pages are left as long as rows are
pub pages_left : (device : Device) (hand : Hand) → CanPut device hand → hand.writer.filler.count < hand.reply.rows
    → hand.writer.filler.pages < pages_of hand.reply.rows hand.reply.run.width
pages_left device hand can more =
    let f = hand.writer.filler in
    let all = whole_pages f hand.reply.run.width f.count can.width refl in
    page_left f.pages f.held (per_page hand.reply.run.width) hand.reply.rows (some_rows_in hand.reply can.begins.wide can.begins.narrow) (omega (arith, all, more))

pub pages_left_waiting : (device : Device) (hand : Hand) → CanPut device hand → 0 < hand.writer.filler.held
    → hand.writer.filler.pages < pages_of hand.reply.rows hand.reply.run.width
pages_left_waiting device hand can waits =
    let f = hand.writer.filler in
    let all = whole_pages f hand.reply.run.width f.count can.width refl in
    let few = can.few in
    let within = can.within in
    page_left f.pages 0 (per_page hand.reply.run.width) hand.reply.rows (some_rows_in hand.reply can.begins.wide can.begins.narrow) (omega (arith, all, few, within, waits))

no_erase : true ≡ false → ⊥
no_erase is = absurd (cc (is))

pub can_write : (device : Device) (hand : Hand) → CanPut device hand → hand.writer.filler.pages < pages_of hand.reply.rows hand.reply.run.width
    → CanWrite device hand.writer.filler
can_write device hand can less =
    let there = can.begins.there in
    let first = can.first in
    let E : Bool → Type 0 = λ erase. IsEntered device (next_page hand.writer.filler) erase in
    record {
      page = record {
        in_range = omega (arith, there, first, less);
        blank = λ plain. absurd (no_erase (sym can.erase ∙ plain));
        entered = subst E (sym can.erase) can.entered;
      };
      small = can.begins.small;
    }

-- the page that is written next, and the block that begins with it, lie in the area
reaches_if : (begins : Bool) (block one end : ℕ) → one ≤ end → (begins ≡ true → block ≤ end) → (if begins then block else one) ≤ end
reaches_if true block one end plain whole = whole refl
reaches_if false block one end plain whole = plain

reaches : (page end : ℕ) (erase : Bool) → page + 1 ≤ end → (page % 64 ≡ 0 → page + 64 ≤ end) → reach page erase ≤ end
reaches page end false one block = one
reaches page end true one block =
    reaches_if (nat_eq (page % 64) 0) (page + 64) (page + 1) end one (λ begins. block (grind (arith, nat_tests)))

reach_blocks : (first pages count : ℕ) (erase : Bool) → first % 64 ≡ 0 → pages < count → reach (first + pages) erase ≤ first + in_blocks count
reach_blocks first pages count erase block less = reaches (first + pages) (first + in_blocks count) erase (omega (arith, less)) (λ begins. omega (arith, less, begins, block))

pub reach_within : (device : Device) (hand : Hand) → CanPut device hand → hand.writer.filler.pages < pages_of hand.reply.rows hand.reply.run.width
    → reach (next_page hand.writer.filler) hand.writer.filler.erase ≤ area_end hand.reply
reach_within device hand can less =
    let e = ap (λ n. reach (n + hand.writer.filler.pages) hand.writer.filler.erase) can.first in
    let h = reach_blocks hand.reply.run.first hand.writer.filler.pages (pages_of hand.reply.rows hand.reply.run.width) hand.writer.filler.erase can.begins.block less in
    omega (arith, e, h)

-- the last page, where records wait for it
waits_held : (hand : Hand) → waits hand.writer.filler ≡ true → 0 < hand.writer.filler.held
waits_held hand is = let h : nat_lt 0 hand.writer.filler.held ≡ true = is in grind (arith, nat_tests)

pub finish_can : (device : Device) (hand : Hand) → CanPut device hand → waits hand.writer.filler ≡ true → CanWrite device hand.writer.filler
finish_can device hand can is = can_write device hand can (pages_left_waiting device hand can (waits_held hand is))

finish_by : (before now : Device) (hand : Hand) → CanPut before hand → (b : Bool) → waits hand.writer.filler ≡ b
    → (waits hand.writer.filler ≡ false → KeepsPages before now)
    → ChangesOnly (next_page hand.writer.filler) (reach (next_page hand.writer.filler) hand.writer.filler.erase) before now
    → ChangesOnly hand.reply.run.first (area_end hand.reply) before now
finish_by before now hand can true is kept changes =
    let first = can.first in
    changes_wider changes hand.reply.run.first (area_end hand.reply) (omega (arith, first)) (reach_within before hand can (pages_left_waiting before hand can (waits_held hand is)))
finish_by before now hand can false is kept changes = changes_kept (kept is) hand.reply.run.first (area_end hand.reply)

pub finish_changes : (before now : Device) (hand : Hand) → CanPut before hand → (waits hand.writer.filler ≡ false → KeepsPages before now)
    → ChangesOnly (next_page hand.writer.filler) (reach (next_page hand.writer.filler) hand.writer.filler.erase) before now
    → ChangesOnly hand.reply.run.first (area_end hand.reply) before now
finish_changes before now hand can kept changes = finish_by before now hand can (waits hand.writer.filler) refl kept changes

-- one row more
earlier_or_last : (rows : List (List ℕ)) (row : List ℕ) (place : ℕ) → place < length (rows ++ row ∷ []) → (place < length rows) ⊎ (place ≡ length rows)
earlier_or_last rows row place within =
    let e = length-append rows (row ∷ []) in
    elim (cases_lt place (length rows)) [
      | inl under ↦ inl under
      | inr over ↦ inr (omega (arith, e, within, over))
    ]

earlier : (rows : List (List ℕ)) (row : List ℕ) (place : ℕ) → place < length rows → id_of (rows ++ row ∷ []) place ≡ id_of rows place
earlier rows row place within = ap id_of_bytes (get_or_append_left rows (row ∷ []) [] place within)

latest : (rows : List (List ℕ)) (row : List ℕ) (place : ℕ) → place ≡ length rows → id_of (rows ++ row ∷ []) place ≡ number_in row 0
latest rows row place is = ap (λ p. id_of (rows ++ row ∷ []) p) is ∙ ap id_of_bytes (get_or-append_seam rows row [] [])

module _ (most : ℕ) (kinds : List Kind) (rows : List (List ℕ)) (row : List ℕ) (last : ℕ) (are : AreRows most kinds rows)
    (low : (place : ℕ) → place < length rows → id_of rows place ≤ last) (above : last < number_in row 0) (within : number_in row 0 ≤ most)
    (cells : are_cells kinds (drop 4 row) ≡ true) where
  some_more : (place : ℕ) → ((place < length rows) ⊎ (place ≡ length rows)) → 0 < id_of (rows ++ row ∷ []) place
  some_more place (inl under) = let e = earlier rows row place under in let h = are.some place under in omega (arith, e, h)
  some_more place (inr at) = let e = latest rows row place at in omega (arith, e, above)

  pub low_more : (place : ℕ) → ((place < length rows) ⊎ (place ≡ length rows)) → id_of (rows ++ row ∷ []) place ≤ number_in row 0
  low_more place (inl under) = let e = earlier rows row place under in let h = low place under in omega (arith, e, h, above)
  low_more place (inr at) = let e = latest rows row place at in omega (arith, e)

  ascend_more : (place later : ℕ) → place < later → ((later < length rows) ⊎ (later ≡ length rows)) → id_of (rows ++ row ∷ []) place < id_of (rows ++ row ∷ []) later
  ascend_more place later less (inl under) =
      let e = earlier rows row place (omega (arith, less, under)) in
      let f = earlier rows row later under in
      let h = are.ascend place later less under in
      omega (arith, e, f, h)
  ascend_more place later less (inr at) =
      let here : place < length rows = omega (arith, less, at) in
      let e = earlier rows row place here in
      let f = latest rows row later at in
      let h = low place here in
      omega (arith, e, f, h, above)

  cells_more : (place : ℕ) → ((place < length rows) ⊎ (place ≡ length rows)) → are_cells kinds (drop 4 (get_or (rows ++ row ∷ []) place [])) ≡ true
  cells_more place (inl under) = ap (λ r. are_cells kinds (drop 4 r)) (get_or_append_left rows (row ∷ []) [] place under) ∙ are.cells place under
  cells_more place (inr at) =
      ap (λ p. are_cells kinds (drop 4 (get_or (rows ++ row ∷ []) p []))) at ∙ (ap (λ r. are_cells kinds (drop 4 r)) (get_or-append_seam rows row [] []) ∙ cells)

  pub rows_more : AreRows most kinds (rows ++ row ∷ [])
  rows_more = record {
    some = λ place there. some_more place (earlier_or_last rows row place there);
    ascend = λ place later less there. ascend_more place later less (earlier_or_last rows row later there);
    within = λ place there. let h = low_more place (earlier_or_last rows row place there) in omega (arith, h, within);
    cells = λ place there. cells_more place (earlier_or_last rows row place there);
  }

  pub last_more : (place : ℕ) → place < length (rows ++ row ∷ []) → id_of (rows ++ row ∷ []) place ≤ number_in row 0
  last_more place there = low_more place (earlier_or_last rows row place there)

pub kinds_same : (reply other : Reply) → reply.cells ≡ other.cells → reply.kinds ≡ other.kinds → kinds_of reply ≡ kinds_of other
kinds_same reply other cells kinds = ap (λ n. map kind_of (take n reply.kinds)) cells ∙ ap (λ (k : List code.Kind). map kind_of (take other.cells k)) kinds

-- a reply that was ended may be read
pub ended_readable : (before now : Device) (hand : Hand) (reply : Reply) → CanPut before hand → now.page_count ≡ before.page_count → IsReplyOf hand reply
    → IsReadable now reply
ended_readable before now hand reply can same is =
    let begins = can.begins in
    let some = some_rows_in hand.reply begins.wide begins.narrow in
    let count = is.count in
    let few = can.few in
    let within = can.within in
    let width : reply.run.width ≡ hand.reply.run.width = is.width ∙ can.width in
    let wide = begins.wide in
    let narrow = begins.narrow in
    let rows = is.rows in
    let most = begins.most in
    let cells = is.cells in
    let cells_most = begins.cells in
    let there = begins.there in
    let first = is.first in
    let begin = can.first in
    let small = begins.small in
    record {
      has = record {
        some = omega (arith, width, wide);
        fits = omega (arith, width, narrow);
        pages = λ place here.
            let at = row_has_page hand.reply.rows place (per_page hand.reply.run.width) some (omega (arith, here, count, few, within)) in
            let e : place / per_page reply.run.width ≡ place / per_page hand.reply.run.width = ap (λ w. place / per_page w) width in
            omega (arith, at, e, there, first, begin, same);
        small = omega (arith, small, same);
      };
      sound = record {
        wide = omega (arith, width, wide);
        narrow = omega (arith, width, narrow);
        few = omega (arith, count, few, within, rows);
        most = omega (arith, rows, most);
        cells = omega (arith, cells, cells_most);
        kinds = subst (λ (k : List Kind). IsTrue (list_all is_narrow k)) (sym (kinds_same reply hand.reply is.cells is.kinds)) begins.kinds;
      };
    }

-- and its rows lie in its area
pub ended_within : (device : Device) (hand : Hand) (reply : Reply) → CanPut device hand → IsReplyOf hand reply → LiesWithin hand.reply.run.first (area_end hand.reply) reply
ended_within device hand reply can is = λ place here.
    let begins = can.begins in
    let some = some_rows_in hand.reply begins.wide begins.narrow in
    let count = is.count in
    let few = can.few in
    let within = can.within in
    let width : reply.run.width ≡ hand.reply.run.width = is.width ∙ can.width in
    let first = is.first in
    let begin = can.first in
    let at = row_has_page hand.reply.rows place (per_page hand.reply.run.width) some (omega (arith, here, count, few, within)) in
    let e : place / per_page reply.run.width ≡ place / per_page hand.reply.run.width = ap (λ w. place / per_page w) width in
    (omega (arith, first, begin), omega (arith, at, e, first, begin))

-- a reply may be written as long as the device has as many pages
pub begin_kept : (before now : Device) (reply : Reply) → now.page_count ≡ before.page_count → CanBegin before reply → CanBegin now reply
begin_kept before now reply same can =
    let there = can.there in
    let small = can.small in
    record {
      block = can.block;
      there = omega (arith, there, same);
      small = omega (arith, small, same);
      wide = can.wide;
      narrow = can.narrow;
      most = can.most;
      cells = can.cells;
      kinds = can.kinds;
    }

-- two calls at most for a page that a row completes, and none otherwise
two_at_most : (begins : Bool) → (if begins then 2 else 1) ≤ 2
two_at_most true = omega arith
two_at_most false = omega arith

pub for_pages : (fill : Bool) (calls pages later before now : ℕ) → now ≤ before + (if fill then calls else 0) → calls ≤ 2 → later ≡ pages + (if fill then 1 else 0)
    → now ≤ before + 2 * (later - pages)
for_pages true calls pages later before now most few more = omega (arith, most, few, more)
for_pages false calls pages later before now most few more = omega (arith, most, more)

pub few_page_calls : (page : ℕ) (erase : Bool) → page_calls page erase ≤ 2
few_page_calls page erase = two_at_most (erases page erase)

pub no_call : (waiting : Bool) (calls before now : ℕ) → waiting ≡ false → before ≤ now → now ≤ before + (if waiting then calls else 0) → now ≡ before
no_call true calls before now none rises most = absurd (cc (none))
no_call false calls before now none rises most = omega (arith, rises, most)
