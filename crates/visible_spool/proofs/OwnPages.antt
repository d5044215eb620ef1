-- The page that a buffer has after a look at one of a reply's pages.
use Rattle.std.proofs.Common.{◌≡◌, ap, sym, subst, refl, ℕ, ◌+◌, ◌*◌, ◌<◌, Option, Some, None, Result, Ok, Err, inl, inr, arith}
use Rattle.ghost_base.specs.Runs.{run_of}
use Rattle.flash_pages.specs.Cursors.{IsPageOf}
use Rattle.flash_pages.specs.Reads.{page_after}
use Rattle.flash_pages.specs.declared.fault.PageFault.{PageFault}
use Rattle.flash_pages.specs.declared.fault.PageFault.TheVariants.{Flash, Damaged}
use Rattle.visible_spool.specs.declared.reply.Reply.{Reply}
use Rattle.visible_spool.specs.Replies.{IsSound}
use Rattle.visible_spool.specs.Searches.{HoldsOwn, pages_in, rows_in}
use Rattle.visible_spool.proofs.Places.{in_page, page_has_row}
use Rattle.visible_spool.proofs.Readable.{some_rows}

own_page : (reply : Reply) → IsSound reply → (page : ℕ) → page < pages_in reply → IsPageOf (run_of reply.run) (reply.run.first + page)
own_page reply sound page within =
    let some = some_rows reply sound in
    record {
      place = page * rows_in reply;
      within = page_has_row reply.run.count page (rows_in reply) some within;
      is = ap (λ q. reply.run.first + q) (sym (in_page (page * rows_in reply) page (rows_in reply) (omega arith) (omega (arith, some))));
    }

own_by : {T : Type 0} (reply : Reply) (before : Option ℕ) (number : ℕ) → IsPageOf (run_of reply.run) number → (result : Result T PageFault)
    → HoldsOwn reply before (page_after result number)
own_by reply before number own (Ok value) = inr own
own_by reply before number own (Err Flash) = _
own_by reply before number own (Err (Damaged page slot found)) = inr own

pub own_after : {T : Type 0} (reply : Reply) → IsSound reply → (before now : Option ℕ) (page : ℕ) → page < pages_in reply → (result : Result T PageFault)
    → now ≡ page_after result (reply.run.first + page) → HoldsOwn reply before now
own_after reply sound before now page within result is =
    subst (HoldsOwn reply before) (sym is) (own_by reply before (reply.run.first + page) (own_page reply sound page within) result)

-- and where nothing was read
pub own_kept : (reply : Reply) (held : Option ℕ) → HoldsOwn reply held held
own_kept reply None = _
own_kept reply (Some number) = inl refl
