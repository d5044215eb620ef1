-- What stays of the replies of a half, and of a job's buffers, where the half is spared.
use Rattle.std.proofs.Common.{◌≡◌, ◌∙◌, sym, subst, ℕ, true, Bool, List, Option, Some, None, inl, inr}
use Rattle.std.specs.Prelude.{IfSome}
use Rattle.ghost_model.specs.core.Channel.{Catalog}
use Rattle.ghost_model.specs.forms.Runs.{page_of}
use Rattle.ghost_base.specs.Runs.{run_of}
use Rattle.edge_traits.specs.Devices.{Device, SamePage}
use Rattle.page_pool.specs.Pools.{bytes_at, page_at}
use Rattle.page_pool.proofs.Leases.{out_kept}
use Rattle.visible_spool.specs.declared.half.Half.{Half}
use Rattle.visible_spool.specs.Halves.{reply_of}
use Rattle.visible_spool.specs.Sparing.{AreInHalf, SparesHalf, Uses, SparedRowsStay, SparedHalvesStay, UsedPagesAreSpared, BuffersStayFilled}
use Rattle.visible_spool.proofs.KeptReplies.{reply_kept, reply_readable}

pub spared_rows : SparedRowsStay
spared_rows cat side before now reply rows spares lies holds =
    reply_kept before.page now.page reply rows (λ place within. let at = lies place within in (spares.half (page_of (run_of reply.run) place) at.0 at.1).bytes) holds

pub spared_half : SparedHalvesStay
spared_half told cat side before now replies spares is = record {
  readable = λ table there. reply_readable before now (reply_of replies table) spares.page_count (is.readable table there);
  lies = is.lies;
  whole = λ yes table there.
      let some = is.whole yes table there in
      record { rows = some.rows; holds = spared_rows cat side before now (reply_of replies table) some.rows spares (is.lies table there) some.holds };
  rows = is.rows;
}

used_by : (cat : Catalog) (side : ℕ) (before now : Device) (replies : Half) (number : ℕ) → SparesHalf cat side before now → AreInHalf cat side replies
    → Uses cat replies number → SamePage before now number
used_by cat side before now replies number spares lies (inl static) = spares.static number static
used_by cat side before now replies number spares lies (inr own) =
    let at = lies own.table own.there own.page.place own.page.within in
    subst (SamePage before now) (sym own.page.is) (spares.half (page_of (run_of (reply_of replies own.table).run) own.page.place) at.0 at.1)

pub used_spared : UsedPagesAreSpared
used_spared = used_by

filled_by : (told : Bool) (cat : Catalog) (side : ℕ) (before now : Device) (replies : Half) (was is : List ℕ) (held : Option ℕ) → SparesHalf cat side before now
    → AreInHalf cat side replies → is ≡ was → IfSome held (Uses cat replies) → IfSome held (λ number. told ≡ true → was ≡ before.page number)
    → IfSome held (λ number. told ≡ true → is ≡ now.page number)
filled_by told cat side before now replies was is None spares lies same uses filled = filled
filled_by told cat side before now replies was is (Some number) spares lies same uses filled = λ yes.
    same ∙ (filled yes ∙ sym (used_by cat side before now replies number spares lies uses).bytes)

pub filled_spared : BuffersStayFilled
filled_spared told cat side before now replies pool later lease spares lies keeps same uses ready = record {
  out = out_kept keeps ready.out;
  filled = subst (λ (held : Option ℕ). IfSome held (λ number. told ≡ true → bytes_at later lease ≡ now.page number)) (sym same.filled)
      (filled_by told cat side before now replies (bytes_at pool lease) (bytes_at later lease) (page_at pool lease) spares lies same.bytes uses ready.filled);
}
