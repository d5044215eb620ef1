-- What stays of a reply where other pages change, and that its rows may stand where they do.
use Rattle.std.proofs.Common.{◌∙◌, ap}
use Rattle.flash_pages.proofs.RunFrames.{records_kept, run_kept}
use Rattle.visible_spool.specs.Replies.{may_stand}
use Rattle.visible_spool.specs.Laws.{RepliesAreKept, RowsMayStand, RepliesStayReadable, RepliesAreSpared}
use Rattle.visible_spool.proofs.RowsHere.{may}

pub reply_kept : RepliesAreKept
reply_kept page now reply rows same holds = record { has = records_kept same holds.has; are = holds.are }

pub reply_readable : RepliesStayReadable
reply_readable before now reply same is = record { has = run_kept same is.has; sound = is.sound }

pub reply_spared : RepliesAreSpared
reply_spared page now low high reply rows lies same holds =
    reply_kept page now reply rows (λ place within. let at = lies place within in same _ at.0 at.1) holds

pub rows_stand : RowsMayStand
rows_stand page reply rows place holds within = ap (may_stand reply place) (holds.has.each place within) ∙ may page reply rows holds place within
