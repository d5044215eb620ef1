-- The replies of one text, by their tables.
use Rattle.std.specs.Prelude.{◌≡◌, ℕ, ◌^◌, ◌<◌, List, [], get_or, replicate}
use Rattle.ghost_base.specs.declared.kind.Kind.TheVariants.{Integer}
use Rattle.edge_traits.specs.Devices.{Device}
use Rattle.visible_spool.specs.declared.reply.Reply.{Reply}
use Rattle.visible_spool.specs.declared.half.Half.{Half}
use Rattle.visible_spool.specs.Replies.{IsReadable, HoldsRows}

-- a reply of no rows
abbrev pub no_reply : Reply
no_reply = record { run = record { first = 0; count = 0; width = 4 }; rows = 0; cells = 0; kinds = replicate 24 Integer }

-- no rows for any table
abbrev pub no_half : Half
no_half = record { replies = replicate 12 no_reply }

-- the reply of a table
abbrev pub reply_of : Half → (table : ℕ) → Reply
reply_of half table = get_or half.replies table no_reply

-- no row came for a table: its reply may be read on every device, and no row stands there
pub record HasNoReply (half : Half) (table : ℕ) : Type 0 where
  pub count : (reply_of half table).run.count ≡ 0
  pub readable : (device : Device) → device.page_count < 2 ^ 32 → IsReadable device (reply_of half table)
  pub holds : (page : ℕ → List ℕ) → HoldsRows page (reply_of half table) []
