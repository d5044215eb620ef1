-- Laws of replies: what stays of them where other pages change.
use Rattle.std.specs.Prelude.{◌≡◌, ℕ, ◌<◌, ◌≤◌, List, true}
use Rattle.ghost_model.specs.forms.Runs.{page_of, record_at}
use Rattle.ghost_model.specs.core.Channel.{Catalog}
use Rattle.ghost_model.specs.core.Schema.{is_visible}
use Rattle.ghost_model.specs.forms.Layout.{spool_width}
use Rattle.ghost_model.specs.laws.LayoutLaws.{LieInOrder}
use Rattle.ghost_model.specs.laws.SchemaTrees.{IsTree}
use Rattle.ghost_base.specs.Runs.{run_of}
use Rattle.edge_traits.specs.Devices.{Device}
use Rattle.visible_spool.specs.declared.reply.Reply.{Reply}
use Rattle.visible_spool.specs.Replies.{IsReadable, HoldsRows, may_stand}
use Rattle.visible_spool.specs.Halves.{HasNoReply, no_half}

-- the pages of a reply's rows have the same bytes
abbrev pub KeepsReply : (page now : ℕ → List ℕ) → Reply → Type 0
KeepsReply page now reply =
    (place : ℕ) → place < reply.run.count → now (page_of (run_of reply.run) place) ≡ page (page_of (run_of reply.run) place)

abbrev pub RepliesAreKept : Type 0
RepliesAreKept =
    (page now : ℕ → List ℕ) (reply : Reply) (rows : List (List ℕ)) → KeepsReply page now reply
    → HoldsRows page reply rows → HoldsRows now reply rows

-- each row may stand where it does: identifiers that ascend from 1 to the number of rows leave each row its range
abbrev pub RowsMayStand : Type 0
RowsMayStand =
    (page : ℕ → List ℕ) (reply : Reply) (rows : List (List ℕ)) (place : ℕ) → HoldsRows page reply rows → place < reply.run.count
    → may_stand reply place (record_at page (run_of reply.run) place) ≡ true

-- a reply may be read as long as the device has as many pages
abbrev pub RepliesStayReadable : Type 0
RepliesStayReadable = (before now : Device) (reply : Reply) → now.page_count ≡ before.page_count → IsReadable before reply → IsReadable now reply

-- the pages of a reply's rows lie from one page on and below another
abbrev pub LiesWithin : (low high : ℕ) → Reply → Type 0
LiesWithin low high reply =
    (place : ℕ) → place < reply.run.count
    → (low ≤ page_of (run_of reply.run) place) × (page_of (run_of reply.run) place < high)

-- and so where no page there changed
abbrev pub RepliesAreSpared : Type 0
RepliesAreSpared =
    (page now : ℕ → List ℕ) (low high : ℕ) (reply : Reply) (rows : List (List ℕ)) → LiesWithin low high reply
    → ((number : ℕ) → low ≤ number → number < high → now number ≡ page number)
    → HoldsRows page reply rows → HoldsRows now reply rows

-- where no row of a text came, there is no reply for any table
abbrev pub TextsWithoutRows : Type 0
TextsWithoutRows = (table : ℕ) → table < 12 → HasNoReply no_half table

-- in a table that has a visible column a row may have more than an identifier
abbrev pub VisibleTablesHaveRoom : Type 0
VisibleTablesHaveRoom =
    (cat : Catalog) (table column : ℕ) → IsTree cat.schema → LieInOrder cat → is_visible cat.schema table column ≡ true
    → 4 < spool_width cat.schema table
