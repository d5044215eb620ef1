-- What holds of where the files of a catalog lie, in one place.
use Rattle.std.specs.Prelude.{◌≡◌, ℕ, ◌≤◌, Some}
use Rattle.ghost_model.specs.core.Schema.{Schema, Column, column_at, plain_of}
use Rattle.ghost_model.specs.core.Channel.{Catalog}
use Rattle.ghost_model.specs.forms.Cells.{cell_width}
use Rattle.ghost_model.specs.laws.SchemaTrees.{IsTree}
use Rattle.ghost_model.specs.laws.LayoutLaws.{FollowOneAnother, LieAsSummed, LieInOrder, AreWholeBlocks, AreNarrow, AreFew}

-- without the byte that tells NULL, the cells of a column have at most 64 bytes
abbrev pub HasNarrowCells : Schema → Type 0
HasNarrowCells schema =
    (table column : ℕ) (held : Column) → column_at schema table column ≡ Some held → cell_width (plain_of held.kind) ≤ 64

pub record HasLayout (cat : Catalog) : Type 0 where
  pub tree : IsTree cat.schema
  pub following : FollowOneAnother cat
  pub sums : LieAsSummed cat
  pub order : LieInOrder cat
  pub blocks : AreWholeBlocks cat
  pub narrow : AreNarrow cat
  pub few : AreFew cat
  pub cells : HasNarrowCells cat.schema
