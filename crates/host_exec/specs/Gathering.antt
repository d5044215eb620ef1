-- Rows of a reply that are gathered for one frame.
use Rattle.std.specs.Prelude.{◌≡◌, ◌≤◌, ℕ, ◌*◌, List, ◌++◌, length, flat_map}
use Rattle.arrayvec.specs.ArrayVec.{array_vec_len}
use Rattle.ghost_model.specs.core.Asks.{RowCells, row_bytes}
use Rattle.host_exec.specs.RowBytes.{Form, reply_width}
use Rattle.host_exec.specs.declared.gathering.Batch.{Batch}

-- of all rows some, so many and with these bytes, were gathered, and the others are left
pub record Gathered (all : List RowCells) (count : ℕ) (bytes : List ℕ) (left : List RowCells) : Type 0 where
  pub found : List RowCells
  pub joined : all ≡ found ++ left
  pub counted : length found ≡ count
  pub spelled : bytes ≡ flat_map row_bytes found

-- a frame has room for so many rows, and these are no more
pub record HasRoom (form : Form) (most : ℕ) (batch : Batch) : Type 0 where
  pub few : batch.rows ≤ most
  pub size : array_vec_len batch.bytes ≤ batch.rows * reply_width form
  pub fits : most * reply_width form ≤ 2040
