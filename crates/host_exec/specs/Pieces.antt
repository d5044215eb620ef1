-- Rows of the file that were read ahead of the frames that they go into.
use Rattle.std.specs.Prelude.{◌≡◌, ◌≤◌, ◌+◌, ◌*◌, ℕ, List, take, drop}
use Rattle.host_exec.specs.RowBytes.{window}
use Rattle.host_exec.specs.declared.piece.Piece.{Piece}

-- the bytes of the rows, each of which has this width
abbrev pub bytes_ahead : (width : ℕ) → Piece → List ℕ
bytes_ahead width piece = take (piece.rows * width) (drop piece.at piece.bytes)

-- the rows of this width stand within the bytes that were read
abbrev pub HasFit : (width : ℕ) → Piece → Type 0
HasFit width piece = piece.at + piece.rows * width ≤ 4096

-- the rows are those of a table from a place on, where its rows have this width and begin at a byte of the file
abbrev pub IsAhead : (width : ℕ) → Piece → (file : List ℕ) → (start place : ℕ) → Type 0
IsAhead width piece file start place = bytes_ahead width piece ≡ window file (start + place * width) (piece.rows * width)
