-- A window on a text that is written from its beginning: how many bytes of the text are still before the window, how many
-- of its bytes have been written, and all bytes in the place of the window. What of the text is behind it is let go.
use Rattle.std.specs.Prelude.{ℕ, ◌+◌, ◌-◌, nat_lt, List, length, slice_set, fold, if◌then◌else◌}
use Rattle.tree_schema.specs.declared.window.Window.{Window}

pub record Pane : Type 0 where
  pub skip : ℕ
  pub filled : ℕ
  pub out : List ℕ

abbrev pub pane : Window → List ℕ → Pane
pane window out = record { skip = window.skip; filled = window.filled; out = out }

-- the next byte of the text
abbrev pub with_byte : Pane → ℕ → Pane
with_byte before byte =
    if nat_lt 0 before.skip then record { skip = before.skip - 1; filled = before.filled; out = before.out }
    else if nat_lt before.filled (length before.out)
    then record { skip = before.skip; filled = before.filled + 1; out = slice_set before.out before.filled byte }
    else before

-- the next bytes of the text
unfoldable pub with_text : Pane → List ℕ → Pane
with_text before text = fold with_byte before text
