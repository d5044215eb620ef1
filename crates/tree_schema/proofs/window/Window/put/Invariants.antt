use Rattle.std.proofs.Common.{◌≡◌, take}
use Rattle.tree_schema.specs.Windows.{pane, with_text}
use Rattle.tree_schema.proofs.window.Window.put.Given as goal

abbrev pub invariant-loop-byte : goal.invariant-loop-byte
invariant-loop-byte l = pane l.self l.out ≡ with_text (pane l.initial.self l.initial.out) (take l.byte-index l.piece)
