use Rattle.key_lines.proofs.Growing.{hands_nothing, hands_two}
use Rattle.key_lines.proofs.printer.pieces_join.Goals as goal

pub returns : goal.returns
returns c = record { none = hands_nothing; two = hands_two }
