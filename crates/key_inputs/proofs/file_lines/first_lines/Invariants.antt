use Rattle.std.proofs.Common.{◌≡◌, ◌++◌, take, drop}
use Rattle.key_inputs.specs.FileLines.{first_lines}
use Rattle.key_inputs.proofs.file_lines.first_lines.Given as goal

abbrev pub invariant-loop-at : goal.invariant-loop-at
invariant-loop-at l =
    first_lines l.count l.file ≡ take l.at l.file ++ first_lines l.left (drop l.at l.file)
