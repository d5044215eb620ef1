use Rattle.std.proofs.Common.{arith, ◌≡◌, ℕ, ◌+◌, ◌++◌, ◌∙◌, ap, take, drop, slice_index}
use Rattle.key_inputs.specs.FileLines.{first_lines}
use Rattle.key_inputs.proofs.FileLineLemmas.{lines_done, file_done, lines_after, next_byte, after_end, after_other}
use Rattle.key_inputs.proofs.file_lines.first_lines.Goals as goal
use Rattle.key_inputs.proofs.file_lines.first_lines.Goals.{then-file-at-eq10, else-file-at-eq10}

pub returns-then-left-eq0 : goal.returns-then-left-eq0
returns-then-left-eq0 c =
    record { lines = lines_done c.args.file.now c.args.count c.loop-at.at c.loop-at.left (omega (arith, c.if-left-eq0.true)) c.loop-at.invariant }

pub loop-at-preserved : goal.loop-at-preserved
loop-at-preserved c =
    let byte = slice_index c.args.file.now c.loop-at.at in
    let left : lines_after byte c.loop-at.left ≡ c.if-file-at-eq10.left =
    elim c.if-file-at-eq10.branch [
      | then-file-at-eq10 w ↦ after_end byte c.loop-at.left c.if-file-at-eq10.left w.if-file-at-eq10.true w.left-is
      | else-file-at-eq10 w ↦ after_other byte c.loop-at.left c.if-file-at-eq10.left w.if-file-at-eq10.false w.left-is
    ] in
    c.loop-at.invariant
    ∙ next_byte c.args.file.now c.loop-at.at c.loop-at.left (omega (arith, c.loop-at-test.true)) (omega (arith, c.if-left-eq0.false))
    ∙ ap (λ (n : ℕ). take (c.loop-at.at + 1) c.args.file.now ++ first_lines n (drop (c.loop-at.at + 1) c.args.file.now)) left

pub returns : goal.returns
returns c =
    record { lines = file_done c.args.file.now c.args.count c.loop-at.at c.loop-at.left (omega (arith, c.loop-at-test.false)) c.loop-at.invariant }
