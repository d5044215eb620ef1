use Rattle.std.proofs.Common.{◌≡◌, ◌+◌, ◌-◌, length, drop, replicate, ◌∙◌, ap, arith}
use Rattle.std.proofs.lemmas.List.{length-take-le}
use Rattle.flash_pages.proofs.WriterLemmas.{rest_kept, rest_of_blank}
use Rattle.flash_pages.proofs.filler.put_cell.Goals as goal
use Rattle.flash_pages.proofs.filler.put_cell.Goals.{then-at-eq0, else-at-eq0}

pub returns-clause-rest : goal.returns-clause-rest
returns-clause-rest c = λ rest.
    let before : drop c.args.at c.if-at-eq0.bytes ≡ replicate (2048 - c.args.at) 255 =
    elim c.if-at-eq0.branch [
      | then-at-eq0 w ↦ ap (λ b. drop c.args.at b) w.bytes-is ∙ rest_of_blank c.args.at (omega arith)
      | else-at-eq0 w ↦ ap (λ b. drop c.args.at b) w.bytes-is ∙ rest (omega arith)
    ] in
    let size : length c.if-at-eq0.bytes ≡ 2048 =
    elim c.if-at-eq0.branch [
      | then-at-eq0 w ↦ ap (λ b. length b) w.bytes-is
      | else-at-eq0 w ↦ ap (λ b. length b) w.bytes-is ∙ c.told-bytes
    ] in
    ap (λ b. drop (c.args.at + length c.args.cell.now) b) c.copy_cell.ensures
    ∙ rest_kept c.if-at-eq0.bytes c.args.cell.now c.args.at (length-take-le c.args.at c.if-at-eq0.bytes (omega arith)) before
