use Rattle.std.proofs.Common.{◌≡◌, ◌+◌, ◌-◌, ℕ, subst, ◌∙◌, arith}
use Rattle.host_exec.specs.RowBytes.{replies_at}
use Rattle.host_exec.specs.FormViews.{form_view}
use Rattle.host_exec.specs.Gathering.{Gathered}
use Rattle.host_exec.proofs.gathering.gather_piece.Goals as goal

pub returns-clause-gathered : goal.returns-clause-gathered
returns-clause-gathered g c = λ file all is ahead h.
    let count = c.refill.new.self.rows in
    let later : ℕ = c.args.rows - c.args.next - count in
    let whole : c.args.rows - c.args.next ≡ count + later = omega (arith, c.in_ok-refill.ensures.within) in
    let left : count - c.add_rows-passed.result + later ≡ c.args.rows - (c.args.next + c.add_rows-passed.result) = omega (arith, c.add_rows-passed.ensures.within, whole) in
    let piece = c.ahead-ahead.ensures.bytes ∙ c.in_ok-refill.ensures.ahead file is ahead in
    subst (λ (n : ℕ). Gathered all c.add_rows-passed.new.batch.rows c.add_rows-passed.new.batch.bytes.items (replies_at (form_view c.args.form.now) file c.args.start (c.args.next + c.add_rows-passed.result) n)) left
    (c.add_rows-passed.ensures.gathered file c.args.start later all piece
    (subst (λ (n : ℕ). Gathered all c.args.batch.now.rows c.args.batch.now.bytes.items (replies_at (form_view c.args.form.now) file c.args.start c.args.next n)) whole h))
