use Rattle.std.proofs.Common.{◌≡◌, true, List, ℕ, sym, subst, ◌∙◌}
use Rattle.ghost_model.specs.core.Recorded.{lacks}
use Rattle.key_audit.specs.Windows.{ahead}
use Rattle.key_audit.proofs.LineParts.{cut_too_long, cut_ends, cut_within, all_too_long, place_kept}
use Rattle.key_audit.proofs.lines.take_part.Goals as goal

pub returns-then-is_err-clause-part : goal.returns-then-is_err-clause-part
returns-then-is_err-clause-part c =
    cut_too_long c.try_extend_from_slice.result c.args.line.now.items (ahead c.args.window.now) c.ahead.result.now c.try_extend_from_slice.new.self.items (ahead c.args.window.now)
    c.ahead.ensures.bytes c.in-Some.first.now c.in-Some._later.now c.in-Some.ensures.cut c.try_extend_from_slice.ensures.variant (sym c.is_err.ensures.value ∙ c.if-is_err.true)

pub returns-else-is_err-clause-part : goal.returns-else-is_err-clause-part
returns-else-is_err-clause-part c =
    cut_ends c.try_extend_from_slice.result c.args.line.now.items (ahead c.args.window.now) c.ahead.result.now c.try_extend_from_slice.new.self.items (ahead c.pass.new.self)
    c.ahead.ensures.bytes c.in-Some.first.now c.in-Some._later.now c.in-Some.ensures.cut c.try_extend_from_slice.ensures.variant (sym c.is_err.ensures.value ∙ c.if-is_err.false)
    c.try_extend_from_slice.ensures.ok c.pass.ensures.rest

pub returns-else-is_err-clause-passed : goal.returns-else-is_err-clause-passed
returns-else-is_err-clause-passed c =
    place_kept c.args.window.now.passed c.pass.new.self.passed _ (ahead c.args.window.now) (ahead c.pass.new.self) c.pass.ensures.passed c.pass.ensures.rest
    (cut_within c.try_extend_from_slice.result c.args.line.now.items (ahead c.args.window.now) c.ahead.result.now c.try_extend_from_slice.new.self.items (ahead c.pass.new.self)
    c.ahead.ensures.bytes c.in-Some.first.now c.in-Some._later.now c.in-Some.ensures.cut c.try_extend_from_slice.ensures.variant)

pub returns-then-is_err-2-clause-part : goal.returns-then-is_err-2-clause-part
returns-then-is_err-2-clause-part c =
    all_too_long c.try_extend_from_slice-in-None.result c.args.line.now.items (ahead c.args.window.now) c.ahead-ahead.result.now c.try_extend_from_slice-in-None.new.self.items (ahead c.args.window.now)
    c.ahead-ahead.ensures.bytes
    (subst (λ (xs : List ℕ). lacks 10 xs ≡ true) (c.ahead.ensures.bytes ∙ sym c.ahead-ahead.ensures.bytes) c.in-None.ensures.cut) c.try_extend_from_slice-in-None.ensures.variant (sym c.is_err-in-None.ensures.value ∙ c.if-is_err-2.true)
