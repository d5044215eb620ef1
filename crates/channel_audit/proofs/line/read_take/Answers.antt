use Rattle.std.proofs.Common.{◌≡◌, ℕ, min, false, ap, sym, subst, ◌∙◌, rules, true≢false}
use Rattle.ghost_model.specs.core.Recorded.{TellsGiven, is_number}
use Rattle.channel_audit.proofs.Texts.{cut_short}
use Rattle.channel_audit.proofs.Told.{take_parts, given_up_to}
use Rattle.channel_audit.proofs.line.read_take.Goals as goal

pub returns-then-not-is_number-clause-none : goal.returns-then-not-is_number-clause-none
returns-then-not-is_number-clause-none c = λ most answer tells.
    let parts = take_parts c.args.text.now c.in-Some.digits.now c.in-Some.word.now c.in-Some.ensures.cut most answer tells in
    let is : is_number c.in-Some.digits.now ≡ false = search rules in
    true≢false (sym parts.numeral ∙ is)

pub returns-in-None-clause-none : goal.returns-in-None-clause-none
returns-in-None-clause-none c = λ most answer tells.
    let parts = take_parts c.args.text.now c.in-Some.digits.now c.in-Some.word.now c.in-Some.ensures.cut most answer tells in
    let short = cut_short 32 4200 c.args.text.now c.in-Some.digits.now c.in-Some.word.now c.in-Some.ensures.cut c.requires.short in
    c.in-None.ensures.none answer
    (subst (λ (n : ℕ). TellsGiven n answer c.in-Some.word.now) (sym (c.number_up_to_many.ensures.number ∙ ap (λ (n : ℕ). min n 100000) parts.value))
    (given_up_to most c.in-Some.word.now short answer parts.given))
