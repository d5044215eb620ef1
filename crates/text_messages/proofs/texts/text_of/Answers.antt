use Rattle.std.proofs.Common.{arith, ◌≡◌, ◌+◌, ◌-◌, ◌∙◌, ap, sym, drop, slice_get}
use Rattle.ghost_model.specs.core.Texts.{texts_of}
use Rattle.text_messages.proofs.TextLemmas.{next_of}
use Rattle.text_messages.proofs.texts.text_of.Goals as goal

pub loop-preserved : goal.loop-preserved
loop-preserved c =
    let kept = c.loop.invariant in
    let texts = texts_of c.args.script.now in
    let read = next_of texts (c.loop.counter - 1) c.in_ok-earlier.earlier.now c.next.new.self (sym kept.2 ∙ c.in_ok-earlier.ensures.taken) in
    let next : c.loop.counter - 1 + 1 ≡ c.loop.counter + 1 - 1 = omega (arith, kept.0) in
    (omega arith, omega (arith, kept.0, c.loop-test.true), read.1 ∙ ap (λ n. drop n texts) next)

pub returns-clause-text : goal.returns-clause-text
returns-clause-text c =
    let kept = c.loop.invariant in
    let texts = texts_of c.args.script.now in
    let read = next_of texts (c.loop.counter - 1) c.in_ok-text.text.now c.next-2.new.self (sym kept.2 ∙ c.in_ok-text.ensures.taken) in
    let last : c.args.number - 1 ≡ c.loop.counter - 1 = omega (arith, kept.0, kept.1, c.loop-test.false) in
    ap (slice_get texts) last ∙ read.0
