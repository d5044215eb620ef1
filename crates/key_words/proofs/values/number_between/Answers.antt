use Rattle.std.proofs.Common.{◌∙◌, sym, arith}
use Rattle.key_words.proofs.Blocks.{some_bytes, said, out_of_range, no_number}
use Rattle.key_words.proofs.values.number_between.Goals as goal

pub returns-then-number-least-clause-value : goal.returns-then-number-least-clause-value
returns-then-number-least-clause-value c =
    let either = c.then-number-least.either in
    out_of_range c.args.least c.args.most c.args.text.now c.parse.result c.in-Ok.number c.parse.ensures.value.0 (sym c.are_digits.ensures.value ∙ c.if-not-are_digits.false)
    c.in-Ok.is (λ low high. omega (arith, either, low, high))

pub returns-else-number-most-clause-value : goal.returns-else-number-most-clause-value
returns-else-number-most-clause-value c =
    let short = c.if-text-gt-MAX_DIGITS.false in
    said c.args.least c.args.most c.args.text.now c.parse.result c.in-Ok.number c.parse.ensures.value.0 (sym c.are_digits.ensures.value ∙ c.if-not-are_digits.false)
    (some_bytes c.args.text.now (sym c.is_empty.ensures ∙ c.if-is_empty.false)) (omega (arith, short)) c.in-Ok.is c.if-number-least.false c.if-number-most.false

pub returns-in-Err-clause-value : goal.returns-in-Err-clause-value
returns-in-Err-clause-value c =
    no_number c.args.least c.args.most c.args.text.now c.parse.result c.in-Err.field-0 (some_bytes c.args.text.now (sym c.is_empty.ensures ∙ c.if-is_empty.false)) (omega arith) c.parse.ensures.value.0 (sym c.are_digits.ensures.value ∙ c.if-not-are_digits.false) c.in-Err.is
