use Rattle.std.proofs.Common.{◌≡◌, ◌+◌, ℕ, List, take, drop, refl, ap, ◌∙◌, arith}
use Rattle.ghost_model.specs.core.Asks as asks
use Rattle.ghost_model.specs.core.Schema.{Kind, plain_of}
use Rattle.ghost_model.specs.readings.AskReading as reading
use Rattle.ghost_model.specs.readings.CellReading.{decode_cell}
use Rattle.ghost_base.specs.Views.{kind_of}
use Rattle.channel_codec.proofs.AskReading.{width_read, test_read, all_read, more_read}
use Rattle.channel_codec.proofs.asking.tests_in.Goals as goal

pub tests-preserved : goal.tests-preserved
tests-preserved c =
    let code = c.code_in-more.ensures.code ∙ ap reading.code_in c.byte_at.ensures in
    let more = c.code_in-more.ensures.more ∙ ap reading.says_more c.byte_at.ensures in
    let cell = c.front.ensures ∙ ap (λ (bs : List ℕ). take c.literal_width-width.result bs) c.behind.ensures in
    let literal = c.value_in-value.ensures ∙ ap (λ (k : Kind). reading.value_or_none (decode_cell k c.front.result.now)) c.plain.ensures in
    let test = test_read c.args.schema.now c.args.table c.tests.rest.now _ _ _ _ _ _ refl c.byte_at-column.ensures code more
    c.kind_at-kind.ensures.kind c.literal_width-width.ensures.width cell
    (c.test_with-test.ensures.test (kind_of c.kind_at-kind.result) c.front.result.now literal) in
    let width = width_read c.args.schema.now c.args.table c.tests.rest.now _ _ _ c.literal_width-width.ensures.width code
    (c.kind_at-kind.ensures.kind ∙ ap (asks.kind_at c.args.schema.now c.args.table) c.byte_at-column.ensures) in
    record {
      told = more_read c.args.schema.now c.args.table c.tests.left c.tests.rest.now c.behind-rest.result.now c.tests.tests.items _ _ _
          c.tests-test.true c.push.ensures.items test (c.behind-rest.ensures ∙ ap (λ (n : ℕ). drop (2 + n) c.tests.rest.now) width) c.tests.invariant.told;
      room = omega (arith, c.push.ensures.len, c.tests.invariant.room, c.tests-test.true);
    }

pub returns : goal.returns
returns c =
    let none : c.tests.left ≡ 0 = omega (arith, c.tests-test.false) in
    all_read c.args.schema.now c.args.table c.tests.left c.tests.rest.now c.tests.tests.items _ none c.tests.invariant.told
