use Rattle.std.proofs.Common.{◌+◌, ℕ, List, drop, slice_index, ap, ◌∙◌, arith}
use Rattle.channel_codec.proofs.AskReading.{no_ask_of_columns, no_ask_of_tests}
use Rattle.channel_codec.proofs.asking.ask_like.Goals as goal

pub returns-then-columns-gt-MAX_COLUMNS-clause-none : goal.returns-then-columns-gt-MAX_COLUMNS-clause-none
returns-then-columns-gt-MAX_COLUMNS-clause-none c =
    let tree = c.schemas_are_trees.ensures c.args.schema.now c.tables.ensures.declared in
    no_ask_of_columns c.args.schema.now c.args.payload.now tree.few_columns c.asks_have_one_spelling.ensures
    (omega (arith, c.byte_at-columns.ensures, c.if-columns-gt-MAX_COLUMNS.true))

pub returns-then-tests-gt-MAX_CONDITIONS-clause-none : goal.returns-then-tests-gt-MAX_CONDITIONS-clause-none
returns-then-tests-gt-MAX_CONDITIONS-clause-none c =
    let tree = c.schemas_are_trees.ensures c.args.schema.now c.tables.ensures.declared in
    let after = c.behind-after.ensures ∙ ap (λ (n : ℕ). drop (2 + n) c.args.payload.now) c.byte_at-columns.ensures in
    let count = c.byte_at-tests.ensures ∙ ap (λ (bs : List ℕ). slice_index bs 0) after in
    no_ask_of_tests c.args.schema.now c.args.payload.now tree.few_columns c.asks_have_one_spelling.ensures
    (omega (arith, count, c.if-tests-gt-MAX_CONDITIONS.true))
