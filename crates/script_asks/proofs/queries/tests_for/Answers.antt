use Rattle.std.proofs.Common.{◌++◌, List, append-nil, map, sym, ap, ◌∙◌}
use Rattle.ghost_model.specs.core.Channel.{ColumnTest}
use Rattle.ghost_model.specs.laws.ShortWords.{tests_of}
use Rattle.channel_codec.specs.AskViews.{test_view}
use Rattle.script_asks.proofs.QueryLemmas.{no_group}
use Rattle.script_asks.proofs.queries.tests_for.Goals as goal

pub returns : goal.returns
returns c =
    let so_far = map test_view c.groups.tests.items in
    record {
      tests = sym (append-nil so_far)
          ∙ (ap (λ (xs : List ColumnTest). so_far ++ xs) (sym (no_group (tests_of c.args.schema.now c.args.table) c.groups.left.now c.in_default.ensures.none))
          ∙ c.groups.invariant.told);
    }
