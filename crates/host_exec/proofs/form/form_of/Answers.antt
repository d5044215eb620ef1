use Rattle.std.proofs.Common.{List, map, ap, ◌∙◌}
use Rattle.std.specs.Cmp.{second_so}
use Rattle.ghost_model.specs.core.Channel.{ColumnTest}
use Rattle.ghost_model.specs.core.Groups.{ends}
use Rattle.channel_codec.specs.AskViews.{test_view}
use Rattle.channel_codec.specs.declared.ask.ColumnTest as code
use Rattle.host_exec.specs.RowBytes.{ByteTest, test_of}
use Rattle.host_exec.proofs.Checks.{ends_mapped}
use Rattle.host_exec.proofs.form.form_of.Goals as goal

-- the conditions end their groups where those of the ask do
pub returns-clause-ended : goal.returns-clause-ended
returns-clause-ended c =
    let tests : List ColumnTest = map test_view c.args.ask.now.tests.items in
    ap (ends (λ (test : ByteTest). test.more)) (c.checks_of.ensures ∙ ap (λ (held : List code.ColumnTest). map (test_of c.args.schema.now c.args.ask.now.table) (map test_view held)) c.deref-2.ensures.0)
    ∙ (ends_mapped (λ (test : ByteTest). test.more) (test_of c.args.schema.now c.args.ask.now.table) tests
    ∙ second_so _ _ c.requires)
