use Rattle.std.proofs.Common.{◌∙◌, ◌&&◌, nat_lt, nat_le, Bool, List, length, ap, sym}
use Rattle.std.specs.List.{list_all}
use Rattle.ghost_model.specs.core.Schema.{is_visible}
use Rattle.ghost_model.specs.core.Groups.{ends}
use Rattle.ghost_model.specs.core.Asks.{ascend_from}
use Rattle.channel_codec.specs.declared.ask.ColumnTest.{ColumnTest}
use Rattle.channel_codec.specs.AskViews.{test_view, has_kind}
use Rattle.channel_codec.proofs.AskWriting.{proper_by_parts}
use Rattle.channel_codec.proofs.ask.is_proper.Goals as goal

pub returns-then-columns : goal.returns-then-columns
returns-then-columns c =
    let table = c.args.ask.now.table in
    let columns = ap (λ (xs : List _). nat_lt table (length c.args.schema.now) && list_all (is_visible c.args.schema.now table) xs && ascend_from 0 xs) c.deref.ensures.0 in
    let tests = ap (λ (xs : List ColumnTest). nat_le (length xs) 16 && list_all (λ test. is_visible c.args.schema.now table test.column) xs && list_all (λ test. has_kind c.args.schema.now table (test_view test)) xs && ends (λ test. test.more) xs) c.deref-2.ensures.0 in
    ap (λ (b : Bool). b && c.are_tests-tests.result) (sym c.if-columns.true)
    ∙ proper_by_parts c.args.schema.now c.args.ask.now c.are_columns-columns.result c.are_tests-tests.result (c.are_columns-columns.ensures ∙ columns) (c.are_tests-tests.ensures ∙ tests)

pub returns-else-columns : goal.returns-else-columns
returns-else-columns c =
    let table = c.args.ask.now.table in
    let columns = ap (λ (xs : List _). nat_lt table (length c.args.schema.now) && list_all (is_visible c.args.schema.now table) xs && ascend_from 0 xs) c.deref.ensures.0 in
    let tests = ap (λ (xs : List ColumnTest). nat_le (length xs) 16 && list_all (λ test. is_visible c.args.schema.now table test.column) xs && list_all (λ test. has_kind c.args.schema.now table (test_view test)) xs && ends (λ test. test.more) xs) c.deref-2.ensures.0 in
    c.if-columns.false ∙ (ap (λ (b : Bool). b && c.are_tests-tests.result) (sym c.if-columns.false)
    ∙ proper_by_parts c.args.schema.now c.args.ask.now c.are_columns-columns.result c.are_tests-tests.result (c.are_columns-columns.ensures ∙ columns) (c.are_tests-tests.ensures ∙ tests))
