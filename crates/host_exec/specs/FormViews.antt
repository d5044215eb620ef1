-- What the forms of the code are as asks over the bytes of rows.
use Rattle.std.specs.Prelude.{ℕ, ◌-◌, map, take}
use Rattle.ghost_base.specs.Views.{operator_of}
use Rattle.host_exec.specs.RowBytes as rows
use Rattle.host_exec.specs.declared.form.Span.{Span}
use Rattle.host_exec.specs.declared.form.CellTest.{CellTest}
use Rattle.host_exec.specs.declared.form.CellTest.TheVariants.{Compared, IsNull, IsNotNull}
use Rattle.host_exec.specs.declared.form.Check.{Check}
use Rattle.host_exec.specs.declared.form.Form.{Form}

abbrev pub span_view : Span → rows.Span
span_view span = record { at = span.at; size = span.size }

-- the plain cells of the column have this width
abbrev pub cell_test_view : (width : ℕ) → CellTest → rows.CellTest
cell_test_view width (Compared operator literal) = rows.Compared (operator_of operator) (take width literal)
cell_test_view width IsNull = rows.IsNull
cell_test_view width IsNotNull = rows.IsNotNull

abbrev pub check_view : Check → rows.ByteTest
check_view check =
    record {
      span = span_view check.span;
      nullable = check.nullable;
      tested = cell_test_view (check.span.size - rows.flag_width check.nullable) check.tested;
      more = check.more;
    }

abbrev pub form_view : Form → rows.Form
form_view form =
    record { width = form.width; columns = map span_view form.columns.items; tests = map check_view form.checks.items }
