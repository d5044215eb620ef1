use Rattle.std.proofs.Common.{◌∙◌, Some, ap, inl, inr, arith}
use Rattle.ghost_model.specs.core.Values.{Rows}
use Rattle.csv_split.specs.Tables.{column_values, value_in}
use Rattle.csv_split.proofs.TableRows.{no_identifier, identifier_is, value_is}
use Rattle.csv_split.proofs.table.Table.value.Goals as goal
use Rattle.csv_split.proofs.table.Table.value.Goals.{then-identifier-eq0-via-then-identifier-eq0, then-identifier-eq0-via-else-identifier-eq0+then-identifier-self}

pub returns-then-identifier-eq0 : goal.returns-then-identifier-eq0
returns-then-identifier-eq0 c =
    elim c.then-identifier-eq0.branch [
      | then-identifier-eq0-via-then-identifier-eq0 w ↦ no_identifier c.self.inside.rows c.args.identifier c.args.column (column_values c.self.inside.columns.items) (inl w.if-identifier-eq0.true)
          ∙ ap (λ (rows : Rows). value_in rows c.args.identifier c.args.column) c.self.view_is
      | then-identifier-eq0-via-else-identifier-eq0+then-identifier-self w ↦ no_identifier c.self.inside.rows c.args.identifier c.args.column (column_values c.self.inside.columns.items) (inr w.if-identifier-self.true)
          ∙ ap (λ (rows : Rows). value_in rows c.args.identifier c.args.column) c.self.view_is
    ]

pub returns-then-column-eq0 : goal.returns-then-column-eq0
returns-then-column-eq0 c =
    rw c.if-column-eq0.true
    (ap Some c.number_of.ensures ∙ identifier_is c.self.inside.rows c.args.identifier (column_values c.self.inside.columns.items) (omega arith) (omega arith)
    ∙ ap (λ (rows : Rows). value_in rows c.args.identifier 0) c.self.view_is)

pub returns : goal.returns
returns c =
    rw c.deref.ensures.value at c.cell_at.ensures
    ∙ value_is c.self.inside.rows c.args.identifier c.args.column (column_values c.self.inside.columns.items) c.self.invariant.long (omega arith) (omega arith) (omega arith)
    ∙ ap (λ (rows : Rows). value_in rows c.args.identifier c.args.column) c.self.view_is
