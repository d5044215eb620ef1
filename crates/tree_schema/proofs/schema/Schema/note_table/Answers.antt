use Rattle.std.proofs.Common.{◌∙◌, ap, sym, not, None, get_or, option_map}
use Rattle.std.specs.List.{list_any}
use Rattle.ghost_model.specs.core.Schema as schema
use Rattle.tree_schema.specs.Schemas.{noted}
use Rattle.tree_schema.specs.Views.{column_of, table_of}
use Rattle.tree_schema.specs.declared.schema.Column.{Column}
use Rattle.tree_schema.proofs.FirstPlaces.{some_place}
use Rattle.tree_schema.proofs.Parents.{noted_none, none_named}
use Rattle.tree_schema.proofs.schema.Schema.note_table.Goals as goal

pub returns-in-None : goal.returns-in-None
returns-in-None c =
    let held = sym c.table.ensures ∙ ap (option_map (λ found. table_of found.now)) c.in-None.is in
    record {
      noted = λ child h.
          noted_none c.args.holder (get_or c.args.parents.now child None)
          ∙ ap (λ named. noted c.args.holder named (get_or c.args.parents.now child None))
          (sym (none_named child) ∙ ap (λ table. not (schema.is_empty (schema.places_where (λ column. schema.is_table child column.child) (schema.columns_or_none table)))) (sym held));
    }

pub returns-in-Some : goal.returns-in-Some
returns-in-Some c =
    let held = sym c.table.ensures ∙ ap (option_map (λ found. table_of found.now)) c.in-Some.is in
    record {
      noted = λ child h.
          c.note_keys.ensures.noted child h
          ∙ ap (λ named. noted c.args.holder named (get_or c.args.parents.now child None))
          (ap (λ columns. list_any (λ (column : Column). schema.is_table child column.child) columns) c.deref.ensures.0
          ∙ sym (some_place column_of (λ column. schema.is_table child column.child) c.in-Some.found.now.columns.items 0)
          ∙ ap (λ table. not (schema.is_empty (schema.places_where (λ column. schema.is_table child column.child) (schema.columns_or_none table)))) (sym held));
    }
