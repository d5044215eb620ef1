use Rattle.std.proofs.Common.{◌∙◌, ap, sym, option_map}
use Rattle.tree_schema.specs.Views.{table_of}
use Rattle.key_inputs.proofs.Telling.{name_bytes}
use Rattle.key_inputs.proofs.opening.file_of.Goals as goal

pub table_file-requires : goal.table_file-requires
table_file-requires c =
    let tree = c.schemas_are_trees.ensures c.args.schema.now c.tables-tables.ensures.declared in
    let held = sym c.table.ensures ∙ ap (option_map (λ found. table_of found.now)) c.in-Some.is in
    record { named = rw c.deref.ensures.0 (name_bytes c.in-Some.found.now.name.items (tree.table_names_are_names c.args.table (table_of c.in-Some.found.now) held)) }
