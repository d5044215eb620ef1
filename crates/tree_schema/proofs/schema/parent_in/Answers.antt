use Rattle.std.proofs.Common.{◌∙◌, sym, refl, not}
use Rattle.ghost_model.specs.core.Schema as schema
use Rattle.tree_schema.specs.Views.{table_of}
use Rattle.tree_schema.proofs.FirstPlaces.{first_place}
use Rattle.tree_schema.proofs.schema.parent_in.Goals as goal

pub returns : goal.returns
returns c =
    record {
      parent = c.place_of_holder.ensures
          ∙ sym (first_place table_of (λ holder. not (schema.is_empty (schema.references_to c.args.table (table_of holder)))) (λ table. not (schema.is_empty (schema.references_to c.args.table table))) (λ holder. refl) c.args.tables.now);
    }
