use Rattle.std.proofs.Common.{refl}
use Rattle.ghost_model.specs.core.Schema.{places_from}
use Rattle.tree_schema.specs.Nulls.{changed_at}
use Rattle.key_migrate.specs.Items.{refused_behind}
use Rattle.key_migrate.proofs.examples.items_of_the_clinic.Goals as goal

pub returns : goal.returns
unfolding refused_behind changed_at places_from
returns c = record {
  none = refl;
  of_all_tables = refl;
  of_any_case = refl;
  identifier = refl;
  foreign_key = refl;
  no_point = refl;
  nothing = refl;
  blank = refl;
  no_such_table = refl;
  no_such_column = refl;
  two_points = refl;
  again = refl;
  first_of_two = refl;
  already = refl;
}
