use Rattle.std.proofs.Common.{◌≡◌, map, take}
use Rattle.spj_parse.specs.Views.{field_of}
use Rattle.key_migrate.specs.Fields.{catalog_with}
use Rattle.key_migrate.proofs.items.with_columns.Given as goal

abbrev pub invariant-loop-field : goal.invariant-loop-field
invariant-loop-field l = l.cat ≡ catalog_with l.fn.cat (take l.field-index (map field_of l.fields))
