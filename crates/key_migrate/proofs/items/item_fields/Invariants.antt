use Rattle.std.proofs.Common.{map}
use Rattle.spj_parse.specs.Views.{field_of}
use Rattle.key_migrate.proofs.ItemLemmas.{AreSoFar}
use Rattle.key_migrate.proofs.items.item_fields.Given as goal

abbrev pub invariant-loop-item : goal.invariant-loop-item
invariant-loop-item l = AreSoFar l.schema (map (λ item. item.now) l.items) l.item-index (map field_of l.fields.items)
