use Rattle.std.proofs.Common.{◌≡◌, false, take}
use Rattle.std.specs.List.{list_any}
use Rattle.ghost_model.specs.forms.Left.{is_same_field}
use Rattle.spj_parse.specs.Views.{field_of}
use Rattle.key_migrate.proofs.items.is_among.Given as goal

abbrev pub invariant-loop-other : goal.invariant-loop-other
invariant-loop-other l = list_any (λ other. is_same_field (field_of l.one) (field_of other)) (take l.other-index l.fields) ≡ false
