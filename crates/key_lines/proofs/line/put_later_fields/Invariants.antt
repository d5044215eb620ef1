use Rattle.std.proofs.Common.{map, take}
use Rattle.arrayvec.specs.ArrayVec.{array_vec_len}
use Rattle.ghost_base.specs.Views.{value_of}
use Rattle.key_lines.proofs.FieldLists.{HasFields}
use Rattle.key_lines.proofs.line.put_later_fields.Given as goal

abbrev pub invariant-loop-value : goal.invariant-loop-value
invariant-loop-value l =
    HasFields l.initial.line.items (array_vec_len l.initial.line) (map value_of (take l.value-index l.values)) l.value-index l.line.items (array_vec_len l.line)
