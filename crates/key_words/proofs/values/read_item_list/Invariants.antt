use Rattle.std.proofs.Common.{◌≡◌, ◌≤◌}
use Rattle.arrayvec.specs.ArrayVec.{array_vec_len}
use Rattle.key_words.specs.Blocks.{most_items}
use Rattle.key_words.proofs.values.read_item_list.Given as goal

abbrev pub invariant-loop-item : goal.invariant-loop-item
invariant-loop-item l =
    record {
      can : (goal.iterator-loop-item).can_next l.item-iterator;
      finite : (goal.iterator-loop-item).is_finite l.item-iterator;
      few : array_vec_len l.items ≤ most_items;
      read : l.items.items ≡ l.yielded;
    }
