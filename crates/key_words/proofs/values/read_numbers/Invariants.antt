use Rattle.std.proofs.Common.{◌≡◌, ◌≤◌, length, drop}
use Rattle.arrayvec.specs.ArrayVec.{array_vec_len}
use Rattle.key_words.specs.Blocks.{most_numbers}
use Rattle.key_words.specs.Words.{parts_of}
use Rattle.key_words.proofs.Paces.{after, numbers}
use Rattle.key_words.proofs.values.read_numbers.Given as goal

abbrev pub invariant-loop-piece : goal.invariant-loop-piece
invariant-loop-piece l =
    record {
      can : (goal.iterator-loop-piece).can_next l.piece-iterator;
      finite : (goal.iterator-loop-piece).is_finite l.piece-iterator;
      count : array_vec_len l.pace ≡ length l.yielded;
      few : array_vec_len l.pace ≤ most_numbers;
      rest : after l.pace.items (numbers (drop (length l.yielded) (parts_of l.text))) ≡ numbers (parts_of l.text);
    }
