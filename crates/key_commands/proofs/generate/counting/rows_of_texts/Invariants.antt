use Rattle.std.proofs.Common.{◌≡◌, ◌≤◌, ◌+◌, ◌++◌, length, map}
use Rattle.arrayvec.specs.ArrayVec.{array_vec_len}
use Rattle.ghost_model.specs.core.Texts.{texts_of}
use Rattle.key_commands.specs.generate.Counting.{rows_of_text}
use Rattle.key_commands.proofs.generate.counting.rows_of_texts.Given as goal

abbrev pub invariant-loop-earlier : goal.invariant-loop-earlier
invariant-loop-earlier l =
    (l.counts.items ++ map (rows_of_text l.clinic.schema l.clinic.tables) l.texts ≡ map (rows_of_text l.clinic.schema l.clinic.tables) (texts_of l.script))
    × (l.earlier + length l.texts ≤ 64) × (array_vec_len l.counts ≡ l.earlier)
