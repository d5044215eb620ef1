use Rattle.std.proofs.Common.{length}
use Rattle.key_inputs.proofs.schema_names.name_after.Given as goal

abbrev pub decreases-loop-token : goal.decreases-loop-token
decreases-loop-token l = length l.cursor
