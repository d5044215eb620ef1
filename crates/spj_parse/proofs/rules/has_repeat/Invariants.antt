use Rattle.std.proofs.Common.{◌≡◌, drop}
use Rattle.ghost_model.specs.refusals.QueryMeaning.{has_repeat}
use Rattle.spj_parse.proofs.rules.has_repeat.Given as goal

abbrev pub invariant-loop-place : goal.invariant-loop-place
invariant-loop-place l = has_repeat l.tables ≡ has_repeat (drop l.place l.tables)
