use Rattle.std.proofs.Common.{◌≡◌, ◌<◌, None, drop, get_or}
use Rattle.std.specs.Option.{option_or}
use Rattle.ghost_model.specs.core.Schema as schema
use Rattle.tree_schema.proofs.Parents.{first_holder}
use Rattle.tree_schema.proofs.schema.Schema.parents.Given as goal

-- the parents that were found, and those that later tables may be
abbrev pub invariant-loop-holder : goal.invariant-loop-holder
invariant-loop-holder l =
    (child : _) → child < 12
    → option_or (get_or l.parents child None) (first_holder child l.holder (drop l.holder l.self)) ≡ schema.parent l.self child
