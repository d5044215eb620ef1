use Rattle.std.proofs.Common.{◌≡◌, ◌-◌, length}
use Rattle.script_asks.specs.Left.{asks_after}
use Rattle.script_asks.proofs.queries.next_ask.Given as goal

abbrev pub invariant-tables : goal.invariant-tables
invariant-tables l = asks_after l.schema l.query l.first ≡ asks_after l.schema l.query l.table

abbrev pub decreases-tables : goal.decreases-tables
decreases-tables l = length l.schema - l.table
