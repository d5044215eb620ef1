use Rattle.subtree_keys.proofs.HeldTables.{held_but}
use Rattle.subtree_keys.proofs.laws.held_tables_are_held_but.Goals as goal

pub returns : goal.returns
returns c = record { but = held_but }
