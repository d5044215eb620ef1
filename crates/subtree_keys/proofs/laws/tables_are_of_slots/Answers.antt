use Rattle.subtree_keys.proofs.HeldTables.{tables_are}
use Rattle.subtree_keys.proofs.laws.tables_are_of_slots.Goals as goal

pub returns : goal.returns
returns c = record { same = tables_are }
