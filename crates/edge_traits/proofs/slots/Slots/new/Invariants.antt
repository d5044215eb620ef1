use Rattle.edge_traits.proofs.InSlots.{AreMade}
use Rattle.edge_traits.proofs.slots.Slots.new.Given as goal

abbrev pub invariant-loop : goal.invariant-loop
invariant-loop l = AreMade l.counter l.name_bytes l.file_bytes l.slots.items
