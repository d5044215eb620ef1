use Rattle.std.proofs.Common.{rules, sym, subst}
use Rattle.edge_traits.specs.Slots.{HasRoom, Stored}
use Rattle.edge_traits.proofs.InSlots.{no_place}
use Rattle.edge_traits.proofs.slots.Slots.put.Goals as goal

pub returns-then-self-len-clause-fits : goal.returns-then-self-len-clause-fits
returns-then-self-len-clause-fits c = λ room.
    let slots = c.self.inside in
    absurd (no_place c.args.name.now c.args.bytes.now slots.used slots.name_bytes slots.file_bytes slots.slots.items (search rules) (search rules)
    (subst (λ (stored : Stored). HasRoom stored c.args.name.now c.args.bytes.now) (sym c.self.view_is) room))
