use Rattle.std.proofs.Common.{refl, sym, ◌∙◌, ap, length}
use Rattle.edge_traits.specs.Told.{sizes}
use Rattle.edge_traits.proofs.ToldEntries.{sized_push, told_push}
use Rattle.edge_traits.proofs.told.ToldMoves.add.Goals as goal

pub invariant_of-self : goal.invariant_of-self
invariant_of-self c = record {
  sized = ap sizes c.push_reserved.ensures.items ∙ sized_push c.args.self.now.list.items c.args.told c.args.self.now.bytes.items c.args.bytes.now c.args.self.now.sized c.requires.sized ∙ ap length (sym c.add.ensures.items);
}

pub returns-clause-told : goal.returns-clause-told
returns-clause-told c =
    told_push c.args.self.now _ c.args.told c.args.bytes.now refl (sym c.has_room.ensures.room ∙ c.if-not-has_room.false) c.push_reserved.ensures.items c.add.ensures.items c.args.self.now.sized
