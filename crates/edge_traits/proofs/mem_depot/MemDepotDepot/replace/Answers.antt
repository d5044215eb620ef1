use Rattle.std.proofs.Common.{refl, ◌∙◌, ap}
use Rattle.std.specs.FinMap as map
use Rattle.edge_traits.proofs.Inserts.{others_kept}
use Rattle.edge_traits.proofs.mem_depot.MemDepotDepot.replace.Goals as goal

pub returns-clause-others : goal.returns-clause-others
returns-clause-others c =
    others_kept c.args.self.now.files.files c.put.new.self.files c.args.name.now c.args.bytes.now
    (c.if-not-put.ensures.put refl ∙ ap (λ n. map.insert c.args.self.now.files.files n c.args.bytes.now) c.as_bytes.ensures.value)
