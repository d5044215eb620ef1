use Rattle.std.proofs.Common.{◌++◌, refl, ◌∙◌, ap}
use Rattle.std.specs.FinMap as map
use Rattle.edge_traits.specs.Files.{or_empty}
use Rattle.edge_traits.proofs.Inserts.{others_kept}
use Rattle.edge_traits.proofs.mem_depot.MemDepot.add.Goals as goal

pub returns-clause-others : goal.returns-clause-others
returns-clause-others c =
    others_kept c.args.self.now.files.files c.add.new.self.files c.args.name.now
    (or_empty (map.get c.args.self.now.files.files c.args.name.now) ++ c.args.bytes.now)
    (c.if-not-add.ensures.added refl
    ∙ ap (λ n. map.insert c.args.self.now.files.files n (or_empty (map.get c.args.self.now.files.files n) ++ c.args.bytes.now)) c.as_bytes.ensures.value)
