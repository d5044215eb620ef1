use Rattle.std.proofs.Common.{◌∙◌, ◌<◌, ap, map, arith}
use Rattle.std.proofs.lemmas.List.{take_all}
use Rattle.std.proofs.lemmas.List.Elements.{All-same}
use Rattle.index_lists.specs.Ranks.{identifier_of, of_referred}
use Rattle.index_lists.proofs.NamedRows.{ranks_below}
use Rattle.index_lists.proofs.levels.ranks_above.Goals as goal

pub returns-clause-below : goal.returns-clause-below
returns-clause-below c = λ entries below.
    let ranks = c.args.ranks.now in
    let keys = c.args.keys.now in
    let all = c.loop-key.invariant.ranks ∙ ap (λ ks. of_referred ranks (map identifier_of ks)) (take_all c.loop-key.key-index keys (omega arith)) in
    All-same (λ rank. rank < entries) c.loop-key.above.items (of_referred ranks (map identifier_of keys)) all (ranks_below ranks entries keys c.requires.named below)
