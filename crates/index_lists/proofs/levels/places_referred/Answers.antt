use Rattle.std.proofs.Common.{◌∙◌, ◌-◌, ◌<◌, ap, map, arith}
use Rattle.std.proofs.lemmas.List.{take_all}
use Rattle.std.proofs.lemmas.List.Elements.{All-same}
use Rattle.index_lists.specs.Ranks.{identifier_of}
use Rattle.index_lists.proofs.NamedRows.{places_below}
use Rattle.index_lists.proofs.levels.places_referred.Goals as goal

pub returns-clause-below : goal.returns-clause-below
returns-clause-below c =
    let keys = c.args.keys.now in
    let all = c.loop-key.invariant.places ∙ ap (λ ks. map (λ identifier. identifier - 1) (map identifier_of ks)) (take_all c.loop-key.key-index keys (omega arith)) in
    All-same (λ place. place < c.args.rows) c.loop-key.places.items (map (λ identifier. identifier - 1) (map identifier_of keys)) all (places_below c.args.rows keys c.requires.named)
