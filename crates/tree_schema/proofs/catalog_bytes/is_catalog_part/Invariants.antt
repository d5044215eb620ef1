use Rattle.std.proofs.Common.{◌≡◌, length, take, drop, bytes_eq}
use Rattle.ghost_model.specs.forms.Catalog.{catalog_bytes}
use Rattle.tree_schema.proofs.catalog_bytes.is_catalog_part.Given as goal

abbrev pub invariant-loop-rest : goal.invariant-loop-rest
invariant-loop-rest l =
    bytes_eq l.bytes (take (length l.bytes) (drop l.initial.at (catalog_bytes l.cat)))
    ≡ bytes_eq l.rest (take (length l.rest) (drop l.at (catalog_bytes l.cat)))

abbrev pub decreases-loop-rest : goal.decreases-loop-rest
decreases-loop-rest l = length l.rest
