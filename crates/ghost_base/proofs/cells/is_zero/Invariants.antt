use Rattle.std.proofs.Common.{◌≡◌, ◌==◌, ◌&&◌, length}
use Rattle.std.specs.List.{list_all}
use Rattle.ghost_base.proofs.cells.is_zero.Given as goal

abbrev pub invariant-bytes : goal.invariant-bytes
invariant-bytes l = record {
  same : (l.most == 0 && list_all (λ byte. byte == 0) l.left) ≡ list_all (λ byte. byte == 0) l.padding;
}

abbrev pub decreases-bytes : goal.decreases-bytes
decreases-bytes l = length l.left
