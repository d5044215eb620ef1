use Rattle.ghost_model.proofs.QueryLemmas.{tree_spells, spelled_tree, stop_fault, fault_stop, stuck_fault, fault_stuck}
use Rattle.ghost_model.proofs.query.query_places_are_exact.Goals as goal

pub returns : goal.returns
returns c = record {
  tree = λ text tree. (tree_spells text tree, spelled_tree text tree);
  fault = λ text at. (stop_fault text at, fault_stop text at);
  stuck = λ text at. (stuck_fault text at, fault_stuck text at);
}
