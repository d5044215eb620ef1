use Rattle.std.proofs.Common.{◌≡◌, ◌-◌, ◌≤◌, ℕ, List, ◌++◌, length, IsTrue}
use Rattle.arrayvec.specs.ArrayVec.{array_vec_len}
use Rattle.ghost_model.specs.forms.Catalog.{counts_bytes}
use Rattle.tree_schema.specs.Catalogs.{are_counts}
use Rattle.tree_schema.proofs.CountsLemmas.{GoesOn}
use Rattle.tree_schema.proofs.catalog_reading.counts_of.Given as goal

abbrev pub invariant-loop-rest : goal.invariant-loop-rest
invariant-loop-rest l =
    record {
      few : array_vec_len l.counts ≤ l.tables;
      within : IsTrue (are_counts l.counts.items);
      goes_on :
          (counts later : List ℕ) → length counts ≡ l.tables → IsTrue (are_counts counts) → l.bytes ≡ counts_bytes counts ++ later
          → GoesOn l.counts.items l.rest counts later;
    }

abbrev pub decreases-loop-rest : goal.decreases-loop-rest
decreases-loop-rest l = l.tables - array_vec_len l.counts
