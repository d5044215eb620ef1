-- A take that gave something, or the end, is no fault.
use Rattle.std.proofs.Common.{◌≡◌, ℕ, zero, suc, List, Ok, refl}
use Rattle.edge_traits.specs.Links.{gave, faults_after}

pub no_fault : (E : Type 0) (count : ℕ) (buffer : List ℕ) (faults : ℕ) → faults_after (gave {E = E} (Ok count) buffer) faults ≡ faults
no_fault E zero buffer faults = refl
no_fault E (suc count) buffer faults = refl
