use Rattle.std.proofs.Common.{◌≡◌, ◌≤◌, ◌<◌, ◌-◌, ◌+◌, ◌*◌, ◌^◌, ℕ, slice_index, All}
use Rattle.arrayvec.specs.ArrayVec.{array_vec_len}
use Rattle.host_exec.specs.RowBytes.{table_start}
use Rattle.host_exec.proofs.places.places_of.Given as goal

abbrev pub invariant-tables : goal.invariant-tables
invariant-tables l = record {
  within : l.table ≤ l.tables;
  count : array_vec_len l.starts ≡ l.table;
  end : l.end ≡ table_start l.catalog l.table;
  most : l.end ≤ 16640 + 1560000000 * l.table;
  starts : (table : ℕ) → table < l.table → slice_index l.starts.items table ≡ table_start l.catalog table;
  near : All (λ start. start < 2 ^ 63) l.starts.items;
}

abbrev pub decreases-tables : goal.decreases-tables
decreases-tables l = l.tables - l.table
