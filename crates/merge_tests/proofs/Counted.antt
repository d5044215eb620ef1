-- As many buffers are free or held, where others were taken over.
use Rattle.std.proofs.Common.{◌≡◌, ◌+◌, ◌<◌, ◌≤◌, ◌&&◌, ◌∷◌, ℕ, Bool, true, not, nat_le, nat_lt, count_by, length, ap, arith}
use Rattle.std.proofs.lemmas.Bool.Decides.{nat_tests}
use Rattle.edge_traits.specs.Devices.{Device}
use Rattle.page_pool.specs.Pools.{Pool, AreOut, free_count, given}
use Rattle.page_pool.proofs.Leases.{all_given_counts}
use Rattle.page_pool.proofs.Marks.{given_counts}
use Rattle.id_merge.specs.Cursors.{leases_of}
use Rattle.spill_pass.specs.Sources.{Source}
use Rattle.candidate_lists.specs.declared.candidates.Candidates.{Candidates}
use Rattle.candidate_lists.specs.Opens.{OpeningGoes}

pub counted :
    {before now : Device} {pool later : Pool} {source rest : Source} {old new : Candidates} → OpeningGoes before now pool later source rest old new
    → AreOut pool (source.lease ∷ leases_of old.merge.cursors.items)
    → free_count (given later rest.lease) + length (leases_of new.merge.cursors.items) ≡ free_count pool + length (leases_of old.merge.cursors.items) + 1
counted {pool = pool} {later = later} {source = source} {rest = rest} {old = old} {new = new} goes are =
    omega (
      arith,
      all_given_counts pool (source.lease ∷ leases_of old.merge.cursors.items) are,
      all_given_counts later (rest.lease ∷ leases_of new.merge.cursors.items) goes.still,
      given_counts later.out rest.lease goes.still.0.out,
      ap (λ out. count_by not out) goes.beside,
    )

-- what is said to fit
pub record Fit (leases cursors unions room : ℕ) : Type 0 where
  pub leases_fit : leases < room
  pub cursors_fit : cursors ≤ 96
  pub unions_fit : unions < 96

pub fit :
    {result : Bool} (leases cursors unions room : ℕ) → result ≡ (nat_lt leases room && (nat_le cursors 96 && nat_lt unions 96)) → result ≡ true
    → Fit leases cursors unions room
fit leases cursors unions room is said = record {
  leases_fit = grind (arith, nat_tests);
  cursors_fit = grind (arith, nat_tests);
  unions_fit = grind (arith, nat_tests);
}
