use Rattle.std.proofs.Common.{◌≡◌, ◌∙◌, ap, ◌++◌, drop, replicate, ℕ, arith}
use Rattle.std.specs.Int.{from_be_bytes, w64}
use Rattle.ghost_model.specs.forms.Runs.{found_in}
use Rattle.flash_pages.proofs.RecordLemmas.{found_bytes, found_begins}
use Rattle.flash_pages.proofs.cells.found_of.Goals as goal

pub returns : goal.returns
unfolding found_in
returns c =
    let found : c.from_be_bytes.result ≡ found_in c.args.cell.now =
    c.from_be_bytes.ensures
    ∙ ap (λ bytes. from_be_bytes w64 bytes)
    (ap (λ front. front ++ drop c.min-count.result (replicate {A = ℕ} 8 0)) c.copy_from_slice.ensures.after
    ∙ found_bytes c.args.cell.now c.min-count.result c.min-count.ensures) in
    record {
      found = found;
      begins = λ long. found_begins c.args.cell.now c.from_be_bytes.result long (λ i. omega (arith, c.type_inv.cell i)) found;
    }
