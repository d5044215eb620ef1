use Rattle.std.proofs.Common.{true, length, ap, arith}
use Rattle.edge_traits.specs.MemDevices.{device_of}
use Rattle.page_pool.specs.Pools.{Pool, free_count}
use Rattle.id_merge.specs.Cursors.{leases_of}
use Rattle.spill_pass.specs.Places.{source_of}
use Rattle.candidate_lists.specs.declared.candidates.Candidates.{Candidates}
use Rattle.candidate_lists.proofs.Frames.{goes_none, goes_then}
use Rattle.merge_tests.proofs.Counted.{counted}
use Rattle.merge_tests.proofs.unions.opened.Goals as goal

pub lists-init : goal.lists-init
lists-init c =
    let w = c.within-opening.ensures in
    record {
      ready = rw (w.lists) c.requires.ready;
      opening = rw (w.lists, w.candidates, w.opened) (w.opening true (device_of c.args.flash.now) c.args.pool.now c.requires.held c.requires.can);
      goes = rw (w.lists, w.candidates) (goes_none (source_of c.args.lists) c.args.uniting.candidates c.requires.can.leases);
    }

pub lists-preserved : goal.lists-preserved
lists-preserved c =
    let e = c.step.ensures in
    record { ready = e.ready; opening = e.opening; goes = goes_then c.lists.invariant.goes e.goes }

pub returns-in-Ok-true-clause-held : goal.returns-in-Ok-true-clause-held
returns-in-Ok-true-clause-held c = c.pause.ensures.held true (device_of c.step.new.flash) c.step.ensures.opening

pub returns-in-Ok-true-clause-buffers : goal.returns-in-Ok-true-clause-buffers
returns-in-Ok-true-clause-buffers c =
    omega (
      arith,
      ap (λ (p : Pool). free_count p) c.pause.ensures.given,
      ap (λ (x : Candidates). length (leases_of x.merge.cursors.items)) c.pause.ensures.candidates,
      counted (goes_then c.lists.invariant.goes c.step.ensures.goes) c.requires.can.leases,
    )
