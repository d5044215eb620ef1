use Rattle.std.proofs.Common.{rules, ◌≡◌, ◌∷◌, ◌+◌, ◌-◌, ℕ, true, length, sym, subst, arith}
use Rattle.edge_traits.specs.MemDevices.{device_of}
use Rattle.page_pool.specs.Pools.{AreOut}
use Rattle.page_pool.proofs.Leases.{lease_outs}
use Rattle.id_merge.specs.Cursors.{leases_of}
use Rattle.spill_pass.specs.Merging.{area_pages}
use Rattle.candidate_lists.proofs.Frames.{held_leased, no_page_leased}
use Rattle.merge_tests.proofs.Counted.{fit}
use Rattle.merge_tests.proofs.unions.take_lists.Goals as goal

pub opened-requires-clause-held : goal.opened-requires-clause-held
opened-requires-clause-held c =
    let one = c.in-Some.ensures in
    held_leased c.in-Some.lease c.args.uniting.candidates c.args.uniting.opened one.leased one.was_free c.requires.held

pub opened-requires-clause-ready : goal.opened-requires-clause-ready
opened-requires-clause-ready c =
    let one = c.in-Some.ensures in
    let s = c.requires.sources in
    c.source-lists.ensures.ready (device_of c.args.flash.now) c.lease.new.self s.places_run s.lists_run s.places_before.width_is s.lists_before.width_is
    one.is_out (no_page_leased c.args.pool.now c.in-Some.lease one.leased)

pub opened-requires-clause-can : goal.opened-requires-clause-can
opened-requires-clause-can c =
    let candidates = c.args.uniting.candidates in
    let one = c.in-Some.ensures in
    let lists = c.source-lists.ensures in
    let s = c.requires.sources in
    let fits : c.fits.result ≡ true = search rules in
    let cursors = candidates.merge.cursors.items in
    let more = c.end-end.result - c.args.sources.now.at in
    let room = fit (length (leases_of cursors) + more) (length cursors + more) (length candidates.merge.unions.items) 62 c.fits.ensures.fits fits in
    let L : ℕ → Type 0 = λ lease. AreOut c.lease.new.self (lease ∷ leases_of candidates.merge.cursors.items) in
    let outs = lease_outs c.args.pool.now c.in-Some.lease (leases_of candidates.merge.cursors.items) one.leased one.was_free c.requires.held.cursors.leases in
    record {
      leases = subst L (sym lists.lease) outs;
      buffers = omega (arith, lists.left, c.end-end.ensures.from, room.leases_fit, c.requires.buffers, one.counted);
      cursors = omega (arith, lists.left, room.cursors_fit);
      unions = room.unions_fit;
      outside =
          lists.outside candidates.scratch.other_lists (candidates.scratch.other_lists + area_pages candidates.rows) s.lists_before s.places_before;
    }
