use Rattle.std.proofs.Common.{rules, ◌≡◌, ◌∙◌, ◌∷◌, ◌++◌, ℕ, ◌+◌, true, List, length, ap, sym, subst, arith}
use Rattle.edge_traits.specs.MemDevices.{device_of}
use Rattle.page_pool.specs.Pools.{AreOut}
use Rattle.page_pool.proofs.Leases.{lease_outs, outs_swapped}
use Rattle.candidate_lists.specs.declared.scratch.Scratch.{Scratch}
use Rattle.candidate_lists.proofs.Frames.{no_page_leased}
use Rattle.spill_pass.specs.Merging.{area_pages}
use Rattle.merge_tests.proofs.Sifted.{beside_run}
use Rattle.merge_tests.proofs.sifting.sifted.Goals as goal

pub steps-init : goal.steps-init
steps-init c =
    let a = c.args in
    let r = c.requires in
    let device = device_of a.flash.now in
    let all = c.all-candidates.ensures in
    let candidates = c.all-candidates.result in
    let writer = c.in-Some.writer in
    let lease = c.in-Some-lease.lease in
    let first = c.in-Some.ensures in
    let second = c.in-Some-lease.ensures in
    let pool = c.lease-2.new.self in
    let outs = lease_outs c.lease.new.self lease (writer ∷ a.filter) second.leased second.was_free (lease_outs a.pool.now writer a.filter first.leased first.was_free r.out) in
    let L : List ℕ → Type 0 = λ ls. AreOut pool ((writer ∷ ls) ++ lease ∷ a.filter) in
    let one : length c.push.new.self.items ≡ 1 = search rules in
    let begun = c.begin-sifting.ensures in
    let area = candidates.scratch.other_lists in
    let at : area ≡ a.first = ap (λ (s : Scratch). s.other_lists) all.scratch in
    record {
      is = begun.sifting true device pool (all.held true device pool r.area)
          (record {
            leases = subst L (sym all.leases) (outs_swapped pool lease writer a.filter outs);
            readable = record { has = r.run; wide = omega (arith, r.width, one); few = omega (arith, one) };
            rows = omega (arith, all.rows);
            place_is = omega (arith, one);
            some = r.some;
            outside = λ i within.
                beside_run a.below area (area + area_pages candidates.rows) i r.width (omega (arith, r.before, at)) within;
            no_page = no_page_leased c.lease.new.self lease second.leased;
          });
      area = begun.begun.area ∙ at;
      next = ap (λ (s : Scratch). s.other_lists) begun.begun.scratch ∙ at;
    }
