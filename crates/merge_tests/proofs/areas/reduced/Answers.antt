use Rattle.std.proofs.Common.{ℕ, ◌∷◌, [], true, sym, subst, arith}
use Rattle.edge_traits.specs.MemDevices.{device_of}
use Rattle.page_pool.specs.Pools.{AreOut, page_at}
use Rattle.std.specs.Prelude.{◌≡◌, None}
use Rattle.flash_pages.specs.Reads.{CanRead}
use Rattle.spill_pass.specs.declared.groups.PlacedLists.{PlacedLists}
use Rattle.spill_pass.specs.declared.reduce.Areas.{Areas}
use Rattle.spill_pass.specs.Listings.{source_in}
use Rattle.spill_pass.specs.Places.{source_of}
use Rattle.spill_pass.specs.Reducing.{IsReducing}
use Rattle.merge_tests.proofs.AreasLaid.{ReadsPlaced, can_give_from, can_reduce}
use Rattle.merge_tests.proofs.areas.reduced.Goals as goal

pub steps-init : goal.steps-init
steps-init c =
    let a = c.args in
    let r = c.requires in
    let device = device_of a.flash.now in
    let three = c.lease_three-three in
    let pool = three.new.pool in
    let reader = c.begin-reader.result in
    let b = c.begin-reader.ensures in
    let placed : PlacedLists = record { places = a.places; lists = a.lists } in
    let reads : ReadsPlaced placed reader = record { places = b.places; lists = b.lists; at = b.at; next = b.next } in
    let O : ℕ → Type 0 = λ l. AreOut pool (l ∷ three.result.places ∷ three.result.lists ∷ []) in
    let N : ℕ → Type 0 = λ l. page_at pool l ≡ None in
    let out = subst O (sym b.lease) three.ensures.out in
    let begun = c.begin-reduce.ensures in
    let I : Areas → Type 0 = λ x. IsReducing true device pool (source_in source_of c.begin-reduce.result.pass.lists) x c.begin-reduce.result.pass.groups c.begin-reduce.result.pass.fan c.begin-reduce.result.pass.merging in
    record {
      ready =
          begun.ready true device pool
          (can_give_from a.first a.rows placed reader r.there reads r.lists r.places r.rows r.few (subst N (sym b.lease) three.ensures.none) (out.0, tt)
          (λ run width buffer. let B : ℕ → Type 0 = λ l. CanRead true device pool l in b.ready true device pool run width (subst B b.lease buffer)));
      reducing =
          subst I (sym begun.areas)
          (begun.reducing true device pool
          (can_reduce a.first a.rows a.room three.result.lists three.result.places c.areas_from-areas.result placed reader c.areas_from-areas.ensures.from
          r.there reads r.lists r.places r.rows r.few out (omega (arith, r.buffers, three.ensures.free))));
    }
