use Rattle.std.proofs.Common.{◌≡◌, ◌∙◌, ◌*◌, ◌+◌, ◌++◌, ap, sym, refl, take, ℕ, List, arith}
use Rattle.edge_traits.proofs.DeviceFrames.{kept_same, kept_trans}
use Rattle.std.proofs.Math.Seq.{take-length}
use Rattle.key_migrate.specs.PublicPages.{bytes_before}
use Rattle.key_migrate.proofs.Fronts.{with_page, bytes_next, none_before}
use Rattle.key_migrate.proofs.public_pages.read_front.Goals as goal

pub loop-place-init : goal.loop-place-init
loop-place-init g c = record {
  bytes = λ told. none_before (g.F.Flash.state c.args.flash.now).page;
  size = c.told-bytes;
  kept = kept_same (g.F.Flash.state c.args.flash.now);
  deep_reads = refl;
  faults = refl;
  calls = omega arith;
  most = omega arith;
}

pub loop-place-preserved : goal.loop-place-preserved
loop-place-preserved g c =
    let was = c.loop-place.invariant in
    let read = c.in_ok-read_page.ensures in
    let place = c.loop-place.place in
    let next : (place + 1) * 2048 ≡ place * 2048 + 2048 = omega arith in
    record {
      bytes = λ told.
          ap (λ n. take n c.put_page.new.bytes) next
          ∙ (with_page c.loop-place.bytes c.put_page.new.bytes c.read_page.new.buf (place * 2048)
          (omega (arith, was.size, c.loop-place-test.true)) c.read_page.array_long c.put_page.ensures.put
          ∙ (ap (λ xs. xs ++ c.read_page.new.buf) (was.bytes told)
          ∙ (ap (λ xs. bytes_before (g.F.Flash.state c.loop-place.flash).page place ++ xs) (read.bytes told)
          ∙ (bytes_next (g.F.Flash.state c.loop-place.flash).page place
          ∙ ap (λ (page : ℕ → List ℕ). bytes_before page (place + 1)) (sym read.kept.page)))));
      size = c.put_page.array_long;
      kept = kept_trans was.kept read.kept;
      deep_reads = grind (arith, read.deep_reads, was.deep_reads, c.loop-place-test.true);
      faults = read.cause.other ∙ was.faults;
      calls = omega (arith, was.calls, read.calls);
      most = omega (arith, was.most, read.calls);
    }

pub returns-clause-bytes : goal.returns-clause-bytes
returns-clause-bytes g c = λ told.
    let was = c.loop-place.invariant in
    let last : c.loop-place.place ≡ 9 = omega (arith, c.loop-place-test.false, c.loop-place.auto.place-end) in
    sym (take-length c.loop-place.bytes)
    ∙ (ap (λ n. take n c.loop-place.bytes) (was.size ∙ sym (ap (λ n. n * 2048) last))
    ∙ (was.bytes told ∙ ap (λ n. bytes_before (g.F.Flash.state c.loop-place.flash).page n) last))

pub returns-in_err-read_page-clause-calls_stay : goal.returns-in_err-read_page-clause-calls_stay
returns-in_err-read_page-clause-calls_stay g c = omega (arith, c.loop-place.invariant.calls, c.in_err-read_page.ensures.calls)

pub returns-clause-calls_stay : goal.returns-clause-calls_stay
returns-clause-calls_stay g c = c.loop-place.invariant.calls

pub returns-in_err-read_page-clause-at_most : goal.returns-in_err-read_page-clause-at_most
returns-in_err-read_page-clause-at_most g c =
    omega (arith, c.loop-place.invariant.most, c.in_err-read_page.ensures.calls, c.loop-place-test.true)

pub returns-clause-at_most : goal.returns-clause-at_most
returns-clause-at_most g c = omega (arith, c.loop-place.invariant.most, c.loop-place-test.false, c.loop-place.auto.place-end)
