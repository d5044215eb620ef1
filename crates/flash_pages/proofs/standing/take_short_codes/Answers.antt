use Rattle.std.proofs.Common.{◌≡◌, ◌+◌, ◌-◌, ◌/◌, ◌%◌, ◌<◌, ◌≤◌, ap, sym, refl, get_or, arith}
use Rattle.flash_pages.specs.declared.standing.Stand.{Stand}
use Rattle.flash_pages.proofs.CodeSteps.{takes_more, takes_short}
use Rattle.flash_pages.proofs.standing.take_short_codes.Goals as goal

pub loop-i-preserved : goal.loop-i-preserved
loop-i-preserved c =
    let from = c.args.from in
    let stand = c.loop-i.stand in
    let was = c.loop-i.invariant in
    let bytes = c.args.bytes.now in
    let slot = from.place % 2048 in
    let number = get_or bytes (slot + c.loop-i.i) 0 in
    let early : slot + c.loop-i.i < 2045 = omega (arith, c.loop-i-test.true, c.min-most.ensures, c.min.ensures, c.saturating_sub-before_filling.ensures) in
    let ends : stand.place + 1 < c.args.room = omega (arith, was.place, c.loop-i-test.true, c.min-most.ensures, c.min.ensures) in
    let more : stand.at < c.args.count = omega (arith, was.at, c.loop-i-test.true, c.min-most.ensures) in
    let same : stand.place / 2048 ≡ from.place / 2048 = omega (arith, was.place, early) in
    let here : slot + c.loop-i.i ≡ stand.place % 2048 = omega (arith, was.place, early) in
    let some : 0 < number = omega (arith, c.if-number-eq0.false) in
    let below : stand.last + number ≤ c.args.limit = omega (arith, some, was.left, c.if-number-left.false) in
    let next : Stand = record { at = stand.at + 1; place = stand.place + 1; last = stand.last + number } in
    let takes = takes_short bytes c.args.room c.args.limit number stand next c.told-bytes (ap (λ n. get_or bytes n 0) here) some c.if-number-ge128.false ends (omega (arith, here, early)) refl refl refl below in
    record {
      takes = takes_more bytes c.args.count c.args.room c.args.limit from stand next was.takes same more takes;
      at = omega (arith, was.at);
      place = omega (arith, was.place);
      left = omega (arith, was.left, c.if-number-left.false);
    }
