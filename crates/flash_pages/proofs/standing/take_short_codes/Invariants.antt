use Rattle.std.proofs.Common.{◌≡◌, ◌+◌, ◌-◌}
use Rattle.flash_pages.specs.Codes.{TakesCodes}
use Rattle.flash_pages.proofs.standing.take_short_codes.Given as goal

abbrev pub invariant-loop-i : goal.invariant-loop-i
invariant-loop-i l = record {
  takes : TakesCodes l.bytes l.count l.room l.limit l.fn.from l.stand;
  at : l.stand.at ≡ l.fn.from.at + l.i;
  place : l.stand.place ≡ l.fn.from.place + l.i;
  left : l.left ≡ l.limit - l.stand.last;
}
