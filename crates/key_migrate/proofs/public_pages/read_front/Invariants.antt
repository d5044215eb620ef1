use Rattle.std.proofs.Common.{◌≡◌, ◌≤◌, ◌*◌, ◌+◌, min, take, length, true}
use Rattle.ghost_model.specs.core.Causes.{last_count}
use Rattle.edge_traits.specs.Devices.{KeepsPages}
use Rattle.key_migrate.specs.PublicPages.{bytes_before}
use Rattle.key_migrate.proofs.public_pages.read_front.Given as goal

abbrev pub invariant-loop-place : goal.invariant-loop-place
invariant-loop-place g l = record {
  bytes : g.F.Flash.told ≡ true → take (l.place * 2048) l.bytes ≡ bytes_before (g.F.Flash.state l.flash).page l.place;
  size : length l.bytes ≡ 18432;
  kept : KeepsPages (g.F.Flash.state l.fn.flash) (g.F.Flash.state l.flash);
  deep_reads : (g.F.Flash.state l.flash).deep_reads ≡ (g.F.Flash.state l.fn.flash).deep_reads;
  faults : (g.F.Flash.state l.flash).faults ≡ (g.F.Flash.state l.fn.flash).faults;
  calls : min (g.F.Flash.state l.fn.flash).calls last_count ≤ (g.F.Flash.state l.flash).calls;
  most : (g.F.Flash.state l.flash).calls ≤ (g.F.Flash.state l.fn.flash).calls + l.place;
}
