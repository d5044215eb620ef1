use Rattle.std.proofs.Common.{◌≡◌, ◌+◌, ◌-◌, ◌/◌, ◌++◌, ℕ, List, take, Ok}
use Rattle.flash_pages.specs.CodeWriters.{HasCodes, WritesUpTo}
use Rattle.flash_pages.proofs.code_filler.CodeFiller.put_bytes.Given as goal

abbrev pub invariant-loop-i : goal.invariant-loop-i
invariant-loop-i g l =
    record {
      first : l.self.filler.first ≡ l.fn.self.filler.first;
      end : l.self.filler.count ≡ l.fn.self.filler.count + l.i;
      put : (before : List ℕ) → HasCodes g.F.Flash.told (g.F.Flash.state l.fn.flash).page l.fn.buf l.fn.self before
          → HasCodes g.F.Flash.told (g.F.Flash.state l.flash).page l.buf l.self (before ++ take l.i l.bytes);
      writes : WritesUpTo {T = ℕ} (g.F.Flash.state l.fn.flash) (g.F.Flash.state l.flash) l.fn.self ((l.fn.self.filler.count + l.i) / 2048) (Ok 0);
    }
