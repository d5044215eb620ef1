use Rattle.std.proofs.Common.{◌≡◌, ℕ, true, sym, subst, arith}
use Rattle.std.specs.Prelude.{Option, IfSome}
use Rattle.ghost_base.specs.Runs.{run_of}
use Rattle.page_pool.specs.Pools.{bytes_at}
use Rattle.flash_pages.specs.Cursors.{IsPageOf}
use Rattle.merge_tests.proofs.AreasLaid.{fewer_before, fewer_eights, fewer_fours, fewer_there, uses_in_front}
use Rattle.merge_tests.proofs.unions.Sources.source.Goals as goal

pub returns-clause-ready : goal.returns-clause-ready
returns-clause-ready c = λ device pool places lists eight four out none.
    let a = c.args in
    let s = a.self.now in
    let P : Option ℕ → Type 0 = λ page. IfSome page (λ number. true ≡ true → bytes_at pool a.lease ≡ device.page number) in
    let Q : Option ℕ → Type 0 = λ page. IfSome page (IsPageOf (run_of (record s.places { count = a.end }))) in
    record {
      places = record {
        run = fewer_there s.places a.end c.requires.end places;
        width = eight;
        place = c.requires.at;
        within = omega (arith, c.requires.next, c.max.ensures, c.min-behind.ensures);
        buffer = record { out = out; filled = subst P (sym none) tt };
      };
      lists = fewer_there s.lists c.min-behind.result (omega (arith, c.min-behind.ensures)) lists;
      width = four;
      few = omega (arith, c.requires.few, c.min-behind.ensures);
      holds = subst Q (sym none) tt;
    }

pub returns-clause-outside : goal.returns-clause-outside
returns-clause-outside c = λ first high lists places.
    let a = c.args in
    let s = a.self.now in
    uses_in_front first first high
    (record { places = record s.places { count = a.end }; lists = record s.lists { count = c.min-behind.result }; at = s.at; next = s.next; lease = a.lease })
    (fewer_before first c.min-behind.result 4 s.lists (fewer_fours c.min-behind.result s.lists.count) (omega (arith, c.min-behind.ensures)) lists)
    (fewer_before first a.end 8 s.places (fewer_eights a.end s.places.count) c.requires.end places) (omega arith)
