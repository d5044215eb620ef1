use Rattle.std.proofs.Common.{◌+◌, ◌≤◌, ap, subst, sym, rules, arith}
use Rattle.ghost_base.specs.declared.runs.ListRef.{ListRef}
use Rattle.ghost_base.specs.Runs.{run_of}
use Rattle.edge_traits.specs.MemDevices.{device_of}
use Rattle.flash_pages.specs.Cursors.{Codes, IsListWidth}
use Rattle.flash_pages.specs.Runs.{HasRun}
use Rattle.flash_pages.proofs.ListFrames.{stands_at_begin}
use Rattle.index_tests.proofs.found.put_ids.Goals as goal

-- the list is one of codes, and the cursor stands at its beginning
pub put_rest-requires : goal.put_rest-requires
put_rest-requires c =
    let e = c.begin-cursor.ensures in
    let H : ListRef → Type 0 = λ l. HasRun (device_of c.args.flash.now) (run_of l.run) in
    let W : ListRef → Type 0 = λ l. IsListWidth l.run.width in
    let I : ListRef → Type 0 = λ l. l.first + l.count ≤ l.run.count in
    let within = subst I (sym e.list) c.requires.within in
    record {
      ready = record {
        run = subst H (sym e.list) c.requires.run;
        width = subst W (sym e.list) (Codes c.requires.width);
        list = within;
        at = omega (arith, e.at);
        stands = stands_at_begin e.at (omega (arith, e.place, ap (λ (l : ListRef). l.first) e.list)) e.last within;
        page = search rules;
        buffer = search rules;
      };
    }
