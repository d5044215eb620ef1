use Rattle.std.proofs.Common.{◌∙◌, ap, refl, sym, arith}
use Rattle.ghost_base.specs.declared.runs.Run.{Run}
use Rattle.spill_pass.specs.Places.{DamagesReader}
use Rattle.spill_pass.proofs.PlaceGiving.{gives_inside, gives_list, gives_sound}
use Rattle.spill_pass.proofs.ReaderGiving.{place_blamed, reader_known}
use Rattle.spill_pass.proofs.placed.PlaceReaderListSource.next_list.Goals as goal

pub returns-clause-gives : goal.returns-clause-gives
returns-clause-gives g c = λ told right rows lists has.
    gives_list (g.F.Flash.state c.args.flash.now).page (g.F.Flash.state c.next.new.flash).page right rows c.args.self.now c.next.new.self lists
    c.next.result c.next.ensures.read.kept.page (c.next.ensures.gives told) c.next.ensures.always.step
    c.next.ensures.always.fault c.next.ensures.always.same c.requires.ready.few has

pub returns-clause-sound : goal.returns-clause-sound
returns-clause-sound g c = λ told right rows lists has.
    gives_sound (g.F.Flash.state c.args.flash.now).page right rows c.args.self.now lists
    (DamagesReader (g.F.Flash.state c.next.new.flash).page rows c.args.self.now) c.next.result (c.next.ensures.gives told) c.requires.ready.few has

pub returns-clause-less : goal.returns-clause-less
returns-clause-less g c = λ page rows number slot found damaged.
    let same = c.next.ensures.always.same.lists in
    record {
      list = damaged.list;
      lies = record { run_is = damaged.lies.run_is ∙ same; within = omega (arith, damaged.lies.within, ap (λ (run : Run). run.count) same) };
      out = damaged.out;
    }

pub returns-clause-blames : goal.returns-clause-blames
returns-clause-blames g c = λ since rows from given.
    place_blamed since (g.F.Flash.state c.next.new.flash) c.args.self.now c.next.result from.tells c.requires.ready.few refl given c.next.ensures.gives
    (c.next.ensures.blames since.calls from.calls given.read)

pub returns-clause-known : goal.returns-clause-known
returns-clause-known g c = λ since rows from given.
    let n = c.next.ensures in
    reader_known since rows c.args.self.now c.next.new.self c.next.result n.read.kept.page from n.gives n.always.step n.always.fault n.always.same c.requires.ready.few
    n.read.given given

pub returns-clause-may : goal.returns-clause-may
returns-clause-may g c = λ told. gives_inside (g.F.Flash.state c.next.new.flash).page c.args.self.now c.next.new.self c.next.result c.next.ensures.always.step

pub returns-clause-still_may : goal.returns-clause-still_may
returns-clause-still_may g c = λ page list lies. record {
  run_is = lies.run_is ∙ sym c.next.ensures.always.same.lists;
  within = omega (arith, lies.within, ap (λ (run : Run). run.count) c.next.ensures.always.same.lists);
}
