use Rattle.std.proofs.Common.{◌≡◌, ◌∙◌, ◌+◌, true, subst, sym, ap, ℕ, List, Option, None, Some, Ok, inr, rules, arith}
use Rattle.ghost_base.specs.Runs.{run_of}
use Rattle.flash_pages.specs.Reads.{WasRead}
use Rattle.ghost_model.specs.core.Asks.{RowCells}
use Rattle.page_pool.specs.Pools.{bytes_at, page_at}
use Rattle.visible_spool.specs.declared.search.Step.{Step}
use Rattle.visible_spool.specs.Replies.{HoldsRows}
use Rattle.visible_spool.specs.Searches.{IsAt, IsInHeld, IsFewer, IsPlace, LiesHere, PlaceLies, PlaceStands, StepFinds, StepLies, StepStands, is_more, calls_if, row_at, step_calls}
use Rattle.visible_spool.proofs.Finding.{HasFound, begun_by, begun_on, call_left, one_call, row_of_place, place_stands}
use Rattle.visible_spool.proofs.Frames.{then_pages, calm, answered, faulted, failed, quiet}
use Rattle.visible_spool.proofs.reply.Reply.find.Goals as goal

pub step-requires-clause-ready : goal.step-requires-clause-ready
step-requires-clause-ready g c = c.steps.invariant.frame.reads.ready

pub returns-in-Err-clause-found : goal.returns-in-Err-clause-found
returns-in-Err-clause-found g c = λ since low was.
    let rises = c.steps.invariant.frame.reads.kept.never_falls in
    c.in-Err.ensures.found since (omega (arith, low, rises)) (c.steps.invariant.frame.reads.given since low was)

pub returns-in-Err-clause-read : goal.returns-in-Err-clause-read
returns-in-Err-clause-read g c = λ k fewer.
    let told = g.F.Flash.told in
    let before = g.F.Flash.state c.args.flash.now in
    let here = g.F.Flash.state c.steps.flash in
    let after = g.F.Flash.state c.step.new.flash in
    let has : HasFound told before here c.args.pool.now c.steps.pool c.args.lease.now k c.steps.search = c.steps.invariant.reads k fewer in
    let enough = has.enough in
    let calls = step_calls (page_at c.steps.pool c.args.lease.now) (page_at c.step.new.pool c.args.lease.now) (failed Step c.in-Err.fault) in
    let few = call_left calls has.rest (c.in-Err.ensures.always.some k has.rest fewer has.calls_left) in
    then_pages told before here after c.args.pool.now c.steps.pool c.step.new.pool c.args.lease.now has.made (calls_if calls) (k + 3) (failed (Option RowCells) c.in-Err.fault)
    (omega (arith, enough, few)) has.reads
    (faulted Step (Option RowCells) told here after c.steps.pool c.step.new.pool c.args.lease.now (calls_if calls) c.in-Err.fault c.in-Err.ensures.read)

pub steps-preserved : goal.steps-preserved
steps-preserved g c =
    let told = g.F.Flash.told in
    let before = g.F.Flash.state c.args.flash.now in
    let here = g.F.Flash.state c.steps.flash in
    let after = g.F.Flash.state c.step.new.flash in
    let was = c.steps.invariant in
    let same = was.frame.reads.kept.page in
    let step = c.in-Ok-More.ensures.always in
    let more_read = c.in-Ok-More.ensures.read in
    let calls = step_calls (page_at c.steps.pool c.args.lease.now) (page_at c.step.new.pool c.args.lease.now) (Ok c.in-Ok-More.field-0) in
    let one = one_call calls in
    let read = calm told here after c.steps.pool c.step.new.pool c.args.lease.now (calls_if calls) c.in-Ok-More.field-0 more_read in
    record {
      readable = step.readable;
      search = step.search;
      sought = λ is rows holds. (c.in-Ok-More.ensures.gives is).sought rows (subst (λ (p : ℕ → List ℕ). HoldsRows p c.args.self.now rows) (sym same) holds) (was.sought is rows holds);
      at_hand = λ is rows holds held.
          let before_same = was.at_hand is rows holds held in
          let decided = (c.in-Ok-More.ensures.gives is).decided rows (subst (λ (p : ℕ → List ℕ). HoldsRows p c.args.self.now rows) (sym same) holds) (was.sought is rows holds)
          (subst (λ (o : Option ℕ). IsInHeld c.args.self.now rows o c.args.id) (sym before_same.1) held) in
          let more : is_more c.in-Ok-More.field-0 ≡ true = ap is_more c.in-Ok-More.field-0-is in
          absurd (cc (decided, more));
      begun = inr (begun_on before here after c.args.pool.now c.steps.pool c.args.lease.now c.steps.search calls was.begun more_read.kept.never_falls step.calls
          (step.more (ap is_more c.in-Ok-More.field-0-is)));
      frame = record {
        made = was.frame.made + 1;
        reads = then_pages told before here after c.args.pool.now c.steps.pool c.step.new.pool c.args.lease.now was.frame.made (calls_if calls) (was.frame.made + 1) quiet (omega (arith, one)) was.frame.reads read;
      };
      reads = λ k fewer.
          let has : HasFound told before here c.args.pool.now c.steps.pool c.args.lease.now k c.steps.search = was.reads k fewer in
          let more : IsFewer k c.step.new.search has.rest = step.fewer k has.rest fewer has.calls_left (ap is_more c.in-Ok-More.field-0-is) in
          let enough = has.enough in
          let less = more.less in
          record {
            made = has.made + 1;
            rest = more.rest;
            reads = then_pages told before here after c.args.pool.now c.steps.pool c.step.new.pool c.args.lease.now has.made (calls_if calls) (has.made + 1) quiet (omega (arith, one)) has.reads read;
            calls_left = more.calls_left;
            enough = omega (arith, enough, less);
          };
    }

pub returns-in-Ok-Found-None-clause-read : goal.returns-in-Ok-Found-None-clause-read
returns-in-Ok-Found-None-clause-read g c = λ k fewer.
    let told = g.F.Flash.told in
    let before = g.F.Flash.state c.args.flash.now in
    let here = g.F.Flash.state c.steps.flash in
    let after = g.F.Flash.state c.step.new.flash in
    let has : HasFound told before here c.args.pool.now c.steps.pool c.args.lease.now k c.steps.search = c.steps.invariant.reads k fewer in
    let enough = has.enough in
    let calls = step_calls (page_at c.steps.pool c.args.lease.now) (page_at c.step.new.pool c.args.lease.now) (Ok c.in-Ok-Found-None.field-0) in
    let few = call_left calls has.rest (c.in-Ok-Found-None.ensures.always.some k has.rest fewer has.calls_left) in
    let given : Option RowCells = None in
    answered told before after c.args.pool.now c.step.new.pool c.args.lease.now (k + 3) given
    (then_pages told before here after c.args.pool.now c.steps.pool c.step.new.pool c.args.lease.now has.made (calls_if calls) (k + 3) quiet (omega (arith, enough, few)) has.reads
    (calm told here after c.steps.pool c.step.new.pool c.args.lease.now (calls_if calls) c.in-Ok-Found-None.field-0 c.in-Ok-Found-None.ensures.read))

pub returns-in-Ok-Found-Some-clause-found : goal.returns-in-Ok-Found-Some-clause-found
returns-in-Ok-Found-Some-clause-found g c = λ since low was.
    let rises = c.steps.invariant.frame.reads.kept.never_falls in
    let after = g.F.Flash.state c.step.new.flash in
    let held = page_at c.step.new.pool c.args.lease.now in
    let lies : LiesHere c.args.self.now c.args.id held (bytes_at c.step.new.pool c.args.lease.now) c.in-Ok-Found-Some.place =
    subst (PlaceLies c.args.self.now c.args.id held (bytes_at c.step.new.pool c.args.lease.now)) c.in-Ok-Found-Some.field-0-0-is
    (subst (StepLies c.args.self.now c.args.id held (bytes_at c.step.new.pool c.args.lease.now)) c.in-Ok-Found-Some.field-0-is c.in-Ok-Found-Some.ensures.always.lies) in
    let stands : WasRead since after (run_of c.args.self.now.run) c.in-Ok-Found-Some.place (row_at c.args.self.now (bytes_at c.step.new.pool c.args.lease.now) c.in-Ok-Found-Some.place) =
    subst (PlaceStands since after c.args.self.now (bytes_at c.step.new.pool c.args.lease.now)) c.in-Ok-Found-Some.field-0-0-is
    (subst (StepStands since after c.args.self.now (bytes_at c.step.new.pool c.args.lease.now)) c.in-Ok-Found-Some.field-0-is
    (c.in-Ok-Found-Some.ensures.found since (omega (arith, low, rises)) (c.steps.invariant.frame.reads.given since low was))) in
    place_stands since after c.args.self.now c.args.id held (bytes_at c.step.new.pool c.args.lease.now) c.page.result.now c.row.result.now c.in-Ok-Found-Some.place c.of.result lies stands c.of.ensures.row
    c.row.ensures.row c.in-Ok-Found-Some.place-is c.page.ensures.bytes

pub returns-in-Ok-Found-Some-clause-read : goal.returns-in-Ok-Found-Some-clause-read
returns-in-Ok-Found-Some-clause-read g c = λ k fewer.
    let told = g.F.Flash.told in
    let before = g.F.Flash.state c.args.flash.now in
    let here = g.F.Flash.state c.steps.flash in
    let after = g.F.Flash.state c.step.new.flash in
    let has : HasFound told before here c.args.pool.now c.steps.pool c.args.lease.now k c.steps.search = c.steps.invariant.reads k fewer in
    let enough = has.enough in
    let calls = step_calls (page_at c.steps.pool c.args.lease.now) (page_at c.step.new.pool c.args.lease.now) (Ok c.in-Ok-Found-Some.field-0) in
    let few = call_left calls has.rest (c.in-Ok-Found-Some.ensures.always.some k has.rest fewer has.calls_left) in
    let given : Option RowCells = (Some c.of.result) in
    answered told before after c.args.pool.now c.step.new.pool c.args.lease.now (k + 3) given
    (then_pages told before here after c.args.pool.now c.steps.pool c.step.new.pool c.args.lease.now has.made (calls_if calls) (k + 3) quiet (omega (arith, enough, few)) has.reads
    (calm told here after c.steps.pool c.step.new.pool c.args.lease.now (calls_if calls) c.in-Ok-Found-Some.field-0 c.in-Ok-Found-Some.ensures.read))

pub returns-in-Ok-Beyond-clause-read : goal.returns-in-Ok-Beyond-clause-read
returns-in-Ok-Beyond-clause-read g c = λ k fewer.
    let told = g.F.Flash.told in
    let before = g.F.Flash.state c.args.flash.now in
    let here = g.F.Flash.state c.steps.flash in
    let after = g.F.Flash.state c.step.new.flash in
    let has : HasFound told before here c.args.pool.now c.steps.pool c.args.lease.now k c.steps.search = c.steps.invariant.reads k fewer in
    let enough = has.enough in
    let calls = step_calls (page_at c.steps.pool c.args.lease.now) (page_at c.step.new.pool c.args.lease.now) (Ok c.in-Ok-Beyond.field-0) in
    let few = call_left calls has.rest (c.in-Ok-Beyond.ensures.always.some k has.rest fewer has.calls_left) in
    let given : Option RowCells = None in
    answered told before after c.args.pool.now c.step.new.pool c.args.lease.now (k + 3) given
    (then_pages told before here after c.args.pool.now c.steps.pool c.step.new.pool c.args.lease.now has.made (calls_if calls) (k + 3) quiet (omega (arith, enough, few)) has.reads
    (calm told here after c.steps.pool c.step.new.pool c.args.lease.now (calls_if calls) c.in-Ok-Beyond.field-0 c.in-Ok-Beyond.ensures.read))

pub returns-in-Err-clause-gives : goal.returns-in-Err-clause-gives
returns-in-Err-clause-gives g c = λ told. record {
  finds = λ rows holds.
      let same = c.steps.invariant.frame.reads.kept.page in
      (c.in-Err.ensures.gives told).whole rows (subst (λ (p : ℕ → List ℕ). HoldsRows p c.args.self.now rows) (sym same) holds);
  at_hand = λ rows holds held.
      let was = c.steps.invariant in
      let same = was.frame.reads.kept.page in
      let so_far = was.at_hand told rows holds held in
      (c.in-Err.ensures.gives told).at_hand rows (subst (λ (p : ℕ → List ℕ). HoldsRows p c.args.self.now rows) (sym same) holds) (was.sought told rows holds)
      (subst (λ (o : Option ℕ). IsInHeld c.args.self.now rows o c.args.id) (sym so_far.1) held)
      ∙ so_far.0;
  reads = λ outside.
      let before = g.F.Flash.state c.args.flash.now in
      let here = g.F.Flash.state c.steps.flash in
      let after = g.F.Flash.state c.step.new.flash in
      let calls = step_calls (page_at c.steps.pool c.args.lease.now) (page_at c.step.new.pool c.args.lease.now) (failed Step c.in-Err.fault) in
      begun_by g.F.Flash.told before here after c.args.pool.now c.steps.pool c.args.lease.now c.args.id c.args.self.now c.steps.search calls c.steps.invariant.begun
      c.in-Err.ensures.read.kept.never_falls c.in-Err.ensures.always.calls (λ is. (c.in-Err.ensures.gives is).reads) told outside;
}

pub returns-in-Ok-Found-None-clause-gives : goal.returns-in-Ok-Found-None-clause-gives
returns-in-Ok-Found-None-clause-gives g c = λ told. record {
  finds = λ rows holds.
      let same = c.steps.invariant.frame.reads.kept.page in
      subst (IsPlace c.args.self.now rows c.args.id (bytes_at c.step.new.pool c.args.lease.now)) c.in-Ok-Found-None.field-0-0-is
      (subst (StepFinds c.args.self.now rows c.args.id (bytes_at c.step.new.pool c.args.lease.now)) c.in-Ok-Found-None.field-0-is
      ((c.in-Ok-Found-None.ensures.gives told).finds rows (subst (λ (p : ℕ → List ℕ). HoldsRows p c.args.self.now rows) (sym same) holds) (c.steps.invariant.sought told rows holds)));
  at_hand = λ rows holds held.
      let was = c.steps.invariant in
      let same = was.frame.reads.kept.page in
      let so_far = was.at_hand told rows holds held in
      (c.in-Ok-Found-None.ensures.gives told).at_hand rows (subst (λ (p : ℕ → List ℕ). HoldsRows p c.args.self.now rows) (sym same) holds) (was.sought told rows holds)
      (subst (λ (o : Option ℕ). IsInHeld c.args.self.now rows o c.args.id) (sym so_far.1) held)
      ∙ so_far.0;
  reads = λ outside.
      let before = g.F.Flash.state c.args.flash.now in
      let here = g.F.Flash.state c.steps.flash in
      let after = g.F.Flash.state c.step.new.flash in
      let calls = step_calls (page_at c.steps.pool c.args.lease.now) (page_at c.step.new.pool c.args.lease.now) (Ok c.in-Ok-Found-None.field-0) in
      begun_by g.F.Flash.told before here after c.args.pool.now c.steps.pool c.args.lease.now c.args.id c.args.self.now c.steps.search calls c.steps.invariant.begun
      c.in-Ok-Found-None.ensures.read.kept.never_falls c.in-Ok-Found-None.ensures.always.calls (λ is. (c.in-Ok-Found-None.ensures.gives is).reads) told outside;
}

pub returns-in-Ok-Found-Some-clause-gives : goal.returns-in-Ok-Found-Some-clause-gives
returns-in-Ok-Found-Some-clause-gives g c = λ told. record {
  finds = λ rows holds.
      let same = c.steps.invariant.frame.reads.kept.page in
      let at : IsAt c.args.self.now rows c.args.id (bytes_at c.step.new.pool c.args.lease.now) c.in-Ok-Found-Some.place =
      subst (IsPlace c.args.self.now rows c.args.id (bytes_at c.step.new.pool c.args.lease.now)) c.in-Ok-Found-Some.field-0-0-is
      (subst (StepFinds c.args.self.now rows c.args.id (bytes_at c.step.new.pool c.args.lease.now)) c.in-Ok-Found-Some.field-0-is
      ((c.in-Ok-Found-Some.ensures.gives told).finds rows (subst (λ (p : ℕ → List ℕ). HoldsRows p c.args.self.now rows) (sym same) holds) (c.steps.invariant.sought told rows holds))) in
      row_of_place c.args.self.now rows c.args.id (bytes_at c.step.new.pool c.args.lease.now) c.page.result.now c.row.result.now c.in-Ok-Found-Some.place c.of.result at c.of.ensures.row
      c.row.ensures.row c.in-Ok-Found-Some.place-is c.page.ensures.bytes;
  at_hand = λ rows holds held.
      let was = c.steps.invariant in
      let same = was.frame.reads.kept.page in
      let so_far = was.at_hand told rows holds held in
      (c.in-Ok-Found-Some.ensures.gives told).at_hand rows (subst (λ (p : ℕ → List ℕ). HoldsRows p c.args.self.now rows) (sym same) holds) (was.sought told rows holds)
      (subst (λ (o : Option ℕ). IsInHeld c.args.self.now rows o c.args.id) (sym so_far.1) held)
      ∙ so_far.0;
  reads = λ outside.
      let before = g.F.Flash.state c.args.flash.now in
      let here = g.F.Flash.state c.steps.flash in
      let after = g.F.Flash.state c.step.new.flash in
      let calls = step_calls (page_at c.steps.pool c.args.lease.now) (page_at c.step.new.pool c.args.lease.now) (Ok c.in-Ok-Found-Some.field-0) in
      begun_by g.F.Flash.told before here after c.args.pool.now c.steps.pool c.args.lease.now c.args.id c.args.self.now c.steps.search calls c.steps.invariant.begun
      c.in-Ok-Found-Some.ensures.read.kept.never_falls c.in-Ok-Found-Some.ensures.always.calls (λ is. (c.in-Ok-Found-Some.ensures.gives is).reads) told outside;
}

pub returns-in-Ok-Beyond-clause-gives : goal.returns-in-Ok-Beyond-clause-gives
returns-in-Ok-Beyond-clause-gives g c = λ told. record {
  finds = λ rows holds.
      let same = c.steps.invariant.frame.reads.kept.page in
      subst (StepFinds c.args.self.now rows c.args.id (bytes_at c.step.new.pool c.args.lease.now)) c.in-Ok-Beyond.field-0-is
      ((c.in-Ok-Beyond.ensures.gives told).finds rows (subst (λ (p : ℕ → List ℕ). HoldsRows p c.args.self.now rows) (sym same) holds) (c.steps.invariant.sought told rows holds));
  at_hand = λ rows holds held.
      let was = c.steps.invariant in
      let same = was.frame.reads.kept.page in
      let so_far = was.at_hand told rows holds held in
      (c.in-Ok-Beyond.ensures.gives told).at_hand rows (subst (λ (p : ℕ → List ℕ). HoldsRows p c.args.self.now rows) (sym same) holds) (was.sought told rows holds)
      (subst (λ (o : Option ℕ). IsInHeld c.args.self.now rows o c.args.id) (sym so_far.1) held)
      ∙ so_far.0;
  reads = λ outside.
      let before = g.F.Flash.state c.args.flash.now in
      let here = g.F.Flash.state c.steps.flash in
      let after = g.F.Flash.state c.step.new.flash in
      let calls = step_calls (page_at c.steps.pool c.args.lease.now) (page_at c.step.new.pool c.args.lease.now) (Ok c.in-Ok-Beyond.field-0) in
      begun_by g.F.Flash.told before here after c.args.pool.now c.steps.pool c.args.lease.now c.args.id c.args.self.now c.steps.search calls c.steps.invariant.begun
      c.in-Ok-Beyond.ensures.read.kept.never_falls c.in-Ok-Beyond.ensures.always.calls (λ is. (c.in-Ok-Beyond.ensures.gives is).reads) told outside;
}
