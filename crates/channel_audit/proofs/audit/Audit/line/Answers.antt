use Rattle.std.proofs.Common.{refl, sym, ap, subst, ◌∙◌, [], ◌∷◌, ◌++◌}
use Rattle.ghost_model.specs.core.Channel.{Entry}
use Rattle.channel_pump.specs.Sessions.{IsLive}
use Rattle.channel_audit.specs.Lines.{entry_of}
use Rattle.channel_audit.specs.Audited.{kind_of_next}
use Rattle.channel_audit.proofs.Moving.{last_is_next, replayed, kind_due, some_once}
use Rattle.channel_audit.proofs.audit.Audit.line.Goals as goal

pub returns-then-not-is_due : goal.returns-then-not-is_due
returns-then-not-is_due c = record {
  judged = λ catalog asks journal live.
      let next = c.due-due.ensures.next catalog asks journal live in
      record {
        made = entry_of c.in-Some.line;
        tells = c.in-Some.ensures.some;
        wrong = λ e. c.if-not-is_due.ensures.other refl (sym next ∙ e);
        told_is = c.told_by.ensures;
        due_is = kind_due c.due-due.result c.due-due.new.self.page c.due-due.ensures.fits c.is_a_page.ensures.long ∙ ap kind_of_next (sym next);
      };
}

pub returns : goal.returns
returns c = record {
  judged = λ catalog asks journal live.
      let next = c.due-due.ensures.next catalog asks journal live in
      let moved = c.step-event.ensures.moved catalog asks journal (c.due-due.ensures.still catalog asks journal live) in
      let due = some_once moved.made.move (entry_of c.in-Some.line).move
      (sym (last_is_next catalog [] asks [] journal moved.made moved.live.proper) ∙ (next ∙ c.if-not-is_due.ensures.due refl)) in
      let same = replayed c.args.bytes.now c.in-Some.line c.new-replay.result c.step-event.new.link moved.made c.new-replay.ensures.line c.in-Some.ensures.some moved.went.gone due in
      record {
        made = entry_of c.in-Some.line;
        tells = c.in-Some.ensures.some;
        audited = subst (λ (made : Entry). IsLive catalog [] asks (journal ++ made ∷ []) c.step-event.new.self c.step-event.new.page) same moved.live;
      };
}
