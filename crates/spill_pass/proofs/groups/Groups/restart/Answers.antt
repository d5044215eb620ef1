use Rattle.std.proofs.Common.{◌∙◌, ℕ, sym, subst, ap}
use Rattle.spill_pass.specs.declared.groups.Groups.{Groups}
use Rattle.spill_pass.specs.Grouping.{CanBegin}
use Rattle.spill_pass.proofs.groups.Groups.restart.Goals as goal

pub returns-clause-grouping : goal.returns-clause-grouping
returns-clause-grouping c = λ told device pool can.
    let a = c.args in
    let lists = c.end.ensures.lease ∙ ap (λ (x : Groups). x.into.writer.lease) c.replace-into.ensures.value in
    let places = c.end-2.ensures.lease ∙ ap (λ (x : Groups). x.places.lease) c.replace-into.ensures.value in
    let P : ℕ → Type 0 = λ l. CanBegin device pool a.lists a.places a.self.now.into.rows a.size l a.self.now.places.lease in
    let Q : ℕ → Type 0 = λ p. CanBegin device pool a.lists a.places a.self.now.into.rows a.size c.end.result p in
    c.begin.ensures.grouping told device pool (subst Q (sym places) (subst P (sym lists) can))

pub returns-clause-given : goal.returns-clause-given
returns-clause-given c = λ since device pool. c.begin.ensures.given since device pool
