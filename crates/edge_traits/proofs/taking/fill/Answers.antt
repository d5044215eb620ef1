use Rattle.std.proofs.Common.{rules, arith, ◌-◌, [], ◌∷◌, length, drop, Ok, subst}
use Rattle.ghost_model.specs.core.Channel as channel
use Rattle.edge_traits.specs.Links.{entry, gave}
use Rattle.edge_traits.specs.declared.Failed.{Failed}
use Rattle.edge_traits.proofs.Takes.{filled_on, full, ended, failed}
use Rattle.edge_traits.proofs.taking.fill.Goals as goal

pub returns-in_err-count-clause-moved : goal.returns-in_err-count-clause-moved
returns-in_err-count-clause-moved g c =
    let so = c.loop-have.invariant in
    failed Failed _ _ (length c.args.buf.now) c.loop-have.have _ _ c.loop-have.buf c.take_more.new.buf c.from_residual.result c.from_residual.ensures.0 so
    (λ journal went. g.met.L.Link.joins _ _ _ journal _ went (subst (λ n. g.L.Link.went c.loop-have.link (entry (channel.Take (n - c.loop-have.have)) channel.Failed ∷ []) c.take_more.new.link) so.size c.in_err-count.ensures.moved))
    c.in_err-count.ensures.front

pub returns-then-count-eq0-clause-moved : goal.returns-then-count-eq0-clause-moved
returns-then-count-eq0-clause-moved g c =
    let so = c.loop-have.invariant in
    ended Failed _ _ (length c.args.buf.now) c.loop-have.have _ _ c.loop-have.buf c.take_more.new.buf so
    (λ journal went. g.met.L.Link.joins _ _ _ journal _ went (subst (λ n. g.L.Link.went c.loop-have.link (entry (channel.Take (n - c.loop-have.have)) channel.End ∷ []) c.take_more.new.link) so.size
    (subst (λ k. g.L.Link.went c.loop-have.link (entry (channel.Take (length c.loop-have.buf - c.loop-have.have)) (gave {E = Failed} (Ok k) (drop c.loop-have.have c.take_more.new.buf)) ∷ []) c.take_more.new.link) c.if-count-eq0.true c.in_ok-count.ensures.moved)))
    (search rules) c.in_ok-count.ensures.front

pub loop-have-preserved : goal.loop-have-preserved
loop-have-preserved g c =
    let so = c.loop-have.invariant in
    filled_on Failed _ _ (length c.args.buf.now) c.loop-have.have c.in_ok-count.count _ _ _ c.loop-have.buf c.take_more.new.buf so c.in_ok-count.ensures.cause.other
    (λ journal went. g.met.L.Link.joins _ _ _ journal _ went (subst (λ n. g.L.Link.went c.loop-have.link (entry (channel.Take (n - c.loop-have.have)) (gave {E = Failed} (Ok c.in_ok-count.count) (drop c.loop-have.have c.take_more.new.buf)) ∷ []) c.take_more.new.link) so.size c.in_ok-count.ensures.moved))
    (search rules) (search rules) (search rules) c.in_ok-count.ensures.front

pub returns-clause-moved : goal.returns-clause-moved
returns-clause-moved g c =
    let so = c.loop-have.invariant in
    let size = so.size in
    full Failed _ (length c.args.buf.now) c.loop-have.have _ _ c.loop-have.buf so (omega (arith, size, c.loop-have-test.false))
