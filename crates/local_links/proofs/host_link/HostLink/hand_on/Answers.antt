use Rattle.std.proofs.Common.{◌≡◌, ◌++◌, List, ℕ, length, take, drop, ap, sym, ◌∙◌, refl, rules}
use Rattle.std.proofs.Math.Seq.{drop-append_seam}
use Rattle.local_links.specs.Desks.{kept}
use Rattle.local_links.proofs.Desks.{hands_out}
use Rattle.local_links.proofs.host_link.HostLink.hand_on.Goals as goal

pub returns-then-not-refill-clause-handed : goal.returns-then-not-refill-clause-handed
returns-then-not-refill-clause-handed g c calm held bytes stand owes =
    (record { rest = bytes; joined = refl; owes = c.refill.ensures.owed calm held bytes stand owes }, c.if-not-refill.ensures.none calm held bytes stand owes refl)

pub returns-clause-handed : goal.returns-clause-handed
returns-clause-handed g c calm held bytes stand owes =
    let front = c.split_at_mut-front.result.0.now in
    let long : length front ≡ c.args.have = search rules in
    let part : drop c.args.have (front ++ c.hand.new.out) ≡ c.hand.new.out = ap (λ n. drop n (front ++ c.hand.new.out)) (sym long) ∙ drop-append_seam front c.hand.new.out in
    hands_out held (g.D.Depot.contents c.refill.new.depot) c.refill.new.host c.refill.new.self c.hand.new.self bytes (take c.hand.result (drop c.args.have (front ++ c.hand.new.out))) stand
    (c.hand.ensures.handed ∙ ap (λ (xs : List ℕ). take c.hand.result xs ++ kept c.hand.new.self) (sym part)) (c.refill.ensures.owed calm held bytes stand owes)
