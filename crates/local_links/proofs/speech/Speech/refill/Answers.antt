use Rattle.std.proofs.Common.{◌≡◌, ◌-◌, ap, inl, inr, arith, take, drop}
use Rattle.local_links.proofs.Desks.{says_next}
use Rattle.local_links.proofs.speech.Speech.refill.Goals as goal

pub returns-in-Some-clause-owed : goal.returns-in-Some-clause-owed
returns-in-Some-clause-owed g c calm held bytes stand owes =
    let none : c.args.self.now.to - c.args.self.now.from ≡ 0 = omega (arith, c.if-self.false) in
    let whole : c.in-Some.size - 0 ≡ c.in-Some.size = omega arith in
    says_next held (g.D.Depot.contents c.args.depot.now) (g.D.Depot.contents c.reply.new.depot) c.args.host.now c.reply.new.self c.args.self.now _ c.in-Some.size c.reply.new.out bytes stand
    c.reply.ensures.depot c.reply.ensures.same (ap (λ n. take n (drop c.args.self.now.from c.args.self.now.page)) none) (ap (λ n. take n c.reply.new.out) whole)
    (elim c.in-Some.ensures.said [
      | inl refused ↦ elim calm [ inl sure ↦ absurd (refused.refuses.unsure sure) | inr quiet ↦ absurd (quiet refused.refuses.rose) ]
      | inr said ↦ said.1
    ]) owes
