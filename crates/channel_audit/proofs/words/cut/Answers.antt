use Rattle.std.proofs.Common.{arith}
use Rattle.channel_audit.proofs.Texts.{lacks_all, cuts_at}
use Rattle.channel_audit.proofs.words.cut.Goals as goal

pub returns-in-None : goal.returns-in-None
returns-in-None c = record { cut = lacks_all c.args.byte c.args.text.now (λ k low. c.in-None.ensures k (omega arith) low) }

pub returns-in-Some : goal.returns-in-Some
returns-in-Some c = record {
  cut = cuts_at c.args.byte c.in-Some.at c.args.text.now c.split_at.result.0.now c.split_at.result.1.now c.split_at-in-Some.result.1.now
      c.split_at.ensures.front c.split_at.ensures.back c.split_at-in-Some.ensures.back c.in-Some.ensures.0.high c.in-Some.ensures.1
      (λ k low. c.in-Some.ensures.0.before k (omega arith) low);
}
