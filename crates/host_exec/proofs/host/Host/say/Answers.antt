use Rattle.std.proofs.Common.{refl, subst, inr, arith}
use Rattle.ghost_model.specs.forms.Catalog.{catalog_bytes}
use Rattle.host_exec.specs.Replies.{source_of}
use Rattle.host_exec.specs.Saying.{Stands}
use Rattle.host_exec.specs.declared.stage.Stage.{Stage}
use Rattle.host_exec.proofs.Answered.{catalog_begins}
use Rattle.host_exec.proofs.host.Host.say.Goals as goal

pub invariant_of-self-clause-within : goal.invariant_of-self-clause-within
invariant_of-self-clause-within g c = c.say_part-said.ensures.within c.args.self.now.reply.rows c.args.self.now.reply.piece.rows (omega (arith, c.args.self.now.within.place))

pub invariant_of-self-in-Answering-clause-within : goal.invariant_of-self-in-Answering-clause-within
invariant_of-self-in-Answering-clause-within g c = c.say_reply-said.ensures.within _ (catalog_begins c.args.self.now.catalog)

pub returns-in-Welcoming-clause-said : goal.returns-in-Welcoming-clause-said
returns-in-Welcoming-clause-said g c = inr (
  refl,
  λ file owed stand is stands.
      c.say_part-said.ensures.said (source_of c.args.self.now.reply file) owed stand
      (subst (λ (s : Stage). Stands (catalog_bytes c.args.self.now.catalog) (source_of c.args.self.now.reply file) s owed stand) c.in-Welcoming.is stands),
)
