use Rattle.visible_spool.proofs.reply.Reply.begun.Goals as goal

pub returns-in-New-clause-sought : goal.returns-in-New-clause-sought
returns-in-New-clause-sought c = λ pages rows holds was. c.looking.ensures.sought pages rows holds
