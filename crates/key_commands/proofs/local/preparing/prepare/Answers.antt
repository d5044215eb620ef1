use Rattle.key_commands.proofs.local.preparing.prepare.Goals as goal

pub returns-clause-hosted : goal.returns-clause-hosted
returns-clause-hosted c = c.in_ok-link.ensures.hosted _ _ c.in_ok-cat.ensures.image
