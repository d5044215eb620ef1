use Rattle.std.proofs.Common.{[]}
use Rattle.key_commands.proofs.local_lemmas.LinesTold.{gives}
use Rattle.key_commands.proofs.local.laws.told_texts_are_given.Goals as goal

pub returns : goal.returns
returns c =
    record {
      given = λ by pages_told page catalog database texts journal failed session tally since now is finished told.
          gives catalog database texts journal
          (λ place written asked. c.local_asks_are_done.ensures catalog database [] texts journal place written asked is finished)
          (λ place written asked. c.local_sessions_answer.ensures catalog database [] texts journal place written asked is finished)
          by pages_told page failed session tally since now told;
    }
