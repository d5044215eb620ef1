use Rattle.local_links.proofs.Short.{proper_short}
use Rattle.local_links.proofs.laws.proper_journals_are_written.Goals as goal

pub returns : goal.returns
returns g c = record {
  written = λ catalog at texts journal before after setting proper kept. kept.wrote (proper_short catalog at texts journal setting proper kept.within);
}
