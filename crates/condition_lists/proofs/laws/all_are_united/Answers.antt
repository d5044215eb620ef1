use Rattle.condition_lists.proofs.UnionLemmas.{all_tables, forced_unites}
use Rattle.condition_lists.proofs.laws.all_are_united.Goals as goal

pub returns : goal.returns
returns c = record { tables = all_tables; forced = forced_unites }
