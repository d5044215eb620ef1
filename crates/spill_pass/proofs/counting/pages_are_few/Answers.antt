use Rattle.spill_pass.proofs.FewPages.{fresh_list, fresh_records, writes_few}
use Rattle.spill_pass.proofs.counting.pages_are_few.Goals as goal

pub returns-clause-list : goal.returns-clause-list
returns-clause-list c = fresh_list

pub returns-clause-records : goal.returns-clause-records
returns-clause-records c = fresh_records

pub returns-clause-written : goal.returns-clause-written
returns-clause-written c = writes_few
