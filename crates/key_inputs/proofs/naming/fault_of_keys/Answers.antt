use Rattle.key_inputs.proofs.Showing.{given_no_line}
use Rattle.key_inputs.proofs.naming.fault_of_keys.Goals as goal

pub returns-in-Some-clause-line : goal.returns-in-Some-clause-line
returns-in-Some-clause-line c = given_no_line c.args.fault c.with_names.result c.with_names.ensures.line

pub returns-in-None-clause-line : goal.returns-in-None-clause-line
returns-in-None-clause-line c = given_no_line c.args.fault c.with_names-in-None.result c.with_names-in-None.ensures.line
