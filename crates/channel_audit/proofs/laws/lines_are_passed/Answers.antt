use Rattle.channel_audit.proofs.Few.{few_moves}
use Rattle.channel_audit.proofs.Steps.{first_step, fine_step, wrong_step, untold_step, beyond_step, endless_step, proper_end}
use Rattle.channel_audit.proofs.laws.lines_are_passed.Goals as goal

pub returns : goal.returns
returns c = record {
  passed = record {
    begins = first_step;
    few = few_moves;
    fine = fine_step;
    wrong = wrong_step;
    untold = untold_step;
    beyond = beyond_step;
    endless = endless_step;
    ends = proper_end;
  };
}
