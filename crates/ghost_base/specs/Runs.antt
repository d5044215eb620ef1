-- The run that three numbers of the code name.
use Rattle.ghost_model.specs.forms.Runs as runs
use Rattle.ghost_base.specs.declared.runs.Run.{Run}

abbrev pub run_of : Run → runs.Run
run_of run = record { first = run.first; count = run.count; width = run.width }
