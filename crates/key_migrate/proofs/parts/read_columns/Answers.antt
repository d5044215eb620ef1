use Rattle.key_migrate.proofs.Columns.{columns_told, hidden_in}
use Rattle.key_migrate.proofs.parts.read_columns.Goals as goal

pub returns-in-Ok-read_hidden-clause-hidden : goal.returns-in-Ok-read_hidden-clause-hidden
returns-in-Ok-read_hidden-clause-hidden g c =
    hidden_in g.F.Flash.told (g.F.Flash.state c.args.flash.now).page c.args.cat.now c.in-Ok-read_hidden.hidden c.in-Ok-read_hidden.ensures.legal
    c.in-Ok-read_hidden.ensures.held c.in-Ok-read_hidden.ensures.gives

pub returns-clause-told : goal.returns-clause-told
returns-clause-told g c =
    rw c.failure_of.ensures.failure
    (columns_told g.F.Flash.told (g.F.Flash.state c.args.flash.now).calls (g.F.Flash.state c.args.flash.now).page (g.F.Flash.state c.read_hidden.new.flash) c.args.cat.now c.in-Err.fault
    c.in-Err.ensures.read.kept.page c.in-Err.ensures.held c.in-Err.ensures.gives c.in-Err.ensures.blames)
