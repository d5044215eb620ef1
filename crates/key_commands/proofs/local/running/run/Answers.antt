use Rattle.std.proofs.Common.{rules, sym}
use Rattle.ghost_model.specs.core.Texts.{texts_of}
use Rattle.key_lines.specs.Told.{told_in}
use Rattle.key_commands.specs.local.Sessions.{told_by_end}
use Rattle.key_commands.proofs.local_lemmas.Causing.{causes_as}
use Rattle.key_commands.proofs.local_lemmas.Giving.{ran_as}
use Rattle.key_commands.proofs.local_lemmas.Hosting.{hosted_as}
use Rattle.key_commands.proofs.local.running.run.Goals as goal

pub returns-clause-ran : goal.returns-clause-ran
returns-clause-ran g c = λ database stored hosted known.
    ran_as g.D.Depot.contents g.D.Depot.faults g.D.Depot.append_faults c.args.words.now.plan g.F.Flash.told c.args.cat.now database (texts_of c.args.script.now) _ _ c.hold.result.end (told_in c.hold.result.told) _ _ _ _ _ _ _ _ _ _
    c.new-journaled.ensures.name c.new-journaled.ensures.files (search rules)
    (c.hold.ensures.ran database stored (hosted_as _ _ _ _ _ (sym c.new-journaled.ensures.moves) hosted) known)

pub returns-clause-causes : goal.returns-clause-causes
returns-clause-causes g c =
    causes_as g.D.Depot.contents g.D.Depot.faults g.D.Depot.append_faults (told_by_end c.hold.result.end) _ _ _ _ _ _ _ _ _ _ c.new-journaled.ensures.files (search rules) c.hold.ensures.causes
