use Rattle.std.proofs.Common.{Option, Err, ap, subst, ◌∙◌}
use Rattle.ghost_model.specs.forms.Catalog.{BeginsWithCatalog}
use Rattle.edge_traits.specs.Files.{Files}
use Rattle.key_words.specs.Views.{audit_view}
use Rattle.key_audit.specs.Verdicts.{HoldsFile}
use Rattle.key_audit.proofs.Deciding.{found_head, no_script, no_journal, depot_fault}
use Rattle.key_audit.proofs.judging.judge.Goals as goal

pub returns-in-Err-open_script-clause-undecided : goal.returns-in-Err-open_script-clause-undecided
returns-in-Err-open_script-clause-undecided g c = λ files told sure e.
    no_script files (audit_view c.args.words.now) c.in-Ok-Some.cat
    (subst (λ (k : Option Files). HoldsFile k c.args.words.now.visible.now (λ file. BeginsWithCatalog file c.in-Ok-Some.cat)) told (found_head c.in-Ok-Some.field-0 c.in-Ok-Some.cat (g.D.Depot.contents c.args.depot.now) c.args.words.now.visible.now c.in-Ok-Some.field-0-is c.in-Ok-Some.ensures.head))
    (c.in-Err-open_script.ensures.missing files (c.in-Ok-Some.ensures.same ∙ told) (λ name bytes is. c.in-Ok-Some.ensures.stays_sure name (sure name bytes is))
    (ap Err (depot_fault c.in-Err-open_script.fault c.failure_of.result c.failure_of.ensures e)))

pub returns-clause-undecided : goal.returns-clause-undecided
returns-clause-undecided g c = λ files told sure e.
    no_journal files (audit_view c.args.words.now) c.in-Ok-Some.cat c.in-Ok.script.items
    (subst (λ (k : Option Files). HoldsFile k c.args.words.now.visible.now (λ file. BeginsWithCatalog file c.in-Ok-Some.cat)) told (found_head c.in-Ok-Some.field-0 c.in-Ok-Some.cat (g.D.Depot.contents c.args.depot.now) c.args.words.now.visible.now c.in-Ok-Some.field-0-is c.in-Ok-Some.ensures.head))
    (c.in-Ok.ensures.spelled files (c.in-Ok-Some.ensures.same ∙ told))
    (λ bytes is.
    c.audit_journal.ensures.goes_well
    (c.in-Ok.ensures.stays_sure c.args.words.now.journal.now (c.in-Ok-Some.ensures.stays_sure c.args.words.now.journal.now (sure c.args.words.now.journal.now bytes is))) e)
