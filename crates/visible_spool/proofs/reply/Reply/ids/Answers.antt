use Rattle.std.proofs.Common.{◌≡◌, ◌∙◌, ap, ◌+◌, ◌-◌, arith}
use Rattle.ghost_base.specs.declared.runs.ListRef.{ListRef}
use Rattle.ghost_base.specs.Runs.{run_of}
use Rattle.ghost_model.specs.forms.Gaps.{listed_from}
use Rattle.flash_pages.proofs.ListFrames.{listed_from_records, records_by_width}
use Rattle.visible_spool.proofs.Identifiers.{all_ids}
use Rattle.visible_spool.proofs.reply.Reply.ids.Goals as goal

pub returns-clause-ids : goal.returns-clause-ids
returns-clause-ids c = λ sound pages rows holds.
    let at = c.begin.ensures.at in
    let begun = c.begin.result in
    let run = run_of c.args.self.now.run in
    let first : begun.list.first ≡ 0 = ap (λ (list : ListRef). list.first) c.begin.ensures.list in
    let count : begun.list.count ≡ c.args.self.now.run.count = ap (λ (list : ListRef). list.count) c.begin.ensures.list in
    ap (λ (list : ListRef). listed_from pages (run_of list.run) begun.list.first begun.at (begun.list.count - begun.at)) c.begin.ensures.list
    ∙ (listed_from_records pages run begun.list.first begun.at (begun.list.count - begun.at) (records_by_width run sound.wide)
    ∙ all_ids pages c.args.self.now rows holds c.identifiers_of_records.ensures (begun.list.first + begun.at) (begun.list.count - begun.at)
    (omega (arith, first, at)) (omega (arith, count, at)))
