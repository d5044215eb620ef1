use Rattle.std.proofs.Common.{◌∙◌, ◌≤◌, ap, map, arith}
use Rattle.ghost_base.specs.Views.{kind_of}
use Rattle.visible_spool.specs.declared.area.Area.{Area}
use Rattle.visible_spool.specs.Areas.{first_of}
use Rattle.visible_spool.specs.Spools.{area_at}
use Rattle.visible_spool.proofs.SpoolLemmas.{can_begin}
use Rattle.visible_spool.proofs.Spooling.{held_begun}
use Rattle.visible_spool.proofs.spool.Spool.open.Goals as goal

pub begin-requires-clause-narrow : goal.begin-requires-clause-narrow
begin-requires-clause-narrow c = omega (arith, c.reply_at-reply.ensures.width, c.requires.asked.narrow_row)

pub returns-clause-held : goal.returns-clause-held
returns-clause-held c = λ device areas small.
    let asked = c.requires.asked in
    let reply = c.reply_at-reply.result in
    let made = c.reply_at-reply.ensures in
    let area = area_at c.args.self.now c.args.table in
    let e = c.area-found.ensures.area in
    let first = made.first ∙ (c.first.ensures.first ∙ ap (λ (a : Area). first_of a c.args.text) e) in
    let rows = made.rows ∙ ap (λ (a : Area). a.rows) e in
    let wide : 4 ≤ reply.run.width = omega (arith, made.width, asked.wide) in
    let fits : reply.run.width ≤ area.width = omega (arith, made.width, asked.fits) in
    held_begun device _ c.args.text c.args.table reply c.begin.ensures.text c.begin.ensures.table c.begin.ensures.reply asked.there c.take_up.ensures.taken.text_is
    first rows asked.visible wide fits
    (c.begin.ensures.can device (can_begin device area c.args.text reply (map kind_of c.args.kinds.now) (areas c.args.table asked.there) small asked.visible first rows wide fits
    (omega (arith, made.cells, asked.few)) made.kinds asked.narrow))
