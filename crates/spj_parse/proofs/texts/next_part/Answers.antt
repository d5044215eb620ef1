use Rattle.std.proofs.Common.{sym}
use Rattle.spj_parse.proofs.PartLemmas.{last_part, next_part}
use Rattle.spj_parse.proofs.texts.next_part.Goals as goal

pub returns-in-None-clause-taken : goal.returns-in-None-clause-taken
returns-in-None-clause-taken c =
    last_part c.args.parts.now.rest.now _ _ c.part_len-len.result c.args.parts.now.ended c.if-parts.false c.part_len-len.ensures.cuts c.split_at.ensures.front c.split_at.ensures.back (sym c.in-None.ensures.cases)

pub returns-in-Some-clause-taken : goal.returns-in-Some-clause-taken
returns-in-Some-clause-taken c =
    next_part c.args.parts.now.rest.now _ _ c.in-Some.rest.now c.part_len-len.result c.in-Some.field-0-0.now c.args.parts.now.ended c.if-parts.false c.part_len-len.ensures.cuts c.split_at.ensures.front c.split_at.ensures.back c.in-Some.ensures.cases.0
