use Rattle.std.proofs.Common.{true, false, not, is_some, refl, ap, sym, ◌∙◌}
use Rattle.spj_parse.proofs.ConditionLemmas.{unlinked}
use Rattle.spj_parse.proofs.links.is_unlinked.Goals as goal

pub returns-then-any_condition_passes : goal.returns-then-any_condition_passes
returns-then-any_condition_passes c = record {
  unlinked = λ tree h f k. unlinked c.args.schema.now c.args.text.now tree c.args.from.now h f k true _ _ c.if-any_condition_passes.ensures.passes refl refl;
}

pub returns : goal.returns
returns c = record {
  unlinked = λ tree h f k. unlinked c.args.schema.now c.args.text.now tree c.args.from.now h f k false false c.any_lacks_join.result
      c.if-any_condition_passes.ensures.passes
      (sym (ap (λ top. not (is_some top)) (sym c.top_among.ensures.top) ∙ ap not c.if-is_none.ensures)) c.any_lacks_join.ensures.lacks;
}
