use Rattle.std.proofs.Common.{ap, map, filter, sym, ◌∙◌}
use Rattle.ghost_model.specs.core.Query.{Query}
use Rattle.spj_parse.specs.Resolved.{is_join}
use Rattle.spj_parse.specs.Views.{join_of, member_of}
use Rattle.spj_parse.proofs.QueryViews.{joins_among}
use Rattle.spj_parse.proofs.query.Query.joins.Goals as goal

pub returns-clause-joins : goal.returns-clause-joins
returns-clause-joins c =
    ap (map join_of) c.as_slice.ensures.value
    ∙ sym (joins_among c.self.inside.joined.items (map member_of c.self.inside.compared.items))
    ∙ ap (λ (q : Query). filter is_join q.conditions) c.self.view_is
