use Rattle.std.proofs.Common.{List, ap, filter, map, sym, ◌∙◌}
use Rattle.ghost_model.specs.core.Query.{Query, members_in}
use Rattle.spj_parse.specs.declared.query.Member.{Member}
use Rattle.spj_parse.specs.Resolved.{is_group}
use Rattle.spj_parse.specs.Views.{grouped, member_of}
use Rattle.spj_parse.proofs.QueryViews.{groups_among, members_among}
use Rattle.spj_parse.proofs.query.Query.members.Goals as goal

pub returns-clause-members : goal.returns-clause-members
returns-clause-members c =
    ap (map member_of) c.as_slice.ensures.value
    ∙ sym (members_among c.self.inside.joined.items c.self.inside.compared.items c.self.invariant.1)
    ∙ ap (λ (q : Query). members_in q.conditions) c.self.view_is

pub returns-clause-grouped : goal.returns-clause-grouped
returns-clause-grouped c =
    ap (λ (members : List Member). grouped (map member_of members)) c.as_slice.ensures.value
    ∙ sym (groups_among c.self.inside.joined.items (map member_of c.self.inside.compared.items))
    ∙ ap (λ (q : Query). filter is_group q.conditions) c.self.view_is
