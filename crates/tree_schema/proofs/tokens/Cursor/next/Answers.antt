use Rattle.std.proofs.Common.{◌∙◌, sym, ap}
use Rattle.tree_schema.specs.Marks.{left_from}
use Rattle.tree_schema.proofs.TokenSteps.{cursor_step}
use Rattle.tree_schema.proofs.tokens.Cursor.next.Goals as goal

pub returns-clause-taken : goal.returns-clause-taken
returns-clause-taken c =
    let text = c.first_token-mark.ensures in
    sym c.self.view_is
    ∙ ap (λ ended. left_from ended c.self.inside.at c.self.inside.rest.now) c.if-self.false
    ∙ cursor_step _ _ _ _ c.self.inside.at _ _ _ _ c.space_len-spaces.ensures c.split_at.ensures.back text.begins text.within text.some c.split_at-2.ensures.front c.split_at-2.ensures.back c.is_empty-self-inside.ensures
