use Rattle.std.proofs.Common.{List, ℕ, is_none, ap, ◌∙◌}
use Rattle.ghost_model.specs.core.Query.{top_of}
use Rattle.spj_parse.specs.Links.{top_among}
use Rattle.spj_parse.proofs.TopLemmas.{has_top}
use Rattle.spj_parse.proofs.query.Query.top.Goals as goal

pub returns : goal.returns
returns c =
    let top = c.top_among.ensures.top ∙ ap (λ (tables : List ℕ). top_among c.args.schema.now tables) c.as_slice.ensures.value ∙ ap (top_of c.args.schema.now) c.self.view_is in
    record { top = top; some = λ text h. ap is_none top ∙ has_top c.one_reading.ensures c.args.schema.now text c.args.self.now h }
