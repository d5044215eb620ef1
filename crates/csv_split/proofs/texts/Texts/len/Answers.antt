use Rattle.std.proofs.Common.{◌∙◌, sym, ap, length}
use Rattle.csv_split.specs.Texts.{TextList}
use Rattle.csv_split.proofs.KeptTexts.{how_many}
use Rattle.csv_split.proofs.texts.Texts.len.Goals as goal

pub returns : goal.returns
returns c = sym (how_many c.self.inside.width c.self.inside.count c.self.inside.bytes.items) ∙ ap (λ (list : TextList). length list.texts) c.self.view_is
