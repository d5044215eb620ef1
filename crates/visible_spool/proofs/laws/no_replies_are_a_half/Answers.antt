use Rattle.std.proofs.Common.{[], arith}
use Rattle.visible_spool.proofs.laws.no_replies_are_a_half.Goals as goal

pub returns : goal.returns
returns c = record {
  half = λ told cat side device small. record {
    readable = λ table there. (c.texts_without_rows.ensures.none table there).readable device small;
    lies = λ table there place within. let none = (c.texts_without_rows.ensures.none table there).count in absurd (omega (arith, none, within));
    whole = λ yes table there. record { rows = []; holds = (c.texts_without_rows.ensures.none table there).holds device.page };
    rows = λ table there some. let none = (c.texts_without_rows.ensures.none table there).count in absurd (omega (arith, none, some));
  };
}
