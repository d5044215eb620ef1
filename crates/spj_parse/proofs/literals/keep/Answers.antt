use Rattle.std.proofs.Common.{◌≤◌, length, sym, ◌∙◌, arith}
use Rattle.std.proofs.lemmas.Bool.{eqb-true, eqb-false}
use Rattle.spj_parse.proofs.LiteralLemmas.{full, spare}
use Rattle.spj_parse.proofs.literals.keep.Goals as goal

pub returns-then-is_full : goal.returns-then-is_full
returns-then-is_full c = record { kept = λ value k. full value c.args.byte _ k (eqb-true _ _ (sym c.is_full.ensures.value ∙ c.if-is_full.true)) }

pub returns : goal.returns
returns c = record { kept = λ value k. spare value c.args.byte _ _ k (let fits : length c.args.front.now.items ≤ 64 = c.is_full.ensures.fits in let other = eqb-false _ _ (sym c.if-is_full.ensures.value) in omega (arith, fits, other)) c.push.ensures.items }
