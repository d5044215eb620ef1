use Rattle.std.proofs.Common.{sym, subst, List, ℕ}
use Rattle.std.proofs.lemmas.List.{nil_from_length}
use Rattle.tree_schema.specs.Marks.{literal_of}
use Rattle.spj_parse.specs.Literals.{Keeps}
use Rattle.spj_parse.proofs.LiteralLemmas.{no_literal}
use Rattle.spj_parse.proofs.literals.text_in.Goals as goal

pub returns-in_default : goal.returns-in_default
returns-in_default c = record {
  text = subst (λ (literal : List ℕ). Keeps c.empty.result (literal_of literal)) (sym (nil_from_length _ c.in_default.ensures.cases))
      (subst (Keeps c.empty.result) (sym no_literal) c.empty.ensures.text);
}
