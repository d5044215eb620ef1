use Rattle.std.proofs.Common.{◌≡◌, refl, sym, subst}
use Rattle.ghost_model.specs.core.Query.{Query}
use Rattle.ghost_model.specs.core.Meaning.{answer}
use Rattle.ghost_model.proofs.QueryReadingLemmas.{kept_rules}
use Rattle.ghost_model.specs.forms.Left.{without_left}
use Rattle.spj_parse.specs.Resolved.{linked}
use Rattle.spj_parse.proofs.AnswerLemmas.{answer_once, answer_left}
use Rattle.spj_parse.proofs.LinkedLemmas.{asks_once}
use Rattle.spj_parse.proofs.laws.joins_count_once.Goals as goal

pub returns : goal.returns
returns c = record {
  top = λ schema query. refl;
  asks = asks_once;
  answers = λ schema tree database text query h.
      let meant = (c.one_reading.ensures.meaning schema text query).0 h in
      subst (λ (q : Query). answer schema database (linked schema q) ≡ answer schema database q) (sym meant.means)
      (answer_once c.values_are_ordered.ensures schema tree meant.tree (kept_rules schema text meant.tree meant.keeps).linked database);
  left = λ schema tree database text query h.
      let meant = (c.one_reading.ensures.meaning schema text query).0 h in
      subst (λ (q : Query). answer schema database (without_left schema (linked schema q)) ≡ answer schema database (without_left schema q)) (sym meant.means)
      (answer_left c.values_are_ordered.ensures schema tree meant.tree (kept_rules schema text meant.tree meant.keeps).linked database);
}
