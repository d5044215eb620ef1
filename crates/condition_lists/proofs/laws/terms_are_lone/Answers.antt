use Rattle.std.proofs.Common.{◌∷◌, [], filter}
use Rattle.condition_lists.specs.Terms.{is_replied}
use Rattle.condition_lists.proofs.LoneLemmas.{alone_at, lone_terms}
use Rattle.condition_lists.proofs.laws.terms_are_lone.Goals as goal

pub returns : goal.returns
returns c = record {
  terms = λ cat asked forms top terms are. lone_terms cat top asked.conditions (filter (is_replied cat.schema asked forms top) asked.from) terms are;
  keys = λ cat asked top terms are. lone_terms cat top asked.conditions [] terms are;
  table = λ cat asked table terms are. lone_terms cat table asked.conditions (table ∷ []) terms are;
  alone = alone_at;
}
