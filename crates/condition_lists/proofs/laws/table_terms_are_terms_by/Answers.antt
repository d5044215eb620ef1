use Rattle.condition_lists.proofs.SetLemmas.{terms_by}
use Rattle.condition_lists.proofs.laws.table_terms_are_terms_by.Goals as goal

pub returns : goal.returns
returns c = λ cat tree text asked read top top_is table held compared terms are.
    terms_by cat tree c.levels_are_ancestors.ensures text asked read c.one_reading.ensures c.accepted_queries_are_followed.ensures top top_is table held compared terms are
