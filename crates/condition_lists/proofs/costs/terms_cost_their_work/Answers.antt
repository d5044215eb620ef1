use Rattle.std.proofs.Common.{◌≡◌, ap, sym, ◌∙◌, subst, ℕ, ◌+◌, ◌*◌, ◌<◌, ◌≤◌, ◌&&◌, true, List, length, filter}
use Rattle.std.specs.Prelude.{sum_by}
use Rattle.std.proofs.lemmas.Bool.{and_parts}
use Rattle.ghost_model.specs.core.Query.{Query, top_of}
use Rattle.ghost_model.specs.core.Asks.{asks_of, ask_for}
use Rattle.ghost_model.specs.core.Meaning.{answer}
use Rattle.ghost_model.proofs.MeaningLemmas.OneRow.{Among, Distinct, distinct-filter, from_filter, query_is_linked}
use Rattle.ghost_model.specs.forms.Left.{without_left}
use Rattle.condition_lists.specs.Terms.{is_listed, is_replied, is_compared, is_united, has_level}
use Rattle.ghost_model.specs.forms.QueryWork.{condition_work, reply_work, row_work, work_by_top}
use Rattle.condition_lists.specs.Costs.{term_cost, terms_cost}
use Rattle.condition_lists.proofs.FilterLemmas.{compared_there}
use Rattle.condition_lists.proofs.MemberLemmas.{contains_of}
use Rattle.condition_lists.proofs.WorkLemmas.{condition_cost, member_cost, reply_cost, sum_terms, its_ask, tables_work, conditions_work, all_add_up}
use Rattle.condition_lists.proofs.costs.terms_cost_their_work.Goals as goal

pub returns : goal.returns
returns c =
    let levels = c.levels_are_ancestors.ensures in
    let grows = c.work_grows.ensures in
    let one = c.one_reading.ensures in
    record {
      condition = λ cat database over given top condition listed term is.
          condition_cost cat database over levels (c.rows_lead_to_rows.ensures cat.schema database over.tree over.is) grows given top condition listed term is;
      reply = λ cat database over given top ask term is about some_tests.
          reply_cost cat database over levels (c.rows_lead_to_rows.ensures cat.schema database over.tree over.is) grows given top ask about some_tests term is;
      query = λ cat database over text asked read top top_is forms terms are given honest.
          let keys = c.rows_lead_to_rows.ensures cat.schema database over.tree over.is in
          let means = (one.meaning cat.schema text read.meant).0 read.reads in
          let once : Distinct asked.from =
          subst (λ (q : Query). Distinct q.from) (sym read.once) (query_is_linked cat.schema text read.meant top means (ap (λ (q : Query). top_of cat.schema q) (sym read.once) ∙ top_is)).distinct in
          let tables : List ℕ = filter (is_replied cat.schema asked forms top) asked.from in
          let compared : (table : ℕ) → Among table tables → Among table asked.from × (is_compared cat.schema asked table ≡ true) = λ table among.
          (let from = from_filter (is_replied cat.schema asked forms top) table asked.from among in (from.0, (and_parts (is_compared cat.schema asked table) (has_level cat.schema top table) (and_parts (is_compared cat.schema asked table && has_level cat.schema top table) (is_united forms top table) from.1).0).0)) in
          let there : (table : ℕ) → Among table tables → table < length cat.schema = λ table among. compared_there cat.schema table asked.conditions (compared table among).1 in
          let sums = sum_terms cat top (term_cost cat database given top) (condition_work cat.schema database top) (λ table. reply_work cat.schema database top (ask_for cat.schema asked table))
          asked.conditions tables terms are
          (λ one term is. member_cost cat database over levels keys grows given top one term is)
          (λ table term among is.
          let its = its_ask cat.schema database asked top table (compared table among).0 (there table among) (compared table among).1 in
          reply_cost cat database over levels keys grows given top (ask_for cat.schema asked table)
          (honest (ask_for cat.schema asked table) (contains_of (asks_of cat.schema asked) (ask_for cat.schema asked table) its.0)) its.1 term is) in
          subst (λ o. 64 + (terms_cost cat database given top terms + length (answer cat.schema database (without_left cat.schema asked)) * row_work cat.schema database asked) ≤ work_by_top cat.schema database asked o) (sym top_is)
          (all_add_up (terms_cost cat database given top terms) (sum_by (condition_work cat.schema database top) asked.conditions)
          (sum_by (condition_work cat.schema database top) (filter (is_listed cat.schema top) asked.conditions)) (sum_by (reply_work cat.schema database top) (asks_of cat.schema asked))
          (sum_by (λ table. reply_work cat.schema database top (ask_for cat.schema asked table)) tables) (length (answer cat.schema database (without_left cat.schema asked)) * row_work cat.schema database asked)
          sums (conditions_work (condition_work cat.schema database top) (is_listed cat.schema top) asked.conditions)
          (tables_work cat.schema database asked top tables (distinct-filter (is_replied cat.schema asked forms top) asked.from once) (λ table among. ((compared table among).0, there table among))));
    }
