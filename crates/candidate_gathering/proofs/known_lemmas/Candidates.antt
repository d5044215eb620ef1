-- Rows without a line are left out, and candidates meet what a plan for them does not test.
use Rattle.std.proofs.Common.{◌≡◌, ap, sym, ◌∙◌, subst, ℕ, zero, suc, ◌+◌, ◌-◌, ◌<◌, ◌≤◌, true, List, [], ◌++◌, filter, flat_map, Option, Some, None, is_some, arith}
use Rattle.std.specs.List.{list_all, range_with_len}
use Rattle.ghost_model.specs.core.Values.{Row, Database}
use Rattle.ghost_model.specs.core.Channel.{Catalog}
use Rattle.ghost_model.specs.core.Query.{Query}
use Rattle.ghost_model.specs.core.Replies.{Reply}
use Rattle.ghost_model.specs.core.Split.{hidden_of}
use Rattle.ghost_laws.specs.Scans.{holds_or_asked_along, known_along, known_row}
use Rattle.subtree_keys.specs.Laws.{IsTableBut}
use Rattle.candidate_rows.specs.declared.plan.RowPlan.{RowPlan}
use Rattle.candidate_rows.specs.declared.plan.SubtreeFile.{SubtreeFile}
use Rattle.ghost_laws.specs.Asking.{is_gathered}
use Rattle.candidate_rows.specs.Plans.{HasWays}
use Rattle.candidate_rows.specs.Working.{IsSifted}
use Rattle.candidate_gathering.specs.known.Known.{KnowsIndexes}
use Rattle.candidate_gathering.specs.known.Laws.{CandidatesAreSifted, RowsWithoutLinesAreLeftOut}

-- rows without a line are left out
without : (lines : ℕ → List Row) (rows between next : ℕ) → next + between ≤ rows + 1 → ((other : ℕ) → next ≤ other → other < next + between → lines other ≡ [])
    → flat_map lines (range_with_len next (rows + 1 - next)) ≡ flat_map lines (range_with_len (next + between) (rows + 1 - (next + between)))
without lines rows zero next within none =
    let same : next ≡ next + 0 = omega arith in ap (λ n. flat_map lines (range_with_len n (rows + 1 - n))) same
without lines rows (suc between) next within none =
    let more : rows + 1 - next ≡ suc (rows + 1 - (next + 1)) = omega (arith, within) in
    let end : next + 1 + between ≡ next + suc between = omega arith in
    ap (λ count. flat_map lines (range_with_len next count)) more
    ∙ (ap (λ first. first ++ flat_map lines (range_with_len (next + 1) (rows + 1 - (next + 1)))) (none next (omega arith) (omega arith))
    ∙ (without lines rows between (next + 1) (omega (arith, within, end)) (λ other low high. none other (omega (arith, low)) (omega (arith, high, end)))
    ∙ ap (λ n. flat_map lines (range_with_len n (rows + 1 - n))) end))

pub left_out : RowsWithoutLinesAreLeftOut
left_out cat database asked top given plan same rows next stop order most none =
    let end : next + (stop - next) ≡ stop = omega (arith, order) in
    without (λ identifier. known_row cat.schema database asked given plan.top identifier) rows (stop - next) next (omega (arith, end, most))
    (λ other low high. ap (λ one. known_row cat.schema database asked given one other) same ∙ none other low (omega (arith, end, high)))
    ∙ ap (λ n. flat_map (λ identifier. known_row cat.schema database asked given plan.top identifier) (range_with_len n (rows + 1 - n))) end

holding : (cat : Catalog) (database : Database) (asked : Query) (top : ℕ) (given : List Reply) (identifier : ℕ)
    → list_all (holds_or_asked_along cat.schema (known_along cat.schema database given top identifier)) (filter (is_gathered cat.schema) asked.conditions) ≡ true
    → (plan : RowPlan) → plan.top ≡ top → IsSifted cat asked database given identifier plan
holding cat database asked top given identifier met plan same of_plan =
    subst (λ one. list_all (holds_or_asked_along cat.schema (known_along cat.schema database given one identifier)) (filter (is_gathered cat.schema) asked.conditions) ≡ true) (sym same) met

keys_but : (page right : ℕ → List ℕ) (cat : Catalog) (database : Database) (plan : RowPlan) → KnowsIndexes page right cat database
    → (keys : Option SubtreeFile) → HasWays cat plan keys → is_some keys ≡ true → IsTableBut page cat (hidden_of cat.schema database) plan.top
keys_but page right cat database plan knows None ways some = absurd (cc some)
keys_but page right cat database plan knows (Some file) ways some = knows.subtrees plan.top ways.there ways.some_below

pub sifted : CandidatesAreSifted
sifted = record {
  holding = holding;
  keys = λ page right cat database asked plan knows is. keys_but page right cat database plan knows plan.keys is.ways;
}
