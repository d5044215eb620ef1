-- That each query text has one meaning or one refusal, and that the reading tells it: the first rule that the tree of
-- the text breaks decides.
use Rattle.std.proofs.Common.{◌≡◌, ℕ, Bool, true, false, not, List, Option, Some, None, Result, Ok, Err, ◌⊎◌, inl, inr, refl, sym, ap, subst, ◌∙◌}
use Rattle.std.specs.List.{list_all}
use Rattle.ghost_model.specs.core.Schema.{Schema}
use Rattle.ghost_model.specs.core.Query.{Query}
use Rattle.ghost_model.specs.refusals.QueryGrammar.{QueryText}
use Rattle.ghost_model.specs.readings.QueryPlaces.{syntax_of}
use Rattle.ghost_model.specs.refusals.Rules.{first_broken, MeetsAll, BreaksFirst}
use Rattle.ghost_model.specs.refusals.QueryMeaning.{Refusal, Syntax, Limit, UnknownTable, UnknownColumn, Ambiguous, KindMismatch, BadLiteral, NotLinked, MixedTables, is_over_limit, has_unknown_table, has_unknown_column, is_ambiguous, is_unlinked, is_of_one_table, rules_of_queries, resolved, Means, BreaksRule, IsRefused}
use Rattle.ghost_model.specs.laws.ShortWords.{has_kind_mismatch, has_bad_literal}
use Rattle.ghost_model.specs.readings.QueryReading.{query_unless, judged, reading}
use Rattle.ghost_model.specs.laws.QueryLaws.{HasOneMeaning, HasOneRefusal}
use Rattle.ghost_model.proofs.RuleLemmas.{kept_and, other_if}
use Rattle.ghost_model.proofs.QueryLemmas.{tree_spells, spelled_tree, stop_fault, fault_stop}

-- what each rule leaves
pub record KeptRules (schema : Schema) (text : List ℕ) (tree : QueryText) : Type 0 where
  pub limits : is_over_limit schema text tree ≡ false
  pub tables : has_unknown_table schema tree ≡ false
  pub columns : has_unknown_column schema tree ≡ false
  pub one_meaning : is_ambiguous schema tree ≡ false
  pub kinds : has_kind_mismatch schema tree ≡ false
  pub literals : has_bad_literal schema tree ≡ false
  pub linked : is_unlinked schema (resolved schema tree) ≡ false
  pub of_one_table : list_all is_of_one_table (resolved schema tree).conditions ≡ true

not_false : (b : Bool) → not b ≡ false → b ≡ true
not_false true e = refl
not_false false e = absurd (cc)

pub kept_rules : (schema : Schema) (text : List ℕ) (tree : QueryText) → MeetsAll (rules_of_queries schema text tree) → KeptRules schema text tree
kept_rules schema text tree e =
    let a = kept_and (is_over_limit schema text tree) Limit _ e in
    let b = kept_and (has_unknown_table schema tree) UnknownTable _ a.1 in
    let c = kept_and (has_unknown_column schema tree) UnknownColumn _ b.1 in
    let d = kept_and (is_ambiguous schema tree) Ambiguous _ c.1 in
    let f = kept_and (has_kind_mismatch schema tree) KindMismatch _ d.1 in
    let g = kept_and (has_bad_literal schema tree) BadLiteral _ f.1 in
    let h = kept_and (is_unlinked schema (resolved schema tree)) NotLinked _ g.1 in
    let i = kept_and (not (list_all is_of_one_table (resolved schema tree).conditions)) MixedTables _ h.1 in
    record {
      limits = a.0;
      tables = b.0;
      columns = c.0;
      one_meaning = d.0;
      kinds = f.0;
      literals = g.0;
      linked = h.0;
      of_one_table = not_false _ i.0;
    }

-- no rule is the one of the grammar
no_syntax : (schema : Schema) (text : List ℕ) (tree : QueryText) (at : ℕ) → BreaksFirst (rules_of_queries schema text tree) (Syntax at) → ⊥
no_syntax schema text tree at =
    other_if (is_over_limit schema text tree) Limit (Syntax at) _ (λ e. absurd (cc))
    (other_if (has_unknown_table schema tree) UnknownTable (Syntax at) _ (λ e. absurd (cc))
    (other_if (has_unknown_column schema tree) UnknownColumn (Syntax at) _ (λ e. absurd (cc))
    (other_if (is_ambiguous schema tree) Ambiguous (Syntax at) _ (λ e. absurd (cc))
    (other_if (has_kind_mismatch schema tree) KindMismatch (Syntax at) _ (λ e. absurd (cc))
    (other_if (has_bad_literal schema tree) BadLiteral (Syntax at) _ (λ e. absurd (cc))
    (other_if (is_unlinked schema (resolved schema tree)) NotLinked (Syntax at) _ (λ e. absurd (cc))
    (other_if (not (list_all is_of_one_table (resolved schema tree).conditions)) MixedTables (Syntax at) None (λ e. absurd (cc)) (λ e. absurd (cc)))))))))

module _ (schema : Schema) (text : List ℕ) where
  by_rule : (refusal : Refusal) → BreaksRule schema text refusal → IsRefused schema text refusal
  by_rule (Syntax at) b = absurd (no_syntax schema text b.tree at b.breaks)
  by_rule _ b = b

  -- what the reading says is so
  Holds : Result Query Refusal → Type 0
  Holds (Ok query) = Means schema text query
  Holds (Err refusal) = IsRefused schema text refusal

  judged_holds : (tree : QueryText) → syntax_of text ≡ Ok tree → (o : Option Refusal) → first_broken (rules_of_queries schema text tree) ≡ o
      → Holds (query_unless (resolved schema tree) o)
  unfolding Holds
  judged_holds tree is None found = record { tree = tree; spells = tree_spells text tree is; keeps = found; means = refl }
  judged_holds tree is (Some rule) found =
      by_rule rule (record { tree = tree; spells = tree_spells text tree is; breaks = found })

  reading_holds : Holds (reading schema text)
  unfolding Holds
  reading_holds = elim (syntax_of text) as (λ r. syntax_of text ≡ r → Holds (judged schema text r)) [
    | Ok tree ↦ (λ is. judged_holds tree is (first_broken (rules_of_queries schema text tree)) refl)
    | Err at ↦ (λ is. stop_fault text at is)
  ] refl

  pub means_of : (query : Query) → reading schema text ≡ Ok query → Means schema text query
  unfolding Holds
  means_of query is = subst Holds is reading_holds

  pub refused_of : (refusal : Refusal) → reading schema text ≡ Err refusal → IsRefused schema text refusal
  unfolding Holds
  refused_of refusal is = subst Holds is reading_holds

  judged_as : (tree : QueryText) (o : Option Refusal) → syntax_of text ≡ Ok tree → first_broken (rules_of_queries schema text tree) ≡ o
      → reading schema text ≡ query_unless (resolved schema tree) o
  judged_as tree o is found = ap (judged schema text) is ∙ ap (query_unless (resolved schema tree)) found

  pub reading_of_means : (query : Query) → Means schema text query → reading schema text ≡ Ok query
  reading_of_means query m = judged_as m.tree None (spelled_tree text m.tree m.spells) m.keeps ∙ ap Ok (sym m.means)

  reading_of_rule : (refusal : Refusal) → BreaksRule schema text refusal → reading schema text ≡ Err refusal
  reading_of_rule refusal b = judged_as b.tree (Some refusal) (spelled_tree text b.tree b.spells) b.breaks

  pub reading_of_refused : (refusal : Refusal) → IsRefused schema text refusal → reading schema text ≡ Err refusal
  reading_of_refused (Syntax at) f = ap (judged schema text) (fault_stop text at f)
  reading_of_refused Limit b = reading_of_rule Limit b
  reading_of_refused UnknownTable b = reading_of_rule UnknownTable b
  reading_of_refused UnknownColumn b = reading_of_rule UnknownColumn b
  reading_of_refused Ambiguous b = reading_of_rule Ambiguous b
  reading_of_refused KindMismatch b = reading_of_rule KindMismatch b
  reading_of_refused BadLiteral b = reading_of_rule BadLiteral b
  reading_of_refused NotLinked b = reading_of_rule NotLinked b
  reading_of_refused MixedTables b = reading_of_rule MixedTables b

  pub one_or_other : HasOneMeaning schema text ⊎ HasOneRefusal schema text
  one_or_other = elim (reading schema text) as (λ r. reading schema text ≡ r → HasOneMeaning schema text ⊎ HasOneRefusal schema text) [
    | Ok query ↦ (λ is. inl (record {
      query = query;
      means = means_of query is;
      no_other = λ other m. (let so = reading_of_means other m in cc);
      not_refused = λ refusal r. (let so = reading_of_refused refusal r in cc);
    }))
    | Err refusal ↦ (λ is. inr (record {
      refusal = refusal;
      refused = refused_of refusal is;
      no_other = λ other r. (let so = reading_of_refused other r in cc);
      no_meaning = λ query m. (let so = reading_of_means query m in cc);
    }))
  ] refl
