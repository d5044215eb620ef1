-- The first level of an index: its rows in order are the lists of its ranks.
use Rattle.std.proofs.Common.{◌≡◌, refl, ap, sym, ◌∙◌, subst, ℕ, ◌+◌, ◌-◌, ◌<◌, ◌≤◌, List, [], ◌∷◌, length, map, drop, get_or, Some, Vec, arith}
use Rattle.std.specs.Global.{Global}
use Rattle.std.proofs.lemmas.List.{length-map, get_or-map}
use Rattle.std.proofs.lemmas.List.Elements.{All-get_or}
use Rattle.std.specs.List.{All}
use Rattle.std.proofs.lemmas.Grind.{same_number_lists}
use Rattle.ghost_model.specs.core.Channel.{Catalog}
use Rattle.ghost_model.specs.core.Split.{Hidden}
use Rattle.ghost_model.specs.laws.SchemaTrees.{IsTree}
use Rattle.ghost_model.specs.laws.LayoutLaws.{LevelsAreAncestors}
use Rattle.ghost_model.specs.forms.Layout.{below, count_of, levels_of, above_of}
use Rattle.ghost_model.specs.forms.Flash.{IsHidden}
use Rattle.std.proofs.lemmas.List.FromFn.{length-range_with_len}
use Rattle.index_lists.specs.Ranks.{of_referred}
use Rattle.index_lists.specs.Laws.{LeadAs}
use Rattle.flash_layout.specs.Limits.{HasLayout}
use Rattle.flash_build.specs.Levels.{RankedAbove, AreRankedAbove, items_of}
use Rattle.flash_build.proofs.Leading.{ranked_itself, own_level}
use Rattle.flash_build.proofs.Entries.{all_below, all_few, all_ranked}

some_same : {a b : ℕ} → Some a ≡ Some b → a ≡ b
some_same e = cc (e)

-- rows lead one way
lead_once : (cat : Catalog) (hidden : Hidden) (from table : ℕ) (a b : List ℕ) → LeadAs cat hidden from table a → LeadAs cat hidden from table b → a ≡ b
lead_once cat hidden from table a b one other =
    same_number_lists a b (one.long ∙ sym other.long) (λ k low.
    let e : k + 1 - 1 ≡ k = omega arith in
    let within : k + 1 ≤ count_of cat from = omega (arith, low, one.long) in
    let same = some_same (sym (one.each (k + 1) (omega arith) within) ∙ other.each (k + 1) (omega arith) within) in
    ap (λ j. get_or a j 0) (sym e) ∙ (same ∙ ap (λ j. get_or b j 0) e))

pub ranked_once :
    (cat : Catalog) (hidden : Hidden) (table : ℕ) (own : List ℕ) (from : ℕ) (a b : List ℕ)
    → RankedAbove cat hidden table own from a → RankedAbove cat hidden table own from b → a ≡ b
ranked_once cat hidden table own from a b one other =
    one.same ∙ (ap (of_referred own) (lead_once cat hidden from table one.reached other.reached one.lead other.lead) ∙ sym other.same)

-- the first of a table's levels has the ranks of its own rows
pub own_ranks :
    (cat : Catalog) (hidden : Hidden) → LevelsAreAncestors → IsTree cat.schema → (part : IsHidden cat hidden) → (table : ℕ) → table < length cat.schema
    → 0 < length (levels_of cat.schema table) → (own : List ℕ) → length own ≡ count_of cat table
    → (all : List (List ℕ)) → AreRankedAbove cat hidden table own (levels_of cat.schema table) all → get_or all 0 [] ≡ own
own_ranks cat hidden are tree part table there some own long all ranked =
    ranked_once cat hidden table own (get_or (levels_of cat.schema table) 0 0) (get_or all 0 []) own (ranked.each 0 some)
    (subst (λ (from : ℕ). RankedAbove cat hidden table own from own) (sym (own_level cat.schema are tree table there some))
    (ranked_itself cat hidden tree part table own long))

-- the ranks of the rows of the table above in a table's id index
module _ (cat : Catalog) (hidden : Hidden) (table : ℕ) (laid : HasLayout cat) (some : 0 < length (above_of cat.schema table)) (all : List (Vec ℕ Global))
    (ranked : AreRankedAbove cat hidden table (below (count_of cat table)) (levels_of cat.schema table) (map items_of all))
    (ranks : Vec ℕ Global) (is : ranks ≡ get_or all 1 ranks) where
  there : 1 < length all
  there = let low = many (levels_of cat.schema table) some in let size = length-map all items_of in let count = ranked.count in omega (arith, low, size, count)
    where
      many : (xs : List ℕ) → 0 < length (drop 1 xs) → 1 < length xs
      many [] low = absurd (omega (arith, low))
      many (x ∷ xs) low = omega (arith, low)

  pub above_few : length ranks.items < 2097152
  above_few =
      subst (λ (v : Vec ℕ Global). length v.items < 2097152) (sym is)
      (All-get_or (λ (v : Vec ℕ Global). length v.items < 2097152) all 1 ranks there
      (all_few cat hidden table (below (count_of cat table)) laid.few.rows (levels_of cat.schema table) all ranked))

  pub above_ranked : All (λ rank. rank < count_of cat table) ranks.items
  above_ranked =
      subst (λ (v : Vec ℕ Global). All (λ rank. rank < count_of cat table) v.items) (sym is)
      (All-get_or (λ (v : Vec ℕ Global). All (λ rank. rank < count_of cat table) v.items) all 1 ranks there
      (all_ranked cat hidden table (below (count_of cat table)) (count_of cat table) (length-range_with_len 0 (count_of cat table)) (all_below (count_of cat table))
      (levels_of cat.schema table) all ranked))

  pub above_is : get_or (map items_of all) 1 [] ≡ ranks.items
  above_is = get_or-map items_of all 1 ranks [] there ∙ ap items_of (sym is)

pub but_first_of : (vs : List (Vec ℕ Global)) → get_or (map items_of (drop 1 vs)) 0 [] ≡ get_or (map items_of vs) 1 []
but_first_of [] = refl
but_first_of (v ∷ vs) = refl
