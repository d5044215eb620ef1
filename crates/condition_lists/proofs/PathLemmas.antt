-- Ways from table to table, the levels on them, and what rows lead to along them.
use Rattle.std.proofs.Common.{◌≡◌, ◌∙◌, refl, ap, sym, ℕ, zero, suc, ◌+◌, ◌<◌, Bool, true, false, nat_eq, nat_lt, length, slice_get, Option, Some, None, option_and_then, if◌then◌else◌, arith}
use Rattle.std.specs.Prelude.{position, is_some}
use Rattle.std.proofs.lemmas.Bool.{ltb-true}
use Rattle.ghost_model.specs.core.Schema.{Schema, ancestor, IsAtOrBelow}
use Rattle.ghost_model.specs.core.Values.{Database}
use Rattle.ghost_model.specs.core.Database.{leads, points_to}
use Rattle.ghost_model.specs.forms.Layout.{levels_of}
use Rattle.ghost_model.specs.laws.LayoutLaws.{LevelsAreAncestors}
use Rattle.ghost_model.specs.laws.MeaningLaws.{LeadsFollowKeys}
use Rattle.ghost_model.specs.laws.SchemaTrees.{IsTree}
use Rattle.ghost_model.proofs.MeaningLemmas.Leading.{first_step, one_step_more, no_step}
use Rattle.condition_lists.specs.Terms.{level_in, has_level}
use Rattle.condition_lists.proofs.TermLemmas.{found_at}

-- one way after another
pub joined : (schema : Schema) (steps more total from middle to : ℕ) → total ≡ steps + more → ancestor schema steps to ≡ Some middle
    → ancestor schema more middle ≡ Some from → ancestor schema total to ≡ Some from
joined schema zero more total from middle to e h g =
    let same : middle ≡ to = no_step schema middle to h in
    let size : total ≡ more = omega (arith, e) in
    ap (λ n. ancestor schema n to) size ∙ ap (ancestor schema more) (sym same) ∙ g
joined schema (suc steps) more zero from middle to e h g = absurd (omega (arith, e))
joined schema (suc steps) more (suc total) from middle to e h g =
    let up = first_step schema steps middle to h in
    one_step_more schema total from to up.0 up.1 (joined schema steps more total from middle up.0 (omega (arith, e)) up.2 g)

pub over : (schema : Schema) (from middle to : ℕ) → IsAtOrBelow schema from middle → IsAtOrBelow schema middle to → IsAtOrBelow schema from to
over schema from middle to high low = (low.0 + high.0, joined schema low.0 high.0 (low.0 + high.0) from middle to refl low.1 high.1)

pub itself : (schema : Schema) (table : ℕ) → IsAtOrBelow schema table table
unfolding ancestor
itself schema table = (0, refl)

-- of two tables each of which is the other or below it, both are one
pub one_table : (schema : Schema) → IsTree schema → (top table : ℕ) → IsAtOrBelow schema table top → IsAtOrBelow schema top table → table ≡ top
one_table schema tree top table high low = by high.0 high.1
  where
    by : (steps : ℕ) → ancestor schema steps top ≡ Some table → table ≡ top
    by zero e = no_step schema table top e
    by (suc steps) e =
        absurd (tree.no_cycle top (record {
          steps = suc steps + low.0;
          moves = omega arith;
          back = joined schema (suc steps) low.0 (suc steps + low.0) top table top refl e low.1;
        }))

-- where a level is found
pub record IsLevel (schema : Schema) (top table level : ℕ) : Type 0 where
  pub there : table < length schema
  pub at : slice_get (levels_of schema table) level ≡ Some top

pub level_found : (schema : Schema) (top table level : ℕ) → level_in schema top table ≡ Some level → IsLevel schema top table level
level_found schema top table level e = by (nat_lt table (length schema)) refl e
  where
    by : (b : Bool) → nat_lt table (length schema) ≡ b
        → (if b then position (λ other. nat_eq other top) (levels_of schema table) else None) ≡ Some level → IsLevel schema top table level
    by true inside found =
        record { there = ltb-true table (length schema) inside; at = found_at top (levels_of schema table) level found }
    by false outside found = absurd (cc (found))

pub some_level : (o : Option ℕ) → is_some o ≡ true → (level : ℕ) × (o ≡ Some level)
some_level None e = absurd (cc (e))
some_level (Some level) e = (level, refl)

pub no_level : (o : Option ℕ) → is_some o ≡ false → o ≡ None
no_level None e = refl
no_level (Some level) e = absurd (cc (e))

module _ (schema : Schema) (tree : IsTree schema) (levels : LevelsAreAncestors) where
  pub below_level : (top table level : ℕ) → level_in schema top table ≡ Some level → IsAtOrBelow schema top table
  below_level top table level e =
      let is = level_found schema top table level e in
      (level, sym (levels schema tree table level is.there) ∙ is.at)

  pub below_leveled : (top table : ℕ) → has_level schema top table ≡ true → IsAtOrBelow schema top table
  below_leveled top table e = let found = some_level (level_in schema top table) e in below_level top table found.0 found.1

-- what a row of a table between leads to
pub led_on : (schema : Schema) (database : Database) → LeadsFollowKeys schema database
    → (from middle identifier reached : ℕ) → IsAtOrBelow schema from middle → leads schema database from identifier middle ≡ Some reached
    → (steps to : ℕ) → ancestor schema steps to ≡ Some middle → leads schema database from identifier to ≡ leads schema database middle reached to
led_on schema database keys from middle identifier reached high led zero to e =
    let same : middle ≡ to = no_step schema middle to e in
    ap (leads schema database from identifier) (sym same) ∙ led ∙ sym (ap (leads schema database middle reached) (sym same) ∙ keys.to_itself middle reached)
led_on schema database keys from middle identifier reached high led (suc steps) to e =
    let up = first_step schema steps middle to e in
    let way : IsAtOrBelow schema middle up.0 = (steps, up.2) in
    keys.along_a_reference from up.0 to identifier (over schema from middle up.0 high way) up.1
    ∙ ap (option_and_then (λ other. points_to schema database up.0 other to)) (led_on schema database keys from middle identifier reached high led steps up.0 up.2)
    ∙ sym (keys.along_a_reference middle up.0 to reached way up.1)
