-- The rows that a session gave of each text are those of its answer, where the flash failed none.
use Rattle.std.proofs.Common.{◌≡◌, ◌+◌, ℕ, zero, suc, Bool, true, false, ◌||◌, List, [], ◌∷◌, length, map, Option, Some, Result, Ok, Err, refl, sym, ap, ◌∙◌, subst, length-append, arith}
use Rattle.std.specs.Prelude.{slice_get, option_map}
use Rattle.std.proofs.lemmas.List.{length-map}
use Rattle.std.specs.List.{list_any}
use Rattle.std.proofs.lemmas.Option.{slice_get-map}
use Rattle.ghost_model.specs.core.Channel.{Catalog}
use Rattle.ghost_model.specs.core.Meaning.{answer}
use Rattle.ghost_model.specs.core.Printed.{lines_of_reading, lines_of_text, row_line, count_line}
use Rattle.ghost_model.specs.core.Query.{Query}
use Rattle.ghost_model.specs.core.Schema.{Schema}
use Rattle.ghost_model.specs.core.Values.{Database}
use Rattle.ghost_model.specs.readings.QueryReading.{reading}
use Rattle.ghost_model.specs.refusals.QueryMeaning.{Refusal}
use Rattle.leakless_plan.specs.declared.plan.Plan.{Plan}
use Rattle.key_inputs.specs.Outside.{Outside}
use Rattle.key_lines.specs.Told.{AreTold}
use Rattle.key_lines.specs.declared.told.ToldText.{ToldText}
use Rattle.key_commands.specs.generate.Counting.{rows_by, rows_given, rows_of_text}
use Rattle.key_commands.specs.local.Lines.{AreLinesBy, AreTextLines, TextLines, is_cut, lines_in}
use Rattle.key_commands.specs.local.Running.{RanOver}
use Rattle.key_commands.specs.declared.local.ends.LocalEnd.{LocalEnd}
use Rattle.key_commands.specs.declared.local.ends.LocalEnd.TheVariants as ends

-- what is made of the elements of two lists is the same where it is at each place, with that of a third list there
agree : {A B C : Type 0} (f : A → ℕ) (g : C → ℕ) (firsts : List A) (seconds : List B) (thirds : List C) → length firsts ≡ length seconds → length seconds ≡ length thirds
    → ((place : ℕ) (a : A) (b : B) (c : C) → slice_get firsts place ≡ Some a → slice_get seconds place ≡ Some b → slice_get thirds place ≡ Some c → f a ≡ g c)
    → map f firsts ≡ map g thirds
agree f g [] seconds [] one other each = refl
agree f g [] [] (c ∷ thirds) one other each = cc
agree f g [] (b ∷ seconds) (c ∷ thirds) one other each = cc
agree f g (a ∷ firsts) [] thirds one other each = cc
agree f g (a ∷ firsts) (b ∷ seconds) [] one other each = cc
agree f g (a ∷ firsts) (b ∷ seconds) (c ∷ thirds) one other each =
    let first : f a ≡ g c = each 0 a b c refl refl refl in
    let later : map f firsts ≡ map g thirds = agree f g firsts seconds thirds (omega (arith, one)) (omega (arith, other)) (λ place. each (suc place)) in
    rw (first, later) refl

none_cut : (given : List TextLines) (place : ℕ) (one : TextLines) → list_any is_cut given ≡ false → slice_get given place ≡ Some one → one.cut ≡ false
none_cut [] place one none at = cc
none_cut (first ∷ given) zero one none at = by_cut first.cut refl none
  where
    by_cut : (cut : Bool) → first.cut ≡ cut → (cut || list_any is_cut given) ≡ false → one.cut ≡ false
    by_cut true is bad = cc
    by_cut false is same = let this : first ≡ one = cc in subst (λ (t : TextLines). t.cut ≡ false) this is
none_cut (first ∷ given) (suc place) one none at = none_cut given place one (by_cut first.cut none) at
  where
    by_cut : (cut : Bool) → (cut || list_any is_cut given) ≡ false → list_any is_cut given ≡ false
    by_cut true bad = cc
    by_cut false same = same

-- behind the rows of a text stands one line more
lines_count : (schema : Schema) (database : Database) (number : ℕ) (read : Result Query Refusal) → length (lines_of_reading schema database number read) ≡ rows_by schema database read + 1
lines_count schema database number (Ok query) =
    length-append (map row_line (answer schema database query)) (count_line number (length (answer schema database query)) ∷ [])
    ∙ ap (λ n. n + 1) (length-map (answer schema database query) row_line)
lines_count schema database number (Err refusal) = refl

some_is : {X : Type 0} (a b : X) → Some a ≡ Some b → a ≡ b
some_is a b e = cc

uncut_lines : (schema : Schema) (database : Database) (number : ℕ) (written : List ℕ) (one : TextLines) → one.cut ≡ false → AreLinesBy one.cut schema database number written one.lines
    → one.lines ≡ lines_of_text schema database number written
uncut_lines schema database number written one uncut are = subst (λ cut. AreLinesBy cut schema database number written one.lines) uncut are

pub rows_are : (schema : Schema) (database : Database) (texts : List (List ℕ)) (given : List TextLines) (entries : List ToldText)
    → AreTextLines schema database texts given → list_any is_cut given ≡ false → AreTold schema texts (lines_in given) entries
    → rows_given entries ≡ map (rows_of_text schema database) texts
rows_are schema database texts given entries are uncut told =
    agree (λ (one : ToldText). one.rows) (rows_of_text schema database) entries given texts
    (told.as_many ∙ length-map given (λ (one : TextLines). one.lines)) are.as_many
    (λ place entry lines written at_entry at_lines at_written.
    let own : slice_get (lines_in given) place ≡ Some lines.lines = slice_get-map (λ (one : TextLines). one.lines) given place ∙ ap (option_map (λ (one : TextLines). one.lines)) at_lines in
    let is = told.each place lines.lines entry own at_entry in
    let whole = uncut_lines schema database (suc place) written lines (none_cut given place lines uncut at_lines) (are.each place lines written at_lines at_written) in
    let counted : length lines.lines ≡ rows_of_text schema database written + 1 = ap length whole ∙ lines_count schema database (suc place) (reading schema written) in
    let told_rows : length lines.lines ≡ entry.rows + 1 = is.is_told.rows in
    omega (arith, counted, told_rows))

-- so where a session went well
pub rows_of_session : (by : Plan) (told : Bool) (catalog : Catalog) (database : Database) (texts : List (List ℕ)) (name : Option (List ℕ)) (end : LocalEnd) (before after : Outside) (entries : List ToldText)
    → RanOver by told catalog database texts name end before after entries → told ≡ true → end ≡ ends.Ok
    → rows_given entries ≡ map (rows_of_text catalog.schema database) texts
rows_of_session by told catalog database texts name end before after entries ran t whole =
    rows_are catalog.schema database texts (ran.gives t).given entries (ran.gives t).lines (ran.uncut t whole)
    (subst (λ (lines : List (List (List ℕ))). AreTold catalog.schema texts lines entries) (sym (ran.same t)) ran.are_told)

-- each text was told
pub all_told : (by : Plan) (told : Bool) (catalog : Catalog) (database : Database) (texts : List (List ℕ)) (name : Option (List ℕ)) (end : LocalEnd) (before after : Outside) (entries : List ToldText)
    → RanOver by told catalog database texts name end before after entries → length entries ≡ length texts
all_told by told catalog database texts name end before after entries ran =
    ran.are_told.as_many ∙ ran.lines.as_many ∙ ran.reasons.as_many
