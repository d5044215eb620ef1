-- What `clap` reads is what the words say.
use Rattle.std.proofs.Common.{◌≡◌, true, List, [], ◌∷◌, Some, None, Result, Ok, Err, IfOk, refl, sym, ◌∙◌, ap, subst}
use Rattle.std.specs.Prelude.{option_and_then, if◌then◌else◌}
use Rattle.clap.specs.Words.{App, Row, Text, HasMatchesOf, FailsBy, Kinds, found_of, rows_of, matches_of, fault_of, is_simple_and_free}
use Rattle.clap.specs.Walk.{is_empty}
use Rattle.clap.specs.declared.parser.matches.ArgMatches.{ArgMatches}
use Rattle.host_commands.specs.HostApp.{host_app}
use Rattle.host_commands.specs.Words.{Names, names_in, reading}

reads_rows : (faults : Kinds) (rows : List Row) (said : Names) → faults ≡ [] → names_in rows ≡ Some said
    → option_and_then names_in (if is_empty faults then Some rows else None) ≡ Some said
reads_rows [] rows said none named = named
reads_rows (fault ∷ faults) rows said none named = cc

pub reads : (words : List Text) (app : App) (matches : ArgMatches) (said : Names) → app ≡ host_app → HasMatchesOf app words matches
    → (is_simple_and_free app ≡ true → FailsBy (fault_of app words) (Ok matches)) → names_in (rows_of (found_of matches)) ≡ Some said
    → reading words ≡ Some said
reads words app matches said is has fails named =
    let none : fault_of host_app words ≡ [] = subst (λ (a : App). is_simple_and_free a ≡ true → fault_of a words ≡ []) is fails refl in
    let has_rows : HasMatchesOf host_app words matches = subst (λ (a : App). HasMatchesOf a words matches) is has in
    let rows : rows_of (found_of matches) ≡ matches_of host_app words = (has_rows refl).0 in
    reads_rows (fault_of host_app words) (matches_of host_app words) said none (ap names_in (sym rows) ∙ named)

-- the same of a result
pub reads_so : (words : List Text) (app : App) (matches : ArgMatches) {T E : Type 0} (names : T → Names) (read : Result T E) → app ≡ host_app → HasMatchesOf app words matches
    → (is_simple_and_free app ≡ true → FailsBy (fault_of app words) (Ok matches)) → IfOk read (λ said. names_in (rows_of (found_of matches)) ≡ Some (names said))
    → IfOk read (λ said. reading words ≡ Some (names said))
reads_so words app matches names (Ok said) is has fails named = reads words app matches (names said) is has fails named
reads_so words app matches names (Err fault) is has fails named = tt
