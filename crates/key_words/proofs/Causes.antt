-- What `clap` answers to the words, as what is told of them.
use Rattle.std.proofs.Common.{◌≡◌, ◌≢◌, ◌⊎◌, arith, inl, inr, if◌then◌else◌, true, false, Bool, List, [], ◌∷◌, Option, Some, None, refl, sym, subst}
use Rattle.clap.specs.Faults.{fault_of, is_simple_and_free}
use Rattle.clap.specs.Kinds.{Kinds, HasKind, IsAmong}
use Rattle.clap.specs.Simple.{App, HasMatchesOf, is_simple, subcommand_of, subcommand_rows_of}
use Rattle.clap.specs.Values.{kind_of}
use Rattle.clap.specs.Walk.{Row, Text, is_empty}
use Rattle.clap.specs.declared.error.Error.{Error}
use Rattle.clap.specs.declared.error.kind.ErrorKind.{ErrorKind}
use Rattle.clap.specs.declared.error.kind.ErrorKind.TheVariants as kind
use Rattle.clap.specs.declared.parser.matches.ArgMatches.{ArgMatches}
use Rattle.key_words.specs.KeyApp.{key_app}
use Rattle.key_words.specs.Refusals.{BreaksRuleIn, HasCause, is_told, told_kind}
use Rattle.key_words.specs.Words.{found}
use Rattle.key_words.specs.declared.words.UsageFault.{UsageFault}
use Rattle.key_words.specs.declared.words.UsageFault.TheVariants as fault

simple : is_simple key_app ≡ true
simple = refl

free : is_simple_and_free key_app ≡ true
free = refl

taken : {X : Type 0} (kinds : Kinds) (one rows : Option X) → kinds ≡ [] → rows ≡ one → (if is_empty kinds then one else None) ≡ rows
taken kinds one rows none is = rw none (sym is)

not_empty : {X : Type 0} (first : X) (others : List X) → is_empty (first ∷ others) ≡ false
not_empty first others = grind arith

refused : {X : Type 0} (kinds : Kinds) (one : Option X) (of : ErrorKind) → IsAmong of kinds → (if is_empty kinds then one else None) ≡ None
refused [] one of among = absurd among
refused (first ∷ others) one of among = rw (not_empty first others) refl

-- words that are taken are found as they were matched
pub found_rows : (words : List Text) (of : App) (matches : ArgMatches) → of ≡ key_app → HasMatchesOf of words matches
    → (is_simple_and_free of ≡ true → fault_of of words ≡ []) → found words ≡ subcommand_rows_of matches
found_rows words of matches is has kinds =
    let rows = subst (λ app. HasMatchesOf app words matches) is has simple in
    let none = subst (λ app. is_simple_and_free app ≡ true → fault_of app words ≡ []) is kinds free in
    taken (fault_of key_app words) (subcommand_of key_app words) (subcommand_rows_of matches) none rows.1

pub ruled : (words : List Text) (rows : Option (Text × List Row)) (told : UsageFault) → found words ≡ rows → BreaksRuleIn rows told
    → told_kind told ≡ None → HasCause words told (told_kind told)
ruled words rows told is breaks none =
    subst (λ said. HasCause words told said) (sym none) (subst (λ these. BreaksRuleIn these told) (sym is) breaks)

one_of : (of : ErrorKind) (kinds : Kinds) → (of ≡ kind.OutOfMemory) ⊎ IsAmong of kinds → of ≢ kind.OutOfMemory → IsAmong of kinds
one_of of kinds (inl out) not = absurd (not out)
one_of of kinds (inr among) not = among

-- an error that is not of memory has a kind by which such words are refused
pub refusing : (words : List Text) (of : App) (error : Error) → of ≡ key_app
    → (is_simple_and_free of ≡ true → HasKind (fault_of of words) error) → kind_of error ≢ kind.OutOfMemory
    → IsAmong (kind_of error) (fault_of key_app words)
refusing words of error is has not =
    one_of (kind_of error) (fault_of key_app words) (subst (λ app. is_simple_and_free app ≡ true → HasKind (fault_of app words) error) is has free) not

pub none_found : (words : List Text) (of : ErrorKind) → IsAmong of (fault_of key_app words) → found words ≡ None
none_found words of among = refused (fault_of key_app words) (subcommand_of key_app words) of among

of_words : (rows : Option (Text × List Row)) → BreaksRuleIn rows fault.Words
of_words None = tt
of_words (Some one) = tt

by_told : (words : List Text) (of : ErrorKind) (told : UsageFault) (is : Bool) → is_told of ≡ is → IsAmong of (fault_of key_app words)
    → (is_told of ≡ true → told_kind told ≡ Some of) → (is_told of ≡ false → told ≡ fault.Words) → HasCause words told (told_kind told)
by_told words of told true is among says other = subst (λ said. HasCause words told said) (sym (says is)) among
by_told words of told false is among says other = subst (λ one. HasCause words one (told_kind one)) (sym (other is)) (of_words (found words))

-- what is told of such an error has its cause
pub caused : (words : List Text) (of : ErrorKind) (told : UsageFault) → IsAmong of (fault_of key_app words)
    → (is_told of ≡ true → told_kind told ≡ Some of) → (is_told of ≡ false → told ≡ fault.Words) → HasCause words told (told_kind told)
caused words of told among says other = by_told words of told (is_told of) refl among says other
