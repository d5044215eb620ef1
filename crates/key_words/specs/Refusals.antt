-- What is told of refused words, and its cause in them: the kind of error by which `clap` refuses such words, or the value
-- of an option that breaks the value's rule.
use Rattle.std.specs.Prelude.{◌≡◌, ⊤, Bool, true, false, List, Option, Some, None, codes}
use Rattle.clap.specs.Kinds.{IsAmong}
use Rattle.clap.specs.Faults.{fault_of}
use Rattle.clap.specs.Walk.{Row, Text, first_of}
use Rattle.clap.specs.declared.error.kind.ErrorKind.{ErrorKind}
use Rattle.clap.specs.declared.error.kind.ErrorKind.TheVariants as kind
use Rattle.key_words.specs.KeyApp.{key_app}
use Rattle.key_words.specs.Words.{found, plan_said, pace_said, buffers_said, blocks_said, seed_said, rows_said, texts_said, are_same, items_said}
use Rattle.key_words.specs.declared.words.UsageFault.{UsageFault}
use Rattle.key_words.specs.declared.words.UsageFault.TheVariants as fault

-- the kinds of error that have a text of their own
abbrev pub is_told : ErrorKind → Bool
is_told kind.MissingSubcommand = true
is_told kind.InvalidSubcommand = true
is_told kind.UnknownArgument = true
is_told kind.MissingRequiredArgument = true
is_told kind.ArgumentConflict = true
is_told kind.InvalidValue = true
is_told _ = false

abbrev pub told_kind : UsageFault → Option ErrorKind
told_kind fault.NoCommand = Some kind.MissingSubcommand
told_kind (fault.NotACommand word) = Some kind.InvalidSubcommand
told_kind (fault.NotAnOption word) = Some kind.UnknownArgument
told_kind (fault.Missing word) = Some kind.MissingRequiredArgument
told_kind (fault.Twice word) = Some kind.ArgumentConflict
told_kind (fault.NoValue word) = Some kind.InvalidValue
told_kind _ = None

-- `clap` refuses the words by an error of this kind
abbrev pub IsRefusedBy : List Text → ErrorKind → Type 0
IsRefusedBy words one = IsAmong one (fault_of key_app words)

-- the value of an option breaks the value's rule
abbrev pub BreaksRule : UsageFault → List Row → Type 0
BreaksRule fault.Words rows = ⊤
BreaksRule fault.Plan rows = plan_said (first_of (codes "plan") rows) ≡ None
BreaksRule fault.Pace rows = pace_said (first_of (codes "pace") rows) ≡ None
BreaksRule fault.Buffers rows = buffers_said (first_of (codes "buffers") rows) ≡ None
BreaksRule fault.Blocks rows = blocks_said (first_of (codes "blocks") rows) ≡ None
BreaksRule fault.Seed rows = seed_said (first_of (codes "seed") rows) ≡ None
BreaksRule fault.Rows rows = rows_said (first_of (codes "rows") rows) ≡ None
BreaksRule fault.Texts rows = texts_said (first_of (codes "texts") rows) ≡ None
BreaksRule fault.ToFlash rows = are_same (first_of (codes "flash") rows) (first_of (codes "to-flash") rows) ≡ true
BreaksRule fault.ToVisible rows = are_same (first_of (codes "visible") rows) (first_of (codes "to-visible") rows) ≡ true
BreaksRule fault.Null rows = items_said (first_of (codes "null") rows) ≡ None
BreaksRule _ rows = ⊥

-- it is an option of the command that `clap` reads
abbrev pub BreaksRuleIn : Option (Text × List Row) → UsageFault → Type 0
BreaksRuleIn (Some one) told = BreaksRule told one.1
BreaksRuleIn None fault.Words = ⊤
BreaksRuleIn None _ = ⊥

-- what is told has its cause
abbrev pub HasCause : List Text → UsageFault → Option ErrorKind → Type 0
HasCause words told (Some one) = IsRefusedBy words one
HasCause words told None = BreaksRuleIn (found words) told
