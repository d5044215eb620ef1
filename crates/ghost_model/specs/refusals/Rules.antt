-- Rules that are tested in their order. A rule is given by what it finds in the thing that is judged: the fault of a
-- thing that breaks it, none where it is met. A thing that breaks several rules has the fault of the first of them.
use Rattle.std.specs.Prelude.{◌≡◌, Bool, List, [], ◌∷◌, Option, Some, None, if◌then◌else◌}
use Rattle.std.specs.Option.{option_or}

-- the rule that is broken where this is so
abbrev pub broken_if : {Fault : Type 0} → Bool → Fault → Option Fault
broken_if broken fault = if broken then Some fault else None

-- the fault of the first rule that is broken
abbrev pub first_broken : {Fault : Type 0} → (rules : List (Option Fault)) → Option Fault
first_broken [] = None
first_broken (rule ∷ later) = option_or rule (first_broken later)

-- no rule is broken, and this is the fault of the first one that is
abbrev pub MeetsAll : {Fault : Type 0} → (rules : List (Option Fault)) → Type 0
MeetsAll rules = first_broken rules ≡ None

abbrev pub BreaksFirst : {Fault : Type 0} → (rules : List (Option Fault)) → Fault → Type 0
BreaksFirst rules fault = first_broken rules ≡ Some fault
