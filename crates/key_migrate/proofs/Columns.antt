-- What the reading of the hidden columns tells.
use Rattle.std.proofs.Common.{◌≡◌, ℕ, Bool, true, List, Ok, Err, subst, sym}
use Rattle.ghost_model.specs.core.Channel.{Catalog}
use Rattle.ghost_model.specs.core.Split.{Hidden}
use Rattle.edge_traits.specs.Devices.{Device}
use Rattle.flash_build.specs.Reading.{BlamesCells, DamagesFirst, GivesHeld, GivesPart, IsLegalPart}
use Rattle.flash_build.specs.declared.faults.ReadFault.{ReadFault}
use Rattle.flash_build.specs.declared.faults.ReadFault.TheVariants as read_fault
use Rattle.key_migrate.specs.Reading.{IsHiddenIn, TellsColumns}
use Rattle.key_migrate.specs.Renaming.{as_failure}
use Rattle.key_migrate.specs.Stages.{HoldsNoPart}

pub hidden_in : (told : Bool) (page : ℕ → List ℕ) (cat : Catalog) (hidden : Hidden) → IsLegalPart cat hidden
    → (told ≡ true → GivesHeld page cat (Ok hidden)) → (told ≡ true → GivesPart page cat (Ok hidden)) → IsHiddenIn told page cat hidden
hidden_in told page cat hidden legal held gives = record {
  legal = legal;
  on = λ t. record { cells = gives t; held = λ other part columns. held t other part columns };
}

pub columns_told : (told : Bool) (since : ℕ) (page : ℕ → List ℕ) (device : Device) (cat : Catalog) (fault : ReadFault) → device.page ≡ page
    → (told ≡ true → GivesHeld page cat (Err fault)) → (told ≡ true → GivesPart page cat (Err fault)) → BlamesCells since device cat fault
    → TellsColumns told since device cat (as_failure fault)
columns_told told since page device cat read_fault.NoMemory same held gives blames = tt
columns_told told since page device cat read_fault.Flash same held gives blames = tt
columns_told told since page device cat (read_fault.Damaged number slot found) same held gives blames =
    record {
      first = λ t. subst (λ (pages : ℕ → List ℕ). DamagesFirst pages cat number slot found) (sym same) (gives t);
      holds_none = λ t. subst (λ (pages : ℕ → List ℕ). HoldsNoPart pages cat) (sym same) (λ hidden part columns. held t hidden part columns);
      read = blames;
    }
