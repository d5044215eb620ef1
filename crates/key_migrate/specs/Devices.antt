-- What a command leaves of the devices of all names.
use Rattle.std.specs.Prelude.{◌≡◌, ℕ, Bool, true, false, List, Some, bytes_eq}
use Rattle.edge_traits.specs.Devices.{Device, pages_under}

-- each device has the pages that it had, whether it is the one that is open or not
abbrev pub KeepsNamed : (told : Bool) → (before after : Device) → Type 0
KeepsNamed told before after = told ≡ true → (name : List ℕ) → pages_under after name ≡ pages_under before name

-- the devices of all names but one have the pages that they had
abbrev pub KeepsOthers : (told : Bool) → (name : List ℕ) → (before after : Device) → Type 0
KeepsOthers told name before after =
    told ≡ true → (other : List ℕ) → bytes_eq name other ≡ false → pages_under after other ≡ pages_under before other

-- no device is open but that of this name
abbrev pub IsNoOther : (name : List ℕ) → Device → Type 0
IsNoOther name device = (other : List ℕ) → device.name ≡ Some other → other ≡ name
