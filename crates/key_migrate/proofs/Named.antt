-- The pages of the devices of all names, while one of them is open.
use Rattle.std.proofs.Common.{◌≡◌, ◌∙◌, ap, refl, ℕ, Bool, if◌then◌else◌, List, Option, Some}
use Rattle.std.proofs.lemmas.Slice.Eq.{bytes_eq-Decides}
use Rattle.edge_traits.specs.Devices.{Device, is_name, pages_under, KeepsPages}
use Rattle.key_migrate.specs.Devices.{KeepsNamed, KeepsOthers}

-- where no page of the device that is open changed
pub none_changed : (a b : Device) → KeepsPages a b → (name : List ℕ) → pages_under b name ≡ pages_under a name
none_changed a b kept name =
    ap (λ (one : Option (List ℕ)). if is_name one name then b.page else b.others name) kept.name
    ∙ (ap (λ (page : ℕ → List ℕ). if is_name a.name name then page else b.others name) kept.page
    ∙ ap (λ (others : List ℕ → ℕ → List ℕ). if is_name a.name name then a.page else others name) kept.others)

-- the device that is open has the pages under its name
pub own_pages : (device : Device) (name : List ℕ) → device.name ≡ Some name → pages_under device name ≡ device.page
own_pages device name opened =
    ap (λ (one : Option (List ℕ)). if is_name one name then device.page else device.others name) opened
    ∙ ap (λ (is : Bool). if is then device.page else device.others name) ((bytes_eq-Decides name name).1 refl)

pub named_on : (told : Bool) (a b c : Device) → KeepsNamed told a b → KeepsPages b c → KeepsNamed told a c
named_on told a b c first second is name = none_changed b c second name ∙ first is name

-- other names than one that is made keep their pages
pub others_since : (told : Bool) (name : List ℕ) (a b c : Device) → KeepsNamed told a b → KeepsOthers told name b c → KeepsOthers told name a c
others_since told name a b c first second is other apart = second is other apart ∙ first is other
