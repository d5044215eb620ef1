-- The pages of the devices of all names, while one of them is open.
use Rattle.std.proofs.Common.{◌≡◌, ◌∙◌, sym, ap, refl, ℕ, Bool, true, false, if◌then◌else◌, List, Option, Some}
use Rattle.std.specs.Prelude.{bytes_eq}
use Rattle.std.proofs.lemmas.Slice.Eq.{bytes_eq-Decides}
use Rattle.edge_traits.specs.Devices.{Device, is_name, pages_under, KeepsPages, ChangesOnly}
use Rattle.key_migrate.specs.Devices.{KeepsNamed, KeepsOthers}

-- where no page of the device that is open changed
pub none_changed : (told : Bool) (a b : Device) → KeepsPages a b → KeepsNamed told a b
none_changed told a b kept is name =
    ap (λ (one : Option (List ℕ)). if is_name one name then b.page else b.others name) kept.name
    ∙ (ap (λ (page : ℕ → List ℕ). if is_name a.name name then page else b.others name) kept.page
    ∙ ap (λ (others : List ℕ → ℕ → List ℕ). if is_name a.name name then a.page else others name) kept.others)

pub named_on : (told : Bool) (a b c : Device) → KeepsNamed told a b → KeepsNamed told b c → KeepsNamed told a c
named_on told a b c first second is name = second is name ∙ first is name

-- the device that is open has the pages under its name
pub own_pages : (device : Device) (name : List ℕ) → device.name ≡ Some name → pages_under device name ≡ device.page
own_pages device name opened =
    ap (λ (one : Option (List ℕ)). if is_name one name then device.page else device.others name) opened
    ∙ ap (λ (is : Bool). if is then device.page else device.others name) ((bytes_eq-Decides name name).1 refl)

-- another name's are among those of the others
other_pages : (device : Device) (name other : List ℕ) → device.name ≡ Some name → bytes_eq name other ≡ false → pages_under device other ≡ device.others other
other_pages device name other opened is =
    ap (λ (one : Option (List ℕ)). if is_name one other then device.page else device.others other) opened
    ∙ ap (λ (is : Bool). if is then device.page else device.others other) is

-- they stay where only pages of the device that is open change
pub others_stay : (told : Bool) (low high : ℕ) (a b : Device) (name : List ℕ) → ChangesOnly low high a b → a.name ≡ Some name → KeepsOthers told name a b
others_stay told low high a b name changes opened is other apart =
    other_pages b name other (changes.name ∙ opened) apart
    ∙ (ap (λ (pages : List ℕ → ℕ → List ℕ). pages other) changes.others ∙ sym (other_pages a name other opened apart))

-- and so after an opening that kept the pages under each name
pub others_since : (told : Bool) (name : List ℕ) (a b c : Device) → KeepsNamed told a b → KeepsOthers told name b c → KeepsOthers told name a c
others_since told name a b c first second is other apart = second is other apart ∙ first is other

pub others_on : (told : Bool) (name : List ℕ) (a b c : Device) → KeepsOthers told name a b → KeepsOthers told name b c → KeepsOthers told name a c
others_on told name a b c first second is other apart = second is other apart ∙ first is other apart

pub none_but_named : (told : Bool) (name : List ℕ) (a b : Device) → KeepsNamed told a b → KeepsOthers told name a b
none_but_named told name a b kept is other apart = kept is other
