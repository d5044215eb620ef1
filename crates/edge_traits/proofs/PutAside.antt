-- Devices in memory that are put aside: whose pages stand under a name, and what a change of one of them does to the others.
use Rattle.std.proofs.Common.{◌≡◌, ℕ, zero, suc, ◌+◌, ◌<◌, ◌≤◌, Bool, true, false, cond, List, [], ◌∷◌, ◌++◌, length, set, get_or, Option, None, Some, refl, sym, ◌∙◌, ap, subst, arith, nat_lt, not}
use Rattle.std.specs.Prelude.{bytes_eq}
use Rattle.std.specs.List.{position, position_or_len}
use Rattle.std.specs.Cmp.Lexicographic.{same_text, other_text}
use Rattle.std.proofs.lemmas.Bool.{ltb-false}
use Rattle.std.proofs.lemmas.List.Quantifiers.{position-Some}
use Rattle.edge_traits.specs.Devices.{is_name, pages_under}
use Rattle.edge_traits.specs.MemDevices.{is_of, pages_in, named_pages, device_of}
use Rattle.edge_traits.specs.Pages.{page_at}
use Rattle.edge_traits.specs.declared.mem_flash.MemFlash.{MemFlash}
use Rattle.edge_traits.specs.declared.named_pages.NamedPages.{NamedPages}

-- the first device of a name
record IsFirst (name : List ℕ) (devices : List NamedPages) (place : ℕ) (other : NamedPages) : Type 0 where
  pub within : place < length devices
  pub named : is_of name (get_or devices place other) ≡ true
  pub before : (k : ℕ) → k < place → is_of name (get_or devices k other) ≡ false

later : (name : List ℕ) (one : NamedPages) (more : List NamedPages) (place : ℕ) (other : NamedPages) → IsFirst name (one ∷ more) (suc place) other → IsFirst name more place other
later name one more place other first = record {
  within = omega (arith, first.within);
  named = first.named;
  before = λ k l. first.before (suc k) (omega arith);
}

first_of_place : (name : List ℕ) (devices : List NamedPages) (place : ℕ) (other : NamedPages) → position (is_of name) devices ≡ Some place → IsFirst name devices place other
first_of_place name devices place other is = let facts = position-Some (is_of name) devices place other is in record {
  within = facts.0;
  named = facts.1;
  before = facts.2;
}

found : (name : List ℕ) (devices : List NamedPages) (place : ℕ) (other : NamedPages) → IsFirst name devices place other → pages_in devices name ≡ page_at (get_or devices place other).pages.items
unfolding pages_in
found name [] place other first = absurd (omega (arith, first.within))
found name (one ∷ more) zero other first = ap (λ b. cond b (page_at one.pages.items) (pages_in more name)) first.named
found name (one ∷ more) (suc place) other first =
    ap (λ b. cond b (page_at one.pages.items) (pages_in more name)) (first.before 0 (omega arith))
    ∙ found name more place other (later name one more place other first)

covered : {A : Type 0} (b : Bool) (x y z : A) → cond b x z ≡ cond b x (cond b y z)
covered true x y z = refl
covered false x y z = refl

swapped : {A : Type 0} (a b : Bool) (x y z : A) → (a ≡ true → b ≡ true → ⊥) → cond a x (cond b y z) ≡ cond b y (cond a x z)
swapped true true x y z never = absurd (never refl refl)
swapped true false x y z never = refl
swapped false true x y z never = refl
swapped false false x y z never = refl

-- no name is that of two devices, one of which has another name
never_both : (one name q : List ℕ) → bytes_eq one name ≡ false → bytes_eq one q ≡ true → bytes_eq name q ≡ true → ⊥
never_both one name q apart here there = other_text one name (sym apart) (same_text one q (sym here) ∙ sym (same_text name q (sym there)))

written : (name : List ℕ) (devices : List NamedPages) (place : ℕ) (other device : NamedPages) → IsFirst name devices place other → device.name.items ≡ name
    → (q : List ℕ) → pages_in (set devices place device) q ≡ cond (bytes_eq name q) (page_at device.pages.items) (pages_in devices q)
unfolding pages_in
written name [] place other device first named q = absurd (omega (arith, first.within))
written name (one ∷ more) zero other device first named q =
    ap (λ n. cond (bytes_eq n q) (page_at device.pages.items) (pages_in more q)) named
    ∙ covered (bytes_eq name q) (page_at device.pages.items) (page_at one.pages.items) (pages_in more q)
    ∙ ap (λ n. cond (bytes_eq name q) (page_at device.pages.items) (cond (bytes_eq n q) (page_at one.pages.items) (pages_in more q))) (sym (same_text one.name.items name (sym first.named)))
written name (one ∷ more) (suc place) other device first named q =
    ap (cond (bytes_eq one.name.items q) (page_at one.pages.items)) (written name more place other device (later name one more place other first) named q)
    ∙ swapped (bytes_eq one.name.items q) (bytes_eq name q) (page_at one.pages.items) (page_at device.pages.items) (pages_in more q)
    (never_both one.name.items name q (first.before 0 (omega arith)))

missing : (name : List ℕ) (devices : List NamedPages) → length devices ≤ position_or_len (is_of name) devices → pages_in devices name ≡ page_at []
unfolding pages_in
missing name [] far = refl
missing name (one ∷ more) far =
    elim (is_of name one) as (λ b. is_of name one ≡ b → suc (length more) ≤ cond (not b) (1 + position_or_len (is_of name) more) 0 → pages_in (one ∷ more) name ≡ page_at []) [
      | true ↦ λ _ h. absurd (omega (arith, h))
      | false ↦ λ is h. ap (λ b. cond b (page_at one.pages.items) (pages_in more name)) is ∙ missing name more (omega (arith, h))
    ] refl far

pushed : (name : List ℕ) (devices : List NamedPages) (device : NamedPages) → length devices ≤ position_or_len (is_of name) devices → device.name.items ≡ name
    → (q : List ℕ) → pages_in (devices ++ device ∷ []) q ≡ cond (bytes_eq name q) (page_at device.pages.items) (pages_in devices q)
unfolding pages_in
pushed name [] device far named q = ap (λ n. cond (bytes_eq n q) (page_at device.pages.items) (page_at [])) named
pushed name (one ∷ more) device far named q =
    elim (is_of name one) as (λ b. is_of name one ≡ b → suc (length more) ≤ cond (not b) (1 + position_or_len (is_of name) more) 0
    → pages_in ((one ∷ more) ++ device ∷ []) q ≡ cond (bytes_eq name q) (page_at device.pages.items) (pages_in (one ∷ more) q)) [
      | true ↦ λ _ h. absurd (omega (arith, h))
      | false ↦ λ is h.
          ap (cond (bytes_eq one.name.items q) (page_at one.pages.items)) (pushed name more device (omega (arith, h)) named q)
          ∙ swapped (bytes_eq one.name.items q) (bytes_eq name q) (page_at one.pages.items) (page_at device.pages.items) (pages_in more q)
          (never_both one.name.items name q is)
    ] refl far

none_of : (b : Bool) (n : ℕ) → cond b (Some n) None ≡ None → b ≡ false
none_of true n is = cc
none_of false n is = refl

is_far : (name : List ℕ) (devices : List NamedPages) → position (is_of name) devices ≡ None → length devices ≤ position_or_len (is_of name) devices
is_far name devices is =
    let early : nat_lt (position_or_len (is_of name) devices) (length devices) ≡ false = none_of _ _ is in
    ltb-false (position_or_len (is_of name) devices) (length devices) early

-- what the place of a name, or its want, says
pub found_at : (name : List ℕ) (devices : List NamedPages) (place : ℕ) (other : NamedPages) → position (is_of name) devices ≡ Some place → pages_in devices name ≡ page_at (get_or devices place other).pages.items
found_at name devices place other is = found name devices place other (first_of_place name devices place other is)

-- the same where the device was read from its place
pub read_name : (name : List ℕ) (devices : List NamedPages) (place : ℕ) (one : NamedPages) → Some place ≡ position (is_of name) devices → one ≡ get_or devices place one → one.name.items ≡ name
read_name name devices place one is read =
    same_text one.name.items name (sym (ap (is_of name) read ∙ (first_of_place name devices place one (sym is)).named))

pub read_pages : (name : List ℕ) (devices : List NamedPages) (place : ℕ) (one : NamedPages) → Some place ≡ position (is_of name) devices → one ≡ get_or devices place one → page_at one.pages.items ≡ pages_in devices name
read_pages name devices place one is read =
    sym (found_at name devices place one (sym is) ∙ ap (λ d. page_at d.pages.items) (sym read))

pub found_nowhere : (name : List ℕ) (devices : List NamedPages) → position (is_of name) devices ≡ None → pages_in devices name ≡ page_at []
found_nowhere name devices is = missing name devices (is_far name devices is)

-- a device of that name put there, or behind all
pub put_at : (name : List ℕ) (devices : List NamedPages) (place : ℕ) (device : NamedPages) → position (is_of name) devices ≡ Some place → device.name.items ≡ name
    → (q : List ℕ) → pages_in (set devices place device) q ≡ cond (bytes_eq name q) (page_at device.pages.items) (pages_in devices q)
put_at name devices place device is named = written name devices place device device (first_of_place name devices place device is) named

pub put_behind : (name : List ℕ) (devices : List NamedPages) (device : NamedPages) → position (is_of name) devices ≡ None → device.name.items ≡ name
    → (q : List ℕ) → pages_in (devices ++ device ∷ []) q ≡ cond (bytes_eq name q) (page_at device.pages.items) (pages_in devices q)
put_behind name devices device is named = pushed name devices device (is_far name devices is) named

-- one that is put in its place leaves the pages of all other names
pub others_stay : (name : List ℕ) (devices : List NamedPages) (place : ℕ) (device : NamedPages) → position (is_of name) devices ≡ Some place → device.name.items ≡ name
    → (q : List ℕ) → bytes_eq name q ≡ false → pages_in (set devices place device) q ≡ pages_in devices q
others_stay name devices place device is named q apart =
    put_at name devices place device is named q
    ∙ ap (λ b. cond b (page_at device.pages.items) (pages_in devices q)) apart

-- the last device put aside, and the one of a name taken out
pub turned : (last next : NamedPages) (before between after : List NamedPages) (name : List ℕ) → bytes_eq last.name.items name ≡ false → next.name.items ≡ name
    → page_at next.pages.items ≡ pages_in before name
    → ((q : List ℕ) → pages_in after q ≡ cond (bytes_eq last.name.items q) (page_at last.pages.items) (pages_in between q))
    → ((q : List ℕ) → bytes_eq name q ≡ false → pages_in between q ≡ pages_in before q)
    → (q : List ℕ) → named_pages next after q ≡ named_pages last before q
turned last next before between after name apart named taken put stay q =
    ap (λ n. cond (bytes_eq n q) (page_at next.pages.items) (pages_in after q)) named
    ∙ elim (bytes_eq name q) as (λ b. bytes_eq name q ≡ b → cond b (page_at next.pages.items) (pages_in after q) ≡ named_pages last before q) [
      | true ↦ λ is.
          taken
          ∙ subst (λ n. pages_in before name ≡ named_pages last before n) (same_text name q (sym is))
          (sym (ap (λ b. cond b (page_at last.pages.items) (pages_in before name)) apart))
      | false ↦ λ is. put q ∙ ap (cond (bytes_eq last.name.items q) (page_at last.pages.items)) (stay q is)
    ] refl

-- other pages in the device at hand
pub renewed : (old new : NamedPages) (others : List NamedPages) (name : List ℕ) → old.name.items ≡ name → new.name.items ≡ name
    → (q : List ℕ) → bytes_eq name q ≡ false → named_pages new others q ≡ named_pages old others q
renewed old new others name was is q apart =
    ap (λ n. cond (bytes_eq n q) (page_at new.pages.items) (pages_in others q)) is
    ∙ ap (λ b. cond b (page_at new.pages.items) (pages_in others q)) apart
    ∙ sym (ap (λ b. cond b (page_at old.pages.items) (pages_in others q)) apart)
    ∙ sym (ap (λ n. cond (bytes_eq n q) (page_at old.pages.items) (pages_in others q)) was)

-- the pages under a name are told whether a device is open or not
pub under_name : (flash : MemFlash) (name : List ℕ) → pages_under (device_of flash) name ≡ named_pages flash.last flash.others.items name
under_name flash name =
    elim flash.is_open as (λ b. cond (is_name (cond b (Some flash.last.name.items) None) name) (page_at flash.last.pages.items) (cond b (pages_in flash.others.items) (named_pages flash.last flash.others.items) name) ≡ named_pages flash.last flash.others.items name) [
      | true ↦ refl
      | false ↦ refl
    ]

pub kept_under : (old new : MemFlash) (name : List ℕ) → named_pages new.last new.others.items name ≡ named_pages old.last old.others.items name → pages_under (device_of new) name ≡ pages_under (device_of old) name
kept_under old new name same = under_name new name ∙ same ∙ sym (under_name old name)

-- there is no page where no device was made
pub nothing_under : (last : NamedPages) (others : List NamedPages) (name : List ℕ) (page : ℕ) → last.pages.items ≡ [] → others ≡ [] → named_pages last others name page ≡ []
unfolding pages_in
nothing_under last others name page none alone =
    ap (λ d. cond (bytes_eq last.name.items name) (page_at last.pages.items) (pages_in d name) page) alone
    ∙ elim (bytes_eq last.name.items name) as (λ b. cond b (page_at last.pages.items) (page_at []) page ≡ []) [
      | true ↦ ap (λ l. page_at l page) none
      | false ↦ refl
    ]
