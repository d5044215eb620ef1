-- The files in slots: what the first slot of a name says of the map, and what a write to it does.
use Rattle.std.proofs.Common.{◌≡◌, ℕ, ◌+◌, ◌<◌, ◌≤◌, Bool, true, false, cond, List, [], ◌∷◌, ◌++◌, length, take, set, get_or, map as each, Option, None, Some, refl, sym, ◌∙◌, ap, arith, nat_lt, not, zero, suc, inl, inr, All, vec_capacity}
use Rattle.std.specs.Prelude.{is_some}
use Rattle.std.specs.Ordering.{nat_cmp, eq_by_cmp}
use Rattle.std.specs.Cmp.Lexicographic.{slice_cmp, texts_ties, same_text, other_text, nat_list_cmp_total}
use Rattle.std.specs.List.{position, position_or_len}
use Rattle.std.specs.FinMap as map
use Rattle.std.proofs.lemmas.List.{take_more_set, map-append, get_or-take}
use Rattle.std.proofs.lemmas.Bool.{ltb-false}
use Rattle.std.proofs.lemmas.List.Elements.{All-push}
use Rattle.std.proofs.lemmas.List.Quantifiers.{position-Some}
use Rattle.std.proofs.Math.Seq.{take-set-lt}
use Rattle.std.proofs.lemmas.Grind.{common_steps}
use Rattle.edge_traits.specs.Files.{or_empty}
use Rattle.edge_traits.specs.Slots.{HasRoom, IsSized, entry_of, files_in, is_named, stored_in}
use Rattle.edge_traits.specs.declared.slots.Slot.{Slot}

-- the first slot of a name
record IsFirst (name : List ℕ) (slots : List Slot) (place : ℕ) (other : Slot) : Type 0 where
  pub within : place < length slots
  pub named : is_named name (get_or slots place other) ≡ true
  pub before : (k : ℕ) → k < place → is_named name (get_or slots k other) ≡ false

later : (name : List ℕ) (slot : Slot) (slots : List Slot) (place : ℕ) (other : Slot) → IsFirst name (slot ∷ slots) (suc place) other → IsFirst name slots place other
later name slot slots place other first = record {
  within = omega (arith, first.within);
  named = first.named;
  before = λ k l. first.before (suc k) (omega arith);
}

abbrev bytes_at : List ℕ → List Slot → Option (List ℕ)
bytes_at name slots = map.find (slice_cmp nat_cmp) name (each entry_of slots)

found : (name : List ℕ) (slots : List Slot) (place : ℕ) (other : Slot) → IsFirst name slots place other → bytes_at name slots ≡ Some (get_or slots place other).bytes.items
found name [] place other first = absurd (omega (arith, first.within))
found name (slot ∷ slots) zero other first =
    ap (λ b. cond b (Some slot.bytes.items) (bytes_at name slots)) (sym (texts_ties name slot.name.items) ∙ first.named)
found name (slot ∷ slots) (suc place) other first =
    ap (λ b. cond b (Some slot.bytes.items) (bytes_at name slots)) (sym (texts_ties name slot.name.items) ∙ first.before 0 (omega arith))
    ∙ found name slots place other (later name slot slots place other first)

covered : {A : Type 0} (b : Bool) (x y z : A) → cond b x z ≡ cond b x (cond b y z)
covered true x y z = refl
covered false x y z = refl

swapped : {A : Type 0} (a b : Bool) (x y z : A) → (a ≡ true → b ≡ true → ⊥) → cond a x (cond b y z) ≡ cond b y (cond a x z)
swapped true true x y z never = absurd (never refl refl)
swapped true false x y z never = refl
swapped false true x y z never = refl
swapped false false x y z never = refl

-- two names that tie are one
tied : (name other : List ℕ) → eq_by_cmp (slice_cmp nat_cmp) name other ≡ true → name ≡ other
tied name other is = same_text name other (sym (texts_ties name other ∙ is))

written : (name : List ℕ) (slots : List Slot) (place : ℕ) (other slot : Slot) → IsFirst name slots place other → slot.name.items ≡ name → (q : List ℕ) → bytes_at q (set slots place slot) ≡ cond (eq_by_cmp (slice_cmp nat_cmp) q name) (Some slot.bytes.items) (bytes_at q slots)
written name [] place other slot first named q = absurd (omega (arith, first.within))
written name (old ∷ slots) zero other slot first named q =
    ap (λ n. cond (eq_by_cmp (slice_cmp nat_cmp) q n) (Some slot.bytes.items) (bytes_at q slots)) named
    ∙ covered (eq_by_cmp (slice_cmp nat_cmp) q name) (Some slot.bytes.items) (Some old.bytes.items) (bytes_at q slots)
    ∙ ap (λ n. cond (eq_by_cmp (slice_cmp nat_cmp) q name) (Some slot.bytes.items) (cond (eq_by_cmp (slice_cmp nat_cmp) q n) (Some old.bytes.items) (bytes_at q slots))) (same_text name old.name.items (sym first.named))
written name (old ∷ slots) (suc place) other slot first named q =
    ap (λ f. cond (eq_by_cmp (slice_cmp nat_cmp) q old.name.items) (Some old.bytes.items) f) (written name slots place other slot (later name old slots place other first) named q)
    ∙ swapped (eq_by_cmp (slice_cmp nat_cmp) q old.name.items) (eq_by_cmp (slice_cmp nat_cmp) q name) (Some old.bytes.items) (Some slot.bytes.items) (bytes_at q slots)
    (λ a b. other_text name old.name.items (sym (first.before 0 (omega arith))) (sym (tied q name b) ∙ tied q old.name.items a))

none_of : (b : Bool) (n : ℕ) → cond b (Some n) None ≡ None → b ≡ false
none_of true n is = cc
none_of false n is = refl

missing : (name : List ℕ) (slots : List Slot) → length slots ≤ position_or_len (is_named name) slots → bytes_at name slots ≡ None
missing name [] far = refl
missing name (slot ∷ slots) far =
    elim (is_named name slot) as (λ b. is_named name slot ≡ b → suc (length slots) ≤ cond (not b) (1 + position_or_len (is_named name) slots) 0 → bytes_at name (slot ∷ slots) ≡ None) [
      | true ↦ λ _ h. absurd (omega (arith, h))
      | false ↦ λ is h. ap (λ b. cond b (Some slot.bytes.items) (bytes_at name slots)) (sym (texts_ties name slot.name.items) ∙ is) ∙ missing name slots (omega (arith, h))
    ] refl far

absent : (name : List ℕ) (slots : List Slot) → position (is_named name) slots ≡ None → bytes_at name slots ≡ None
absent name slots is =
    let early : nat_lt (position_or_len (is_named name) slots) (length slots) ≡ false = none_of _ _ is in
    missing name slots (ltb-false (position_or_len (is_named name) slots) (length slots) early)

first_of_place : (name : List ℕ) (slots : List Slot) (place : ℕ) (other : Slot) → position (is_named name) slots ≡ Some place → IsFirst name slots place other
first_of_place name slots place other is = let facts = position-Some (is_named name) slots place other is in record {
  within = facts.0;
  named = facts.1;
  before = facts.2;
}

names_differ : map.IsAntisymmetric (slice_cmp nat_cmp)
names_differ = map.slice_cmp-IsAntisymmetric map.nat_cmp-IsAntisymmetric

-- what the place of a name says
pub get_placed : (name : List ℕ) (used : ℕ) (slots : List Slot) (place : ℕ) (other : Slot) → position (is_named name) (take used slots) ≡ Some place → map.get (files_in used slots) name ≡ Some (get_or (take used slots) place other).bytes.items
get_placed name used slots place other is =
    map.get-from_entries nat_list_cmp_total (each entry_of (take used slots)) name ∙ found name (take used slots) place other (first_of_place name (take used slots) place other is)

-- the same where the slot was read from its place
pub get_read : (name : List ℕ) (used : ℕ) (slots : List Slot) (place : ℕ) (slot : Slot) → Some place ≡ position (is_named name) (take used slots) → slot ≡ get_or slots place slot → map.get (files_in used slots) name ≡ Some slot.bytes.items
get_read name used slots place slot is read =
    let first = first_of_place name (take used slots) place slot (sym is) in
    let early : place < used = grind (arith, common_steps, first.within) in
    get_placed name used slots place slot (sym is) ∙ ap (λ s. Some s.bytes.items) (get_or-take used slots place slot early ∙ sym read)

pub get_absent : (name : List ℕ) (used : ℕ) (slots : List Slot) → position (is_named name) (take used slots) ≡ None → map.get (files_in used slots) name ≡ None
get_absent name used slots is =
    map.get-from_entries nat_list_cmp_total (each entry_of (take used slots)) name ∙ absent name (take used slots) is

-- a write to the slot of a name
pub put_placed : (name bytes : List ℕ) (used : ℕ) (slots : List Slot) (place : ℕ) (slot : Slot) → position (is_named name) (take used slots) ≡ Some place → slot.name.items ≡ name → slot.bytes.items ≡ bytes → files_in used (set slots place slot) ≡ map.insert (files_in used slots) name bytes
put_placed name bytes used slots place slot is named holds =
    let first = first_of_place name (take used slots) place slot is in
    let early : place < used = grind (arith, common_steps, first.within) in
    map.same_map nat_list_cmp_total names_differ _ _ (λ q.
    map.get-from_entries nat_list_cmp_total (each entry_of (take used (set slots place slot))) q
    ∙ ap (bytes_at q) (take-set-lt used slots place slot early)
    ∙ written name (take used slots) place slot slot first named q
    ∙ ap (λ b. cond (eq_by_cmp (slice_cmp nat_cmp) q name) (Some b) (bytes_at q (take used slots))) holds
    ∙ sym (map.get-insert nat_list_cmp_total (files_in used slots) name bytes q ∙ ap (cond (eq_by_cmp (slice_cmp nat_cmp) q name) (Some bytes)) (map.get-from_entries nat_list_cmp_total (each entry_of (take used slots)) q)))

-- a write to the first unused slot
pub put_new : (name bytes : List ℕ) (used : ℕ) (slots : List Slot) (slot : Slot) → position (is_named name) (take used slots) ≡ None → used < length slots → slot.name.items ≡ name → slot.bytes.items ≡ bytes → files_in (used + 1) (set slots used slot) ≡ map.insert (files_in used slots) name bytes
put_new name bytes used slots slot is room named holds =
    let more : take (used + 1) (set slots used slot) ≡ take used slots ++ slot ∷ [] = take_more_set slots used slot room in
    let entries : each entry_of (take (used + 1) (set slots used slot)) ≡ each entry_of (take used slots) ++ (name, bytes) ∷ [] =
    ap (each entry_of) more ∙ map-append entry_of (take used slots) (slot ∷ []) ∙ ap (λ n. each entry_of (take used slots) ++ (n, slot.bytes.items) ∷ []) named ∙ ap (λ b. each entry_of (take used slots) ++ (name, b) ∷ []) holds in
    ap map.from_entries entries ∙ map.from_entries_push nat_list_cmp_total names_differ (each entry_of (take used slots)) name bytes (absent name (take used slots) is)

-- a write that adds bytes at the end of what the slot of a name holds
pub put_more : (name piece : List ℕ) (used : ℕ) (slots : List Slot) (place : ℕ) (old slot : Slot) → Some place ≡ position (is_named name) (take used slots) → old ≡ get_or slots place old → slot.name.items ≡ old.name.items → slot.bytes.items ≡ old.bytes.items ++ piece → files_in used (set slots place slot) ≡ map.insert (files_in used slots) name (or_empty (map.get (files_in used slots) name) ++ piece)
put_more name piece used slots place old slot is read kept grew =
    let first = first_of_place name (take used slots) place old (sym is) in
    let early : place < used = grind (arith, common_steps, first.within) in
    let at : get_or (take used slots) place old ≡ old = get_or-take used slots place old early ∙ sym read in
    let named : name ≡ old.name.items = same_text name old.name.items (sym (ap (is_named name) (sym at) ∙ first.named)) in
    put_placed name (or_empty (map.get (files_in used slots) name) ++ piece) used slots place slot (sym is) (kept ∙ sym named)
    (grew ∙ ap (λ b. or_empty b ++ piece) (sym (get_read name used slots place old is read)))

-- so many slots were made, each with the room that was asked for
pub record AreMade (count name_bytes file_bytes : ℕ) (slots : List Slot) : Type 0 where
  pub count_is : length slots ≡ count
  pub sized : All (IsSized name_bytes file_bytes) slots

is_none : (found : Option (List ℕ)) → found ≡ None → is_some found ≡ true → ⊥
is_none None none there = cc there
is_none (Some bytes) none there = cc none

-- there is no place for a file that is not there, where each slot is in use
pub no_place : (name bytes : List ℕ) (used name_bytes file_bytes : ℕ) (slots : List Slot) → position (is_named name) (take used slots) ≡ None → length slots ≤ used → HasRoom (stored_in used name_bytes file_bytes slots) name bytes → ⊥
no_place name bytes used name_bytes file_bytes slots is full room = elim room.place [
  | inl there ↦ is_none (map.get (files_in used slots) name) (get_absent name used slots is) there
  | inr left ↦ omega (arith, full, left)
]

pub one_more : (count name_bytes file_bytes : ℕ) (slots : List Slot) (slot : Slot) → AreMade count name_bytes file_bytes slots → vec_capacity slot.name ≡ name_bytes → vec_capacity slot.bytes ≡ file_bytes → AreMade (count + 1) name_bytes file_bytes (slots ++ slot ∷ [])
one_more count name_bytes file_bytes slots slot made name file = record {
  count_is = let is = made.count_is in grind (arith, common_steps, is);
  sized = All-push (IsSized name_bytes file_bytes) slots slot made.sized (record { name = name; file = file });
}
