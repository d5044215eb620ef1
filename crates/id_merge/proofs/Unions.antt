-- What several cursors do, one call after the other, and the least of what they have ahead.
use Rattle.std.proofs.Common.{◌≡◌, ◌≢◌, ◌∙◌, ℕ, ◌+◌, ◌<◌, ◌≤◌, ◌⊎◌, inl, inr, Bool, true, false, if◌then◌else◌, max, nat_le, List, ap, sym, refl, subst, IfSome, Option, None, Some, arith}
use Rattle.std.proofs.lemmas.Bool.{cases_eq, leb-true, leb-false}
use Rattle.edge_traits.specs.Devices.{Device}
use Rattle.edge_traits.proofs.DeviceFrames.{kept_trans}
use Rattle.page_pool.specs.Pools.{Pool, KeepsOthers, others_out}
use Rattle.page_pool.specs.Laws.{KeepsOut}
use Rattle.page_pool.proofs.Leases.{others_trans, others_kept}
use Rattle.flash_pages.specs.declared.cursor.RunCursor.{RunCursor}
use Rattle.id_merge.specs.declared.cursor.Cursor.{Cursor}
use Rattle.id_merge.specs.declared.cursor.Cursor.TheVariants.{List as OfList, Range}
use Rattle.id_merge.specs.Cursors.{cursor_at, leases_of, CursorRight, AreRight, AllReady, ListAscends, IsAtMost, AllAtMost, HasAhead, SameSource, Moves, unread_in}
use Rattle.id_merge.specs.Merges.{InUnion, MadeNone}
use Rattle.id_merge.specs.declared.round.Sought.{Sought}
use Rattle.id_merge.specs.Moving.{sought_at, IsSought, SoughtFrom, HasHead, IsHead, AllAdvance, Reaches, Stands, head_from, lesser_of, IsLeastFrom}
use Rattle.id_merge.proofs.SinceLaws.{since_later}
use Rattle.id_merge.proofs.ListReads.{advance_trans, goes_trans}
use Rattle.id_merge.proofs.Setting.{advance_none, same_source}

source_trans :
    (told : Bool) (page page' : ℕ → List ℕ) (a b c : Cursor) → page' ≡ page → SameSource told page a b → SameSource told page' b c → SameSource told page a c
source_trans told page page' (OfList a) (OfList b) (OfList c) same first second = goes_trans a b c same first second
source_trans told page page' (OfList a) (OfList b) (Range low high) same first second = absurd second
source_trans told page page' (OfList a) (Range low high) c same first second = absurd first
source_trans told page page' (Range low high) b c same first second =
    let P : Cursor → Type 0 = λ cursor. SameSource told page' cursor c in subst P first second

moved_out : {told : Bool} {a b : Device} {p q : Pool} {x y : List Cursor} → Moves told a b p q x y → KeepsOut p q
moved_out moves = record { out = moves.out; size = moves.others.size }

pub moves_trans :
    {told : Bool} {a b c : Device} {p q r : Pool} {x y z : List Cursor} → Moves told a b p q x y → Moves told b c q r y z → Moves told a c p r x z
moves_trans {told = told} {a = a} {b = b} {p = p} {q = q} {r = r} {x = x} {y = y} {z = z} first second =
    let same : others_out q (leases_of y) ≡ others_out p (leases_of x) =
    ap (λ leases. others_out q leases) first.leases ∙ others_kept (leases_of x) (moved_out first) in
    let P : List Bool → Type 0 = λ others. KeepsOthers others q r in
    record {
      kept = kept_trans first.kept second.kept;
      out = second.out ∙ first.out;
      others = others_trans first.others (subst P same second.others);
      given = λ since from was. second.given since (since_later first.kept.never_falls from) (first.given since from was);
      count = second.count ∙ first.count;
      same = λ i. source_trans told a.page b.page (cursor_at x i) (cursor_at y i) (cursor_at z i) first.kept.page (first.same i) (second.same i);
      leases = second.leases ∙ first.leases;
      at_most = λ most was. second.at_most most (first.at_most most was);
    }

pub all_right : {page right : ℕ → List ℕ} {low : ℕ} (x y : List Cursor) → AllAdvance page right low x y → AreRight page right y
all_right x y advances i = (advances i).still

pub right_kept :
    {page page' : ℕ → List ℕ} (right : ℕ → List ℕ) (cursors : List Cursor) → page' ≡ page → AreRight page right cursors → AreRight page' right cursors
right_kept right cursors same was = let P : (ℕ → List ℕ) → Type 0 = λ page. AreRight page right cursors in subst P (sym same) was

-- what a later call does, by the bytes of the pages before an earlier one
pub advance_next :
    {told : Bool} {low low' : ℕ} {a b c : Device} {p q r : Pool} (x y z : List Cursor) → Reaches told low a b p q x y
    → Reaches told low' b c q r y z → told ≡ true → (right : ℕ → List ℕ) → AreRight a.page right x → AllAdvance a.page right low' y z
advance_next {low' = low'} x y z first second tells right was =
    let P : (ℕ → List ℕ) → Type 0 = λ page. AreRight page right y → AllAdvance page right low' y z in
    subst P first.moves.kept.page (second.advances tells right) (all_right x y (first.advances tells right was))

pub reaches_trans :
    {told : Bool} {low low' : ℕ} {a b c : Device} {p q r : Pool} {x y z : List Cursor} → low ≤ low' → Reaches told low a b p q x y
    → Reaches told low' b c q r y z → Reaches told low' a c p r x z
reaches_trans {low' = low'} {a = a} {x = x} {y = y} {z = z} less first second = record {
  moves = moves_trans first.moves second.moves;
  ready = second.ready;
  hand = λ last. omega (arith, first.hand last, second.hand last);
  advances = λ tells right was i.
      advance_trans a.page right less (first.advances tells right was i) (advance_next x y z first second tells right was i);
}

-- nothing was done
pub reaches_none :
    {told : Bool} (low : ℕ) {device : Device} {pool : Pool} (cursors : List Cursor) → AllReady told device pool cursors
    → Reaches told low device device pool pool cursors cursors
reaches_none {told = told} low {device = device} cursors ready = record {
  moves = record {
    kept = record { name = refl; page_count = refl; page = refl; others = refl; blank = refl; never_falls = omega arith; gave = λ at page bytes is. is };
    out = refl;
    others = record { size = refl; bytes = λ other was. refl; filled = λ other was. refl };
    given = λ since from was. was;
    count = refl;
    same = λ i. same_source told device.page (cursor_at cursors i);
    leases = refl;
    at_most = λ most was. was;
  };
  ready = ready;
  hand = λ last. omega arith;
  advances = λ tells right was i. advance_none device.page right low (cursor_at cursors i) (was i);
}

-- the cursor at a place was brought to its first identifier from `low` on, without a call of the flash
pub record Brought (told : Bool) (low : ℕ) (i : ℕ) (before now : Device) (pool later : Pool) (old new : List Cursor) : Type 0 where
  pub reaches : Reaches told low before now pool later old new
  pub quiet : MadeNone before now (unread_in pool old) (unread_in later new)
  pub stands : Stands low (cursor_at new i)
  pub others : (k : ℕ) → k ≢ i → cursor_at new k ≡ cursor_at old k

pub brought_same :
    (told : Bool) (low i : ℕ) (before : Device) (pool : Pool) (old : List Cursor) {now now' : Device} {later later' : Pool} {new new' : List Cursor}
    → now' ≡ now → later' ≡ later → new' ≡ new → Brought told low i before now pool later old new → Brought told low i before now' pool later' old new'
brought_same told low i before pool old {now' = now'} {later = later} {later' = later'} {new = new} device is cursors brought =
    let A : Device → Type 0 = λ now. Brought told low i before now pool later old new in
    let B : Pool → Type 0 = λ later. Brought told low i before now' pool later old new in
    let C : List Cursor → Type 0 = λ new. Brought told low i before now' pool later' old new in
    subst C (sym cursors) (subst B (sym is) (subst A (sym device) brought))

-- the first identifier from `low` on of a cursor that stands there is the least one
list_head :
    (page : ℕ → List ℕ) (low : ℕ) (run : RunCursor) (b : Bool) → (b ≡ true → low ≤ run.last) → (b ≡ false → run.last < low)
    → Stands low (OfList run) → ListAscends page run → IsLeastFrom low (HasAhead page (OfList run)) (if b then Some run.last else None)
list_head page low run true under over stands ascends =
    let from : low ≤ run.last = under refl in (
      from,
      inl refl,
      λ id above ahead.
          elim ahead [
            | inl is ↦ omega arith
            | inr left ↦ omega (arith, left.is, ascends.above left.at left.from left.within)
          ],
    )
list_head page low run false under over stands ascends =
    let below : run.last < low = over refl in
    λ id above ahead.
    elim ahead [
      | inl is ↦ omega arith
      | inr left ↦ omega (arith, left.from, left.within, stands below)
    ]

range_head :
    (page : ℕ → List ℕ) (low first last head : ℕ) (b : Bool) → head ≡ max first low → (b ≡ true → head ≤ last) → (b ≡ false → last < head)
    → IsLeastFrom low (HasAhead page (Range first last)) (if b then Some head else None)
range_head page low first last head true is under over =
    let within : head ≤ last = under refl in
    (omega arith, (omega arith, within), λ id above ahead. omega (arith, ahead.0))
range_head page low first last head false is under over =
    let past : last < head = over refl in
    λ id above ahead. omega (arith, ahead.0, ahead.1)

head_least :
    (page right : ℕ → List ℕ) (low : ℕ) (cursor : Cursor) → Stands low cursor → CursorRight page right cursor
    → IsLeastFrom low (HasAhead right cursor) (head_from low cursor)
head_least page right low (OfList run) stands was =
    list_head right low run (nat_le low run.last) (leb-true low run.last) (leb-false low run.last) stands was.ascends
head_least page right low (Range first last) stands was =
    range_head right low first last (max first low) (nat_le (max first low) last) refl (leb-true (max first low) last) (leb-false (max first low) last)

if_has : (b : Bool) (x : ℕ) (P : ℕ → Type 0) → (b ≡ true → P x) → IfSome (if b then Some x else None) P
if_has true x P has = has refl
if_has false x P has = tt

pub head_above : (low : ℕ) (cursor : Cursor) → IfSome (head_from low cursor) (λ id. low ≤ id)
head_above low (OfList run) = if_has (nat_le low run.last) run.last (λ id. low ≤ id) (λ is. leb-true low run.last is)
head_above low (Range first last) = if_has (nat_le (max first low) last) (max first low) (λ id. low ≤ id) (λ is. omega arith)

head_has : (low : ℕ) (cursor : Cursor) → IfSome (head_from low cursor) (HasHead cursor)
head_has low (OfList run) = if_has (nat_le low run.last) run.last (λ id. id ≡ run.last) (λ is. refl)
head_has low (Range first last) =
    if_has (nat_le (max first low) last) (max first low) (λ id. (first ≤ id) × (id ≤ last)) (λ is. (omega arith, leb-true (max first low) last is))

some_then : {A : Type 0} {P Q : A → Type 0} (value : Option A) → ((a : A) → P a → Q a) → IfSome value P → IfSome value Q
some_then None follows is = tt
some_then (Some a) follows is = follows a is

-- a head stays where its cursor does, and one more cursor may have one
pub head_kept :
    (x y : List Cursor) (i : ℕ) (least : Option ℕ) → ((k : ℕ) → k ≢ i → cursor_at y k ≡ cursor_at x k) → IfSome least (IsHead x i)
    → IfSome least (IsHead y (i + 1))
head_kept x y i least others was =
    some_then least
    (λ id head.
    let P : Cursor → Type 0 = λ cursor. HasHead cursor id in
    record {
      at = head.at;
      below = omega (arith, head.below);
      has = subst P (sym (others head.at (λ same. omega (arith, same, head.below)))) head.has;
    })
    was

pub head_here : (low : ℕ) (cursors : List Cursor) (i : ℕ) → IfSome (head_from low (cursor_at cursors i)) (IsHead cursors (i + 1))
head_here low cursors i =
    some_then (head_from low (cursor_at cursors i)) (λ id has. record { at = i; below = omega arith; has = has }) (head_has low (cursor_at cursors i))

-- what is at the head of a cursor is no higher than the cursors may have
head_at_most : (most id : ℕ) (cursor : Cursor) → HasHead cursor id → IsAtMost most cursor → id ≤ most
head_at_most most id (OfList run) has at_most = omega (arith, has, at_most.1)
head_at_most most id (Range first last) has at_most = omega (arith, has.1, at_most)

pub is_at_most : (most : ℕ) (cursors : List Cursor) (to id : ℕ) → IsHead cursors to id → AllAtMost most cursors → id ≤ most
is_at_most most cursors to id head at_most = head_at_most most id (cursor_at cursors head.at) head.has (at_most head.at)

one_has : (P : ℕ → Type 0) (t : Bool) (a b : ℕ) → P a → P b → IfSome (if t then Some a else Some b) P
one_has P true a b first second = first
one_has P false a b first second = second

-- the less of two has what both have
pub lesser_has : (P : ℕ → Type 0) (a b : Option ℕ) → IfSome a P → IfSome b P → IfSome (lesser_of a b) P
lesser_has P None b first second = second
lesser_has P (Some a) None first second = first
lesser_has P (Some a) (Some b) first second = one_has P (nat_le a b) a b first second

least_of_some :
    (low : ℕ) (P Q R : ℕ → Type 0) (a b : ℕ) (t : Bool) → (t ≡ true → a ≤ b) → (t ≡ false → b < a) → ((id : ℕ) → R id → P id ⊎ Q id)
    → ((id : ℕ) → P id → R id) → ((id : ℕ) → Q id → R id)
    → IsLeastFrom low P (Some a) → IsLeastFrom low Q (Some b) → IsLeastFrom low R (if t then Some a else Some b)
least_of_some low P Q R a b true under over split one other first second =
    let less : a ≤ b = under refl in
    (first.0, one a first.1, λ id above has. elim (split id has) [ inl p ↦ first.2 id above p | inr q ↦ omega (arith, second.2 id above q) ])
least_of_some low P Q R a b false under over split one other first second =
    let less : b < a = over refl in
    (second.0, other b second.1, λ id above has. elim (split id has) [ inl p ↦ omega (arith, first.2 id above p) | inr q ↦ second.2 id above q ])

-- and is the least of what one or the other has
least_of_two :
    (low : ℕ) (P Q R : ℕ → Type 0) (a b : Option ℕ) → ((id : ℕ) → R id → P id ⊎ Q id) → ((id : ℕ) → P id → R id) → ((id : ℕ) → Q id → R id)
    → IsLeastFrom low P a → IsLeastFrom low Q b → IsLeastFrom low R (lesser_of a b)
least_of_two low P Q R None None split one other first second =
    λ id above has. elim (split id has) [ inl p ↦ first id above p | inr q ↦ second id above q ]
least_of_two low P Q R None (Some b) split one other first second =
    (second.0, other b second.1, λ id above has. elim (split id has) [ inl p ↦ absurd (first id above p) | inr q ↦ second.2 id above q ])
least_of_two low P Q R (Some a) None split one other first second =
    (first.0, one a first.1, λ id above has. elim (split id has) [ inl p ↦ first.2 id above p | inr q ↦ absurd (second id above q) ])
least_of_two low P Q R (Some a) (Some b) split one other first second =
    least_of_some low P Q R a b (nat_le a b) (leb-true a b) (leb-false a b) split one other first second

-- the least stays where nothing came, and nothing from `low` on went
pub least_kept :
    (low : ℕ) (P Q : ℕ → Type 0) (a : Option ℕ) → ((id : ℕ) → low ≤ id → P id → Q id) → ((id : ℕ) → Q id → P id)
    → IsLeastFrom low P a → IsLeastFrom low Q a
least_kept low P Q None stays was least = λ id above has. least id above (was id has)
least_kept low P Q (Some a) stays was least = (least.0, stays a least.0 least.1, λ id above has. least.2 id above (was id has))

pub union_fewer :
    {page right : ℕ → List ℕ} {low : ℕ} (x y : List Cursor) (from to id : ℕ) → AllAdvance page right low x y → InUnion right y from to id
    → InUnion right x from to id
union_fewer x y from to id advances is = record { at = is.at; low = is.low; high = is.high; has = (advances is.at).fewer id is.has }

pub union_same :
    {page right : ℕ → List ℕ} {low : ℕ} (x y : List Cursor) (from to id : ℕ) → AllAdvance page right low x y → low ≤ id → InUnion right x from to id
    → InUnion right y from to id
union_same x y from to id advances above is = record { at = is.at; low = is.low; high = is.high; has = (advances is.at).same id above is.has }

split_last :
    (page : ℕ → List ℕ) (cursors : List Cursor) (from i id : ℕ) → InUnion page cursors from (i + 1) id
    → InUnion page cursors from i id ⊎ HasAhead page (cursor_at cursors i) id
split_last page cursors from i id is =
    elim (cases_eq is.at i) [
      | inl same ↦ let P : ℕ → Type 0 = λ k. HasAhead page (cursor_at cursors k) id in inr (subst P same is.has)
      | inr apart ↦ inl (record { at = is.at; low = is.low; high = omega (arith, is.high); has = is.has })
    ]

-- one more cursor of a union
pub least_step :
    (page right : ℕ → List ℕ) (low : ℕ) (x y : List Cursor) (from i : ℕ) (least result : Option ℕ) → from ≤ i → AllAdvance page right low x y
    → Stands low (cursor_at y i) → result ≡ lesser_of least (head_from low (cursor_at y i)) → IsLeastFrom low (InUnion right x from i) least
    → IsLeastFrom low (InUnion right y from (i + 1)) result
least_step page right low x y from i least result order advances stands is was =
    let P : Option ℕ → Type 0 = IsLeastFrom low (InUnion right y from (i + 1)) in
    let kept = least_kept low (InUnion right x from i) (InUnion right y from i) least (λ id above. union_same x y from i id advances above)
    (λ id. union_fewer x y from i id advances) was in
    subst P (sym is)
    (least_of_two low (InUnion right y from i) (HasAhead right (cursor_at y i)) (InUnion right y from (i + 1)) least (head_from low (cursor_at y i))
    (split_last right y from i)
    (λ id in_it. record { at = in_it.at; low = in_it.low; high = omega (arith, in_it.high); has = in_it.has })
    (λ id has. record { at = i; low = order; high = omega arith; has = has })
    kept
    (head_least page right low (cursor_at y i) stands (all_right x y advances i)))

pub has_step :
    (P : ℕ → Type 0) (low : ℕ) (least result : Option ℕ) (cursor : Cursor) → result ≡ lesser_of least (head_from low cursor)
    → IfSome least P → IfSome (head_from low cursor) P → IfSome result P
has_step P low least result cursor is first second =
    let Q : Option ℕ → Type 0 = λ found. IfSome found P in subst Q (sym is) (lesser_has P least (head_from low cursor) first second)

pub sought_of : (low : ℕ) (P : ℕ → Type 0) (least : Option ℕ) (result : Sought) → result ≡ sought_at least → IsLeastFrom low P least → IsSought low P result
sought_of low P None result is least = let Q : Sought → Type 0 = IsSought low P in subst Q (sym is) least
sought_of low P (Some id) result is least = let Q : Sought → Type 0 = IsSought low P in subst Q (sym is) least

pub from_of :
    (low : ℕ) (cursors : List Cursor) (to : ℕ) (least : Option ℕ) (result : Sought) → result ≡ sought_at least → IfSome least (λ id. low ≤ id)
    → IfSome least (IsHead cursors to) → SoughtFrom low cursors to result
from_of low cursors to None result is from head = let Q : Sought → Type 0 = SoughtFrom low cursors to in subst Q (sym is) tt
from_of low cursors to (Some id) result is from head =
    let Q : Sought → Type 0 = SoughtFrom low cursors to in subst Q (sym is) (record { from = from; head = head })
