-- Reads of pages one after another under a lease, and the values of rows that they give.
use Rattle.std.proofs.Common.{◌≡◌, refl, ap, sym, ◌∙◌, subst, ℕ, zero, suc, ◌+◌, ◌-◌, ◌/◌, ◌<◌, ◌≤◌, min, Bool, true, false, List, [], ◌∷◌, ◌++◌, append_assoc, length, length-append, Result, Ok, Err, Option, Some, None, slice_get, is_some, inl, inr, arith}
use Rattle.std.specs.Prelude.{◌⊎◌}
use Rattle.std.proofs.Math.Nat.{div-zero}
use Rattle.std.proofs.lemmas.Nat.{le-div, div-add-mod'}
use Rattle.std.proofs.lemmas.Bool.{cases_lt}
use Rattle.std.proofs.lemmas.Bool.Decides.{nat_tests}
use Rattle.ghost_model.specs.core.Values.{Value}
use Rattle.ghost_model.specs.core.Causes.{last_count}
use Rattle.ghost_model.specs.forms.Runs.{per_page}
use Rattle.edge_traits.specs.Devices.{Device, next_if}
use Rattle.edge_traits.proofs.DeviceFrames.{kept_trans}
use Rattle.page_pool.specs.Pools.{Pool, ChangesPage, page_at}
use Rattle.flash_pages.specs.Reads.{must_read}
use Rattle.flash_pages.specs.Holding.{is_apart}
use Rattle.hidden_columns.specs.declared.file.ColumnFile.{ColumnFile}
use Rattle.hidden_columns.specs.Files.{IsOfColumn, HasNoValue, slot_page, slot_value}
use Rattle.flash_build.specs.declared.faults.ReadFault.{ReadFault}
use Rattle.flash_build.specs.declared.faults.ReadFault.TheVariants as fault
use Rattle.flash_build.specs.Reading.{ReadsCells, ReadTells}
use Rattle.flash_build.specs.ReadColumns.{AddsRow, AddsRows, DamagesRow, DamagesRows}

changes_trans : {a b c : Pool} {lease : ℕ} → ChangesPage a b lease → ChangesPage b c lease → ChangesPage a c lease
changes_trans first second = record {
  out = second.out ∙ first.out;
  size = second.size ∙ first.size;
  bytes = λ other apart. second.bytes other apart ∙ first.bytes other apart;
  filled = λ other apart. second.filled other apart ∙ first.filled other apart;
}

tells_after : {T : Type 0} (a b c : Device) (result : Result T ReadFault) → b.faults ≡ a.faults → ReadTells b c result → ReadTells a c result
tells_after a b c (Ok x) same tells = tells ∙ same
tells_after a b c (Err fault.NoMemory) same tells = tells ∙ same
tells_after a b c (Err fault.Flash) same tells = record { cause = subst (λ n. min (n + 1) last_count ≤ c.faults) same tells.cause; last = tells.last }
tells_after a b c (Err (fault.Damaged number slot found)) same tells = tells ∙ same

module _ {told : Bool} {lease : ℕ} where
  -- the same under other answers
  pub ok_as : {T U : Type 0} {x : T} (y : U) {a b : Device} {p q : Pool} → ReadsCells {T = T} told a b p q lease (Ok x) → ReadsCells {T = U} told a b p q lease (Ok y)
  ok_as y read = record { kept = read.kept; tells = read.tells; buffer = read.buffer; ready = read.ready; given = read.given }

  -- one read after others
  pub after : {T U : Type 0} {x : T} {a b c : Device} {p q r : Pool} {result : Result U ReadFault}
      → ReadsCells {T = T} told a b p q lease (Ok x) → ReadsCells {T = U} told b c q r lease result → ReadsCells {T = U} told a c p r lease result
  after {a = a} {b = b} {c = c} {result = result} first second = record {
    kept = kept_trans first.kept second.kept;
    tells = tells_after a b c result first.tells second.tells;
    buffer = changes_trans first.buffer second.buffer;
    ready = second.ready;
    given = λ since from given. let rises = first.kept.never_falls in second.given since (omega (arith, from, rises)) (first.given since from given);
  }

-- an item of a list that one was put behind
pub last_or_before : {X : Type 0} (xs : List X) (x : X) (place : ℕ) (y : X) → slice_get (xs ++ x ∷ []) place ≡ Some y
    → (slice_get xs place ≡ Some y) ⊎ ((place ≡ length xs) × (x ≡ y))
last_or_before [] x zero y e = inr (refl, cc (e))
last_or_before [] x (suc place) y e = absurd (cc (e))
last_or_before (z ∷ xs) x zero y e = inl e
last_or_before (z ∷ xs) x (suc place) y e =
    elim (last_or_before xs x place y e) [
      | inl before ↦ inl before
      | inr last ↦ inr (ap suc last.0, last.1)
    ]

-- one row more
pub row_more : {told : Bool} {page later : ℕ → List ℕ} {file : ColumnFile} {from place : ℕ} {before now then : List Value} → later ≡ page
    → AddsRows told page file from place before now → AddsRow told later file place now then → AddsRows told page file from (place + 1) before then
row_more {page = page} {file = file} {from = from} {place = place} {before = before} same rows row =
    record {
      more = rows.more ++ row.value ∷ [];
      added = row.added ∙ (ap (λ front. front ++ row.value ∷ []) rows.added ∙ append_assoc before rows.more (row.value ∷ []));
      many = let size = length-append rows.more (row.value ∷ []) in let many = rows.many in omega (arith, size, many);
      column = λ at value e.
          elim (last_or_before rows.more row.value at value e) [
            | inl old ↦ rows.column at value old
            | inr new ↦ subst (λ v. IsOfColumn file v) new.1 row.column
          ];
      spelled = λ is_told at value e.
          elim (last_or_before rows.more row.value at value e) [
            | inl old ↦ rows.spelled is_told at value old
            | inr new ↦
                let many = rows.many in
                let here : from + at + 1 ≡ place + 1 = omega (arith, many, new.0) in
                ap (slot_value page file) here
                ∙ (ap (λ p. slot_value p file (place + 1)) (sym same) ∙ (row.spelled is_told ∙ ap Some new.1))
          ];
    }

pub is_some_of : {X : Type 0} (o : Option X) (x : X) → o ≡ Some x → is_some o ≡ true
is_some_of None x e = absurd (cc (e))
is_some_of (Some y) x e = refl

pub within_some : {X : Type 0} (xs : List X) (place : ℕ) → place < length xs → (x : X) × (slice_get xs place ≡ Some x)
within_some [] place low = absurd (omega (arith, low))
within_some (x ∷ xs) zero low = (x, refl)
within_some (x ∷ xs) (suc place) low = within_some xs place (omega (arith, low))

-- the slots of rows that were read spell values
pub rows_stand : {told : Bool} {page : ℕ → List ℕ} {file : ColumnFile} {from place : ℕ} {before now : List Value}
    → AddsRows told page file from place before now → told ≡ true → (row : ℕ) → from ≤ row → row < place → is_some (slot_value page file (row + 1)) ≡ true
rows_stand {page = page} {file = file} {from = from} rows is_told row above below =
    let many = rows.many in
    let at = within_some rows.more (row - from) (omega (arith, many, above, below)) in
    let here : from + (row - from) + 1 ≡ row + 1 = omega (arith, above) in
    is_some_of (slot_value page file (row + 1)) at.0 (ap (slot_value page file) (sym here) ∙ rows.spelled is_told (row - from) at.0 at.1)

-- a row that is damaged behind those
pub damaged_after : (since : ℕ) (device : Device) {told : Bool} {page later : ℕ → List ℕ} {file : ColumnFile} {from place : ℕ} {before now : List Value} (e : ReadFault)
    → later ≡ page → place < file.run.count → AddsRows told page file from place before now → DamagesRow told since later device file place e
    → DamagesRows told since page device file from e
damaged_after since device fault.NoMemory same within rows damaged = tt
damaged_after since device fault.Flash same within rows damaged = tt
damaged_after since device {file = file} {place = place} (fault.Damaged number slot found) same within rows damaged = record {
  place = place;
  within = within;
  damaged = record {
    blames = damaged.blames;
    stands = λ is_told. subst (λ p. HasNoValue p file (place + 1) found) same (damaged.stands is_told);
  };
  before = λ is_told row above below. rows_stand rows is_told row above below;
}

-- so many calls were made for the rows so far, and the page of the last one stands in the buffer
pub record CallsSoFar (file : ColumnFile) (lease from place : ℕ) (before now : ℕ) (pool : Pool) : Type 0 where
  pub none : place ≡ from → now ≡ before
  pub some : from < place → now + slot_page file (from + 1) ≤ before + (slot_page file place + 1)
  pub held : from < place → page_at pool lease ≡ Some (slot_page file place)

div_mono : (a b n : ℕ) → a ≤ b → a / n ≤ b / n
div_mono a b zero less = let one = div-zero a in let other = div-zero b in omega (arith, one, other)
div_mono a b (suc n) less = le-div (a / suc n) b (suc n) (omega arith) (omega (arith, div-add-mod' a (suc n), less))

-- pages of later rows are later ones
pages_rise : (file : ColumnFile) (one other : ℕ) → one ≤ other → slot_page file one ≤ slot_page file other
pages_rise file one other low =
    let rise = div_mono (one - 1) (other - 1) (per_page file.run.width) (omega (arith, low)) in omega (arith, rise)

apart_not : (o : Option ℕ) (page : ℕ) → o ≡ Some page → is_apart o page ≡ false
apart_not None page e = absurd (cc (e))
apart_not (Some other) page e = let same : other ≡ page = cc (e) in grind (arith, nat_tests)

counted : (b : Bool) (n : ℕ) → next_if b n ≤ n + 1
counted true n = omega arith
counted false n = omega arith

not_counted : (b : Bool) (n : ℕ) → b ≡ false → next_if b n ≡ n
not_counted true n e = absurd (cc (e))
not_counted false n e = refl

pub calls_more : {file : ColumnFile} {lease from place before now then : ℕ} {pool : Pool} → from ≤ place → CallsSoFar file lease from place before now pool
    → then ≡ next_if (must_read pool lease (slot_page file (place + 1))) now
    → then + slot_page file (from + 1) ≤ before + (slot_page file (place + 1) + 1)
calls_more {file = file} {lease = lease} {from = from} {place = place} {before = before} {now = now} {then = then} {pool = pool} low so_far more =
    let most = counted (must_read pool lease (slot_page file (place + 1))) now in
    elim (cases_lt from place) [
      | inl less ↦
          (let some = so_far.some less in
          let held = so_far.held less in
          let rise = pages_rise file place (place + 1) (omega arith) in
          elim (cases_lt (slot_page file place) (slot_page file (place + 1))) [
            | inl next ↦ omega (arith, some, more, most, next)
            | inr same_page ↦
                let same : slot_page file place ≡ slot_page file (place + 1) = omega (arith, rise, same_page) in
                let stays = not_counted (must_read pool lease (slot_page file (place + 1))) now (apart_not (page_at pool lease) (slot_page file (place + 1)) (held ∙ ap Some same)) in
                omega (arith, some, more, stays, same)
          ])
      | inr here ↦
          let same : place ≡ from = omega (arith, low, here) in
          let none = so_far.none same in
          let page = ap (λ n. slot_page file (n + 1)) same in
          omega (arith, none, more, most, page)
    ]

pub calls_next : {file : ColumnFile} {lease from place before now then : ℕ} {pool later : Pool} → from ≤ place → CallsSoFar file lease from place before now pool
    → then ≡ next_if (must_read pool lease (slot_page file (place + 1))) now → page_at later lease ≡ Some (slot_page file (place + 1))
    → CallsSoFar file lease from (place + 1) before then later
calls_next low so_far more held = record {
  none = λ e. absurd (omega (arith, low, e));
  some = λ less. calls_more low so_far more;
  held = λ less. held;
}

pub calls_later : (file : ColumnFile) (from place upto before then : ℕ) → place + 1 ≤ upto → then + slot_page file (from + 1) ≤ before + (slot_page file (place + 1) + 1)
    → then + slot_page file (from + 1) ≤ before + (slot_page file upto + 1)
calls_later file from place upto before then low some = let rise = pages_rise file (place + 1) upto low in omega (arith, rise, some)
