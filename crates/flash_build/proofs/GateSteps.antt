-- The pages of the gate and of its header: what stands there once they were written, and which pages stay.
use Rattle.std.proofs.Common.{◌≡◌, sym, ap, ◌∙◌, subst, ℕ, ◌+◌, ◌-◌, ◌*◌, ◌%◌, ◌<◌, ◌≤◌, Bool, true, false, not, ◌&&◌, ◌||◌, ◌==◌, if◌then◌else◌, ◌⊎◌, inl, inr, List, ◌++◌, length, length-append, append_assoc, drop, replicate, arith}
use Rattle.std.proofs.lemmas.Bool.{cases_lt, eq-eqb, or_parts}
use Rattle.std.proofs.lemmas.List.{drop-replicate}
use Rattle.ghost_model.specs.core.Channel.{Catalog}
use Rattle.ghost_model.specs.forms.Catalog.{current_version}
use Rattle.ghost_model.specs.forms.Flash.{HoldsFresh, gate_bytes, header_bytes}
use Rattle.ghost_model.specs.forms.Runs.{number_cell}
use Rattle.ghost_model.specs.forms.Layout.{catalog_pages, public_pages, gate_page, header_page, fresh_half}
use Rattle.ghost_model.specs.forms.Work.{gate_pages}
use Rattle.edge_traits.specs.Devices.{Device, ChangesOnly, IsErased}
use Rattle.edge_traits.proofs.DeviceFrames.{changes_trans, changes_wider}
use Rattle.flash_build.specs.Sealing.{LeavesOthers, is_of_gate}

-- the version's numbers
pub pages_two : (cat : Catalog) → cat.version ≡ 2 → public_pages cat ≡ 256
pages_two cat two = ap (λ v. if v == 1 then catalog_pages else 256) two

pub writes_two : (cat : Catalog) → cat.version ≡ 2 → gate_pages cat ≡ 2
writes_two cat two = ap (λ v. if v == 1 then 0 else 2) two

pub pages_one : (cat : Catalog) → cat.version ≡ 1 → public_pages cat ≡ 64
pages_one cat one = ap (λ v. if v == 1 then catalog_pages else 256) one

pub writes_one : (cat : Catalog) → cat.version ≡ 1 → gate_pages cat ≡ 0
writes_one cat one = ap (λ v. if v == 1 then 0 else 2) one

-- a front of a page and 0xFF behind it
pub behind_front : (front copied : List ℕ) → copied ≡ front → copied ++ drop (length front) (replicate 2048 255) ≡ front ++ replicate (2048 - length front) 255
behind_front front copied is =
    ap (λ bytes. bytes ++ drop (length front) (replicate 2048 255)) is ∙ ap (λ bytes. front ++ bytes) (drop-replicate (length front) 2048 255)

-- the bytes of a header: a generation, no rows, and 0xFF behind them
pub header_of : (generation : ℕ) (cell front : List ℕ) → cell ≡ number_cell generation → length cell ≡ 4 → front ≡ cell ++ drop 4 (replicate 8 0)
    → front ++ replicate (2048 - length front) 255 ≡ header_bytes generation 0
header_of generation cell front is four made =
    let whole : front ≡ number_cell generation ++ number_cell 0 = made ∙ ap (λ bytes. bytes ++ drop 4 (replicate 8 0)) is in
    let long : length front ≡ 8 = ap length made ∙ (length-append cell (drop 4 (replicate 8 0)) ∙ ap (λ n. n + 4) four) in
    ap (λ bytes. bytes ++ replicate (2048 - length front) 255) whole
    ∙ (append_assoc (number_cell generation) (number_cell 0) (replicate (2048 - length front) 255)
    ∙ ap (λ n. number_cell generation ++ (number_cell 0 ++ replicate (2048 - n) 255)) long)

-- another number lies below or above
apart : (m n : ℕ) → (m == n) ≡ false → (m < n) ⊎ (n < m)
apart m n other =
    elim (cases_lt m n) [
      | inl under ↦ inl under
      | inr over ↦
          elim (cases_lt n m) [
            | inl above ↦ inr above
            | inr same ↦ (let clash = sym (eq-eqb m n (omega (arith, over, same))) ∙ other in absurd (cc (clash)))
          ]
    ]

-- a page that is not written stays as it was
pub stays : {low : ℕ} {a b : Device} → ChangesOnly low (low + 1) a b → (place : ℕ) → (place == low) ≡ false → (b.blank place ≡ a.blank place) × (b.page place ≡ a.page place)
stays {low = low} changes place other =
    elim (apart place low other) [
      | inl under ↦ (let same = changes.below place under in (same.blank, same.bytes))
      | inr over ↦ (let same = changes.above place (omega (arith, over)) in (same.blank, same.bytes))
    ]

abbrev pub header : Catalog → ℕ
header cat = header_page (fresh_half cat)

module _ (cat : Catalog) {a b c : Device} (two : cat.version ≡ 2) (first : ChangesOnly gate_page (gate_page + 1) a b) (second : ChangesOnly (header cat) (header cat + 1) b c) where
  pub both_change : ChangesOnly catalog_pages (public_pages cat) a c
  both_change =
      let pages = pages_two cat two in
      changes_trans (changes_wider first catalog_pages (public_pages cat) (omega arith) (omega (arith, pages)))
      (changes_wider second catalog_pages (public_pages cat) (omega arith) (omega (arith, pages)))

  pub one_changes : ChangesOnly catalog_pages (public_pages cat) a b
  one_changes = let pages = pages_two cat two in changes_wider first catalog_pages (public_pages cat) (omega arith) (omega (arith, pages))

  pub both_stay : (place : ℕ) → (place == gate_page || place == header cat) ≡ false → (c.blank place ≡ a.blank place) × (c.page place ≡ a.page place)
  both_stay place other =
      let parts = or_parts (place == gate_page) (place == header cat) other in
      let one = stays first place parts.0 in
      let more = stays second place parts.1 in
      (more.0 ∙ one.0, more.1 ∙ one.1)

  of_gate : (place : ℕ) → is_of_gate cat place ≡ false → (place == gate_page || place == header cat) ≡ false
  of_gate place other = ap (λ v. not (v == 1) && (place == gate_page || place == header cat)) (sym two) ∙ other

  pub both_leave : LeavesOthers (is_of_gate cat) a.blank c.blank
  both_leave place other = (both_stay place (of_gate place other)).0

  pub one_leaves : LeavesOthers (is_of_gate cat) a.blank b.blank
  one_leaves place other = (stays first place (or_parts (place == gate_page) (place == header cat) (of_gate place other)).0).0

  pub fresh_stands : {told : Bool} → IsErased told 0 (public_pages cat) a → (told ≡ true → b.page gate_page ≡ gate_bytes (fresh_half cat))
      → (told ≡ true → c.page (header cat) ≡ header_bytes cat.generation 0) → told ≡ true → HoldsFresh c.page cat
  fresh_stands erased gate head told = record {
    counts = record {
      gate = (second.below gate_page (omega arith)).bytes ∙ gate told;
      header = head told;
    };
    blank = λ place from within other. (both_stay place other).1 ∙ erased.bytes told place (omega arith) within;
  }
