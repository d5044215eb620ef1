-- A run that is written whole, after so many of its records.
use Rattle.std.proofs.Common.{◌≡◌, ℕ, ◌+◌, ◌-◌, ◌*◌, ◌/◌, ◌<◌, ◌∙◌, ap, sym, subst, refl, zero, suc, Bool, true, false, if◌then◌else◌, List, length, take, nat_lt, arith}
use Rattle.std.proofs.lemmas.Nat.{le-div, div-mul-add}
use Rattle.edge_traits.specs.Devices.{Device, KeepsPages, ChangesOnly, Counts}
use Rattle.ghost_model.specs.forms.Runs.{per_page, pages_of}
use Rattle.flash_pages.specs.declared.filler.RunFiller.{RunFiller}
use Rattle.std.proofs.lemmas.Bool.Decides.{nat_tests}
use Rattle.edge_traits.proofs.DeviceFrames.{changes_trans, changes_wider, changes_kept, changes_joined}
use Rattle.flash_pages.specs.Writers.{HasWritten, waits, fills, next_page, put_calls}
use Rattle.flash_pages.specs.Writing.{reach, page_calls}

-- so many records were put
pub record Filled (told : Bool) (before now : Device) (bytes : List ℕ) (writer : RunFiller) (begin size : ℕ) (cells : List (List ℕ)) (done : ℕ) : Type 0 where
  pub first : writer.first ≡ begin
  pub width : writer.width ≡ size
  pub erase : writer.erase ≡ false
  pub count : writer.count ≡ done
  pub written : HasWritten told now.page bytes writer (take done cells)
  pub others : ChangesOnly begin (begin + writer.pages) before now
  pub exact : Counts writer.pages before.calls now.calls
  pub deep_reads : now.deep_reads ≡ before.deep_reads
  pub faults : now.faults ≡ before.faults
  pub room : done < length cells → writer.pages < pages_of (length cells) size
  pub last : done ≡ length cells → writer.pages + (if waits writer then 1 else 0) ≡ pages_of (length cells) size

-- without erasing a write changes its page alone, by one call
pub plain_reach : (page : ℕ) (erase : Bool) → erase ≡ false → reach page erase ≡ page + 1
plain_reach page erase plain = ap (λ e. reach page e) plain

pub plain_calls : (page : ℕ) (erase : Bool) → erase ≡ false → page_calls page erase ≡ 1
plain_calls page erase plain = ap (λ e. page_calls page e) plain

-- a page is left for a record that is left
pub page_left :
    (pages held n total : ℕ) → 0 < n → pages * n + held < total → pages < (total + (n - 1)) / n
page_left pages held n total some less =
    omega (arith, le-div (pages + 1) (total + (n - 1)) n some (omega arith))

-- records wait where there are any
abbrev one_if : Bool → ℕ
one_if test = if test then 1 else 0

some_wait : (held : ℕ) → 0 < held → one_if (nat_lt 0 held) ≡ 1
some_wait held some = grind (arith, nat_tests)

-- the pages at the end
pub pages_at_end :
    (pages held n total : ℕ) → held < n → pages * n + held ≡ total
    → pages + (if nat_lt 0 held then 1 else 0) ≡ (total + (n - 1)) / n
pages_at_end pages zero n total most all =
    let e : pages * n + (n - 1) ≡ total + (n - 1) = omega arith in
    omega (arith, sym (div-mul-add pages n (n - 1) (omega arith)) ∙ ap (λ k. k / n) e)
pages_at_end pages (suc held) n total most all =
    let e : (pages + 1) * n + held ≡ total + (n - 1) = omega arith in
    ap (λ k. pages + k) (some_wait (suc held) (omega arith)) ∙ sym (div-mul-add (pages + 1) n held (omega arith)) ∙ ap (λ k. k / n) e

-- what changed after one more record
pub others_more :
    (fill : Bool) {a b c : Device} (begin pages more : ℕ) → ChangesOnly begin (begin + pages) a b
    → ChangesOnly (begin + pages) (begin + pages + 1) b c → (fill ≡ false → KeepsPages b c) → more ≡ pages + (if fill then 1 else 0)
    → ChangesOnly begin (begin + more) a c
others_more true begin pages more before now kept size =
    changes_wider (changes_joined (omega arith) (omega arith) before now) begin (begin + more) (omega arith) (omega arith)
others_more false begin pages more before now kept size =
    changes_wider (changes_trans before (changes_kept (kept refl) begin (begin + pages))) begin (begin + more) (omega arith) (omega arith)

-- the calls of a record that is put without erasing
pub put_calls_plain : (writer : RunFiller) → writer.erase ≡ false → put_calls writer ≡ (if fills writer then 1 else 0)
put_calls_plain writer plain = ap (λ k. if fills writer then k else 0) (plain_calls (next_page writer) writer.erase plain)

-- the records that were put, by whole pages
pub whole_pages :
    (writer : RunFiller) (size done : ℕ) → writer.width ≡ size → writer.count ≡ done
    → writer.pages * per_page size + writer.held ≡ done
whole_pages writer size done width count =
    ap (λ w. writer.pages * (2048 / w) + writer.held) (sym width) ∙ sym writer.counted ∙ count

pub few_held : (writer : RunFiller) (size : ℕ) → writer.width ≡ size → writer.held < per_page size
few_held writer size width = let P : ℕ → Type 0 = λ w. writer.held < 2048 / w in subst P width writer.not_full
