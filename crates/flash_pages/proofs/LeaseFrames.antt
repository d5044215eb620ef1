-- What a cursor, a writer and a buffer keep where other pages change and other buffers are used.
use Rattle.std.proofs.Common.{◌≡◌, ◌≢◌, ℕ, zero, suc, ◌+◌, ◌*◌, ◌/◌, ◌%◌, ◌<◌, ◌≤◌, ◌∙◌, ap, sym, subst, Bool, true, List, drop, arith}
use Rattle.std.specs.Prelude.{IfSome, Option, Some, None}
use Rattle.std.proofs.lemmas.Nat.{div_below}
use Rattle.ghost_model.specs.forms.Runs.{Run, page_of, run_end, per_page, cell_in}
use Rattle.edge_traits.specs.Devices.{Device, KeepsPages, ChangesOnly, GaveSince}
use Rattle.page_pool.specs.Pools.{Pool, IsOut, ChangesPage, bytes_at, page_at}
use Rattle.page_pool.specs.Laws.{SameBuffer}
use Rattle.page_pool.proofs.Leases.{out_kept, change_keeps_out, change_elsewhere}
use Rattle.ghost_base.specs.Runs.{run_of}
use Rattle.flash_pages.specs.Reads.{IsFilled, CanRead, WasGiven, WasRead}
use Rattle.flash_pages.specs.Cursors.{IsReady, IsPageOf, ids_left}
use Rattle.flash_pages.specs.Writing.{IsWriting}
use Rattle.flash_pages.specs.Writers.{CanWrite, HasPut, next_page}
use Rattle.flash_pages.specs.declared.cursor.RunCursor.{RunCursor}
use Rattle.flash_pages.specs.declared.filler.RunFiller.{RunFiller}
use Rattle.flash_pages.specs.declared.writer.RunWriter.{RunWriter}
use Rattle.flash_pages.proofs.RunFrames.{run_kept, place_in_run}
use Rattle.flash_pages.proofs.ListFrames.{stands_kept, ids_left_kept}

-- what is said of a value, if there is one, goes over to what follows from it
pub some_then : {A : Type 0} {P Q : A → Type 0} (value : Option A) → ((a : A) → P a → Q a) → IfSome value P → IfSome value Q
some_then None then is = tt
some_then (Some a) then is = then a is

some_both : {A : Type 0} {P Q R : A → Type 0} (value : Option A) → ((a : A) → P a → Q a → R a) → IfSome value P → IfSome value Q → IfSome value R
some_both None then p q = tt
some_both (Some a) then p q = then a p q

-- the page in a buffer, where neither the page nor the buffer changed
pub filled_kept :
    {pool later : Pool} {lease : ℕ} (told : Bool) (before now : ℕ → List ℕ) → SameBuffer pool later lease
    → IfSome (page_at pool lease) (λ number. told ≡ true → now number ≡ before number)
    → IsFilled told before pool lease → IsFilled told now later lease
filled_kept {pool = pool} {later = later} {lease = lease} told before now same pages is =
    let P : Option ℕ → Type 0 = λ value. IfSome value (λ number. told ≡ true → bytes_at later lease ≡ now number) in
    subst P (sym same.filled)
    (some_both {P = λ number. told ≡ true → now number ≡ before number} {Q = λ number. told ≡ true → bytes_at pool lease ≡ before number} {R = λ number. told ≡ true → bytes_at later lease ≡ now number}
    (page_at pool lease) (λ number page stands. λ is_told. same.bytes ∙ stands is_told ∙ sym (page is_told)) pages is)

pub can_read_kept :
    {told : Bool} {before now : Device} {pool later : Pool} {lease : ℕ} → IsOut later lease → SameBuffer pool later lease
    → IfSome (page_at pool lease) (λ number. told ≡ true → now.page number ≡ before.page number)
    → CanRead told before pool lease → CanRead told now later lease
can_read_kept {told = told} {before = before} {now = now} out same pages can = record {
  out = out;
  filled = filled_kept told before.page now.page same pages can.filled;
}

-- where another reader used another buffer
pub can_read_beside :
    {told : Bool} {before now : Device} {pool later : Pool} {lease other : ℕ} → KeepsPages before now → ChangesPage pool later other
    → lease ≢ other → CanRead told before pool lease → CanRead told now later lease
can_read_beside {told = told} {before = before} {now = now} {pool = pool} {lease = lease} kept changes apart can =
    can_read_kept (out_kept (change_keeps_out changes) can.out) (change_elsewhere changes apart)
    (some_then {P = λ number. told ≡ true → bytes_at pool lease ≡ before.page number} {Q = λ number. told ≡ true → now.page number ≡ before.page number}
    (page_at pool lease) (λ number is. λ is_told. ap (λ f. f number) kept.page) can.filled)
    can

-- what a read gave of the page in a buffer
pub given_kept :
    {pool later : Pool} {lease : ℕ} (since : ℕ) (before now : Device)
    → ((at number : ℕ) (bytes : List ℕ) → before.gave at number bytes ≡ true → now.gave at number bytes ≡ true)
    → SameBuffer pool later lease → WasGiven since before pool lease → WasGiven since now later lease
given_kept {pool = pool} {later = later} {lease = lease} since before now gave same is =
    let P : Option ℕ → Type 0 = λ value. IfSome value (GaveSince since now (bytes_at later lease)) in
    let Q : List ℕ → ℕ → Type 0 = λ bytes number. GaveSince since now bytes number in
    subst P (sym same.filled)
    (some_then {P = GaveSince since before (bytes_at pool lease)} {Q = GaveSince since now (bytes_at later lease)}
    (page_at pool lease)
    (λ number read. subst (λ bytes. Q bytes number) (sym same.bytes)
    (record { at = read.at; from = read.from; gave = gave read.at number (bytes_at pool lease) read.gave }))
    is)

pub given_beside :
    {before now : Device} {pool later : Pool} {lease other : ℕ} (since : ℕ) → KeepsPages before now → ChangesPage pool later other
    → lease ≢ other → WasGiven since before pool lease → WasGiven since now later lease
given_beside {before = before} {now = now} since kept changes apart is =
    given_kept since before now kept.gave (change_elsewhere changes apart) is

-- what a read gave of a record it gave
pub was_read_kept :
    {since : ℕ} {before now : Device} {run : Run} {place : ℕ} {cell : List ℕ}
    → ((at number : ℕ) (bytes : List ℕ) → before.gave at number bytes ≡ true → now.gave at number bytes ≡ true)
    → WasRead since before run place cell → WasRead since now run place cell
was_read_kept {run = run} {place = place} gave was = record {
  bytes = was.bytes;
  gave = record { at = was.gave.at; from = was.gave.from; gave = gave was.gave.at (page_of run place) was.bytes was.gave.gave };
  record_is = was.record_is;
}

-- a cursor may go on where the pages of its run and its buffer stayed as they were
pub ready_kept :
    {told : Bool} {before now : Device} {pool later : Pool} {cursor : RunCursor} → now.page_count ≡ before.page_count
    → (told ≡ true → (i : ℕ) → i < cursor.list.run.count → now.page (page_of (run_of cursor.list.run) i) ≡ before.page (page_of (run_of cursor.list.run) i))
    → IsOut later cursor.lease → SameBuffer pool later cursor.lease
    → IsReady told before pool cursor → IsReady told now later cursor
ready_kept {told = told} {before = before} {now = now} {pool = pool} {later = later} {cursor = cursor} count pages out same ready =
    let run = run_of cursor.list.run in
    record {
      run = run_kept count ready.run;
      width = ready.width;
      list = ready.list;
      at = ready.at;
      stands = stands_kept ready.at ready.list pages ready.stands;
      page = let P : Option ℕ → Type 0 = λ value. IfSome value (IsPageOf run) in subst P (sym same.filled) ready.page;
      buffer =
          can_read_kept out same
          (some_then {P = IsPageOf run} {Q = λ number. told ≡ true → now.page number ≡ before.page number} (page_at pool cursor.lease)
          (λ number of_run. λ is_told.
          ap (λ n. now.page n) of_run.is ∙ pages is_told of_run.place of_run.within ∙ ap (λ n. before.page n) (sym of_run.is))
          ready.page)
          ready.buffer;
    }

pub ready_beside :
    {told : Bool} {before now : Device} {pool later : Pool} {cursor : RunCursor} {other : ℕ} → KeepsPages before now
    → ChangesPage pool later other → cursor.lease ≢ other → IsReady told before pool cursor → IsReady told now later cursor
ready_beside {cursor = cursor} kept changes apart ready =
    ready_kept kept.page_count (λ is_told i within. ap (λ f. f (page_of (run_of cursor.list.run) i)) kept.page)
    (out_kept (change_keeps_out changes) ready.buffer.out) (change_elsewhere changes apart) ready

-- the identifiers of a list stay where the pages of its run stay
pub ids_kept :
    (page now : ℕ → List ℕ) (cursor : RunCursor) → cursor.list.first + cursor.list.count ≤ cursor.list.run.count
    → ((i : ℕ) → i < cursor.list.run.count → now (page_of (run_of cursor.list.run) i) ≡ page (page_of (run_of cursor.list.run) i))
    → ids_left now cursor ≡ ids_left page cursor
ids_kept page now cursor within same = ids_left_kept page now cursor within same

-- the pages of a run stay where only pages behind it changed, or only pages before it
pub pages_kept_below :
    {before now : Device} {low high : ℕ} (run : Run) → ChangesOnly low high before now → 0 < per_page run.width → run_end run ≤ low
    → (i : ℕ) → i < run.count → now.page (page_of run i) ≡ before.page (page_of run i)
pages_kept_below run changes some behind i within =
    (changes.below (page_of run i) (omega (arith, place_in_run i run.count (per_page run.width) some within))).bytes

pub pages_kept_above :
    {before now : Device} {low high : ℕ} (run : Run) → ChangesOnly low high before now → high ≤ run.first
    → (i : ℕ) → i < run.count → now.page (page_of run i) ≡ before.page (page_of run i)
pages_kept_above run changes behind i within = (changes.above (page_of run i) (omega arith)).bytes

some_fit : (i pages n : ℕ) → i < pages * n → 0 < n
some_fit i pages zero below = absurd (omega (arith, below))
some_fit i pages (suc n) below = omega arith

-- what was put stays where the pages written so far and the buffer stay
pub writing_kept :
    {told : Bool} {page now : ℕ → List ℕ} {bytes later : List ℕ} {first width pages held : ℕ} {records : List (List ℕ)}
    → (told ≡ true → (number : ℕ) → first ≤ number → number < first + pages → now number ≡ page number) → later ≡ bytes
    → IsWriting told page bytes first width pages held records → IsWriting told now later first width pages held records
writing_kept {now = now} {first = first} {width = width} {pages = pages} {held = held} same same_bytes was = record {
  count = was.count;
  written = λ told i within.
      ap (λ b. cell_in b width (i % per_page width))
      (same told (first + i / per_page width) (omega arith)
      (omega (arith, div_below i (per_page width) pages (some_fit i pages (per_page width) within) within)))
      ∙ was.written told i within;
  written_rest = λ told place within. ap (λ b. drop (per_page width * width) b) (same told (first + place) (omega arith) (omega arith)) ∙ was.written_rest told place within;
  buffered = λ slot below. ap (λ b. cell_in b width slot) same_bytes ∙ was.buffered slot below;
  rest = λ some. ap (λ b. drop (held * width) b) same_bytes ∙ was.rest some;
}

pub put_kept :
    {told : Bool} {page now : ℕ → List ℕ} {pool later : Pool} {records : List (List ℕ)} (writer : RunWriter)
    → (told ≡ true → (number : ℕ) → writer.filler.first ≤ number → number < next_page writer.filler → now number ≡ page number)
    → SameBuffer pool later writer.lease → HasPut told page pool writer records → HasPut told now later writer records
put_kept writer same buffer was = writing_kept same buffer.bytes was

-- a page may be written where what is left of its block stays blank
pub can_write_kept :
    {before now : Device} {filler : RunFiller} → now.page_count ≡ before.page_count
    → ((number : ℕ) → next_page filler ≤ number → number ≤ next_page filler + 63 → now.blank number ≡ before.blank number)
    → CanWrite before filler → CanWrite now filler
can_write_kept {filler = filler} count blank can = record {
  page = record {
    in_range = omega (arith, count, can.page.in_range);
    blank = λ plain. blank (next_page filler) (omega arith) (omega arith) ∙ can.page.blank plain;
    entered = λ erases number from to. blank number from (omega arith) ∙ can.page.entered erases number from to;
  };
  small = omega (arith, count, can.small);
}
