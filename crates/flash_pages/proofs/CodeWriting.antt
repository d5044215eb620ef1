-- Codes that are written: stretches of writes one after another, and a byte more.
use Rattle.std.proofs.Common.{◌≡◌, ℕ, zero, suc, ◌+◌, ◌-◌, ◌*◌, ◌/◌, ◌%◌, ◌<◌, ◌≤◌, ◌++◌, ◌∷◌, [], ◌∙◌, ap, sym, subst, refl, Bool, true, false, if◌then◌else◌, List, length, take, drop, map, get_or, append_assoc, Result, Ok, Err, OnOk, OnErr, nat_eq, arith}
use Rattle.std.specs.List.{slice_range}
use Rattle.std.proofs.lemmas.Bool.Decides.{nat_tests}
use Rattle.std.proofs.lemmas.Nat.{div-mul-add}
use Rattle.std.proofs.lemmas.List.{length-map, map_push, take_more}
use Rattle.ghost_model.specs.core.Causes.{HasCause, Rose}
use Rattle.ghost_model.specs.forms.Runs.{pages_of}
use Rattle.ghost_model.specs.forms.Gaps.{filling, with_code}
use Rattle.edge_traits.specs.Devices.{Device, Counts, KeepsPages, ChangesOnly}
use Rattle.edge_traits.specs.declared.Failed.{Failed}
use Rattle.edge_traits.proofs.DeviceFrames.{changes_wider, changes_joined, changes_kept, counts_more, counts_none}
use Rattle.flash_pages.specs.declared.filler.RunFiller.{RunFiller}
use Rattle.flash_pages.specs.declared.code_filler.CodeFiller.{CodeFiller}
use Rattle.flash_pages.specs.Filling.{CanFill}
use Rattle.flash_pages.specs.Writing.{CanWritePage, reach, page_calls}
use Rattle.flash_pages.specs.Writers.{CanWrite, Writes, fills, next_page, put_calls, waits}
use Rattle.flash_pages.specs.CodeWriters.{CanPut, HasCodes, WritesUpTo, page_next}
use Rattle.flash_pages.proofs.RunFrames.{can_fill_kept, can_fill_part}
use Rattle.flash_pages.proofs.Fillings.{plain_reach, put_calls_plain, whole_pages, few_held}

-- some writes after others
rose_after : {a b c : ℕ} → a ≤ b → Rose b c → Rose a c
rose_after up rose = omega (arith, rose)

cause_after : {T : Type 0} {a b c : ℕ} (result : Result T Failed) → b ≡ a → HasCause b c result → HasCause a c result
cause_after {c = c} result same cause = subst (λ n. HasCause n c result) same cause

exact_after :
    {T : Type 0} {first a b : ℕ} (second c : ℕ) (result : Result T Failed) → Counts first a b → OnOk result (Counts second b c)
    → OnOk result (Counts (first + second) a c)
exact_after second c (Ok x) ab bc = counts_more ab bc
exact_after second c (Err e) ab bc = tt

called_after : {T : Type 0} {a b : ℕ} (c : ℕ) (result : Result T Failed) → a ≤ b → OnErr result (Rose b c) → OnErr result (Rose a c)
called_after c (Ok x) up rose = tt
called_after c (Err e) up rose = rose_after up rose

pub writes_after :
    {T U : Type 0} {x : T} {low middle high first second : ℕ} {a b c : Device} (result : Result U Failed) → low ≤ middle → middle ≤ high
    → Writes {T = T} a b low middle first (Ok x) → Writes b c middle high second result → Writes a c low high (first + second) result
writes_after {second = second} {a = a} {b = b} {c = c} result down up ab bc = record {
  others = changes_joined down up ab.others bc.others;
  exact = exact_after second c.calls result ab.exact bc.exact;
  at_most = omega (arith, ab.at_most, bc.at_most);
  deep_reads = bc.deep_reads ∙ ab.deep_reads;
  cause = cause_after result ab.cause.other bc.cause;
  last = bc.last;
  called = called_after c.calls result ab.others.never_falls bc.called;
}

-- none yet
pub writes_none : {T : Type 0} (x : T) (device : Device) (page : ℕ) → ChangesOnly page page device device → Writes device device page page 0 (Ok x)
writes_none x device page same = record {
  others = same;
  exact = counts_none device.calls;
  at_most = omega arith;
  deep_reads = refl;
  cause = record { never_falls = omega arith; failed = tt; other = refl };
  last = tt;
  called = tt;
}

-- a failure, among more pages that were to be written
pub writes_fail :
    {T U : Type 0} {low high calls : ℕ} {a b : Device} (e : Failed) → Writes {T = T} a b low high calls (Err e)
    → (lower higher more : ℕ) → lower ≤ low → high ≤ higher → calls ≤ more → Writes {T = U} a b lower higher more (Err e)
writes_fail e writes lower higher more down up few = record {
  others = changes_wider writes.others lower higher down up;
  exact = tt;
  at_most = omega (arith, writes.at_most);
  deep_reads = writes.deep_reads;
  cause = record { never_falls = writes.cause.never_falls; failed = writes.cause.failed; other = tt };
  last = writes.last;
  called = writes.called;
}

-- the same with another answer
pub writes_answer :
    {T U : Type 0} {x : T} {low high calls : ℕ} {a b : Device} (y : U) → Writes {T = T} a b low high calls (Ok x) → Writes a b low high calls (Ok y)
writes_answer y writes = record {
  others = writes.others;
  exact = writes.exact;
  at_most = writes.at_most;
  deep_reads = writes.deep_reads;
  cause = record { never_falls = writes.cause.never_falls; failed = tt; other = writes.cause.other };
  last = tt;
  called = tt;
}

-- under equations
pub writes_as :
    {T : Type 0} {low high calls begin end count : ℕ} {a b : Device} (result : Result T Failed) → low ≡ begin → high ≡ end → calls ≡ count
    → Writes a b low high calls result → Writes a b begin end count result
writes_as {high = high} {calls = calls} {begin = begin} {end = end} {a = a} {b = b} result l h c writes =
    subst (λ n. Writes a b begin end n result) c (subst (λ n. Writes a b begin n calls result) h (subst (λ n. Writes a b n high calls result) l writes))

-- the pages between two places of a file
pub pages_rise : (from to : ℕ) → from ≤ to → from / 2048 ≤ to / 2048
pages_rise from to up = omega arith

-- blank pages for the next stretch
pub can_after :
    {before now : Device} {x : ℕ} (old codes : CodeFiller) (middle end : ℕ) → codes.filler.first ≡ old.filler.first → codes.filler.count ≡ middle
    → old.filler.count ≤ middle → middle ≤ end → CanPut before old end → WritesUpTo before now old (middle / 2048) (Ok x) → CanPut now codes end
can_after old codes middle end first at low high can writes =
    can_fill_kept writes.others (omega (arith, first, at))
    (can_fill_part can _ _ (omega (arith, first, at)) (omega (arith, first, at)))

-- a filler of single bytes: its whole pages and the bytes in the buffer
module _ (codes : CodeFiller) where
  pub whole : codes.filler.pages * 2048 + codes.filler.held ≡ codes.filler.count
  whole = whole_pages codes.filler 1 codes.filler.count codes.bytes refl

  pub few : codes.filler.held < 2048
  few = few_held codes.filler 1 codes.bytes

  pub pages_are : codes.filler.count / 2048 ≡ codes.filler.pages
  pages_are = ap (λ n. n / 2048) (sym whole) ∙ div-mul-add codes.filler.pages 2048 codes.filler.held few

  pub next_is : page_next codes ≡ next_page codes.filler
  next_is = ap (λ n. codes.filler.first + n) pages_are

-- whether one byte more fills the page
fills_is : (filler : RunFiller) → filler.width ≡ 1 → fills filler ≡ nat_eq (filler.held + 1) 2048
fills_is filler width = ap (λ w. nat_eq (filler.held + 1) (2048 / w)) width

one_more_page : (pages held : ℕ) → held < 2048 → (pages * 2048 + held + 1) / 2048 ≡ pages + (if nat_eq (held + 1) 2048 then 1 else 0)
one_more_page pages held most = grind (arith, nat_tests)

next_page_is :
    (codes : CodeFiller) → (codes.filler.count + 1) / 2048 ≡ codes.filler.pages + (if fills codes.filler then 1 else 0)
next_page_is codes =
    ap (λ n. (n + 1) / 2048) (sym (whole codes)) ∙ one_more_page codes.filler.pages codes.filler.held (few codes)
    ∙ ap (λ b. codes.filler.pages + (if b then 1 else 0)) (sym (fills_is codes.filler codes.bytes))

byte_others :
    {b c : Device} (fill : Bool) (page more high : ℕ) → ChangesOnly page high b c → high ≡ page + 1 → (fill ≡ false → KeepsPages b c)
    → more ≡ page + (if fill then 1 else 0) → ChangesOnly page more b c
byte_others true page more high others end kept is = changes_wider others page more (omega arith) (omega (arith, end, is))
byte_others false page more high others end kept is = changes_kept (kept refl) page more

calls_as : {T : Type 0} {n more : ℕ} (before now : ℕ) (result : Result T Failed) → n ≡ more → OnOk result (Counts n before now) → OnOk result (Counts more before now)
calls_as before now result same exact = subst (λ k. OnOk result (Counts k before now)) same exact

-- what one more byte writes
pub byte_writes :
    {T : Type 0} {before now : Device} (codes : CodeFiller) (result : Result T Failed) → (fills codes.filler ≡ false → KeepsPages before now)
    → ChangesOnly (next_page codes.filler) (reach (next_page codes.filler) codes.filler.erase) before now
    → OnOk result (Counts (put_calls codes.filler) before.calls now.calls) → now.calls ≤ before.calls + put_calls codes.filler
    → now.deep_reads ≡ before.deep_reads → HasCause before.faults now.faults result → OnErr result (now.since_fault ≡ 0)
    → OnErr result (Rose before.calls now.calls)
    → Writes before now (page_next codes) (codes.filler.first + (codes.filler.count + 1) / 2048) ((codes.filler.count + 1) / 2048 - codes.filler.count / 2048) result
byte_writes {before = before} {now = now} codes result kept others exact at_most deep_reads cause last called =
    let filler = codes.filler in
    let more = next_page_is codes in
    let here = pages_are codes in
    let calls : put_calls filler ≡ (filler.count + 1) / 2048 - filler.count / 2048 =
    omega (arith, put_calls_plain filler codes.plain, more, here) in
    writes_as {calls = (filler.count + 1) / 2048 - filler.count / 2048} result (sym (next_is codes)) refl refl
    (record {
      others =
          byte_others (fills filler) (next_page filler) (filler.first + (filler.count + 1) / 2048) (reach (next_page filler) filler.erase) others
          (plain_reach (next_page filler) filler.erase codes.plain) kept (omega (arith, more));
      exact = calls_as before.calls now.calls result calls exact;
      at_most = omega (arith, at_most, calls);
      deep_reads = deep_reads;
      cause = cause;
      last = last;
      called = called;
    })

-- so many bytes were put
pub length_put :
    {told : Bool} {page : ℕ → List ℕ} {buf : List ℕ} (codes : CodeFiller) (bytes : List ℕ) → HasCodes told page buf codes bytes
    → length bytes ≡ codes.filler.count
length_put codes bytes has = sym (length-map bytes (λ byte. byte ∷ [])) ∙ sym has.count ∙ sym codes.filler.counted

-- one more byte of some
one_byte : (bytes : List ℕ) (i : ℕ) → i < length bytes → slice_range bytes i (i + 1) ≡ get_or bytes i 0 ∷ []
one_byte bytes i low =
    let size : i + 1 - i ≡ 1 = omega arith in
    ap (λ n. take n (drop i bytes)) size ∙ head_of bytes i low
  where
    head_of : (bytes : List ℕ) (i : ℕ) → i < length bytes → take 1 (drop i bytes) ≡ get_or bytes i 0 ∷ []
    head_of [] i low = absurd (omega arith)
    head_of (byte ∷ bytes) zero low = refl
    head_of (byte ∷ bytes) (suc i) low = head_of bytes i (omega arith)

pub bytes_more :
    (before bytes : List ℕ) (i : ℕ) → i < length bytes
    → map (λ byte. byte ∷ []) (before ++ take i bytes) ++ slice_range bytes i (i + 1) ∷ [] ≡ map (λ byte. byte ∷ []) (before ++ take (i + 1) bytes)
bytes_more before bytes i low =
    ap (λ cell. map (λ byte. byte ∷ []) (before ++ take i bytes) ++ cell ∷ []) (one_byte bytes i low)
    ∙ sym (map_push (λ byte. byte ∷ []) (before ++ take i bytes) (get_or bytes i 0))
    ∙ ap (λ bs. map (λ byte. byte ∷ []) bs) (append_assoc before (take i bytes) (get_or bytes i 0 ∷ []) ∙ ap (λ bs. before ++ bs) (sym (take_more bytes i 0 low)))

-- a code with what fills the page before it
pub code_put :
    (bytes : List ℕ) (end : ℕ) (put code : List ℕ) → put ≡ code → length bytes ≡ end → bytes ++ (filling end put ++ put) ≡ with_code bytes code
code_put bytes end put code same at = λ i. bytes ++ (filling (sym at i) (same i) ++ same i)
