-- A merge that is put together: one lease more is out for each list, and its buffer holds no page.
use Rattle.std.proofs.Common.{◌≡◌, ◌∙◌, ℕ, zero, suc, ◌+◌, ◌*◌, ◌/◌, ◌<◌, ◌≤◌, Bool, true, false, List, [], ◌∷◌, ◌++◌, sum, get_or, slice_set, Option, None, ap, sym, refl, subst, arith}
use Rattle.std.specs.Prelude.{IfSome}
use Rattle.std.proofs.lemmas.List.{append-nil, get_or-set_other}
use Rattle.std.proofs.lemmas.List.Sums.{sum_by-append, sum_by-cons}
use Rattle.ghost_base.specs.declared.runs.ListRef.{ListRef}
use Rattle.ghost_base.specs.declared.runs.Run.{Run}
use Rattle.ghost_base.specs.Runs.{run_of}
use Rattle.edge_traits.specs.Devices.{Device}
use Rattle.page_pool.specs.Pools.{Pool, IsOut, IsFree, AreOut, leased, given, bytes_at}
use Rattle.page_pool.specs.Laws.{SameBuffer}
use Rattle.page_pool.proofs.Marks.{free_not_out}
use Rattle.page_pool.proofs.Leases.{lease_outs, outs_from_front, outs_first}
use Rattle.flash_pages.specs.declared.cursor.RunCursor.{RunCursor}
use Rattle.flash_pages.specs.Cursors.{IsReady, IsListWidth, IsPageOf}
use Rattle.flash_pages.specs.Runs.{HasRun}
use Rattle.flash_pages.proofs.LeaseFrames.{ready_kept}
use Rattle.flash_pages.proofs.ListFrames.{stands_at_begin}
use Rattle.id_merge.specs.declared.cursor.Cursor.{Cursor}
use Rattle.id_merge.specs.declared.cursor.Cursor.TheVariants.{List as OfList, Range}
use Rattle.id_merge.specs.Cursors.{AllReady, CursorReady, cursor_at, leases_of}
use Rattle.id_merge.proofs.Laws.{ready_list}

-- a buffer that was out is as it was
same_leased : (pool : Pool) (lease other : ℕ) → IsFree pool lease → IsOut pool other → SameBuffer pool (leased pool lease) other
same_leased pool lease other free out = record {
  bytes = refl;
  filled =
      get_or-set_other pool.filled lease other None None
      (λ same. let P : ℕ → Type 0 = λ k. get_or pool.out k false ≡ true in free_not_out pool.out lease free.free (subst P same out.out));
}

still_leased : (pool : Pool) (lease other : ℕ) → IsFree pool lease → IsOut pool other → IsOut (leased pool lease) other
still_leased pool lease other free out = record {
  within = out.within;
  out =
      get_or-set_other pool.out lease other true false
      (λ same. let P : ℕ → Type 0 = λ k. get_or pool.out k false ≡ true in free_not_out pool.out lease free.free (subst P same out.out))
      ∙ out.out;
}

-- the new one holds no page
none_held : (filled : List (Option ℕ)) (i : ℕ) → get_or (slice_set filled i None) i None ≡ None
none_held [] zero = refl
none_held [] (suc i) = refl
none_held (page ∷ filled) zero = refl
none_held (page ∷ filled) (suc i) = none_held filled i

still_ready : (device : Device) (pool : Pool) (lease : ℕ) (cursor : Cursor) → IsFree pool lease → CursorReady true device pool cursor → CursorReady true device (leased pool lease) cursor
still_ready device pool lease (OfList run) free ready =
    ready_kept refl (λ is_told i within. refl) (still_leased pool lease run.lease free ready.buffer.out) (same_leased pool lease run.lease free ready.buffer.out) ready
still_ready device pool lease (Range low high) free ready = tt

begun_ready :
    (device : Device) (pool : Pool) (list : ListRef) (run : RunCursor) → run.list ≡ list → run.at ≡ 0 → run.place ≡ list.first → run.last ≡ 0 → HasRun device (run_of list.run)
    → IsListWidth list.run.width
    → list.first + list.count ≤ list.run.count → IsFree pool run.lease → IsReady true device (leased pool run.lease) run
begun_ready device pool list run list_is at_is place_is last_is there width within free =
    let lease = run.lease in
    let none = none_held pool.filled lease in
    let P : ListRef → Type 0 = λ l. HasRun device (run_of l.run) in
    let W : ListRef → Type 0 = λ l. IsListWidth l.run.width in
    let I : ListRef → Type 0 = λ l. l.first + l.count ≤ l.run.count in
    let H : Option ℕ → Type 0 = λ page. IfSome page (IsPageOf (run_of run.list.run)) in
    let F : Option ℕ → Type 0 = λ page. IfSome page (λ number. true ≡ true → bytes_at (leased pool lease) lease ≡ device.page number) in
    record {
      run = subst P (sym list_is) there;
      width = subst W (sym list_is) width;
      list = subst I (sym list_is) within;
      at = omega (arith, at_is);
      stands = stands_at_begin at_is (place_is ∙ ap (λ (l : ListRef). l.first) (sym list_is)) last_is (subst I (sym list_is) within);
      page = subst H (sym none) tt;
      buffer = record { out = (lease_outs pool lease [] refl free tt).0; filled = subst F (sym none) tt };
    }

pub list_ready :
    {device : Device} {pool later : Pool} (cursors : List Cursor) (list : ListRef) (run : RunCursor) → run.list ≡ list → run.at ≡ 0
    → run.place ≡ list.first → run.last ≡ 0 → later ≡ leased pool run.lease → IsFree pool run.lease → HasRun device (run_of list.run)
    → IsListWidth list.run.width → list.first + list.count ≤ list.run.count
    → AllReady true device pool cursors → AllReady true device later (cursors ++ OfList run ∷ [])
list_ready {device = device} {pool = pool} {later = later} cursors list run list_is at_is place_is last_is is free there width within ready =
    let lease = run.lease in
    let held = leases_of cursors in
    let R : Pool → Type 0 = λ p. AllReady true device p (cursors ++ OfList run ∷ []) in
    let Q : List ℕ → Type 0 = λ ls. AreOut (leased pool lease) (lease ∷ ls) in
    let front = lease_outs pool lease held refl free ready.leases in
    let out = outs_from_front (leased pool lease) held lease [] (subst Q (sym (append-nil held)) front) in
    subst R (sym is)
    (ready_list cursors run
    (record { each = λ i. still_ready device pool lease (cursor_at cursors i) free (ready.each i); leases = outs_first (leased pool lease) held (lease ∷ []) out })
    (begun_ready device pool list run list_is at_is place_is last_is there width within free) out)

none_at : (device : Device) (pool : Pool) (i : ℕ) → CursorReady true device pool (cursor_at [] i)
none_at device pool zero = tt
none_at device pool (suc i) = tt

-- no cursor yet
pub none_ready : (device : Device) (pool : Pool) → AllReady true device pool []
none_ready device pool = record { each = λ i. none_at device pool i; leases = tt }

-- a union of so many cursors more
pub pushed_sum : (us : List ℕ) (x : ℕ) → sum (us ++ x ∷ []) ≡ sum us + x
pushed_sum us x = omega (arith, sum_by-append (λ k. k) us (x ∷ []), sum_by-cons (λ k. k) x [])

-- a device with numbers has the bytes of them
pub has_bytes :
    (device : Device) (run : Run) → run.width ≡ 4 → HasRun device (run_of run)
    → HasRun device (record { first = run.first; count = 4 * run.count; width = 1 })
has_bytes device run width there =
    let P : ℕ → Type 0 = λ w. (i : ℕ) → i < run.count → run.first + i / (2048 / w) < device.page_count in
    let pages : (i : ℕ) → i < run.count → run.first + i / 512 < device.page_count = subst P width there.pages in
    record {
      some = omega arith;
      fits = omega arith;
      pages = λ i within. omega (arith, pages (i / 4) (omega (arith, within)));
      small = there.small;
    }
