-- Lists that are taken from an index have what they have by right pages of that index alone.
use Rattle.std.proofs.Common.{◌≡◌, ◌∙◌, ap, sym, subst, ℕ, ◌+◌, ◌<◌, ◌≤◌, Bool, true, false, nat_lt, if◌then◌else◌, refl, List, [], ◌∷◌, drop, arith}
use Rattle.std.proofs.lemmas.Bool.{lt-ltb, ltb-false, ltb-true}
use Rattle.std.proofs.lemmas.Bool.Decides.{nat_tests}
use Rattle.ghost_model.specs.forms.Runs.{page_of}
use Rattle.ghost_base.specs.declared.runs.Run.{Run}
use Rattle.ghost_base.specs.declared.runs.ListRef.{ListRef}
use Rattle.ghost_base.specs.Runs.{run_of}
use Rattle.flash_pages.proofs.ListFrames.{KeepsRun, listed_kept}
use Rattle.flash_pages.proofs.RunFrames.{record_kept}
use Rattle.climbing_index.specs.declared.directory.Directory.{Directory}
use Rattle.climbing_index.specs.Directories.{GivesPlace, entry_bytes}
use Rattle.spill_pass.specs.Lists.{IsOrdered, id_of}
use Rattle.entry_lists.specs.Entries as entries
use Rattle.entry_lists.specs.Entries.{HasEntry, HaveEntries, is_in, level_run}
use Rattle.entry_lists.specs.Replied as replied
use Rattle.entry_lists.proofs.EntryPages.{either, in_run, other}
use Rattle.candidate_lists.specs.Held.{over}
use Rattle.candidate_gathering.specs.declared.searching.term_lists.TermLists.{TermLists}
use Rattle.candidate_gathering.specs.declared.searching.term_lists.TermLists.TheVariants.{Entries, Replies}
use Rattle.candidate_gathering.specs.searching.Sets.{index_uses}
use Rattle.candidate_gathering.specs.searching.TermLists.{has_in}

module _ (page right now : ℕ → List ℕ) (rows : ℕ) (directory : Directory) (level : ℕ)
    (same_entries : (entry : ℕ) → entry < directory.run.count → now (page_of (run_of directory.run) entry) ≡ right (page_of (run_of directory.run) entry))
    (same_lists : (i : ℕ) → i < (level_run directory level).count → now (page_of (run_of (level_run directory level)) i) ≡ right (page_of (run_of (level_run directory level)) i)) where
  id_same : (list : ListRef) → list.run ≡ level_run directory level → list.first + list.count ≤ list.run.count → (i : ℕ) → i < list.count
      → id_of now list i ≡ id_of right list i
  id_same list run_is inside i within =
      let K : Run → Type 0 = λ r. KeepsRun right now (run_of r) in
      listed_kept right now (run_of list.run) list.first i (omega (arith, inside, within)) (subst K (sym run_is) same_lists)

  ordered_by : (list : ListRef) → list.run ≡ level_run directory level → list.first + list.count ≤ list.run.count → IsOrdered page right rows list
      → IsOrdered page now rows list
  ordered_by list run_is inside ordered =
      let at = id_same list run_is inside in
      record {
        above = λ i within. omega (arith, at i within, ordered.above i within);
        order = λ i j less within. omega (arith, at i (omega (arith, less, within)), at j within, ordered.order i j less within);
        within = λ i within. omega (arith, at i within, ordered.within i within);
        same = λ i within some most. ordered.same i within some most ∙ sym (at i within);
      }

  entry_by : (entry : ℕ) (ids : List ℕ) → HasEntry page right rows directory level entry ids → HasEntry page now rows directory level entry ids
  entry_by entry ids has =
      let bytes : entry_bytes now directory entry ≡ entry_bytes right directory entry =
      record_kept right now (run_of directory.run) entry (same_entries entry has.within) in
      record {
        within = has.within;
        list = has.list;
        lies = has.lies;
        place = subst (λ at. GivesPlace directory at level has.list) (sym bytes) has.place;
        same = λ stands. has.same stands ∙ sym bytes;
        ordered = ordered_by has.list has.lies.run_is has.lies.inside has.ordered;
        count = has.count;
        ids_are = λ i within. id_same has.list has.lies.run_is has.lies.inside i within ∙ has.ids_are i within;
      }

  pub entries_by : (entries : List ℕ) (ids : List (List ℕ)) → HaveEntries page right rows directory level entries ids
      → HaveEntries page now rows directory level entries ids
  entries_by [] [] have = tt
  entries_by [] (first ∷ rest) have = absurd have
  entries_by (entry ∷ entries) [] have = absurd have
  entries_by (entry ∷ entries) (first ∷ rest) have = (entry_by entry first have.0, entries_by entries rest have.1)

-- pages below `low` are the right ones
pub over_below : (right page : ℕ → List ℕ) (low number : ℕ) → number < low → over right page low number ≡ right number
over_below right page low number less = ap (λ b. if b then right number else page number) (lt-ltb number low less)

pub over_from : (right page : ℕ → List ℕ) (low number : ℕ) → low ≤ number → over right page low number ≡ page number
over_from right page low number from = ap (λ b. if b then right number else page number) (not_below from)
  where
    not_below : low ≤ number → nat_lt number low ≡ false
    not_below from = grind (arith, nat_tests)

pub has_over :
    (page right : ℕ → List ℕ) (low rows : ℕ) (lists : TermLists) (ids : List (List ℕ))
    → ((number : ℕ) → index_uses lists number ≡ true → number < low)
    → has_in page right rows lists ids → has_in page (over right page low) rows lists ids
has_over page right low rows (Entries lists) ids below has = record {
  some = has.some;
  fits = has.fits;
  have =
      entries_by page right (over right page low) rows lists.directory lists.level
      (λ entry within.
      let at = page_of (run_of lists.directory.run) entry in
      over_below right page low at
      (below at
      (either (is_in (run_of lists.directory.run) at) (is_in (run_of (level_run lists.directory lists.level)) at)
      (in_run (run_of lists.directory.run) entry has.some has.fits within))))
      (λ i within.
      let at = page_of (run_of (level_run lists.directory lists.level)) i in
      over_below right page low at
      (below at
      (other (is_in (run_of lists.directory.run) at) (is_in (run_of (level_run lists.directory lists.level)) at)
      (in_run (run_of (level_run lists.directory lists.level)) i (omega arith) (omega arith) within))))
      (entries.entries_of lists) ids has.have;
  few = has.few;
}
has_over page right low rows (Replies lists) ids below has = record {
  held = has.held;
  holds = has.holds;
  sound = has.sound;
  hand = has.hand;
  some = has.some;
  fits = has.fits;
  have =
      entries_by page right (over right page low) rows lists.directory lists.level
      (λ entry within.
      let at = page_of (run_of lists.directory.run) entry in
      over_below right page low at
      (below at
      (either (is_in (run_of lists.directory.run) at) (is_in (run_of (level_run lists.directory lists.level)) at)
      (in_run (run_of lists.directory.run) entry has.some has.fits within))))
      (λ i within.
      let at = page_of (run_of (level_run lists.directory lists.level)) i in
      over_below right page low at
      (below at
      (other (is_in (run_of lists.directory.run) at) (is_in (run_of (level_run lists.directory lists.level)) at)
      (in_run (run_of (level_run lists.directory lists.level)) i (omega arith) (omega arith) within))))
      (replied.entries_of (drop lists.given has.held)) ids has.have;
  few = has.few;
}

-- right pages over right pages
by_low : {A : Type 0} (low number : ℕ) → (number < low → A) → (low ≤ number → A) → A
by_low {A = A} low number less from = at (nat_lt number low) refl
  where
    at : (b : Bool) → nat_lt number low ≡ b → A
    at true is = less (ltb-true number low is)
    at false is = from (ltb-false number low is)

pub over_after :
    (right page now : ℕ → List ℕ) (low number : ℕ) → over (over right page low) now low number ≡ over right now low number
over_after right page now low number =
    by_low low number
    (λ less. over_below (over right page low) now low number less ∙ (over_below right page low number less ∙ sym (over_below right now low number less)))
    (λ from. over_from (over right page low) now low number from ∙ sym (over_from right now low number from))

pub over_twice : (right page : ℕ → List ℕ) (low number : ℕ) → over (over right page low) page low number ≡ over right page low number
over_twice right page low number = over_after right page page low number
