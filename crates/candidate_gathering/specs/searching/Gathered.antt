-- Candidates by terms that are taken in one after another: the rows of the top table that meet those so far.
use Rattle.std.specs.Prelude.{◌≡◌, ◌↔◌, ℕ, ◌+◌, ⊤, true, List, length, take}
use Rattle.ghost_model.specs.core.Values.{Database}
use Rattle.ghost_model.specs.core.Channel.{Catalog}
use Rattle.ghost_model.specs.core.Replies as replies
use Rattle.ghost_model.specs.forms.Layout.{count_of}
use Rattle.ghost_base.specs.declared.runs.ListRef.{ListRef}
use Rattle.climbing_index.specs.declared.search.Group.{Group}
use Rattle.id_merge.specs.declared.merge.Merge.{Merge}
use Rattle.id_merge.specs.Merges.{Remains}
use Rattle.spill_pass.specs.Lists.{InList}
use Rattle.spill_pass.specs.PassContents.{InLists}
use Rattle.candidate_lists.specs.declared.candidates.Candidates.{Candidates}
use Rattle.candidate_lists.specs.Held.{Has, HasOf, InRanges, IsCandidate, over}
use Rattle.flash_layout.specs.Ranges.{IsRowOf}
use Rattle.condition_lists.specs.declared.term.GroupTerm.{GroupTerm}
use Rattle.condition_lists.specs.declared.term.Term.{Term}
use Rattle.condition_lists.specs.declared.term.Term.TheVariants.{Ranges}
use Rattle.condition_lists.specs.Laws.{IsMet}
use Rattle.condition_lists.specs.Terms.{IsAloneAt, meets_all}
use Rattle.candidate_gathering.specs.searching.Begun.{EndsBy}

-- a row of the top table that meets the terms before a place
pub record MeetsFirst (cat : Catalog) (database : Database) (given : List replies.Reply) (top : ℕ) (terms : List GroupTerm) (at identifier : ℕ) : Type 0 where
  pub row : IsRowOf cat top identifier
  pub met : meets_all cat.schema database given top identifier (take at terms) ≡ true

-- by right pages, a merge that is not run yet has exactly these rows
abbrev pub IsGathered : (whole : ℕ → List ℕ) → Catalog → Database → List replies.Reply → (top : ℕ) → List GroupTerm → (at : ℕ) → Merge → Type 0
IsGathered whole cat database given top terms at merge =
    (identifier : ℕ) → Remains whole merge identifier ↔ MeetsFirst cat database given top terms at identifier

-- the two ranges of identifiers of two groups of entries
abbrev pub InGroups : (first second : Group) → (identifier : ℕ) → Type 0
InGroups first second identifier =
    InRanges (first.first + 1) (first.first + first.count) (second.first + 1) (second.first + second.count) identifier

pub record CandidatesAreGathered : Type 0 where
  -- before any term all rows are candidates
  pub all :
      (page whole : ℕ → List ℕ) (cat : Catalog) (database : Database) (given : List replies.Reply) (top : ℕ) (terms : List GroupTerm) (candidates : Candidates)
      → candidates.rows ≡ count_of cat top → HasOf page whole candidates (λ identifier. ⊤)
      → IsGathered whole cat database given top terms 0 candidates.merge
  -- a term of the top table's identifiers is taken in by two ranges
  pub ranges :
      (page whole : ℕ → List ℕ) (cat : Catalog) (database : Database) (given : List replies.Reply) (top : ℕ) (terms : List GroupTerm) (at : ℕ) (old new : Candidates)
      → (first second : Group) → IsAloneAt terms at (Ranges first second) → EndsBy (count_of cat top) first → EndsBy (count_of cat top) second
      → new.rows ≡ count_of cat top → IsGathered whole cat database given top terms at old.merge
      → HasOf page whole new (λ identifier. IsCandidate whole old identifier × InGroups first second identifier)
      → IsGathered whole cat database given top terms (at + 1) new.merge
  -- one that is a list has it as a union
  pub list :
      (page whole : ℕ → List ℕ) (cat : Catalog) (database : Database) (given : List replies.Reply) (top : ℕ) (terms : List GroupTerm) (at : ℕ) (old new : Candidates)
      → (term : Term) → IsAloneAt terms at term
      → (list : ListRef) → ((identifier : ℕ) → InList whole list identifier ↔ IsMet cat database given top term identifier)
      → new.rows ≡ count_of cat top → IsGathered whole cat database given top terms at old.merge
      → HasOf page whole new (λ identifier. IsCandidate whole old identifier × InList whole list identifier)
      → IsGathered whole cat database given top terms (at + 1) new.merge
  -- and one that is many lists has their union, beside what the merge had before, by the pages that were right then
  pub lists :
      (page whole then : ℕ → List ℕ) (cat : Catalog) (database : Database) (given : List replies.Reply) (top : ℕ) (terms : List GroupTerm) (at : ℕ) (first : Merge) (new : Candidates)
      → (term : Term) → IsAloneAt terms at term
      → (ids : List (List ℕ)) → ((identifier : ℕ) → InLists ids identifier ↔ IsMet cat database given top term identifier)
      → new.rows ≡ count_of cat top → IsGathered then cat database given top terms at first
      → HasOf page whole new (λ identifier. Remains then first identifier × InLists ids identifier)
      → IsGathered whole cat database given top terms (at + 1) new.merge
  -- candidates that were written as one list are the same
  pub closed :
      (right page then : ℕ → List ℕ) (low : ℕ) (cat : Catalog) (database : Database) (given : List replies.Reply) (top : ℕ) (terms : List GroupTerm) (at : ℕ) (first : Merge) (new : Candidates)
      → new.rows ≡ count_of cat top → IsGathered then cat database given top terms at first
      → Has right low page new (Remains then first)
      → IsGathered (over right page low) cat database given top terms at new.merge
  -- at the end they are the rows that meet all terms
  pub ended :
      (whole : ℕ → List ℕ) (cat : Catalog) (database : Database) (given : List replies.Reply) (top : ℕ) (terms : List GroupTerm) (merge : Merge)
      → IsGathered whole cat database given top terms (length terms) merge
      → (identifier : ℕ) → IsRowOf cat top identifier
      → Remains whole merge identifier ↔ (meets_all cat.schema database given top identifier terms ≡ true)
