-- A journal that is kept, move by move.
use Rattle.std.proofs.Common.{◌≡◌, ℕ, Bool, true, false, ◌&&◌, List, [], ◌∷◌, ◌++◌, Option, None, Some, refl, sym, ◌∙◌, subst}
use Rattle.std.specs.List.{list_all}
use Rattle.std.proofs.lemmas.Grind.{flat_map-append}
use Rattle.ghost_model.specs.core.Channel.{Journal}
use Rattle.ghost_model.specs.core.Moves.{line, lines}
use Rattle.edge_traits.specs.Files.{Files}
use Rattle.local_links.specs.Journaling.{Log}
use Rattle.local_links.specs.Keeping.{is_short, is_within, log_of, named, Writes, Kept}
use Rattle.local_links.specs.declared.journaled.Journaled.{Journaled}
use Rattle.local_links.specs.Appending.{begins_at, goes_on_with}

writes_nothing : (name : Option (List ℕ)) (a : Log) → Writes name [] a a
writes_nothing None a = refl
writes_nothing (Some name) a = begins_at name a

writes_more : (name : Option (List ℕ)) (first second : List ℕ) (a b c : Log) → Writes name first a b → Writes name second b c → Writes name (first ++ second) a c
writes_more None first second a b c one other = other ∙ one
writes_more (Some name) first second a b c one other = goes_on_with name first second a b c one other

all_short : (first more : Journal) → list_all is_short (first ++ more) ≡ true → (list_all is_short first ≡ true) × (list_all is_short more ≡ true)
all_short [] more short = (refl, short)
all_short (made ∷ first) more short = by_first (is_short made) (all_short first more) short
  where
    by_first : (b : Bool) → (list_all is_short (first ++ more) ≡ true → (list_all is_short first ≡ true) × (list_all is_short more ≡ true)) → (b && list_all is_short (first ++ more)) ≡ true
        → ((b && list_all is_short first) ≡ true) × (list_all is_short more ≡ true)
    by_first true later short = later short
    by_first false later short = cc

all_within : (first more : Journal) → list_all is_within first ≡ true → list_all is_within more ≡ true → list_all is_within (first ++ more) ≡ true
all_within [] more one other = other
all_within (made ∷ first) more one other = by_first (is_within made) (λ inside. all_within first more inside other) one
  where
    by_first : (b : Bool) → (list_all is_within first ≡ true → list_all is_within (first ++ more) ≡ true) → (b && list_all is_within first) ≡ true → (b && list_all is_within (first ++ more)) ≡ true
    by_first true later inside = later inside
    by_first false later inside = cc

pub kept_stays : {L D : Type 0} (Went : L → Journal → L → Type 0) (contents : D → Option Files) (faults append_faults : D → ℕ) → ((link : L) → Went link [] link)
    → (link : Journaled L D) → Kept Went contents faults append_faults link [] link
kept_stays Went contents faults append_faults stays link = record {
  same_link = refl;
  same_depot = refl;
  same_name = refl;
  moved = stays link.link.now;
  within = refl;
  wrote = λ short. writes_nothing (named link) (log_of contents faults append_faults link);
}

pub kept_joins : {L D : Type 0} (Went : L → Journal → L → Type 0) (contents : D → Option Files) (faults append_faults : D → ℕ)
    → ((old between new : L) (first more : Journal) → Went old first between → Went between more new → Went old (first ++ more) new)
    → (old between new : Journaled L D) (first more : Journal) → Kept Went contents faults append_faults old first between → Kept Went contents faults append_faults between more new
    → Kept Went contents faults append_faults old (first ++ more) new
kept_joins Went contents faults append_faults joins old between new first more one other = record {
  same_link = other.same_link ∙ one.same_link;
  same_depot = other.same_depot ∙ one.same_depot;
  same_name = other.same_name ∙ one.same_name;
  moved = joins old.link.now between.link.now new.link.now first more one.moved other.moved;
  within = all_within first more one.within other.within;
  wrote = λ short.
      let both = all_short first more short in
      let later = subst (λ n. Writes n (lines more) (log_of contents faults append_faults between) (log_of contents faults append_faults new)) one.same_name (other.wrote both.1) in
      subst (λ text. Writes (named old) text (log_of contents faults append_faults old) (log_of contents faults append_faults new)) (sym (flat_map-append line first more))
      (writes_more (named old) (lines first) (lines more) _ _ _ (one.wrote both.0) later);
}
