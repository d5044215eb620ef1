-- What the journal's file and the depot's counts come to after a session.
use Rattle.std.proofs.Common.{◌≡◌, ℕ, Bool, true, false, List, [], Option, None, Some, refl, sym, ap, ◌∙◌}
use Rattle.std.specs.FinMap as finite
use Rattle.ghost_model.specs.core.Causes.{Rose}
use Rattle.ghost_model.specs.core.Channel.{Journal}
use Rattle.ghost_model.specs.core.Moves.{lines}
use Rattle.ghost_model.specs.core.NextMove.{IsFinished}
use Rattle.edge_traits.specs.Files.{Files, or_empty}
use Rattle.edge_traits.specs.Written.{grown}
use Rattle.local_links.specs.Journaling.{Log, told_file}
use Rattle.local_links.specs.Keeping.{Writes}
use Rattle.key_commands.specs.local.Running.{KeepsLines}
use Rattle.key_commands.specs.local.Sessions.{HasLines, SameBesides}
use Rattle.key_commands.proofs.local_lemmas.Journals.{some_lines, is_there}

not_so : (b : Bool) → (b ≡ true → ⊥) → b ≡ false
not_so true never = absurd (never refl)
not_so false never = refl

pub lines_kept : (name : Option (List ℕ)) (journal : Journal) (before after : Log) → Writes name (lines journal) before after → before.failed ≡ false
    → (Rose before.append_faults after.append_faults → ⊥) → KeepsLines before.contents after.contents name journal
lines_kept None journal before after wrote going calm = tt
lines_kept (Some name) journal before after wrote going calm =
    wrote.grew (not_so after.failed (λ failed. calm (wrote.appends_rose going failed)))

pub lines_written : (name : Option (List ℕ)) (journal : Journal) (before after : Log) → Writes name (lines journal) before after → after.failed ≡ false
    → KeepsLines before.contents after.contents name journal
lines_written None journal before after wrote fine = tt
lines_written (Some name) journal before after wrote fine = wrote.grew fine

pub besides_kept : (name : Option (List ℕ)) (text : List ℕ) (before after : Log) → Writes name text before after → SameBesides name before.contents after.contents
besides_kept None text before after wrote = ap (λ (l : Log). l.contents) wrote
besides_kept (Some name) text before after wrote = wrote.others

-- two such changes are one
pub besides_joined : (name : Option (List ℕ)) (before between after : Option Files) → SameBesides name before between → SameBesides name between after → SameBesides name before after
besides_joined None before between after one other = other ∙ one
besides_joined (Some name) before between after one other =
    record { told = other.told ∙ one.told; others = λ file differs. other.others file differs ∙ one.others file differs }

false_is_not : false ≡ true → ⊥
false_is_not e = cc

failed_none : (before after : Log) {P : Type 0} → after ≡ before → before.failed ≡ false → after.failed ≡ true → P
failed_none before after same going failed = absurd (false_is_not (sym going ∙ (sym (ap (λ (l : Log). l.failed) same) ∙ failed)))

pub depot_rose : (name : Option (List ℕ)) (text : List ℕ) (before after : Log) → Writes name text before after → before.failed ≡ false → after.failed ≡ true
    → Rose before.faults after.faults
depot_rose None text before after wrote going failed = failed_none before after wrote going failed
depot_rose (Some name) text before after wrote going failed = wrote.rose going failed

pub append_rose : (name : Option (List ℕ)) (text : List ℕ) (before after : Log) → Writes name text before after → before.failed ≡ false → after.failed ≡ true
    → Rose before.append_faults after.append_faults
append_rose None text before after wrote going failed = failed_none before after wrote going failed
append_rose (Some name) text before after wrote going failed = wrote.appends_rose going failed

pub depot_same : (name : Option (List ℕ)) (text : List ℕ) (before after : Log) → Writes name text before after → after.failed ≡ false → after.faults ≡ before.faults
depot_same None text before after wrote fine = ap (λ (l : Log). l.faults) wrote
depot_same (Some name) text before after wrote fine = wrote.same fine

pub append_same : (name : Option (List ℕ)) (text : List ℕ) (before after : Log) → Writes name text before after → after.failed ≡ false
    → after.append_faults ≡ before.append_faults
append_same None text before after wrote fine = ap (λ (l : Log). l.append_faults) wrote
append_same (Some name) text before after wrote fine = wrote.appends_same fine

some_is : (a b : List ℕ) → Some a ≡ Some b → a ≡ b
some_is a b e = cc

-- a file that was empty has the lines
pub lines_there : (name : Option (List ℕ)) (journal : Journal) (before after : Option Files) → IsFinished journal → HasLines before name []
    → KeepsLines before after name journal → HasLines after name journal
lines_there None journal before after finished empty keeps = tt
lines_there (Some name) journal before None finished empty keeps = tt
lines_there (Some name) journal None (Some files) finished empty keeps = absurd (let bad : ⊥ = cc in bad)
lines_there (Some name) journal (Some held) (Some files) finished empty keeps =
    let was : told_file (Some held) name ≡ Some [] = ap (λ (found : Option (List ℕ)). Some (or_empty found)) empty in
    let is : told_file (Some files) name ≡ Some (lines journal) = keeps ∙ ap (λ (told : Option (List ℕ)). grown told (lines journal)) was in
    is_there (finite.get files name) (lines journal) (some_lines journal finished) (some_is _ _ is)
