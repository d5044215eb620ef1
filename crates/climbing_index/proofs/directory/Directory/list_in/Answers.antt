use Rattle.std.proofs.Common.{◌≡◌, ◌+◌, ◌*◌, ap, ◌∙◌, drop, take, List, get_or, arith}
use Rattle.std.proofs.lemmas.Bool.{and_parts}
use Rattle.std.proofs.lemmas.Option.{slice_get-get_or}
use Rattle.std.proofs.lemmas.List.{drop-drop}
use Rattle.ghost_model.specs.forms.Runs.{number_in}
use Rattle.ghost_model.specs.forms.Slots.{list_end}
use Rattle.climbing_index.specs.declared.directory.LevelFile.{LevelFile}
use Rattle.climbing_index.specs.Directories.{spells, are_places}
use Rattle.climbing_index.proofs.Entries.{ends_within, from_place}
use Rattle.climbing_index.proofs.directory.Directory.list_in.Goals as goal

pub returns-clause-within : goal.returns-clause-within
returns-clause-within c =
    let bytes = c.args.bytes.now in
    let directory = c.args.self.now in
    let level = c.args.level in
    let rest = from_place bytes (directory.cell + 8 * level) in
    let both = and_parts (spells directory.kind (take directory.cell bytes)) (are_places directory.levels.items (drop directory.cell bytes)) c.requires.stands in
    let at = directory.cell + 8 * level in
    let first : c.number_at.result ≡ number_in (drop at bytes) 0 = c.number_at.ensures ∙ ap (λ xs. number_in xs 0) rest in
    let count : c.number_at-2.result ≡ number_in (drop at bytes) 4 = c.number_at-2.ensures ∙ ap (λ xs. number_in xs 4) rest in
    let same = ap list_end (drop-drop (8 * level) directory.cell bytes) in
    let held = slice_get-get_or directory.levels.items level (record { first = 0; count = 0 }) c.requires.level in
    let within = ends_within directory.levels.items (drop directory.cell bytes) both.1 level _ held in
    let file = ap (λ r. r.count) c.run.ensures.run in
    let listed = ap (λ (xs : List LevelFile). (get_or xs level (record { first = 0; count = 0 })).count) c.deref.ensures.0 in
    omega (arith, first, count, same, within, file, listed)
