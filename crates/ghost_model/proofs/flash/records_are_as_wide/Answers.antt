use Rattle.std.proofs.Common.{◌≡◌, refl, ◌∙◌, ℕ, zero, suc, ◌+◌, ◌*◌, List, [], ◌∷◌, length, flat_map, replicate, get_or, unwrap_or, arith}
use Rattle.std.proofs.lemmas.List.{length-append}
use Rattle.ghost_model.specs.forms.Runs.{number_cell}
use Rattle.ghost_model.specs.forms.Layout.{count_of, levels_of, above_of, descendants_of}
use Rattle.ghost_model.specs.forms.Flash.{list_place, directory_record, value_lists, id_lists, leads_to}
use Rattle.ghost_model.proofs.flash.records_are_as_wide.Goals as goal

joined : (f : ℕ → List ℕ) (n : ℕ) → ((k : ℕ) → length (f k) ≡ n) → (ks : List ℕ) → length (flat_map f ks) ≡ n * length ks
joined f n wide [] = omega arith
joined f n wide (k ∷ ks) =
    let parts = length-append (f k) (flat_map f ks) in
    let here = wide k in
    let rest = joined f n wide ks in
    omega (arith, parts, here, rest)

-- a record of a directory has eight bytes for each level after the entry's own
of_entry : (heads : List (List ℕ)) (tables : List ℕ) (lists : ℕ → List (List ℕ)) (entry : ℕ) → length (directory_record heads tables lists entry) ≡ length (get_or heads entry []) + 8 * length tables
of_entry heads tables lists entry =
    let place = λ (table : ℕ). list_place (lists table) entry in
    let parts = length-append (get_or heads entry []) (flat_map place tables) in
    let places = joined place 8 (λ k. refl) tables in
    parts ∙ omega (arith, places)

nothing : List ℕ
nothing = []

no_bytes : (count entry : ℕ) → length (get_or (replicate count nothing) entry []) ≡ 0
unfolding nothing
no_bytes zero entry = refl
no_bytes (suc count) zero = refl
no_bytes (suc count) (suc entry) = no_bytes count entry

pub returns : goal.returns
unfolding nothing
returns c = record {
  subtree = λ cat hidden table identifier. joined (λ to. number_cell (unwrap_or (leads_to cat.schema hidden table identifier to) 0)) 4 (λ k. refl) (descendants_of cat.schema table);
  directory = λ cat hidden table column values entry wide.
      let width = of_entry values (levels_of cat.schema table) (value_lists cat hidden table column values) entry in
      omega (arith, wide, width);
  id_directory = λ cat hidden table entry.
      let width = of_entry (replicate (count_of cat table) nothing) (above_of cat.schema table) (id_lists cat hidden table) entry in
      let none = no_bytes (count_of cat table) entry in
      omega (arith, width, none);
  number = λ number. refl;
}
