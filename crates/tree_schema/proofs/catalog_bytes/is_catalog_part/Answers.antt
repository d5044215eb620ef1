use Rattle.std.proofs.Common.{◌≡◌, ℕ, ◌+◌, List, ◌&&◌, ◌++◌, length, take, drop, sym, ap, ◌∙◌, bytes_eq}
use Rattle.std.proofs.lemmas.List.{take-append-drop}
use Rattle.ghost_model.specs.forms.Catalog.{catalog_bytes}
use Rattle.tree_schema.proofs.PartEquality.{piece_by_piece}
use Rattle.tree_schema.proofs.catalog_bytes.is_catalog_part.Goals as goal

joins : (rest piece later : List ℕ) (n : ℕ) → piece ≡ take n rest → later ≡ drop n rest → rest ≡ piece ++ later
joins rest piece later n h k =
    sym (take-append-drop n rest) ∙ (ap (λ (front : List ℕ). front ++ drop n rest) (sym h) ∙ ap (λ (back : List ℕ). piece ++ back) (sym k))

pub returns-then-not-is_page_of_catalog : goal.returns-then-not-is_page_of_catalog
returns-then-not-is_page_of_catalog c =
    let text = catalog_bytes c.args.cat.now in
    let piece = c.split_at.result.0.now in
    let later = c.split_at.result.1.now in
    let whole = piece_by_piece c.loop-rest.rest.now piece later text c.loop-rest.at (joins c.loop-rest.rest.now piece later c.min.result c.split_at.ensures.front c.split_at.ensures.back) in
    let others = bytes_eq later (take (length later) (drop (c.loop-rest.at + length piece) text)) in
    record { same = sym (c.loop-rest.invariant ∙ (whole ∙ ap (λ b. b && others) (sym c.is_page_of_catalog.ensures.same ∙ c.if-not-is_page_of_catalog.true))) }

pub loop-rest-preserved : goal.loop-rest-preserved
loop-rest-preserved c =
    let text = catalog_bytes c.args.cat.now in
    let piece = c.split_at.result.0.now in
    let later = c.split_at.result.1.now in
    let whole = piece_by_piece c.loop-rest.rest.now piece later text c.loop-rest.at (joins c.loop-rest.rest.now piece later c.min.result c.split_at.ensures.front c.split_at.ensures.back) in
    let others = bytes_eq later (take (length later) (drop (c.loop-rest.at + length piece) text)) in
    c.loop-rest.invariant ∙ (whole ∙ ap (λ b. b && others) (sym c.is_page_of_catalog.ensures.same ∙ c.if-not-is_page_of_catalog.false))
