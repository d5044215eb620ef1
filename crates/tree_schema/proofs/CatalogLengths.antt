-- How long the bytes of a catalog are.
use Rattle.std.proofs.Common.{◌≡◌, ℕ, ◌+◌, ◌*◌, ◌≤◌, List, [], ◌∷◌, ◌++◌, length, refl, ap, ◌∙◌, length-append, arith}
use Rattle.std.specs.Int.{to_be_bytes, w32}
use Rattle.ghost_model.specs.core.Channel.{Catalog}
use Rattle.ghost_model.specs.forms.Catalog.{canonical_text, catalog_head, counts_bytes, catalog_bytes}

counts_length : (counts : List ℕ) → length (counts_bytes counts) ≡ 4 * length counts
counts_length [] = refl
counts_length (count ∷ counts) =
    let more : length (counts_bytes (count ∷ counts)) ≡ 4 + length (counts_bytes counts) = length-append (to_be_bytes w32 count) (counts_bytes counts) in
    omega (arith, more, counts_length counts)

parts_length : (head text counts : List ℕ) → length (head ++ (text ++ counts)) ≡ length head + (length text + length counts)
parts_length head text counts = length-append head (text ++ counts) ∙ ap (λ n. length head + n) (length-append text counts)

pub catalog_length : (cat : Catalog) → length cat.counts ≡ length cat.schema
    → length (catalog_bytes cat) ≡ 16 + length (canonical_text cat.schema) + 4 * length cat.schema
catalog_length cat e =
    let text = canonical_text cat.schema in
    let parts = parts_length (catalog_head cat.version cat.generation (length text)) text (counts_bytes cat.counts) in
    parts ∙ omega (arith, counts_length cat.counts, e)

pub text_is_short : (cat : Catalog) → length cat.counts ≡ length cat.schema → length (catalog_bytes cat) ≤ 16640
    → length (canonical_text cat.schema) ≤ 16624
text_is_short cat e h = omega (arith, catalog_length cat e, h)
