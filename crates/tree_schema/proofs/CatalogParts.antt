-- Bytes that begin with a catalog have its parts.
use Rattle.std.proofs.Common.{◌≡◌, ℕ, ◌≤◌, true, List, ◌++◌, length, ap, ◌∙◌, append_assoc, arith, Option, Some, None, unwrap_or, if◌then◌else◌}
use Rattle.ghost_model.specs.core.Channel.{Catalog}
use Rattle.ghost_model.specs.forms.Catalog.{canonical_text, is_version, catalog_head, counts_bytes, catalog_bytes, BeginsWithCatalog}
use Rattle.tree_schema.specs.CatalogParts.{HasParts}
use Rattle.tree_schema.specs.Views.{version_of}
use Rattle.tree_schema.specs.declared.version.Version.{Version}
use Rattle.tree_schema.proofs.CatalogLengths.{text_is_short}

regrouped : (head text counts rest : List ℕ) → (head ++ (text ++ counts)) ++ rest ≡ head ++ (text ++ (counts ++ rest))
regrouped head text counts rest = append_assoc head (text ++ counts) rest ∙ ap (λ (xs : List ℕ). head ++ xs) (append_assoc text counts rest)

pub has_parts : (bytes : List ℕ) (cat : Catalog) (front : BeginsWithCatalog bytes cat) → length (catalog_bytes cat) ≤ 16640
    → HasParts bytes cat.version cat.generation (canonical_text cat.schema) (counts_bytes cat.counts ++ front.rest)
has_parts bytes cat front short =
    let text = canonical_text cat.schema in
    record {
      whole = front.begins ∙ regrouped (catalog_head cat.version cat.generation (length text)) text (counts_bytes cat.counts) front.rest;
      some_version = front.proper.some_version;
      generation_fits = front.proper.generation_fits;
      text_fits = omega (arith, text_is_short cat front.proper.counted short);
    }

-- the version of a number that is one
abbrev numbered : ℕ → Option ℕ
numbered number = if is_version number then Some number else None

is_numbered : (number version : ℕ) → number ≡ version → is_version version ≡ true → numbered number ≡ Some version
is_numbered number version e known = ap numbered e ∙ ap (λ b. if b then Some version else None) known

pub version_told : (found : Version) (number version : ℕ) → number ≡ version → is_version version ≡ true
    → Some (version_of found) ≡ numbered number → version_of found ≡ version
version_told found number version e known h = ap (λ o. unwrap_or o version) (h ∙ is_numbered number version e known)
