use Rattle.std.proofs.Common.{◌≡◌, ◌++◌, List, length, get_or, take, drop, ap, ◌∙◌}
use Rattle.std.specs.Int.{from_be_bytes, to_be_bytes, w32}
use Rattle.std.proofs.lemmas.Nat.{from_be_bytes-to_be_bytes_4}
use Rattle.std.proofs.Math.Seq.{take-append_seam, drop-append_seam}
use Rattle.ghost_model.specs.forms.Catalog.{catalog_head}
use Rattle.tree_schema.proofs.CatalogParts.{version_told}
use Rattle.tree_schema.proofs.catalog_reading.parts_of.Goals as goal

pub returns : goal.returns
returns c = record {
  only = λ version generation text later h.
      let head : c.split_at.result.0.now ≡ catalog_head version generation (length text) = c.split_at.ensures.front ∙ ap (take 16) h.whole in
      let body : c.split_at.result.1.now ≡ text ++ later = c.split_at.ensures.back ∙ ap (drop 16) h.whole in
      let numbers : c.split_at-2.result.1.now ≡ to_be_bytes w32 generation ++ to_be_bytes w32 (length text) = c.split_at-2.ensures.back ∙ ap (drop 8) head in
      let number : c.split_at-3.result.0.now ≡ to_be_bytes w32 generation = c.split_at-3.ensures.front ∙ ap (take 4) numbers in
      let size : c.split_at-3.result.1.now ≡ to_be_bytes w32 (length text) = c.split_at-3.ensures.back ∙ ap (drop 4) numbers in
      let count : c.number_of-text_len.result ≡ length text =
      c.number_of-text_len.ensures.value ∙ (ap (from_be_bytes w32) size ∙ from_be_bytes-to_be_bytes_4 (length text) h.text_fits) in
      record {
        same_version = version_told c.in-Some.version _ version (ap (λ (bytes : List _). get_or bytes 7 0) head) h.some_version c.in-Some.ensures;
        same_generation = c.number_of.ensures.value ∙ (ap (from_be_bytes w32) number ∙ from_be_bytes-to_be_bytes_4 generation h.generation_fits);
        same_text = c.split_at-4.ensures.front ∙ (ap (λ (bytes : List _). take c.number_of-text_len.result bytes) body
            ∙ (ap (λ n. take n (text ++ later)) count ∙ take-append_seam text later));
        same_later = c.split_at-4.ensures.back ∙ (ap (λ (bytes : List _). drop c.number_of-text_len.result bytes) body
            ∙ (ap (λ n. drop n (text ++ later)) count ∙ drop-append_seam text later));
      };
}
