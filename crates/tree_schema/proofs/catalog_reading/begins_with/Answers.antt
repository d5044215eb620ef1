use Rattle.std.proofs.Common.{◌≡◌, ℕ, true, false, List, ◌++◌, length, take, drop, sym, ap, ◌∙◌, bytes_eq}
use Rattle.std.proofs.lemmas.List.{take-append-drop}
use Rattle.std.proofs.lemmas.Slice.Eq.{bytes_eq-Decides}
use Rattle.std.proofs.Math.Seq.{take-length, take-append_seam}
use Rattle.ghost_model.specs.forms.Catalog.{catalog_bytes}
use Rattle.tree_schema.proofs.catalog_reading.begins_with.Goals as goal

whole : (front text : List ℕ) → length front ≡ length text → take (length front) (drop 0 text) ≡ text
whole front text e = ap (λ n. take n text) e ∙ take-length text

begins : (bytes front text : List ℕ) (n : ℕ) → front ≡ take n bytes → length front ≡ length text → bytes_eq front (take (length front) (drop 0 text)) ≡ true
    → bytes ≡ text ++ drop n bytes
begins bytes front text n h same e =
    let equal : front ≡ text = (bytes_eq-Decides front (take (length front) (drop 0 text))).0 e ∙ whole front text same in
    sym (take-append-drop n bytes) ∙ ap (λ (xs : List ℕ). xs ++ drop n bytes) (sym h ∙ equal)

differs : (bytes front text rest : List ℕ) (n : ℕ) → front ≡ take n bytes → n ≡ length text → length front ≡ length text
    → bytes_eq front (take (length front) (drop 0 text)) ≡ false → bytes ≡ text ++ rest → ⊥
differs bytes front text rest n h count same e k =
    let equal : front ≡ text = h ∙ (ap (take n) k ∙ (ap (λ m. take m (text ++ rest)) count ∙ take-append_seam text rest)) in
    let found : bytes_eq front (take (length front) (drop 0 text)) ≡ true =
    (bytes_eq-Decides front (take (length front) (drop 0 text))).1 (equal ∙ sym (whole front text same)) in
    cc

pub returns-clause-yes : goal.returns-clause-yes
returns-clause-yes c = λ e.
    let text = catalog_bytes c.args.cat.now in
    let n = c.catalog_len-count.result in
    (drop n c.args.bytes.now, begins c.args.bytes.now c.split_at.result.0.now text n c.split_at.ensures.front (c.split_at.ensures.front_len ∙ c.catalog_len-count.ensures.value) (sym c.is_catalog_part.ensures.same ∙ e))

pub returns-clause-no : goal.returns-clause-no
returns-clause-no c = λ e rest k.
    let text = catalog_bytes c.args.cat.now in
    let n = c.catalog_len-count.result in
    differs c.args.bytes.now c.split_at.result.0.now text rest n c.split_at.ensures.front c.catalog_len-count.ensures.value (c.split_at.ensures.front_len ∙ c.catalog_len-count.ensures.value) (sym c.is_catalog_part.ensures.same ∙ e) k
