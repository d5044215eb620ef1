-- Bytes spell at most one catalog, and at most one catalog's bytes begin them: the head has a fixed length and says how
-- long the text is, the text means one schema, and the schema says how many counts follow.
use Rattle.std.proofs.Common.{◌≡◌, ℕ, ◌*◌, ◌<◌, ◌≤◌, ◌^◌, nat_le, true, List, [], ◌∷◌, ◌++◌, length, take, drop, slice_index, refl, sym, ap, ◌∙◌, subst, append_assoc, append-nil, arith}
use Rattle.std.specs.List.{list_all}
use Rattle.std.specs.Int.{to_be_bytes, from_be_bytes, w32}
use Rattle.std.proofs.lemmas.Bool.{and_parts, leb-true}
use Rattle.std.proofs.lemmas.Nat.{from_be_bytes-to_be_bytes_4}
use Rattle.ghost_model.specs.core.Schema.{Schema}
use Rattle.ghost_model.specs.core.Channel.{Catalog}
use Rattle.ghost_model.specs.refusals.LoadFaults.{most_rows}
use Rattle.ghost_model.specs.refusals.SchemaFaults.{MeansSchema}
use Rattle.ghost_model.specs.forms.Catalog.{canonical_text, catalog_head, counts_bytes, catalog_bytes, IsCatalog}
use Rattle.ghost_model.specs.laws.CatalogLaws.{CatalogsHaveOneSpelling}
use Rattle.ghost_model.proofs.SchemaTreeLemmas.{schemas_are_trees}
use Rattle.ghost_model.proofs.SchemaRuleLemmas.{one_schema}
use Rattle.ghost_model.proofs.CatalogLengthLemmas.{canonical_length, counts_length}

-- lists that are equal have equal fronts of one length, and equal rests
same_front : (a b x y : List ℕ) → length a ≡ length b → a ++ x ≡ b ++ y → (a ≡ b) × (x ≡ y)
same_front [] [] x y n e = (refl, e)
same_front [] (q ∷ b) x y n e = absurd (omega arith)
same_front (p ∷ a) [] x y n e = absurd (omega arith)
same_front (p ∷ a) (q ∷ b) x y n e =
    let first : p ≡ q = cc in
    let later : a ++ x ≡ b ++ y = cc in
    let r = same_front a b x y (omega arith) later in
    (ap (λ c. c ∷ a) first ∙ ap (λ (c : List ℕ). q ∷ c) r.0, r.1)

generation_in : (version generation size : ℕ) → generation < 2 ^ 32 → from_be_bytes w32 (take 4 (drop 8 (catalog_head version generation size))) ≡ generation
generation_in version generation size h = from_be_bytes-to_be_bytes_4 generation h

version_in : (version generation size : ℕ) → slice_index (catalog_head version generation size) 7 ≡ version
version_in version generation size = refl

size_in : (version generation size : ℕ) → size < 2 ^ 32 → from_be_bytes w32 (take 4 (drop 12 (catalog_head version generation size))) ≡ size
size_in version generation size h = from_be_bytes-to_be_bytes_4 size h

-- numbers of four bytes are told apart by them
same_number : (n m : ℕ) → n < 2 ^ 32 → m < 2 ^ 32 → to_be_bytes w32 n ≡ to_be_bytes w32 m → n ≡ m
same_number n m h k e = sym (from_be_bytes-to_be_bytes_4 n h) ∙ (ap (from_be_bytes w32) e ∙ from_be_bytes-to_be_bytes_4 m k)

few_rows : (n : ℕ) → nat_le n most_rows ≡ true → n < 2 ^ 32
few_rows n e = let h : n ≤ most_rows = leb-true n most_rows e in omega (arith, h)

same_counts : (some other : List ℕ) → list_all (λ count. nat_le count most_rows) some ≡ true → list_all (λ count. nat_le count most_rows) other ≡ true
    → length some ≡ length other → counts_bytes some ≡ counts_bytes other → some ≡ other
same_counts [] [] p q n e = refl
same_counts [] (d ∷ other) p q n e = absurd (omega arith)
same_counts (c ∷ some) [] p q n e = absurd (omega arith)
same_counts (c ∷ some) (d ∷ other) p q n e =
    let few = and_parts (nat_le c most_rows) (list_all (λ count. nat_le count most_rows) some) p in
    let too = and_parts (nat_le d most_rows) (list_all (λ count. nat_le count most_rows) other) q in
    let parts = same_front (to_be_bytes w32 c) (to_be_bytes w32 d) (counts_bytes some) (counts_bytes other) refl e in
    ap (λ x. x ∷ some) (same_number c d (few_rows c few.0) (few_rows d too.0) parts.0)
    ∙ ap (λ (xs : List ℕ). d ∷ xs) (same_counts some other few.1 too.1 (omega arith) parts.1)

regrouped : (head text counts rest : List ℕ) → (head ++ (text ++ counts)) ++ rest ≡ head ++ (text ++ (counts ++ rest))
regrouped head text counts rest = simp append_assoc

one_front : (cat other : Catalog) (rest more : List ℕ) → IsCatalog cat → IsCatalog other → catalog_bytes cat ++ rest ≡ catalog_bytes other ++ more
    → (cat ≡ other) × (rest ≡ more)
one_front cat other rest more p q e =
    let text = canonical_text cat.schema in
    let text_too = canonical_text other.schema in
    let head = catalog_head cat.version cat.generation (length text) in
    let head_too = catalog_head other.version other.generation (length text_too) in
    let short : length text ≤ 16548 = canonical_length cat.schema (schemas_are_trees text cat.schema p.meant) in
    let short_too : length text_too ≤ 16548 = canonical_length other.schema (schemas_are_trees text_too other.schema q.meant) in
    let heads = same_front head head_too (text ++ (counts_bytes cat.counts ++ rest)) (text_too ++ (counts_bytes other.counts ++ more)) refl
    (sym (regrouped head text (counts_bytes cat.counts) rest) ∙ (e ∙ regrouped head_too text_too (counts_bytes other.counts) more)) in
    let generation : cat.generation ≡ other.generation =
    sym (generation_in cat.version cat.generation (length text) p.generation_fits)
    ∙ (ap (λ (bytes : List ℕ). from_be_bytes w32 (take 4 (drop 8 bytes))) heads.0 ∙ generation_in other.version other.generation (length text_too) q.generation_fits) in
    let version : cat.version ≡ other.version =
    sym (version_in cat.version cat.generation (length text))
    ∙ (ap (λ (bytes : List ℕ). slice_index bytes 7) heads.0 ∙ version_in other.version other.generation (length text_too)) in
    let size : length text ≡ length text_too =
    sym (size_in cat.version cat.generation (length text) (omega (arith, short)))
    ∙ (ap (λ (bytes : List ℕ). from_be_bytes w32 (take 4 (drop 12 bytes))) heads.0 ∙ size_in other.version other.generation (length text_too) (omega (arith, short_too))) in
    let texts = same_front text text_too (counts_bytes cat.counts ++ rest) (counts_bytes other.counts ++ more) size heads.1 in
    let schema : cat.schema ≡ other.schema =
    one_schema.one_schema text cat.schema other.schema p.meant (subst (λ (t : List ℕ). MeansSchema t other.schema) (sym texts.0) q.meant) in
    let number : length cat.counts ≡ length other.counts = p.counted ∙ (ap (λ (s : Schema). length s) schema ∙ sym q.counted) in
    let counted : length (counts_bytes cat.counts) ≡ length (counts_bytes other.counts) =
    counts_length cat.counts ∙ (ap (λ n. 4 * n) number ∙ sym (counts_length other.counts)) in
    let counts = same_front (counts_bytes cat.counts) (counts_bytes other.counts) rest more counted texts.1 in
    let count : cat.counts ≡ other.counts = same_counts cat.counts other.counts p.few_rows q.few_rows number counts.0 in (
      ap (λ (s : Schema). record cat { schema = s }) schema
          ∙ (ap (λ (c : List ℕ). record cat { schema = other.schema; counts = c }) count
          ∙ (ap (λ (n : ℕ). record cat { schema = other.schema; counts = other.counts; generation = n }) generation
          ∙ ap (λ (v : ℕ). record other { version = v }) version)),
      counts.1,
    )

pub catalogs_have_one_spelling : CatalogsHaveOneSpelling
catalogs_have_one_spelling = record {
  one_catalog = λ bytes cat other first second.
      (one_front cat other [] [] first.proper second.proper
      (append-nil (catalog_bytes cat) ∙ (sym first.spelled ∙ (second.spelled ∙ sym (append-nil (catalog_bytes other)))))).0;
  one_beginning = λ bytes cat other first second.
      one_front cat other first.rest second.rest first.proper second.proper (sym first.begins ∙ second.begins);
}
