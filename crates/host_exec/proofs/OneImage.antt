-- Bytes are the visible image of one public part at most.
use Rattle.std.proofs.Common.{◌≡◌, ℕ, suc, true, List, [], ◌∷◌, ◌++◌, length, map, drop, flat_map, Some, ap, ap₂, sym, refl, ◌∙◌, arith, append_assoc}
use Rattle.std.specs.Cmp.{first_so, second_so}
use Rattle.std.proofs.lemmas.List.{length-map}
use Rattle.ghost_model.specs.core.Schema.{Schema, Kind}
use Rattle.ghost_model.specs.core.Values.{Value, Row, Rows}
use Rattle.ghost_model.specs.forms.Cells.{encode_cell}
use Rattle.ghost_model.specs.readings.CellReading.{decode_cell}
use Rattle.ghost_model.specs.forms.Catalog.{catalog_bytes}
use Rattle.ghost_model.specs.core.Database.{is_of_kind}
use Rattle.ghost_model.specs.core.Channel.{Catalog}
use Rattle.ghost_model.specs.core.Split.{Public, cells, are_of_kinds, visible_kinds, cells_of_tables, SpellsImage}
use Rattle.ghost_model.proofs.ChannelLemmas.Asks.{cell_length, cell_is_read}
use Rattle.host_exec.proofs.ImageTables.{AreKinds, HaveKinds}

-- two lists with as long beginnings
record Halves {X : Type 0} (front other_front back other_back : List X) : Type 0 where
  fronts : front ≡ other_front
  backs : back ≡ other_back

halves : {X : Type 0} (front other_front back other_back : List X) → length front ≡ length other_front → front ++ back ≡ other_front ++ other_back
    → Halves front other_front back other_back
halves [] [] back other_back long same = record { fronts = refl; backs = same }
halves [] (y ∷ other_front) back other_back long same = absurd (omega (arith, long))
halves (x ∷ front) [] back other_back long same = absurd (omega (arith, long))
halves {X} (x ∷ front) (y ∷ other_front) back other_back long same =
    let later = halves front other_front back other_back (omega (arith, long)) (ap (drop 1) same) in
    let first : x ≡ y = cc in
    record { fronts = ap₂ (λ (z : X) (zs : List X). z ∷ zs) first later.fronts; backs = later.backs }

some_same : (one other : Value) → Some one ≡ Some other → one ≡ other
some_same one other same = cc

one_value : (kind : Kind) (one other : Value) (back other_back : List ℕ) → is_of_kind kind one ≡ true → is_of_kind kind other ≡ true
    → encode_cell kind one ++ back ≡ encode_cell kind other ++ other_back → (one ≡ other) × (back ≡ other_back)
one_value kind one other back other_back fits also same =
    let both = halves (encode_cell kind one) (encode_cell kind other) back other_back (cell_length kind one fits ∙ sym (cell_length kind other also)) same in
    (some_same one other (sym (cell_is_read kind one fits) ∙ (ap (decode_cell kind) both.fronts ∙ cell_is_read kind other also)), both.backs)

one_row : (kinds : List Kind) (one other : Row) (back other_back : List ℕ) → are_of_kinds kinds one ≡ true → are_of_kinds kinds other ≡ true
    → cells kinds one ++ back ≡ cells kinds other ++ other_back → (one ≡ other) × (back ≡ other_back)
one_row [] [] [] back other_back fits also same = (refl, same)
one_row [] [] (v ∷ other) back other_back fits also same = cc
one_row [] (v ∷ one) other back other_back fits also same = cc
one_row (kind ∷ kinds) [] other back other_back fits also same = cc
one_row (kind ∷ kinds) (v ∷ one) [] back other_back fits also same = cc
one_row (kind ∷ kinds) (v ∷ one) (w ∷ other) back other_back fits also same =
    let joined : encode_cell kind v ++ (cells kinds one ++ back) ≡ encode_cell kind w ++ (cells kinds other ++ other_back) =
    sym (append_assoc (encode_cell kind v) (cells kinds one) back) ∙ (same ∙ append_assoc (encode_cell kind w) (cells kinds other) other_back) in
    let first = one_value kind v w (cells kinds one ++ back) (cells kinds other ++ other_back) (first_so (is_of_kind kind v) _ fits) (first_so (is_of_kind kind w) _ also) joined in
    let later = one_row kinds one other back other_back (second_so (is_of_kind kind v) _ fits) (second_so (is_of_kind kind w) _ also) first.1 in
    (ap₂ (λ (x : Value) (xs : Row). x ∷ xs) first.0 later.0, later.1)

one_table : (kinds : List Kind) (one other : Rows) (back other_back : List ℕ) → length one ≡ length other → AreKinds kinds one → AreKinds kinds other
    → flat_map (cells kinds) one ++ back ≡ flat_map (cells kinds) other ++ other_back → (one ≡ other) × (back ≡ other_back)
one_table kinds [] [] back other_back long fits also same = (refl, same)
one_table kinds [] (r ∷ other) back other_back long fits also same = absurd (omega (arith, long))
one_table kinds (r ∷ one) [] back other_back long fits also same = absurd (omega (arith, long))
one_table kinds (r ∷ one) (s ∷ other) back other_back long fits also same =
    let joined : cells kinds r ++ (flat_map (cells kinds) one ++ back) ≡ cells kinds s ++ (flat_map (cells kinds) other ++ other_back) =
    sym (append_assoc (cells kinds r) (flat_map (cells kinds) one) back) ∙ (same ∙ append_assoc (cells kinds s) (flat_map (cells kinds) other) other_back) in
    let first = one_row kinds r s (flat_map (cells kinds) one ++ back) (flat_map (cells kinds) other ++ other_back) (fits 0 r refl) (also 0 s refl) joined in
    let later = one_table kinds one other back other_back (omega (arith, long)) (λ place row h. fits (suc place) row h) (λ place row h. also (suc place) row h) first.1 in
    (ap₂ (λ (x : Row) (xs : Rows). x ∷ xs) first.0 later.0, later.1)

first_count : (one other : Rows) (visible shown : List Rows) → map length (one ∷ visible) ≡ map length (other ∷ shown) → length one ≡ length other
first_count one other visible shown same = cc

all_tables : (schema : Schema) (visible shown : List Rows) → length visible ≡ length schema → map length visible ≡ map length shown → HaveKinds schema visible → HaveKinds schema shown
    → cells_of_tables schema visible ≡ cells_of_tables schema shown → visible ≡ shown
all_tables schema [] [] many counts fits also same = refl
all_tables schema [] (other ∷ shown) many counts fits also same = cc
all_tables schema (one ∷ visible) [] many counts fits also same = cc
all_tables [] (one ∷ visible) (other ∷ shown) many counts fits also same = absurd (omega (arith, many))
all_tables (declared ∷ schema) (one ∷ visible) (other ∷ shown) many counts fits also same =
    let first = one_table (visible_kinds declared) one other (cells_of_tables schema visible) (cells_of_tables schema shown) (first_count one other visible shown counts)
    (λ place row h. fits 0 place declared row refl h) (λ place row h. also 0 place declared row refl h) same in
    let later = all_tables schema visible shown (omega (arith, many)) (ap (drop 1) counts) (λ t p d r h g. fits (suc t) p d r h g) (λ t p d r h g. also (suc t) p d r h g) first.1 in
    ap₂ (λ (x : Rows) (xs : List Rows). x ∷ xs) first.0 later

pub one_image : (cat : Catalog) (one other : Public) (file : List ℕ) → SpellsImage cat one file → SpellsImage cat other file → one ≡ other
one_image cat one other file spells also =
    let joined : catalog_bytes cat ++ cells_of_tables cat.schema one.visible ≡ catalog_bytes cat ++ cells_of_tables cat.schema other.visible = sym spells.spelled ∙ also.spelled in
    let back = (halves (catalog_bytes cat) (catalog_bytes cat) (cells_of_tables cat.schema one.visible) (cells_of_tables cat.schema other.visible) refl joined).backs in
    let many : length one.visible ≡ length cat.schema = sym (length-map one.visible length) ∙ (ap length spells.goes_with.counted ∙ spells.catalog.counted) in
    let same = all_tables cat.schema one.visible other.visible many (spells.goes_with.counted ∙ sym also.goes_with.counted) spells.goes_with.kinds also.goes_with.kinds back in
    let made : List Rows → Public = λ rows. record { visible = rows } in
    ap made same
