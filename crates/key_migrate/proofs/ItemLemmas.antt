-- Items, and the columns that they name.
use Rattle.std.proofs.Common.{◌≡◌, ◌∙◌, ◌⊎◌, inl, inr, ◌<◌, ◌+◌, ◌==◌, ℕ, zero, suc, Bool, true, false, not, ◌||◌, ◌&&◌, true≢false, List, [], ◌∷◌, ◌++◌, length, map, take, drop, get_or, Option, Some, None, refl, ap, sym, subst, arith, if◌then◌else◌, length-append, add-one}
use Rattle.std.specs.Prelude.{option_map, slice_get}
use Rattle.std.specs.List.{list_any, position_or_len, before_first, after_first, fold}
use Rattle.std.proofs.lemmas.Bool.{eqb-true}
use Rattle.std.proofs.lemmas.List.Folds.{list_any_at}
use Rattle.std.proofs.lemmas.List.{take-append-le, take_more, length-take-le, map-append}
use Rattle.std.proofs.lemmas.List.Sums.{position_or_len_is, fold-append}
use Rattle.std.proofs.lemmas.Option.{slice_get_within, get_or_from_slice_get}
use Rattle.std.proofs.Math.Seq.{take-append_seam, drop-cons, take-length, drop-length}
use Rattle.ghost_model.specs.core.Channel.{Catalog}
use Rattle.ghost_model.specs.core.Query.{Field}
use Rattle.ghost_model.specs.core.Schema.{Schema}
use Rattle.ghost_model.specs.forms.Left.{is_same_field}
use Rattle.tree_schema.specs.Catalogs.{catalog_of_version}
use Rattle.tree_schema.specs.Nulls.{allowing, may_be_null, with_null}
use Rattle.key_migrate.specs.Fields.{AreFree, AreOfItems, AreTaken, IsFree, IsTaken, IsTakenBehind, catalog_with, with_fields}
use Rattle.key_migrate.proofs.Widening.{free_after}
use Rattle.key_migrate.specs.Items.{field_called, is_field, is_free_field, is_point, is_taken, item_field, names, refused_behind, refused_item, with_field}

-- whether a letter is among some

pub none_passes : (test : ℕ → Bool) (xs : List ℕ) → ((k : ℕ) → k < length xs → test (get_or xs k 0) ≡ false) → list_any test xs ≡ false
none_passes test [] fails = refl
none_passes test (x ∷ xs) fails =
    ap (λ b. b || list_any test xs) (fails 0 (omega arith)) ∙ none_passes test xs (λ k l. fails (suc k) (omega (arith, l)))

none_at : (test : ℕ → Bool) (xs : List ℕ) (k : ℕ) → list_any test xs ≡ false → k < length xs → test (get_or xs k 0) ≡ false
none_at test xs k none l = by (test (get_or xs k 0)) refl
  where
    by : (b : Bool) → test (get_or xs k 0) ≡ b → test (get_or xs k 0) ≡ false
    by true e = absurd (true≢false (sym (list_any_at test xs k 0 l e) ∙ none))
    by false e = e

pub some_passes : (test : ℕ → Bool) (xs : List ℕ) → position_or_len test xs < length xs → list_any test xs ≡ true
some_passes test xs less = by (list_any test xs) refl
  where
    by : (b : Bool) → list_any test xs ≡ b → list_any test xs ≡ true
    by true e = e
    by false e =
        let past : position_or_len test xs ≡ length xs =
        position_or_len_is test xs (length xs) 0 (omega arith) (λ k l. none_at test xs k e l) (λ l. absurd (omega (arith, l))) in
        absurd (omega (arith, past, less))

pub without_point : (schema : Schema) (item : List ℕ) → list_any is_point item ≡ false → item_field schema item ≡ None
without_point schema item none =
    ap (λ b. if b then field_called schema (before_first is_point item) (after_first is_point item) else None) none

pub with_point : (schema : Schema) (item : List ℕ) → list_any is_point item ≡ true
    → item_field schema item ≡ field_called schema (before_first is_point item) (after_first is_point item)
with_point schema item some =
    ap (λ b. if b then field_called schema (before_first is_point item) (after_first is_point item) else None) some

-- what is taken behind the columns that items name

pub any_map : {X Y : Type 0} (test : Y → Bool) (f : X → Y) (xs : List X) → list_any test (map f xs) ≡ list_any (λ x. test (f x)) xs
any_map test f [] = refl
any_map test f (x ∷ xs) = ap (λ b. test (f x) || b) (any_map test f xs)

among_items : (schema : Schema) (one : Field) (items : List (List ℕ)) (earlier : List Field) → AreOfItems schema items earlier
    → list_any (names schema one) items ≡ list_any (is_same_field one) earlier
among_items schema one items earlier are =
    sym (any_map (is_field one) (item_field schema) items)
    ∙ (ap (λ (named : List (Option Field)). list_any (is_field one) named) are ∙ any_map (is_field one) Some earlier)

taken_as : (schema : Schema) (earlier : List Field) (item : List ℕ) (one : Field) (items : List (List ℕ)) → item_field schema item ≡ Some one
    → AreOfItems schema items earlier
    → is_taken schema items item ≡ (may_be_null schema one.table one.column && not (list_any (is_same_field one) earlier))
taken_as schema earlier item one items is are =
    ap (is_free_field schema items) is
    ∙ ap (λ b. may_be_null schema one.table one.column && not b) (among_items schema one items earlier are)

pub is_taken_there : (schema : Schema) (earlier : List Field) (item : List ℕ) (one : Field) → item_field schema item ≡ Some one
    → may_be_null schema one.table one.column ≡ true → list_any (is_same_field one) earlier ≡ false → IsTaken schema earlier item one
is_taken_there schema earlier item one is may first = record {
  names = is;
  free = record { may = may; first = first };
  taken = record {
    each = λ items are.
        taken_as schema earlier item one items is are
        ∙ (ap (λ b. b && not (list_any (is_same_field one) earlier)) may ∙ ap not first);
  };
}

pub may_not : (schema : Schema) (earlier : List Field) (item : List ℕ) (one : Field) → item_field schema item ≡ Some one
    → may_be_null schema one.table one.column ≡ false → IsTakenBehind schema earlier item false
may_not schema earlier item one is may = record {
  each = λ items are. taken_as schema earlier item one items is are ∙ ap (λ b. b && not (list_any (is_same_field one) earlier)) may;
}

pub is_no_first : (schema : Schema) (earlier : List Field) (item : List ℕ) (one : Field) → item_field schema item ≡ Some one
    → may_be_null schema one.table one.column ≡ true → list_any (is_same_field one) earlier ≡ true → IsTakenBehind schema earlier item false
is_no_first schema earlier item one is may again = record {
  each = λ items are.
      taken_as schema earlier item one items is are
      ∙ (ap (λ b. b && not (list_any (is_same_field one) earlier)) may ∙ ap not again);
}

pub names_none : (schema : Schema) (earlier : List Field) (item : List ℕ) → item_field schema item ≡ None → IsTakenBehind schema earlier item false
names_none schema earlier item is = record { each = λ items are. ap (is_free_field schema items) is }

-- the items one after another

refused_step : (schema : Schema) (earlier items : List (List ℕ)) (item : List ℕ) → is_taken schema earlier item ≡ true
    → refused_behind schema earlier (item ∷ items) ≡ refused_behind schema (earlier ++ item ∷ []) items
unfolding refused_behind
refused_step schema earlier items item is =
    ap (λ b. if b then refused_behind schema (earlier ++ item ∷ []) items else Some (length earlier + 1)) is

refused_here : (schema : Schema) (earlier items : List (List ℕ)) (item : List ℕ) → is_taken schema earlier item ≡ false
    → refused_behind schema earlier (item ∷ items) ≡ Some (length earlier + 1)
unfolding refused_behind
refused_here schema earlier items item is =
    ap (λ b. if b then refused_behind schema (earlier ++ item ∷ []) items else Some (length earlier + 1)) is

pub refused_none : (schema : Schema) (earlier : List (List ℕ)) → refused_behind schema earlier [] ≡ None
unfolding refused_behind
refused_none schema earlier = refl

-- the first items are taken and name these columns, and the others are still to be tested
pub record AreSoFar (schema : Schema) (items : List (List ℕ)) (place : ℕ) (fields : List Field) : Type 0 where
  pub count : length fields ≡ place
  pub named : AreOfItems schema (take place items) fields
  pub rest : refused_item schema items ≡ refused_behind schema (take place items) (drop place items)
  pub free : AreFree schema fields

pub none_so_far : (schema : Schema) (items : List (List ℕ)) → AreSoFar schema items 0 []
none_so_far schema items = record {
  count = refl;
  named = refl;
  rest = refl;
  free = record { each = λ place one is. (cc) };
}

at_end : {X : Type 0} (xs : List X) (y z : X) (place : ℕ) → slice_get (xs ++ y ∷ []) place ≡ Some z
    → (slice_get xs place ≡ Some z) ⊎ ((place ≡ length xs) × (y ≡ z))
at_end [] y z zero e = let same : y ≡ z = cc in inr (refl, same)
at_end [] y z (suc place) e = cc
at_end (x ∷ xs) y z zero e = inl e
at_end (x ∷ xs) y z (suc place) e = by (at_end xs y z place e)
  where
    by : (slice_get xs place ≡ Some z) ⊎ ((place ≡ length xs) × (y ≡ z)) → (slice_get xs place ≡ Some z) ⊎ ((suc place ≡ suc (length xs)) × (y ≡ z))
    by (inl h) = inl h
    by (inr h) = inr (ap suc h.0, h.1)

one_free : (schema : Schema) (fields : List Field) (one : Field) → AreFree schema fields → IsFree schema fields one → AreFree schema (fields ++ one ∷ [])
one_free schema fields one free is = record { each = λ place other there. by place other (at_end fields one other place there) }
  where
    by : (place : ℕ) (other : Field) → (slice_get fields place ≡ Some other) ⊎ ((place ≡ length fields) × (one ≡ other))
        → IsFree schema (take place (fields ++ one ∷ [])) other
    by place other (inl there) =
        let within = slice_get_within fields place other there in
        subst (λ earlier. IsFree schema earlier other) (sym (take-append-le place fields (one ∷ []) (omega (arith, within)))) (free.each place other there)
    by place other (inr last) =
        let front : fields ≡ take place (fields ++ one ∷ []) =
        sym (take-append_seam fields (one ∷ [])) ∙ ap (λ n. take n (fields ++ one ∷ [])) (sym last.0) in
        subst (λ earlier. IsFree schema earlier other) front (subst (λ held. IsFree schema fields held) last.1 is)

-- one more is taken
pub one_more : (schema : Schema) (items : List (List ℕ)) (place : ℕ) (fields : List Field) (item : List ℕ) (one : Field) → AreSoFar schema items place fields
    → place < length items → get_or items place [] ≡ item → (held : List Field) → held ≡ fields → IsTaken schema held item one
    → AreSoFar schema items (place + 1) (fields ++ one ∷ [])
one_more schema items place fields item one so_far within is held same given =
    let taken = subst (λ (earlier : List Field). IsTaken schema earlier item one) same given in
    let more : take (place + 1) items ≡ take place items ++ item ∷ [] =
    take_more items place [] within ∙ ap (λ last. take place items ++ last ∷ []) is in
    let rest : drop place items ≡ item ∷ drop (place + 1) items =
    drop-cons items place [] within ∙ (ap (λ first. first ∷ drop (suc place) items) is ∙ ap (λ n. item ∷ drop n items) (sym (add-one place))) in
    record {
      count = length-append fields (one ∷ []) ∙ ap (λ n. n + 1) so_far.count;
      named =
          ap (map (item_field schema)) more
          ∙ (map-append (item_field schema) (take place items) (item ∷ [])
          ∙ (ap (λ (named : List (Option Field)). named ++ item_field schema item ∷ []) so_far.named
          ∙ (ap (λ (last : Option Field). map Some fields ++ last ∷ []) taken.names
          ∙ sym (map-append Some fields (one ∷ [])))));
      rest =
          so_far.rest
          ∙ (ap (refused_behind schema (take place items)) rest
          ∙ (refused_step schema (take place items) (drop (place + 1) items) item (taken.taken.each (take place items) so_far.named)
          ∙ ap (λ earlier. refused_behind schema earlier (drop (place + 1) items)) (sym more)));
      free = one_free schema fields one so_far.free taken.free;
    }

-- one is not
pub one_refused : (schema : Schema) (items : List (List ℕ)) (place : ℕ) (fields : List Field) (item : List ℕ) → AreSoFar schema items place fields
    → place < length items → get_or items place [] ≡ item → (held : List Field) → held ≡ fields → IsTakenBehind schema held item false
    → refused_item schema items ≡ Some (length fields + 1)
one_refused schema items place fields item so_far within is held same given =
    let refused = subst (λ (earlier : List Field). IsTakenBehind schema earlier item false) same given in
    let rest : drop place items ≡ item ∷ drop (suc place) items = drop-cons items place [] within ∙ ap (λ first. first ∷ drop (suc place) items) is in
    let count : length (take place items) ≡ length fields = length-take-le place items (omega (arith, within)) ∙ sym so_far.count in
    so_far.rest
    ∙ (ap (refused_behind schema (take place items)) rest
    ∙ (refused_here schema (take place items) (drop (suc place) items) item (refused.each (take place items) so_far.named)
    ∙ ap (λ n. Some (n + 1)) count))

-- all are taken
pub all_taken : (schema : Schema) (items : List (List ℕ)) (place : ℕ) (fields : List Field) → AreSoFar schema items place fields → place ≡ length items
    → AreTaken schema items fields
all_taken schema items place fields so_far all =
    let whole : take place items ≡ items = ap (λ n. take n items) all ∙ take-length items in
    let none : drop place items ≡ [] = ap (λ n. drop n items) all ∙ drop-length items in
    record {
      none =
          so_far.rest
          ∙ (ap (refused_behind schema (take place items)) none ∙ refused_none schema (take place items));
      named = ap (map (item_field schema)) (sym whole) ∙ so_far.named;
      free = so_far.free;
    }

-- the catalog in which one more column may be NULL

pub still_free : (schema : Schema) (fields : List Field) (place : ℕ) (one : Field) → AreFree schema fields → slice_get fields place ≡ Some one
    → may_be_null (with_fields schema (take place fields)) one.table one.column ≡ true
still_free schema fields place one free there =
    let is = free.each place one there in
    free_after schema one (take place fields) is.may is.first

pub one_wider : (schema : Schema) (fields : List Field) (place : ℕ) (one : Field) → slice_get fields place ≡ Some one
    → with_null (with_fields schema (take place fields)) one.table one.column ≡ with_fields schema (take (place + 1) fields)
one_wider schema fields place one there =
    let within = slice_get_within fields place one there in
    let more : take (place + 1) fields ≡ take place fields ++ one ∷ [] =
    take_more fields place one within ∙ ap (λ last. take place fields ++ last ∷ []) (get_or_from_slice_get fields place one one there) in
    sym (ap (with_fields schema) more
    ∙ (ap (fold with_field schema) (map-append Some (take place fields) (one ∷ []))
    ∙ fold-append with_field schema (map Some (take place fields)) (Some one ∷ [])))

pub unequal : (a b : ℕ) → (a ≡ b → ⊥) → (a == b) ≡ false
unequal a b apart = by (a == b) refl
  where
    by : (c : Bool) → (a == b) ≡ c → (a == b) ≡ false
    by true e = absurd (apart (eqb-true a b e))
    by false e = e

pub get_mapped : {X Y : Type 0} (f : X → Y) (xs : List X) (place : ℕ) (one : X) (other : Y) → place < length xs
    → get_or (map f xs) place other ≡ f (get_or xs place one)
get_mapped f [] place one other within = absurd (omega (arith, within))
get_mapped f (x ∷ xs) zero one other within = refl
get_mapped f (x ∷ xs) (suc place) one other within = get_mapped f xs place one other (omega (arith, within))

pub mapped_there : {X Y : Type 0} (f : X → Y) (xs : List X) (place : ℕ) (one : X) → place < length xs
    → slice_get (map f xs) place ≡ Some (f (get_or xs place one))
mapped_there f [] place one within = absurd (omega (arith, within))
mapped_there f (x ∷ xs) zero one within = refl
mapped_there f (x ∷ xs) (suc place) one within = mapped_there f xs place one (omega (arith, within))

abbrev pub allowed : Catalog → (table column : ℕ) → Option Catalog
allowed cat table column =
    option_map (λ schema. catalog_of_version cat.version schema cat.counts cat.generation) (allowing cat.schema table column)

allowed_there : (cat : Catalog) (table column : ℕ) → may_be_null cat.schema table column ≡ true
    → allowed cat table column ≡ Some (catalog_of_version cat.version (with_null cat.schema table column) cat.counts cat.generation)
allowed_there cat table column may =
    ap (λ b. option_map (λ schema. catalog_of_version cat.version schema cat.counts cat.generation) (if b then Some (with_null cat.schema table column) else None))
    may

pub one_allowed : (cat now : Catalog) (fields : List Field) (place : ℕ) (one : Field) → now ≡ catalog_with cat (take place fields)
    → AreFree cat.schema fields → slice_get fields place ≡ Some one → allowed now one.table one.column ≡ Some (catalog_with cat (take (place + 1) fields))
one_allowed cat now fields place one is free there =
    ap (λ (held : Catalog). allowed held one.table one.column) is
    ∙ (allowed_there (catalog_with cat (take place fields)) one.table one.column (still_free cat.schema fields place one free there)
    ∙ ap (λ (schema : Schema). Some (catalog_of_version cat.version schema cat.counts cat.generation)) (one_wider cat.schema fields place one there))
