-- What is kept of a list, in the room that there is.
use Rattle.std.proofs.Common.{◌≡◌, ℕ, zero, suc, ◌+◌, ◌<◌, ◌≤◌, min, Bool, true, false, nat_lt, List, [], ◌∷◌, ◌++◌, length, map, take, flat_map, length-append, length-take, get_or, take_all, append_assoc, append-nil, refl, ap, sym, subst, ◌∙◌, arith}
use Rattle.std.proofs.lemmas.Bool.{ltb-true, ltb-false}
use Rattle.std.proofs.lemmas.List.{length-map, map-append, take-append-le}
use Rattle.ghost_model.specs.core.Query.{Field}
use Rattle.ghost_model.specs.core.Schema.{Schema, Column, columns_of, places_from}
use Rattle.ghost_model.specs.refusals.QueryMeaning.{field, fields_of}
use Rattle.spj_parse.specs.Adding.{Adds}
use Rattle.spj_parse.specs.Items.{Item}

pub adds_one : {X Y : Type 0} (view : X → Y) (most : ℕ) (old new : List X) (value : X) → (length old < most → new ≡ old ++ value ∷ []) → (most ≤ length old → new ≡ old) → Adds view most old new (view value ∷ [])
adds_one {X} {Y} view most old new value room full done h = by (nat_lt (length old) most) refl
  where
    count : length old ≡ min most (length done)
    count = sym (length-map old view) ∙ ap length h ∙ length-take most done

    by : (t : Bool) → nat_lt (length old) most ≡ t → map view new ≡ take most (done ++ view value ∷ [])
    by true e =
        let few : length old < most = ltb-true (length old) most e in
        let short : length done < most = omega (arith, few, count) in
        let more : length (done ++ view value ∷ []) ≡ length done + 1 = length-append done (view value ∷ []) in
        ap (map view) (room few) ∙ map-append view old (value ∷ []) ∙ ap (λ xs. xs ++ view value ∷ []) (h ∙ take_all most done (omega (arith, short)))
        ∙ sym (take_all most (done ++ view value ∷ []) (omega (arith, short, more)))
    by false e =
        let past : most ≤ length old = ltb-false (length old) most e in
        ap (map view) (full past) ∙ h ∙ sym (take-append-le most done (view value ∷ []) (omega (arith, past, count)))

-- the same of a value by what it is seen as
pub adds_lone : {X Y : Type 0} (view : X → Y) (most : ℕ) (old new : List X) (value : X) (seen : Y) → (length old < most → new ≡ old ++ value ∷ []) → (most ≤ length old → new ≡ old)
    → view value ≡ seen → Adds view most old new (seen ∷ [])
adds_lone view most old new value seen room full same =
    subst (λ y. Adds view most old new (y ∷ [])) same (adds_one view most old new value room full)

pub adds_none : {X Y : Type 0} (view : X → Y) (most : ℕ) (kept : List X) → Adds view most kept kept []
adds_none view most kept done h = h ∙ ap (take most) (sym (append-nil done))

pub adds_more : {X Y : Type 0} (view : X → Y) (most : ℕ) (a b c : List X) (xs ys : List Y) → Adds view most a b xs → Adds view most b c ys → Adds view most a c (xs ++ ys)
adds_more view most a b c xs ys first second done h = second (done ++ xs) (first done h) ∙ ap (take most) (append_assoc done xs ys)

-- what was gathered of the things that a text names, and what is left
pub record Gathers {X Y : Type 0} (view : X → Y) (most : ℕ) (give : Item → List Y) (all left : List Item) (kept : List X) : Type 0 where
  pub done : List Y
  pub keeps : map view kept ≡ take most done
  pub rest : done ++ flat_map give left ≡ flat_map give all

pub gathers_start : {X Y : Type 0} (view : X → Y) (most : ℕ) (give : Item → List Y) (all left : List Item) (kept : List X) → kept ≡ [] → left ≡ all → Gathers view most give all left kept
gathers_start view most give all left kept none same = record { done = []; keeps = ap (map view) none ∙ sym (take_all most [] (omega arith)); rest = ap (flat_map give) same }

pub gathers_more : {X Y : Type 0} (view : X → Y) (most : ℕ) (give : Item → List Y) (all left later : List Item) (item : Item) (kept new : List X) → Gathers view most give all left kept → left ≡ item ∷ later
    → Adds view most kept new (give item) → Gathers view most give all later new
gathers_more view most give all left later item kept new h e adds =
    record { done = h.done ++ give item; keeps = adds h.done h.keeps; rest = append_assoc h.done (give item) (flat_map give later) ∙ ap (λ (items : List Item). h.done ++ flat_map give items) (sym e) ∙ h.rest }

pub gathers_all : {X Y : Type 0} (view : X → Y) (most : ℕ) (give : Item → List Y) (all left : List Item) (kept : List X) → Gathers view most give all left kept → left ≡ [] → map view kept ≡ take most (flat_map give all)
gathers_all view most give all left kept h e = h.keeps ∙ ap (take most) (sym (append-nil h.done) ∙ ap (λ (items : List Item). h.done ++ flat_map give items) (sym e) ∙ h.rest)

pub same_map : {X : Type 0} (xs : List X) → map (λ x. x) xs ≡ xs
same_map [] = refl
same_map (x ∷ xs) = ap (λ rest. x ∷ rest) (same_map xs)

-- the columns of a table below a place
abbrev pub fields_below : (table column : ℕ) → List Field
fields_below table zero = []
fields_below table (suc column) = fields_below table column ++ field table column ∷ []

below_more : (table at : ℕ) (columns : List Column) → fields_below table at ++ map (field table) (places_from (λ _. true) at columns) ≡ fields_below table (at + length columns)
unfolding places_from
below_more table at [] = append-nil (fields_below table at) ∙ ap (fields_below table) (let e : at ≡ at + 0 = omega arith in e)
below_more table at (column ∷ columns) =
    sym (append_assoc (fields_below table at) (field table at ∷ []) (map (field table) (places_from (λ _. true) (at + 1) columns)))
    ∙ ap (λ (n : ℕ). fields_below table n ++ map (field table) (places_from (λ _. true) (at + 1) columns)) (let e : suc at ≡ at + 1 = omega arith in e)
    ∙ below_more table (at + 1) columns
    ∙ ap (fields_below table) (let e : at + 1 + length columns ≡ at + length (column ∷ columns) = omega arith in e)

pub all_below : (schema : Schema) (table : ℕ) → fields_below table (length (columns_of schema table)) ≡ fields_of schema table
all_below schema table = ap (fields_below table) (let e : length (columns_of schema table) ≡ 0 + length (columns_of schema table) = omega arith in e) ∙ sym (below_more table 0 (columns_of schema table))

pub flat_more : {Y : Type 0} (f : ℕ → List Y) (from : List ℕ) (i : ℕ) → i < length from → flat_map f (take i from) ++ f (get_or from i 0) ≡ flat_map f (take (i + 1) from)
flat_more f [] i h = absurd (omega (arith, h))
flat_more f (x ∷ xs) zero h = sym (append-nil (f x))
flat_more f (x ∷ xs) (suc i) h =
    append_assoc (f x) (flat_map f (take i xs)) (f (get_or xs i 0))
    ∙ ap (λ rest. f x ++ rest) (flat_more f xs i (omega (arith, h)))
    ∙ ap (λ (n : ℕ). flat_map f (take n (x ∷ xs))) (let e : suc (i + 1) ≡ suc i + 1 = omega arith in e)

pub flat_all : {Y : Type 0} (f : ℕ → List Y) (from : List ℕ) (i : ℕ) → length from ≤ i → flat_map f (take i from) ≡ flat_map f from
flat_all f from i h = ap (flat_map f) (take_all i from h)
