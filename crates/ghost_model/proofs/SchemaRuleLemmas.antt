-- One schema or one fault for each text: the first rule that its tree breaks decides.
use Rattle.std.proofs.Common.{◌≡◌, ◌⊎◌, inl, inr, ℕ, zero, suc, ◌+◌, ◌-◌, ◌<◌, ◌≤◌, nat_lt, Bool, true, false, ◌||◌, ◌==◌, List, [], ◌∷◌, length, find, not, Option, Some, None, option_map, option_and_then, Result, Ok, Err, if◌then◌else◌, Decides, add-zero, zero-add, refl, sym, ap, ◌∙◌, subst, arith}
use Rattle.std.specs.List.{list_any}
use Rattle.std.proofs.lemmas.Bool.Decides.{Decides-eqb, Decides-ltb}
use Rattle.std.proofs.lemmas.Bool.{cases_order, cases_lt, or_right}
use Rattle.ghost_model.specs.core.Schema.{Schema, Table, places_from, places_of, first_of, is_table, parent, references_to, is_empty, ancestor}
use Rattle.ghost_model.specs.refusals.Rules.{broken_if, first_broken, MeetsAll, BreaksFirst}
use Rattle.ghost_model.specs.refusals.Grammar.{Spells}
use Rattle.ghost_model.specs.refusals.SchemaGrammar.{SchemaText, schema_spelling}
use Rattle.ghost_model.specs.readings.SchemaPlaces.{schema_syntax_of}
use Rattle.ghost_model.specs.refusals.SchemaMeaning.{schema_of}
use Rattle.ghost_model.specs.refusals.SchemaFaults.{SchemaFault, BadSyntax, OverLimit, NoId, TwoParents, Cycle, NotOneRoot, is_over, is_duplicate, returns, roots_of, fields, rules_of_schemas, MeansSchema, HasFault, IsSchemaFault}
use Rattle.ghost_model.specs.laws.ShortWords.{is_unknown, lacks_id, is_shared, duplicate_at, unknown_at, wrong_roots}
use Rattle.ghost_model.specs.readings.SchemaReading.{schema_or, schema_judged, schema_reading}
use Rattle.ghost_model.specs.laws.SchemaTrees.{Returns}
use Rattle.ghost_model.specs.laws.SchemaLaws.{OneSchemaReading}
use Rattle.ghost_model.proofs.RuleLemmas.{both_none, not_broken, other_if, other_mapped}
use Rattle.ghost_model.proofs.SchemaLemmas.{schema_places}

unSome : {X : Type 0} {a b : X} → Some a ≡ Some b → a ≡ b
unSome e = cc

none_mapped : {X Y : Type 0} (f : X → Y) (o : Option X) → option_map f o ≡ None → o ≡ None
none_mapped f None e = refl
none_mapped f (Some x) e = absurd (cc)

not_false : (b : Bool) → not b ≡ false → b ≡ true
not_false true e = refl
not_false false e = absurd (cc)

-- what each rule leaves
pub record KeptRules (tables : SchemaText) : Type 0 where
  pub limits : is_over tables ≡ false
  pub names : find (is_duplicate tables) (fields tables) ≡ None
  pub identifiers : find (lacks_id tables) (places_of tables) ≡ None
  pub references : find (is_unknown tables) (fields tables) ≡ None
  pub parents : find (is_shared tables) (places_of tables) ≡ None
  pub cycles : find (returns (schema_of tables)) (places_of tables) ≡ None
  pub root : roots_of (schema_of tables) ≡ 1

pub kept_rules : (tables : SchemaText) → MeetsAll (rules_of_schemas tables) → KeptRules tables
kept_rules tables e =
    let a = both_none (broken_if (is_over tables) OverLimit) _ e in
    let b = both_none (option_map duplicate_at (find (is_duplicate tables) (fields tables))) _ a.1 in
    let c = both_none (option_map NoId (find (lacks_id tables) (places_of tables))) _ b.1 in
    let d = both_none (option_map unknown_at (find (is_unknown tables) (fields tables))) _ c.1 in
    let f = both_none (option_map TwoParents (find (is_shared tables) (places_of tables))) _ d.1 in
    let g = both_none (option_map Cycle (find (returns (schema_of tables)) (places_of tables))) _ f.1 in
    let h = both_none (wrong_roots (roots_of (schema_of tables))) None g.1 in
    record {
      limits = not_broken (is_over tables) OverLimit a.0;
      names = none_mapped duplicate_at _ b.0;
      identifiers = none_mapped NoId _ c.0;
      references = none_mapped unknown_at _ d.0;
      parents = none_mapped TwoParents _ f.0;
      cycles = none_mapped Cycle _ g.0;
      root = (Decides-eqb (roots_of (schema_of tables)) 1).0 (not_false _ (not_broken (not (roots_of (schema_of tables) == 1)) _ h.0));
    }

-- no rule finds a fault of the grammar

no_syntax : (tables : SchemaText) (at : ℕ) → BreaksFirst (rules_of_schemas tables) (BadSyntax at) → ⊥
no_syntax tables at =
    other_if (is_over tables) OverLimit (BadSyntax at) _ (λ e. absurd (cc))
    (other_mapped duplicate_at (find (is_duplicate tables) (fields tables)) (BadSyntax at) _ (λ x e. absurd (cc))
    (other_mapped NoId (find (lacks_id tables) (places_of tables)) (BadSyntax at) _ (λ x e. absurd (cc))
    (other_mapped unknown_at (find (is_unknown tables) (fields tables)) (BadSyntax at) _ (λ x e. absurd (cc))
    (other_mapped TwoParents (find (is_shared tables) (places_of tables)) (BadSyntax at) _ (λ x e. absurd (cc))
    (other_mapped Cycle (find (returns (schema_of tables)) (places_of tables)) (BadSyntax at) _ (λ x e. absurd (cc))
    (other_if (not (roots_of (schema_of tables) == 1)) (NotOneRoot (roots_of (schema_of tables))) (BadSyntax at) None (λ e. absurd (cc)) (λ e. absurd (cc))))))))

-- what returns does so in as many steps as there are tables

-- an element of a list that passes a test
passes_by : {X : Type 0} (test : X → Bool) (x : X) (rest b : Bool) → test x ≡ b → (b || rest) ≡ true → (rest ≡ true → (y : X) × (test y ≡ true)) → (y : X) × (test y ≡ true)
passes_by test x rest true e h later = (x, e)
passes_by test x rest false e h later = later h

some_passes : {X : Type 0} (test : X → Bool) (xs : List X) → list_any test xs ≡ true → (x : X) × (test x ≡ true)
some_passes test [] e = absurd (cc)
some_passes test (x ∷ xs) e = passes_by test x (list_any test xs) (test x) refl e (some_passes test xs)

is_this : (table : ℕ) (o : Option ℕ) → is_table table o ≡ true → o ≡ Some table
is_this table None e = absurd (cc)
is_this table (Some other) e = ap Some ((Decides-eqb other table).0 e)

this_is : (table : ℕ) → is_table table (Some table) ≡ true
this_is table = (Decides-eqb table table).1 refl

pub returns_yes : (schema : Schema) (table : ℕ) → returns schema table ≡ true → Returns schema table
returns_yes schema table e =
    let h = some_passes (λ steps. is_table table (ancestor schema (suc steps) table)) (places_of schema) e in
    record { steps = suc h.0; moves = omega arith; back = is_this table (ancestor schema (suc h.0) table) h.1 }

-- a place of a list passes a test
pub place_passes : {X : Type 0} (test : ℕ → Bool) (xs : List X) (at k : ℕ) → k < length xs → test (at + k) ≡ true
    → list_any test (places_from (λ _. true) at xs) ≡ true
unfolding places_from
place_passes test [] at k h e = absurd (omega arith)
place_passes test (x ∷ xs) at zero h e = ap (λ b. b || list_any test (places_from (λ _. true) (at + 1) xs)) (ap test (sym (add-zero at)) ∙ e)
place_passes test (x ∷ xs) at (suc k) h e =
    let same : at + suc k ≡ (at + 1) + k = omega arith in
    or_right (test at) _ (place_passes test xs (at + 1) k (omega arith) (ap test (sym same) ∙ e))

-- the first of the places of a list is one of them
first_by : {X : Type 0} (test : X → Bool) (xs : List X) (at p : ℕ) (b : Bool) → first_of (if b then at ∷ places_from test (at + 1) xs else places_from test (at + 1) xs) ≡ Some p
    → (first_of (places_from test (at + 1) xs) ≡ Some p → p < (at + 1) + length xs) → p < at + suc (length xs)
first_by test xs at p true e later = let h : at ≡ p = unSome e in omega arith
first_by test xs at p false e later = let h : p < (at + 1) + length xs = later e in omega arith

first_place : {X : Type 0} (test : X → Bool) (xs : List X) (at p : ℕ) → first_of (places_from test at xs) ≡ Some p → p < at + length xs
unfolding places_from
first_place test [] at p e = absurd (cc)
first_place test (x ∷ xs) at p e = first_by test xs at p (test x) e (first_place test xs (at + 1) p)

pub parent_below : (schema : Schema) (table p : ℕ) → parent schema table ≡ Some p → p < length schema
parent_below schema table p e =
    let h = first_place (λ (other : Table). not (is_empty (references_to table other))) schema 0 p e in omega arith

-- steps on the way to a table lead to tables
pub one_less : (o : Option ℕ) (f : ℕ → Option ℕ) (x : ℕ) → option_and_then f o ≡ Some x → (y : ℕ) × (o ≡ Some y) × (f y ≡ Some x)
one_less None f x e = absurd (cc)
one_less (Some y) f x e = (y, refl, e)

before_it : (schema : Schema) (table : ℕ) (gap steps total x : ℕ) → total ≡ gap + steps → ancestor schema total table ≡ Some x
    → (y : ℕ) × (ancestor schema steps table ≡ Some y)
unfolding ancestor
before_it schema table zero steps total x e h = (x, let s : steps ≡ total = omega arith in ap (λ n. ancestor schema n table) s ∙ h)
before_it schema table (suc gap) steps zero x e h = absurd (omega arith)
before_it schema table (suc gap) steps (suc total) x e h =
    let back = one_less (ancestor schema total table) (parent schema) x h in
    before_it schema table gap steps total back.0 (omega arith) back.1

-- steps after steps
further : (schema : Schema) (table y : ℕ) (more steps total : ℕ) → total ≡ more + steps → ancestor schema steps table ≡ Some y
    → ancestor schema total table ≡ ancestor schema more y
unfolding ancestor
further schema table y zero steps total e h = let s : total ≡ steps = omega arith in ap (λ n. ancestor schema n table) s ∙ h
further schema table y (suc more) steps zero e h = absurd (omega arith)
further schema table y (suc more) steps (suc total) e h =
    ap (option_and_then (parent schema)) (further schema table y more steps total (omega arith) h)

-- n + 1 numbers below n are not all different
record Repeats (f : ℕ → ℕ) (n : ℕ) : Type 0 where
  low : ℕ
  high : ℕ
  above : low < high
  within : high ≤ n
  equal : f low ≡ f high

-- whether a number is among the first ones
data Sought (f : ℕ → ℕ) (n v : ℕ) : Type 0 where
  found : (i : ℕ) → i ≤ n → f i ≡ v → Sought f n v
  missing : ((i : ℕ) → i ≤ n → f i ≡ v → ⊥) → Sought f n v

false_true : false ≡ true → ⊥
false_true e = cc

-- numbers above one that is missing, less one
lowered : (v x : ℕ) → ℕ
lowered v x = if nat_lt v x then x - 1 else x

lowered_below_by : (v x n : ℕ) → v < suc n → x < suc n → (x ≡ v → ⊥) → (b : Bool) → Decides b (v < x) → (if b then x - 1 else x) < n
lowered_below_by v x n hv hx d true dec = let h : v < x = dec.0 refl in omega arith
lowered_below_by v x n hv hx d false dec = let h : v < x → ⊥ = λ l. false_true (dec.1 l) in omega arith

lowered_below : (v x n : ℕ) → v < suc n → x < suc n → (x ≡ v → ⊥) → lowered v x < n
unfolding lowered
lowered_below v x n hv hx d = lowered_below_by v x n hv hx d (nat_lt v x) (Decides-ltb v x)

lowered_same_by : (v x y : ℕ) → (x ≡ v → ⊥) → (y ≡ v → ⊥) → (b : Bool) → Decides b (v < x) → (c : Bool) → Decides c (v < y)
    → (if b then x - 1 else x) ≡ (if c then y - 1 else y) → x ≡ y
lowered_same_by v x y dx dy true db true dc e = let h : v < x = db.0 refl in let k : v < y = dc.0 refl in omega arith
lowered_same_by v x y dx dy true db false dc e = let h : v < x = db.0 refl in let k : v < y → ⊥ = λ l. false_true (dc.1 l) in omega arith
lowered_same_by v x y dx dy false db true dc e = let h : v < x → ⊥ = λ l. false_true (db.1 l) in let k : v < y = dc.0 refl in omega arith
lowered_same_by v x y dx dy false db false dc e = e

lowered_same : (v x y : ℕ) → (x ≡ v → ⊥) → (y ≡ v → ⊥) → lowered v x ≡ lowered v y → x ≡ y
unfolding lowered
lowered_same v x y dx dy e = lowered_same_by v x y dx dy (nat_lt v x) (Decides-ltb v x) (nat_lt v y) (Decides-ltb v y) e

seek_more : (f : ℕ → ℕ) (n v : ℕ) → Sought f n v → (f (suc n) ≡ v) ⊎ (f (suc n) ≡ v → ⊥) → Sought f (suc n) v
seek_more f n v (found i h e) d = found i (omega arith) e
seek_more f n v (missing none) (inl e) = found (suc n) (omega arith) e
seek_more f n v (missing none) (inr d) = missing (λ i h e. elim (cases_order i (suc n)) [
  | inl same ↦ d (ap f (sym same) ∙ e)
  | inr (inl less) ↦ none i (omega arith) e
  | inr (inr more) ↦ absurd (omega arith)
])

pub same_or_not : (a b : ℕ) → (a ≡ b) ⊎ (a ≡ b → ⊥)
same_or_not a b = elim (cases_order a b) [
  | inl same ↦ inl same
  | inr (inl less) ↦ inr (λ e. omega arith)
  | inr (inr more) ↦ inr (λ e. omega arith)
]

seek_first : (f : ℕ → ℕ) (v : ℕ) → (f 0 ≡ v) ⊎ (f 0 ≡ v → ⊥) → Sought f 0 v
seek_first f v (inl e) = found 0 (omega arith) e
seek_first f v (inr d) = missing (λ i h e. let z : i ≡ 0 = omega arith in d (ap f (sym z) ∙ e))

seek : (f : ℕ → ℕ) (n v : ℕ) → Sought f n v
seek f zero v = seek_first f v (same_or_not (f 0) v)
seek f (suc n) v = seek_more f n v (seek f n v) (same_or_not (f (suc n)) v)

pigeon_more : (n : ℕ) (f : ℕ → ℕ) → ((i : ℕ) → i ≤ suc n → f i < suc n) → Sought f n (f (suc n))
    → (((i : ℕ) → i ≤ n → lowered (f (suc n)) (f i) < n) → Repeats (λ i. lowered (f (suc n)) (f i)) n) → Repeats f (suc n)
pigeon_more n f below (found i h e) later = record { low = i; high = suc n; above = omega arith; within = omega arith; equal = e }
pigeon_more n f below (missing none) later =
    let r = later (λ i h. lowered_below (f (suc n)) (f i) n (below (suc n) (omega arith)) (below i (omega arith)) (none i h)) in
    record {
      low = r.low;
      high = r.high;
      above = r.above;
      within = let w : r.high ≤ n = r.within in omega arith;
      equal = lowered_same (f (suc n)) (f r.low) (f r.high)
          (none r.low (let a : r.low < r.high = r.above in let w : r.high ≤ n = r.within in omega arith)) (none r.high r.within) r.equal;
    }

pigeon : (n : ℕ) (f : ℕ → ℕ) → ((i : ℕ) → i ≤ n → f i < n) → Repeats f n
pigeon zero f below = let h : f 0 < 0 = below 0 (omega arith) in absurd (omega arith)
pigeon (suc n) f below = pigeon_more n f below (seek f n (f (suc n))) (λ b. pigeon n (λ i. lowered (f (suc n)) (f i)) b)

same_values : (m n x y : ℕ) → m ≡ n → m ≡ x → n ≡ y → y ≡ x
same_values m n x y e f g = cc

-- a way back that is no longer than there are tables
record ShortWay (schema : Schema) (table : ℕ) : Type 0 where
  steps : ℕ
  moves : 0 < steps
  few : steps ≤ length schema
  back : ancestor schema steps table ≡ Some table

number_or : Option ℕ → ℕ
number_or None = 0
number_or (Some x) = x

module _ (schema : Schema) (table : ℕ) where
  -- the number of the table after so many steps and one
  way : ℕ → ℕ
  way i = number_or (ancestor schema (suc i) table)

  on_the_way : (i total x : ℕ) → suc i ≤ total → ancestor schema total table ≡ Some x
      → (y : ℕ) × (ancestor schema (suc i) table ≡ Some y) × (way i ≡ y) × (y < length schema)
  unfolding ancestor way number_or
  on_the_way i total x h e =
      let s = before_it schema table (total - suc i) (suc i) total x (omega arith) e in
      let p = one_less (ancestor schema i table) (parent schema) s.0 s.1 in
      (s.0, s.1, ap number_or s.1, parent_below schema p.0 s.0 p.2)

  -- a way back that meets a table twice can be cut short
  cut_between : (k low high y z : ℕ) → low < high → high < k → ancestor schema (suc low) table ≡ Some y → ancestor schema (suc high) table ≡ Some z
      → z ≡ y → ancestor schema k table ≡ Some table → (j : ℕ) × (0 < j) × (j < k) × (ancestor schema j table ≡ Some table)
  cut_between k low high y z above within a b same e = (
    (k - suc high) + suc low,
    omega arith,
    omega arith,
    further schema table y (k - suc high) (suc low) ((k - suc high) + suc low) refl a
        ∙ (sym (further schema table y (k - suc high) (suc high) k (omega arith) (b ∙ ap Some same)) ∙ e),
  )

  cut_short : (k : ℕ) → length schema < k → ancestor schema k table ≡ Some table
      → (j : ℕ) × (0 < j) × (j < k) × (ancestor schema j table ≡ Some table)
  cut_short k h e =
      let r = pigeon (length schema) way (λ i w. let o = on_the_way i k table (omega arith) e in let l : o.0 < length schema = o.3 in let q : way i ≡ o.0 = o.2 in omega arith) in
      let above : r.low < r.high = r.above in
      let within : r.high ≤ length schema = r.within in
      let a = on_the_way r.low k table (omega arith) e in
      let b = on_the_way r.high k table (omega arith) e in
      cut_between k r.low r.high a.0 b.0 above (omega arith) a.1 b.1 (same_values (way r.low) (way r.high) a.0 b.0 r.equal a.2 b.2) e

  short_way : (bound k : ℕ) → k ≤ bound → 0 < k → ancestor schema k table ≡ Some table → ShortWay schema table
  short_way zero k h m e = absurd (omega arith)
  short_way (suc bound) k h m e = elim (cases_lt (length schema) k) [
    | inl long ↦ (let c = cut_short k long e in let less : c.0 < k = c.2 in short_way bound c.0 (omega arith) c.1 c.3)
    | inr few ↦ record { steps = k; moves = m; few = few; back = e }
  ]

short_returns : (schema : Schema) (table steps : ℕ) → 0 < steps → steps ≤ length schema → ancestor schema steps table ≡ Some table → returns schema table ≡ true
short_returns schema table zero m few e = absurd (omega arith)
short_returns schema table (suc k) m few e =
    place_passes (λ steps. is_table table (ancestor schema (suc steps) table)) schema 0 k (omega arith)
    (ap (λ n. is_table table (ancestor schema (suc n) table)) (zero-add k) ∙ (ap (is_table table) e ∙ this_is table))

pub returns_no : (schema : Schema) (table : ℕ) → Returns schema table → returns schema table ≡ true
returns_no schema table r =
    let s = short_way schema table r.steps r.steps (omega arith) r.moves r.back in
    short_returns schema table s.steps s.moves s.few s.back

one_ok : {T E : Type 0} (r : Result T E) (a b : T) → r ≡ Ok a → r ≡ Ok b → a ≡ b
one_ok r a b e f = cc

one_err : {T E : Type 0} (r : Result T E) (a b : E) → r ≡ Err a → r ≡ Err b → a ≡ b
one_err r a b e f = cc

ok_or_err : {T E : Type 0} (r : Result T E) (a : T) (b : E) → r ≡ Ok a → r ≡ Err b → ⊥
ok_or_err r a b e f = cc

one_tree : (text : List ℕ) (a b : SchemaText) → Spells schema_spelling text a → Spells schema_spelling text b → a ≡ b
one_tree text a b p q =
    one_ok (schema_syntax_of text) a b ((schema_places.tree text a).1 p) ((schema_places.tree text b).1 q)

-- a tree is read as its schema, or as its first fault

reads_schema : (tables : SchemaText) (schema : Schema) (found : Option SchemaFault) → schema_or (schema_of tables) found ≡ Ok schema
    → (found ≡ None) × (schema_of tables ≡ schema)
reads_schema tables schema None e = (refl, (let h : schema_of tables ≡ schema = cc in h))
reads_schema tables schema (Some f) e = absurd (cc)

reads_fault : (tables : SchemaText) (f : SchemaFault) (found : Option SchemaFault) → schema_or (schema_of tables) found ≡ Err f → found ≡ Some f
reads_fault tables f None e = absurd (cc)
reads_fault tables f (Some g) e = let h : Some g ≡ Some f = cc in h

means_back : (text : List ℕ) (schema : Schema) → MeansSchema text schema → schema_reading text ≡ Ok schema
means_back text schema m =
    ap schema_judged ((schema_places.tree text m.tables).1 m.spells)
    ∙ (ap (schema_or (schema_of m.tables)) m.obeys ∙ ap Ok m.means)

breaks_back : (text : List ℕ) (f : SchemaFault) → HasFault text f → schema_reading text ≡ Err f
breaks_back text f b =
    ap schema_judged ((schema_places.tree text b.tables).1 b.spells) ∙ ap (schema_or (schema_of b.tables)) b.breaks

fault_back : (text : List ℕ) (f : SchemaFault) → IsSchemaFault text f → schema_reading text ≡ Err f
fault_back text (BadSyntax at) h = ap schema_judged ((schema_places.fault text at).1 h)
fault_back text f h = breaks_back text f h

as_fault : (text : List ℕ) (f : SchemaFault) → HasFault text f → IsSchemaFault text f
as_fault text (BadSyntax at) b = absurd (no_syntax b.tables at b.breaks)
as_fault text f b = b

means_by : (text : List ℕ) (schema : Schema) (syntax : Result SchemaText ℕ) → schema_syntax_of text ≡ syntax → schema_judged syntax ≡ Ok schema → MeansSchema text schema
means_by text schema (Err at) e h = absurd (cc)
means_by text schema (Ok tables) e h =
    let r = reads_schema tables schema (first_broken (rules_of_schemas tables)) h in
    record { tables = tables; spells = (schema_places.tree text tables).0 e; obeys = r.0; means = r.1 }

fault_by : (text : List ℕ) (f : SchemaFault) (syntax : Result SchemaText ℕ) → schema_syntax_of text ≡ syntax → schema_judged syntax ≡ Err f → IsSchemaFault text f
fault_by text f (Err at) e h = let g : BadSyntax at ≡ f = cc in subst (IsSchemaFault text) g ((schema_places.fault text at).0 e)
fault_by text f (Ok tables) e h =
    as_fault text f (record {
      tables = tables;
      spells = (schema_places.tree text tables).0 e;
      breaks = reads_fault tables f (first_broken (rules_of_schemas tables)) h;
    })

some_answer : (text : List ℕ) (answer : Result Schema SchemaFault) → schema_reading text ≡ answer
    → ((schema : Schema) × MeansSchema text schema) ⊎ ((fault : SchemaFault) × IsSchemaFault text fault)
some_answer text (Ok schema) e = inl (schema, means_by text schema (schema_syntax_of text) refl e)
some_answer text (Err fault) e = inr (fault, fault_by text fault (schema_syntax_of text) refl e)

pub one_schema : OneSchemaReading
one_schema = record {
  read = λ text schema. (means_by text schema (schema_syntax_of text) refl, means_back text schema);
  refused = λ text fault. (fault_by text fault (schema_syntax_of text) refl, fault_back text fault);
  one_schema = λ text schema other a b. one_ok (schema_reading text) schema other (means_back text schema a) (means_back text other b);
  one_fault = λ text fault other a b. one_err (schema_reading text) fault other (fault_back text fault a) (fault_back text other b);
  not_both = λ text schema fault a b. ok_or_err (schema_reading text) schema fault (means_back text schema a) (fault_back text fault b);
  some = λ text. some_answer text (schema_reading text) refl;
}
