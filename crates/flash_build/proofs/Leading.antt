-- What rows lead to, level by level upwards.
use Rattle.std.proofs.Common.{◌≡◌, refl, ap, sym, ◌∙◌, subst, ℕ, zero, suc, ◌+◌, ◌-◌, ◌<◌, ◌≤◌, ℤ, pos, negsuc, Bool, true, false, cond, ◌||◌, nat_le, List, [], ◌∷◌, ◌++◌, unwrap_or, length, map, drop, filter, flat_map, get_or, slice_index, slice_index_or, Some, Vec, option_and_then, arith, leb-true}
use Rattle.std.specs.Global.{Global}
use Rattle.std.specs.List.{range_with_len, list_any}
use Rattle.std.proofs.lemmas.Option.{slice_get-get_or}
use Rattle.std.proofs.lemmas.List.{length-map, get_or-map, append-nil, get_or_append_left, get_or-append-add}
use Rattle.std.proofs.lemmas.List.Elements.{filter-append}
use Rattle.std.proofs.lemmas.List.Elements.{All-from_get_or}
use Rattle.std.proofs.lemmas.List.FromFn.{length-range_with_len, fill_by_all}
use Rattle.ghost_model.specs.core.Schema.{Schema, parent, ancestor, IsAtOrBelow}
use Rattle.ghost_model.specs.core.Values.{Number, Database}
use Rattle.ghost_model.specs.core.Channel.{Catalog}
use Rattle.ghost_model.specs.laws.SchemaTrees.{IsTree}
use Rattle.ghost_model.specs.core.Database.{IsDatabase, is_row_among, points_to, leads}
use Rattle.ghost_model.specs.core.Split.{Hidden}
use Rattle.ghost_model.specs.forms.Layout.{count_of, levels_of, is_below, descendants_of, below as layout_below}
use Rattle.ghost_model.specs.laws.LayoutLaws.{LevelsAreAncestors}
use Rattle.ghost_model.specs.forms.Flash.{IsHidden, leads_to, subtree_record, ids}
use Rattle.ghost_model.specs.forms.Runs.{number_cell}
use Rattle.ghost_model.proofs.MeaningLemmas.OneRow.{both_true}
use Rattle.ghost_model.proofs.MeaningLemmas.Leading.{first_step, along, onwards, rows_lead}
use Rattle.ghost_model.proofs.FlashLemmas.Keys.{lead_alike}
use Rattle.index_lists.specs.Ranks.{identifier_of, of_referred}
use Rattle.index_lists.specs.Laws.{LeadAs, LevelsCompose}
use Rattle.flash_build.proofs.Writes.{below_next}
use Rattle.flash_build.specs.Levels.{AreKeys, AreLed, RankedAbove, items_of, numbers_record, numbers_records}

no_step : (schema : Schema) (from to : ℕ) → ancestor schema 0 to ≡ Some from → to ≡ from
unfolding ancestor
no_step schema from to h = cc (h)

step_up : (schema : Schema) (steps below from to : ℕ) → ancestor schema steps to ≡ Some below → parent schema below ≡ Some from → ancestor schema (suc steps) to ≡ Some from
unfolding ancestor
step_up schema steps below from to h up = ap (option_and_then (parent schema)) h ∙ up

here : (schema : Schema) (table : ℕ) → ancestor schema 0 table ≡ Some table
unfolding ancestor
here schema table = refl

-- a row of the table above leads to what the row leads to that its key names
module _ (schema : Schema) (database : Database) (tree : IsTree schema) (is : IsDatabase schema database) where
  first_leads : (steps from below to identifier m : ℕ) → ancestor schema steps to ≡ Some below → parent schema below ≡ Some from
      → points_to schema database from identifier below ≡ Some m → leads schema database from identifier to ≡ leads schema database below m to
  first_leads zero from below to identifier m h up key =
      let same = no_step schema below to h in
      let itself = (rows_lead schema database tree is).to_itself in
      let one : leads schema database from identifier below ≡ onwards schema database from below (leads schema database from identifier from) =
      along schema database tree 0 from from below identifier (here schema from) up in
      ap (λ t. leads schema database from identifier t) same
      ∙ (one ∙ (ap (onwards schema database from below) (itself from identifier) ∙ (key ∙ sym (itself below m))))
      ∙ sym (ap (λ t. leads schema database below m t) same)
  first_leads (suc steps) from below to identifier m h up key =
      let above = first_step schema steps below to h in
      let rest = first_leads steps from below above.0 identifier m above.2 up key in
      along schema database tree (suc steps) from above.0 to identifier (step_up schema steps below from above.0 above.2 up) above.1
      ∙ (ap (onwards schema database above.0 to) rest ∙ sym (along schema database tree steps below above.0 to m above.2 above.1))

-- a number that is the identifier of a row
among_bounds : (n : ℕ) (key : ℤ) → is_row_among n (Number key) ≡ true → (1 ≤ identifier_of key) × (identifier_of key ≤ n)
among_bounds n (negsuc k) h = absurd (cc (h))
among_bounds n (pos k) h =
    let both = both_true (nat_le 1 k) (nat_le k n) h in (leb-true 1 k both.0, leb-true k n both.1)

default_same : {X : Type 0} (xs : List X) (k : ℕ) (d e : X) → k < length xs → slice_index_or xs k d ≡ get_or xs k e
default_same [] k d e low = absurd (omega (arith, low))
default_same (x ∷ xs) zero d e low = refl
default_same (x ∷ xs) (suc k) d e low = default_same xs k d e (omega (arith, low))

module _ (cat : Catalog) (hidden : Hidden) (from below : ℕ) (keys : List ℤ) (are : AreKeys cat hidden from below keys) where
  pub key_bounds : (p : ℕ) → p < count_of cat from → (1 ≤ get_or (map identifier_of keys) p 0) × (get_or (map identifier_of keys) p 0 ≤ count_of cat below)
  key_bounds p low =
      let within : p < length keys = omega (arith, low, are.long) in
      let good = among_bounds (count_of cat below) (slice_index_or keys p (pos 0)) (are.named p (pos 0) within) in
      let same : get_or (map identifier_of keys) p 0 ≡ identifier_of (slice_index_or keys p (pos 0)) =
      get_or-map identifier_of keys p (pos 0) 0 within ∙ sym (ap identifier_of (default_same keys p (pos 0) (pos 0) within)) in
      (let a = good.0 in omega (arith, a, same), let b = good.1 in omega (arith, b, same))

  size : length (map identifier_of keys) ≡ count_of cat from
  size = length-map keys identifier_of ∙ are.long

  referred : (reached : List ℕ) (p : ℕ) → p < count_of cat from
      → get_or (of_referred reached (map identifier_of keys)) p 0 ≡ slice_index reached (get_or (map identifier_of keys) p 0 - 1)
  referred reached p low =
      get_or-map (λ identifier. slice_index reached (identifier - 1)) (map identifier_of keys) p 0 0 (omega (arith, low, size))

  pub lead_up : IsTree cat.schema → (part : IsHidden cat hidden) → parent cat.schema below ≡ Some from → (table : ℕ) → IsAtOrBelow cat.schema below table
      → (reached : List ℕ) → LeadAs cat hidden below table reached → LeadAs cat hidden from table (of_referred reached (map identifier_of keys))
  lead_up tree part up table under reached lead =
      let database = part.database in
      let many = length-map (map identifier_of keys) (λ identifier. slice_index reached (identifier - 1)) in
      record {
        long = many ∙ size;
        each = λ identifier some most.
            let p = identifier - 1 in
            let low : p < count_of cat from = omega (arith, some, most) in
            let m = get_or (map identifier_of keys) p 0 in
            let bounds = key_bounds p low in
            let e : p + 1 ≡ identifier = omega (arith, some) in
            let key : points_to cat.schema database from identifier below ≡ Some m = ap (λ n. points_to cat.schema database from n below) (sym e) ∙ are.each part p low in
            let alike = lead_alike cat.schema database tree part.proper in
            let by_part : (t i : ℕ) → leads_to cat.schema hidden t i table ≡ leads cat.schema database t i table =
            λ t i. ap (λ (h : Hidden). leads_to cat.schema h t i table) part.part ∙ alike t i table in
            by_part from identifier
            ∙ (first_leads cat.schema database tree part.proper under.0 from below table identifier m under.1 up key
            ∙ (sym (by_part below m)
            ∙ (lead.each m (let a = bounds.0 in omega (arith, a)) bounds.1
            ∙ ap Some (sym (referred reached p low)))));
        above = λ k d low.
            let within : k < count_of cat from = omega (arith, low, many, size) in
            let bounds = key_bounds k within in
            let m = get_or (map identifier_of keys) k 0 in
            let there : m - 1 < length reached = (let a = bounds.0 in let b = bounds.1 in omega (arith, a, b, lead.long)) in
            let good = lead.above (m - 1) 0 there in
            let same = default_same (of_referred reached (map identifier_of keys)) k d 0 low ∙ referred reached k within in
            let other = default_same reached (m - 1) 0 0 there in
            omega (arith, good, same, other);
        within = λ k d low.
            let within : k < count_of cat from = omega (arith, low, many, size) in
            let bounds = key_bounds k within in
            let m = get_or (map identifier_of keys) k 0 in
            let there : m - 1 < length reached = (let a = bounds.0 in let b = bounds.1 in omega (arith, a, b, lead.long)) in
            let good = lead.within (m - 1) 0 there in
            let same = default_same (of_referred reached (map identifier_of keys)) k d 0 low ∙ referred reached k within in
            let other = default_same reached (m - 1) 0 0 there in
            omega (arith, good, same, other);
      }

  -- ranks go the same way
  pub ranks_up : LevelsCompose → IsTree cat.schema → IsHidden cat hidden → parent cat.schema below ≡ Some from → (table : ℕ) → IsAtOrBelow cat.schema below table
      → (own ranks : List ℕ) → RankedAbove cat hidden table own below ranks → RankedAbove cat hidden table own from (of_referred ranks (map identifier_of keys))
  ranks_up compose tree part up table under own ranks were =
      let identifiers = map identifier_of keys in
      record {
        reached = of_referred were.reached identifiers;
        lead = lead_up tree part up table under were.reached were.lead;
        same = ap (λ (rs : List ℕ). of_referred rs identifiers) were.same
            ∙ compose own were.reached identifiers
            (All-from_get_or (λ k. 0 < k) identifiers 0 (λ k low. let b = key_bounds k (omega (arith, low, size)) in let a = b.0 in omega (arith, a)))
            (All-from_get_or (λ k. k ≤ length were.reached) identifiers 0 (λ k low. let b = key_bounds k (omega (arith, low, size)) in let a = b.1 in omega (arith, a, were.lead.long)));
      }

-- the rows themselves
ids_get : (a n k : ℕ) → k < n → get_or (range_with_len a n) k 0 ≡ a + k
ids_get a zero k low = absurd (omega (arith, low))
ids_get a (suc n) zero low = omega arith
ids_get a (suc n) (suc k) low = let rest = ids_get (a + 1) n k (omega (arith, low)) in omega (arith, rest)

pub lead_itself : (cat : Catalog) (hidden : Hidden) → IsTree cat.schema → (part : IsHidden cat hidden) → (table : ℕ) → LeadAs cat hidden table table (ids (count_of cat table))
lead_itself cat hidden tree part table =
    let n = count_of cat table in
    let size = length-range_with_len 1 n in
    record {
      long = size;
      each = λ identifier some most.
          let e : 1 + (identifier - 1) ≡ identifier = omega (arith, some) in
          ap (λ (h : Hidden). leads_to cat.schema h table identifier table) part.part
          ∙ (lead_alike cat.schema part.database tree part.proper table identifier table
          ∙ ((rows_lead cat.schema part.database tree part.proper).to_itself table identifier
          ∙ ap Some (sym (ids_get 1 n (identifier - 1) (omega (arith, some, most)) ∙ e))));
      above = λ k d low.
          let same = default_same (ids n) k d 0 low in
          let is = ids_get 1 n k (omega (arith, low, size)) in
          omega (arith, same, is);
      within = λ k d low.
          let same = default_same (ids n) k d 0 low in
          let is = ids_get 1 n k (omega (arith, low, size)) in
          omega (arith, same, is, low, size);
    }

-- the same by numbers one higher
records_over :
    {X : Type 0} (f g : ℕ → X) (a n : ℕ) → ((k : ℕ) → a ≤ k → k < a + n → f k ≡ g (k + 1)) → map f (range_with_len a n) ≡ map g (range_with_len (a + 1) n)
records_over f g a zero same = refl
records_over f g a (suc n) same =
    let here = same a (omega arith) (omega arith) in
    let rest = records_over f g (a + 1) n (λ k low high. same k (omega (arith, low)) (omega (arith, high))) in
    λ i. here i ∷ rest i

-- a table's own rows have their own ranks
pub of_themselves : (own : List ℕ) (n : ℕ) → length own ≡ n → own ≡ of_referred own (ids n)
of_themselves own n size =
    fill_by_all (λ k. get_or own k 0) own n 0 size (λ k low. refl)
    ∙ records_over (λ k. get_or own k 0) (λ k. get_or own (k - 1) 0) 0 n (λ k low high. let e : k ≡ k + 1 - 1 = omega arith in ap (λ j. get_or own j 0) e)

pub ranked_itself : (cat : Catalog) (hidden : Hidden) → IsTree cat.schema → (part : IsHidden cat hidden) → (table : ℕ) (own : List ℕ) → length own ≡ count_of cat table
    → RankedAbove cat hidden table own table own
ranked_itself cat hidden tree part table own size = record {
  reached = ids (count_of cat table);
  lead = lead_itself cat hidden tree part table;
  same = of_themselves own (count_of cat table) size;
}

-- columns that are led to, one after others
pub led_on :
    (cat : Catalog) (hidden : Hidden) (from : ℕ) (tables more : List ℕ) (columns others : List (List ℕ))
    → AreLed cat hidden from tables columns → AreLed cat hidden from more others → AreLed cat hidden from (tables ++ more) (columns ++ others)
led_on cat hidden from [] more [] others a b = b
led_on cat hidden from [] more (column ∷ columns) others a b = absurd a
led_on cat hidden from (table ∷ tables) more [] others a b = absurd a
led_on cat hidden from (table ∷ tables) more (column ∷ columns) others a b = (a.0, led_on cat hidden from tables more columns others a.1 b)

pub led_many : (cat : Catalog) (hidden : Hidden) (from : ℕ) (tables : List ℕ) (columns : List (List ℕ)) → AreLed cat hidden from tables columns → length columns ≡ length tables
led_many cat hidden from [] [] a = refl
led_many cat hidden from [] (column ∷ columns) a = absurd a
led_many cat hidden from (table ∷ tables) [] a = absurd a
led_many cat hidden from (table ∷ tables) (column ∷ columns) a = ap suc (led_many cat hidden from tables columns a.1)

pub led_long :
    (cat : Catalog) (hidden : Hidden) (from : ℕ) (tables : List ℕ) (columns : List (List ℕ)) → AreLed cat hidden from tables columns
    → (column : ℕ) → column < length columns → length (get_or columns column []) ≡ count_of cat from
led_long cat hidden from [] [] a column low = absurd (omega (arith, low))
led_long cat hidden from [] (c ∷ columns) a column low = absurd a
led_long cat hidden from (table ∷ tables) [] a column low = absurd a
led_long cat hidden from (table ∷ tables) (c ∷ columns) a zero low = a.0.long
led_long cat hidden from (table ∷ tables) (c ∷ columns) a (suc column) low = led_long cat hidden from tables columns a.1 column (omega (arith, low))

-- the records of a subtree key table
pub led_record :
    (cat : Catalog) (hidden : Hidden) (from : ℕ) (tables : List ℕ) (columns : List (List ℕ)) → AreLed cat hidden from tables columns
    → (place : ℕ) → place < count_of cat from
    → numbers_record columns place ≡ flat_map (λ to. number_cell (unwrap_or (leads_to cat.schema hidden from (place + 1) to) 0)) tables
led_record cat hidden from [] [] a place low = refl
led_record cat hidden from [] (column ∷ columns) a place low = absurd a
led_record cat hidden from (table ∷ tables) [] a place low = absurd a
led_record cat hidden from (table ∷ tables) (column ∷ columns) a place low =
    let e : place + 1 - 1 ≡ place = omega arith in
    let here = a.0.each (place + 1) (omega arith) (omega (arith, low)) ∙ ap (λ k. Some (slice_index column k)) e in
    let one : number_cell (slice_index column place) ≡ number_cell (unwrap_or (leads_to cat.schema hidden from (place + 1) table) 0) =
    ap (λ o. number_cell (unwrap_or o 0)) (sym here) in
    let rest = led_record cat hidden from tables columns a.1 place low in
    λ i. one i ++ rest i

pub led_records :
    (cat : Catalog) (hidden : Hidden) (table : ℕ) (columns : List (List ℕ)) → AreLed cat hidden table (descendants_of cat.schema table) columns
    → numbers_records columns (count_of cat table) ≡ map (subtree_record cat.schema hidden table) (ids (count_of cat table))
led_records cat hidden table columns led =
    records_over (numbers_record columns) (subtree_record cat.schema hidden table) 0 (count_of cat table)
    (λ k low high. led_record cat hidden table (descendants_of cat.schema table) columns led k (omega (arith, high)))

-- one table more of those below another
range_more : (a n : ℕ) → range_with_len a (suc n) ≡ range_with_len a n ++ (a + n) ∷ []
range_more a zero = let e : a ≡ a + 0 = omega arith in ap (λ k. k ∷ []) e
range_more a (suc n) =
    let e : a + 1 + n ≡ a + suc n = omega arith in
    ap (λ ks. a ∷ ks) (range_more (a + 1) n ∙ ap (λ k. range_with_len (a + 1) n ++ k ∷ []) e)

pub range_next : (a n : ℕ) → range_with_len a (n + 1) ≡ range_with_len a n ++ (a + n) ∷ []
range_next a n = let e : n + 1 ≡ suc n = omega arith in ap (range_with_len a) e ∙ range_more a n

kept_one : (b : Bool) (k : ℕ) (tables : List ℕ) → tables ++ cond b (k ∷ []) [] ≡ cond b (tables ++ k ∷ []) tables
kept_one true k tables = refl
kept_one false k tables = append-nil tables

pub descendants_next :
    (test : ℕ → Bool) (n : ℕ) (b : Bool) → test n ≡ b → filter test (layout_below (n + 1)) ≡ cond b (filter test (layout_below n) ++ n ∷ []) (filter test (layout_below n))
descendants_next test n b is =
    let e : 0 + n ≡ n = omega arith in
    ap (filter test) (range_next 0 n ∙ ap (λ k. layout_below n ++ k ∷ []) e)
    ∙ (filter-append test (layout_below n) (n ∷ [])
    ∙ (ap (λ c. filter test (layout_below n) ++ cond c (n ∷ []) []) is
    ∙ kept_one b n (filter test (layout_below n))))

-- tests of some numbers but the first
pub any_later : (p : ℕ → Bool) (xs : List ℕ) (k : ℕ) → 1 ≤ k → k < length xs → p (get_or xs k 0) ≡ true → list_any p (drop 1 xs) ≡ true
any_later p [] k some low h = absurd (omega (arith, low))
any_later p (x ∷ xs) zero some low h = absurd (omega (arith, some))
any_later p (x ∷ xs) (suc k) some low h = among xs k (omega (arith, low)) h
  where
    either : (a b : Bool) → b ≡ true → (a || b) ≡ true
    either true b e = refl
    either false b e = e

    among : (ys : List ℕ) (j : ℕ) → j < length ys → p (get_or ys j 0) ≡ true → list_any p ys ≡ true
    among [] j low h = absurd (omega (arith, low))
    among (y ∷ ys) zero low h = ap (λ b. b || list_any p ys) h
    among (y ∷ ys) (suc j) low h = either (p y) (list_any p ys) (among ys j (omega (arith, low)) h)

pub none_later : (p : ℕ → Bool) (xs : List ℕ) → ((k : ℕ) → 1 ≤ k → k < length xs → p (get_or xs k 0) ≡ false) → list_any p (drop 1 xs) ≡ false
none_later p [] h = refl
none_later p (x ∷ xs) h = none xs (λ k low. h (suc k) (omega arith) (omega (arith, low)))
  where
    none : (ys : List ℕ) → ((k : ℕ) → k < length ys → p (get_or ys k 0) ≡ false) → list_any p ys ≡ false
    none [] g = refl
    none (y ∷ ys) g = (λ i. g 0 (omega arith) i || list_any p ys) ∙ none ys (λ k low. g (suc k) (omega (arith, low)))

-- the levels of a table
pub level_is : (schema : Schema) → LevelsAreAncestors → IsTree schema → (table k : ℕ) → table < length schema → k < length (levels_of schema table)
    → ancestor schema k table ≡ Some (get_or (levels_of schema table) k 0)
level_is schema are tree table k there low = sym (are schema tree table k there) ∙ slice_get-get_or (levels_of schema table) k 0 low

pub level_up : (schema : Schema) → LevelsAreAncestors → IsTree schema → (table k : ℕ) → table < length schema → k + 1 < length (levels_of schema table)
    → parent schema (get_or (levels_of schema table) k 0) ≡ Some (get_or (levels_of schema table) (k + 1) 0)
unfolding ancestor
level_up schema are tree table k there low =
    let e : k + 1 ≡ suc k = omega arith in
    let here = level_is schema are tree table k there (omega (arith, low)) in
    let next = level_is schema are tree table (k + 1) there low in
    sym (ap (option_and_then (parent schema)) here) ∙ (sym (ap (λ n. ancestor schema n table) e) ∙ next)

some_same : {a b : ℕ} → Some a ≡ Some b → a ≡ b
some_same e = cc (e)

pub own_level : (schema : Schema) → LevelsAreAncestors → IsTree schema → (table : ℕ) → table < length schema → 0 < length (levels_of schema table)
    → get_or (levels_of schema table) 0 0 ≡ table
own_level schema are tree table there low = some_same (sym (level_is schema are tree table 0 there low) ∙ here schema table)

pub level_found : (schema : Schema) → LevelsAreAncestors → IsTree schema → (table k from : ℕ) → table < length schema → k < length (levels_of schema table)
    → ancestor schema k table ≡ Some from → get_or (levels_of schema table) k 0 ≡ from
level_found schema are tree table k from there low h = some_same (sym (level_is schema are tree table k there low) ∙ h)

-- one table more, whose rows are led to or which is not below
vectors_next : (all : List (Vec ℕ Global)) (v : Vec ℕ Global) → map items_of (all ++ v ∷ []) ≡ map items_of all ++ v.items ∷ []
vectors_next [] v = refl
vectors_next (x ∷ all) v = ap (λ xs. x.items ∷ xs) (vectors_next all v)

pub led_some :
    (cat : Catalog) (hidden : Hidden) (from other : ℕ) (all new : List (Vec ℕ Global)) (v : Vec ℕ Global) → new ≡ all ++ v ∷ []
    → is_below cat.schema from other ≡ true → AreLed cat hidden from (filter (is_below cat.schema from) (layout_below other)) (map items_of all)
    → LeadAs cat hidden from other v.items → AreLed cat hidden from (filter (is_below cat.schema from) (layout_below (other + 1))) (map items_of new)
led_some cat hidden from other all new v is under were lead =
    let tables = descendants_next (is_below cat.schema from) other true under in
    let columns = ap (map items_of) is ∙ vectors_next all v in
    subst (λ (cs : List (List ℕ)). AreLed cat hidden from (filter (is_below cat.schema from) (layout_below (other + 1))) cs) (sym columns)
    (subst (λ (ts : List ℕ). AreLed cat hidden from ts (map items_of all ++ v.items ∷ [])) (sym tables)
    (led_on cat hidden from (filter (is_below cat.schema from) (layout_below other)) (other ∷ []) (map items_of all) (v.items ∷ []) were (lead, tt)))

pub led_none :
    (cat : Catalog) (hidden : Hidden) (from other : ℕ) (all new : List (Vec ℕ Global)) → new ≡ all
    → is_below cat.schema from other ≡ false → AreLed cat hidden from (filter (is_below cat.schema from) (layout_below other)) (map items_of all)
    → AreLed cat hidden from (filter (is_below cat.schema from) (layout_below (other + 1))) (map items_of new)
led_none cat hidden from other all new is under were =
    let tables = descendants_next (is_below cat.schema from) other false under in
    subst (λ (vs : List (Vec ℕ Global)). AreLed cat hidden from (filter (is_below cat.schema from) (layout_below (other + 1))) (map items_of vs)) (sym is)
    (subst (λ (ts : List ℕ). AreLed cat hidden from ts (map items_of all)) (sym tables) were)

-- one level more, whose rows are ranked
pub ranked_more :
    (cat : Catalog) (hidden : Hidden) (table : ℕ) (own tables : List ℕ) (all new : List (Vec ℕ Global)) (v : Vec ℕ Global) (level : ℕ) → new ≡ all ++ v ∷ [] → length all ≡ level
    → ((k : ℕ) → k < level → RankedAbove cat hidden table own (get_or tables k 0) (get_or (map items_of all) k []))
    → RankedAbove cat hidden table own (get_or tables level 0) v.items
    → (k : ℕ) → k < level + 1 → RankedAbove cat hidden table own (get_or tables k 0) (get_or (map items_of new) k [])
ranked_more cat hidden table own tables all new v level is size were one =
    let columns = ap (map items_of) is ∙ vectors_next all v in
    let many = length-map all items_of in
    let e : length (map items_of all) + 0 ≡ level = omega (arith, many, size) in
    let last : v.items ≡ get_or (map items_of all ++ v.items ∷ []) level [] =
    sym (ap (λ n. get_or (map items_of all ++ v.items ∷ []) n []) (sym e) ∙ get_or-append-add (map items_of all) (v.items ∷ []) 0 []) in
    subst (λ (cs : List (List ℕ)). (k : ℕ) → k < level + 1 → RankedAbove cat hidden table own (get_or tables k 0) (get_or cs k [])) (sym columns)
    (below_next (λ k. RankedAbove cat hidden table own (get_or tables k 0) (get_or (map items_of all ++ v.items ∷ []) k [])) level
    (λ k low.
    subst (λ (ranks : List ℕ). RankedAbove cat hidden table own (get_or tables k 0) ranks)
    (sym (get_or_append_left (map items_of all) (v.items ∷ []) [] k (omega (arith, low, many, size)))) (were k low))
    (subst (λ (ranks : List ℕ). RankedAbove cat hidden table own (get_or tables level 0) ranks) last one))
