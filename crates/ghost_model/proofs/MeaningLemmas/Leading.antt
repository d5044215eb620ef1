-- Each row leads to one row of each table below its own: a path has fewer foreign keys than there are tables, and each
-- foreign key is the identifier of a row.
use Rattle.std.proofs.Common.{◌≡◌, ◌≢◌, refl, sym, ap, ◌∙◌, subst, ℕ, zero, suc, ◌+◌, ◌<◌, ◌≤◌, ◌⊎◌, inl, inr, pos, negsuc, Bool, true, false, not, nat_eq, nat_le, List, [], ◌∷◌, length, filter, Option, Some, None, slice_get, unwrap_or, option_and_then, arith, eqb-true, eq-eqb, leb-true, if◌then◌else◌}
use Rattle.std.specs.List.{range_with_len}
use Rattle.ghost_model.specs.core.Schema.{Schema, Column, Table, columns_of, columns_or_none, column_at, parent, is_table, is_empty, references_to, first_of, places_from, ancestor}
use Rattle.ghost_model.specs.core.Values.{Value, Null, Number, Text, Row, Rows, Database}
use Rattle.ghost_model.specs.laws.SchemaTrees.{IsTree}
use Rattle.ghost_model.specs.core.Database.{IsDatabase, rows_of, row_of, row_numbered, value_at_row, is_row_among, identifier_in, reference_column, points_to, leads_within, leads}
use Rattle.ghost_model.specs.laws.MeaningLaws.{Lands, LeadsFollowKeys}
use Rattle.ghost_model.proofs.MeaningLemmas.OneRow.{Among, among-filter, length-without, LeadsUp, leads_once, leads_on, both_true, not_equal, child_is}
use Rattle.ghost_model.proofs.SchemaRuleLemmas.{parent_below}
use Rattle.std.proofs.Math.Nat.{eq-or-lt_of_le}
use Rattle.std.proofs.lemmas.List.FromFn.{length-range_with_len}

-- the first step of a way up
pub first_step : (schema : Schema) (steps from to : ℕ) → ancestor schema (suc steps) to ≡ Some from
    → (above : ℕ) × (parent schema to ≡ Some above) × (ancestor schema steps above ≡ Some from)
unfolding ancestor
first_step schema zero from to h = (from, h, refl)
first_step schema (suc steps) from to h =
    let one = λ (middle : ℕ) (e : ancestor schema (suc steps) to ≡ Some middle). first_step schema steps middle to e in
    by one (ancestor schema (suc steps) to) refl h
  where
    by : ((middle : ℕ) → ancestor schema (suc steps) to ≡ Some middle → (above : ℕ) × (parent schema to ≡ Some above) × (ancestor schema steps above ≡ Some middle))
        → (o : Option ℕ) → ancestor schema (suc steps) to ≡ o → option_and_then (parent schema) o ≡ Some from
        → (above : ℕ) × (parent schema to ≡ Some above) × (ancestor schema (suc steps) above ≡ Some from)
    by one None e g = let bad : ⊥ = cc in absurd bad
    by one (Some middle) e g = (let r = one middle e in (r.0, r.1, ap (option_and_then (parent schema)) r.2 ∙ g))

-- the steps from a way's end on
pub one_step_more : (schema : Schema) (steps from to above : ℕ) → parent schema to ≡ Some above
    → ancestor schema steps above ≡ Some from → ancestor schema (suc steps) to ≡ Some from
unfolding ancestor
one_step_more schema zero from to above up h = up ∙ h
one_step_more schema (suc steps) from to above up h =
    let more = λ (middle : ℕ) (e : ancestor schema steps above ≡ Some middle). one_step_more schema steps middle to above up e in
    by more (ancestor schema steps above) refl h
  where
    by : ((middle : ℕ) → ancestor schema steps above ≡ Some middle → ancestor schema (suc steps) to ≡ Some middle)
        → (o : Option ℕ) → ancestor schema steps above ≡ o → option_and_then (parent schema) o ≡ Some from → ancestor schema (suc (suc steps)) to ≡ Some from
    by more None e g = let bad : ⊥ = cc in absurd bad
    by more (Some middle) e g = ap (option_and_then (parent schema)) (more middle e) ∙ g

pub parent_is_table : (schema : Schema) (table above : ℕ) → parent schema table ≡ Some above → above < length schema
parent_is_table schema table above h = parent_below schema table above h

-- a way up is shorter than the number of tables; `left` has the tables from which the table is not reached
pub short_way : (schema : Schema) → IsTree schema → (n : ℕ) (left : List ℕ) (steps from to : ℕ) → length left ≤ n
    → to < length schema
    → ((other : ℕ) → other < length schema → Among other left ⊎ LeadsUp schema other to)
    → ancestor schema steps to ≡ Some from → steps < n
short_way schema tree zero left steps from to short within cover h =
    (elim (cover to within) [
      | inl here ↦ (let fewer = length-without to left here in let bad : ⊥ = omega arith in absurd bad)
      | inr l ↦ absurd (tree.no_cycle to (record { steps = l.0; moves = l.1; back = l.2 }))
    ])
short_way schema tree (suc n) left zero from to short within cover h = omega arith
short_way schema tree (suc n) left (suc steps) from to short within cover h =
    let up = first_step schema steps from to h in
    (elim (cover to within) [
      | inr l ↦ absurd (tree.no_cycle to (record { steps = l.0; moves = l.1; back = l.2 }))
      | inl here ↦ (let fewer = length-without to left here in
          let rest = short_way schema tree n (filter (λ u. not (nat_eq u to)) left) steps from up.0 (omega arith) (parent_is_table schema to up.0 up.1)
          (λ other ho. (elim (cover other ho) [
            | inr l ↦ inr (leads_on schema other to up.0 l up.1)
            | inl stays ↦ (elim (nat_eq other to) as (λ v. nat_eq other to ≡ v → Among other (filter (λ u. not (nat_eq u to)) left) ⊎ LeadsUp schema other up.0) [
              | true ↦ λ s. inr (subst (λ w. LeadsUp schema w up.0) (sym (eqb-true other to s)) (leads_once schema to up.0 up.1))
              | false ↦ λ s. inl (among-filter (λ u. not (nat_eq u to)) other left stays (ap not s))
            ]) refl
          ])) up.2 in
          omega arith)
    ])

pub among_range : (at count x : ℕ) → at ≤ x → x < at + count → Among x (range_with_len at count)
among_range at zero x low high = let bad : ⊥ = omega arith in bad
among_range at (suc count) x low high =
    (elim (eq-or-lt_of_le low) [
      | inl same ↦ inl same
      | inr more ↦ inr (among_range (at + 1) count x (omega arith) (omega arith))
    ])

pub way_is_short : (schema : Schema) → IsTree schema → (steps from to : ℕ) → to < length schema
    → ancestor schema steps to ≡ Some from → steps < length schema
way_is_short schema tree steps from to within h =
    let all = range_with_len 0 (length schema) in
    let many = length-range_with_len 0 (length schema) in
    short_way schema tree (length schema) all steps from to (omega arith) within (λ other ho. inl (among_range 0 (length schema) other (omega arith) (omega arith))) h

-- the end of a key, after a row that was reached
abbrev pub onwards : Schema → Database → (above to : ℕ) → Option ℕ → Option ℕ
onwards schema database above to o = option_and_then (λ reached. points_to schema database above reached to) o

pub to_itself_within : (schema : Schema) (database : Database) (steps : Schema) (from identifier to : ℕ) → from ≡ to
    → leads_within steps schema database from identifier to ≡ Some identifier
unfolding leads_within
to_itself_within schema database [] from identifier to same =
    ap (λ v. if v then Some identifier else None) (eq-eqb from to same)
to_itself_within schema database (x ∷ steps) from identifier to same =
    ap (λ v. if v then Some identifier else option_and_then (λ above. onwards schema database above to (leads_within steps schema database from identifier above)) (parent schema to)) (eq-eqb from to same)

pub along_within : (schema : Schema) (database : Database) (x : Table) (steps : Schema) (from identifier to above : ℕ)
    → from ≢ to → parent schema to ≡ Some above
    → leads_within (x ∷ steps) schema database from identifier to ≡ onwards schema database above to (leads_within steps schema database from identifier above)
unfolding leads_within
along_within schema database x steps from identifier to above differ up =
    ap (λ v. if v then Some identifier else option_and_then (λ above. onwards schema database above to (leads_within steps schema database from identifier above)) (parent schema to)) (not_equal from to differ)
    ∙ ap (option_and_then (λ above. onwards schema database above to (leads_within steps schema database from identifier above))) up

pub no_step : (schema : Schema) (from to : ℕ) → ancestor schema 0 to ≡ Some from → from ≡ to
unfolding ancestor
no_step schema from to h = sym (ap (λ o. unwrap_or o from) h)

pub different : (schema : Schema) → IsTree schema → (steps from to : ℕ) → ancestor schema (suc steps) to ≡ Some from
    → from ≢ to
different schema tree steps from to h same =
    tree.no_cycle to (record { steps = suc steps; moves = omega arith; back = h ∙ ap Some same })

-- the number of steps that may be taken does not matter where it suffices
pub leads_alike : (schema : Schema) (database : Database) → IsTree schema
    → (steps : ℕ) (one other : Schema) (from identifier to : ℕ) → steps ≤ length one → steps ≤ length other
    → ancestor schema steps to ≡ Some from
    → leads_within one schema database from identifier to ≡ leads_within other schema database from identifier to
leads_alike schema database tree zero one other from identifier to a b h =
    let same = no_step schema from to h in
    to_itself_within schema database one from identifier to same ∙ sym (to_itself_within schema database other from identifier to same)
leads_alike schema database tree (suc steps) [] other from identifier to a b h = let bad : ⊥ = omega arith in absurd bad
leads_alike schema database tree (suc steps) (x ∷ one) [] from identifier to a b h = let bad : ⊥ = omega arith in absurd bad
leads_alike schema database tree (suc steps) (x ∷ one) (y ∷ other) from identifier to a b h =
    let up = first_step schema steps from to h in
    let differ = different schema tree steps from to h in
    let alike =
    leads_alike schema database tree steps one other from identifier up.0 (omega arith) (omega arith) up.2 in
    along_within schema database x one from identifier to up.0 differ up.1 ∙ ap (onwards schema database up.0 to) alike
    ∙ sym (along_within schema database y other from identifier to up.0 differ up.1)

-- a place that is told has an element that passes
pub told_place : {X : Type 0} (p : X → Bool) (at : ℕ) (xs : List X) (i : ℕ) → first_of (places_from p at xs) ≡ Some i
    → (k : ℕ) × (x : X) × (i ≡ at + k) × (slice_get xs k ≡ Some x) × (p x ≡ true)
unfolding places_from
told_place p at [] i h = let bad : ⊥ = cc in absurd bad
told_place {X = X} p at (y ∷ ys) i h =
    (elim (p y) as (λ v. p y ≡ v → first_of (if v then at ∷ places_from p (at + 1) ys else places_from p (at + 1) ys) ≡ Some i
    → (k : ℕ) × (x : X) × (i ≡ at + k) × (slice_get (y ∷ ys) k ≡ Some x) × (p x ≡ true)) [
      | true ↦ λ e g. (let it : at ≡ i = ap (λ o. unwrap_or o at) g in let same : i ≡ at + 0 = omega arith in (0, y, same, refl, e))
      | false ↦ λ e g. (let r = told_place p (at + 1) ys i g in let further = r.2 in let same : i ≡ at + suc r.0 = omega arith in (suc r.0, r.1, same, r.3, r.4))
    ]) refl h

pub first_some : {X : Type 0} (xs : List X) → is_empty xs ≡ false → (x : X) × (first_of xs ≡ Some x)
first_some [] h = let bad : ⊥ = cc in absurd bad
first_some (x ∷ xs) h = (x, refl)

pub not_to_false : (b : Bool) → not b ≡ true → b ≡ false
not_to_false true h = sym h
not_to_false false h = refl

pub place_within : {X : Type 0} (xs : List X) (k : ℕ) (x : X) → slice_get xs k ≡ Some x → k < length xs
place_within [] k x h = let bad : ⊥ = cc in absurd bad
place_within (y ∷ ys) zero x h = omega arith
place_within (y ∷ ys) (suc k) x h = let later = place_within ys k x h in omega arith

pub get_within : {X : Type 0} (xs : List X) (k : ℕ) → k < length xs → (x : X) × (slice_get xs k ≡ Some x)
get_within [] k h = let bad : ⊥ = omega arith in absurd bad
get_within (y ∷ ys) zero h = (y, refl)
get_within (y ∷ ys) (suc k) h = get_within ys k (omega arith)

-- a table with a parent is one of the schema
pub table_with_parent : (schema : Schema) → IsTree schema → (table above : ℕ) → parent schema table ≡ Some above
    → table < length schema
table_with_parent schema tree table above up =
    let f = told_place (λ (t : Table). not (is_empty (references_to table t))) 0 schema above up in
    let c = first_some (references_to table f.1) (not_to_false (is_empty (references_to table f.1)) f.4) in
    let k = told_place (λ (column : Column). is_table table column.child) 0 f.1.columns c.0 c.1 in
    tree.references_name_tables f.0 k.0 table k.1 (ap (λ o. slice_get (columns_or_none o) k.0) f.3 ∙ k.3) (child_is table k.1.child k.4)

-- a value that is the identifier of a row, and that row
pub row_among : (rows : Rows) (v : Value) → is_row_among (length rows) v ≡ true
    → (m : ℕ) × (row : Row) × (identifier_in (Some v) ≡ Some m) × (row_numbered rows m ≡ Some row)
row_among rows Null h = let bad : ⊥ = cc in absurd bad
row_among rows (Text text) h = let bad : ⊥ = cc in absurd bad
row_among rows (Number (negsuc n)) h = let bad : ⊥ = cc in absurd bad
row_among rows (Number (pos zero)) h = let bad : ⊥ = cc in absurd bad
row_among rows (Number (pos (suc m))) h =
    let b = both_true (nat_le 1 (suc m)) (nat_le (suc m) (length rows)) h in
    let few = leb-true (suc m) (length rows) b.1 in
    let r = get_within rows m (omega arith) in
    (suc m, r.0, refl, r.1)

-- the row to which the key of a row of the parent points
pub points_somewhere : (schema : Schema) (database : Database) → IsTree schema → IsDatabase schema database
    → (above to identifier : ℕ) (row : Row) → parent schema to ≡ Some above
    → row_of database above identifier ≡ Some row
    → (m : ℕ) × (other : Row) × (points_to schema database above identifier to ≡ Some m) × (row_of database to m ≡ Some other)
points_somewhere schema database tree is above to identifier row up hr =
    let f = told_place (λ (t : Table). not (is_empty (references_to to t))) 0 schema above up in
    let at_above : f.0 ≡ above = (let e = f.2 in omega arith) in
    let held : slice_get schema above ≡ Some f.1 = ap (slice_get schema) (sym at_above) ∙ f.3 in
    let c = first_some (references_to to f.1) (not_to_false (is_empty (references_to to f.1)) f.4) in
    let k = told_place (λ (column : Column). is_table to column.child) 0 f.1.columns c.0 c.1 in
    let at_column : c.0 ≡ k.0 = (let e = k.2 in omega arith) in
    let key : reference_column schema above to ≡ Some k.0 =
    ap (option_and_then (λ t. first_of (references_to to t))) held ∙ c.1 ∙ ap Some at_column in
    let columns : columns_of schema above ≡ f.1.columns = ap columns_or_none held in
    let declared : column_at schema above k.0 ≡ Some k.1 = ap (λ w. slice_get w k.0) columns ∙ k.3 in
    let width = is.widths above identifier row hr ∙ ap length columns in
    let within = place_within f.1.columns k.0 k.1 k.3 in
    let v = get_within row k.0 (omega arith) in
    let stands : value_at_row database above identifier k.0 ≡ Some v.0 =
    ap (option_and_then (λ w. slice_get w k.0)) hr ∙ v.1 in
    let good = is.references above identifier k.0 to v.0 k.1 stands declared (child_is to k.1.child k.4) in
    let r = row_among (rows_of database to) v.0 good in
    (r.0, r.1, ap (option_and_then (λ column. identifier_in (value_at_row database above identifier column))) key ∙ ap identifier_in stands ∙ r.2, r.3)

-- the two laws and the rows

pub along : (schema : Schema) (database : Database) → IsTree schema → (steps from above to identifier : ℕ)
    → ancestor schema steps above ≡ Some from → parent schema to ≡ Some above
    → leads schema database from identifier to ≡ onwards schema database above to (leads schema database from identifier above)
along schema database tree steps from above to identifier h up =
    let way = one_step_more schema steps from to above up h in
    let within = table_with_parent schema tree to above up in
    let short = way_is_short schema tree (suc steps) from to within way in
    by schema (different schema tree steps from to way) short
  where
    by : (all : Schema) → from ≢ to → suc steps < length all
        → leads_within all schema database from identifier to ≡ onwards schema database above to (leads_within all schema database from identifier above)
    by [] differ short = let bad : ⊥ = omega arith in absurd bad
    by (x ∷ rest) differ short =
        along_within schema database x rest from identifier to above differ up
        ∙ ap (onwards schema database above to) (leads_alike schema database tree steps rest (x ∷ rest) from identifier above (omega arith) (omega arith) h)

pub landing : (schema : Schema) (database : Database) → IsTree schema → IsDatabase schema database
    → (steps from to identifier : ℕ) (row : Row) → ancestor schema steps to ≡ Some from
    → row_of database from identifier ≡ Some row → Lands schema database from identifier to
landing schema database tree is zero from to identifier row h hr =
    let same = no_step schema from to h in
    record { reached = identifier; row = row; led = to_itself_within schema database schema from identifier to same; stands = subst (λ t. row_of database t identifier ≡ Some row) same hr }
landing schema database tree is (suc steps) from to identifier row h hr =
    let up = first_step schema steps from to h in
    let above = landing schema database tree is steps from up.0 identifier row up.2 hr in
    let p = points_somewhere schema database tree is up.0 to above.reached above.row up.1 above.stands in
    record {
      reached = p.0;
      row = p.1;
      led = along schema database tree steps from up.0 to identifier up.2 up.1 ∙ ap (onwards schema database up.0 to) above.led ∙ p.2;
      stands = p.3;
    }

pub rows_lead : (schema : Schema) (database : Database) → IsTree schema → IsDatabase schema database
    → LeadsFollowKeys schema database
rows_lead schema database tree is = record {
  to_itself = λ table identifier. to_itself_within schema database schema table identifier table refl;
  along_a_reference = λ from above to identifier h up. along schema database tree h.0 from above to identifier h.1 up;
  lands = λ from to identifier row h hr. landing schema database tree is h.0 from to identifier row h.1 hr;
}
