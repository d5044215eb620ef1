-- Where rows lead, along the foreign keys.
use Rattle.std.proofs.Common.{◌≡◌, refl, sym, ap, ◌∙◌, subst, ℕ, zero, suc, ◌+◌, ◌-◌, ◌<◌, ◌≤◌, ℤ, pos, true, List, length, map, get_or, Option, Some, None, slice_get, option_and_then, arith}
use Rattle.std.specs.Prelude.{IsTrue}
use Rattle.std.proofs.lemmas.List.{length-map, get_or-map}
use Rattle.std.proofs.lemmas.List.Elements.{All-get_or, All-from_get_or}
use Rattle.std.proofs.lemmas.List.FromFn.{length-range_with_len, get_or-range_with_len}
use Rattle.ghost_model.specs.core.Schema.{Schema, Table, Column, column_at, columns_or_none, parent, ancestor, references_to, first_of, is_table, IsAtOrBelow}
use Rattle.ghost_model.specs.core.Values.{Number, Database}
use Rattle.ghost_model.specs.core.Channel.{Catalog}
use Rattle.ghost_model.specs.core.Database.{IsDatabase, row_count, row_counts, value_at_row, identifier_in, is_row_among, points_to, leads}
use Rattle.ghost_model.specs.core.Split.{Hidden, hidden_of}
use Rattle.ghost_model.specs.laws.SchemaTrees.{IsTree}
use Rattle.ghost_model.specs.laws.MeaningLaws.{LeadsFollowKeys}
use Rattle.ghost_model.specs.forms.Layout.{is_hidden, count_of}
use Rattle.ghost_model.specs.forms.Flash.{IsHidden, ids, hidden_database}
use Rattle.ghost_model.proofs.MeaningLemmas.OneRow.{child_is}
use Rattle.ghost_model.proofs.MeaningLemmas.Leading.{first_step, one_step_more, to_itself_within, told_place, rows_lead}
use Rattle.ghost_model.proofs.FlashLemmas.Keys.{lead_alike, field_hidden}
use Rattle.ghost_model.proofs.FlashLemmas.Values.{count_there}
use Rattle.ghost_model.proofs.LayoutLemmas.Columns.{hidden_or_none}
use Rattle.index_lists.specs.Ranks.{identifier_of, of_referred}
use Rattle.index_lists.proofs.NamedRows.{IsRow, row_named}
use Rattle.index_lists.specs.Laws.{LeadAs, AreKeys, KeysLead}

pub to_themselves : (cat : Catalog) (hidden : Hidden) (table : ℕ) → LeadAs cat hidden table table (ids (count_of cat table))
to_themselves cat hidden table =
    let n = count_of cat table in
    let long = length-range_with_len 1 n in
    record {
      long = long;
      each = λ identifier some most.
          let here : get_or (ids n) (identifier - 1) 0 ≡ 1 + (identifier - 1) = get_or-range_with_len 1 n (identifier - 1) 0 (omega (arith, some, most)) in
          let same : identifier ≡ get_or (ids n) (identifier - 1) 0 = omega (arith, here, some) in
          to_itself_within cat.schema (hidden_database cat.schema hidden) cat.schema table identifier table refl ∙ ap Some same;
      above = All-from_get_or (λ row. 0 < row) (ids n) 0 (λ i low. omega (arith, get_or-range_with_len 1 n i 0 (omega (arith, long, low))));
      within = All-from_get_or (λ row. row ≤ n) (ids n) 0 (λ i low. omega (arith, get_or-range_with_len 1 n i 0 (omega (arith, long, low)), long, low));
    }

itself : (schema : Schema) (table : ℕ) → IsAtOrBelow schema table table
unfolding ancestor
itself schema table = (0, refl)

-- one way after another
and_then_twice : (f g : ℕ → Option ℕ) (o : Option ℕ) → option_and_then g (option_and_then f o) ≡ option_and_then (λ x. option_and_then g (f x)) o
and_then_twice f g None = refl
and_then_twice f g (Some x) = refl

same_then : (f g : ℕ → Option ℕ) (o : Option ℕ) → ((x : ℕ) → f x ≡ g x) → option_and_then f o ≡ option_and_then g o
same_then f g None h = refl
same_then f g (Some x) h = h x

some_then : (o : Option ℕ) → option_and_then (λ x. Some x) o ≡ o
some_then None = refl
some_then (Some x) = refl

no_step : (schema : Schema) (from to : ℕ) → ancestor schema 0 to ≡ Some from → to ≡ from
unfolding ancestor
no_step schema from to h = cc

further : (schema : Schema) (steps more above from to : ℕ) → ancestor schema steps to ≡ Some from → ancestor schema more from ≡ Some above → IsAtOrBelow schema above to
further schema zero more above from to h k = (more, ap (ancestor schema more) (no_step schema from to h) ∙ k)
further schema (suc steps) more above from to h k =
    let up = first_step schema steps from to h in
    let rest = further schema steps more above from up.0 up.2 k in
    (suc rest.0, one_step_more schema rest.0 above to up.0 up.1 rest.1)

module _ (schema : Schema) (database : Database) (follow : LeadsFollowKeys schema database) (above from identifier : ℕ) (more : ℕ) (higher : ancestor schema more from ≡ Some above) where
  leads_on : (steps to : ℕ) → ancestor schema steps to ≡ Some from
      → leads schema database above identifier to ≡ option_and_then (λ row. leads schema database from row to) (leads schema database above identifier from)
  leads_on zero to h =
      let e = no_step schema from to h in
      ap (leads schema database above identifier) e
      ∙ (sym (some_then (leads schema database above identifier from))
      ∙ same_then (λ x. Some x) (λ row. leads schema database from row to) (leads schema database above identifier from)
      (λ row. sym (ap (leads schema database from row) e ∙ follow.to_itself from row)))
  leads_on (suc steps) to h =
      let up = first_step schema steps from to h in
      let middle = up.0 in
      let key = λ (row : ℕ). points_to schema database middle row to in
      follow.along_a_reference above middle to identifier (further schema steps more above from middle up.2 higher) up.1
      ∙ (ap (option_and_then key) (leads_on steps middle up.2)
      ∙ (and_then_twice (λ row. leads schema database from row middle) key (leads schema database above identifier from)
      ∙ same_then (λ row. option_and_then key (leads schema database from row middle)) (λ row. leads schema database from row to) (leads schema database above identifier from)
      (λ row. sym (follow.along_a_reference from middle to row (steps, up.2) up.1))))

module _ (cat : Catalog) (database : Database) (tree : IsTree cat.schema) (is : IsDatabase cat.schema database) where
  go_on : (above from table : ℕ) → IsAtOrBelow cat.schema above from → IsAtOrBelow cat.schema from table
      → (identifiers reached : List ℕ) → LeadAs cat (hidden_of cat.schema database) above from identifiers → LeadAs cat (hidden_of cat.schema database) from table reached
      → LeadAs cat (hidden_of cat.schema database) above table (of_referred reached identifiers)
  go_on above from table higher lower identifiers reached one other =
      let held = λ (identifier : ℕ). get_or reached (identifier - 1) 0 in
      let size = length-map identifiers held in
      record {
        long = size ∙ one.long;
        each = λ identifier some most.
            let at : identifier - 1 < length identifiers = omega (arith, some, most, one.long) in
            let next = get_or identifiers (identifier - 1) 0 in
            let real = All-get_or (λ row. 0 < row) identifiers (identifier - 1) 0 at one.above in
            let there = All-get_or (λ row. row ≤ count_of cat from) identifiers (identifier - 1) 0 at one.within in
            let step : leads cat.schema database above identifier from ≡ Some next = sym (lead_alike cat.schema database tree is above identifier from) ∙ one.each identifier some most in
            lead_alike cat.schema database tree is above identifier table
            ∙ (leads_on cat.schema database (rows_lead cat.schema database tree is) above from identifier higher.0 higher.1 lower.0 table lower.1
            ∙ (ap (option_and_then (λ row. leads cat.schema database from row table)) step
            ∙ (sym (lead_alike cat.schema database tree is from next table)
            ∙ (other.each next real there ∙ ap Some (sym (get_or-map held identifiers (identifier - 1) 0 0 at))))));
        above = All-from_get_or (λ row. 0 < row) (map held identifiers) 0 (λ i low.
            let at : i < length identifiers = omega (arith, size, low) in
            let real = All-get_or (λ row. 0 < row) identifiers i 0 at one.above in
            let there = All-get_or (λ row. row ≤ count_of cat from) identifiers i 0 at one.within in
            let good = All-get_or (λ row. 0 < row) reached (get_or identifiers i 0 - 1) 0 (omega (arith, real, there, other.long)) other.above in
            omega (arith, get_or-map held identifiers i 0 0 at, good));
        within = All-from_get_or (λ row. row ≤ count_of cat table) (map held identifiers) 0 (λ i low.
            let at : i < length identifiers = omega (arith, size, low) in
            let real = All-get_or (λ row. 0 < row) identifiers i 0 at one.above in
            let there = All-get_or (λ row. row ≤ count_of cat from) identifiers i 0 at one.within in
            let good = All-get_or (λ row. row ≤ count_of cat table) reached (get_or identifiers i 0 - 1) 0 (omega (arith, real, there, other.long)) other.within in
            omega (arith, get_or-map held identifiers i 0 0 at, good));
      }

-- the column that is a foreign key
record IsKey (schema : Schema) (table child column : ℕ) : Type 0 where
  declared : Column
  there : column_at schema table column ≡ Some declared
  names : declared.child ≡ Some child

key_column : (schema : Schema) (table child column : ℕ) (o : Option Table) → slice_get schema table ≡ o
    → option_and_then (λ held. first_of (references_to child held)) o ≡ Some column → IsKey schema table child column
key_column schema table child column None there h = absurd (cc h)
key_column schema table child column (Some held) there h =
    let told = told_place (λ (c : Column). is_table child c.child) 0 held.columns column h in
    let at = told.2 in
    let same : column ≡ told.0 = omega (arith, at) in
    record {
      declared = told.1;
      there = ap (column_at schema table) same ∙ (ap (λ o. slice_get (columns_or_none o) told.0) there ∙ told.3);
      names = child_is child told.1.child told.4;
    }

module _ (cat : Catalog) (database : Database) (tree : IsTree cat.schema) (is : IsDatabase cat.schema database) (counts : row_counts database ≡ cat.counts) where
  count_is : (table : ℕ) → count_of cat table ≡ row_count database table
  count_is table = sym (ap (λ (ns : List ℕ). get_or ns table 0) counts) ∙ count_there database table

  keys_lead : (table child : ℕ) → parent cat.schema child ≡ Some table → (keys : List ℤ) → AreKeys cat (hidden_of cat.schema database) table child keys
      → KeysLead cat (hidden_of cat.schema database) table child keys
  keys_lead table child up keys are =
      let schema = cat.schema in
      let key : IsKey schema table child are.column = key_column schema table child are.column (slice_get schema table) refl are.names in
      let closed : is_hidden schema table are.column ≡ true = ap hidden_or_none key.there ∙ tree.references_are_hidden table are.column child key.declared key.there key.names in
      let value : (place : ℕ) → place < count_of cat table → value_at_row database table (suc place) are.column ≡ Some (Number (get_or keys place (pos 0))) =
      λ place low. sym (field_hidden schema database tree is table (suc place) are.column closed) ∙ are.each place low in
      let named : (place : ℕ) → place < count_of cat table → is_row_among (count_of cat child) (Number (get_or keys place (pos 0))) ≡ true =
      λ place low. subst (λ n. is_row_among n (Number (get_or keys place (pos 0))) ≡ true) (sym (count_is child))
      (is.references table (suc place) are.column child (Number (get_or keys place (pos 0))) key.declared (value place low) key.there key.names) in
      let row : (place : ℕ) → place < count_of cat table → IsRow (count_of cat child) (get_or keys place (pos 0)) =
      λ place low. row_named (count_of cat child) (get_or keys place (pos 0)) (named place low) in
      let identifier : (place : ℕ) → place < count_of cat table → get_or (map identifier_of keys) place 0 ≡ identifier_of (get_or keys place (pos 0)) =
      λ place low. get_or-map identifier_of keys place (pos 0) 0 (omega (arith, low, are.long)) in
      let size = length-map keys identifier_of in
      let follow : LeadsFollowKeys schema database = rows_lead schema database tree is in
      record {
        named = All-from_get_or (λ key. IsTrue (is_row_among (count_of cat child) (Number key))) keys (pos 0) (λ i low. named i (omega (arith, low, are.long)));
        lead = record {
          long = size ∙ are.long;
          each = λ identifier' some most.
              let place = identifier' - 1 in
              let low : place < count_of cat table = omega (arith, some, most) in
              let e : suc place ≡ identifier' = omega (arith, some) in
              let it = get_or keys place (pos 0) in
              let r = row place low in
              lead_alike schema database tree is table identifier' child
              ∙ (follow.along_a_reference table table child identifier' (itself schema table) up
              ∙ (ap (option_and_then (λ reached. points_to schema database table reached child)) (follow.to_itself table identifier')
              ∙ (ap (option_and_then (λ column. identifier_in (value_at_row database table identifier' column))) are.names
              ∙ (ap (λ k. identifier_in (value_at_row database table k are.column)) (sym e)
              ∙ (ap identifier_in (value place low)
              ∙ (ap (λ k. identifier_in (Some (Number k))) r.is ∙ ap Some (sym (identifier place low))))))));
          above = All-from_get_or (λ r. 0 < r) (map identifier_of keys) 0 (λ i low.
              let at : i < count_of cat table = omega (arith, size, low, are.long) in
              omega (arith, identifier i at, (row i at).real));
          within = All-from_get_or (λ r. r ≤ count_of cat child) (map identifier_of keys) 0 (λ i low.
              let at : i < count_of cat table = omega (arith, size, low, are.long) in
              omega (arith, identifier i at, (row i at).within));
        };
      }

pub leads_go_on : (cat : Catalog) (hidden : Hidden) → IsTree cat.schema → IsHidden cat hidden
    → (above from table : ℕ) → IsAtOrBelow cat.schema above from → IsAtOrBelow cat.schema from table
    → (identifiers reached : List ℕ) → LeadAs cat hidden above from identifiers → LeadAs cat hidden from table reached
    → LeadAs cat hidden above table (of_referred reached identifiers)
leads_go_on cat hidden tree part above from table higher lower identifiers reached one other =
    subst (λ h. LeadAs cat h above table (of_referred reached identifiers)) (sym part.part)
    (go_on cat part.database tree part.proper above from table higher lower identifiers reached
    (subst (λ h. LeadAs cat h above from identifiers) part.part one) (subst (λ h. LeadAs cat h from table reached) part.part other))

pub rows_lead_by_keys : (cat : Catalog) (hidden : Hidden) → IsTree cat.schema → IsHidden cat hidden
    → (table child : ℕ) → parent cat.schema child ≡ Some table → (keys : List ℤ) → AreKeys cat hidden table child keys
    → KeysLead cat hidden table child keys
rows_lead_by_keys cat hidden tree part table child up keys are =
    subst (λ h. KeysLead cat h table child keys) (sym part.part)
    (keys_lead cat part.database tree part.proper part.counted table child up keys (subst (λ h. AreKeys cat h table child keys) part.part are))
