-- Pages that hold a database's subtree key tables have in the slot of each row those that it leads to.
use Rattle.std.proofs.Common.{◌≡◌, refl, sym, ap, ◌∙◌, subst, ℕ, zero, suc, ◌+◌, ◌-◌, ◌^◌, ◌<◌, ◌≤◌, Bool, true, false, cond, ◌&&◌, ◌||◌, nat_le, inl, inr, List, [], ◌∷◌, ◌++◌, length, map, take, drop, filter, flat_map, get_or, Option, Some, None, slice_get, unwrap_or, arith}
use Rattle.std.specs.Prelude.{◌==◌, if◌then◌else◌}
use Rattle.std.specs.List.{range_with_len, list_any, AllByRecursion, slice_range}
use Rattle.std.specs.Int.{from_be_bytes, w32}
use Rattle.std.proofs.lemmas.Bool.{eqb-true, le-leb}
use Rattle.std.proofs.lemmas.List.{take-append-le}
use Rattle.std.proofs.Math.Seq.{drop-append_seam}
use Rattle.std.proofs.lemmas.List.FromFn.{get_or-map-range_with_len}
use Rattle.ghost_model.specs.core.Schema.{Schema, is_empty, ancestor, IsAtOrBelow}
use Rattle.ghost_model.specs.core.Values.{Row, Database}
use Rattle.ghost_model.specs.core.Channel.{Catalog}
use Rattle.ghost_model.specs.core.Database.{IsDatabase, rows_of, row_of, row_counts, leads}
use Rattle.ghost_model.specs.core.Split.{hidden_of}
use Rattle.ghost_model.specs.laws.MeaningLaws.{Lands, RowsLeadToRows}
use Rattle.ghost_model.specs.laws.LayoutLaws.{IsLimited, AreFew, LayoutIsSmall, LevelsAreAncestors}
use Rattle.ghost_model.specs.laws.FlashLaws.{RowsLeadByHiddenValues, RecordsAreAsWide}
use Rattle.ghost_model.specs.laws.RunLaws.{NumbersAreRead}
use Rattle.ghost_model.specs.forms.Runs.{number_in, number_cell, record_at}
use Rattle.ghost_model.specs.forms.Layout.{below, levels_of, above_of, is_below, descendants_of, count_of, subtree_table}
use Rattle.ghost_model.specs.forms.Flash.{HoldsSubtrees, leads_to, subtree_record, ids}
use Rattle.ghost_model.specs.forms.Slots.{is_row, are_rows}
use Rattle.ghost_model.proofs.MeaningLemmas.Leading.{place_within, get_within}
use Rattle.ghost_model.proofs.FlashLemmas.Values.{count_there}
use Rattle.subtree_keys.specs.declared.table.SubtreeTable.{SubtreeTable}
use Rattle.subtree_keys.specs.Tables.{identifiers, are_rows_of, row_spelled, IsTableOf, slot_row}
use Rattle.subtree_keys.specs.Laws.{rows_spelled, row_on, LeadsTo, HasRow, HoldsTableBut, TablesGiveRows, HeldTablesAreHeldBut, TablesAreRightButForDamage, TablesAreOfSlots}

-- the words of a table's numbers of rows are those of the layout's slots
same_test : (cat : Catalog) (tables bytes : List ℕ) → are_rows_of (map (count_of cat) tables) bytes ≡ are_rows cat tables bytes
same_test cat [] bytes = refl
same_test cat (table ∷ tables) bytes = ap (λ b. is_row cat table (number_in bytes 0) && b) (same_test cat tables (drop 4 bytes))

same_ids : (cat : Catalog) (tables bytes : List ℕ) → identifiers (map (count_of cat) tables) bytes ≡ identifiers tables bytes
same_ids cat [] bytes = refl
same_ids cat (table ∷ tables) bytes = ap (λ xs. number_in bytes 0 ∷ xs) (same_ids cat tables (drop 4 bytes))

same_row : (cat : Catalog) (tables bytes : List ℕ) → row_spelled (map (count_of cat) tables) bytes ≡ rows_spelled cat tables bytes
same_row cat tables bytes =
    ap (λ b. if b then Some (identifiers (map (count_of cat) tables) bytes) else None) (same_test cat tables bytes)
    ∙ ap (λ xs. if are_rows cat tables bytes then Some xs else None) (same_ids cat tables bytes)

pub tables_are : TablesAreOfSlots
tables_are page cat table keys is identifier =
    (λ i. row_spelled (is.rows_are i) (record_at page (is.run_is i) (identifier - 1)))
    ∙ same_row cat (descendants_of cat.schema table) (record_at page (subtree_table cat table) (identifier - 1))

-- a table that is found at some place
abbrev IsAt : (table : ℕ) (xs : List ℕ) → Type 0
IsAt table xs = (k : ℕ) × (slice_get xs k ≡ Some table)

first_or_later : (table x : ℕ) (xs : List ℕ) (b : Bool) → (x == table) ≡ b → (b || list_any (λ above. above == table) xs) ≡ true
    → (list_any (λ above. above == table) xs ≡ true → IsAt table xs) → IsAt table (x ∷ xs)
first_or_later table x xs true same h later = (0, ap Some (eqb-true x table same))
first_or_later table x xs false same h later = let at = later h in (suc at.0, at.1)

found_at : (table : ℕ) (xs : List ℕ) → list_any (λ above. above == table) xs ≡ true → IsAt table xs
found_at table [] e = absurd (cc (e))
found_at table (x ∷ xs) e = first_or_later table x xs (x == table) refl e (found_at table xs)

one_later : (xs : List ℕ) (k x : ℕ) → slice_get (drop 1 xs) k ≡ Some x → slice_get xs (suc k) ≡ Some x
one_later [] k x e = absurd (cc (e))
one_later (y ∷ xs) k x e = e

all_found : (P : ℕ → Type 0) (test : ℕ → Bool) (a n : ℕ) → ((k : ℕ) → a ≤ k → k < a + n → test k ≡ true → P k)
    → AllByRecursion P (filter test (range_with_len a n))
all_found P test a zero h = tt
all_found P test a (suc n) h = step (test a) refl (all_found P test (a + 1) n (λ k low high. h k (omega (arith, low)) (omega (arith, high))))
  where
    step : (b : Bool) → test a ≡ b → AllByRecursion P (filter test (range_with_len (a + 1) n))
        → AllByRecursion P (cond b (a ∷ filter test (range_with_len (a + 1) n)) (filter test (range_with_len (a + 1) n)))
    step true e rest = (h a (omega arith) (omega arith) e, rest)
    step false e rest = rest

-- a number before other bytes
first_number : NumbersAreRead → RecordsAreAsWide → (number : ℕ) (rest : List ℕ) → number < 2 ^ 32 → number_in (number_cell number ++ rest) 0 ≡ number
unfolding number_in
first_number read wide number rest small =
    let size = wide.number number in
    let cell = number_cell number in
    ap (from_be_bytes w32) (take-append-le 4 cell rest (omega (arith, size)) ∙ refl) ∙ read number small

later_numbers : RecordsAreAsWide → (number : ℕ) (rest : List ℕ) → drop 4 (number_cell number ++ rest) ≡ rest
later_numbers wide number rest =
    let size = wide.number number in
    let cell = number_cell number in
    ap (λ n. drop n (cell ++ rest)) (sym size) ∙ drop-append_seam cell rest

module _ (cat : Catalog) (database : Database) (limited : IsLimited cat) (is : IsDatabase cat.schema database) (counts : row_counts database ≡ cat.counts)
    (few : AreFew cat) (levels : LevelsAreAncestors) (lead : RowsLeadToRows) (alike : RowsLeadByHiddenValues) (wide : RecordsAreAsWide)
    (read : NumbersAreRead) (table identifier : ℕ) (some : 1 ≤ identifier) (within : identifier ≤ count_of cat table) where
  led : ℕ → Option ℕ
  led to = leads_to cat.schema (hidden_of cat.schema database) table identifier to

  count_is : (other : ℕ) → count_of cat other ≡ length (rows_of database other)
  count_is other = sym (ap (λ (ns : List ℕ). get_or ns other 0) counts) ∙ count_there database other

  -- the row leads to a row of a table
  record Reaches (to : ℕ) : Type 0 where
    row : ℕ
    is_led : leads_to cat.schema (hidden_of cat.schema database) table identifier to ≡ Some row
    least : 1 ≤ row
    most : row ≤ count_of cat to

  reached : (to row : ℕ) (values : Row) → leads_to cat.schema (hidden_of cat.schema database) table identifier to ≡ Some row
      → row_of database to row ≡ Some values → Reaches to
  reached to zero values e stands = absurd (cc (stands))
  reached to (suc place) values e stands =
      let size = count_is to in
      let near = place_within (rows_of database to) place values stands in
      record { row = suc place; is_led = e; least = omega arith; most = omega (arith, size, near) }

  row_there : (n : ℕ) → 1 ≤ n → n ≤ count_of cat table → (values : Row) × (row_of database table n ≡ Some values)
  row_there zero low high = absurd (omega (arith, low))
  row_there (suc place) low high =
      let size = count_is table in
      get_within (rows_of database table) place (omega (arith, size, high))

  reaches : (to : ℕ) → to < length cat.schema → is_below cat.schema table to ≡ true → Reaches to
  reaches to there under =
      let at = found_at table (above_of cat.schema to) under in
      let up : IsAtOrBelow cat.schema table to = (
        suc at.0,
        sym (levels cat.schema limited.tree to (suc at.0) there) ∙ one_later (levels_of cat.schema to) at.0 table at.1,
      ) in
      let here = row_there identifier some within in
      let lands : Lands cat.schema database table identifier to =
      (lead cat.schema database limited.tree is).lands table to identifier here.0 up here.1 in
      reached to lands.reached lands.row (alike cat.schema database limited.tree is table identifier to ∙ lands.led) lands.stands

  bytes_of : (tables : List ℕ) → List ℕ
  bytes_of tables = flat_map (λ to. number_cell (unwrap_or (leads_to cat.schema (hidden_of cat.schema database) table identifier to) 0)) tables

  -- the record of some tables spells the rows
  record Spells (tables : List ℕ) (bytes : List ℕ) : Type 0 where
    tested : are_rows cat tables bytes ≡ true
    ids_are : map Some (identifiers tables bytes) ≡ map (leads_to cat.schema (hidden_of cat.schema database) table identifier) tables

  spells : (tables : List ℕ) → AllByRecursion Reaches tables
      → Spells tables (flat_map (λ to. number_cell (unwrap_or (leads_to cat.schema (hidden_of cat.schema database) table identifier to) 0)) tables)
  spells [] h = record { tested = refl; ids_are = refl }
  spells (to ∷ tables) h =
      let cell = λ (to : ℕ). number_cell (unwrap_or (leads_to cat.schema (hidden_of cat.schema database) table identifier to) 0) in
      let rest = flat_map cell tables in
      let here : Reaches to = h.0 in
      let later : Spells tables rest = spells tables h.1 in
      let value : unwrap_or (leads_to cat.schema (hidden_of cat.schema database) table identifier to) 0 ≡ here.row = ap (λ o. unwrap_or o 0) here.is_led in
      let rows = few.rows to in
      let least = here.least in
      let most = here.most in
      let first : number_in (cell to ++ rest) 0 ≡ here.row =
      ap (λ n. number_in (number_cell n ++ rest) 0) value ∙ first_number read wide here.row rest (omega (arith, rows, most)) in
      let after : drop 4 (cell to ++ rest) ≡ rest = later_numbers wide (unwrap_or (leads_to cat.schema (hidden_of cat.schema database) table identifier to) 0) rest in
      record {
        tested =
            ap (λ n. is_row cat to n && are_rows cat tables (drop 4 (cell to ++ rest))) first
            ∙ (ap (λ xs. is_row cat to here.row && are_rows cat tables xs) after
            ∙ (ap (λ b. is_row cat to here.row && b) later.tested
            ∙ (ap (λ b. (b && nat_le here.row (count_of cat to)) && true) (le-leb 1 here.row least)
            ∙ ap (λ b. b && true) (le-leb here.row (count_of cat to) most))));
        ids_are =
            ap (λ n. Some n ∷ map Some (identifiers tables (drop 4 (cell to ++ rest)))) first
            ∙ (ap (λ xs. Some here.row ∷ map Some (identifiers tables xs)) after
            ∙ (ap (λ xs. Some here.row ∷ xs) later.ids_are
            ∙ ap (λ o. o ∷ map (leads_to cat.schema (hidden_of cat.schema database) table identifier) tables) (sym here.is_led)));
      }

  -- the record of the row does
  spelled_row : table < length cat.schema → Spells (descendants_of cat.schema table) (subtree_record cat.schema (hidden_of cat.schema database) table identifier)
  spelled_row there =
      spells (descendants_of cat.schema table)
      (all_found Reaches (is_below cat.schema table) 0 (length cat.schema) (λ to low high under. reaches to (omega (arith, high)) under))

  given_row : table < length cat.schema
      → rows_spelled cat (descendants_of cat.schema table) (subtree_record cat.schema (hidden_of cat.schema database) table identifier)
      ≡ Some (identifiers (descendants_of cat.schema table) (subtree_record cat.schema (hidden_of cat.schema database) table identifier))
  given_row there =
      ap (λ b. if b then Some (identifiers (descendants_of cat.schema table) (subtree_record cat.schema (hidden_of cat.schema database) table identifier)) else None)
      (spelled_row there).tested

  pub right_but : (page : ℕ → List ℕ) → table < length cat.schema → HoldsTableBut page cat (hidden_of cat.schema database) table
      → (rows : List ℕ) → row_on page cat table identifier ≡ Some rows → LeadsTo cat (hidden_of cat.schema database) table identifier rows
  right_but page there holds rows e =
      let hidden = hidden_of cat.schema database in
      let tables = descendants_of cat.schema table in
      let bytes = subtree_record cat.schema hidden table identifier in
      let same : identifier - 1 + 1 ≡ identifier = omega (arith, some) in
      elim (holds (identifier - 1) (omega (arith, some, within))) [
        | inl is ↦ (let on : row_on page cat table identifier ≡ Some (identifiers tables bytes) =
            ap (rows_spelled cat tables) (is ∙ ap (subtree_record cat.schema hidden table) same) ∙ given_row there in
            let both : Some (identifiers tables bytes) ≡ Some rows = sym on ∙ e in
            let one : identifiers tables bytes ≡ rows = cc in
            subst (LeadsTo cat (hidden_of cat.schema database) table identifier) one (spelled_row there).ids_are)
        | inr wrong ↦ (let none : row_on page cat table identifier ≡ None =
            ap (λ b. if b then Some (identifiers tables (record_at page (subtree_table cat table) (identifier - 1))) else None) wrong in
            let clash = sym none ∙ e in
            absurd (cc (clash)))
      ]

  pub has_row : (page : ℕ → List ℕ) → HoldsSubtrees page cat (hidden_of cat.schema database) → table < length cat.schema
      → is_empty (descendants_of cat.schema table) ≡ false → HasRow page cat (hidden_of cat.schema database) table identifier
  has_row page holds there below =
      let hidden = hidden_of cat.schema database in
      let tables = descendants_of cat.schema table in
      let stores = holds table there below in
      let same : 1 + (identifier - 1) ≡ identifier = omega (arith, some) in
      let record_is : record_at page (subtree_table cat table) (identifier - 1) ≡ subtree_record cat.schema hidden table identifier =
      stores.has.each (identifier - 1) (omega (arith, some, within))
      ∙ get_or-map-range_with_len (subtree_record cat.schema hidden table) 1 (count_of cat table) (identifier - 1) identifier [] (omega (arith, some, within)) same in
      let on : row_on page cat table identifier ≡ Some (identifiers tables (subtree_record cat.schema hidden table identifier)) =
      ap (rows_spelled cat tables) record_is ∙ given_row there in
      record {
        rows = identifiers tables (subtree_record cat.schema hidden table identifier);
        led = (spelled_row there).ids_are;
        on_pages = on;
        in_slot = λ keys of. tables_are page cat table keys of identifier ∙ on;
      }

pub give_rows : LayoutIsSmall → LevelsAreAncestors → RowsLeadToRows → RowsLeadByHiddenValues → RecordsAreAsWide → NumbersAreRead → TablesGiveRows
give_rows small levels lead alike wide read page cat database limited is counts holds table there below identifier some within =
    has_row cat database limited is counts (small.few cat limited) levels lead alike wide read table identifier some within page holds there below

pub are_right : LayoutIsSmall → LevelsAreAncestors → RowsLeadToRows → RowsLeadByHiddenValues → RecordsAreAsWide → NumbersAreRead → TablesAreRightButForDamage
are_right small levels lead alike wide read page cat database limited is counts table there holds identifier some within rows e =
    right_but cat database limited is counts (small.few cat limited) levels lead alike wide read table identifier some within page there holds rows e

pub held_but : HeldTablesAreHeldBut
held_but page cat hidden holds table there below place low =
    let e : 1 + place ≡ place + 1 = omega arith in
    inl ((holds table there below).has.each place low ∙ get_or-map-range_with_len (subtree_record cat.schema hidden table) 1 (count_of cat table) place (place + 1) [] low e)
