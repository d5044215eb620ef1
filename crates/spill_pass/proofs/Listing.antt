-- What stands of the lists where pages are told: after a list was taken, and after the list of a group came to its end.
use Rattle.std.proofs.Common.{◌≡◌, ◌∙◌, ℕ, ◌+◌, ◌-◌, ◌*◌, ◌^◌, ◌<◌, ◌≤◌, ◌⊎◌, ◌↔◌, inl, inr, Bool, true, List, [], ◌∷◌, ◌++◌, length, map, get_or, ap, sym, refl, subst, arith}
use Rattle.std.specs.List.{concat}
use Rattle.std.proofs.lemmas.Bool.{cases_lt}
use Rattle.std.proofs.lemmas.List.{append-nil, length-append, length-map, get_or_append_left, get_or_push}
use Rattle.std.proofs.lemmas.List.Folds.{concat-append}
use Rattle.ghost_model.specs.forms.Runs.{number_cell, per_page}
use Rattle.ghost_base.specs.declared.runs.ListRef.{ListRef}
use Rattle.edge_traits.specs.Devices.{Device, ChangesOnly}
use Rattle.page_pool.specs.Pools.{Pool, IsOut, IsFree, AreOut, ChangesPage, leased, all_given}
use Rattle.page_pool.proofs.Leases.{outs_swapped, change_elsewhere, head_apart}
use Rattle.page_pool.specs.Laws.{SameBuffer}
use Rattle.flash_pages.specs.declared.cursor.RunCursor.{RunCursor}
use Rattle.flash_pages.specs.declared.writer.RunWriter.{RunWriter}
use Rattle.flash_pages.specs.Writers.{HasPut}
use Rattle.flash_pages.proofs.LeaseFrames.{put_kept}
use Rattle.id_merge.specs.declared.cursor.Cursor.{Cursor}
use Rattle.id_merge.specs.declared.cursor.Cursor.TheVariants.{List as OfList, Range}
use Rattle.id_merge.specs.declared.merge.Merge.{Merge}
use Rattle.id_merge.specs.Cursors.{cursor_at, leases_of, AreRight, CursorRight, IsRight, HasAhead, IsLeft}
use Rattle.id_merge.specs.Merges.{Remains, InAll, InUnion, start_of}
use Rattle.id_merge.proofs.Laws.{each_pushed}
use Rattle.spill_pass.specs.declared.merging.MergeInto.{MergeInto}
use Rattle.spill_pass.specs.declared.groups.Groups.{Groups}
use Rattle.spill_pass.specs.Lists.{InList, IsOrdered, id_of}
use Rattle.spill_pass.specs.Merging.{IsMerging, Gathers, IsOneOf}
use Rattle.spill_pass.specs.Grouping.{IsGrouping, IsGrouped, HasGrouped, TakesList, ListsGroup, IsRowList, AreRowLists, places_end, places_of}
use Rattle.spill_pass.proofs.Writing.{pages_below}
use Rattle.spill_pass.proofs.SparedLemmas.{next_within}
use Rattle.spill_pass.proofs.Grouping.{each_none, same_beside_area, given_bytes, given_page}
use Rattle.spill_pass.proofs.Closing.{other_apart}
use Rattle.spill_pass.proofs.Taking.{Begins, HasOneMore, same_leased, one_sum, plain}

pub outs_second : (pool : Pool) (a b : ℕ) (leases : List ℕ) → AreOut pool (a ∷ b ∷ leases) → IsOut pool b
outs_second pool a b leases are = (outs_swapped pool a b leases are).0

-- before an identifier was found the list has none
pub no_ids : (ids : List ℕ) → ((i : ℕ) → i < length ids → get_or ids i 0 ≤ 0) → ((i : ℕ) → i < length ids → 0 < get_or ids i 0) → ids ≡ []
no_ids [] low high = refl
no_ids (id ∷ ids) low high = absurd (omega (arith, low 0 (omega arith), high 0 (omega arith)))

one_at : (ids : List ℕ) (i : ℕ) → i < length ids → IsOneOf ids (get_or ids i 0)
one_at ids i within = record { at = i; within = within; is = refl }

pub above_none :
    {told : Bool} {right : ℕ → List ℕ} {merge : Merge} {earlier : List ℕ} {page : ℕ → List ℕ} {pool : Pool} {into : MergeInto}
    (was : Gathers told right merge earlier page pool into) (i : ℕ) → i < length was.ids → 0 < get_or was.ids i 0
above_none was i within = omega (arith, ((was.all (get_or was.ids i 0)).0 (inl (one_at was.ids i within))).above)

pub none_yet :
    {told : Bool} {right : ℕ → List ℕ} {merge : Merge} {earlier : List ℕ} {page : ℕ → List ℕ} {pool : Pool} {into : MergeInto}
    (was : Gathers told right merge earlier page pool into) → into.merge.last ≡ 0 → was.ids ≡ []
none_yet was last = no_ids was.ids (λ i within. omega (arith, was.below i within, last)) (above_none was)

none_of : (id : ℕ) → IsOneOf [] id → ⊥
none_of id one = omega (arith, one.within)

-- what remains of one union of cursors
record Ahead (right : ℕ → List ℕ) (merge : Merge) (id : ℕ) : Type 0 where
  above : merge.last < id
  small : id < 2 ^ 32
  among : InUnion right merge.cursors.items 0 (length merge.cursors.items) id

ahead_of : (right : ℕ → List ℕ) (merge : Merge) (id : ℕ) → merge.unions.items ≡ length merge.cursors.items ∷ [] → Remains right merge id → Ahead right merge id
ahead_of right merge id union remains =
    let P : List ℕ → Type 0 = λ us. InAll right merge.cursors.items us id in
    let all : InAll right merge.cursors.items (length merge.cursors.items ∷ []) id = subst P union remains.all in
    let of = all 0 (omega arith) in
    record {
      above = remains.above;
      small = remains.small;
      among = record { at = of.at; low = omega arith; high = omega (arith, of.high, one_sum (length merge.cursors.items)); has = of.has };
    }

remains_of : (right : ℕ → List ℕ) (merge : Merge) (id : ℕ) → merge.unions.items ≡ length merge.cursors.items ∷ [] → Ahead right merge id → Remains right merge id
remains_of right merge id union ahead =
    let P : List ℕ → Type 0 = λ us. InAll right merge.cursors.items us id in
    let n = length merge.cursors.items in
    let all : InAll right merge.cursors.items (n ∷ []) id =
    λ j within.
    let Q : ℕ → Type 0 = λ k. InUnion right merge.cursors.items (start_of (n ∷ []) k) (start_of (n ∷ []) (k + 1)) id in
    let here : 0 ≡ j = omega (arith, within) in
    subst Q here (record { at = ahead.among.at; low = omega arith; high = omega (arith, ahead.among.high, one_sum n); has = ahead.among.has }) in
    record { above = ahead.above; small = ahead.small; all = subst P (sym union) all }

in_list : (right : ℕ → List ℕ) (list : ListRef) (rows id : ℕ) (run : RunCursor) → Begins list rows run → IsLeft right run id → InList right list id
in_list right list rows id run begins left =
    let P : ListRef → Type 0 = λ l. (left.at < l.count) × (id ≡ id_of right l left.at) in
    let is = subst P begins.list_is (left.within, left.is) in
    record { at = left.at; within = is.0; is = is.1 }

of_list : (right : ℕ → List ℕ) (list : ListRef) (rows id : ℕ) (run : RunCursor) → Begins list rows run → InList right list id → IsLeft right run id
of_list right list rows id run begins has =
    let P : ListRef → Type 0 = λ l. (has.at < l.count) × (id ≡ id_of right l has.at) in
    let is = subst P (sym begins.list_is) (has.within, has.is) in
    record { at = has.at; from = omega (arith, begins.at_is); within = is.0; is = is.1 }

ahead_more :
    (right : ℕ → List ℕ) (list : ListRef) (rows : ℕ) (old new : Merge) (run : RunCursor) (id : ℕ) → Begins list rows run → HasOneMore old new run
    → Ahead right new id → Ahead right old id ⊎ InList right list id
ahead_more right list rows old new run id begins more ahead =
    let at = ahead.among.at in
    let P : List Cursor → Type 0 = λ cs. (at < length cs) × HasAhead right (cursor_at cs at) id in
    let is = subst P more.cursors (ahead.among.high, ahead.among.has) in
    let size = length-append old.cursors.items (OfList run ∷ []) in
    elim (cases_lt at (length old.cursors.items)) [
      | inl before ↦
          let Q : Cursor → Type 0 = λ cursor. HasAhead right cursor id in
          inl (record {
            above = omega (arith, ahead.above, more.last);
            small = ahead.small;
            among = record { at = at; low = omega arith; high = before; has = subst Q (get_or_append_left old.cursors.items (OfList run ∷ []) (Range 1 0) at before) is.1 };
          })
      | inr behind ↦
          let Q : Cursor → Type 0 = λ cursor. HasAhead right cursor id in
          let here : HasAhead right (OfList run) id = subst Q (get_or_push old.cursors.items (OfList run) (Range 1 0) at (omega (arith, behind, is.0, size))) is.1 in
          elim here [
            | inl last ↦ absurd (omega (arith, last, begins.last_is, ahead.above))
            | inr left ↦ inr (in_list right list rows id run begins left)
          ]
    ]

more_ahead :
    (right : ℕ → List ℕ) (list : ListRef) (rows : ℕ) (old new : Merge) (run : RunCursor) (id : ℕ) → Begins list rows run → HasOneMore old new run
    → old.last ≡ 0 → 0 < id → id < 2 ^ 32 → Ahead right old id ⊎ InList right list id → Ahead right new id
more_ahead right list rows old new run id begins more last some small has =
    let cursors = old.cursors.items in
    let size = length-append cursors (OfList run ∷ []) in
    let P : List Cursor → Type 0 = λ cs. InUnion right cs 0 (length cs) id in
    let Q : Cursor → Type 0 = λ cursor. HasAhead right cursor id in
    record {
      above = omega (arith, some, last, more.last);
      small = small;
      among = subst P (sym more.cursors) (elim has [
        | inl ahead ↦ record {
          at = ahead.among.at;
          low = omega arith;
          high = omega (arith, ahead.among.high, size);
          has = subst Q (sym (get_or_append_left cursors (OfList run ∷ []) (Range 1 0) ahead.among.at ahead.among.high)) ahead.among.has;
        }
        | inr here ↦ record {
          at = length cursors;
          low = omega arith;
          high = omega (arith, size);
          has = subst Q (sym (get_or_push cursors (OfList run) (Range 1 0) (length cursors) refl)) (inr (of_list right list rows id run begins here));
        }
      ]);
    }

begins_right :
    (page right : ℕ → List ℕ) (list : ListRef) (rows : ℕ) (run : RunCursor) → Begins list rows run → IsOrdered page right rows list → IsRight page right run
begins_right page right list rows run begins ordered =
    let P : ListRef → Type 0 = λ l. IsOrdered page right rows l in
    let is = subst P (sym begins.list_is) ordered in
    record {
      ascends = record {
        above = λ i from within. omega (arith, is.above i within, begins.last_is);
        order = λ i j from less within. is.order i j less within;
        within = λ i from within. omega (arith, is.within i within, begins.rows_is);
      };
      same = λ i from within of. is.same i within of.some (omega (arith, of.within, begins.rows_is));
    }

in_rows : (page right : ℕ → List ℕ) (rows : ℕ) (list : ListRef) (id : ℕ) → IsOrdered page right rows list → InList right list id → (0 < id) × (id ≤ rows)
in_rows page right rows list id ordered has = (omega (arith, has.is, ordered.above has.at has.within), omega (arith, has.is, ordered.within has.at has.within))

pub taken_lists :
    {told : Bool} {right : ℕ → List ℕ} {first : Merge} {lists : List (List ℕ)} {device : Device} {pool later : Pool} (list : ListRef) (old : Groups) (new : Merge) (run : RunCursor)
    → IsGrouping told device pool old → old.into.merge.last ≡ 0 → old.into.rows < 2 ^ 32 → IsOrdered device.page right old.into.rows list
    → Begins list old.into.rows run → later ≡ leased pool run.lease → IsFree pool run.lease → HasOneMore old.into.merge new run
    → IsGrouped told right first lists device.page pool old
    → TakesList told right first lists device.page later list old (record { into = record { merge = new; writer = old.into.writer; rows = old.into.rows }; places = old.places; begun = old.begun; size = old.size })
taken_lists {told = told} {right = right} {first = first} {lists = lists} {device = device} {pool = pool} {later = later} list old new run grouping last small ordered begins is free more was =
    let g = was.gathers in
    let none = none_yet g last in
    let rows = old.into.rows in
    let old_merge = old.into.merge in
    let P : Pool → Type 0 = λ p. SameBuffer pool p old.into.writer.lease in
    let Q : Pool → Type 0 = λ p. SameBuffer pool p old.places.lease in
    let H : List ℕ → Type 0 = λ ids. HasPut told device.page later old.into.writer (map number_cell (concat lists ++ ids)) in
    let C : List Cursor → Type 0 = AreRight device.page right in
    let first_is : (id : ℕ) → Remains right old_merge id ↔ Remains right first id =
    λ id. (
      λ remains. (g.all id).0 (inr remains),
      λ wanted. elim ((g.all id).1 wanted) [
        | inl one ↦ let N : List ℕ → Type 0 = λ ids. IsOneOf ids id in absurd (none_of id (subst N none one))
        | inr remains ↦ remains
      ],
    ) in
    record {
      grouped = record {
        gathers = record {
          ids = [];
          put =
              subst H none
              (put_kept old.into.writer (λ is_told number from to. refl)
              (subst P (sym is) (same_leased pool run.lease old.into.writer.lease free (outs_second pool _ _ _ grouping.leases))) g.put);
          ascending = λ i j less within. absurd (omega (arith, within));
          below = λ i within. absurd (omega (arith, within));
          all = λ id. (λ has. elim has [ inl one ↦ absurd (none_of id one) | inr remains ↦ remains ], λ remains. inr remains);
          lists = subst C (sym more.cursors) (each_pushed (CursorRight device.page right) old_merge.cursors.items (OfList run) tt g.lists (begins_right device.page right list rows run begins ordered));
        };
        places = put_kept old.places (λ is_told number from to. refl) (subst Q (sym is) (same_leased pool run.lease old.places.lease free grouping.leases.0)) was.places;
        begun = was.begun;
        ordered = was.ordered;
      };
      more = λ id. (
        λ remains. elim (ahead_more right list rows old_merge new run id begins more (ahead_of right new id more.unions remains)) [
          | inl ahead ↦ inl ((first_is id).0 (remains_of right old_merge id grouping.union ahead))
          | inr here ↦ inr here
        ],
        λ has. elim has [
          | inl remains ↦
              let ahead = ahead_of right old_merge id grouping.union ((first_is id).1 remains) in
              remains_of right new id more.unions
              (more_ahead right list rows old_merge new run id begins more last (omega (arith, ahead.above)) ahead.small (inl ahead))
          | inr here ↦
              let of = in_rows device.page right rows list id ordered here in
              remains_of right new id more.unions (more_ahead right list rows old_merge new run id begins more last of.0 (omega (arith, of.1, small)) (inr here))
        ],
      );
    }

-- at the end of a group
pub put_count :
    {told : Bool} {page : ℕ → List ℕ} {device : Device} {within : Pool} (pool : Pool) (into : MergeInto) (records : List (List ℕ))
    → IsMerging told device within into → HasPut told page pool into.writer records → into.writer.filler.count ≡ length records
put_count pool into records is put =
    sym (pages_below is) ∙ ap (λ w. into.writer.filler.pages * per_page w + into.writer.filler.held) (sym is.width) ∙ put.count

pub joined : (lists : List (List ℕ)) (ids : List ℕ) → concat lists ++ ids ≡ concat (lists ++ ids ∷ [])
joined lists ids = sym (concat-append lists (ids ∷ []) ∙ ap (λ r. concat lists ++ r) (append-nil ids))

pub joined_more : (lists : List (List ℕ)) (ids : List ℕ) → concat lists ++ ids ≡ concat (lists ++ ids ∷ []) ++ []
joined_more lists ids = joined lists ids ∙ sym (append-nil (concat (lists ++ ids ∷ [])))

pub places_more :
    (from : ℕ) (lists : List (List ℕ)) (ids : List ℕ)
    → places_of from lists ++ (number_cell (from + length (concat lists)) ++ number_cell (length ids)) ∷ [] ≡ places_of from (lists ++ ids ∷ [])
places_more from [] ids = ap (λ n. (number_cell n ++ number_cell (length ids)) ∷ []) (plain from)
places_more from (first ∷ lists) ids =
    ap (λ rest. (number_cell from ++ number_cell (length first)) ∷ rest)
    (ap (λ n. places_of (from + length first) lists ++ (number_cell n ++ number_cell (length ids)) ∷ []) (omega (arith, length-append first (concat lists)))
    ∙ places_more (from + length first) lists ids)

pub rows_more :
    (rows : ℕ) (lists : List (List ℕ)) (ids : List ℕ) → AreRowLists rows lists → IsRowList rows ids → AreRowLists rows (lists ++ ids ∷ [])
rows_more rows lists ids were is i within =
    let P : List ℕ → Type 0 = IsRowList rows in
    elim (cases_lt i (length lists)) [
      | inl before ↦ subst P (sym (get_or_append_left lists (ids ∷ []) [] i before)) (were i before)
      | inr behind ↦ subst P (sym (get_or_push lists ids [] i (omega (arith, behind, within, length-append lists (ids ∷ []))))) is
    ]

none_remains : (right : ℕ → List ℕ) (merge : Merge) (id : ℕ) → merge.unions.items ≡ 0 ∷ [] → Remains right merge id → ⊥
none_remains right merge id unions remains =
    let P : List ℕ → Type 0 = λ us. InAll right merge.cursors.items us id in
    let all : InAll right merge.cursors.items (0 ∷ []) id = subst P unions remains.all in
    omega (arith, (all 0 (omega arith)).high, one_sum 0)

pub given_same : (pool : Pool) (leases : List ℕ) (lease : ℕ) → SameBuffer pool (all_given pool leases) lease
given_same pool leases lease = record { bytes = given_bytes pool leases lease; filled = given_page pool leases lease }

pub closed_lists :
    {told : Bool} {right : ℕ → List ℕ} {first : Merge} {lists : List (List ℕ)} {before now : Device} {pool then later : Pool} (old : Groups) (places : RunWriter) (merge : Merge) (cell : List ℕ)
    → told ≡ true → IsGrouping told before pool old → ChangesOnly old.places.filler.first (places_end old) before now → ChangesPage pool then old.places.lease
    → later ≡ all_given then (leases_of old.into.merge.cursors.items) → merge.cursors.items ≡ [] → merge.unions.items ≡ 0 ∷ [] → merge.last ≡ 0
    → cell ≡ number_cell old.begun ++ number_cell (old.into.writer.filler.count - old.begun)
    → ((records : List (List ℕ)) → HasPut told before.page pool old.places records → HasPut told now.page then places (records ++ cell ∷ []))
    → HasGrouped told right first lists before.page pool old
    → ListsGroup told right first lists now.page later (record { into = record { merge = merge; writer = old.into.writer; rows = old.into.rows }; places = places; begun = old.into.writer.filler.count; size = old.size })
closed_lists {told = told} {right = right} {lists = lists} {before = before} {now = now} {pool = pool} {then = then} {later = later} old places merge cell is_told is changes buffer gives none unions last cell_is appended was =
    let g = was.grouped.gathers in
    let ids = g.ids in
    let writer = old.into.writer in
    let leases = leases_of old.into.merge.cursors.items in
    let count : writer.filler.count ≡ length (concat lists) + length ids =
    put_count pool old.into (map number_cell (concat lists ++ ids)) is.merging g.put ∙ length-map (concat lists ++ ids) number_cell ∙ length-append (concat lists) ids in
    let ends =
    next_within writer.filler.first writer.filler.pages writer.filler.held writer.filler.count old.into.rows is.merging.can.area.block
    (pages_below is.merging) is.merging.count in
    let P : Pool → Type 0 = λ p. SameBuffer then p writer.lease in
    let Q : Pool → Type 0 = λ p. SameBuffer then p places.lease in
    let H : List ℕ → Type 0 = λ all. HasPut told now.page later writer (map number_cell all) in
    let K : List (List ℕ) → Type 0 = λ all. HasPut told now.page later places all in
    let apart = head_apart pool old.places.lease (writer.lease ∷ leases) 0 0 (omega arith) is.leases in
    let one = change_elsewhere buffer apart in
    let two = subst P (sym gives) (given_same then leases writer.lease) in
    let from_none : length (concat lists) ≡ 0 + length (concat lists) = omega arith in
    let cell_then : cell ≡ number_cell (0 + length (concat lists)) ++ number_cell (length ids) =
    cell_is ∙ ap (λ n. number_cell n ++ number_cell (writer.filler.count - n)) was.grouped.begun
    ∙ ap (λ n. number_cell (length (concat lists)) ++ number_cell n) (omega (arith, count))
    ∙ ap (λ n. number_cell n ++ number_cell (length ids)) from_none in
    record {
      ids = ids;
      all = λ id. (
        λ one. (g.all id).0 (inl one),
        λ wanted. elim ((g.all id).1 wanted) [
          | inl one ↦ one
          | inr remains ↦ absurd (was.none id remains)
        ],
      );
      grouped = record {
        gathers = record {
          ids = [];
          put =
              subst H (joined_more lists ids)
              (put_kept {pool = pool} {later = later} writer (λ tells number from to. (same_beside_area number changes (other_apart number is.apart from (omega (arith, to, ends.0)))).bytes)
              (record { bytes = two.bytes ∙ one.bytes; filled = two.filled ∙ one.filled }) g.put);
          ascending = λ i j less within. absurd (omega (arith, within));
          below = λ i within. absurd (omega (arith, within));
          all = λ id. (λ has. elim has [ inl one ↦ absurd (none_of id one) | inr remains ↦ remains ], λ remains. inr remains);
          lists = each_none (CursorRight now.page right) merge.cursors.items none tt;
        };
        places =
            subst K (ap (λ c. places_of 0 lists ++ c ∷ []) cell_then ∙ places_more 0 lists ids)
            (put_kept {pool = then} {later = later} places (λ tells number from to. refl) (subst Q (sym gives) (given_same then leases places.lease)) (appended (places_of 0 lists) was.grouped.places));
        begun = count ∙ sym (length-append (concat lists) ids) ∙ ap (λ all. length all) (joined lists ids);
        ordered = rows_more old.into.rows lists ids was.grouped.ordered (record {
          ascending = g.ascending;
          above = above_none g;
          within = λ i within. omega (arith, g.below i within, is.merging.can.within);
        });
      };
      empty = λ id remains. none_remains right merge id unions remains;
    }
