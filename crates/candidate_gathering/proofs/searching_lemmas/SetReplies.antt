-- Candidates that stand as a list are the rows of a reply without cells.
use Rattle.std.proofs.Common.{◌≡◌, ◌∙◌, ap, sym, refl, subst, ℕ, zero, suc, ◌^◌, ◌<◌, Bool, true, false, ◌==◌, if◌then◌else◌, List, [], ◌∷◌, length, map, take, drop, get_or, Contains, Option, Some, None, arith}
use Rattle.std.specs.Prelude.{◌↔◌, is_some, IsTrue}
use Rattle.std.specs.List.{list_all}
use Rattle.std.proofs.lemmas.Nat.{from_be_bytes-to_be_bytes_4}
use Rattle.std.proofs.lemmas.Bool.Decides.{nat_tests}
use Rattle.ghost_model.specs.core.Schema.{Kind}
use Rattle.ghost_model.specs.core.Values.{Database}
use Rattle.ghost_model.specs.core.Channel.{Catalog}
use Rattle.ghost_model.specs.core.Database.{leads}
use Rattle.ghost_model.specs.core.NextMove.{are_cells}
use Rattle.ghost_model.specs.core.Replies.{row_replied, reply_about}
use Rattle.ghost_model.specs.forms.Runs.{HasRecords, number_cell, number_in}
use Rattle.ghost_laws.specs.Scans.{is_kept_row}
use Rattle.ghost_base.specs.declared.runs.Run.{Run}
use Rattle.ghost_base.specs.Runs.{run_of}
use Rattle.ghost_base.specs.Views.{kind_of}
use Rattle.edge_traits.specs.Devices.{Device}
use Rattle.flash_pages.specs.Runs.{HasRun}
use Rattle.id_merge.specs.declared.merge.Merge.{Merge}
use Rattle.id_merge.specs.Merges.{Remains}
use Rattle.id_merge.specs.Since.{MayBlame, Since}
use Rattle.spill_pass.specs.Known.{KnowsList}
use Rattle.spill_pass.specs.Lists.{IsOrdered, IsReadable as IsListReadable}
use Rattle.spill_pass.specs.Reducing.{whole_list}
use Rattle.visible_spool.specs.declared.reply.Reply.{Reply}
use Rattle.visible_spool.specs.Replies.{IsReadable, IsSound, id_of, id_of_bytes, is_narrow, kinds_of}
use Rattle.entry_lists.specs.Given.{RowsAscend}
use Rattle.candidate_lists.specs.declared.closing.Closed.{Closed}
use Rattle.candidate_lists.specs.Closes.{ListsAll}
use Rattle.flash_layout.specs.Ranges.{IsRowOf}
use Rattle.climbing_index.specs.declared.index.IdIndex.{IdIndex}
use Rattle.condition_lists.specs.declared.term.Term.TheVariants as of_term
use Rattle.condition_lists.specs.Laws.{AreReplied, IsMet, replied_ids}
use Rattle.candidate_gathering.specs.searching.Sets.{HoldsSet, IsReplyOf, IsSet, LeadsAmong, reply_with}
use Rattle.candidate_gathering.proofs.searching_lemmas.Places.{has_one, is_one, many, mapped_get}

run_is : {set : Closed} {reply : Reply} → IsReplyOf set reply → run_of reply.run ≡ run_of set.run
run_is is = ap (λ (run : Run). run_of run) is.run_is

-- a row without cells has no kinds
no_kinds : (reply : Reply) → reply.cells ≡ 0 → kinds_of reply ≡ []
no_kinds reply none = ap (λ n. map kind_of (take n reply.kinds)) none

pub sound : (set : Closed) (reply : Reply) → IsReplyOf set reply → IsSet set → IsSound reply
sound set reply is of =
    let width = ap (λ (run : Run). run.width) is.run_is in
    let count = ap (λ (run : Run). run.count) is.run_is in
    let K : List Kind → Type 0 = λ kinds. IsTrue (list_all is_narrow kinds) in
    record {
      wide = omega (arith, width, of.width);
      narrow = omega (arith, width, of.width);
      few = omega (arith, count, is.rows_are, of.few);
      most = omega (arith, is.rows_are, of.most);
      cells = omega (arith, is.cells);
      kinds = subst K (sym (no_kinds reply is.cells)) refl;
    }

pub readable : (device : Device) (set : Closed) (reply : Reply) → IsReplyOf set reply → IsSet set → IsListReadable device (whole_list set.run) → IsReadable device reply
readable device set reply is of can = record {
  has = subst (HasRun device) (sym (run_is is)) can.run;
  sound = sound set reply is of;
}

pub known :
    (since : Since) (page : ℕ → List ℕ) (set : Closed) (reply : Reply) → IsReplyOf set reply → KnowsList since page set.rows (whole_list set.run)
    → MayBlame since (run_of reply.run) (RowsAscend page reply)
known since page set reply is known_is =
    let R : Run → Type 0 = λ run. MayBlame since (run_of run) (IsOrdered page page reply.rows (whole_list run)) in
    let N : ℕ → Type 0 = λ rows. MayBlame since (run_of set.run) (IsOrdered page page rows (whole_list set.run)) in
    subst R (sym is.run_is) (subst N (sym is.rows_are) known_is)

-- the identifier in four bytes
first_number : (n : ℕ) → n < 2 ^ 32 → number_in (number_cell n) 0 ≡ n
unfolding number_in
first_number n fits = from_be_bytes-to_be_bytes_4 n fits

id_is : (ids : List ℕ) (place : ℕ) → place < length ids → get_or ids place 0 < 2 ^ 32 → id_of (map number_cell ids) place ≡ get_or ids place 0
id_is ids place within small =
    ap (λ bytes. number_in bytes 0) (mapped_get number_cell ids place 0 [] within) ∙ first_number (get_or ids place 0) small

ids_are : (ids : List ℕ) → ((place : ℕ) → place < length ids → get_or ids place 0 < 2 ^ 32) → map id_of_bytes (map number_cell ids) ≡ ids
ids_are [] small = refl
ids_are (id ∷ ids) small =
    ap (λ first. first ∷ map id_of_bytes (map number_cell ids)) (first_number id (small 0 (omega arith)))
    ∙ ap (λ rest. id ∷ rest) (ids_are ids (λ place within. small (suc place) (omega (arith, within))))

no_cells : (ids : List ℕ) (place : ℕ) → place < length ids → are_cells [] (drop 4 (get_or (map number_cell ids) place [])) ≡ true
no_cells ids place within =
    let C : List ℕ → Type 0 = λ bytes. are_cells [] (drop 4 bytes) ≡ true in
    subst C (sym (mapped_get number_cell ids place 0 [] within)) refl

pub rows :
    (page first : ℕ → List ℕ) (low : ℕ) (merge : Merge) (set : Closed) (reply : Reply) → IsReplyOf set reply → IsSet set
    → ListsAll page first low merge set → HoldsSet page reply (Remains first merge)
rows page first low merge set reply is of all =
    let ids = all.list.ids in
    let size : length (map number_cell ids) ≡ length ids = many number_cell ids in
    let remains : (place : ℕ) → place < length ids → Remains first merge (get_or ids place 0) =
    λ place within. (all.list.all (get_or ids place 0)).0 (record { at = place; within = within; is = refl }) in
    let small : (place : ℕ) → place < length ids → get_or ids place 0 < 2 ^ 32 = λ place within. (remains place within).small in
    let at : (place : ℕ) → place < length ids → id_of (map number_cell ids) place ≡ get_or ids place 0 =
    λ place within. id_is ids place within (small place within) in
    let K : List Kind → (place : ℕ) → Type 0 = λ kinds place. are_cells kinds (drop 4 (get_or (map number_cell ids) place [])) ≡ true in
    let C : List ℕ → (id : ℕ) → Type 0 = λ among id. Contains among id ↔ Remains first merge id in
    record {
      held = map number_cell ids;
      holds = record {
        has = subst (λ run. HasRecords page run (map number_cell ids)) (sym (run_is is)) all.list.stores.has;
        are = record {
          some = λ place within.
              let near : place < length ids = omega (arith, within, size) in omega (arith, at place near, (remains place near).above);
          ascend = λ place later less within.
              let near : later < length ids = omega (arith, within, size) in
              let nearer : place < length ids = omega (arith, less, near) in
              omega (arith, at place nearer, at later near, all.list.ascending place later less near);
          within = λ place within.
              let near : place < length ids = omega (arith, within, size) in
              omega (arith, at place near, is.rows_are, all.within (get_or ids place 0) (remains place near));
          cells = λ place within.
              subst (λ kinds. K kinds place) (sym (no_kinds reply is.cells)) (no_cells ids place (omega (arith, within, size)));
        };
      };
      all = λ id.
          subst (λ among. C among id) (sym (ids_are ids small))
          (λ has. (all.list.all id).0 (has_one ids id has), λ has. is_one ids id ((all.list.all id).1 has));
    }

-- the identifiers that would be replied
pub identifiers : (table : ℕ) (ids : List ℕ) → replied_ids (reply_with table ids) ≡ ids
identifiers table ids = each ids
  where
    each : (ids : List ℕ) → replied_ids (reply_with table ids) ≡ ids
    each [] = refl
    each (id ∷ ids) = ap (λ rest. id ∷ rest) (each ids)

same_table : (table : ℕ) → (table == table) ≡ true
same_table table = grind (arith, nat_tests)

about : (table : ℕ) (ids : List ℕ) → reply_about table (reply_with table ids ∷ []) ≡ Some (reply_with table ids)
about table ids = ap (λ b. if b then Some (reply_with table ids) else None) (same_table table)

pub replied :
    (cat : Catalog) (table : ℕ) (ids : List ℕ) → ((id : ℕ) → Contains ids id → IsRowOf cat table id)
    → AreReplied cat (reply_with table ids ∷ []) table (reply_with table ids)
replied cat table ids are =
    let C : List ℕ → (id : ℕ) → Type 0 = λ among id. Contains among id in
    record {
      about = about table ids;
      rows = λ id has. are id (subst (λ among. C among id) (identifiers table ids) has);
    }

-- a row stands in it where its identifier is one of them
one_is : {a b : ℕ} → (a == b) ≡ true → a ≡ b
one_is is = grind (arith, nat_tests)

stands_by :
    (first : ℕ) (ids : List ℕ) (id : ℕ) (same : Bool) → (first == id) ≡ same
    → is_some (if same then Some (record { identifier = first; values = [] }) else row_replied id (reply_with 0 ids).rows) ≡ true
    → (is_some (row_replied id (reply_with 0 ids).rows) ≡ true → Contains ids id) → Contains (first ∷ ids) id
stands_by first ids id true is stands rest = (0, omega arith, one_is is)
stands_by first ids id false is stands rest = let later = rest stands in (suc later.0, omega (arith, later.1), later.2)

stands_among : (ids : List ℕ) (id : ℕ) → is_some (row_replied id (reply_with 0 ids).rows) ≡ true → Contains ids id
stands_among [] id stands = absurd (cc (stands))
stands_among (first ∷ ids) id stands = stands_by first ids id (first == id) refl stands (stands_among ids id)

not_first : (first id : ℕ) → (first == id) ≡ false → first ≡ id → ⊥
not_first first id differ same = cc (same, differ, same_table id)

among_by :
    (first : ℕ) (ids : List ℕ) (id : ℕ) (same : Bool) → (first == id) ≡ same
    → (place : ℕ) → place < length (first ∷ ids) → get_or (first ∷ ids) place id ≡ id
    → (Contains ids id → is_some (row_replied id (reply_with 0 ids).rows) ≡ true)
    → is_some (if same then Some (record { identifier = first; values = [] }) else row_replied id (reply_with 0 ids).rows) ≡ true
among_by first ids id true is place low at rest = refl
among_by first ids id false is zero low at rest = absurd (not_first first id is at)
among_by first ids id false is (suc place) low at rest = rest (place, omega (arith, low), at)

among_stands : (ids : List ℕ) (id : ℕ) → Contains ids id → is_some (row_replied id (reply_with 0 ids).rows) ≡ true
among_stands [] id has = absurd (omega (arith, has.1))
among_stands (first ∷ ids) id has = among_by first ids id (first == id) refl has.0 has.1 has.2 (among_stands ids id)

kept_is : (cat : Catalog) (database : Database) (top table : ℕ) (ids : List ℕ) (id : ℕ) (reached : Option ℕ)
    → is_kept_row reached (Some (reply_with table ids)) ≡ true → leads cat.schema database top id table ≡ reached
    → IsRowOf cat top id → LeadsAmong cat database top table (Contains ids) id
kept_is cat database top table ids id None kept is row = absurd (cc (kept))
kept_is cat database top table ids id (Some reached) kept is row = record { row = row; reached = reached; leads_to = is; is_among = stands_among ids reached kept }

pub met_among :
    (cat : Catalog) (database : Database) (top table : ℕ) (index : IdIndex) (level : ℕ) (ids : List ℕ) (id : ℕ)
    → IsMet cat database (reply_with table ids ∷ []) top (of_term.Reply table index level) id
    ↔ LeadsAmong cat database top table (Contains ids) id
met_among cat database top table index level ids id = (to, from)
  where
    to : IsMet cat database (reply_with table ids ∷ []) top (of_term.Reply table index level) id → LeadsAmong cat database top table (Contains ids) id
    to is =
        kept_is cat database top table ids id (leads cat.schema database top id table)
        (sym (ap (is_kept_row (leads cat.schema database top id table)) (about table ids)) ∙ is.met) refl is.row

    from : LeadsAmong cat database top table (Contains ids) id → IsMet cat database (reply_with table ids ∷ []) top (of_term.Reply table index level) id
    from leading = record {
      row = leading.row;
      met =
          ap (is_kept_row (leads cat.schema database top id table)) (about table ids)
          ∙ (ap (λ reached. is_kept_row reached (Some (reply_with table ids))) leading.leads_to ∙ among_stands ids leading.reached leading.is_among);
    }
