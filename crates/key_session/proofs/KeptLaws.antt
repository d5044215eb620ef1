-- What is kept at first, what stays of it, and what it gives.
use Rattle.std.proofs.Common.{◌≡◌, ◌≤◌, ◌<◌, ◌+◌, ◌%◌, ◌^◌, ℕ, zero, suc, arith, Bool, true, false, ◌==◌, List, [], ◌∷◌, length, map, filter_map, slice_index_or, Contains, refl, sym, ◌∙◌, ap, subst, Some, None, if◌then◌else◌}
use Rattle.std.specs.List.{cons_option}
use Rattle.std.proofs.lemmas.Bool.{eqb-true, eq-eqb}
use Rattle.ghost_model.specs.core.Schema.{Schema}
use Rattle.ghost_model.specs.core.Channel.{Catalog}
use Rattle.ghost_model.specs.core.Asks.{NumberedAsk, RowCells, row_in, row_width, rows_in}
use Rattle.ghost_model.specs.core.Split.{RowValues}
use Rattle.ghost_model.specs.core.Moves.{taken}
use Rattle.ghost_model.specs.core.NextMove.{Heard, EndedAsk, Ending, Answered, Refused, heard}
use Rattle.ghost_model.specs.core.Replies as given
use Rattle.ghost_model.specs.core.Replies.{reply_for, reply_about, replied_row}
use Rattle.ghost_model.specs.forms.Layout.{spool_end, scratch_end}
use Rattle.ghost_model.specs.forms.Runs.{page_of}
use Rattle.ghost_base.specs.Runs.{run_of}
use Rattle.edge_traits.specs.Devices.{Device, ChangesOnly}
use Rattle.page_pool.specs.Pools.{Pool, IsOut}
use Rattle.page_pool.specs.Laws.{SameBuffer}
use Rattle.channel_pump.specs.Sessions.{asked_in}
use Rattle.key_session.specs.Fits.{Fits, was_ended}
use Rattle.visible_spool.specs.declared.half.Half.{Half}
use Rattle.visible_spool.specs.declared.reply.Reply.{Reply}
use Rattle.visible_spool.specs.declared.spool.Spool.{Spool}
use Rattle.visible_spool.specs.Areas.{AreAreasOf, is_even, end_of, half_begin, half_end}
use Rattle.visible_spool.specs.Halves.{reply_of, no_reply, no_half}
use Rattle.visible_spool.specs.Laws.{KeepsReply, RepliesAreKept, RepliesStayReadable, TextsWithoutRows}
use Rattle.visible_spool.specs.Sides.{is_marked, replies_of, side_of}
use Rattle.visible_spool.specs.SpoolLaws.{Spares, StaysSpooling, StillPushed}
use Rattle.visible_spool.specs.Spools.{IsSpooling, HasPushed, PushedIf, area_at, is_at}
use Rattle.visible_spool.proofs.SpoolLemmas.{area_within}
use Rattle.visible_spool.proofs.Spooling.{area_kept}
use Rattle.key_session.specs.Rows.{rows_at, rows_cut}
use Rattle.key_session.specs.Kept.{IsKept, IsAskOf, HasCome, IsBy, IsOver, AreKept, IsKeptReply, LiesInArea, HasEnding, HasEndings, half_in, none_heard}
use Rattle.visible_spool.specs.Replies.{id_of}
use Rattle.key_session.specs.Given.{HoldsGiven, KeptAreGiven, KeptAreOfRows}
use Rattle.key_session.specs.Laws.{RepliesStayKept, KeptHalvesAreHalves}
use Rattle.key_session.specs.declared.replies.Replies.{Replies}
use Rattle.key_session.proofs.Elsewhere.{in_areas, half_by}
use Rattle.key_session.proofs.Keeping.{ending_kept, none_of_half, no_replies, side_by}
use Rattle.key_session.proofs.PushRows.{no_rows, identifier_is}
use Rattle.key_session.proofs.RowLemmas.{cells_cut}
use Rattle.key_session.proofs.RowsHeard.{hand_text, is_awaited}
use Rattle.key_session.proofs.Closing.{its_table}
use Rattle.key_session.proofs.WriteLemmas.{true_is_not_false}

-- ---- at first

none_kept : TextsWithoutRows → (told : Bool) (device : Device) (spool : Spool) (text table : ℕ) → device.page_count < 2 ^ 32 → IsKeptReply told device spool text table no_reply
none_kept nothing told device spool text table small = record {
  readable = (nothing 0 (omega arith)).readable device small;
  lies = record { most = λ some. absurd (omega (arith, some)); visible = λ some. absurd (omega (arith, some)); lies = λ place within. absurd (omega (arith, within)) };
  whole = λ is_told. record { rows = []; holds = (nothing 0 (omega arith)).holds device.page };
}

-- a pool of which a buffer is out
pub out_somewhere : (lease : ℕ) → (pool : Pool) × IsOut pool lease
out_somewhere zero = (record { pages = [] ∷ []; out = true ∷ []; filled = [] }, record { within = omega arith; out = refl })
out_somewhere (suc lease) =
    let below = out_somewhere lease in
    let within : lease < length below.0.pages = below.1.within in
    (record { pages = [] ∷ below.0.pages; out = true ∷ below.0.out; filled = [] }, record { within = omega (arith, within); out = below.1.out })

-- a spool without a reply at hand, with any buffer
pub spooling_with : (device : Device) (before pool : Pool) (spool : Spool) (lease : ℕ) → spool.hand.text ≡ 0 → IsSpooling device before spool → IsOut pool lease
    → IsSpooling device pool (record spool { hand = record (spool.hand) { writer = record (spool.hand.writer) { lease = lease } } })
spooling_with device before pool spool lease none is out = record {
  out = out;
  areas = is.areas;
  few = is.few;
  small = is.small;
  hand = λ some. absurd (some none);
}

pub first_kept : TextsWithoutRows → (told : Bool) (device : Device) (pool : Pool) (catalog : Catalog) (replies : Replies) → device.page_count < 2 ^ 32 → IsSpooling device pool replies.spool
    → AreAreasOf catalog replies.spool.areas.items → replies.spool.hand.text ≡ 0 → replies.spool.sides.even.text ≡ 0 → replies.spool.sides.odd.text ≡ 0 → replies.is_open ≡ false
    → IsKept told device pool catalog (none_heard catalog) 1 0 replies
first_kept nothing told device pool catalog replies small spooling areas hand even odd closed =
    let bound : IsBy 0 replies.spool = record { even = omega (arith, even); odd = omega (arith, odd); hand = omega (arith, hand) } in
    record {
      spooling = spooling;
      areas = areas;
      bound = bound;
      at = λ is_on. absurd (true_is_not_false (sym is_on ∙ closed));
      closed = λ _. refl;
      over = λ _ some. absurd (some hand);
      halves = λ text from.
          (let half : replies_of replies.spool.sides text ≡ no_half = no_replies (side_of replies.spool.sides text) 0 text (side_by 0 text replies.spool bound) (omega (arith, from)) in
          let none : (table : ℕ) → reply_of (replies_of replies.spool.sides text) table ≡ no_reply = λ table. ap (λ (h : Half). reply_of h table) half ∙ none_of_half table in
          record {
            each = λ table. subst (λ (r : Reply). IsKeptReply told device replies.spool text table r) (sym (none table)) (none_kept nothing told device replies.spool text table small);
            none = λ table _. none table;
          });
      texts = λ text from not. tt;
    }

-- ---- the reply to an ask is begun

pub opened : (told : Bool) (device : Device) (pool : Pool) (catalog : Catalog) (heard : Heard) (asked : NumberedAsk) (low top text : ℕ) (old new : Replies) → old.is_open ≡ false → new.spool ≡ old.spool
    → new.is_open ≡ true → asked_in heard.awaits ≡ Some asked → asked.text ≡ text → top ≤ text → text ≤ low + 1 → Fits catalog heard → IsAskOf catalog.schema asked new.hand
    → IsKept told device pool catalog heard low top old → IsKept told device pool catalog heard low text new
opened told device pool catalog heard asked low top text old new shut same is_on awaited its_text up near fits ask k =
    record {
      spooling = subst (λ (s : Spool). IsSpooling device pool s) (sym same) k.spooling;
      areas = subst (λ (s : Spool). AreAreasOf catalog s.areas.items) (sym same) k.areas;
      bound = subst (λ (s : Spool). IsBy text s) (sym same)
          (let even = k.bound.even in let odd = k.bound.odd in let hand = k.bound.hand in record { even = omega (arith, even, up); odd = omega (arith, odd, up); hand = omega (arith, hand, up) });
      at = λ _. record {
        asked = asked;
        awaited = awaited;
        near = omega (arith, near, its_text);
        latest = its_text;
        ask = ask;
        come = subst (λ (s : Spool). HasCome told device.page pool heard.ended new.hand heard.rows s) (sym same) come;
      };
      closed = λ c. absurd (true_is_not_false (sym is_on ∙ c));
      over = λ c. absurd (true_is_not_false (sym is_on ∙ c));
      halves = λ other from. subst (λ (s : Spool). AreKept told device heard.ended s other) (sym same) (k.halves other from);
      texts = λ other from not. subst (λ (s : Spool). HasEndings told device.page catalog.schema other (replies_of s.sides other) heard.ended) (sym same)
          (k.texts other from (subst (λ (s : Spool). is_marked s.sides other ≡ false) same not));
    }
  where
    over : IsOver heard.ended old.spool.hand
    over = k.over shut

    first : was_ended new.hand.text new.hand.table heard.ended ≡ false
    first =
        ap (λ t. was_ended t new.hand.table heard.ended) ask.text_is
        ∙ (ap (λ t. was_ended asked.text t heard.ended) ask.table_is ∙ (is_awaited catalog heard.ended heard.rows heard.awaits asked fits awaited).1.first)

    not_at : (b : Bool) → is_at old.spool new.hand.text new.hand.table ≡ b → b ≡ false
    not_at true at =
        let text_is = hand_text old.spool new.hand.text new.hand.table at in
        let some = ask.some in
        let was = over (λ none. (omega (arith, some, text_is, none))) in
        let table_is = its_table old.spool new.hand.text new.hand.table at in
        absurd (true_is_not_false (sym (ap (λ t. was_ended t old.spool.hand.table heard.ended) (sym text_is) ∙ was) ∙ (ap (λ t. was_ended new.hand.text t heard.ended) table_is ∙ first)))
    not_at false at = refl

    elsewhere : is_at old.spool new.hand.text new.hand.table ≡ false
    elsewhere = not_at (is_at old.spool new.hand.text new.hand.table) refl ∙ refl

    no_last : (b : Bool) → b ≡ false → (if b then old.spool.hand.last else 0) ≡ 0
    no_last true e = absurd (true_is_not_false e)
    no_last false e = refl

    come : HasCome told device.page pool heard.ended new.hand heard.rows old.spool
    come =
        let least = ask.least in
        let none : rows_at new.hand.width heard.rows ≡ [] = ap (λ bytes. rows_at new.hand.width bytes) (k.closed shut) ∙ no_rows new.hand.width [] (omega (arith, least)) in
        let zero_last = no_last (is_at old.spool new.hand.text new.hand.table) elsewhere in
        record {
          kinds = λ at. absurd (true_is_not_false (sym at ∙ elsewhere));
          width = λ at. absurd (true_is_not_false (sym at ∙ elsewhere));
          last = omega (arith, zero_last);
          pushed = λ not. subst (λ b. PushedIf b told device.page pool old.spool (rows_at new.hand.width heard.rows)) (sym elsewhere) none;
          others = λ _. over;
        }

-- ---- what stays

-- an area lies below the end of the spool
side_upto : (catalog : Catalog) (b : Bool) → half_end catalog (if b then 0 else 1) ≤ spool_end catalog
side_upto catalog true = omega arith
side_upto catalog false = omega arith

area_upto : (catalog : Catalog) (spool : Spool) (table text : ℕ) → AreAreasOf catalog spool.areas.items → 4 < (area_at spool table).width → end_of (area_at spool table) text ≤ spool_end catalog
area_upto catalog spool table text areas wide =
    let lies = half_by catalog table text (area_at spool table) (areas.each table (in_areas spool.areas.items table wide)) wide (is_even text) refl in
    let to = lies.to in
    let upto = side_upto catalog (is_even text) in
    omega (arith, to, upto)

module _ (stays : StaysSpooling) (pushed : StillPushed) (readable : RepliesStayReadable) (is_kept : RepliesAreKept) (told : Bool) (before now : Device) (pool later : Pool) (catalog : Catalog) (spool : Spool)
    (changes : ChangesOnly (spool_end catalog) (scratch_end catalog) before now) (out : IsOut later spool.hand.writer.lease) (buffer : SameBuffer pool later spool.hand.writer.lease)
    (areas : AreAreasOf catalog spool.areas.items) (spooling : IsSpooling before pool spool) where
  spares : (spool.hand.text ≡ 0 → ⊥) → Spares before now pool later spool
  spares some =
      let is = spooling.hand some in
      let there = is.there in
      let within = area_within (area_at spool spool.hand.table) spool.hand.text spool.hand.reply (spooling.areas spool.hand.table there).narrow is.first is.rows is.wide is.width in
      let upto = area_upto catalog spool spool.hand.table spool.hand.text areas is.visible in
      record { page_count = changes.page_count; area = λ number from to. changes.below number (omega (arith, to, within, upto)); out = out; buffer = buffer }

  spooling_still : IsSpooling now later spool
  spooling_still =
      let small = spooling.small in
      let count = changes.page_count in
      record {
        out = out;
        areas = λ table there. area_kept before now (area_at spool table) changes.page_count (spooling.areas table there);
        few = spooling.few;
        small = omega (arith, small, count);
        hand = λ some. (stays before now pool later spool (spares some) spooling).hand some;
      }

  pushed_still : (text table : ℕ) (rows : List (List ℕ)) → 0 < text → is_marked spool.sides text ≡ false → HasPushed told before.page pool spool text table rows → HasPushed told now.page later spool text table rows
  pushed_still text table rows some not was = by (is_at spool text table) refl was
    where
      by : (b : Bool) → is_at spool text table ≡ b → PushedIf b told before.page pool spool rows → HasPushed told now.page later spool text table rows
      by false e none = subst (λ b. PushedIf b told now.page later spool rows) (sym e) none
      by true e put =
          let text_is = hand_text spool text table e in
          pushed told before now pool later spool text table rows some not (spares (λ none. omega (arith, some, text_is, none))) spooling (subst (λ b. PushedIf b told before.page pool spool rows) (sym e) put)

  reply_pages : (text table : ℕ) (reply : Reply) → LiesInArea spool text table reply → KeepsReply before.page now.page reply
  reply_pages text table reply lies place within =
      let here = lies.lies place within in
      let upto = area_upto catalog spool table text areas (lies.visible (omega (arith, within))) in
      let to = here.1 in
      (changes.below (page_of (run_of reply.run) place) (omega (arith, to, upto))).bytes

  reply_still : (text table : ℕ) (reply : Reply) → IsKeptReply told before spool text table reply → IsKeptReply told now spool text table reply
  reply_still text table reply was = record {
    readable = readable before now reply changes.page_count was.readable;
    lies = was.lies;
    whole = λ is_told. record {
      rows = (was.whole is_told).rows;
      holds = is_kept before.page now.page reply (was.whole is_told).rows (reply_pages text table reply was.lies) (was.whole is_told).holds;
    };
  }

  endings_still : (schema : Schema) (text : ℕ) (half : Half) → ((table : ℕ) → KeepsReply before.page now.page (reply_of half table)) → (ends : List EndedAsk)
      → HasEndings told before.page schema text half ends → HasEndings told now.page schema text half ends
  endings_still schema text half keeps [] was = tt
  endings_still schema text half keeps (end ∷ ends) was = (
    λ mine. ending_kept told before.page now.page schema end.asked.ask end.ending (reply_of half end.asked.ask.table) (reply_of half end.asked.ask.table) is_kept refl (keeps end.asked.ask.table) (was.0 mine),
    endings_still schema text half keeps ends was.1,
  )

pub stay_kept : StaysSpooling → StillPushed → RepliesStayReadable → RepliesAreKept → RepliesStayKept
stay_kept stays pushed readable is_kept told before now pool later catalog heard low top replies changes out buffer k = record {
  spooling = spooling_still stays pushed readable is_kept told before now pool later catalog replies.spool changes out buffer k.areas k.spooling;
  areas = k.areas;
  bound = k.bound;
  at = λ is_on. (let at = k.at is_on in record {
    asked = at.asked;
    awaited = at.awaited;
    near = at.near;
    latest = at.latest;
    ask = at.ask;
    come = record {
      kinds = at.come.kinds;
      width = at.come.width;
      last = at.come.last;
      pushed = λ not. pushed_still stays pushed readable is_kept told before now pool later catalog replies.spool changes out buffer k.areas k.spooling
          replies.hand.text replies.hand.table (rows_at replies.hand.width heard.rows) at.ask.some not (at.come.pushed not);
      others = at.come.others;
    };
  });
  closed = k.closed;
  over = k.over;
  halves = λ text from. record {
    each = λ table. reply_still stays pushed readable is_kept told before now pool later catalog replies.spool changes out buffer k.areas k.spooling
        text table (reply_of (replies_of replies.spool.sides text) table) ((k.halves text from).each table);
    none = (k.halves text from).none;
  };
  texts = λ text from not. endings_still stays pushed readable is_kept told before now pool later catalog replies.spool changes out buffer k.areas k.spooling
      catalog.schema text (half_in replies text)
      (λ table. reply_pages stays pushed readable is_kept told before now pool later catalog replies.spool changes out buffer k.areas k.spooling
      text table (reply_of (half_in replies text) table) ((k.halves text from).each table).lies) heard.ended (k.texts text from not);
}

-- ---- what it gives

pub its_half : (text : ℕ) (b : Bool) → is_even text ≡ b → (if b then 0 else 1) ≡ text % 2
its_half text true e = sym (eqb-true (text % 2) 0 e)
its_half text false e = odd text (λ z. true_is_not_false (sym (eq-eqb (text % 2) 0 z) ∙ e))
  where
    odd : (n : ℕ) → (n % 2 ≡ 0 → ⊥) → 1 ≡ n % 2
    odd n not = omega (arith, not)

pub halves_are : KeptHalvesAreHalves
halves_are told device pool catalog heard low top text replies k from =
    let each = (k.halves text from).each in
    record {
      readable = λ table there. (each table).readable;
      lies = λ table there place within.
          (let lies = (each table).lies in
          let wide = lies.visible (omega (arith, within)) in
          let here = lies.lies place within in
          let is = k.areas.each table (in_areas replies.spool.areas.items table wide) in
          let half = half_by catalog table text (area_at replies.spool table) is wide (is_even text) refl in
          let e = its_half text (is_even text) refl in
          let low_end = ap (λ n. half_begin catalog n) e in
          let high_end = ap (λ n. half_end catalog n) e in
          let lower = half.from in
          let upper = half.to in
          (omega (arith, here.0, lower, low_end), omega (arith, here.1, upper, high_end)));
      whole = λ is_told table there. (each table).whole is_told;
      rows = λ table there some.
          (each table).lies.most some ∙ (k.areas.each table (in_areas replies.spool.areas.items table ((each table).lies.visible some))).rows_is;
    }

map_twice : (f : RowCells → RowValues) (rows : List (List ℕ)) → map f (map row_in rows) ≡ map (λ bytes. f (row_in bytes)) rows
map_twice f [] = refl
map_twice f (row ∷ rows) = ap (λ (xs : List RowValues). f (row_in row) ∷ xs) (map_twice f rows)

same_given : (a b : given.Reply) → Some a ≡ Some b → a ≡ b
same_given a b e = cc

module _ (page : ℕ → List ℕ) (schema : Schema) (text table : ℕ) (half : Half) (one : given.Reply) where
  given_by : (ends : List EndedAsk) → HasEndings true page schema text half ends → reply_about table (filter_map (reply_for schema text) ends) ≡ Some one
      → HoldsGiven page schema (reply_of half table) one
  given_by [] had e = let bad : ⊥ = cc in absurd bad
  given_by (end ∷ ends) had e = by (end.asked.text == text) refl end.ending (had.0) (λ later. given_by ends had.1 later) e
    where
      by : (b : Bool) → (end.asked.text == text) ≡ b → (ending : Ending)
          → (end.asked.text ≡ text → HasEnding true page schema end.asked.ask ending (reply_of half end.asked.ask.table))
          → (reply_about table (filter_map (reply_for schema text) ends) ≡ Some one → HoldsGiven page schema (reply_of half table) one)
          → reply_about table (cons_option (if b then given.reply_of schema end.asked ending else None) (filter_map (reply_for schema text) ends)) ≡ Some one
          → HoldsGiven page schema (reply_of half table) one
      by false not ending has later e = later e
      by true is (Refused code) has later e = later e
      by true is (Answered rows) has later e = at (end.asked.ask.table == table) refl e
        where
          reply : given.Reply
          reply = record { ask = end.asked.ask; rows = map (replied_row schema end.asked.ask) (rows_in schema end.asked.ask rows) }

          at : (b : Bool) → (end.asked.ask.table == table) ≡ b
              → (if b then Some (record { ask = end.asked.ask; rows = map (replied_row schema end.asked.ask) (rows_in schema end.asked.ask rows) }) else reply_about table (filter_map (reply_for schema text) ends)) ≡ Some one
              → HoldsGiven page schema (reply_of half table) one
          at false not e = later e
          at true here e =
              let answer = has (eqb-true end.asked.text text is) in
              let same_table = eqb-true end.asked.ask.table table here in
              subst (λ (r : given.Reply). HoldsGiven page schema (reply_of half table) r) (same_given _ one e)
              (subst (λ t. HoldsGiven page schema (reply_of half t) (record { ask = end.asked.ask; rows = map (replied_row schema end.asked.ask) (rows_in schema end.asked.ask rows) })) same_table
              (record {
                rows = rows_cut schema end.asked.ask rows;
                holds = answer.holds refl;
                kinds_are = answer.kinds;
                are = ap (λ (cells : List RowCells). map (replied_row schema end.asked.ask) cells) (cells_cut (row_width schema end.asked.ask) _ rows)
                    ∙ map_twice (replied_row schema end.asked.ask) (rows_cut schema end.asked.ask rows);
              }))

pub are_given : KeptAreGiven
are_given device pool catalog asks journal low top text kept k from not table one e =
    given_by device.page catalog.schema text table (half_in kept text) one (heard catalog asks (taken journal)).ended (k.texts text from not) e

-- the row of an identifier in a reply
picked : (f : List ℕ → RowValues) (rows : List (List ℕ)) → ((bytes : List ℕ) → (f bytes).identifier ≡ (row_in bytes).identifier) → (k x : ℕ)
    → k < length (map (λ (row : RowValues). row.identifier) (map f rows)) → slice_index_or (map (λ (row : RowValues). row.identifier) (map f rows)) k x ≡ x
    → (k < length rows) × (id_of rows k ≡ x)
picked f [] same k x low e = absurd (omega (arith, low))
picked f (row ∷ rows) same zero x low e = (omega arith, identifier_is row ∙ (sym (same row) ∙ e))
picked f (row ∷ rows) same (suc k) x low e =
    let later = picked f rows same k x (omega (arith, low)) e in
    let within = later.0 in
    (omega (arith, within), later.1)

pub are_of_rows : KeptAreOfRows
are_of_rows device pool catalog asks journal low top text kept k from not table one about identifier held =
    let has = are_given device pool catalog asks journal low top text kept k from not table one about in
    let ids = subst (λ (rows : List RowValues). Contains (map (λ (row : RowValues). row.identifier) rows) identifier) has.are held in
    let at = picked (λ bytes. replied_row catalog.schema one.ask (row_in bytes)) has.rows (λ bytes. refl) ids.0 identifier ids.1 ids.2 in
    let here = at.0 in
    let number = at.1 in
    let many = has.holds.has.count in
    let lies = ((k.halves text from).each table).lies in
    let some : 0 < (reply_of (half_in kept text) table).run.count = omega (arith, here, many) in
    let most = lies.most some in
    let rows = (k.areas.each table (in_areas kept.spool.areas.items table (lies.visible some))).rows_is in
    let least = has.holds.are.some ids.0 here in
    let within = has.holds.are.within ids.0 here in
    record { some = omega (arith, least, number); within = omega (arith, within, number, most, rows) }
