-- The rows of a reply are one list.
use Rattle.std.proofs.Common.{◌≡◌, ◌∙◌, ap, sym, ℕ, ◌+◌, ◌<◌, ◌≤◌, List, [], length, map, Contains, arith}
use Rattle.std.specs.Prelude.{◌↔◌}
use Rattle.ghost_model.specs.forms.Runs.{id_at, number_in}
use Rattle.ghost_base.specs.Runs.{run_of}
use Rattle.flash_pages.proofs.ListFrames.{listed_by_width}
use Rattle.visible_spool.specs.declared.reply.Reply.{Reply}
use Rattle.visible_spool.specs.Replies.{HoldsRows, id_of, id_of_bytes}
use Rattle.spill_pass.specs.Lists as lists
use Rattle.spill_pass.specs.Lists.{InList, IsOrdered}
use Rattle.candidate_gathering.specs.searching.Begun.{rows_list}
use Rattle.candidate_gathering.proofs.searching_lemmas.Places.{many, mapped_get}

module _ (reply : Reply) (wide : 4 ≤ reply.run.width) (held : List (List ℕ)) where
  -- the identifier of each row
  id_is : (page : ℕ → List ℕ) → HoldsRows page reply held → (i : ℕ) → i < reply.run.count → lists.id_of page (rows_list reply) i ≡ id_of held i
  id_is page holds i within =
      listed_by_width page (run_of reply.run) 0 i wide
      ∙ (ap (λ n. id_at page (run_of reply.run) n) (plain i) ∙ ap (λ bytes. number_in bytes 0) (holds.has.each i within))
    where
      plain : (n : ℕ) → 0 + n ≡ n
      plain n = omega arith

  pub ordered : (page right : ℕ → List ℕ) → HoldsRows page reply held → HoldsRows right reply held → IsOrdered page right reply.rows (rows_list reply)
  ordered page right holds rights =
      let size : reply.run.count ≡ length held = rights.has.count in
      record {
        above = λ i within. let is = id_is right rights i within in let low = rights.are.some i (omega (arith, within, size)) in omega (arith, is, low);
        order = λ i j less within.
            let one = id_is right rights i (omega (arith, less, within)) in
            let other = id_is right rights j within in
            let up = rights.are.ascend i j less (omega (arith, within, size)) in
            omega (arith, one, other, up);
        within = λ i within. let is = id_is right rights i within in let high = rights.are.within i (omega (arith, within, size)) in omega (arith, is, high);
        same = λ i within low high. id_is page holds i within ∙ sym (id_is right rights i within);
      }

  pub in_rows : (right : ℕ → List ℕ) → HoldsRows right reply held → (id : ℕ) → InList right (rows_list reply) id ↔ Contains (map id_of_bytes held) id
  in_rows right rights id = (to, from)
    where
      size : reply.run.count ≡ length held
      size = rights.has.count

      to : InList right (rows_list reply) id → Contains (map id_of_bytes held) id
      to is =
          let within = is.within in
          let low : is.at < length held = omega (arith, within, size) in (
            is.at,
            omega (arith, low, many id_of_bytes held),
            mapped_get id_of_bytes held is.at [] id low ∙ sym (is.is ∙ id_is right rights is.at is.within),
          )

      from : Contains (map id_of_bytes held) id → InList right (rows_list reply) id
      from has =
          let within = has.1 in
          let low : has.0 < length held = omega (arith, within, many id_of_bytes held) in
          let near : has.0 < reply.run.count = omega (arith, low, size) in
          record {
            at = has.0;
            within = near;
            is = sym (has.2) ∙ mapped_get id_of_bytes held has.0 [] id low ∙ sym (id_is right rights has.0 near);
          }
