-- Where pages have the rows of a reply: what a page tells of an identifier is so of the rows.
use Rattle.std.proofs.Common.{◌≡◌, ◌∙◌, ap, sym, ℕ, zero, suc, ◌+◌, ◌-◌, ◌*◌, ◌/◌, ◌%◌, ◌<◌, ◌≤◌, Bool, true, false, ◌&&◌, nat_lt, nat_le, List, [], length, drop, get_or, inl, inr, arith}
use Rattle.std.proofs.lemmas.Bool.{cases_lt}
use Rattle.std.proofs.lemmas.Bool.Decides.{nat_tests}
use Rattle.ghost_model.specs.core.NextMove.{are_cells}
use Rattle.ghost_model.specs.forms.Runs.{record_at, cell_in}
use Rattle.visible_spool.specs.declared.reply.Reply.{Reply}
use Rattle.visible_spool.specs.Replies.{HoldsRows, AreRows, HasNone, id_of, id_of_bytes, may_stand, kinds_of}
use Rattle.visible_spool.specs.Searches.{Ascend, HasNoneAmong, IsAt, rows_in, row_at, id_at}
use Rattle.visible_spool.proofs.Places.{in_page, by_page, from_page}

-- identifiers climb by one at least
climbs_up : (most : ℕ) (rows : List (List ℕ)) (place : ℕ) → ((p : ℕ) → p < length rows → 0 < id_of rows p)
    → ((p later : ℕ) → p < later → later < length rows → id_of rows p < id_of rows later) → place < length rows → place < id_of rows place
climbs_up most rows zero some ascend within = some zero within
climbs_up most rows (suc place) some ascend within =
    let before = climbs_up most rows place some ascend (omega (arith, within)) in
    let step = ascend place (suc place) (omega arith) within in
    omega (arith, before, step)

climbs_by : (rows : List (List ℕ)) (place gap : ℕ)
    → ((p later : ℕ) → p < later → later < length rows → id_of rows p < id_of rows later) → place + gap < length rows → id_of rows place + gap ≤ id_of rows (place + gap)
climbs_by rows place zero ascend within = let e : place ≡ place + 0 = omega arith in let h = ap (λ p. id_of rows p) e in omega (arith, h)
climbs_by rows place (suc gap) ascend within =
    let before = climbs_by rows place gap ascend (omega (arith, within)) in
    let step = ascend (place + gap) (place + suc gap) (omega arith) within in
    omega (arith, before, step)

pub above_place : (most : ℕ) (reply : Reply) (rows : List (List ℕ)) → AreRows most (kinds_of reply) rows → (place : ℕ) → place < length rows → place < id_of rows place
above_place most reply rows are place within = climbs_up most rows place are.some are.ascend within

pub below_end : (most : ℕ) (reply : Reply) (rows : List (List ℕ)) → AreRows most (kinds_of reply) rows → (place : ℕ) → place < length rows
    → id_of rows place + (length rows - 1 - place) ≤ most
below_end most reply rows are place within =
    let last = length rows - 1 in
    let gap = length rows - 1 - place in
    let e : place + gap ≡ last = omega (arith, within) in
    let up = climbs_by rows place gap are.ascend (omega (arith, within)) in
    let here = ap (λ p. id_of rows p) e in
    let top = are.within last (omega (arith, within)) in
    omega (arith, up, here, top)

lt_true : (a b : ℕ) → a < b → nat_lt a b ≡ true
lt_true a b h = grind (arith, nat_tests)

le_true : (a b : ℕ) → a ≤ b → nat_le a b ≡ true
le_true a b h = grind (arith, nat_tests)

all_true : (a b c : Bool) → a ≡ true → b ≡ true → c ≡ true → ((a && b) && c) ≡ true
all_true a b c ea eb ec = cc (ea, eb, ec)

module _ (pages : ℕ → List ℕ) (reply : Reply) (rows : List (List ℕ)) (holds : HoldsRows pages reply rows) where
  counted : reply.run.count ≡ length rows
  counted = holds.has.count

  -- each row may stand where it does
  pub may : (place : ℕ) → place < reply.run.count → may_stand reply place (get_or rows place []) ≡ true
  may place within =
      let e = counted in
      let here : place < length rows = omega (arith, within, e) in
      let up = above_place reply.rows reply rows holds.are place here in
      let down = below_end reply.rows reply rows holds.are place here in
      all_true (nat_lt place (id_of rows place)) (nat_le (id_of rows place + (reply.run.count - 1 - place)) reply.rows) (are_cells (kinds_of reply) (drop 4 (get_or rows place [])))
      (lt_true place (id_of rows place) up)
      (le_true (id_of rows place + (reply.run.count - 1 - place)) reply.rows (omega (arith, down, e)))
      (holds.are.cells place here)

  module _ (bytes : List ℕ) (page : ℕ) (is : bytes ≡ pages (reply.run.first + page)) where
    -- the bytes of a page have its rows
    pub row_here : (place : ℕ) → place < reply.run.count → place / rows_in reply ≡ page → row_at reply bytes place ≡ get_or rows place []
    unfolding record_at
    row_here place within at =
        ap (λ b. cell_in b reply.run.width (place % rows_in reply)) (is ∙ ap (λ p. pages (reply.run.first + p)) (sym at)) ∙ holds.has.each place within

    pub id_here : (place : ℕ) → place < reply.run.count → place / rows_in reply ≡ page → id_at reply bytes place ≡ id_of rows place
    id_here place within at = ap id_of_bytes (row_here place within at)

    pub not_wrong : (place : ℕ) → place < reply.run.count → place / rows_in reply ≡ page → may_stand reply place (row_at reply bytes place) ≡ false → ⊥
    not_wrong place within at wrong =
        let e = ap (may_stand reply place) (row_here place within at) in
        let yes = may place within in
        cc (e, yes, wrong)

    module _ (first last : ℕ) (some : 0 < rows_in reply) (low : first ≡ page * rows_in reply) (order : first ≤ last) (within : last < reply.run.count)
        (high : last < first + rows_in reply) (whole : (place : ℕ) → place < reply.run.count → place < page * rows_in reply + rows_in reply → place ≤ last) where
      at_page : (place : ℕ) → first ≤ place → place ≤ last → place / rows_in reply ≡ page
      at_page place from to = in_page place page (rows_in reply) (omega (arith, from, low)) (omega (arith, to, low, high))

      ids : (place : ℕ) → first ≤ place → place ≤ last → id_at reply bytes place ≡ id_of rows place
      ids place from to = id_here place (omega (arith, to, within)) (at_page place from to)

      pub ascends : Ascend reply bytes first last
      ascends place later from less to =
          let a = ids place from (omega (arith, less, to)) in
          let b = ids later (omega (arith, from, less)) to in
          let e = counted in
          let step = holds.are.ascend place later less (omega (arith, to, within, e)) in
          omega (arith, a, b, step)

      -- rows before a page have lower identifiers, and rows behind it higher ones
      lower : (place : ℕ) → place < first → id_of rows place < id_of rows first
      lower place less = let e = counted in holds.are.ascend place first less (omega (arith, order, within, e))

      pub rows_from : (identifier : ℕ) → identifier < id_at reply bytes first → (place : ℕ) → place < length rows → page ≤ place / rows_in reply → identifier < id_of rows place
      rows_from identifier less place there from =
          let a = ids first (omega arith) order in
          let at : page * rows_in reply ≤ place = from_page place page (rows_in reply) from in
          elim (cases_lt first place) [
            | inl over ↦ (let step = holds.are.ascend first place over there in omega (arith, less, a, step))
            | inr under ↦ (let e : place ≡ first = omega (arith, at, low, under) in let h = ap (λ p. id_of rows p) e in omega (arith, less, a, h))
          ]

      pub rows_to : (identifier : ℕ) → id_at reply bytes last < identifier → (place : ℕ) → place < length rows → place / rows_in reply < page + 1 → id_of rows place < identifier
      rows_to identifier less place there to =
          let a = ids last order (omega arith) in
          let e = counted in
          let at : place ≤ last = whole place (omega (arith, there, e)) (by_page place page (rows_in reply) some to) in
          elim (cases_lt place last) [
            | inl under ↦ (let step = holds.are.ascend place last under (omega (arith, within, e)) in omega (arith, less, a, step))
            | inr over ↦ (let e : place ≡ last = omega (arith, at, over) in let h = ap (λ p. id_of rows p) e in omega (arith, less, a, h))
          ]

      pub nowhere : (identifier : ℕ) → id_at reply bytes first ≤ identifier → identifier ≤ id_at reply bytes last → HasNoneAmong reply bytes first last identifier → HasNone rows identifier
      nowhere identifier from to none place there same =
          let a = ids first (omega arith) order in
          let b = ids last order (omega arith) in
          let e = counted in
          elim (cases_lt place first) [
            | inl under ↦ (let step = lower place under in absurd (omega (arith, step, a, from, same)))
            | inr over ↦ elim (cases_lt last place) [
              | inl beyond ↦ (let step = holds.are.ascend last place beyond there in absurd (omega (arith, step, b, to, same)))
              | inr under ↦ (none ascends place over under (ids place over under ∙ same))
            ]
          ]

      pub row_found : (identifier place : ℕ) → first ≤ place → place ≤ last → id_at reply bytes place ≡ identifier → IsAt reply rows identifier bytes place
      row_found identifier place from to number =
          let e = counted in
          record {
            within = omega (arith, to, within, e);
            number = sym (ids place from to) ∙ number;
            row_is = row_here place (omega (arith, to, within)) (at_page place from to);
          }
