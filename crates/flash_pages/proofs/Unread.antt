-- The pages that are still to be read for a list, from one call to the next.
use Rattle.std.proofs.Common.{◌≡◌, ◌≢◌, ◌∙◌, ℕ, ◌+◌, ◌-◌, ◌*◌, ◌/◌, ◌%◌, ◌<◌, ◌≤◌, ◌⊎◌, inl, inr, Bool, true, false, not, ◌&&◌, nat_lt, nat_eq, if◌then◌else◌, ap, sym, refl, subst, arith}
use Rattle.std.specs.Prelude.{Option, Some, Err}
use Rattle.std.proofs.lemmas.Bool.{cases_lt, cases_order, ltb-true, ltb-false, eqb-true, eqb-false, eq-eqb, false_from_ne_true}
use Rattle.std.proofs.lemmas.Nat.{le-div, div-mul-add, div-add-mod'}
use Rattle.std.proofs.Math.Nat.{mod-lt}
use Rattle.ghost_model.specs.forms.Runs.{page_of, per_page}
use Rattle.ghost_model.specs.forms.Gaps.{are_codes}
use Rattle.ghost_base.specs.declared.runs.ListRef.{ListRef}
use Rattle.ghost_base.specs.Runs.{run_of}
use Rattle.edge_traits.specs.Devices.{Device}
use Rattle.page_pool.specs.Pools.{Pool, page_at}
use Rattle.flash_pages.specs.declared.cursor.RunCursor.{RunCursor}
use Rattle.flash_pages.specs.declared.fault.PageFault.{PageFault}
use Rattle.flash_pages.specs.declared.fault.PageFault.TheVariants.{Flash, Damaged}
use Rattle.flash_pages.specs.declared.standing.Stand.{Stand}
use Rattle.flash_pages.specs.Codes.{left_behind}
use Rattle.flash_pages.specs.Cursors.{LeavesUnread, codes_here, page_last, page_next, pages_behind, unread_list, will_read}
use Rattle.flash_pages.specs.Holding.{is_apart}
use Rattle.flash_pages.specs.Reads.{FaultTells, page_after}
use Rattle.flash_pages.proofs.CodeSteps.{bit_same, bit_most}

-- the page of the record after one is the same or the next one
next_page : (place n : ℕ) → 0 < n → ((place + 1) / n ≡ place / n) ⊎ ((place + 1) / n ≡ place / n + 1)
next_page place n some =
    elim (cases_lt (place % n + 1) n) [
      | inl less ↦
          let is : place + 1 ≡ place / n * n + (place % n + 1) = omega (arith, div-add-mod' place n) in
          inl (ap (λ k. k / n) is ∙ div-mul-add (place / n) n (place % n + 1) less)
      | inr over ↦
          let is : place + 1 ≡ (place / n + 1) * n + 0 = omega (arith, div-add-mod' place n, over, mod-lt place some) in
          inr (ap (λ k. k / n) is ∙ div-mul-add (place / n + 1) n 0 some)
    ]

div_mono : (a b n : ℕ) → 0 < n → a ≤ b → a / n ≤ b / n
div_mono a b n some less = le-div (a / n) b n some (omega (arith, div-add-mod' a n, less))

-- a page of a list that is read, where another one stands in the buffer
page_left :
    (more same : Bool) (last held page at count : ℕ) → (more ≡ true → at < count) → (more ≡ false → count ≤ at) → (same ≡ true → held ≡ page)
    → (same ≡ false → held ≢ page) → (at < count → ((page ≡ held) ⊎ (page ≡ held + 1)) × (page ≤ last)) → (count ≤ at → (last ≡ held) × (last ≤ page))
    → (last - page) + (if more && not same then 1 else 0) ≡ last - held
page_left true true last held page at count less none is apart within over = omega (arith, is refl)
page_left true false last held page at count less none is apart within over =
    let inside = within (less refl) in
    elim inside.0 [ inl here ↦ absurd (apart refl (sym here)) | inr on ↦ omega (arith, on, inside.1) ]
page_left false same last held page at count less none is apart within over =
    let outside = over (none refl) in omega (arith, outside.0, outside.1)

-- the same by a list's records
abbrev unread_by : ListRef → (at : ℕ) → (held page : ℕ) → ℕ
unread_by list at held page =
    (page_of (run_of list.run) (list.first + (list.count - 1)) - page) + (if nat_lt at list.count && not (nat_eq held page) then 1 else 0)

unread_after :
    (list : ListRef) (at : ℕ) → 0 < per_page list.run.width → 0 < at → at ≤ list.count
    → unread_by list at (page_of (run_of list.run) (list.first + (at - 1))) (page_of (run_of list.run) (list.first + at))
    ≡ page_of (run_of list.run) (list.first + (list.count - 1)) - page_of (run_of list.run) (list.first + (at - 1))
unread_after list at some further within =
    let n = per_page list.run.width in
    let before = list.first + (at - 1) in
    let here = list.first + at in
    let next : here ≡ before + 1 = omega (arith, further) in
    let held = list.run.first + before / n in
    let page = list.run.first + here / n in
    let last = list.run.first + (list.first + (list.count - 1)) / n in
    let on : (here / n ≡ before / n) ⊎ (here / n ≡ before / n + 1) =
    let P : ℕ → Type 0 = λ k. (k / n ≡ before / n) ⊎ (k / n ≡ before / n + 1) in subst P (sym next) (next_page before n some) in
    page_left (nat_lt at list.count) (nat_eq held page) last held page at list.count (ltb-true at list.count) (ltb-false at list.count)
    (eqb-true held page) (eqb-false held page)
    (λ less. (
      elim on [ inl same ↦ inl (ap (λ q. list.run.first + q) same) | inr more ↦ inr (omega (arith, more)) ],
      omega (arith, div_mono here (list.first + (list.count - 1)) n some (omega (arith, less))),
    ))
    (λ over. (
      let is : list.count ≡ at = omega (arith, over, within) in ap (λ k. list.run.first + (list.first + (k - 1)) / n) is,
      omega (arith, div_mono (list.first + (list.count - 1)) here n some (omega (arith, over))),
    ))

-- the pages behind that of the next record, and that of the next code
behind_records : (cursor : RunCursor) → are_codes (run_of cursor.list.run) ≡ false → pages_behind cursor ≡ page_last cursor - page_next cursor
behind_records cursor records =
    ap (λ (codes : Bool). if codes then ((cursor.list.count - cursor.at) - codes_here cursor.place + 681) / 682 else page_last cursor - page_next cursor) records

behind_codes :
    (cursor : RunCursor) → are_codes (run_of cursor.list.run) ≡ true
    → pages_behind cursor ≡ ((cursor.list.count - cursor.at) - codes_here cursor.place + 681) / 682
behind_codes cursor codes =
    ap (λ (codes : Bool). if codes then ((cursor.list.count - cursor.at) - codes_here cursor.place + 681) / 682 else page_last cursor - page_next cursor) codes

-- records in the page of the next one were taken
pub unread_on :
    (later : Pool) (old : RunCursor) (at place last : ℕ) → are_codes (run_of old.list.run) ≡ false → 0 < per_page old.list.run.width → 0 < at
    → at ≤ old.list.count → place ≡ old.list.first + at → page_of (run_of old.list.run) (old.list.first + (at - 1)) ≡ page_next old
    → page_at later old.lease ≡ Some (page_next old)
    → unread_list later (record old { at = at; place = place; last = last }) ≡ pages_behind old
unread_on later old at place last records some further within stands here held =
    let list = old.list in
    let run = run_of list.run in
    ap (λ (value : Option ℕ). pages_behind (record old { at = at; place = place; last = last }) + (if nat_lt at list.count && is_apart value (page_of run place) then 1 else 0)) held
    ∙ ap (λ n. n + (if nat_lt at list.count && not (nat_eq (page_next old) (page_of run place)) then 1 else 0)) (behind_records (record old { at = at; place = place; last = last }) records)
    ∙ ap (λ n. unread_by list at (page_next old) (page_of run n)) stands
    ∙ ap (λ page. unread_by list at page (page_of run (list.first + at))) (sym here)
    ∙ unread_after list at some further within
    ∙ ap (λ page. page_last old - page) here
    ∙ sym (behind_records old records)

-- none was, and the page stands in the buffer
pub unread_stays : (later : Pool) (old : RunCursor) → page_at later old.lease ≡ Some (page_next old) → unread_list later old ≡ pages_behind old
unread_stays later old held =
    ap (λ (value : Option ℕ). pages_behind old + (if nat_lt old.at old.list.count && is_apart value (page_next old) then 1 else 0)) held
    ∙ ap (λ n. pages_behind old + n) (bit_same (nat_lt old.at old.list.count) (page_next old) (page_next old) refl)
    ∙ omega arith

-- codes of the page were taken
eq_behind : (n a b : ℕ) → nat_eq (n + a) (n + b) ≡ nat_eq a b
eq_behind n a b =
    elim (cases_order a b) [
      | inl same ↦ eq-eqb (n + a) (n + b) (omega (arith, same)) ∙ sym (eq-eqb a b same)
      | inr apart ↦
          let other : a ≢ b = λ same. elim apart [ inl less ↦ omega (arith, less, same) | inr greater ↦ omega (arith, greater, same) ] in
          false_from_ne_true (nat_eq (n + a) (n + b)) (λ is. other (omega (arith, eqb-true (n + a) (n + b) is)))
          ∙ sym (false_from_ne_true (nat_eq a b) (λ is. other (eqb-true a b is)))
    ]

pub unread_codes :
    (later : Pool) (old : RunCursor) (next : Stand) → old.list.run.width ≡ 1 → page_at later old.lease ≡ Some (page_next old)
    → unread_list later (record old { at = next.at; place = next.place; last = next.last }) ≡ left_behind old.place old.list.count next
unread_codes later old next codes held =
    let list = old.list in
    let new : RunCursor = record old { at = next.at; place = next.place; last = next.last } in
    let first = list.run.first in
    let behind = (((list.count - next.at) - codes_here next.place) + 681) / 682 in
    ap (λ (value : Option ℕ). pages_behind new + (if nat_lt next.at list.count && is_apart value (page_next new) then 1 else 0)) held
    ∙ ap (λ n. n + (if nat_lt next.at list.count && not (nat_eq (page_next old) (page_next new)) then 1 else 0)) (behind_codes new (eq-eqb list.run.width 1 codes))
    ∙ ap (λ width. behind + (if nat_lt next.at list.count && not (nat_eq (first + old.place / (2048 / width)) (first + next.place / (2048 / width))) then 1 else 0)) codes
    ∙ ap (λ (same : Bool). behind + (if nat_lt next.at list.count && not same then 1 else 0)) (eq_behind first (old.place / 2048) (next.place / 2048))

pub behind_is : (old : RunCursor) → old.list.run.width ≡ 1 → pages_behind old ≡ ((old.list.count - old.at) - codes_here old.place + 681) / 682
behind_is old codes = behind_codes old (eq-eqb old.list.run.width 1 codes)

-- what a call leaves
pub leaves_behind :
    (pool later : Pool) (old new : RunCursor) → unread_list later new ≤ pages_behind old
    → unread_list later new + (if will_read pool old then 1 else 0) ≤ unread_list pool old
leaves_behind pool later old new less = omega (arith, less)

failed : (b : Bool) → b ≡ true → (n : ℕ) (c : Bool) → n + (if c then 1 else 0) ≤ n + (if b then 1 else 0)
failed true is n c = omega (arith, bit_most c)
failed false is n c = absurd cc

pub fault_leaves :
    (T : Type 0) (before now : Device) (pool later : Pool) (old : RunCursor) (fault : PageFault)
    → page_at later old.lease ≡ page_after {T = T} (Err fault) (page_next old) → FaultTells before now (will_read pool old ≡ true) fault
    → LeavesUnread (will_read pool old) (unread_list pool old) (unread_list later old) {T = T} (Err fault)
fault_leaves T before now pool later old Flash held tells = failed (will_read pool old) tells.made (pages_behind old) (will_read later old)
fault_leaves T before now pool later old (Damaged number slot found) held tells =
    leaves_behind pool later old old (omega (arith, unread_stays later old held))
