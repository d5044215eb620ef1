-- The last record of a list in the page of the next one.
use Rattle.std.proofs.Common.{◌≡◌, ℕ, ◌+◌, ◌-◌, ◌*◌, ◌/◌, ◌%◌, ◌<◌, ◌∙◌, ap, sym, min, arith}
use Rattle.std.proofs.lemmas.Nat.{div-mul-add, div-add-mod'}
use Rattle.std.proofs.Math.Nat.{mod-lt}
use Rattle.ghost_model.specs.forms.Runs.{per_page}
use Rattle.flash_pages.specs.declared.cursor.RunCursor.{RunCursor}
use Rattle.flash_pages.specs.Cursors.{IsLastInPage}
use Rattle.flash_pages.proofs.RecordLemmas.{later_page}

-- so many records on it stands in the same page
same_page : (place more n : ℕ) → 0 < n → more < n - place % n → (place + more) / n ≡ place / n
same_page place more n some few =
    let whole = div-add-mod' place n in
    let is : place + more ≡ place / n * n + (place % n + more) = omega (arith, whole) in
    ap (λ k. k / n) is ∙ div-mul-add (place / n) n (place % n + more) (omega (arith, few, mod-lt place some))

pub last_in_page :
    (cursor : RunCursor) (left more at : ℕ) → 0 < per_page cursor.list.run.width → cursor.place ≡ cursor.list.first + cursor.at
    → cursor.at < cursor.list.count → left ≡ per_page cursor.list.run.width - 1 - cursor.place % per_page cursor.list.run.width
    → more ≡ min left (cursor.list.count - 1 - cursor.at) → at ≡ cursor.at + more → IsLastInPage cursor at
last_in_page cursor left more at some stands inside here most is =
    let list = cursor.list in
    let n = per_page list.run.width in
    let place = list.first + cursor.at in
    let few : more ≡ min (n - 1 - place % n) (list.count - 1 - cursor.at) = most ∙ ap (λ k. min k (list.count - 1 - cursor.at)) (here ∙ ap (λ k. n - 1 - k % n) stands) in
    record {
      from = omega (arith, is);
      within = omega (arith, is, few, inside);
      same_page =
          let on : list.first + at ≡ place + more = omega (arith, is) in
          ap (λ k. list.run.first + k / n) on
          ∙ ap (λ q. list.run.first + q) (same_page place more n some (omega (arith, few, mod-lt place some)))
          ∙ ap (λ k. list.run.first + k / n) (sym stands);
      last = λ later behind within same.
          let pages : (list.first + later) / n ≡ cursor.place / n = omega (arith, same) in
          later_page list.first cursor.at list.count n later some (omega (arith, behind, is, few)) within (pages ∙ ap (λ k. k / n) stands);
    }
