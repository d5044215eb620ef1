-- Full pages and begun ones, by the number of records.
use Rattle.std.proofs.Common.{◌≡◌, ℕ, zero, suc, ◌+◌, ◌-◌, ◌*◌, ◌/◌, ◌<◌, ◌≤◌, List, [], ◌∷◌, ◌++◌, length, map, sym, ◌∙◌, ap, refl, arith, Some}
use Rattle.std.specs.Prelude.{sum_by}
use Rattle.std.proofs.lemmas.List.{length-map}
use Rattle.std.proofs.lemmas.List.Elements.{filter_map-append}
use Rattle.std.proofs.lemmas.List.Sums.{sum_by-append, sum_by-cons}
use Rattle.std.proofs.lemmas.Nat.{div-mul-add, le-div, div-add-mod'}
use Rattle.ghost_model.specs.core.Schema.{Schema}
use Rattle.ghost_model.specs.core.Asks.{NumberedAsk, row_width, rows_from, rows_in}
use Rattle.ghost_model.specs.core.NextMove.{EndedAsk, Answered, ended}
use Rattle.ghost_model.specs.core.Replies.{Reply, reply_of, replied_row}
use Rattle.ghost_model.specs.forms.Runs.{pages_of}
use Rattle.session_laws.specs.HonestSessions.{replies_in}
use Rattle.key_session.specs.Calls.{pages_of_reply}

-- the pages that are full of so many records, of which some wait
pub full_by : (each pages held count : ℕ) → pages * each + held ≡ count → held < each → count / each ≡ pages
full_by each pages held count is few = ap (λ n. n / each) (sym is) ∙ div-mul-add pages each held few

-- more records fill no fewer pages
pub full_more : (each count more : ℕ) → 0 < each → count ≤ more → count / each ≤ more / each
full_more each count more some up =
    let parts = div-add-mod' count each in
    le-div (count / each) more each some (omega (arith, parts, up))

-- with one more, where some wait
pub all_pages_waiting : (each pages held count : ℕ) → pages * each + held ≡ count → held < each → 0 < held → (count + (each - 1)) / each ≡ pages + 1
all_pages_waiting each pages held count is few some =
    let spread : (pages + 1) * each ≡ pages * each + each = grind arith in
    let rest : (pages + 1) * each + (held - 1) ≡ count + (each - 1) = omega (arith, spread, is, few, some) in
    let small : held - 1 < each = omega (arith, few) in
    ap (λ n. n / each) (sym rest) ∙ div-mul-add (pages + 1) each (held - 1) small

pub all_pages_full : (each pages count : ℕ) → pages * each ≡ count → 0 < each → (count + (each - 1)) / each ≡ pages
all_pages_full each pages count is some =
    let small : each - 1 < each = omega (arith, some) in
    ap (λ n. (n + (each - 1)) / each) (sym is) ∙ div-mul-add pages each (each - 1) small

zero_div : (n : ℕ) → 0 / n ≡ 0
zero_div n = grind arith

-- no rows fill no page
pub no_rows : (width each : ℕ) → 0 / width / each ≡ 0
no_rows width each = ap (λ n. n / each) (zero_div width) ∙ zero_div each

rows_count : (width count : ℕ) (bytes : List ℕ) → length (rows_from width count bytes) ≡ count
unfolding rows_from
rows_count width zero bytes = refl
rows_count width (suc count) bytes = ap suc (rows_count width count _)

-- the pages of a reply that came whole
reply_came : (schema : Schema) (asked : NumberedAsk) (rows : List ℕ) (reply : Reply) → reply_of schema asked (Answered rows) ≡ Some reply
    → pages_of_reply schema reply ≡ pages_of (length rows / row_width schema asked.ask) (row_width schema asked.ask)
reply_came schema asked rows reply e =
    let same : (record { ask = asked.ask; rows = map (replied_row schema asked.ask) (rows_in schema asked.ask rows) }) ≡ reply = cc in
    ap (pages_of_reply schema) (sym same)
    ∙ ap (λ n. pages_of n (row_width schema asked.ask)) (length-map (rows_in schema asked.ask rows) (replied_row schema asked.ask) ∙ rows_count (row_width schema asked.ask) (length rows / row_width schema asked.ask) rows)

-- the pages of replies that came one after another
pub pages_joined : (schema : Schema) (ends more : List EndedAsk) → sum_by (pages_of_reply schema) (replies_in schema (ends ++ more)) ≡ sum_by (pages_of_reply schema) (replies_in schema ends) + sum_by (pages_of_reply schema) (replies_in schema more)
pages_joined schema ends more =
    ap (sum_by (pages_of_reply schema)) (filter_map-append (λ (end : EndedAsk). reply_of schema end.asked end.ending) ends more)
    ∙ sum_by-append (pages_of_reply schema) (replies_in schema ends) (replies_in schema more)

pub pages_of_one : (schema : Schema) (asked : NumberedAsk) (rows : List ℕ) → sum_by (pages_of_reply schema) (replies_in schema (ended asked (Answered rows) ∷ [])) ≡ pages_of (length rows / row_width schema asked.ask) (row_width schema asked.ask)
pages_of_one schema asked rows =
    sum_by-cons (pages_of_reply schema) (record { ask = asked.ask; rows = map (replied_row schema asked.ask) (rows_in schema asked.ask rows) }) [] ∙ (omega arith ∙ reply_came schema asked rows (record { ask = asked.ask; rows = map (replied_row schema asked.ask) (rows_in schema asked.ask rows) }) refl)
