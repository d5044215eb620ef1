-- Runs, their parts and their identifiers.
use Rattle.std.proofs.Common.{◌≡◌, refl, ap, sym, ◌∙◌, ℕ, zero, suc, ◌+◌, ◌-◌, ◌*◌, ◌<◌, ◌≤◌, List, [], ◌∷◌, length, map, take, drop, get_or, arith}
use Rattle.std.specs.List.{slice_range}
use Rattle.std.specs.Int.{from_be_bytes, w32}
use Rattle.std.proofs.lemmas.List.{drop-take, take-take, drop-drop, drop_more}
use Rattle.ghost_model.specs.forms.Runs.{page_bytes, Run, per_page, run_end, page_of, slot_of, cell_in, record_at, HasRecords, Stores, number_in, ids_from}
use Rattle.ghost_model.specs.laws.RunLaws.{AgreeOn, PartsOfRecords}
use Rattle.ghost_model.proofs.LayoutLemmas.Numbers.{some_per_page, place_within}

record_kept : (page other : ℕ → List ℕ) (run : Run) → 0 < run.width → run.width ≤ page_bytes → AgreeOn page other run.first (run_end run)
    → (place : ℕ) → place < run.count → record_at other run place ≡ record_at page run place
unfolding record_at
record_kept page other run wide narrow agree place low =
    let within = place_within place run.count (per_page run.width) (some_per_page run.width wide narrow) low in
    ap (λ bytes. cell_in bytes run.width (slot_of run place)) (agree (page_of run place) (omega arith) (omega (arith, within)))

pub records_kept : (page other : ℕ → List ℕ) (run : Run) (records : List (List ℕ)) → 0 < run.width → run.width ≤ page_bytes
    → AgreeOn page other run.first (run_end run) → HasRecords page run records → HasRecords other run records
records_kept page other run records wide narrow agree has = record {
  count = has.count;
  each = λ place low. record_kept page other run wide narrow agree place low ∙ has.each place low;
}

pub run_kept : (page other : ℕ → List ℕ) (run : Run) (records : List (List ℕ)) → 0 < run.width → run.width ≤ page_bytes
    → AgreeOn page other run.first (run_end run) → Stores page run records → Stores other run records
run_kept page other run records wide narrow agree stores = record {
  has = records_kept page other run records wide narrow agree stores.has;
  rest = λ place low. ap (drop _) (agree (run.first + place) (omega arith) (omega (arith, low))) ∙ stores.rest place low;
}

-- a part of a part
inner : (bytes : List ℕ) (from width at size : ℕ) → at + size ≤ width
    → slice_range bytes (from + at) (from + at + size) ≡ slice_range (slice_range bytes from (from + width)) at (at + size)
inner bytes from width at size within =
    let all : from + at + size - (from + at) ≡ size = omega arith in
    let some : at + size - at ≡ size = omega arith in
    let whole : from + width - from ≡ at + (width - at) = omega (arith, within) in
    ap (λ n. take n (drop (from + at) bytes)) all
    ∙ (sym (ap (take size) (drop-drop at from bytes))
    ∙ (sym (take-take size (width - at) (drop at (drop from bytes)) (omega (arith, within)))
    ∙ (sym (ap (take size) (drop-take at (width - at) (drop from bytes)))
    ∙ (sym (ap (λ n. take size (drop at (take n (drop from bytes)))) whole)
    ∙ sym (ap (λ n. take n (drop at (slice_range bytes from (from + width)))) some)))))

pub parts : PartsOfRecords
unfolding record_at number_in
parts = record {
  bytes = λ page run place at size within. inner (page (page_of run place)) (slot_of run place * run.width) run.width at size within;
  number = λ page run place at within. ap (from_be_bytes w32) (inner (page (page_of run place)) (slot_of run place * run.width) run.width at 4 within);
}

pub identifiers : (page : ℕ → List ℕ) (run : Run) (records : List (List ℕ)) → HasRecords page run records
    → (place count : ℕ) → place + count ≤ length records
    → ids_from page run place count ≡ map (λ bytes. number_in bytes 0) (take count (drop place records))
unfolding ids_from
identifiers page run records has place zero within = refl
identifiers page run records has place (suc count) within =
    let here : record_at page run place ≡ get_or records place [] = has.each place (omega (arith, has.count, within)) in
    let rest = identifiers page run records has (place + 1) count (omega (arith, within)) in
    let one = ap (λ bytes. number_in bytes 0) here in
    let all = ap (λ xs. map (λ bytes. number_in bytes 0) (take (suc count) xs)) (drop_more records place [] (omega (arith, within))) in
    (λ i. one i ∷ rest i) ∙ sym all
