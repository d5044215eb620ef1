-- Where lists start at each level.
use Rattle.std.proofs.Common.{◌≡◌, sym, ap, ◌∙◌, subst, ℕ, zero, suc, ◌+◌, ◌<◌, ◌≤◌, inl, inr, List, [], ◌∷◌, ◌++◌, length, take, get_or, Vec, arith}
use Rattle.std.specs.Global.{Global}
use Rattle.std.specs.List.{concat}
use Rattle.std.proofs.lemmas.Bool.{cases_lt}
use Rattle.std.proofs.lemmas.List.{length-append, length_push, get_or_push, get_or-map, get_or_append_left, map_push, take_more}
use Rattle.std.proofs.lemmas.List.FromFn.{length-map-range_with_len}
use Rattle.index_lists.specs.Lists.{lists_of, rows_of_rank, start_of}
use Rattle.index_files.specs.Files.{items_of, ranks_of}
use Rattle.index_files.specs.Directory.{AreBeginsOf, AreStartsOf}

-- a number by its place
pub number_at : (numbers : List ℕ) (k number : ℕ) → number ≡ get_or numbers k number → k < length numbers → number ≡ get_or numbers k 0
number_at [] k number is low = absurd (omega (arith, low))
number_at (n ∷ numbers) zero number is low = is
number_at (n ∷ numbers) (suc k) number is low = number_at numbers k number is (omega (arith, low))

-- the numbers of a vector by its place
pub ranks_at :
    (levels : List (Vec ℕ Global)) (level : ℕ) (ranks : Vec ℕ Global) → ranks ≡ get_or levels level ranks → level < length levels
    → get_or (ranks_of levels) level [] ≡ ranks.items
ranks_at levels level ranks is low = get_or-map items_of levels level ranks [] low ∙ ap items_of (sym is)

-- those of the levels before one
pub record StartsBefore (levels : List (List ℕ)) (entries done : ℕ) (starts : List (List ℕ)) : Type 0 where
  pub many : length starts ≡ done
  pub each : (level : ℕ) → level < done → AreStartsOf (lists_of (get_or levels level []) entries) entries (get_or starts level [])

-- one level more
pub one_more :
    (Is : ℕ → List ℕ → Type 0) (done : ℕ) (all : List (Vec ℕ Global)) (one : Vec ℕ Global) → length (ranks_of all) ≡ done
    → ((level : ℕ) → level < done → Is level (get_or (ranks_of all) level [])) → Is done one.items
    → (level : ℕ) → level < done + 1 → Is level (get_or (ranks_of (all ++ one ∷ [])) level [])
one_more Is done all one many each here level low =
    subst (λ columns. Is level (get_or columns level [])) (sym (map_push items_of all one))
    (elim (cases_lt level done) [
      | inl before ↦
          subst (Is level) (sym (get_or_append_left (ranks_of all) (one.items ∷ []) [] level (omega (arith, before, many)))) (each level before)
      | inr behind ↦
          let same : done ≡ level = omega (arith, low, behind) in
          subst (Is level) (sym (get_or_push (ranks_of all) one.items [] level (many ∙ same))) (subst (λ k. Is k one.items) same here)
    ])

count_more : (done : ℕ) (all : List (Vec ℕ Global)) (one : Vec ℕ Global) → length (ranks_of all) ≡ done → length (ranks_of (all ++ one ∷ [])) ≡ done + 1
count_more done all one many = ap length (map_push items_of all one) ∙ length_push (ranks_of all) one.items ∙ ap (λ n. n + 1) many

pub starts_more :
    (levels : List (List ℕ)) (entries done : ℕ) (all : List (Vec ℕ Global)) (one : Vec ℕ Global) → StartsBefore levels entries done (ranks_of all)
    → AreStartsOf (lists_of (get_or levels done []) entries) entries one.items
    → StartsBefore levels entries (done + 1) (ranks_of (all ++ one ∷ []))
starts_more levels entries done all one was here = record {
  many = count_more done all one was.many;
  each = one_more (λ level column. AreStartsOf (lists_of (get_or levels level []) entries) entries column) done all one was.many was.each here;
}

-- where the lists begin at the levels before one
pub record BeginsBefore (levels : List (List ℕ)) (entries done : ℕ) (begins : List (List ℕ)) : Type 0 where
  pub many : length begins ≡ done
  pub each : (level : ℕ) → level < done → AreBeginsOf (lists_of (get_or levels level []) entries) entries (get_or begins level [])

pub begins_one_more :
    (levels : List (List ℕ)) (entries done : ℕ) (all : List (Vec ℕ Global)) (one : Vec ℕ Global) → BeginsBefore levels entries done (ranks_of all)
    → AreBeginsOf (lists_of (get_or levels done []) entries) entries one.items
    → BeginsBefore levels entries (done + 1) (ranks_of (all ++ one ∷ []))
begins_one_more levels entries done all one was here = record {
  many = count_more done all one was.many;
  each = one_more (λ level column. AreBeginsOf (lists_of (get_or levels level []) entries) entries column) done all one was.many was.each here;
}

-- starts rise
concat_push : (lists : List (List ℕ)) (list : List ℕ) → length (concat (lists ++ list ∷ [])) ≡ length (concat lists) + length list
concat_push [] list = omega (arith, length-append list [])
concat_push (one ∷ lists) list =
    omega (arith, length-append one (concat (lists ++ list ∷ [])), concat_push lists list, length-append one (concat lists))

start_rises : (lists : List (List ℕ)) (entry : ℕ) → entry < length lists → start_of lists entry ≤ start_of lists (entry + 1)
start_rises lists entry low =
    omega (arith, ap (λ ls. length (concat ls)) (take_more lists entry [] low), concat_push (take entry lists) (get_or lists entry []))

pub lists_count : (ranks : List ℕ) (entries : ℕ) → length (lists_of ranks entries) ≡ entries
lists_count ranks entries = length-map-range_with_len (rows_of_rank ranks) 0 entries

pub starts_rise :
    (ranks : List ℕ) (entries : ℕ) (starts : List ℕ) → AreStartsOf (lists_of ranks entries) entries starts → (entry : ℕ) → entry < entries
    → get_or starts entry 0 ≤ get_or starts (entry + 1) 0
starts_rise ranks entries starts are entry low =
    omega (
      arith,
      are.each entry (omega (arith, low)),
      are.each (entry + 1) (omega (arith, low)),
      start_rises (lists_of ranks entries) entry (omega (arith, low, lists_count ranks entries)),
    )
