-- Areas after candidates were written: they are there, lie outside of a region, and are turned back where candidates are written again.
use Rattle.std.proofs.Common.{◌≡◌, ◌∙◌, ℕ, ◌+◌, ◌⊎◌, inl, inr, ap, sym, refl, subst, arith}
use Rattle.edge_traits.specs.Devices.{Device}
use Rattle.spill_pass.specs.Grouping.{AreApart}
use Rattle.spill_pass.specs.Merging.{IsArea, area_pages}
use Rattle.spill_pass.specs.Reducing.{IsForLists}
use Rattle.candidate_lists.specs.declared.scratch.Scratch.{Scratch}
use Rattle.candidate_lists.specs.Outside.{ScratchOutside, TurnedIsOutside}
use Rattle.candidate_lists.specs.Scratch.{HasScratch, HasTurned, TurnsAgain, areas_of, turned}

-- an area for lists is the first one then, or the one that candidates stood in
turned_lists : (scratch : Scratch) (first : ℕ) → IsForLists (areas_of (turned scratch)) first → (first ≡ scratch.lists) ⊎ (first ≡ scratch.candidates)
turned_lists scratch first (inl is) = inl is
turned_lists scratch first (inr (inl is)) = inl is
turned_lists scratch first (inr (inr is)) = inr is

pub swapped : {first end other other_end : ℕ} → AreApart first end other other_end → AreApart other other_end first end
swapped (inl before) = inr before
swapped (inr behind) = inl behind

at_same :
    {first other : ℕ} (one two pages more : ℕ) → first ≡ one → other ≡ two → AreApart one (one + pages) two (two + more)
    → AreApart first (first + pages) other (other + more)
at_same one two pages more same also (inl before) = inl (omega (arith, same, also, before))
at_same one two pages more same also (inr behind) = inr (omega (arith, same, also, behind))

lists_turned :
    {device : Device} {scratch : Scratch} {rows size first other : ℕ} → HasScratch device scratch rows size
    → (first ≡ scratch.lists) ⊎ (first ≡ scratch.candidates) → (other ≡ scratch.lists) ⊎ (other ≡ scratch.candidates) → (first ≡ other → ⊥)
    → AreApart first (first + area_pages rows) other (other + area_pages rows)
lists_turned has (inl is) (inl also) differ = absurd (differ (is ∙ sym also))
lists_turned {scratch = scratch} {rows = rows} has (inl is) (inr also) differ =
    at_same scratch.lists scratch.candidates (area_pages rows) (area_pages rows) is also (swapped (has.from_lists scratch.lists (inl refl)))
lists_turned {scratch = scratch} {rows = rows} has (inr is) (inl also) differ =
    at_same scratch.candidates scratch.lists (area_pages rows) (area_pages rows) is also (has.from_lists scratch.lists (inl refl))
lists_turned has (inr is) (inr also) differ = absurd (differ (is ∙ sym also))

pub scratch_turned : (device : Device) (scratch : Scratch) (rows size : ℕ) → HasScratch device scratch rows size → HasScratch device (turned scratch) rows size
scratch_turned device scratch rows size has =
    let A : ℕ → Type 0 = λ first. IsArea device first rows in
    let next = scratch.other_lists in
    record {
      candidates = has.lists.lists next (inr (inr refl));
      lists = record {
        lists = λ first is.
            elim (turned_lists scratch first is) [
              | inl same ↦ subst A (sym same) (has.lists.lists scratch.lists (inl refl))
              | inr same ↦ subst A (sym same) has.candidates
            ];
        places = has.lists.places;
        lists_apart = λ first other is is_other differ.
            lists_turned has (turned_lists scratch first is) (turned_lists scratch other is_other) differ;
        places_apart = has.lists.places_apart;
        apart = λ first other is is_other.
            elim (turned_lists scratch first is) [
              | inl same ↦
                  at_same scratch.lists other (area_pages rows) (area_pages size) same refl (has.lists.apart scratch.lists other (inl refl) is_other)
              | inr same ↦ at_same scratch.candidates other (area_pages rows) (area_pages size) same refl (has.from_places other is_other)
            ];
        two_lists = λ same. has.two (sym same);
        two_places = has.lists.two_places;
      };
      from_lists = λ other is.
          elim (turned_lists scratch other is) [
            | inl same ↦
                at_same next scratch.lists (area_pages rows) (area_pages rows) refl same
                (swapped (has.lists.lists_apart scratch.lists next (inl refl) (inr (inr refl)) has.lists.two_lists))
            | inr same ↦
                at_same next scratch.candidates (area_pages rows) (area_pages rows) refl same (swapped (has.from_lists next (inr (inr refl))))
          ];
      from_places = λ other is. has.lists.apart next other (inr (inr refl)) is;
      two = λ same. has.lists.two_lists (sym same);
    }

pub has_turned : HasTurned
has_turned device old new rows size (inl same) has =
    let S : Scratch → Type 0 = λ scratch. HasScratch device scratch rows size in
    subst S (sym same) has
has_turned device old new rows size (inr same) has =
    let S : Scratch → Type 0 = λ scratch. HasScratch device scratch rows size in
    subst S (sym same) (scratch_turned device old rows size has)

pub outside_turned : (low high : ℕ) (scratch : Scratch) (rows size : ℕ) → ScratchOutside low high scratch rows size → ScratchOutside low high (turned scratch) rows size
outside_turned low high scratch rows size outside = record {
  candidates = outside.lists scratch.other_lists (inr (inr refl));
  lists = λ first is.
      let A : ℕ → Type 0 = λ page. AreApart page (page + area_pages rows) low high in
      elim (turned_lists scratch first is) [
        | inl same ↦ subst A (sym same) (outside.lists scratch.lists (inl refl))
        | inr same ↦ subst A (sym same) outside.candidates
      ];
  places = outside.places;
}

pub turned_is_outside : TurnedIsOutside
turned_is_outside low high old new rows size (inl same) outside =
    let S : Scratch → Type 0 = λ scratch. ScratchOutside low high scratch rows size in
    subst S (sym same) outside
turned_is_outside low high old new rows size (inr same) outside =
    let S : Scratch → Type 0 = λ scratch. ScratchOutside low high scratch rows size in
    subst S (sym same) (outside_turned low high old rows size outside)

turned_back : (scratch : Scratch) → turned (turned scratch) ≡ scratch
turned_back scratch = refl

pub turns_again : TurnsAgain
turns_again old between new (inl one) (inl two) = inl (two ∙ one)
turns_again old between new (inl one) (inr two) = inr (two ∙ ap (λ (s : Scratch). turned s) one)
turns_again old between new (inr one) (inl two) = inr (two ∙ one)
turns_again old between new (inr one) (inr two) = inl (two ∙ ap (λ (s : Scratch). turned s) one ∙ turned_back old)
