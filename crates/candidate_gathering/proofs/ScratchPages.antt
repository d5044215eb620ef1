-- The areas of scratch have room for the rows of the largest table, and there are six of them at least.
use Rattle.std.proofs.Common.{◌≡◌, refl, ℕ, ◌+◌, ◌*◌, ◌<◌, ◌≤◌, ◌⊎◌, inl, inr, Bool, true, false, nat_eq, arith}
use Rattle.std.specs.Prelude.{if◌then◌else◌}
use Rattle.std.proofs.Math.Nat.{le-max_left}
use Rattle.ghost_model.specs.core.Channel.{Catalog}
use Rattle.ghost_model.specs.forms.Layout.{appended_pages, largest_count, largest_room, root_of, row_room, scratch_count, scratch_end, scratch_pages, spool_end, need}
use Rattle.spill_pass.specs.Merging.{area_pages}
use Rattle.candidate_gathering.specs.Stages.{HasGroupArea, group_number}

area_grows : (few many : ℕ) → few ≤ many → area_pages few ≤ area_pages many
area_grows few many low = omega (arith, low)

pub rows_in_area : (cat : Catalog) → area_pages (largest_count cat) ≤ scratch_pages cat
rows_in_area cat = area_grows (largest_count cat) (largest_room cat) (le-max_left (largest_count cat) (row_room cat (root_of cat.schema)))

six_or_eight : (first : Bool) (end pages : ℕ) → end + 6 * pages ≤ end + (if first then 6 else 8) * pages
six_or_eight true end pages = omega arith
six_or_eight false end pages = omega arith

pub six_areas : (cat : Catalog) → spool_end cat + 6 * scratch_pages cat ≤ scratch_end cat
six_areas cat = six_or_eight (nat_eq cat.version 1) (spool_end cat) (scratch_pages cat)

in_six_or_eight : (first : Bool) (area : ℕ) → area < 6 → area < (if first then 6 else 8)
in_six_or_eight true area low = low
in_six_or_eight false area low = omega (arith, low)

pub one_of_six : (cat : Catalog) (area : ℕ) → area < 6 → area < scratch_count cat
one_of_six cat area low = in_six_or_eight (nat_eq cat.version 1) area low

-- the area for groups is one of them: the second or the seventh
abbrev number_by : Bool → ℕ
number_by first = if first then 1 else 6

there_by : (first : Bool) → number_by first < (if first then 6 else 8)
there_by true = omega arith
there_by false = omega arith

pub group_there : (cat : Catalog) → group_number cat < scratch_count cat
group_there cat = there_by (nat_eq cat.version 1)

seventh_by : (first : Bool) → 6 < (if first then 6 else 8) → number_by first ≡ 6
seventh_by true has = omega (arith, has)
seventh_by false has = refl

pub group_seventh : (cat : Catalog) → HasGroupArea cat → group_number cat ≡ 6
group_seventh cat has = seventh_by (nat_eq cat.version 1) has

either_by : (first : Bool) → (number_by first ≡ 1) ⊎ (number_by first ≡ 6)
either_by true = inl refl
either_by false = inr refl

pub group_either : (cat : Catalog) → (group_number cat ≡ 1) ⊎ (group_number cat ≡ 6)
group_either cat = either_by (nat_eq cat.version 1)

with_more : (end more : ℕ) → end ≤ end + 2 * more
with_more end more = omega arith

pub scratch_in_need : (cat : Catalog) → scratch_end cat ≤ need cat
scratch_in_need cat = with_more (scratch_end cat) (appended_pages cat)
