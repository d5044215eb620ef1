-- Areas for a group's candidates: they are there, lie outside of a region, and are given back.
use Rattle.std.proofs.Common.{ℕ, ◌+◌, inl, inr, ap, sym, refl, subst}
use Rattle.edge_traits.specs.Devices.{Device}
use Rattle.spill_pass.specs.Merging.{area_pages}
use Rattle.candidate_lists.specs.declared.scratch.Scratch.{Scratch}
use Rattle.candidate_lists.specs.Groups.{GivesBack, GroupedIsOutside, HasGroup, HasGrouped, HasGroupTurned}
use Rattle.candidate_lists.specs.Scratch.{grouped, turned}
use Rattle.candidate_lists.proofs.Turning.{outside_turned, scratch_turned, swapped}

pub has_grouped : HasGrouped
has_grouped device scratch rows size has = record {
  written = record {
    candidates = has.group;
    lists = has.written.lists;
    from_lists = λ other is. swapped (has.outside.lists other is);
    from_places = λ other is. swapped (has.outside.places other is);
    two = has.another;
  };
  group = has.written.candidates;
  outside = record {
    candidates = swapped has.outside.candidates;
    lists = λ first is. swapped (has.written.from_lists first is);
    places = λ first is. swapped (has.written.from_places first is);
  };
  another = has.written.two;
}

group_turned : (device : Device) (scratch : Scratch) (rows size : ℕ) → HasGroup device scratch rows size → HasGroup device (turned scratch) rows size
group_turned device scratch rows size has = record {
  written = scratch_turned device scratch rows size has.written;
  group = has.group;
  outside = outside_turned scratch.group (scratch.group + area_pages rows) scratch rows size has.outside;
  another = has.another;
}

pub has_group_turned : HasGroupTurned
has_group_turned device old new rows size (inl same) has =
    let S : Scratch → Type 0 = λ scratch. HasGroup device scratch rows size in
    subst S (sym same) has
has_group_turned device old new rows size (inr same) has =
    let S : Scratch → Type 0 = λ scratch. HasGroup device scratch rows size in
    subst S (sym same) (group_turned device old rows size has)

pub grouped_is_outside : GroupedIsOutside
grouped_is_outside low high scratch rows size outside apart = record { candidates = apart; lists = outside.lists; places = outside.places }

pub gives_back : GivesBack
gives_back old new (inl same) = record { same = inl (ap (λ (s : Scratch). grouped s) same); list = refl }
gives_back old new (inr turns) = record { same = inr (ap (λ (s : Scratch). grouped s) turns); list = refl }
