use Rattle.std.proofs.Common.{refl, inl, inr, arith}
use Rattle.ghost_model.specs.forms.Layout.{first_page, Cells, IndexDirectory, IndexLevel}
use Rattle.ghost_model.specs.core.Schema.{places_from, ancestor}
use Rattle.ghost_model.specs.forms.Runs.{number_in, record_at, found_in}
use Rattle.ghost_model.specs.forms.Gaps.{reading_at}
use Rattle.ghost_model.proofs.flash.damaged_slots.Goals as goal

pub returns : goal.returns
unfolding places_from ancestor number_in record_at found_in first_page reading_at
returns c = record {
  no_such_doctor = record {
    file = Cells 2 3;
    place = 2;
    at = record {
      has = refl;
      within = omega arith;
      page_is = refl;
      slot_is = refl;
      damaged = inl refl;
      found_is = refl;
    };
  };
  the_later_of_two = record {
    file = IndexDirectory 0 2;
    place = 1;
    at = record {
      has = refl;
      within = omega arith;
      page_is = refl;
      slot_is = refl;
      damaged = inr refl;
      found_is = refl;
    };
  };
  no_code = record {
    file = IndexLevel 0 2 0;
    place = 0;
    at = record {
      has = refl;
      within = omega arith;
      page_is = refl;
      slot_is = refl;
      damaged = record { entry = 0; there = omega arith; stands = refl; i = 0; within = omega arith; last = 0; gets = refl; kept = omega arith; broken = refl };
      found_is = refl;
    };
  };
  more_than_all_doctors = record {
    file = IndexLevel 0 2 0;
    place = 1;
    at = record {
      has = refl;
      within = omega arith;
      page_is = refl;
      slot_is = refl;
      damaged = record { entry = 0; there = omega arith; stands = refl; i = 1; within = omega arith; last = 3; gets = refl; kept = omega arith; broken = refl };
      found_is = refl;
    };
  };
}
