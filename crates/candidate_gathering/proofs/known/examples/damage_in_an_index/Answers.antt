use Rattle.std.proofs.Common.{◌≡◌, refl, ap, inr, slice_index, arith}
use Rattle.std.specs.Fmt.{digits}
use Rattle.ghost_model.specs.core.Schema.{places_from, ancestor}
use Rattle.ghost_model.specs.core.Database.{leads_within}
use Rattle.ghost_model.specs.forms.Layout.{first_page, IndexDirectory}
use Rattle.ghost_model.specs.forms.Runs.{number_in, record_at, found_in}
use Rattle.ghost_model.specs.refusals.Tokens.{tokens_from, quoted_from}
use Rattle.ghost_model.specs.readings.QueryPlaces.{read_from}
use Rattle.candidate_gathering.proofs.known.examples.damage_in_an_index.Goals as goal

pub returns : goal.returns
unfolding digits places_from ancestor leads_within tokens_from quoted_from read_from number_in record_at found_in first_page
returns c = record {
  means = refl;
  is_bad = record {
    file = IndexDirectory 0 2;
    place = 1;
    read_for = refl;
    damaged = record {
      has = refl;
      within = omega arith;
      page_is = refl;
      slot_is = refl;
      damaged = inr refl;
      found_is = refl;
    };
    never = λ h. let clash : 70 ≡ 0 = ap (λ bytes. slice_index bytes 0) ((h.subtrees 2 (omega arith) refl).has.each 0 (omega arith)) in absurd (omega (arith, clash));
  };
  blamed = refl;
  not_for_another_text = refl;
}
