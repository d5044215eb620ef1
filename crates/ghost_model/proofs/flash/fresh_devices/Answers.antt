use Rattle.std.proofs.Common.{◌≡◌, refl, Bool, true, false, ◌||◌, ◌==◌, ◌∷◌, ◌++◌, [], replicate, arith}
use Rattle.std.specs.Prelude.{if◌then◌else◌}
use Rattle.ghost_model.specs.examples.Flash.{small, filled}
use Rattle.ghost_model.proofs.flash.fresh_devices.Goals as goal

-- neither the gate nor its header
blank_there : (gate header : Bool) → (gate || header) ≡ false
    → filled (if gate then 0 ∷ [] else if header then small 6 ++ small 0 else []) ≡ replicate 2048 0xff
blank_there true header h = absurd (cc (h))
blank_there false true h = absurd (cc (h))
blank_there false false h = refl

pub returns : goal.returns
returns c = record {
  six = record {
    counts = record { gate = refl; header = refl };
    blank = λ place low high neither. blank_there (place == 64) (place == 128) neither;
  };
  gate_of_one = λ page h. h.counts.gate;
  header_of_one = λ page h. h.counts.header;
  no_header_of_one = λ page h. h.blank 128 (omega arith) (omega arith) refl;
  gate_of_six = λ page h. h.counts.gate;
  header_of_six = λ page h. h.counts.header;
  no_header_of_six = λ page h. h.blank 192 (omega arith) (omega arith) refl;
}
