use Rattle.std.proofs.Common.{◌≡◌, ℕ, List, [], ◌++◌, length, ◌^◌, codes, take, refl, sym, ◌∙◌, Some}
use Rattle.std.specs.Fmt.{digits}
use Rattle.hex.specs.Hex.{encode_with, decode_pairs}
use Rattle.ghost_model.specs.core.Asks.{rows_from}
use Rattle.ghost_model.specs.core.Channel.{Send, Take}
use Rattle.ghost_model.specs.readings.AskReading.{tests_in}
use Rattle.ghost_model.specs.core.Schema.{places_from}
use Rattle.ghost_model.specs.core.NextMove.{hear_all, rows_fit, IsProperWith}
use Rattle.ghost_model.specs.core.Recorded.{IsWrongAt, IsNoLineAt}
use Rattle.ghost_model.specs.forms.Frames.{frame_bytes}
use Rattle.ghost_model.specs.core.Channel.{MoreFrame}
use Rattle.ghost_model.specs.examples.Clinic.{clinic_catalog}
use Rattle.ghost_model.specs.examples.Channel.{cardio_journal, cardio_asks, takes}
use Rattle.ghost_model.specs.examples.Recorded.{first_lines, lines_behind}
use Rattle.ghost_model.proofs.RecordedLemmas.Texts.{has_byte}
use Rattle.ghost_model.proofs.RecordedLemmas.Ends.{ended_rest}
use Rattle.ghost_model.proofs.RecordedLemmas.Told.{whole_file, front_of, told_tells, within_of, front_within}
use Rattle.ghost_model.proofs.recorded.findings_of_the_clinic.Goals as goal

send_is_no_take : (bytes : List ℕ) (most : ℕ) → Some (Send bytes) ≡ Some (Take most) → ⊥
send_is_no_take bytes most e = cc e

four : IsProperWith clinic_catalog [] cardio_asks (take 4 cardio_journal)
unfolding digits encode_with decode_pairs rows_from tests_in places_from hear_all rows_fit
four = (refl, (refl, (refl, (refl, tt))))

seven : IsProperWith clinic_catalog [] cardio_asks (take 7 cardio_journal)
unfolding digits encode_with decode_pairs rows_from tests_in places_from hear_all rows_fit
seven = (refl, (refl, (refl, (refl, (refl, (refl, (refl, tt)))))))

eleven : IsProperWith clinic_catalog [] cardio_asks (take 11 cardio_journal)
unfolding digits encode_with decode_pairs rows_from tests_in places_from hear_all rows_fit
eleven = (refl, (refl, (refl, (refl, (refl, (refl, (refl, (refl, (refl, (refl, (refl, tt)))))))))))

twelve : IsProperWith clinic_catalog [] cardio_asks cardio_journal
unfolding digits encode_with decode_pairs rows_from tests_in places_from hear_all rows_fit
twelve = (refl, (refl, (refl, (refl, (refl, (refl, (refl, (refl, (refl, (refl, (refl, (refl, tt))))))))))))

unsent : IsWrongAt clinic_catalog cardio_asks (first_lines 7 ++ lines_behind 8) 8
unfolding digits encode_with decode_pairs rows_from tests_in places_from hear_all rows_fit
unsent =
    let front = front_of clinic_catalog cardio_asks (take 7 cardio_journal) (lines_behind 8) seven refl (within_of _ _ refl) in record {
      journal = take 7 cardio_journal;
      rest = lines_behind 8;
      before = front;
      made = takes 8 (codes "1302000400000001");
      there = record {
        text = codes "take 8 1302000400000001";
        later = lines_behind 9;
        tells = told_tells (takes 8 (codes "1302000400000001")) refl;
        begins = refl;
        within = front_within clinic_catalog cardio_asks (first_lines 7 ++ lines_behind 8) (take 7 cardio_journal) (lines_behind 8) front 5000 (length (codes "take 8 1302000400000001\n")) (2 ^ 32) refl refl;
      };
      wrong = λ e. send_is_no_take (frame_bytes (MoreFrame 1)) 8 e;
      place = refl;
    }

unended : IsNoLineAt clinic_catalog cardio_asks (first_lines 11 ++ codes "close") 12
unfolding digits encode_with decode_pairs rows_from tests_in places_from hear_all rows_fit
unended = record {
  journal = take 11 cardio_journal;
  rest = codes "close";
  before = front_of clinic_catalog cardio_asks (take 11 cardio_journal) (codes "close") eleven refl (within_of _ _ refl);
  some = within_of 1 5 refl;
  no_line = λ made goes. has_byte 10 goes.text goes.later (codes "close") refl (goes.begins ∙ sym (ended_rest goes.text goes.later));
  place = refl;
}

pub returns : goal.returns
unfolding digits encode_with decode_pairs rows_from tests_in places_from hear_all rows_fit
returns c = record {
  the_file = whole_file clinic_catalog cardio_asks cardio_journal twelve refl (within_of _ _ refl);
  a_frame_that_is_not_sent = unsent;
  first_moves = whole_file clinic_catalog cardio_asks (take 4 cardio_journal) four refl (within_of _ _ refl);
  no_last_end = unended;
  nothing = whole_file clinic_catalog cardio_asks [] tt refl (within_of _ _ refl);
}
