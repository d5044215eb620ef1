use Rattle.candidate_filter.proofs.Sparing.{led_pass, listed_pass, rows_pass}
use Rattle.candidate_filter.proofs.laws.replied_rows_pass.Goals as goal

pub returns : goal.returns
returns c = record { pass = rows_pass; listed = listed_pass; candidates = led_pass }
