use Rattle.std.proofs.Common.{◌≡◌, ap, arith, ℕ, length, get_or, Option, Some, None}
use Rattle.std.specs.Fmt.{digits}
use Rattle.hex.specs.Hex.{encode_with, decode_pairs}
use Rattle.ghost_model.specs.core.Asks.{rows_from}
use Rattle.ghost_model.specs.readings.AskReading.{tests_in}
use Rattle.ghost_model.specs.core.Schema.{places_from}
use Rattle.ghost_model.specs.refusals.Tokens.{tokens_from, quoted_from}
use Rattle.ghost_model.specs.readings.QueryPlaces.{read_from}
use Rattle.ghost_model.specs.core.NextMove.{hear_all, rows_fit}
use Rattle.ghost_model.specs.core.Channel.{Move, Dial, Listen, Accept, Send, Take, Close}
use Rattle.ghost_model.proofs.non_members.journals_that_are_not_proper.Goals as goal

-- the kind of a move with a number that tells it from others of its kind
abbrev kind_of : Option Move → ℕ
kind_of None = 0
kind_of (Some (Dial at)) = 1
kind_of (Some (Listen at)) = 2
kind_of (Some Accept) = 3
kind_of (Some (Send bytes)) = 4
kind_of (Some (Take most)) = 5
kind_of (Some Close) = 6

abbrev size_of : Option Move → ℕ
size_of (Some (Dial at)) = length at
size_of (Some (Send bytes)) = length bytes
size_of (Some (Take most)) = most
size_of _ = 0

-- the last letter of the specialty in an ask
abbrev letter_of : Option Move → ℕ
letter_of (Some (Send bytes)) = get_or bytes 19 0
letter_of _ = 0

pub returns : goal.returns
unfolding digits encode_with decode_pairs rows_from tests_in places_from hear_all rows_fit tokens_from quoted_from read_from
returns c = record {
  dials_another_address = λ p. let clash : 0 ≡ 1 = ap size_of p.0 in absurd (omega (arith, clash));
  begins_without_a_dial = λ p. let clash : 1 ≡ 4 = ap kind_of p.0 in absurd (omega (arith, clash));
  ends_without_its_ask = λ p. let clash : 22 ≡ 8 = ap size_of p.1.1.1.1.0 in absurd (omega (arith, clash));
  asks_for_nothing_wanted = λ p. let clash : 8 ≡ 22 = ap size_of p.1.1.1.1.0 in absurd (omega (arith, clash));
  asks_for_another_value = λ p. let clash : 111 ≡ 110 = ap letter_of p.1.1.1.1.0 in absurd (omega (arith, clash));
  asks_by_a_hidden_column = λ p. let clash : 22 ≡ 26 = ap size_of p.1.1.1.1.0 in absurd (omega (arith, clash));
  takes_before_it_asks = λ p. let clash : 4 ≡ 5 = ap kind_of p.1.1.1.1.0 in absurd (omega (arith, clash));
  takes_a_byte_more = λ p. let clash : 8 ≡ 9 = ap size_of p.1.1.1.1.1.0 in absurd (omega (arith, clash));
  tries_again = λ p. let clash : 6 ≡ 5 = ap kind_of p.1.1.1.1.1.1.0 in absurd (omega (arith, clash));
  closes_twice = λ p. let clash : 0 ≡ 6 = ap kind_of p.1.1.1.1.1.1.0 in absurd (omega (arith, clash));
}
