use Rattle.std.proofs.Common.{◌≡◌, length, nat_le, find}
use Rattle.ghost_model.specs.refusals.Tokens.{Token}
use Rattle.text_places.specs.Places as places
use Rattle.text_places.proofs.place.token_from.Given as goal

abbrev pub decreases-loop-token : goal.decreases-loop-token
decreases-loop-token l = length l.cursor

abbrev pub invariant-loop-token : goal.invariant-loop-token
invariant-loop-token l =
    places.token_from l.text l.at ≡ find (λ (token : Token). nat_le l.at token.at) l.cursor
