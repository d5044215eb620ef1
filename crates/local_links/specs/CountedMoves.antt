-- Moves that are counted, one after another.
use Rattle.std.proofs.Common.{◌≡◌, ◌≤◌, ℕ, ◌+◌, List, [], ◌++◌, length, refl, ◌∙◌, ap, arith, length-append}
use Rattle.std.specs.List.{concat}
use Rattle.std.proofs.lemmas.Grind.{flat_map-append}
use Rattle.std.proofs.lemmas.List.Folds.{concat-append}
use Rattle.ghost_model.specs.core.Causes.{last_count}
use Rattle.ghost_model.specs.core.Channel.{Journal}
use Rattle.ghost_model.specs.core.Moves.{taken, sent, sent_by, piece_of}
use Rattle.local_links.specs.Counting.{moves_in, bytes_sent, bytes_taken, with_more, IsCounted}
use Rattle.local_links.specs.declared.counted.Counted.{Counted}

-- what two journals count one after the other
moves_join : (first more : Journal) → moves_in (first ++ more) ≡ moves_in first + moves_in more
moves_join first more = length-append first more

bytes_sent_join : (first more : Journal) → bytes_sent (first ++ more) ≡ bytes_sent first + bytes_sent more
bytes_sent_join first more =
    ap (λ (pieces : List (List ℕ)). length (concat pieces)) (flat_map-append (λ entry. sent_by entry.move) first more)
    ∙ (ap length (concat-append (sent first) (sent more)) ∙ length-append (concat (sent first)) (concat (sent more)))

bytes_taken_join : (first more : Journal) → bytes_taken (first ++ more) ≡ bytes_taken first + bytes_taken more
bytes_taken_join first more =
    ap length (flat_map-append (λ entry. piece_of entry.answer) first more) ∙ length-append (taken first) (taken more)

with_none : (count : ℕ) → count ≤ last_count → count ≡ with_more count 0
with_none count fits = omega (arith, fits)

with_both : (a b c first more both : ℕ) → b ≡ with_more a first → c ≡ with_more b more → both ≡ first + more → c ≡ with_more a both
with_both a b c first more both one other joined = omega (arith, one, other, joined)

pub counted_stays : {L : Type 0} (Went : L → Journal → L → Type 0) → ((link : L) → Went link [] link) → (link : Counted L) → IsCounted Went link [] link
counted_stays Went stays link = record {
  same_link = refl;
  moved = stays link.link.now;
  counted = record {
    moves = with_none link.counts.moves link.counts.moves_fit;
    sent = with_none link.counts.sent link.counts.sent_fits;
    taken = with_none link.counts.taken link.counts.taken_fits;
  };
}

pub counted_joins : {L : Type 0} (Went : L → Journal → L → Type 0)
    → ((old between new : L) (first more : Journal) → Went old first between → Went between more new → Went old (first ++ more) new)
    → (old between new : Counted L) (first more : Journal) → IsCounted Went old first between → IsCounted Went between more new → IsCounted Went old (first ++ more) new
counted_joins Went joins old between new first more one other = record {
  same_link = other.same_link ∙ one.same_link;
  moved = joins old.link.now between.link.now new.link.now first more one.moved other.moved;
  counted = record {
    moves = with_both _ _ _ _ _ _ one.counted.moves other.counted.moves (moves_join first more);
    sent = with_both _ _ _ _ _ _ one.counted.sent other.counted.sent (bytes_sent_join first more);
    taken = with_both _ _ _ _ _ _ one.counted.taken other.counted.taken (bytes_taken_join first more);
  };
}
