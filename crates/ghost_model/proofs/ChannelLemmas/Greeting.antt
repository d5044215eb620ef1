-- That WELCOME frames which spell the catalog are heard whole.
use Rattle.std.proofs.Common.{◌≡◌, ℕ, zero, suc, ◌+◌, ◌<◌, ◌≤◌, Bool, true, false, ◌&&◌, List, [], ◌∷◌, ◌++◌, length, drop, sym, ◌∙◌, ap, subst, refl, arith, length-append, append-nil, lit<}
use Rattle.std.specs.Prelude.{◌==◌, nat_lt, nat_le, if◌then◌else◌, flat_map, bytes_eq}
use Rattle.std.specs.List.{list_all}
use Rattle.std.proofs.Math.Seq.{take-append_seam, drop-append_seam}
use Rattle.std.proofs.lemmas.Bool.{eq-eqb, ne_eqb, le-leb, leb-true, ltb-true}
use Rattle.std.proofs.lemmas.Slice.Eq.{bytes_eq-Decides}
use Rattle.ghost_model.specs.core.Channel.{Catalog, Frame, WelcomeFrame}
use Rattle.ghost_model.specs.forms.Catalog.{catalog_bytes}
use Rattle.ghost_model.specs.core.Asks.{NumberedAsk}
use Rattle.ghost_model.specs.forms.Frames.{IsFrame, AreBytes, frame_bytes, size_in}
use Rattle.ghost_model.specs.core.NextMove.{AwaitsCatalog, FrameOutcome, still, ask_next, Heard, hear_all, heard, at_first}
use Rattle.ghost_model.specs.laws.ChannelLaws.{IsAwaited}
use Rattle.ghost_model.specs.core.Host.{welcomes_of, most_part}
use Rattle.ghost_model.specs.laws.HostLaws.{IsGreeted}
use Rattle.ghost_model.proofs.ChannelLemmas.{bytes_drop}
use Rattle.ghost_model.proofs.ChannelLemmas.Hearing.{awaited_is_heard}
use Rattle.ghost_model.proofs.ChannelLemmas.Replies.{size_read}
use Rattle.ghost_model.proofs.ChannelLemmas.Sending.{heard_more}
use Rattle.ghost_model.proofs.ChannelLemmas.Tests.{both_hold, hold_both, BothHold}

abbrev fits : List ℕ → Bool
fits part = nat_lt 0 (length part) && nat_le (length part) most_part

-- bytes of a front
pub front_bytes : (part more : List ℕ) → AreBytes (part ++ more) → AreBytes part
front_bytes [] more h i = lit< tt
front_bytes (x ∷ xs) more h zero = h 0
front_bytes (x ∷ xs) more h (suc i) = front_bytes xs more (λ k. h (suc k)) i

cons_bytes : (x : ℕ) (xs : List ℕ) → x < 256 → AreBytes xs → AreBytes (x ∷ xs)
cons_bytes x xs m h zero = m
cons_bytes x xs m h (suc i) = h i

welcome_is_frame : (last : ℕ) (part : List ℕ) → last ≤ 1 → fits part ≡ true → AreBytes part → IsFrame (WelcomeFrame last part)
welcome_is_frame last part m e h =
    let both : BothHold (nat_lt 0 (length part)) (nat_le (length part) most_part) = both_hold _ _ e in
    let some : 0 < length part = ltb-true 0 (length part) both.one in
    let few : length part ≤ 2039 = leb-true (length part) 2039 both.other in
    record {
      serial = refl;
      size = hold_both _ _ (le-leb 2 (length (last ∷ part)) (omega (arith, some))) (le-leb (length (last ∷ part)) 2040 (omega (arith, few)));
      payload = le-leb last 1 m;
      bytes = cons_bytes last part (omega (arith, m)) h;
      serial_fits = lit< tt;
      number_fits = lit< tt;
    }

module _ (catalog : Catalog) (asks : List NumberedAsk) where
  pub welcome_awaited : (last : ℕ) (part more : List ℕ) → last ≤ 1 → fits part ≡ true → AreBytes part → (last == (if length part == length (part ++ more) then 1 else 0)) ≡ true → IsAwaited catalog (AwaitsCatalog (part ++ more)) (WelcomeFrame last part)
  welcome_awaited last part more m e h t =
      let is : IsFrame (WelcomeFrame last part) = welcome_is_frame last part m e h in
      let both : BothHold (nat_lt 0 (length part)) (nat_le (length part) most_part) = both_hold _ _ e in
      let some : 0 < length part = ltb-true 0 (length part) both.one in
      let few : length part ≤ 2039 = leb-true (length part) 2039 both.other in
      let size : size_in (frame_bytes (WelcomeFrame last part)) ≡ length (last ∷ part) = size_read (WelcomeFrame last part) is in
      let lengths : length (part ++ more) ≡ length part + length more = length-append part more in
      record {
        fits = is;
        header = hold_both _ _ (hold_both _ _ (hold_both _ _ refl (le-leb 2 (size_in (frame_bytes (WelcomeFrame last part))) (omega (arith, size, some))))
            (le-leb (size_in (frame_bytes (WelcomeFrame last part))) 2040 (omega (arith, size, few))))
            (le-leb (size_in (frame_bytes (WelcomeFrame last part))) (length (part ++ more) + 1) (omega (arith, size, lengths)));
        payload = hold_both _ _
            (ap (λ (xs : List ℕ). bytes_eq part xs) (take-append_seam part more) ∙ (bytes_eq-Decides part part).1 refl) t;
      }

  abbrev after_turn : FrameOutcome → (frames due : List Frame) → Heard
  after_turn turn frames due = record { awaits = turn.awaits; part = []; frames = frames; due = due ++ turn.due; rows = []; ended = []; broken = false }

  abbrev at_missing : List ℕ → (frames due : List Frame) → Heard
  at_missing missing frames due = record { awaits = AwaitsCatalog missing; part = []; frames = frames; due = due; rows = []; ended = []; broken = false }

  welcome_heard : (last : ℕ) (part more : List ℕ) (frames due : List Frame) (b : Bool) → last ≤ 1 → fits part ≡ true → AreBytes part → (length part == length (part ++ more)) ≡ b → (last == (if b then 1 else 0)) ≡ true
      → hear_all catalog asks (at_missing (part ++ more) frames due) (frame_bytes (WelcomeFrame last part))
      ≡ after_turn (if b then ask_next catalog.schema 1 asks else still (AwaitsCatalog (drop (length part) (part ++ more)))) (frames ++ WelcomeFrame last part ∷ []) due
  welcome_heard last part more frames due b m e h test t =
      awaited_is_heard catalog asks (at_missing (part ++ more) frames due) (WelcomeFrame last part) refl refl
      (welcome_awaited last part more m e h (ap (λ (c : Bool). last == (if c then 1 else 0)) test ∙ t))
      ∙ ap (λ (c : Bool). after_turn (if c then ask_next catalog.schema 1 asks else still (AwaitsCatalog (drop (length part) (part ++ more)))) (frames ++ WelcomeFrame last part ∷ []) due) test

  greeted : (part : List ℕ) (later : List (List ℕ)) (frames due : List Frame) → list_all fits (part ∷ later) ≡ true → AreBytes (flat_map (λ p. p) (part ∷ later))
      → IsGreeted catalog asks (hear_all catalog asks (at_missing (flat_map (λ p. p) (part ∷ later)) frames due) (flat_map frame_bytes (welcomes_of (part ∷ later))))
  greeted part [] frames due e h =
      let both : BothHold (fits part) true = both_hold (fits part) true e in
      let same : (length part == length (part ++ [])) ≡ true = eq-eqb (length part) (length (part ++ [])) (ap length (sym (append-nil part))) in
      subst (λ (bytes : List ℕ). IsGreeted catalog asks (hear_all catalog asks (at_missing (part ++ []) frames due) bytes)) (sym (append-nil (frame_bytes (WelcomeFrame 1 part))))
      (subst (λ (after : Heard). IsGreeted catalog asks after)
      (sym (welcome_heard 1 part [] frames due true (omega arith) both.one (front_bytes part [] h) same refl))
      (record { awaits = refl; part = refl; valid = refl; rows = refl; ended = refl }))
  greeted part (next ∷ later) frames due e h =
      let both : BothHold (fits part) (list_all fits (next ∷ later)) = both_hold (fits part) (list_all fits (next ∷ later)) e in
      let more : List ℕ = flat_map (λ p. p) (next ∷ later) in
      let nexts : BothHold (fits next) (list_all fits later) = both_hold (fits next) (list_all fits later) both.other in
      let some : 0 < length next = ltb-true 0 (length next) (both_hold (nat_lt 0 (length next)) (nat_le (length next) most_part) nexts.one).one in
      let longer : length (part ++ flat_map (λ p. p) (next ∷ later)) ≡ length part + (length next + length (flat_map (λ p. p) later)) =
      length-append part (flat_map (λ p. p) (next ∷ later)) ∙ ap (λ (n : ℕ). length part + n) (length-append next (flat_map (λ p. p) later)) in
      let other : (length part == length (part ++ flat_map (λ p. p) (next ∷ later))) ≡ false = ne_eqb _ _ (λ same. absurd (omega (arith, same, longer, some))) in
      let rest : List ℕ = flat_map frame_bytes (welcomes_of (next ∷ later)) in
      let step : hear_all catalog asks (at_missing (part ++ flat_map (λ p. p) (next ∷ later)) frames due) (frame_bytes (WelcomeFrame 0 part))
      ≡ at_missing (flat_map (λ p. p) (next ∷ later)) (frames ++ WelcomeFrame 0 part ∷ []) (due ++ []) =
      welcome_heard 0 part (flat_map (λ p. p) (next ∷ later)) frames due false (omega arith) both.one (front_bytes part (flat_map (λ p. p) (next ∷ later)) h) other refl
      ∙ ap (λ (xs : List ℕ). at_missing xs (frames ++ WelcomeFrame 0 part ∷ []) (due ++ [])) (drop-append_seam part (flat_map (λ p. p) (next ∷ later))) in
      let tail : AreBytes (flat_map (λ p. p) (next ∷ later)) =
      subst (λ (xs : List ℕ). AreBytes xs) (drop-append_seam part (flat_map (λ p. p) (next ∷ later))) (bytes_drop (length part) (part ++ flat_map (λ p. p) (next ∷ later)) h) in
      subst (λ (after : Heard). IsGreeted catalog asks after)
      (sym (heard_more catalog [] asks (at_missing (part ++ flat_map (λ p. p) (next ∷ later)) frames due) (frame_bytes (WelcomeFrame 0 part)) rest
      ∙ ap (λ (x : Heard). hear_all catalog asks x rest) step))
      (greeted next later (frames ++ WelcomeFrame 0 part ∷ []) (due ++ []) both.other tail)

no_catalog : (catalog : Catalog) → [] ≡ catalog_bytes catalog → ⊥
no_catalog catalog e = cc

pub greetings_are_heard :
    (catalog : Catalog) (asks : List NumberedAsk) (parts : List (List ℕ)) → AreBytes (catalog_bytes catalog) → list_all fits parts ≡ true
    → flat_map (λ part. part) parts ≡ catalog_bytes catalog
    → IsGreeted catalog asks (heard catalog asks (flat_map frame_bytes (welcomes_of parts)))
greetings_are_heard catalog asks [] h e w = absurd (no_catalog catalog w)
greetings_are_heard catalog asks (part ∷ later) h e w =
    subst (λ (missing : List ℕ). IsGreeted catalog asks (hear_all catalog asks (record (at_first catalog) { awaits = AwaitsCatalog missing }) (flat_map frame_bytes (welcomes_of (part ∷ later))))) w
    (greeted catalog asks part later [] (at_first catalog).due e (subst (λ (xs : List ℕ). AreBytes xs) (sym w) h))
