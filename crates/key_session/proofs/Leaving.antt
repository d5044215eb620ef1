-- After something was written for the text at hand and a table: what is kept of each text.
use Rattle.std.proofs.Common.{◌≡◌, ◌≤◌, ◌<◌, ◌+◌, ℕ, Bool, false, List, length, sym, ◌∙◌, ap, subst, ◌⊎◌, inl, inr}
use Rattle.ghost_model.specs.core.Schema.{Schema}
use Rattle.ghost_model.specs.core.Channel.{Catalog}
use Rattle.ghost_model.specs.core.NextMove.{EndedAsk}
use Rattle.edge_traits.specs.Devices.{Device}
use Rattle.page_pool.specs.Pools.{Pool}
use Rattle.key_session.specs.Fits.{was_ended}
use Rattle.visible_spool.specs.declared.half.Half.{Half}
use Rattle.visible_spool.specs.declared.reply.Reply.{Reply}
use Rattle.visible_spool.specs.declared.spool.Spool.{Spool}
use Rattle.visible_spool.specs.Areas.{AreAreasOf, AreasLieApart}
use Rattle.visible_spool.specs.Halves.{reply_of, no_reply}
use Rattle.visible_spool.specs.Laws.{RepliesAreKept, RepliesStayReadable}
use Rattle.visible_spool.specs.Sides.{replies_of, side_of}
use Rattle.visible_spool.specs.Spools.{area_at}
use Rattle.key_session.specs.Kept.{AreKept, IsKeptReply, HasEndings}
use Rattle.key_session.specs.Pushing.{Writes}
use Rattle.key_session.proofs.Parity.{Whether, holds, fails, same_text}
use Rattle.key_session.proofs.Elsewhere.{Elsewhere, pages_same, reply_elsewhere}
use Rattle.key_session.proofs.Keeping.{replies_same, is_elsewhere, endings_kept}

module _ (apart : AreasLieApart) (kept : RepliesAreKept) (readable : RepliesStayReadable) (told : Bool) (catalog : Catalog) (low text table : ℕ) (before now : Device) (pool later : Pool) (old new : Spool)
    (areas : AreAreasOf catalog old.areas.items) (there : table < length old.areas.items) (visible : 4 < (area_at old table).width)
    (writes : Writes text table before now pool later old new) (near : text ≤ low + 1)
    (was : (side_of old.sides text).text ≤ text) (is : (side_of new.sides text).text ≤ text)
    (mine : (at : ℕ) → (at ≡ table → ⊥) → reply_of (replies_of new.sides text) at ≡ reply_of (replies_of old.sides text) at) where
  there_same : (other at : ℕ) → low ≤ other → (other ≡ text → at ≡ table → ⊥) → reply_of (replies_of new.sides other) at ≡ reply_of (replies_of old.sides other) at
  there_same other at from ne = by (same_text other text)
    where
      by : Whether (other ≡ text) → reply_of (replies_of new.sides other) at ≡ reply_of (replies_of old.sides other) at
      by (holds e) = subst (λ n. reply_of (replies_of new.sides n) at ≡ reply_of (replies_of old.sides n) at) (sym e) (mine at (ne e))
      by (fails d) = ap (λ (half : Half). reply_of half at) (replies_same text old.sides new.sides writes.changes low near was is other from d)

  elsewhere : (other at : ℕ) → low ≤ other → (other ≡ text → at ≡ table → ⊥) → Elsewhere text table other at (reply_of (replies_of old.sides other) at)
  elsewhere other at from ne = is_elsewhere text old.sides new.sides writes.changes low near was is table other at from ne

  pub still_kept : (other at : ℕ) (reply : Reply) → Elsewhere text table other at reply → IsKeptReply told before old other at reply → IsKeptReply told now new other at reply
  still_kept other at reply away was_kept =
      reply_elsewhere apart catalog old areas text table there visible before now writes.others kept readable told new writes.areas other at reply away was_kept

  abbrev IsOwn : (other at : ℕ) → Type 0
  IsOwn other at = ((other ≡ text) × (at ≡ table)) ⊎ (other ≡ text → at ≡ table → ⊥)

  is_own : (other at : ℕ) → IsOwn other at
  is_own other at = by (same_text other text) (same_text at table)
    where
      by : Whether (other ≡ text) → Whether (at ≡ table) → IsOwn other at
      by (holds e) (holds f) = inl (e, f)
      by (holds e) (fails g) = inr (λ _ f. g f)
      by (fails d) w = inr (λ e _. d e)

  pub halves_kept : (ends after : List EndedAsk) → IsKeptReply told now new text table (reply_of (replies_of new.sides text) table)
      → ((other at : ℕ) → was_ended other at after ≡ false → was_ended other at ends ≡ false)
      → (was_ended text table after ≡ false → reply_of (replies_of new.sides text) table ≡ no_reply)
      → (other : ℕ) → low ≤ other → AreKept told before ends old other → AreKept told now after new other
  halves_kept ends after own fewer none other from k = record { each = λ at. each at (is_own other at); none = λ at not. none_at at not (is_own other at) }
    where
      each : (at : ℕ) → IsOwn other at → IsKeptReply told now new other at (reply_of (replies_of new.sides other) at)
      each at (inl both) =
          subst (λ n. IsKeptReply told now new n at (reply_of (replies_of new.sides n) at)) (sym both.0)
          (subst (λ n. IsKeptReply told now new text n (reply_of (replies_of new.sides text) n)) (sym both.1) own)
      each at (inr ne) =
          subst (λ (reply : Reply). IsKeptReply told now new other at reply) (sym (there_same other at from ne))
          (still_kept other at (reply_of (replies_of old.sides other) at) (elsewhere other at from ne) (k.each at))

      none_at : (at : ℕ) → was_ended other at after ≡ false → IsOwn other at → reply_of (replies_of new.sides other) at ≡ no_reply
      none_at at not (inl both) =
          subst (λ n. reply_of (replies_of new.sides n) at ≡ no_reply) (sym both.0)
          (subst (λ n. reply_of (replies_of new.sides text) n ≡ no_reply) (sym both.1)
          (none (subst (λ n. was_ended text n after ≡ false) both.1 (subst (λ n. was_ended n at after ≡ false) both.0 not))))
      none_at at not (inr ne) = there_same other at from ne ∙ k.none at (fewer other at not)

  pub endings_there : (schema : Schema) (ends : List EndedAsk) → was_ended text table ends ≡ false → (other : ℕ) → low ≤ other → AreKept told before ends old other
      → HasEndings told before.page schema other (replies_of old.sides other) ends → HasEndings told now.page schema other (replies_of new.sides other) ends
  endings_there schema ends none other from k had =
      endings_kept kept told before.page now.page schema text table other (replies_of old.sides other) (replies_of new.sides other) (λ at ne. there_same other at from ne)
      (λ at ne. pages_same apart catalog old areas text table there visible before now writes.others other at (reply_of (replies_of old.sides other) at) (k.each at).lies (elsewhere other at from ne))
      ends none had
