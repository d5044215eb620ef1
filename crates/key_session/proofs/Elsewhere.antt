-- What is written for a text and a table leaves the replies elsewhere as they are.
use Rattle.std.proofs.Common.{◌≡◌, ◌≤◌, ◌<◌, ℕ, zero, suc, arith, Bool, true, false, List, [], ◌∷◌, length, get_or, refl, sym, ◌∙◌, ap, subst, ◌⊎◌, if◌then◌else◌, inl, inr}
use Rattle.ghost_model.specs.core.Channel.{Catalog}
use Rattle.ghost_model.specs.forms.Runs.{page_of}
use Rattle.ghost_base.specs.Runs.{run_of}
use Rattle.edge_traits.specs.Devices.{Device, ChangesOnly, SamePage}
use Rattle.visible_spool.specs.declared.area.Area.{Area}
use Rattle.visible_spool.specs.declared.reply.Reply.{Reply}
use Rattle.visible_spool.specs.declared.spool.Spool.{Spool}
use Rattle.visible_spool.specs.Areas.{AreAreasOf, IsAreaOf, LiesIn, AreasLieApart, first_of, end_of, is_even, no_area}
use Rattle.visible_spool.specs.Laws.{KeepsReply, LiesWithin, RepliesAreKept, RepliesStayReadable}
use Rattle.visible_spool.specs.Spools.{area_at}
use Rattle.key_session.specs.Kept.{IsKeptReply, LiesInArea}
use Rattle.key_session.proofs.Parity.{either_below}
use Rattle.key_session.proofs.WriteLemmas.{areas_same}

-- a reply has no row, is one of a text of the other half, or is one of the same text for another table
abbrev pub Elsewhere : (text table other at : ℕ) → Reply → Type 0
Elsewhere text table other at reply = (reply.run.count ≡ 0) ⊎ ((is_even other ≡ is_even text → ⊥) ⊎ ((other ≡ text) × (at ≡ table → ⊥)))

-- there is an area for a table whose rows may be wide
pub in_areas : (areas : List Area) (table : ℕ) → 4 < (get_or areas table no_area).width → table < length areas
in_areas [] table wide = absurd (omega (arith, wide))
in_areas (area ∷ areas) zero wide = omega arith
in_areas (area ∷ areas) (suc table) wide = let h = in_areas areas table wide in omega (arith, h)

-- an area lies in the half of the text's parity
pub half_by : (catalog : Catalog) (table text : ℕ) (area : Area) → IsAreaOf catalog table area → 4 < area.width → (b : Bool) → is_even text ≡ b
    → LiesIn catalog (if b then 0 else 1) (first_of area text) (end_of area text)
half_by catalog table text area is wide true e =
    let first : first_of area text ≡ area.even = ap (λ (b : Bool). if b then area.even else area.odd) e in
    let lies = is.even_lies wide in
    let from = lies.from in
    let to = lies.to in
    record { from = omega (arith, first, from); to = omega (arith, first, to) }
half_by catalog table text area is wide false e =
    let first : first_of area text ≡ area.odd = ap (λ (b : Bool). if b then area.even else area.odd) e in
    let lies = is.odd_lies wide in
    let from = lies.from in
    let to = lies.to in
    record { from = omega (arith, first, from); to = omega (arith, first, to) }

pub lies_still : (old new : Spool) (other at : ℕ) (reply : Reply) → new.areas ≡ old.areas → LiesInArea old other at reply → LiesInArea new other at reply
lies_still old new other at reply same lies =
    let all : (0 < reply.run.count → reply.rows ≡ (area_at new at).rows) × (0 < reply.run.count → 4 < (area_at new at).width) × LiesWithin (first_of (area_at new at) other) (end_of (area_at new at) other) reply =
    subst (λ (area : Area). (0 < reply.run.count → reply.rows ≡ area.rows) × (0 < reply.run.count → 4 < area.width) × LiesWithin (first_of area other) (end_of area other) reply) (sym (areas_same old new at same))
    (lies.most, lies.visible, lies.lies) in
    record { most = all.0; visible = all.1; lies = all.2 }

module _ (apart : AreasLieApart) (catalog : Catalog) (spool : Spool) (areas : AreAreasOf catalog spool.areas.items) (text table : ℕ) (there : table < length spool.areas.items)
    (visible : 4 < (area_at spool table).width) (before now : Device)
    (changes : ChangesOnly (first_of (area_at spool table) text) (end_of (area_at spool table) text) before now) where
  is_area : (at : ℕ) → 4 < (area_at spool at).width → IsAreaOf catalog at (area_at spool at)
  is_area at wide = areas.each at (in_areas spool.areas.items at wide)

  by_halves : (at other page : ℕ) → 4 < (area_at spool at).width → first_of (area_at spool at) other ≤ page → page < end_of (area_at spool at) other
      → (is_even other ≡ is_even text → ⊥) → (a b : Bool) → is_even other ≡ a → is_even text ≡ b → SamePage before now page
  by_halves at other page wide from to differ true true ea eb = absurd (differ (ea ∙ sym eb))
  by_halves at other page wide from to differ false false ea eb = absurd (differ (ea ∙ sym eb))
  by_halves at other page wide from to differ true false ea eb =
      let own = half_by catalog at other (area_at spool at) (is_area at wide) wide true ea in
      let theirs = half_by catalog table text (area_at spool table) (is_area table visible) visible false eb in
      let upper = own.to in
      let lower = theirs.from in
      changes.below page (omega (arith, to, upper, lower))
  by_halves at other page wide from to differ false true ea eb =
      let own = half_by catalog at other (area_at spool at) (is_area at wide) wide false ea in
      let theirs = half_by catalog table text (area_at spool table) (is_area table visible) visible true eb in
      let upper = theirs.to in
      let lower = own.from in
      changes.above page (omega (arith, from, upper, lower))

  by_tables : (at page : ℕ) → 4 < (area_at spool at).width → first_of (area_at spool at) text ≤ page → page < end_of (area_at spool at) text
      → (at < table) ⊎ (table < at) → SamePage before now page
  by_tables at page wide from to (inl less) =
      let order = apart catalog at table (area_at spool at) (area_at spool table) text less wide (is_area at wide) (is_area table visible) in
      changes.below page (omega (arith, to, order))
  by_tables at page wide from to (inr less) =
      let order = apart catalog table at (area_at spool table) (area_at spool at) text less visible (is_area table visible) (is_area at wide) in
      changes.above page (omega (arith, from, order))

  pub pages_same : (other at : ℕ) (reply : Reply) → LiesInArea spool other at reply → Elsewhere text table other at reply → KeepsReply before.page now.page reply
  pages_same other at reply lies (inl none) place within = absurd (omega (arith, none, within))
  pages_same other at reply lies (inr (inl differ)) place within =
      let here = lies.lies place within in
      (by_halves at other (page_of (run_of reply.run) place) (lies.visible (omega (arith, within))) here.0 here.1 differ (is_even other) (is_even text) refl refl).bytes
  pages_same other at reply lies (inr (inr both)) place within =
      let here = subst (λ n. LiesWithin (first_of (area_at spool at) n) (end_of (area_at spool at) n) reply) both.0 lies.lies place within in
      (by_tables at (page_of (run_of reply.run) place) (lies.visible (omega (arith, within))) here.0 here.1 (either_below at table both.1)).bytes

  -- and so it is kept
  module _ (kept : RepliesAreKept) (readable : RepliesStayReadable) (told : Bool) (new : Spool) (same : new.areas ≡ spool.areas) where
    pub reply_elsewhere : (other at : ℕ) (reply : Reply) → Elsewhere text table other at reply → IsKeptReply told before spool other at reply → IsKeptReply told now new other at reply
    reply_elsewhere other at reply elsewhere was = record {
      readable = readable before now reply changes.page_count was.readable;
      lies = lies_still spool new other at reply same was.lies;
      whole = λ is_told. record {
        rows = (was.whole is_told).rows;
        holds = kept before.page now.page reply (was.whole is_told).rows (pages_same other at reply was.lies elsewhere) (was.whole is_told).holds;
      };
    }
