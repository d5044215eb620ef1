-- What is written for the text at hand and a table keeps all else that is kept.
use Rattle.std.proofs.Common.{◌≡◌, ◌≤◌, ◌<◌, ◌+◌, ℕ, zero, suc, arith, Bool, true, false, ◌==◌, ◌&&◌, ◌||◌, List, [], ◌∷◌, ◌++◌, get_or, replicate, refl, sym, ◌∙◌, ap, subst, if◌then◌else◌, inl, inr}
use Rattle.std.proofs.lemmas.Bool.{eq-eqb, eqb-true}
use Rattle.ghost_model.specs.core.Schema.{Schema}
use Rattle.ghost_model.specs.core.Channel.{Ask}
use Rattle.ghost_model.specs.core.Asks.{NumberedAsk}
use Rattle.ghost_model.specs.core.NextMove.{EndedAsk, Ending, Answered, Refused}
use Rattle.key_session.specs.Fits.{is_ask_of, was_ended}
use Rattle.visible_spool.specs.declared.half.Half.{Half}
use Rattle.visible_spool.specs.declared.reply.Reply.{Reply}
use Rattle.visible_spool.specs.declared.sides.Side.{Side}
use Rattle.visible_spool.specs.declared.sides.Sides.{Sides}
use Rattle.visible_spool.specs.declared.spool.Spool.{Spool}
use Rattle.visible_spool.specs.Areas.{is_even}
use Rattle.visible_spool.specs.Halves.{reply_of, no_reply, no_half}
use Rattle.visible_spool.specs.Laws.{KeepsReply, RepliesAreKept}
use Rattle.visible_spool.specs.Sides.{Changes, is_marked, mark_in, replies_in, replies_of, side_of}
use Rattle.key_session.specs.Rows.{rows_cut}
use Rattle.key_session.specs.Kept.{IsBy, HasAnswer, HasEnding, HasEndings}
use Rattle.key_session.proofs.Parity.{Whether, holds, fails, same_text, same_bool, behind}
use Rattle.key_session.proofs.Elsewhere.{Elsewhere}

-- no reply of a half that has none
same_each : {X : Type 0} (count at : ℕ) (x : X) → get_or (replicate count x) at x ≡ x
same_each zero at x = refl
same_each (suc count) zero x = refl
same_each (suc count) (suc at) x = same_each count at x

pub none_of_half : (at : ℕ) → reply_of no_half at ≡ no_reply
none_of_half at = same_each 12 at no_reply

-- a half that is an earlier text's
pub no_replies : (side : Side) (text other : ℕ) → side.text ≤ text → text < other → replies_in side other ≡ no_half
no_replies side text other has less = go (side.text == other) refl
  where
    go : (b : Bool) → (side.text == other) ≡ b → (if b then side.half else no_half) ≡ no_half
    go true e = let same = eqb-true side.text other e in absurd (omega (arith, has, less, same))
    go false e = refl

pub no_mark : (side : Side) (text other : ℕ) → side.text ≤ text → text < other → mark_in side other ≡ false
no_mark side text other has less = go (side.text == other) refl
  where
    go : (b : Bool) → (side.text == other) ≡ b → (b && side.is_marked) ≡ false
    go true e = let same = eqb-true side.text other e in absurd (omega (arith, has, less, same))
    go false e = refl

-- the half of two texts of one parity
same_side : (sides : Sides) (text other : ℕ) → is_even other ≡ is_even text → side_of sides other ≡ side_of sides text
same_side sides text other same = ap (λ (b : Bool). if b then sides.even else sides.odd) same

pub side_by : (top text : ℕ) (spool : Spool) → IsBy top spool → (side_of spool.sides text).text ≤ top
side_by top text spool bound = go (is_even text)
  where
    go : (b : Bool) → (if b then spool.sides.even else spool.sides.odd).text ≤ top
    go true = bound.even
    go false = bound.odd

-- the halves of other texts
module _ (text : ℕ) (before now : Sides) (changes : Changes text before now) where
  pub side_same : (other : ℕ) → (is_even other ≡ is_even text → ⊥) → side_of now other ≡ side_of before other
  side_same other differ = go (is_even other) (is_even text) refl refl
    where
      go : (a b : Bool) → is_even other ≡ a → is_even text ≡ b → side_of now other ≡ side_of before other
      go true true ea eb = absurd (differ (ea ∙ sym eb))
      go false false ea eb = absurd (differ (ea ∙ sym eb))
      go true false ea eb =
          ap (λ (c : Bool). if c then now.even else now.odd) ea ∙ (changes.even eb ∙ sym (ap (λ (c : Bool). if c then before.even else before.odd) ea))
      go false true ea eb =
          ap (λ (c : Bool). if c then now.even else now.odd) ea ∙ (changes.odd eb ∙ sym (ap (λ (c : Bool). if c then before.even else before.odd) ea))

  module _ (low : ℕ) (near : text ≤ low + 1) (was : (side_of before text).text ≤ text) (is : (side_of now text).text ≤ text) where
    pub replies_same : (other : ℕ) → low ≤ other → (other ≡ text → ⊥) → replies_of now other ≡ replies_of before other
    replies_same other from apart = by (same_bool (is_even other) (is_even text))
      where
        by : Whether (is_even other ≡ is_even text) → replies_of now other ≡ replies_of before other
        by (holds same) =
            let later = behind low text other near from apart same in
            ap (λ (side : Side). replies_in side other) (same_side now text other same) ∙ (no_replies (side_of now text) text other is later
            ∙ sym (ap (λ (side : Side). replies_in side other) (same_side before text other same) ∙ no_replies (side_of before text) text other was later))
        by (fails differ) = ap (λ (side : Side). replies_in side other) (side_same other differ)

    pub marks_same : (other : ℕ) → low ≤ other → (other ≡ text → ⊥) → is_marked now other ≡ is_marked before other
    marks_same other from apart = by (same_bool (is_even other) (is_even text))
      where
        by : Whether (is_even other ≡ is_even text) → is_marked now other ≡ is_marked before other
        by (holds same) =
            let later = behind low text other near from apart same in
            ap (λ (side : Side). mark_in side other) (same_side now text other same) ∙ (no_mark (side_of now text) text other is later
            ∙ sym (ap (λ (side : Side). mark_in side other) (same_side before text other same) ∙ no_mark (side_of before text) text other was later))
        by (fails differ) = ap (λ (side : Side). mark_in side other) (side_same other differ)

    pub is_elsewhere : (table other at : ℕ) → low ≤ other → (other ≡ text → at ≡ table → ⊥) → Elsewhere text table other at (reply_of (replies_of before other) at)
    is_elsewhere table other at from apart = by_text (same_text other text)
      where
        by_parity : (other ≡ text → ⊥) → Whether (is_even other ≡ is_even text) → Elsewhere text table other at (reply_of (replies_of before other) at)
        by_parity ne (holds same) =
            let later = behind low text other near from ne same in
            let none : replies_of before other ≡ no_half = ap (λ (side : Side). replies_in side other) (same_side before text other same) ∙ no_replies (side_of before text) text other was later in
            inl (ap (λ (half : Half). (reply_of half at).run.count) none ∙ ap (λ (reply : Reply). reply.run.count) (none_of_half at))
        by_parity ne (fails differ) = inr (inl differ)

        by_text : Whether (other ≡ text) → Elsewhere text table other at (reply_of (replies_of before other) at)
        by_text (holds same) = inr (inr (same, apart same))
        by_text (fails ne) = by_parity ne (same_bool (is_even other) (is_even text))

-- ends of asks elsewhere
pub not_ended : (a b : Bool) → (a || b) ≡ false → (a ≡ false) × (b ≡ false)
not_ended true b e = absurd (cc (e))
not_ended false b e = (refl, e)

pub other_table : (text table : ℕ) (asked : NumberedAsk) → is_ask_of text table asked ≡ false → asked.text ≡ text → asked.ask.table ≡ table → ⊥
other_table text table asked not same_text same_table = cc (not, ap (λ (b : Bool). b && (asked.ask.table == table)) (eq-eqb asked.text text same_text), eq-eqb asked.ask.table table same_table)

pub ending_kept : (told : Bool) (page now : ℕ → List ℕ) (schema : Schema) (ask : Ask) (ending : Ending) (reply later : Reply) → RepliesAreKept → later ≡ reply → KeepsReply page now reply
    → HasEnding told page schema ask ending reply → HasEnding told now schema ask ending later
ending_kept told page now schema ask (Answered rows) reply later kept same keeps was =
    subst (λ (r : Reply). HasAnswer told now schema ask rows r) (sym same)
    (record { holds = λ is_told. kept page now reply (rows_cut schema ask rows) keeps (was.holds is_told); kinds = was.kinds })
ending_kept told page now schema ask (Refused code) reply later kept same keeps was = tt

module _ (kept : RepliesAreKept) (told : Bool) (page now : ℕ → List ℕ) (schema : Schema) (text table other : ℕ) (half later : Half)
    (same : (at : ℕ) → (other ≡ text → at ≡ table → ⊥) → reply_of later at ≡ reply_of half at)
    (keeps : (at : ℕ) → (other ≡ text → at ≡ table → ⊥) → KeepsReply page now (reply_of half at)) where
  pub endings_kept : (ends : List EndedAsk) → was_ended text table ends ≡ false → HasEndings told page schema other half ends → HasEndings told now schema other later ends
  endings_kept [] none was = tt
  endings_kept (end ∷ ends) none was =
      let both = not_ended (is_ask_of text table end.asked) (was_ended text table ends) none in
      let apart : end.asked.text ≡ other → other ≡ text → end.asked.ask.table ≡ table → ⊥ = λ mine e. other_table text table end.asked both.0 (mine ∙ e) in (
        λ mine. ending_kept told page now schema end.asked.ask end.ending (reply_of half end.asked.ask.table) (reply_of later end.asked.ask.table) kept
            (same end.asked.ask.table (apart mine)) (keeps end.asked.ask.table (apart mine)) (was.0 mine),
        endings_kept ends both.1 was.1,
      )

pub endings_joined : (told : Bool) (page : ℕ → List ℕ) (schema : Schema) (text : ℕ) (half : Half) (ends more : List EndedAsk) → HasEndings told page schema text half ends
    → HasEndings told page schema text half more → HasEndings told page schema text half (ends ++ more)
endings_joined told page schema text half [] more a b = b
endings_joined told page schema text half (end ∷ ends) more a b = (a.0, endings_joined told page schema text half ends more a.1 b)

-- an ask more was ended
pub ended_joined : (text table : ℕ) (ends more : List EndedAsk) → was_ended text table (ends ++ more) ≡ (was_ended text table ends || was_ended text table more)
ended_joined text table [] more = refl
ended_joined text table (end ∷ ends) more = ap (λ (b : Bool). is_ask_of text table end.asked || b) (ended_joined text table ends more) ∙ assoc (is_ask_of text table end.asked) (was_ended text table ends) (was_ended text table more)
  where
    assoc : (a b c : Bool) → (a || (b || c)) ≡ ((a || b) || c)
    assoc true b c = refl
    assoc false b c = refl

pub ended_before : (text table : ℕ) (ends more : List EndedAsk) → was_ended text table (ends ++ more) ≡ false → was_ended text table ends ≡ false
ended_before text table ends more e = (not_ended (was_ended text table ends) (was_ended text table more) (sym (ended_joined text table ends more) ∙ e)).0

pub ended_still : (text table : ℕ) (ends more : List EndedAsk) → was_ended text table ends ≡ true → was_ended text table (ends ++ more) ≡ true
ended_still text table ends more e = ended_joined text table ends more ∙ ap (λ (b : Bool). b || was_ended text table more) e
