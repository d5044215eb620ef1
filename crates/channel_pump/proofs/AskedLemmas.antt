-- The ask at hand is the one whose reply is awaited.
use Rattle.std.proofs.Common.{◌≡◌, ℕ, Option, Some, None, IfSome, IfNone, List, [], ◌∷◌, refl, ap₂, sym, ◌∙◌}
use Rattle.ghost_model.specs.core.Channel.{Catalog, Ask}
use Rattle.ghost_model.specs.core.Asks.{NumberedAsk}
use Rattle.ghost_model.specs.core.NextMove as next
use Rattle.ghost_model.specs.core.NextMove.{Awaits, AwaitsCatalog, AwaitsNothing}
use Rattle.channel_pump.specs.declared.state.Pump.{Pump}
use Rattle.channel_pump.specs.declared.state.Phase.TheVariants.{Greeting, Reply, Over}
use Rattle.channel_pump.specs.Asked.{AreAsked}
use Rattle.channel_pump.specs.Forms.{Form, IsFirst}
use Rattle.channel_pump.specs.Marks.{asked_at}
use Rattle.channel_pump.specs.State.{IsAwaiting}

abbrev numbered : ℕ → Ask → Option NumberedAsk
numbered text ask = Some (record { text = text; ask = ask })

not_none : {X : Type 0} (x : X) (xs : List X) → x ∷ xs ≡ [] → ⊥
not_none x xs e = cc

first_asked : (catalog : Catalog) (forms : List Form) (its : NumberedAsk) (later : List NumberedAsk) (first : Option NumberedAsk) → AreAsked catalog forms (its ∷ later)
    → IfSome first (λ a. IsFirst forms a.text a.ask) → IfNone first (forms ≡ []) → first ≡ Some its
first_asked catalog [] its later first h some none = absurd h
first_asked catalog (form ∷ forms) its later None h some none = absurd (not_none form forms none)
first_asked catalog (form ∷ forms) its later (Some a) h some none = ap₂ numbered (sym some.0 ∙ h.0.text) (sym some.1 ∙ h.0.ask)

pub asked_in_reply : (catalog : Catalog) (p : Pump) (awaits : Awaits) (first : Option NumberedAsk) → IsAwaiting catalog p Reply awaits
    → IfSome first (λ a. IsFirst p.rest a.text a.ask) → IfNone first (p.rest ≡ []) → first ≡ asked_at awaits
asked_in_reply catalog p (AwaitsCatalog bytes) first h some none = absurd h
asked_in_reply catalog p (next.AwaitsReply its serial later count last) first h some none = first_asked catalog p.rest its later first h.asks some none
asked_in_reply catalog p AwaitsNothing first h some none = absurd h

pub asked_in_greeting : (catalog : Catalog) (p : Pump) (awaits : Awaits) → IsAwaiting catalog p Greeting awaits → None ≡ asked_at awaits
asked_in_greeting catalog p (AwaitsCatalog bytes) h = refl
asked_in_greeting catalog p (next.AwaitsReply its serial later count last) h = absurd h
asked_in_greeting catalog p AwaitsNothing h = absurd h

pub asked_when_over : (catalog : Catalog) (p : Pump) (awaits : Awaits) → IsAwaiting catalog p Over awaits → None ≡ asked_at awaits
asked_when_over catalog p (AwaitsCatalog bytes) h = absurd h
asked_when_over catalog p (next.AwaitsReply its serial later count last) h = absurd h
asked_when_over catalog p AwaitsNothing h = refl
