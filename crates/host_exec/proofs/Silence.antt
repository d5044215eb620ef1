-- Where a host has nothing to say.
use Rattle.std.proofs.Common.{◌≡◌, ℕ, ◌<◌, false, List, [], ◌∷◌, length, take, drop, ap, subst, sym, ◌∙◌, refl, arith, Some}
use Rattle.std.proofs.lemmas.List.{length-drop}
use Rattle.ghost_model.specs.core.Channel.{Frame}
use Rattle.ghost_model.specs.core.Host.{Stand, Response, goes_on, grouped, welcomes_of, most_part, Holding}
use Rattle.host_exec.specs.Hosts.{Holds, IsSameHost}
use Rattle.host_exec.specs.Holdings.{HoldsFile}
use Rattle.host_exec.specs.declared.host.Host.{Host}
use Rattle.host_exec.specs.Saying.{Source, response, Stands, IsWithin, owes}
use Rattle.host_exec.proofs.Groups.{first_group}
use Rattle.host_exec.specs.declared.stage.Stage.{Stage}
use Rattle.host_exec.specs.declared.stage.Stage.TheVariants.{Greeting, Welcoming, Listening, Answering, Replying, Over}

never_none : (part : List ℕ) (parts : List (List ℕ)) → [] ≡ welcomes_of (part ∷ parts) → ⊥
never_none part [] e = cc
never_none part (next ∷ later) e = cc

one_welcome : (bytes : List ℕ) → 0 < length bytes → [] ≡ welcomes_of (grouped most_part bytes) → ⊥
one_welcome bytes some e =
    never_none (take 2039 bytes) (grouped 2039 (drop 2039 bytes)) (e ∙ ap welcomes_of (first_group 2039 bytes (omega arith) some))

pub goes_somewhere : (serial : ℕ) (frames : List Frame) (stand : Stand) → goes_on serial frames ≡ Some (response [] stand) → ⊥
goes_somewhere serial [] stand e = cc
goes_somewhere serial (frame ∷ rest) stand e = never (same _ _ e)
  where
    same : (one other : Response) → Some one ≡ Some other → one.says ≡ other.says
    same one other e = cc

    never : frame ∷ [] ≡ [] → ⊥
    never e = cc

-- a host that owes no frame has none to say
pub silent : (catalog : List ℕ) (source : Source) (rows ahead : ℕ) (stage : Stage) (stand : Stand) → IsWithin (length catalog) rows ahead stage
    → Stands catalog source stage [] stand → owes stage ≡ false
silent catalog source rows ahead Greeting stand within stands = refl
silent catalog source rows ahead (Welcoming at) stand within stands =
    let said : at < length catalog = within.said in
    absurd (one_welcome (drop at catalog) (omega (arith, length-drop at catalog, said)) stands.0)
silent catalog source rows ahead (Listening next) stand within stands = refl
silent catalog source rows ahead (Answering serial place sent) stand within stands = absurd (goes_somewhere serial _ stand stands.0)
silent catalog source rows ahead (Replying serial place sent) stand within stands = refl
silent catalog source rows ahead Over stand within stands = refl

-- and one that has none to say owes none
pub owes_nothing : (catalog : List ℕ) (source : Source) (stage : Stage) (owed : List Frame) (stand : Stand) → owes stage ≡ false
    → Stands catalog source stage owed stand → owed ≡ []
owes_nothing catalog source Greeting owed stand free stands = stands.0
owes_nothing catalog source (Welcoming at) owed stand free stands = cc
owes_nothing catalog source (Listening next) owed stand free stands = stands.0
owes_nothing catalog source (Answering serial place sent) owed stand free stands = cc
owes_nothing catalog source (Replying serial place sent) owed stand free stands = stands.0
owes_nothing catalog source Over owed stand free stands = stands.0

-- what a host holds, it holds also as another value that holds the same
pub holds_on : (held : Holding) (file : List ℕ) (before after : Host) → IsSameHost before after → Holds held file before → Holds held file after
holds_on held file before after same holds =
    subst (λ starts. HoldsFile held after.catalog starts file) (sym same.starts)
    (subst (λ catalog. HoldsFile held catalog before.starts.items file) (sym same.catalog) holds)
