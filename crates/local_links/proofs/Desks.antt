-- A host with what it said, from frame to frame.
use Rattle.std.proofs.Common.{◌≡◌, ℕ, ◌+◌, ◌-◌, ◌≤◌, Bool, true, false, List, [], ◌∷◌, ◌++◌, length, take, drop, flat_map, Option, None, Some, MatchBool, refl, sym, ◌∙◌, ap, subst, arith, append-nil, append_assoc}
use Rattle.std.proofs.Math.Seq.{take-add}
use Rattle.std.proofs.lemmas.List.{drop-drop}
use Rattle.ghost_model.proofs.ChannelLemmas.Tests.{take_front}
use Rattle.ghost_model.specs.core.Channel.{Frame, Made}
use Rattle.ghost_model.specs.forms.Frames.{Found, Short, Bad, IsFrame, frame_bytes, got_of}
use Rattle.ghost_model.specs.core.Host.{Holding, Stand, Response, answer_to}
use Rattle.ghost_model.proofs.ChannelLemmas.{spelled_is_found}
use Rattle.edge_traits.specs.Files.{Files, file_of}
use Rattle.host_exec.specs.Hosts.{Holds, StandsAs, SaysAs, IsAnswered, IsSameHost, name_of}
use Rattle.host_exec.specs.Holdings.{HoldsFile}
use Rattle.host_exec.specs.declared.host.Host.{Host}
use Rattle.session_laws.specs.Serving.{Desk, Hears}
use Rattle.local_links.specs.Desks.{Owes, kept}
use Rattle.local_links.specs.Links.{Handed}
use Rattle.local_links.specs.declared.speech.Speech.{Speech}

pub handed_on : (page : List ℕ) (from to count : ℕ) (copied later : List ℕ) → copied ≡ take count (drop from page) → length copied ≡ count → count ≤ to - from
    → take (to - from) (drop from page) ≡ take count (copied ++ later) ++ take (to - (from + count)) (drop (from + count) page)
handed_on page from to count copied later is long fits =
    let both : to - from ≡ count + (to - (from + count)) = omega (arith, fits) in
    let further : drop count (drop from page) ≡ drop (from + count) page = drop-drop count from page in
    ap (λ (n : ℕ). take n (drop from page)) both
    ∙ (take-add count (to - (from + count)) (drop from page)
    ∙ (ap (λ (xs : List ℕ). xs ++ take (to - (from + count)) (drop count (drop from page))) (sym is ∙ sym (take_front count copied later long))
    ∙ ap (λ (xs : List ℕ). take count (copied ++ later) ++ take (to - (from + count)) xs) further))

-- what a host holds, it holds also as another value that holds the same
pub holds_on : (held : Holding) (file : List ℕ) (before after : Host) → IsSameHost before after → Holds held file before → Holds held file after
holds_on held file before after same holds =
    subst (λ starts. HoldsFile held after.catalog starts file) (sym same.starts)
    (subst (λ catalog. HoldsFile held catalog before.starts.items file) (sym same.catalog) holds)

-- a frame was said where all that was said before was taken
pub says_next : (held : Holding) (contents later : Option Files) (before after : Host) (old new : Speech) (size : ℕ) (out bytes : List ℕ) (stand : Stand)
    → later ≡ contents → IsSameHost before after → kept old ≡ [] → kept new ≡ take size out
    → ((file : List ℕ) (owed : List Frame) (stand : Stand) → file_of contents (name_of before) ≡ Some file → StandsAs before file owed stand → SaysAs after file owed stand size out)
    → Owes held contents before old bytes stand → Owes held later after new bytes stand
says_next held contents later before after old new size out bytes stand told same none spoken says owes =
    let said = says owes.file owes.frames stand owes.found owes.stands in
    record {
      file = owes.file;
      found = ap (λ files. file_of files (name_of after)) told ∙ (ap (file_of contents) same.name ∙ owes.found);
      holds = holds_on held owes.file before after same owes.holds;
      frames = said.rest;
      stands = said.stands;
      owed = owes.owed ∙ (ap (λ (xs : List ℕ). xs ++ flat_map frame_bytes owes.frames) none
          ∙ (ap (flat_map frame_bytes) said.owed_are
          ∙ ap (λ (xs : List ℕ). xs ++ flat_map frame_bytes said.rest) (sym said.spelled ∙ sym spoken)));
    }

-- a host that has nothing to say, and nothing of what it said is left
pub nothing_owed : (held : Holding) (contents : Option Files) (host : Host) (speech : Speech) (bytes : List ℕ) (stand : Stand) → kept speech ≡ []
    → ((file : List ℕ) (owed : List Frame) (stand : Stand) → StandsAs host file owed stand → owed ≡ [])
    → Owes held contents host speech bytes stand → bytes ≡ []
nothing_owed held contents host speech bytes stand none silent owes =
    owes.owed ∙ (ap (λ (xs : List ℕ). xs ++ flat_map frame_bytes owes.frames) none ∙ ap (flat_map frame_bytes) (silent owes.file owes.frames stand owes.stands))

none_left : (front back : List ℕ) → [] ≡ front ++ back → (front ≡ []) × (back ≡ [])
none_left [] back e = (refl, sym e)
none_left (byte ∷ front) back e = cc

no_frames : (frames : List Frame) → flat_map frame_bytes frames ≡ [] → frames ≡ []
no_frames [] e = refl
no_frames (frame ∷ frames) e = cc

same_found : (one other : Frame) → Found one ≡ Found other → one ≡ other
same_found one other e = cc

same_response : (one other : Response) → Some one ≡ Some other → one ≡ other
same_response one other e = cc

found_once : (bytes : List ℕ) (frame other : Frame) → got_of bytes ≡ Found frame → IsFrame other → bytes ≡ frame_bytes other → other ≡ frame
found_once bytes frame other got fits spelled =
    same_found other frame (sym (spelled_is_found other [] fits) ∙ (ap got_of (append-nil (frame_bytes other) ∙ sym spelled) ∙ got))

-- a desk to which a frame was sent
pub record Heard (held : Holding) (contents : Option Files) (before : Desk) (bytes : List ℕ) (host : Host) (speech : Speech) : Type 0 where
  pub desk : Desk
  pub hears : Hears held before bytes Made desk
  pub owes : Owes held contents host speech desk.owed desk.stand

-- bytes that are no frame leave a desk as it is
pub heard_nothing : (held : Holding) (contents : Option Files) (host : Host) (speech : Speech) (before : Desk) (bytes : List ℕ)
    → ((frame : Frame) → got_of bytes ≡ Found frame → ⊥) → Owes held contents host speech before.owed before.stand → Heard held contents before bytes host speech
heard_nothing held contents host speech before bytes other owes = record {
  desk = before;
  hears = record {
    made = refl;
    answers = λ frame response fits spelled answers. absurd (other frame (ap got_of (spelled ∙ sym (append-nil (frame_bytes frame))) ∙ spelled_is_found frame [] fits));
  };
  owes = owes;
}

-- a frame was fed, where nothing was owed
pub heard_frame : (held : Holding) (contents : Option Files) (host after : Host) (speech : Speech) (before : Desk) (bytes : List ℕ) (frame : Frame) (taken : Bool)
    → got_of bytes ≡ Found frame → IsSameHost host after → (taken ≡ false → after ≡ host)
    → ((file : List ℕ) (stand : Stand) → Holds held file host → StandsAs host file [] stand
    → MatchBool taken (IsAnswered held file stand frame after) (answer_to held stand frame ≡ None))
    → before.owed ≡ [] → Owes held contents host speech before.owed before.stand → Heard held contents before bytes after speech
heard_frame held contents host after speech before bytes frame taken got same stays fed free owes =
    let parts = none_left (kept speech) (flat_map frame_bytes owes.frames) (sym free ∙ owes.owed) in
    let silent : owes.frames ≡ [] = no_frames owes.frames parts.1 in
    let stands = subst (λ frames. StandsAs host owes.file frames before.stand) silent owes.stands in
    by_taken taken stays parts.0 (fed owes.file before.stand owes.holds stands)
  where
    by_taken : (taken : Bool) → (taken ≡ false → after ≡ host) → kept speech ≡ []
        → MatchBool taken (IsAnswered held owes.file before.stand frame after) (answer_to held before.stand frame ≡ None) → Heard held contents before bytes after speech
    by_taken true stays none answered = record {
      desk = record { stand = answered.answered.stand; owed = flat_map frame_bytes answered.answered.says };
      hears = record {
        made = refl;
        answers = λ other response fits spelled answers.
            let is : response ≡ answered.answered =
            same_response response answered.answered (sym answers ∙ (ap (answer_to held before.stand) (found_once bytes frame other got fits spelled) ∙ answered.answer)) in
            ap (λ (r : Response). record { stand = r.stand; owed = flat_map frame_bytes r.says }) (sym is)
            ∙ ap (λ (xs : List ℕ). record { stand = response.stand; owed = xs ++ flat_map frame_bytes response.says }) (sym free);
      };
      owes = record {
        file = owes.file;
        found = ap (file_of contents) same.name ∙ owes.found;
        holds = holds_on held owes.file host after same owes.holds;
        frames = answered.answered.says;
        stands = answered.stands;
        owed = ap (λ (xs : List ℕ). xs ++ flat_map frame_bytes answered.answered.says) (sym none);
      };
    }
    by_taken false stays none refused = record {
      desk = before;
      hears = record {
        made = refl;
        answers = λ other response fits spelled answers. never (answer_to held before.stand other)
            (ap (answer_to held before.stand) (found_once bytes frame other got fits spelled) ∙ refused) answers;
      };
      owes = subst (λ h. Owes held contents h speech before.owed before.stand) (sym (stays refl)) owes;
    }
      where
        never : {P : Type 0} (o : Option Response) {r : Response} → o ≡ None → o ≡ Some r → P
        never o none some = cc

pub short_not_found : (bytes : List ℕ) (missing : ℕ) → got_of bytes ≡ Short missing → (frame : Frame) → got_of bytes ≡ Found frame → ⊥
short_not_found bytes missing short frame found = never (sym short ∙ found)
  where
    never : Short missing ≡ Found frame → ⊥
    never e = cc

pub bad_not_found : (bytes : List ℕ) (kind : ℕ) → got_of bytes ≡ Bad kind → (frame : Frame) → got_of bytes ≡ Found frame → ⊥
bad_not_found bytes kind bad frame found = never (sym bad ∙ found)
  where
    never : Bad kind ≡ Found frame → ⊥
    never e = cc

-- a part of what was said was handed out
pub hands_out : (held : Holding) (contents : Option Files) (host : Host) (old new : Speech) (bytes part : List ℕ) (stand : Stand) → kept old ≡ part ++ kept new
    → Owes held contents host old bytes stand → Handed bytes part (λ rest. Owes held contents host new rest stand)
hands_out held contents host old new bytes part stand split owes = record {
  rest = kept new ++ flat_map frame_bytes owes.frames;
  joined = owes.owed ∙ (ap (λ (xs : List ℕ). xs ++ flat_map frame_bytes owes.frames) split ∙ append_assoc part (kept new) (flat_map frame_bytes owes.frames));
  owes = record { file = owes.file; found = owes.found; holds = owes.holds; frames = owes.frames; stands = owes.stands; owed = refl };
}
