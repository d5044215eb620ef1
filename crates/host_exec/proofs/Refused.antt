-- A refusal in place of the next frame of a reply.
use Rattle.std.proofs.Common.{◌≡◌, ℕ, ◌+◌, Bool, true, false, List, [], ◌∷◌, ◌++◌, map, Option, Some, None, refl, sym, ◌∙◌, ap, arith}
use Rattle.std.specs.Prelude.{if◌then◌else◌, ◌==◌}
use Rattle.std.proofs.lemmas.Bool.{eqb-true}
use Rattle.ghost_model.specs.core.Channel.{Frame, HelloFrame, AskFrame, MoreFrame, ByeFrame, RowsFrame, DoneFrame}
use Rattle.ghost_model.specs.core.Channel as channel
use Rattle.ghost_model.specs.core.Asks.{RowCells}
use Rattle.ghost_model.specs.readings.AskReading.{ask_in}
use Rattle.ghost_model.specs.forms.Catalog.{catalog_bytes}
use Rattle.ghost_model.specs.core.Host.{Holding, Stand, Response, answer_to, answers_ask, goes_on, after_reply, reply_to, rows_frame, grouped, most_part, welcomes_of, refusal, unread, answer_as}
use Rattle.ghost_model.specs.core.Host as host
use Rattle.host_exec.specs.Saying.{Source, Stands, left_from, most_rows, reply_left}
use Rattle.host_exec.specs.declared.stage.Stage.TheVariants as stage

same_stand : (one other : Response) → Some one ≡ Some other → one.stand ≡ other.stand
same_stand one other e = cc

same_says : (one other : Response) → Some one ≡ Some other → one.says ≡ other.says
same_says one other e = cc

same_serial : (one other : ℕ) (xs ys : List Frame) → after_reply one xs ≡ after_reply other ys → one ≡ other
same_serial one other [] [] e = (let next : one + 1 ≡ other + 1 = listening (one + 1) (other + 1) e in omega (arith, next))
  where
    listening : (a b : ℕ) → host.Listening a ≡ host.Listening b → a ≡ b
    listening a b e = cc
same_serial one other [] (y ∷ ys) e = absurd (never (one + 1) other (y ∷ ys) e)
  where
    never : (a b : ℕ) (rest : List Frame) → host.Listening a ≡ host.Replying b rest → ⊥
    never a b rest e = cc
same_serial one other (x ∷ xs) [] e = absurd (never (other + 1) one (x ∷ xs) e)
  where
    never : (a b : ℕ) (rest : List Frame) → host.Replying b rest ≡ host.Listening a → ⊥
    never a b rest e = cc
same_serial one other (x ∷ xs) (y ∷ ys) e = replying one other (x ∷ xs) (y ∷ ys) e
  where
    replying : (a b : ℕ) (left more : List Frame) → host.Replying a left ≡ host.Replying b more → a ≡ b
    replying a b left more e = cc

-- a frame of a reply tells the serial of its ask
goes_same : (one other : ℕ) (xs ys : List Frame) (answered : Response) → goes_on one xs ≡ Some answered → goes_on other ys ≡ Some answered → one ≡ other
goes_same one other [] ys answered first second = cc
goes_same one other (x ∷ xs) [] answered first second = cc
goes_same one other (x ∷ xs) (y ∷ ys) answered first second = same_serial one other xs ys (same_stand _ answered first ∙ sym (same_stand _ answered second))

goes_not_over : (serial : ℕ) (frames : List Frame) (answered : Response) → goes_on serial frames ≡ Some answered → answered.stand ≡ host.Over → ⊥
goes_not_over serial [] answered goes over = cc
goes_not_over serial (frame ∷ rest) answered goes over = never rest (same_stand _ answered goes ∙ over)
  where
    listening : host.Listening (serial + 1) ≡ host.Over → ⊥
    listening e = cc

    replying : (rest : List Frame) → host.Replying serial rest ≡ host.Over → ⊥
    replying rest e = cc

    never : (rest : List Frame) → after_reply serial rest ≡ host.Over → ⊥
    never [] e = listening e
    never (next ∷ later) e = replying (next ∷ later) e

done_no_welcome : (serial count : ℕ) (parts : List (List ℕ)) → DoneFrame serial count ∷ [] ≡ welcomes_of parts → ⊥
done_no_welcome serial count [] e = cc
done_no_welcome serial count (part ∷ []) e = cc
done_no_welcome serial count (part ∷ next ∷ later) e = cc

rows_no_welcome : (serial : ℕ) (bytes : List ℕ) (parts : List (List ℕ)) → RowsFrame serial bytes ∷ [] ≡ welcomes_of parts → ⊥
rows_no_welcome serial bytes [] e = cc
rows_no_welcome serial bytes (part ∷ []) e = cc
rows_no_welcome serial bytes (part ∷ next ∷ later) e = cc

-- no frame of a reply is the catalog's
no_welcome : (serial count : ℕ) (groups : List (List RowCells)) (parts : List (List ℕ)) (answered : Response)
    → goes_on serial (map (rows_frame serial) groups ++ DoneFrame serial count ∷ []) ≡ Some answered → answered.says ≡ welcomes_of parts → ⊥
no_welcome serial count [] parts answered goes says = done_no_welcome serial count parts (same_says _ answered goes ∙ says)
no_welcome serial count (group ∷ groups) parts answered goes says = rows_no_welcome serial _ parts (same_says _ answered goes ∙ says)

-- where a host owes a frame of a reply, a refusal is the answer that it gives where it cannot read
pub refused_reply : (held : Holding) (catalog : List ℕ) (source : Source) (serial place count : ℕ) (stand : Stand) (frame : Frame) (answered : Response)
    → Stands catalog source (stage.Answering serial place count) answered.says answered.stand → answer_to held stand frame ≡ Some answered
    → answer_as true held stand frame ≡ Some (refusal serial)
refused_reply held catalog source serial place count host.Greeting (HelloFrame generation) answered stands answer =
    absurd (no_welcome serial _ (grouped (most_rows source) (left_from source place)) (grouped most_part (catalog_bytes held.catalog)) answered stands.0 (sym (same_says _ answered answer)))
refused_reply held catalog source serial place count (host.Listening next) (AskFrame number payload) answered stands answer =
    ap (unread (AskFrame number payload)) answer ∙ ap (λ (n : ℕ). Some (refusal n)) (by_serial (number == next) (ask_in held.catalog.schema payload) answer)
  where
    by_serial : (b : Bool) (ask : Option channel.Ask) → (if b then answers_ask held number ask else None) ≡ Some answered → number ≡ serial
    by_serial true None answer = cc
    by_serial true (Some ask) answer = goes_same number serial (reply_to held number ask) (reply_left (most_rows source) serial count (left_from source place)) answered answer stands.0
    by_serial false ask answer = cc
refused_reply held catalog source serial place count (host.Listening next) ByeFrame answered stands answer =
    absurd (goes_not_over serial (reply_left (most_rows source) serial count (left_from source place)) answered stands.0 (sym (same_stand _ answered answer)))
refused_reply held catalog source serial place count (host.Replying number rest) (MoreFrame other) answered stands answer =
    ap (unread (MoreFrame other)) answer ∙ ap (λ (n : ℕ). Some (refusal n)) (by_serial (other == number) refl answer)
  where
    by_serial : (b : Bool) → (other == number) ≡ b → (if b then goes_on number rest else None) ≡ Some answered → other ≡ serial
    by_serial true same answer = eqb-true other number same ∙ goes_same number serial rest (reply_left (most_rows source) serial count (left_from source place)) answered answer stands.0
    by_serial false same answer = cc
refused_reply held catalog source serial place count stand frame answered stands answer = cc
