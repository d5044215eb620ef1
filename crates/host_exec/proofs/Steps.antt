-- Each frame that a host takes or says brings the session nearer to its end.
use Rattle.std.proofs.Common.{◌≡◌, ℕ, ◌+◌, ◌-◌, ◌<◌, ◌≤◌, Bool, true, false, Some, None, ◌==◌, subst, arith, min}
use Rattle.std.specs.Prelude.{if◌then◌else◌}
use Rattle.ghost_model.specs.core.Channel.{Frame, HelloFrame, MoreFrame, ByeFrame}
use Rattle.host_exec.specs.Saying.{turned}
use Rattle.host_exec.specs.Steps.{steps_left}
use Rattle.host_exec.specs.declared.stage.Stage.{Stage}
use Rattle.host_exec.specs.declared.stage.Stage.TheVariants.{Greeting, Welcoming, Listening, Answering, Replying}

pub part_on : (catalog at count : ℕ) → at < catalog → count ≡ min 2039 (catalog - at) → steps_left catalog (Welcoming (at + count)) < steps_left catalog (Welcoming at)
part_on catalog at count some counted = omega (arith, some, counted)

pub parts_end : (catalog at : ℕ) → at < catalog → steps_left catalog (Listening 1) < steps_left catalog (Welcoming at)
parts_end catalog at some = omega (arith, some)

pub reply_ends : (catalog serial place sent : ℕ) → serial < 4294967296 → steps_left catalog (Listening (serial + 1)) < steps_left catalog (Answering serial place sent)
reply_ends catalog serial place sent fits = omega (arith, fits)

pub reply_on : (catalog serial place sent next more : ℕ) → place < next → next ≤ 1000000 → steps_left catalog (Replying serial next more) < steps_left catalog (Answering serial place sent)
reply_on catalog serial place sent next more on within = omega (arith, on, within)

pub ask_taken : (catalog serial : ℕ) → serial < 4294967296 → steps_left catalog (Answering serial 0 0) < steps_left catalog (Listening serial)
ask_taken catalog serial fits = omega (arith, fits)

more_taken : (catalog serial place sent other : ℕ) (next : Stage) (b : Bool) → (if b then Some (Answering serial place sent) else None) ≡ Some next
    → steps_left catalog next < steps_left catalog (Replying serial place sent)
more_taken catalog serial place sent other next true e = subst (λ (s : Stage). steps_left catalog s < steps_left catalog (Replying serial place sent)) (same _ _ e) (omega arith)
  where
    same : (a b : Stage) → Some a ≡ Some b → a ≡ b
    same a b e = cc
more_taken catalog serial place sent other next false e = cc

pub turned_fewer : (catalog : ℕ) (stage next : Stage) (frame : Frame) → turned stage frame ≡ Some next → steps_left catalog next < steps_left catalog stage
turned_fewer catalog Greeting next (HelloFrame generation) e = subst (λ (s : Stage). steps_left catalog s < steps_left catalog Greeting) (same _ _ e) (omega arith)
  where
    same : (a b : Stage) → Some a ≡ Some b → a ≡ b
    same a b e = cc
turned_fewer catalog (Listening serial) next ByeFrame e = subst (λ (s : Stage). steps_left catalog s < steps_left catalog (Listening serial)) (same _ _ e) (omega arith)
  where
    same : (a b : Stage) → Some a ≡ Some b → a ≡ b
    same a b e = cc
turned_fewer catalog (Replying serial place sent) next (MoreFrame other) e = more_taken catalog serial place sent other next (other == serial) e
turned_fewer catalog stage next frame e = cc
