use Rattle.std.proofs.Common.{◌∙◌, ℕ, Vec, ap}
use Rattle.std.specs.Global.{Global}
use Rattle.flash_build.proofs.Leading.{led_some, led_none}
use Rattle.flash_build.proofs.Writes.{none_of}
use Rattle.flash_build.proofs.levels.all_led.Goals as goal
use Rattle.flash_build.proofs.levels.all_led.Goals.{in-Some+in_ok-led+in_ok-push, in_default}

pub loop-other-preserved : goal.loop-other-preserved
loop-other-preserved c = record {
  led =
      elim c.match-steps_above.branch [
        | in-Some+in_ok-led+in_ok-push w ↦ led_some c.args.laid.now c.args.hidden.now c.args.table c.loop-other.other c.loop-other.all.items c.match-steps_above.all.items
            w.in_ok-led.field-0 (ap (λ (v : Vec (Vec ℕ Global) Global). v.items) w.all-is ∙ w.in_ok-push.ensures.items) (w.in-Some.ensures.some.0) c.loop-other.invariant.led (w.in_ok-led.ensures.led c.args.table w.in-Some.ensures.some.1)
        | in_default w ↦ led_none c.args.laid.now c.args.hidden.now c.args.table c.loop-other.other c.loop-other.all.items c.match-steps_above.all.items (ap (λ (v : Vec (Vec ℕ Global) Global). v.items) w.all-is) (none_of c.steps_above.result c.steps_above.ensures.none w.in_default.not-Some) c.loop-other.invariant.led
      ];
}
