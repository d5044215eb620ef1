use Rattle.std.proofs.Common.{◌+◌, ap, length, arith, rules, ◌∙◌}
use Rattle.ghost_model.specs.core.Texts.{texts_of}
use Rattle.key_commands.proofs.generate_lemmas.RowsMeant.{counted_next, counted_all, none_left}
use Rattle.key_commands.proofs.generate.counting.rows_of_texts.Goals as goal

pub loop-earlier-preserved : goal.loop-earlier-preserved
loop-earlier-preserved c =
    let clinic = c.args.clinic.now in
    let next = c.in-Some.ensures.taken in
    let left = ap length next in
    let few = c.loop-earlier.invariant.1 in
    let many = c.loop-earlier.invariant.2 in (
      counted_next clinic.schema clinic.tables (texts_of c.args.script.now) c.loop-earlier.texts c.next.new.self c.in-Some.text.now c.loop-earlier.counts.items c.push.new.self.items c.rows_of.result
          c.loop-earlier.invariant.0 next c.rows_of.ensures.rows c.push.ensures.items,
      omega (arith, left, few),
      c.push.ensures.len ∙ ap (λ n. n + 1) many,
    )

pub returns-in_default : goal.returns-in_default
returns-in_default c =
    let clinic = c.args.clinic.now in
    record {
      rows = counted_all clinic.schema clinic.tables (texts_of c.args.script.now) c.loop-earlier.texts c.loop-earlier.counts.items c.loop-earlier.invariant.0 (search rules);
    }

pub returns : goal.returns
returns c =
    let clinic = c.args.clinic.now in
    let few = c.loop-earlier.invariant.1 in
    let last = c.loop-earlier-test.false in
    record {
      rows = counted_all clinic.schema clinic.tables (texts_of c.args.script.now) c.loop-earlier.texts c.loop-earlier.counts.items c.loop-earlier.invariant.0 (none_left c.loop-earlier.texts (omega (arith, few, last)));
    }
