use Rattle.std.proofs.Common.{◌≡◌, sym, ap, ◌∙◌, ℕ, List, Ok, Result}
use Rattle.ghost_model.specs.core.Query.{Query}
use Rattle.ghost_model.specs.core.Schema.{Schema}
use Rattle.ghost_model.specs.core.Split.{Hidden, hidden_of}
use Rattle.ghost_model.specs.core.Replies.{Reply, answer_from}
use Rattle.ghost_model.specs.core.Printed.{answer_lines}
use Rattle.ghost_model.specs.readings.QueryReading.{reading}
use Rattle.channel_pump.specs.declared.state.ReplyState.{ReplyState}
use Rattle.key_exec.specs.declared.text.Told.TheVariants as told
use Rattle.key_exec.specs.Texts.{Why, is_refused, is_answered, is_broken}
use Rattle.key_exec.proofs.laws.answers_are_of_each.Goals as goal

one_query : {E : Type 0} (o : Result Query E) (one other : Query) → o ≡ Ok one → o ≡ Ok other → one ≡ other
one_query o one other e h = cc

lines_of : (schema : Schema) (kept : Hidden) (given : List Reply) (number : ℕ) (text : List ℕ) (state : ReplyState) (lines : List (List ℕ)) (asked : Query)
    → reading schema text ≡ Ok asked → Why schema kept given number text state lines told.Answered → lines ≡ answer_lines number (answer_from schema kept asked given)
lines_of schema kept given number text state lines asked read (is_refused why) = absurd (cc (why.is_told))
lines_of schema kept given number text state lines asked read (is_answered why) =
    why.are ∙ ap (λ query. answer_lines number (answer_from schema kept query given)) (one_query (reading schema text) why.query asked why.accepted read)
lines_of schema kept given number text state lines asked read (is_broken why) = absurd why.are

pub returns : goal.returns
returns c = record {
  each = λ cat side number text state is_marked half start device before now tree one has replies are public fill database is asked read.
      lines_of cat.schema (hidden_of cat.schema database) replies number text state has.lines asked read
      (has.why database replies (c.slots_can_be_filled.ensures.known start.page cat public fill database tree is) (λ done. are));
  same = λ cat side number text state is_marked half start device before now tree one has replies are public fill other_fill database other is is_other asked read.
      let one = lines_of cat.schema (hidden_of cat.schema database) replies number text state has.lines asked read
      (has.why database replies (c.slots_can_be_filled.ensures.known start.page cat public fill database tree is) (λ done. are)) in
      let another = lines_of cat.schema (hidden_of cat.schema other) replies number text state has.lines asked read
      (has.why other replies (c.slots_can_be_filled.ensures.known start.page cat public other_fill other tree is_other) (λ done. are)) in
      sym one ∙ another;
}
