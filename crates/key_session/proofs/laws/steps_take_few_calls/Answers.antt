use Rattle.key_session.proofs.SessionCalls.{few_calls}
use Rattle.key_session.proofs.laws.steps_take_few_calls.Goals as goal

pub returns : goal.returns
returns c = few_calls (record {
  stay = c.ended_texts_stay.ensures;
  decided = c.texts_are_decided.ensures;
  over = c.over_texts_are_settled.ensures;
  in_order = c.asks_are_awaited_in_order.ensures;
  order = c.texts_come_in_order.ensures;
  done = c.honest_asks_are_done.ensures;
  smooth = c.honest_sessions_are_smooth.ensures;
  asks = c.honest_replies_are_whole.ensures.asks;
  texts = c.honest_replies_are_whole.ensures.texts;
  later = c.later_texts_are_unmarked.ensures.unmarked;
})
