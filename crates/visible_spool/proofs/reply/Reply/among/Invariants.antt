use Rattle.std.proofs.Common.{◌<◌, ◌≤◌, ◌+◌, ◌-◌, ℕ}
use Rattle.visible_spool.specs.Searches.{Ascend, id_at}
use Rattle.visible_spool.proofs.reply.Reply.among.Given as goal

abbrev pub invariant-rows : goal.invariant-rows
invariant-rows l = record {
  first : l.initial.first ≤ l.low;
  order : l.low ≤ l.high;
  last : l.high ≤ l.last + 1;
  below : Ascend l.self l.bytes l.first l.last → (place : ℕ) → l.first ≤ place → place < l.low → id_at l.self l.bytes place < l.id;
  above : Ascend l.self l.bytes l.first l.last → (place : ℕ) → l.high ≤ place → place ≤ l.last → l.id < id_at l.self l.bytes place;
}

abbrev pub decreases-rows : goal.decreases-rows
decreases-rows l = l.high - l.low
