use Rattle.std.proofs.Common.{◌≡◌, ◌∙◌, ◌++◌, [], ◌∷◌, length, map, ap, arith, rules, lit<, sym}
use Rattle.std.proofs.lemmas.Iterator.Consumers.{YieldsList-turn, YieldsList-end}
use Rattle.std.proofs.lemmas.Iterator.Splits.{YieldsList-from_str_split}
use Rattle.key_words.proofs.Items.{too_many, all_read}
use Rattle.key_words.specs.Words.{parts_of}
use Rattle.key_words.proofs.values.read_item_list.Goals as goal

pub returns-then-is_err : goal.returns-then-is_err
returns-then-is_err c =
    let at = YieldsList-turn (YieldsList-from_str_split 44 c.args.text.now (lit< tt) (cc) (cc) (cc)) c.loop-item.yielded _ c.loop-item.yielded_by _ _ c.in-Some.item c.in-Some.is c.next.ensures.steps in
    let full = ap length c.loop-item.invariant.read in
    record { value = too_many (parts_of c.args.text.now) (search (rules, at, full)) }

pub returns : goal.returns
returns c =
    let end = YieldsList-end (YieldsList-from_str_split 44 c.args.text.now (lit< tt) (cc) (cc) (cc)) c.loop-item.yielded _ c.loop-item.yielded_by _ _ c.in-None.is c.next.ensures.steps in
    let as_read = ap length c.loop-item.invariant.read in
    let few = c.loop-item.invariant.few in
    record {
      value = all_read (parts_of c.args.text.now) (map (λ item. item.now) c.loop-item.items.items) (omega (arith, end.1, as_read, few))
          (ap (map (λ item. item.now)) c.loop-item.invariant.read ∙ end.0);
    }
