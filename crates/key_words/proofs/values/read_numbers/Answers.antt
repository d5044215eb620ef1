use Rattle.std.proofs.Common.{◌≡◌, ◌∙◌, ◌++◌, [], ◌∷◌, Some, None, length, drop, sym, ap, rules, lit<}
use Rattle.std.specs.Prelude.{option_map}
use Rattle.std.proofs.lemmas.Iterator.Consumers.{YieldsList-turn, YieldsList-end}
use Rattle.std.proofs.lemmas.Iterator.Splits.{YieldsList-from_str_split}
use Rattle.std.proofs.lemmas.List.{length_push}
use Rattle.key_words.proofs.Paces.{after, numbers, refused, too_many, one_more, all_said}
use Rattle.key_words.specs.Words.{parts_of}
use Rattle.key_words.proofs.values.read_numbers.Goals as goal

pub returns-in_err-slices : goal.returns-in_err-slices
returns-in_err-slices c =
    let at = YieldsList-turn (YieldsList-from_str_split 44 c.args.text.now (lit< tt) (cc) (cc) (cc)) c.loop-piece.yielded _ c.loop-piece.yielded_by _ _ c.in-Some.piece c.in-Some.is c.next.ensures.steps in
    let none : c.read_slices.result ≡ None = search rules in
    let gone : c.from_residual.result ≡ None = search rules in
    record { value = ap (option_map (λ pace. pace.items)) gone ∙ refused (parts_of c.args.text.now) (length c.loop-piece.yielded) c.loop-piece.pace.items c.in-Some.piece.now at c.loop-piece.invariant.rest (sym c.read_slices.ensures.value ∙ none) }

pub returns-then-is_err : goal.returns-then-is_err
returns-then-is_err c =
    let at = YieldsList-turn (YieldsList-from_str_split 44 c.args.text.now (lit< tt) (cc) (cc) (cc)) c.loop-piece.yielded _ c.loop-piece.yielded_by _ _ c.in-Some.piece c.in-Some.is c.next.ensures.steps in
    record { value = too_many (parts_of c.args.text.now) (search (rules, at)) }

pub loop-piece-preserved : goal.loop-piece-preserved
loop-piece-preserved c =
    let at = YieldsList-turn (YieldsList-from_str_split 44 c.args.text.now (lit< tt) (cc) (cc) (cc)) c.loop-piece.yielded _ c.loop-piece.yielded_by _ _ c.in-Some.piece c.in-Some.is c.next.ensures.steps in
    let longer = length_push c.loop-piece.yielded c.in-Some.piece in
    let some : c.read_slices.result ≡ Some c.in_ok-slices.slices = search rules in
    let pushed : c.try_push.new.self.items ≡ c.loop-piece.pace.items ++ c.in_ok-slices.slices ∷ [] = search rules in
    record {
      can = search rules;
      finite = search rules;
      count = search (rules, longer);
      few = search rules;
      rest = ap (λ n. after c.try_push.new.self.items (numbers (drop n (parts_of c.args.text.now)))) longer
          ∙ one_more (parts_of c.args.text.now) (length c.loop-piece.yielded) c.loop-piece.pace.items c.try_push.new.self.items c.in-Some.piece.now
          c.in_ok-slices.slices at c.loop-piece.invariant.rest (sym c.read_slices.ensures.value ∙ some) pushed;
    }

pub returns : goal.returns
returns c =
    let end = YieldsList-end (YieldsList-from_str_split 44 c.args.text.now (lit< tt) (cc) (cc) (cc)) c.loop-piece.yielded _ c.loop-piece.yielded_by _ _ c.in-None.is c.next.ensures.steps in
    record { value = all_said (parts_of c.args.text.now) (length c.loop-piece.yielded) c.loop-piece.pace.items end.1 (search rules) c.loop-piece.invariant.rest }
