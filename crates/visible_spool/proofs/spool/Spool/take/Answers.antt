use Rattle.std.proofs.Common.{◌∙◌, ◌≤◌, subst, sym, ap, List, length}
use Rattle.page_pool.specs.Pools.{IsOut}
use Rattle.visible_spool.specs.declared.area.Area.{Area}
use Rattle.visible_spool.specs.Areas.{AreAreas}
use Rattle.visible_spool.specs.Hands.{HasRows}
use Rattle.visible_spool.specs.Spools.{is_at}
use Rattle.visible_spool.proofs.Spooling.{its_text, its_table, pushed_here, pushed_elsewhere}
use Rattle.visible_spool.proofs.spool.Spool.take.Goals as goal

pub returns-clause-spooling : goal.returns-clause-spooling
returns-clause-spooling c = λ device pool was.
    let items = ap (λ areas. areas.items) c.open.ensures.same.areas in
    record {
      out = subst (λ n. IsOut pool n) (sym c.open.ensures.same.lease) was.out;
      areas = subst (λ (list : List Area). AreAreas device list) (sym items) was.areas;
      few = subst (λ (list : List Area). length list ≤ 12) (sym items) was.few;
      small = was.small;
      hand = λ some. c.open.ensures.held device was.areas was.small;
    }

pub returns-clause-rows : goal.returns-clause-rows
returns-clause-rows c = λ told page pool rows pushed.
    let none = pushed_elsewhere told page pool c.args.self.now rows (is_at c.args.self.now c.args.text c.args.table) (sym c.is_at.ensures.at ∙ c.if-is_at.false) pushed in
    subst (λ r. HasRows told page pool c.open.new.self.hand r) (sym none) (c.open.ensures.none told page pool)

pub returns-then-is_at-clause-rows : goal.returns-then-is_at-clause-rows
returns-then-is_at-clause-rows c = λ told page pool rows pushed.
    pushed_here told page pool c.args.self.now rows (is_at c.args.self.now c.args.text c.args.table) (sym c.is_at.ensures.at ∙ c.if-is_at.true) pushed

pub returns-then-is_at-clause-text : goal.returns-then-is_at-clause-text
returns-then-is_at-clause-text c = its_text c.args.text c.args.table c.args.self.now.hand.text c.args.self.now.hand.table (sym c.is_at.ensures.at ∙ c.if-is_at.true)

pub returns-then-is_at-clause-table : goal.returns-then-is_at-clause-table
returns-then-is_at-clause-table c = its_table c.args.text c.args.table c.args.self.now.hand.text c.args.self.now.hand.table (sym c.is_at.ensures.at ∙ c.if-is_at.true)
