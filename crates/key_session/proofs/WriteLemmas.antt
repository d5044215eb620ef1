-- What is written, one call after another.
use Rattle.std.proofs.Common.{◌≡◌, ℕ, ◌+◌, ◌≤◌, Bool, true, false, subst, ◌∙◌, ap, refl, arith, min, get_or}
use Rattle.ghost_model.specs.core.Causes.{Rose, last_count}
use Rattle.edge_traits.specs.Devices.{Device, ChangesOnly}
use Rattle.edge_traits.proofs.DeviceFrames.{kept_same, changes_kept, changes_trans}
use Rattle.page_pool.specs.Pools.{Pool, ChangesPage}
use Rattle.page_pool.proofs.Leases.{change_trans}
use Rattle.visible_spool.specs.declared.area.Area.{Area}
use Rattle.visible_spool.specs.declared.spool.Spool.{Spool}
use Rattle.visible_spool.specs.Areas.{first_of, end_of, no_area}
use Rattle.visible_spool.specs.Sides.{is_marked}
use Rattle.visible_spool.specs.Spools.{area_at}
use Rattle.key_session.specs.Hearing.{MarkTells}
use Rattle.key_session.specs.Pushing.{Writes}

pub true_is_not_false : true ≡ false → ⊥
true_is_not_false e = cc

pub false_is_not_true : false ≡ true → ⊥
false_is_not_true e = cc

earlier : (most a b c : ℕ) → a ≤ b → min (b + 1) most ≤ c → min (a + 1) most ≤ c
earlier most a b c up rose = omega (arith, up, rose)

later : (most a b c : ℕ) → b ≤ c → min (a + 1) most ≤ b → min (a + 1) most ≤ c
later most a b c up rose = omega (arith, up, rose)

pub marks_none : (a : Device) (p : Bool) → MarkTells a a p p
marks_none a true = record { never_falls = omega arith; stays = λ e. e; same = λ e. refl; rose = λ e f. absurd (true_is_not_false e); called = λ e f. absurd (true_is_not_false e) }
marks_none a false = record { never_falls = omega arith; stays = λ e. e; same = λ e. refl; rose = λ e f. absurd (false_is_not_true f); called = λ e f. absurd (false_is_not_true f) }

module _ (a b c : Device) where
  same_by : (p q r : Bool) → MarkTells a b p q → MarkTells b c q r → r ≡ p → c.faults ≡ a.faults
  same_by true true true f s e = s.same refl ∙ f.same refl
  same_by false false false f s e = s.same refl ∙ f.same refl
  same_by true false r f s e = absurd (false_is_not_true (f.stays refl))
  same_by false true true f s e = absurd (true_is_not_false e)
  same_by false true false f s e = absurd (false_is_not_true (s.stays refl))
  same_by true true false f s e = absurd (false_is_not_true e)
  same_by false false true f s e = absurd (true_is_not_false e)

  rose_by : (q : Bool) → MarkTells a b false q → MarkTells b c q true → Rose a.faults c.faults
  rose_by true f s = later last_count a.faults b.faults c.faults s.never_falls (f.rose refl refl)
  rose_by false f s = earlier last_count a.faults b.faults c.faults f.never_falls (s.rose refl refl)

  called_by : (q : Bool) → a.calls ≤ b.calls → b.calls ≤ c.calls → MarkTells a b false q → MarkTells b c q true → Rose a.calls c.calls
  called_by true up on f s = later last_count a.calls b.calls c.calls on (f.called refl refl)
  called_by false up on f s = earlier last_count a.calls b.calls c.calls up (s.called refl refl)

  pub marks_join : (p q r : Bool) → a.calls ≤ b.calls → b.calls ≤ c.calls → MarkTells a b p q → MarkTells b c q r → MarkTells a c p r
  marks_join p q r up on f s = record {
    never_falls = (let one = f.never_falls in let two = s.never_falls in omega (arith, one, two));
    stays = λ e. s.stays (f.stays e);
    same = same_by p q r f s;
    rose = λ e g. rose_by q (subst (λ x. MarkTells a b x q) e f) (subst (λ x. MarkTells b c q x) g s);
    called = λ e g. called_by q up on (subst (λ x. MarkTells a b x q) e f) (subst (λ x. MarkTells b c q x) g s);
  }

pub areas_same : (old new : Spool) (table : ℕ) → new.areas ≡ old.areas → area_at new table ≡ area_at old table
areas_same old new table e = ap (λ list. get_or list.items table no_area) e

pub writes_none : (text table : ℕ) (a : Device) (p : Pool) (spool : Spool) → Writes text table a a p p spool spool
writes_none text table a p spool = record {
  others = changes_kept (kept_same a) (first_of (area_at spool table) text) (end_of (area_at spool table) text);
  deep_reads = refl;
  marks = marks_none a (is_marked spool.sides text);
  changes = record { even = λ e. refl; odd = λ e. refl };
  areas = refl;
  lease = refl;
  buffer = record { out = refl; size = refl; bytes = λ other ne. refl; filled = λ other ne. refl };
}

pub writes_join : (text table : ℕ) (a b c : Device) (p q r : Pool) (x y z : Spool) → Writes text table a b p q x y → Writes text table b c q r y z → Writes text table a c p r x z
writes_join text table a b c p q r x y z one two = record {
  others = changes_trans one.others (subst (λ (area : Area). ChangesOnly (first_of area text) (end_of area text) b c) (areas_same x y table one.areas) two.others);
  deep_reads = two.deep_reads ∙ one.deep_reads;
  marks = marks_join a b c (is_marked x.sides text) (is_marked y.sides text) (is_marked z.sides text) one.others.never_falls two.others.never_falls one.marks two.marks;
  changes = record { even = λ e. two.changes.even e ∙ one.changes.even e; odd = λ e. two.changes.odd e ∙ one.changes.odd e };
  areas = two.areas ∙ one.areas;
  lease = two.lease ∙ one.lease;
  buffer = change_trans one.buffer (subst (λ n. ChangesPage q r n) one.lease two.buffer);
}
