use Rattle.std.proofs.Common.{◌≡◌, ℕ, sym, subst}
use Rattle.page_pool.specs.Pools.{IsFree, leased}
use Rattle.id_merge.specs.declared.cursor.Cursor.{Cursor}
use Rattle.merge_tests.proofs.Putting.{list_ready}
use Rattle.merge_tests.proofs.pieces.Together.put_list.Goals as goal

pub returns-in-Some-clause-ready : goal.returns-in-Some-clause-ready
returns-in-Some-clause-ready c = λ device there width within ready.
    let run = c.begin-cursor.result in
    let L : ℕ → Type 0 = λ lease. c.lease.new.self ≡ leased c.args.pool.now lease in
    let F : ℕ → Type 0 = IsFree c.args.pool.now in
    let is = subst L (sym c.begin-cursor.ensures.lease) c.in-Some.ensures.leased in
    let free = subst F (sym c.begin-cursor.ensures.lease) c.in-Some.ensures.was_free in
    rw (c.push.ensures.items)
    (list_ready c.args.self.now.cursors.items c.args.list run c.begin-cursor.ensures.list c.begin-cursor.ensures.at c.begin-cursor.ensures.place c.begin-cursor.ensures.last is free there width within ready)
