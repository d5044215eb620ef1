use Rattle.std.proofs.Common.{◌≡◌, ◌∙◌, subst, sym, ℕ, true, List, Option, Some}
use Rattle.std.specs.Prelude.{IfSome, IfOk}
use Rattle.page_pool.specs.Pools.{bytes_at}
use Rattle.edge_traits.specs.Devices.{GaveSince}
use Rattle.visible_spool.specs.Searches.{TurnFinds, TurnIsInHeld, TurnStands, TurnLies}
use Rattle.visible_spool.proofs.reply.Reply.look_held.Goals as goal

pub returns-in-Some-clause-finds : goal.returns-in-Some-clause-finds
returns-in-Some-clause-finds c = λ told pages rows yes filled holds was.
    subst (λ (bytes : List ℕ). IfOk c.look_at.result (TurnFinds c.args.self.now rows c.args.id bytes)) c.page.ensures.bytes
    (c.look_at.ensures.finds pages rows holds
    (c.page.ensures.bytes
    ∙ subst (λ (o : Option ℕ). IfSome o (λ number. told ≡ true → bytes_at c.args.pool.now c.args.lease.now ≡ pages number)) (sym c.filled_from.ensures.page ∙ c.in-Some.is) filled yes)
    was)

pub returns-in-Some-clause-whole : goal.returns-in-Some-clause-whole
returns-in-Some-clause-whole c = λ told pages rows yes filled holds.
    c.look_at.ensures.whole pages rows holds
    (c.page.ensures.bytes
    ∙ subst (λ (o : Option ℕ). IfSome o (λ number. told ≡ true → bytes_at c.args.pool.now c.args.lease.now ≡ pages number)) (sym c.filled_from.ensures.page ∙ c.in-Some.is) filled yes)

pub returns-in-Some-clause-stands : goal.returns-in-Some-clause-stands
returns-in-Some-clause-stands c = λ since device given.
    let here = subst (λ (o : Option ℕ). IfSome o (GaveSince since device (bytes_at c.args.pool.now c.args.lease.now))) (sym c.filled_from.ensures.page ∙ c.in-Some.is) given in
    subst (λ (bytes : List ℕ). IfOk c.look_at.result (TurnStands since device c.args.self.now bytes)) c.page.ensures.bytes
    (c.look_at.ensures.stands since device (subst (λ (bytes : List ℕ). GaveSince since device bytes c.in-Some.number) (sym c.page.ensures.bytes) here))

pub returns-in-Some-clause-lies : goal.returns-in-Some-clause-lies
returns-in-Some-clause-lies c =
    subst (λ (held : Option ℕ). IfOk c.look_at.result (TurnLies c.args.self.now c.args.id held (bytes_at c.args.pool.now c.args.lease.now))) (sym (sym c.filled_from.ensures.page ∙ c.in-Some.is))
    (subst (λ (bytes : List ℕ). IfOk c.look_at.result (TurnLies c.args.self.now c.args.id (Some c.in-Some.number) bytes)) c.page.ensures.bytes c.look_at.ensures.lies)

pub returns-in-Some-clause-inside : goal.returns-in-Some-clause-inside
returns-in-Some-clause-inside c = λ told pages rows yes filled holds.
    subst (λ (held : Option ℕ). IfOk c.look_at.result (TurnIsInHeld c.args.self.now rows held c.args.id)) (sym (sym c.filled_from.ensures.page ∙ c.in-Some.is))
    (c.look_at.ensures.inside pages rows holds
    (c.page.ensures.bytes
    ∙ subst (λ (o : Option ℕ). IfSome o (λ number. told ≡ true → bytes_at c.args.pool.now c.args.lease.now ≡ pages number)) (sym c.filled_from.ensures.page ∙ c.in-Some.is) filled yes))
