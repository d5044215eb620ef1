-- A journal that was served, move by move.
use Rattle.std.proofs.Common.{◌≡◌, ◌≤◌, inl, ℕ, true, false, not, Bool, List, [], ◌∷◌, ◌++◌, Option, Some, refl, sym, ◌∙◌, ap, subst, arith, append-nil, append_assoc}
use Rattle.std.specs.Prelude.{if◌then◌else◌, None, ◌||◌, slice_get}
use Rattle.ghost_model.specs.core.Values.{Database}
use Rattle.ghost_model.specs.core.Channel.{Catalog, Frame, Move, Dial, Listen, Accept, Send, Take, Close, Entry, Journal}
use Rattle.ghost_model.specs.core.Asks.{NumberedAsk, asked_of}
use Rattle.ghost_model.specs.core.NextMove.{Awaits, AwaitsCatalog, AwaitsReply, AwaitsNothing, Standing, standing_after, move_from, next_with, send_or, take_or_close, GoesOn, IsProper}
use Rattle.ghost_model.specs.core.Host.{Holding}
use Rattle.ghost_model.specs.core.Honest.{IsSetting, IsCatalogOf}
use Rattle.edge_traits.specs.Files.{Files}
use Rattle.edge_traits.specs.Links.{Steps}
use Rattle.session_laws.specs.Serving.{Desk, first_desk}
use Rattle.session_laws.specs.Local.{IsLocal, holding_of, finds_desk, ServedJournalsJoin, NextMovesFindTheDesk}
use Rattle.local_links.specs.Desks.{ReadsWell}
use Rattle.local_links.specs.Links.{IsAt, IsSureLink, IsServed, IsServedSurely, SendsFree, Moves, Served, comes_free, listens, depot_of, faults_of}
use Rattle.local_links.specs.Sessions.{GoesLocally}
use Rattle.local_links.specs.declared.host_link.HostLink.{HostLink}
use Rattle.local_links.proofs.HandedOut.{reads_first, reads_second}

pub never_falls : {D : Type 0} (contents : D → Option Files) (faults : D → ℕ) (sure : D → List ℕ → Type 0) (before after : HostLink D) (journal : Journal) → Steps (Moves contents faults sure) before journal after
    → faults before.depot ≤ faults after.depot
never_falls contents faults sure before after [] steps = subst (λ link. faults before.depot ≤ faults link.depot) steps (omega arith)
never_falls contents faults sure before after (made ∷ later) steps =
    let first = steps.moved.never_falls in
    let more = never_falls contents faults sure steps.between after later steps.later in
    omega (arith, first, more)

pub all_served : {D : Type 0} (contents : D → Option Files) (faults : D → ℕ) (sure : D → List ℕ → Type 0) (before after : HostLink D) (journal : Journal) (held : Holding) (desk : Desk)
    → Steps (Moves contents faults sure) before journal after → ReadsWell (IsSureLink sure before) (faults before.depot) (faults after.depot) → IsAt contents held before desk → SendsFree held desk journal
    → IsServed contents held desk journal after
all_served contents faults sure before after [] held desk steps calm at free =
    record { last = desk; served = refl; stands = subst (λ link. IsAt contents held link desk) steps at }
all_served contents faults sure before after (made ∷ later) held desk steps calm at free =
    let more = never_falls contents faults sure steps.between after later steps.later in
    let first = steps.moved.served (reads_first _ _ _ more calm) held desk at free.0 in
    let rest = all_served contents faults sure steps.between after later held first.desk steps.later (reads_second _ _ _ steps.moved.never_falls steps.moved.stays_sure calm) first.stands
    (free.1 first.desk first.serves) in
    record { last = rest.last; served = (first.desk, first.serves, rest.served); stands = rest.stands }

-- a depot stays sure of the host's file, and its count of faults as it was
pub all_sure : {D : Type 0} (contents : D → Option Files) (faults : D → ℕ) (sure : D → List ℕ → Type 0) (before after : HostLink D) (journal : Journal) → Steps (Moves contents faults sure) before journal after
    → IsSureLink sure before → IsSureLink sure after
all_sure contents faults sure before after [] steps is = subst (λ link. IsSureLink sure link) steps is
all_sure contents faults sure before after (made ∷ later) steps is = all_sure contents faults sure steps.between after later steps.later (steps.moved.stays_sure is)

pub all_calm : {D : Type 0} (contents : D → Option Files) (faults : D → ℕ) (sure : D → List ℕ → Type 0) (before after : HostLink D) (journal : Journal) → Steps (Moves contents faults sure) before journal after
    → IsSureLink sure before → faults after.depot ≡ faults before.depot
all_calm contents faults sure before after [] steps is = ap (λ link. faults (depot_of link)) (sym steps)
all_calm contents faults sure before after (made ∷ later) steps is =
    all_calm contents faults sure steps.between after later steps.later (steps.moved.stays_sure is) ∙ steps.moved.calm is

pub surely_served : {D : Type 0} (contents : D → Option Files) (faults : D → ℕ) (sure : D → List ℕ → Type 0) (before after : HostLink D) (journal : Journal) (held : Holding) (desk : Desk)
    → Steps (Moves contents faults sure) before journal after → IsSureLink sure before → IsAt contents held before desk → SendsFree held desk journal
    → IsServedSurely contents faults sure held desk before journal after
surely_served contents faults sure before after journal held desk steps is at free = record {
  served = all_served contents faults sure before after journal held desk steps (inl is) at free;
  sure_still = all_sure contents faults sure before after journal steps is;
  calm = all_calm contents faults sure before after journal steps is;
}

one_move : (first second : Move) → Some first ≡ Some second → first ≡ second
one_move first second e = cc

-- the next move of a key is none of a host
key_moves : (o c s : Bool) (at : List ℕ) (f : Option Frame) (rest move : Move) → listens rest ≡ false
    → (if not o then Some (Dial at) else if c then None else if s then Some Close else Some (send_or rest f)) ≡ Some move → listens move ≡ false
key_moves false c s at f rest move quiet e = ap listens (sym (one_move (Dial at) move e))
key_moves true true s at f rest move quiet e = never e
  where
    never : {P : Type 0} → None ≡ Some move → P
    never e = cc
key_moves true false true at f rest move quiet e = ap listens (sym (one_move Close move e))
key_moves true false false at None rest move quiet e = ap listens (sym (one_move rest move e)) ∙ quiet
key_moves true false false at (Some frame) rest move quiet e = ap listens (sym (one_move (send_or rest (Some frame)) move e))

rest_is_quiet : (catalog : Catalog) (l : Standing) (awaits : Awaits) → listens (take_or_close catalog l.heard awaits) ≡ false
rest_is_quiet catalog l (AwaitsCatalog bytes) = refl
rest_is_quiet catalog l (AwaitsReply asked serial later count last) = refl
rest_is_quiet catalog l AwaitsNothing = refl

pub next_is_quiet : (catalog : Catalog) (at : List ℕ) (l : Standing) (move : Move) → move_from catalog at l ≡ Some move → listens move ≡ false
next_is_quiet catalog at l move e =
    key_moves l.opened l.closed (l.stopped || l.heard.broken) at (slice_get l.heard.due l.sent) (take_or_close catalog l.heard l.heard.awaits) move (rest_is_quiet catalog l l.heard.awaits) e

-- so no move of a key fails
pub never_failed : {D : Type 0} (contents : D → Option Files) (faults : D → ℕ) (sure : D → List ℕ → Type 0) (catalog : Catalog) (at : List ℕ) (asks : List NumberedAsk) (gone journal : Journal) (before after : HostLink D)
    → GoesOn catalog at asks gone journal → Steps (Moves contents faults sure) before journal after → faults_of after ≡ faults_of before
never_failed contents faults sure catalog at asks gone [] before after goes steps = ap (λ link. faults_of link) (sym steps)
never_failed contents faults sure catalog at asks gone (made ∷ later) before after goes steps =
    never_failed contents faults sure catalog at asks (gone ++ made ∷ []) later steps.between after goes.1 steps.later
    ∙ steps.moved.quiet (next_is_quiet catalog at (standing_after catalog asks gone) made.move goes.0)

pub goes_more : (catalog : Catalog) (at : List ℕ) (asks : List NumberedAsk) (before journal : Journal) (entry : Entry) → GoesOn catalog at asks before journal → next_with catalog at asks (before ++ journal) ≡ Some entry.move
    → GoesOn catalog at asks before (journal ++ entry ∷ [])
goes_more catalog at asks before [] entry goes e = (ap (λ (j : Journal). next_with catalog at asks j) (sym (append-nil before)) ∙ e, tt)
goes_more catalog at asks before (first ∷ journal) entry goes e =
    (goes.0, goes_more catalog at asks (before ++ first ∷ []) journal entry goes.1 (ap (λ (j : Journal). next_with catalog at asks j) (append_assoc before (first ∷ []) journal) ∙ e))

free_where_found : (desk : Desk) (move : Move) → finds_desk desk move → comes_free desk move
free_where_found desk (Dial _) finds = tt
free_where_found desk (Listen _) finds = tt
free_where_found desk Accept finds = tt
free_where_found desk (Send _) finds = finds
free_where_found desk (Take _) finds = tt
free_where_found desk Close finds = tt

module _ {D : Type 0} (contents : D → Option Files) (faults : D → ℕ) (sure : D → List ℕ → Type 0) (catalog : Catalog) (database : Database) (at : List ℕ) (texts : List (List ℕ)) (setting : IsSetting catalog texts)
    (stored : IsCatalogOf catalog database) (join : ServedJournalsJoin) (find : NextMovesFindTheDesk) where
  -- a session with a host in the process, which stands as the link does
  pub record Walked (journal : Journal) (link : HostLink D) : Type 0 where
    pub is_local : IsLocal catalog database at texts journal
    pub stands : IsAt contents (holding_of catalog database) link is_local.desk

  one_more : (gone : Journal) (made : Entry) (before after : HostLink D) → (w : Walked gone before) → next_with catalog at (asked_of catalog.schema texts) gone ≡ Some made.move
      → Moves contents faults sure before made after → IsSureLink sure before → Walked (gone ++ made ∷ []) after
  one_more gone made before after w next moved is =
      let so = w.is_local in
      let held : Holding = holding_of catalog database in
      let served : Served contents (holding_of catalog database) so.desk made after =
      moved.served (inl is) held so.desk w.stands (free_where_found so.desk made.move (find catalog database at texts gone made.move so next)) in
      record {
        is_local = record {
          setting = setting;
          stored = stored;
          proper = goes_more catalog at (asked_of catalog.schema texts) [] gone made so.proper next;
          desk = served.desk;
          served = join held first_desk so.desk served.desk gone (made ∷ []) so.served (served.desk, served.serves, refl);
        };
        stands = served.stands;
      }

  pub walks : (gone journal : Journal) (before after : HostLink D) → Walked gone before → GoesOn catalog at (asked_of catalog.schema texts) gone journal → Steps (Moves contents faults sure) before journal after
      → IsSureLink sure before → Walked (gone ++ journal) after
  walks gone [] before after w goes steps is = subst (λ (j : Journal). Walked j after) (sym (append-nil gone)) (subst (λ link. Walked gone link) steps w)
  walks gone (made ∷ later) before after w goes steps is =
      subst (λ (j : Journal). Walked j after) (append_assoc gone (made ∷ []) later)
      (walks (gone ++ made ∷ []) later steps.between after (one_more gone made before steps.between w goes.0 steps.moved is) goes.1 steps.later (steps.moved.stays_sure is))

  pub goes_locally : (journal : Journal) (before after : HostLink D) → IsProper catalog at texts journal → Steps (Moves contents faults sure) before journal after → IsSureLink sure before
      → IsAt contents (holding_of catalog database) before first_desk → GoesLocally contents faults sure catalog database at texts before journal after
  goes_locally journal before after proper steps is stands =
      let first : Walked [] before =
      record { is_local = record { setting = setting; stored = stored; proper = tt; desk = first_desk; served = refl }; stands = stands } in
      let w : Walked journal after = walks [] journal before after first proper steps is in
      record {
        is_local = w.is_local;
        stands = w.stands;
        sure_still = all_sure contents faults sure before after journal steps is;
        calm = all_calm contents faults sure before after journal steps is;
        never_failed = never_failed contents faults sure catalog at (asked_of catalog.schema texts) [] journal before after proper steps;
      }
