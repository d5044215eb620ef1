-- What stays of a job where others spare its half and its buffers.
use Rattle.std.proofs.Common.{◌∙◌, inl, inr, ◌≡◌, ◌+◌, ◌-◌, ◌≤◌, ℕ, Bool, List, ◌++◌, length, length-append, get_or, Option, None, Some, sym, subst, arith}
use Rattle.std.specs.Prelude.{IfSome, ⊤}
use Rattle.ghost_model.specs.core.Causes.{Rose}
use Rattle.ghost_model.specs.core.Channel.{Catalog}
use Rattle.ghost_model.specs.core.Query.{Query}
use Rattle.ghost_model.specs.core.Replies.{Reply}
use Rattle.ghost_model.specs.core.Values.{Database}
use Rattle.edge_traits.specs.Devices.{Device, ChangesOnly}
use Rattle.page_pool.specs.Pools.{Pool}
use Rattle.page_pool.specs.Laws.{SameBuffer}
use Rattle.std.proofs.lemmas.List.{get_or_append_left, get_or-append-add}
use Rattle.ghost_model.specs.laws.SchemaTrees.{IsTree}
use Rattle.visible_spool.specs.Areas.{half_begin, half_end}
use Rattle.page_pool.proofs.Leases.{outs_kept}
use Rattle.visible_spool.specs.declared.half.Half.{Half}
use Rattle.visible_spool.specs.Halves.{reply_of}
use Rattle.visible_spool.specs.Sparing as sparing
use Rattle.visible_spool.specs.Sparing.{AreInHalf, SparesHalf, Uses, SparedRepliesStay, SparedRowsStay, SparedHalvesStay, BuffersStayFilled}
use Rattle.candidate_rows.specs.declared.plan.RowPlan.{RowPlan}
use Rattle.candidate_rows.specs.declared.work.RowWork.{RowWork}
use Rattle.flash_layout.specs.Ranges.{Suffices}
use Rattle.candidate_rows.specs.Working.{IsWorking}
use Rattle.candidate_rows.specs.Laws.{WorkStillStands}
use Rattle.candidate_rows.specs.Steps.{WereGiven, AreBlankOrRead}
use Rattle.key_exec.specs.forms.Costs.{LinkingCosts}
use Rattle.key_exec.specs.Costs.{PhaseCosts}
use Rattle.leakless_plan.specs.declared.plan.Plan.{Plan}
use Rattle.id_merge.specs.declared.merge.Merge.{Merge}
use Rattle.id_merge.specs.Cursors.{AllReady, leases_of, unread_in}
use Rattle.id_merge.specs.Spared as merged
use Rattle.id_merge.specs.Since.{Since}
use Rattle.id_merge.specs.Spared.{AllOutside, MergeStaysReady, CursorsStayGiven, CursorsStayRight, UnreadStays}
use Rattle.candidate_lists.specs.Staying.{DamageStays}
use Rattle.candidate_gathering.specs.known.Known.{KeepsStatic}
use Rattle.candidate_gathering.specs.known.Laws.{KnowledgeStays}
use Rattle.key_exec.specs.declared.forms.linking.Linking.{Linking as LinkingModel}
use Rattle.key_exec.specs.forms.Stages as links
use Rattle.key_exec.specs.forms.Stages.{IsLinking, linking_left}
use Rattle.key_exec.specs.forms.Contents.{LinkingHas, Walks, WalksUnited}
use Rattle.key_exec.specs.forms.Given.{LinkingGiven}
use Rattle.key_exec.specs.forms.Turns.{SparesLinking}
use Rattle.key_exec.specs.Plans.{crosses_by}
use Rattle.key_exec.proofs.HalfLemmas.{others_spare}
use Rattle.key_exec.specs.declared.job.Scan.{Scan}
use Rattle.key_exec.specs.declared.job.Phase.{Phase}
use Rattle.key_exec.specs.declared.job.Phase.TheVariants.{Begun, Scanning, Linking, Walking, Over}
use Rattle.key_exec.specs.Reading.{KnowsAll}
use Rattle.key_exec.specs.Jobs.{work_in, leases_in}
use Rattle.key_exec.specs.Laws.{PagesStayKnownBut}
use Rattle.key_exec.proofs.AskedLemmas.{asked_low}
use Rattle.key_exec.specs.Ready.{IsLinkingFor, IsWalking, IsFor, IsWorkAt, IsScanning, IsAtPhase, AreHeld, AreLent, WorkStands, PhaseGiven, PhaseStands, Spares}

suffices_still : {cat : Catalog} {side : ℕ} {before now : Device} → SparesHalf cat side before now → Suffices cat before → Suffices cat now
suffices_still spares is = record { pages = omega (arith, is.pages, spares.page_count); small = omega (arith, is.small, spares.page_count) }

pub for_still :
    SparedHalvesStay → (by : Plan) (cat : Catalog) (asked : Query) (side : ℕ) (told : Bool) (before now : Device) (half : Half) (plan : RowPlan) (rows : ℕ)
    → SparesHalf cat side before now → IsFor by cat asked side told before half plan rows → IsFor by cat asked side told now half plan rows
for_still stay by cat asked side told before now half plan rows spares is = record {
  plan_is = is.plan_is;
  suffices = suffices_still spares is.suffices;
  few = is.few;
  small = is.small;
  side_is = is.side_is;
  half_is = stay told cat side before now half spares is.half_is;
}

working_still :
    SparedRepliesStay → (cat : Catalog) (asked : Query) (side : ℕ) (before now : Device) (half : Half) (plan : RowPlan) (work : RowWork)
    → SparesHalf cat side before now → IsWorking cat asked before half plan work → IsWorking cat asked now half plan work
working_still stay cat asked side before now half plan work spares is = record {
  plan_is = is.plan_is;
  suffices = suffices_still spares is.suffices;
  replies = λ table there. stay cat side before now (reply_of half table) spares (is.replies table there);
  place = is.place;
  tables = is.tables;
  puts = is.puts;
  places = is.places;
  rows = is.rows;
  below = is.below;
  search = is.search;
}

work_at_still :
    SparedRepliesStay → (cat : Catalog) (asked : Query) (side : ℕ) (before now : Device) (half : Half) (plan : RowPlan) (rows next : ℕ) (work : Option RowWork)
    → SparesHalf cat side before now → IsWorkAt cat asked before half plan rows next work → IsWorkAt cat asked now half plan rows next work
work_at_still stay cat asked side before now half plan rows next None spares is = tt
work_at_still stay cat asked side before now half plan rows next (Some work) spares is = record {
  within = is.within;
  working = working_still stay cat asked side before now half plan work spares is.working;
  steps = is.steps;
}

scanning_still :
    SparedRepliesStay → (cat : Catalog) (asked : Query) (side : ℕ) (before now : Device) (half : Half) (plan : RowPlan) (rows given spent : ℕ) (scan : Scan) (work : RowWork)
    → SparesHalf cat side before now → IsScanning cat asked before half plan rows given spent scan work → IsScanning cat asked now half plan rows given spent scan work
scanning_still stay cat asked side before now half plan rows given spent scan work spares is = record {
  some = is.some;
  next = is.next;
  fewer = is.fewer;
  bound = is.bound;
  work_is = work_at_still stay cat asked side before now half plan rows scan.next (work_in scan work) spares is.work_is;
}

-- ---- buffers

-- what spares a job spares its half
pub half_spared : {cat : Catalog} {side : ℕ} {before now : Device} {pool later : Pool} {leases : List ℕ} → Spares cat side before now pool later leases → SparesHalf cat side before now
half_spared {cat = cat} {side = side} {before = before} {now = now} spares = others_spare cat side before now spares.side_is spares.device

-- and so do fewer leases
pub spares_first : {cat : Catalog} {side : ℕ} {before now : Device} {pool later : Pool} (leases more : List ℕ) → Spares cat side before now pool later (leases ++ more)
    → Spares cat side before now pool later leases
spares_first {pool = pool} {later = later} leases more spares = record {
  side_is = spares.side_is;
  device = spares.device;
  out = spares.out;
  buffers = λ i within.
      subst (SameBuffer pool later) (get_or_append_left leases more 0 i within)
      (spares.buffers i (let long : length (leases ++ more) ≡ length leases + length more = length-append leases more in omega (arith, within, long)));
}

spares_second : {cat : Catalog} {side : ℕ} {before now : Device} {pool later : Pool} (leases more : List ℕ) → Spares cat side before now pool later (leases ++ more)
    → merged.Spares (half_begin cat (1 - side)) (half_end cat (1 - side)) before now pool later more
spares_second {pool = pool} {later = later} leases more spares = record {
  changes = spares.device;
  out = spares.out;
  buffers = λ i within.
      subst (SameBuffer pool later) (get_or-append-add leases more i 0)
      (spares.buffers (length leases + i) (let long : length (leases ++ more) ≡ length leases + length more = length-append leases more in omega (arith, within, long)));
}

pub spares_all : {cat : Catalog} {side : ℕ} {before now : Device} {pool later : Pool} {leases : List ℕ} → Spares cat side before now pool later leases
    → merged.Spares (half_begin cat (1 - side)) (half_end cat (1 - side)) before now pool later leases
spares_all spares = record { changes = spares.device; out = spares.out; buffers = spares.buffers }

pub given_still :
    sparing.BuffersStayGiven → (cat : Catalog) (side : ℕ) (before now : Device) (pool later : Pool) (leases : List ℕ) (since : ℕ)
    → Spares cat side before now pool later leases → WereGiven since before pool leases → WereGiven since now later leases
given_still stay cat side before now pool later leases since spares given = λ i within.
    stay cat side before now pool later (get_or leases i 0) since (half_spared spares) (spares.buffers i within) (given i within)

held_still :
    (cat : Catalog) (side : ℕ) (before now : Device) (half : Half) (pool later : Pool) (leases : List ℕ)
    → Spares cat side before now pool later leases → AreHeld cat half pool leases → AreHeld cat half later leases
held_still cat side before now half pool later leases spares held = λ i within.
    subst (λ (page : Option ℕ). IfSome page (Uses cat half)) (sym (spares.buffers i within).filled) (held i within)

pub blank_still :
    (cat : Catalog) (side : ℕ) (before now : Device) (pool later : Pool) (leases : List ℕ) (start : ℕ)
    → Spares cat side before now pool later leases → AreBlankOrRead start before.calls pool leases → AreBlankOrRead start now.calls later leases
blank_still cat side before now pool later leases start spares (inl blank) = inl (λ i within. (spares.buffers i within).filled ∙ blank i within)
blank_still cat side before now pool later leases start spares (inr rose) = inr (rose_on start before.calls now.calls rose spares.device.never_falls)
  where
    rose_on : (a b c : ℕ) → Rose a b → b ≤ c → Rose a c
    rose_on a b c rose up = omega (arith, rose, up)

pub lent_still :
    BuffersStayFilled → sparing.BuffersStayGiven → (told : Bool) (cat : Catalog) (side : ℕ) (before now : Device) (half : Half) (pool later : Pool) (leases : List ℕ)
    → AreInHalf cat side half → Spares cat side before now pool later leases
    → AreLent told cat half before pool leases → AreLent told cat half now later leases
lent_still fill give told cat side before now half pool later leases lies spares lent = record {
  usable = record {
    some = lent.usable.some;
    out = outs_kept leases spares.out lent.usable.out;
    readable = λ i within.
        fill told cat side before now half pool later (get_or leases i 0) (half_spared spares) lies spares.out (spares.buffers i within) (lent.held i within) (lent.usable.readable i within);
  };
  since = lent.since;
  early = omega (arith, lent.early, spares.device.never_falls);
  given = given_still give cat side before now pool later leases lent.since spares lent.given;
  most = omega (arith, lent.most, spares.out.size);
  held = held_still cat side before now half pool later leases spares lent.held;
}

-- ---- jobs

-- the candidates are gone through as before
walking_still :
    SparedRepliesStay → BuffersStayFilled → sparing.BuffersStayGiven → MergeStaysReady → (cat : Catalog) (asked : Query) (side : ℕ) (told : Bool) (before now : Device) (pool later : Pool) (half : Half)
    (plan : RowPlan) (rows given : ℕ) (leases : List ℕ) (merge : Merge) (scan : Scan) (work : RowWork) → AreInHalf cat side half
    → Spares cat side before now pool later (leases ++ leases_of merge.cursors.items)
    → IsWalking cat asked side told before pool half plan rows given leases merge scan work → IsWalking cat asked side told now later half plan rows given leases merge scan work
walking_still stay fill give merges cat asked side told before now pool later half plan rows given leases merge scan work lies spares is = record {
  tree = is.tree;
  rows_are = is.rows_are;
  some = is.some;
  next = is.next;
  fewer = is.fewer;
  last = is.last;
  work_is = work_at_still stay cat asked side before now half plan rows scan.next (work_in scan work) (half_spared spares) is.work_is;
  merge_is = merges _ _ told before now pool later merge (spares_second leases (leases_of merge.cursors.items) spares) is.outside is.merge_is;
  outside = is.outside;
  at_most = is.at_most;
  lent = lent_still fill give told cat side before now half pool later leases lies (spares_first leases (leases_of merge.cursors.items) spares) is.lent;
  out = outs_kept (leases ++ leases_of merge.cursors.items) spares.out is.out;
  most = omega (arith, is.most, spares.out.size);
}

-- what a linking keeps, where others spare it
pub record LinkingIsSpared (linking : LinkingModel) : Type 0 where
  pub ready : (told : Bool) (before now : Device) (pool later : Pool) (cat : Catalog) (asked : Query) (crosses : Bool) (top side : ℕ) (half : Half)
      → SparesLinking cat side before now pool later linking → IsLinking told before pool cat asked crosses top side half linking
      → IsLinking told now later cat asked crosses top side half linking
  pub has : (told : Bool) (before now : Device) (pool later : Pool) (cat : Catalog) (asked : Query) (crosses : Bool) (top side : ℕ) (half : Half)
      → SparesLinking cat side before now pool later linking → IsLinking told before pool cat asked crosses top side half linking
      → (database : Database) (given : List Reply) → LinkingHas told before.page pool cat asked crosses database given top half linking
      → LinkingHas told now.page later cat asked crosses database given top half linking
  pub left : (before now : Device) (pool later : Pool) (cat : Catalog) (side : ℕ) → SparesLinking cat side before now pool later linking
      → linking_left later linking ≡ linking_left pool linking
  pub given : (told : Bool) (before now : Device) (pool later : Pool) (cat : Catalog) (asked : Query) (crosses : Bool) (top side : ℕ) (half : Half)
      → SparesLinking cat side before now pool later linking → IsLinking told before pool cat asked crosses top side half linking
      → (since : Since) (size : ℕ) → LinkingGiven since size half before pool linking → LinkingGiven since size half now later linking
  pub costs : (told : Bool) (before now : Device) (pool later : Pool) (cat : Catalog) (asked : Query) (crosses : Bool) (top side : ℕ) (half : Half)
      → SparesLinking cat side before now pool later linking → IsLinking told before pool cat asked crosses top side half linking
      → (database : Database) (given : List Reply) (cost : ℕ) → LinkingCosts told before.page pool cat asked database given top half linking cost
      → LinkingCosts told now.page later cat asked database given top half linking cost

abbrev pub SparedIn : Phase → Type 0
SparedIn Begun = ⊤
SparedIn (Scanning leases scan) = ⊤
SparedIn (Linking linking) = LinkingIsSpared linking
SparedIn (Walking leases merge scan) = ⊤
SparedIn Over = ⊤

link_still :
    (cat : Catalog) (asked : Query) (crosses : Bool) (side : ℕ) (told : Bool) (before now : Device) (pool later : Pool) (half : Half)
    (plan : RowPlan) (rows left given spent : ℕ) (linking : LinkingModel) → LinkingIsSpared linking
    → Spares cat side before now pool later (links.leases_in linking)
    → IsLinkingFor cat asked crosses side told before pool half plan rows left given spent linking → IsLinkingFor cat asked crosses side told now later half plan rows left given spent linking
link_still cat asked crosses side told before now pool later half plan rows left given spent linking law spares is =
    let same : linking_left later linking ≡ linking_left pool linking = law.left before now pool later cat side (spares_all spares) in
    record {
      none = is.none;
      is = law.ready told before now pool later cat asked crosses plan.top side half (spares_all spares) is.is;
      rows_are = is.rows_are;
      counted = record { enough = omega (arith, is.counted.enough, same); most = is.counted.most };
    }

pub phase_still :
    SparedRepliesStay → BuffersStayFilled → sparing.BuffersStayGiven → MergeStaysReady → UnreadStays → (by : Plan) (cat : Catalog) (asked : Query) (side : ℕ) (told : Bool) (before now : Device) (pool later : Pool) (half : Half)
    (plan : RowPlan) (rows left given spent : ℕ) (work : RowWork) (phase : Phase) → SparedIn phase
    → AreInHalf cat side half → Spares cat side before now pool later (leases_in phase)
    → IsAtPhase by cat asked side told before pool half plan rows left given spent work phase → IsAtPhase by cat asked side told now later half plan rows left given spent work phase
phase_still stay fill give merges unread by cat asked side told before now pool later half plan rows left given spent work Begun law lies spares at = at
phase_still stay fill give merges unread by cat asked side told before now pool later half plan rows left given spent work (Scanning leases scan) law lies spares at = (
  at.0,
  (
    scanning_still stay cat asked side before now half plan rows given spent scan work (half_spared spares) at.1.0,
    lent_still fill give told cat side before now half pool later leases.items lies spares at.1.1,
  ),
)
phase_still stay fill give merges unread by cat asked side told before now pool later half plan rows left given spent work (Linking linking) law lies spares at =
    (at.0, link_still cat asked (crosses_by by) side told before now pool later half plan rows left given spent linking law spares at.1)
phase_still stay fill give merges unread by cat asked side told before now pool later half plan rows left given spent work (Walking leases merge scan) law lies spares at =
    let same : unread_in later merge.cursors.items ≡ unread_in pool merge.cursors.items =
    unread _ _ before now pool later merge.cursors.items (spares_second leases.items (leases_of merge.cursors.items) spares) in (
      at.0,
      (
        walking_still stay fill give merges cat asked side told before now pool later half plan rows given leases.items merge scan work lies spares at.1.0,
        record { enough = omega (arith, at.1.1.enough, same); most = at.1.1.most },
      ),
    )
phase_still stay fill give merges unread by cat asked side told before now pool later half plan rows left given spent work Over law lies spares at = at

-- what its buffers hold was read since
pub phase_given_still :
    sparing.BuffersStayGiven → CursorsStayGiven → (by : Plan) (cat : Catalog) (asked : Query) (side : ℕ) (told : Bool) (before now : Device) (pool later : Pool) (half : Half)
    (plan : RowPlan) (rows left given spent : ℕ) (work : RowWork) (since : Since) (size : ℕ) (phase : Phase) → SparedIn phase
    → Spares cat side before now pool later (leases_in phase) → IsAtPhase by cat asked side told before pool half plan rows left given spent work phase
    → PhaseGiven since size half before pool phase → PhaseGiven since size half now later phase
phase_given_still give cursors by cat asked side told before now pool later half plan rows left count spent work since size Begun law spares at given = tt
phase_given_still give cursors by cat asked side told before now pool later half plan rows left count spent work since size (Scanning leases scan) law spares at given =
    given_still give cat side before now pool later leases.items since.calls spares given
phase_given_still give cursors by cat asked side told before now pool later half plan rows left count spent work since size (Linking linking) law spares at given =
    law.given told before now pool later cat asked (crosses_by by) plan.top side half (spares_all spares) at.1.is since size given
phase_given_still give cursors by cat asked side told before now pool later half plan rows left count spent work since size (Walking leases merge scan) law spares at given = (
  given_still give cat side before now pool later leases.items since.calls (spares_first leases.items (leases_of merge.cursors.items) spares) given.0,
  cursors _ _ told since before now pool later merge.cursors.items (spares_second leases.items (leases_of merge.cursors.items) spares) at.1.0.outside at.1.0.merge_is.cursors given.1,
)
phase_given_still give cursors by cat asked side told before now pool later half plan rows left count spent work since size Over law spares at given = tt

-- ---- what a job stands for

work_stands_still :
    WorkStillStands → (cat : Catalog) (asked : Query) (side : ℕ) (before now : Device) (half : Half) (plan : RowPlan) (rows next : ℕ) (work : Option RowWork)
    (database : Database) (given : List Reply) → SparesHalf cat side before now → AreInHalf cat side half → IsWorkAt cat asked before half plan rows next work
    → WorkStands cat asked database given before.page half plan next work → WorkStands cat asked database given now.page half plan next work
work_stands_still stay cat asked side before now half plan rows next None database given spares lies is stands = tt
work_stands_still stay cat asked side before now half plan rows next (Some work) database given spares lies is stands =
    stay cat asked side before now half given database next plan work spares lies is.working stands

-- the static pages are as they were
static_kept : {cat : Catalog} {side : ℕ} {before now : Device} → SparesHalf cat side before now → KeepsStatic cat before.page now.page
static_kept spares number low = (spares.static number low).bytes

-- a merge has the rows that it had
abbrev pub walks_still :
    CursorsStayRight → DamageStays → (bad : KnowledgeStays) → (cat : Catalog) (asked : Query) (crosses : Bool) (side : ℕ) (told : Bool) (before now : Device) (pool : Pool) (database : Database) (given : List Reply)
    (top : ℕ) (merge : Merge) → IsTree cat.schema → KeepsStatic cat before.page now.page
    → ChangesOnly (half_begin cat (1 - side)) (half_end cat (1 - side)) before now → AllOutside (half_begin cat (1 - side)) (half_end cat (1 - side)) merge.cursors.items
    → AllReady told before pool merge.cursors.items
    → Walks before.page cat asked crosses database given top merge → Walks now.page cat asked crosses database given top merge
walks_still right damage bad cat asked crosses side told before now pool database given top merge tree keeps changes outside ready walks = record {
  whole = walks.whole;
  lists = right _ _ told before now pool walks.whole merge.cursors.items changes outside ready walks.lists;
  met = walks.met;
  kept = walks.kept;
  bad = λ number slot found damaged.
      bad.bad before.page now.page cat asked crosses top database tree keeps number slot found
      (walks.bad number slot found (damage _ _ before now merge.cursors.items changes outside number slot found damaged));
}

pub stands_still :
    WorkStillStands → CursorsStayRight → DamageStays → KnowledgeStays → (by : Plan) (cat : Catalog) (asked : Query) (side : ℕ) (told : Bool) (before now : Device) (pool later : Pool) (half : Half) (plan : RowPlan) (rows left count spent : ℕ)
    (work : RowWork) (phase : Phase) (database : Database) (given : List Reply) → SparedIn phase → Spares cat side before now pool later (leases_in phase) → AreInHalf cat side half
    → IsAtPhase by cat asked side told before pool half plan rows left count spent work phase
    → PhaseStands cat asked (crosses_by by) database given told before.page pool half plan work phase → PhaseStands cat asked (crosses_by by) database given told now.page later half plan work phase
stands_still stay right damage bad by cat asked side told before now pool later half plan rows left count spent work Begun database given law spares lies at stands = tt
stands_still stay right damage bad by cat asked side told before now pool later half plan rows left count spent work (Scanning leases scan) database given law spares lies at stands =
    work_stands_still stay cat asked side before now half plan rows scan.next (work_in scan work) database given (half_spared spares) lies at.1.0.work_is stands
stands_still stay right damage bad by cat asked side told before now pool later half plan rows left count spent work (Linking linking) database given law spares lies at stands =
    law.has told before now pool later cat asked (crosses_by by) plan.top side half (spares_all spares) at.1.is database given stands
stands_still stay right damage bad by cat asked side told before now pool later half plan rows left count spent work (Walking leases merge scan) database given law spares lies at stands = (
  work_stands_still stay cat asked side before now half plan rows scan.next (work_in scan work) database given (half_spared spares) lies at.1.0.work_is stands.0,
  walks_still right damage bad cat asked (crosses_by by) side told before now pool database given plan.top merge at.1.0.tree (static_kept (half_spared spares)) spares.device at.1.0.outside at.1.0.merge_is.cursors stands.1,
)
stands_still stay right damage bad by cat asked side told before now pool later half plan rows left count spent work Over database given law spares lies at stands = tt

-- ---- what is known

pub knowledge_still :
    PagesStayKnownBut → SparedRowsStay → (by : Plan) (told : Bool) (cat : Catalog) (side : ℕ) (before now : Device) (asked : Query) (database : Database) (half : Half) (given : List Reply)
    → SparesHalf cat side before now → AreInHalf cat side half → KnowsAll by told before.page cat asked database half given
    → KnowsAll by told now.page cat asked database half given
knowledge_still pages stay by told cat side before now asked database half given spares lies knows = record {
  pages = pages by told before.page now.page cat database knows.tree (static_kept spares) knows.pages;
  tree = knows.tree;
  text = knows.text;
  meant = knows.meant;
  replies = λ table reply about.
      let has = knows.replies table reply about in
      record {
        ask_is = has.ask_is;
        rows = has.rows;
        holds = stay cat side before now (reply_of half table) has.rows spares (lies table (asked_low cat.schema asked given knows.tree knows.of_asked table reply about)) has.holds;
        kinds_are = has.kinds_are;
        are = has.are;
      };
  of_asked = knows.of_asked;
  all_asked = knows.all_asked;
  of_rows = knows.of_rows;
}

-- the same where the lists of all replies are united
united_still :
    CursorsStayRight → DamageStays → (bad : KnowledgeStays) → (cat : Catalog) (asked : Query) (crosses : Bool) (side : ℕ) (told : Bool) (before now : Device) (pool : Pool) (database : Database) (given : List Reply)
    (top : ℕ) (merge : Merge) → IsTree cat.schema → KeepsStatic cat before.page now.page
    → ChangesOnly (half_begin cat (1 - side)) (half_end cat (1 - side)) before now → AllOutside (half_begin cat (1 - side)) (half_end cat (1 - side)) merge.cursors.items
    → AllReady told before pool merge.cursors.items
    → WalksUnited before.page cat asked crosses database given top merge → WalksUnited now.page cat asked crosses database given top merge
united_still right damage bad cat asked crosses side told before now pool database given top merge tree keeps changes outside ready united = record {
  walks = walks_still right damage bad cat asked crosses side told before now pool database given top merge tree keeps changes outside ready united.walks;
  exact = united.exact;
}

-- it costs as much as before
pub costs_still :
    CursorsStayRight → DamageStays → KnowledgeStays → UnreadStays → (by : Plan) (cat : Catalog) (asked : Query) (side : ℕ) (told : Bool) (before now : Device) (pool later : Pool) (half : Half) (plan : RowPlan) (rows left count spent : ℕ)
    (work : RowWork) (phase : Phase) (database : Database) (given : List Reply) (cost : ℕ) → SparedIn phase → Spares cat side before now pool later (leases_in phase)
    → IsAtPhase by cat asked side told before pool half plan rows left count spent work phase
    → PhaseCosts cat asked database given told before.page pool half plan rows work phase cost → PhaseCosts cat asked database given told now.page later half plan rows work phase cost
costs_still right damage bad unread by cat asked side told before now pool later half plan rows left count spent work Begun database given cost law spares at costs = costs
costs_still right damage bad unread by cat asked side told before now pool later half plan rows left count spent work (Scanning leases scan) database given cost law spares at costs = costs
costs_still right damage bad unread by cat asked side told before now pool later half plan rows left count spent work (Linking linking) database given cost law spares at costs = record {
  link = costs.link;
  costs = law.costs told before now pool later cat asked (crosses_by by) plan.top side half (spares_all spares) at.1.is database given costs.link costs.costs;
  enough = costs.enough;
}
costs_still right damage bad unread by cat asked side told before now pool later half plan rows left count spent work (Walking leases merge scan) database given cost law spares at costs =
    let same : unread_in later merge.cursors.items ≡ unread_in pool merge.cursors.items =
    unread _ _ before now pool later merge.cursors.items (spares_second leases.items (leases_of merge.cursors.items) spares) in
    record {
      crosses = costs.crosses;
      walks = united_still right damage bad cat asked costs.crosses side told before now pool database given plan.top merge at.1.0.tree (static_kept (half_spared spares)) spares.device at.1.0.outside at.1.0.merge_is.cursors costs.walks;
      enough = (let enough = costs.enough in omega (arith, enough, same));
    }
costs_still right damage bad unread by cat asked side told before now pool later half plan rows left count spent work Over database given cost law spares at costs = tt
