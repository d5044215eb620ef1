-- The courses of a call of the host's program.
use Rattle.std.proofs.Common.{◌≡◌, ◌⊎◌, ℕ, Bool, true, false, List, [], ◌∷◌, Option, None, Some, inl, inr, refl, sym, ◌∙◌, ap, subst}
use Rattle.std.specs.List.{list_any}
use Rattle.ghost_model.specs.core.Causes.{Rose}
use Rattle.ghost_model.specs.laws.CatalogLaws.{CatalogsHaveOneSpelling}
use Rattle.ghost_model.specs.core.Channel.{Catalog, Journal, Answer, Made, Port, Piece, End, Failed}
use Rattle.ghost_model.specs.core.Host.{Holding, host_of, bad_request}
use Rattle.ghost_model.specs.core.Moves.{answers, taken}
use Rattle.ghost_model.specs.core.NextMove.{is_stop}
use Rattle.edge_traits.specs.Counting.{is_failure, WentCounting}
use Rattle.ghost_model.specs.core.Split.{Public, SpellsImage, cells_of_tables}
use Rattle.edge_traits.specs.Files.{Files, file_of}
use Rattle.edge_traits.specs.Written.{grown}
use Rattle.host_exec.specs.Checked.{IsImage}
use Rattle.host_exec.specs.Holdings.{HoldsFile, AreStarts, ImagesAreHeld}
use Rattle.host_exec.specs.Hosts.{name_of}
use Rattle.host_exec.specs.Sessions.{Serves, closed, has_stopped, bad_of, HoldsIn}
use Rattle.host_exec.specs.Sessions as sessions
use Rattle.host_exec.specs.declared.host.Host.{Host}
use Rattle.host_exec.specs.declared.session.Served.{Served}
use Rattle.host_exec.specs.declared.session.Served.TheVariants as served
use Rattle.host_commands.specs.Hosting.{Course, Unopened, Unheard, Unprinted, Uncalled, Accepted, moves_of, port_line, Hosts, Ends, EndsEarly, EndsSession, HoldsImage, Completes, is_end, BlamesLink}
use Rattle.host_commands.specs.Words.{Names}
use Rattle.host_commands.specs.Statuses.{after_session, is_early, not_read, not_begun}
use Rattle.host_commands.specs.declared.words.WordsFault.{WordsFault}
use Rattle.host_commands.specs.declared.words.WordsFault.TheVariants as words
use Rattle.host_exec.specs.declared.serving.BeginFault.{BeginFault}
use Rattle.host_exec.specs.declared.serving.BeginFault.TheVariants as begin
use Rattle.host_commands.specs.declared.status.HostStatus.{HostStatus}
use Rattle.host_commands.specs.declared.status.HostStatus.TheVariants as status

-- a session that was served by some moves
served_by : (Goes : Journal → Type 0) (ended : Served) (before now : ℕ) (Stood : Holding → Type 0) (so : Serves Goes closed ended before now Stood)
    → Serves (λ (journal : Journal). journal ≡ so.journal) closed ended before now Stood
served_by Goes ended before now Stood so = record {
  journal = so.journal;
  front = so.front;
  closes = so.closes;
  went = refl;
  ends = so.ends;
  farewell = so.farewell;
  named = so.named;
  refused = so.refused;
  refusals = so.refusals;
  none = so.none;
  refusing = so.refusing;
  said = so.said;
}

-- a key was served
pub accepted : (Went Goes : Journal → Type 0) (at : List ℕ) (port : ℕ) (ended : Served) (answer : HostStatus) (printed prints : Option (List ℕ)) (before now : ℕ) (Stood : Holding → Type 0)
    → Serves Goes closed ended before now Stood → ((session : Journal) → Goes session → Went (moves_of at (Accepted port session)))
    → prints ≡ grown printed (port_line port) → answer ≡ after_session ended → Hosts Went at answer printed prints before now Stood
accepted Went Goes at port ended answer printed prints before now Stood so goes told is = record {
  course = Accepted port so.journal;
  went = goes so.journal so.went;
  tells = told;
  ends = record { served = ended; serves = served_by Goes ended before now Stood so; answers = is };
}

-- what else stood of what is held
served_as : (Goes : Journal → Type 0) (ended : Served) (before now : ℕ) (Stood Holder : Holding → Type 0) → Serves Goes closed ended before now Stood
    → ((held : Holding) → Holder held → Stood held) → Serves Goes closed ended before now Holder
served_as Goes ended before now Stood Holder so stands = record {
  journal = so.journal;
  front = so.front;
  closes = so.closes;
  went = so.went;
  ends = so.ends;
  farewell = so.farewell;
  named = so.named;
  refused = so.refused;
  refusals = so.refusals;
  none = so.none;
  refusing = λ held holds. so.refusing held (stands held holds);
  said = λ calm held holds. so.said calm held (stands held holds);
}

ends_as : (course : Course) (ended : HostStatus) (before now : ℕ) (Stood Holder : Holding → Type 0) → Ends course ended before now Stood
    → ((held : Holding) → Holder held → Stood held) → Ends course ended before now Holder
ends_as Unopened ended before now Stood Holder ends stands = ends
ends_as Unheard ended before now Stood Holder ends stands = ends
ends_as (Unprinted port) ended before now Stood Holder ends stands = ends
ends_as (Uncalled port) ended before now Stood Holder ends stands = ends
ends_as (Accepted port session) ended before now Stood Holder ends stands = record {
  served = ends.served;
  serves = served_as (λ (journal : Journal). journal ≡ session) ends.served before now Stood Holder ends.serves stands;
  answers = ends.answers;
}

pub hosts_as : (Went : Journal → Type 0) (at : List ℕ) (ended : HostStatus) (printed prints : Option (List ℕ)) (before now : ℕ) (Stood Holder : Holding → Type 0)
    → Hosts Went at ended printed prints before now Stood → ((held : Holding) → Holder held → Stood held) → Hosts Went at ended printed prints before now Holder
hosts_as Went at ended printed prints before now Stood Holder so stands = record {
  course = so.course;
  went = so.went;
  tells = so.tells;
  ends = ends_as so.course ended before now Stood Holder so.ends stands;
}

-- ---- whom a course blames

-- an answer that stops a session is a failure or the end of the stream
stopped_by : (given : List Answer) → list_any is_stop given ≡ true → (list_any is_failure given ≡ true) ⊎ (list_any is_end given ≡ true)
stopped_by [] e = cc
stopped_by (Made ∷ given) e = stopped_by given e
stopped_by (Port port ∷ given) e = stopped_by given e
stopped_by (Piece bytes ∷ given) e = stopped_by given e
stopped_by (End ∷ given) e = inr refl
stopped_by (Failed ∷ given) e = inl refl

going_on : (given : List Answer) → list_any is_stop given ≡ false → (list_any is_failure given ≡ false) × (list_any is_end given ≡ false)
going_on [] e = (refl, refl)
going_on (Made ∷ given) e = going_on given e
going_on (Port port ∷ given) e = going_on given e
going_on (Piece bytes ∷ given) e = going_on given e
going_on (End ∷ given) e = cc
going_on (Failed ∷ given) e = cc

-- the status is that of the link exactly where a move failed or the stream ended
abbrev IsOfStop : HostStatus → Bool → Type 0
IsOfStop ended stopped = (ended ≡ status.Link → stopped ≡ true) × ((ended ≡ status.Link → ⊥) → stopped ≡ false)

stop_of_session : (served_so : Served) (stopped : Bool) (before now : ℕ) → sessions.Ends served_so stopped before now → IsOfStop (after_session served_so) stopped
stop_of_session served.Bye stopped before now ends = (λ e. cc, λ _. ends.0)
stop_of_session served.Depot stopped before now ends = (λ e. cc, λ _. ends.0)
stop_of_session served.Link stopped before now ends = (λ _. ends, λ other. absurd (other refl))
stop_of_session (served.BadRequest kind at) stopped before now ends = (λ e. cc, λ _. ends)

never_early : (ended : HostStatus) (before now : ℕ) → EndsEarly ended before now → ended ≡ status.Link → ⊥
never_early status.Ok before now ends is = ends
never_early status.Usage before now ends is = cc
never_early status.NoMemory before now ends is = cc
never_early status.Sink before now ends is = ends
never_early status.Depot before now ends is = cc
never_early status.Link before now ends is = ends
never_early status.BadVisibleFile before now ends is = cc
never_early (status.BadRequest kind at) before now ends is = ends

stop_of : (course : Course) (at : List ℕ) (ended : HostStatus) (before now : ℕ) (Stood : Holding → Type 0) → Ends course ended before now Stood
    → IsOfStop ended (has_stopped (moves_of at course))
stop_of Unopened at ended before now Stood ends = (λ e. absurd (never_early ended before now ends e), λ _. refl)
stop_of Unheard at ended before now Stood ends = (λ _. refl, λ other. absurd (other ends.0))
stop_of (Unprinted port) at ended before now Stood ends = (λ e. (let bad : status.Sink ≡ status.Link = sym ends.0 ∙ e in cc), λ _. refl)
stop_of (Uncalled port) at ended before now Stood ends = (λ _. refl, λ other. absurd (other ends.0))
stop_of (Accepted port session) at ended before now Stood ends =
    let so = ends.serves in
    subst (λ (a : HostStatus). IsOfStop a (has_stopped session)) (sym ends.answers)
    (subst (λ (j : Journal). IsOfStop (after_session ends.served) (has_stopped j)) so.went (stop_of_session ends.served (has_stopped so.journal) before now so.ends))

pub blames : (Went : Journal → Type 0) (at : List ℕ) (ended : HostStatus) (printed prints : Option (List ℕ)) (before now : ℕ) (Stood : Holding → Type 0) (faults_before faults_now : ℕ)
    → Hosts (λ journal. WentCounting Went faults_before faults_now journal) at ended printed prints before now Stood → BlamesLink Went ended faults_before faults_now
blames Went at ended printed prints before now Stood faults_before faults_now so =
    let stop = stop_of so.course at ended before now Stood so.ends in
    let journal : Journal = moves_of at so.course in
    record {
      journal = journal;
      went = so.went.gone;
      blamed = λ is.
          elim (stopped_by (answers (moves_of at so.course)) (stop.0 is)) [
            | inl failed ↦ inl (so.went.counts.rose failed)
            | inr end ↦ inr end
          ];
      spared = λ other. (let none = going_on (answers (moves_of at so.course)) (stop.1 other) in (so.went.counts.same none.0, none.1));
    }

-- no move was made, and the status is another
pub blames_nothing : (Went : Journal → Type 0) (ended : HostStatus) (count : ℕ) → Went [] → (ended ≡ status.Link → ⊥) → BlamesLink Went ended count count
blames_nothing Went ended count stays other = record { journal = []; went = stays; blamed = λ is. absurd (other is); spared = λ _. (refl, refl) }

pub not_read_so : (fault : WordsFault) → not_read fault ≡ status.Link → ⊥
not_read_so words.NoMemory is = cc
not_read_so words.Usage is = cc

pub not_begun_so : (fault : BeginFault) → not_begun fault ≡ status.Link → ⊥
not_begun_so begin.Depot is = cc
not_begun_so begin.BadVisibleFile is = cc
not_begun_so begin.NoMemory is = cc

-- without the count
pub completes_plain : (Went : Journal → Type 0) (faults_before faults_now : ℕ) (held : Holding) (ended : HostStatus)
    → Completes (λ journal. WentCounting Went faults_before faults_now journal) held ended → Completes Went held ended
completes_plain Went faults_before faults_now held ended so = record { journal = so.journal; went = so.went.gone; well = so.well }

-- ---- where all was well

well_early : (ended : HostStatus) (before now : ℕ) → EndsEarly ended before now → is_early ended ≡ false → (Rose before now → ⊥)
    → (ended ≡ status.Ok) ⊎ (ended ≡ status.NoMemory)
well_early status.Ok before now ends late calm = absurd ends
well_early status.Usage before now ends late calm = cc
well_early status.NoMemory before now ends late calm = inr refl
well_early status.Sink before now ends late calm = absurd ends
well_early status.Depot before now ends late calm = absurd (calm ends)
well_early status.Link before now ends late calm = absurd ends
well_early status.BadVisibleFile before now ends late calm = cc
well_early (status.BadRequest kind at) before now ends late calm = absurd ends

well_served : (ended : Served) (answer : HostStatus) (stopped : Bool) (before now : ℕ) → sessions.Ends ended stopped before now → answer ≡ after_session ended
    → (Rose before now → ⊥) → stopped ≡ false → None ≡ bad_of ended → (answer ≡ status.Ok) ⊎ (answer ≡ status.NoMemory)
well_served served.Bye answer stopped before now ends is calm going none = inl is
well_served served.Depot answer stopped before now ends is calm going none = absurd (calm ends.1)
well_served served.Link answer stopped before now ends is calm going none = cc
well_served (served.BadRequest kind at) answer stopped before now ends is calm going none = cc

well_session : (session : Journal) (ended : HostStatus) (before now : ℕ) (Stood : Holding → Type 0) (held : Holding) → EndsSession session ended before now Stood
    → (Rose before now → ⊥) → Stood held → has_stopped session ≡ false → bad_request held (taken session) ≡ None
    → (ended ≡ status.Ok) ⊎ (ended ≡ status.NoMemory)
well_session session ended before now Stood held ends calm stood going none =
    let so = ends.serves in
    let goes : has_stopped so.journal ≡ false = ap has_stopped so.went ∙ going in
    let no_bad : bad_request held (taken so.journal) ≡ None = ap (λ (j : Journal). bad_request held (taken j)) so.went ∙ none in
    well_served ends.served ended (has_stopped so.journal) before now so.ends ends.answers calm goes
    (sym no_bad ∙ (so.said calm held stood).bad goes)

well : (course : Course) (at : List ℕ) (ended : HostStatus) (before now : ℕ) (Stood : Holding → Type 0) (held : Holding) → Ends course ended before now Stood
    → is_early ended ≡ false → (Rose before now → ⊥) → (ended ≡ status.Sink → ⊥) → Stood held
    → has_stopped (moves_of at course) ≡ false → bad_request held (taken (moves_of at course)) ≡ None → (ended ≡ status.Ok) ⊎ (ended ≡ status.NoMemory)
well Unopened at ended before now Stood held ends late calm printed stood going none = well_early ended before now ends late calm
well Unheard at ended before now Stood held ends late calm printed stood going none = cc
well (Unprinted port) at ended before now Stood held ends late calm printed stood going none = absurd (printed ends.0)
well (Uncalled port) at ended before now Stood held ends late calm printed stood going none = cc
well (Accepted port session) at ended before now Stood held ends late calm printed stood going none =
    well_session session ended before now Stood held ends calm stood going none

pub completes : (Went : Journal → Type 0) (at : List ℕ) (ended : HostStatus) (printed prints : Option (List ℕ)) (before now : ℕ) (Stood : Holding → Type 0) (held : Holding)
    → Hosts Went at ended printed prints before now Stood → is_early ended ≡ false → (Rose before now → ⊥) → (ended ≡ status.Sink → ⊥) → Stood held
    → Completes Went held ended
completes Went at ended printed prints before now Stood held so late calm no_sink stood = record {
  journal = moves_of at so.course;
  went = so.went;
  well = λ going none. well so.course at ended before now Stood held so.ends late calm no_sink stood going none;
}

-- ---- what a begun host holds

one_image : CatalogsHaveOneSpelling → {cat other : _} {public shown : _} (file : List ℕ) → SpellsImage cat public file → SpellsImage other shown file → cat ≡ other
one_image laws {cat} {other} {public} {shown} file first second =
    (laws.one_beginning file cat other
    (record { proper = first.catalog; rest = cells_of_tables cat.schema public.visible; begins = first.spelled })
    (record { proper = second.catalog; rest = cells_of_tables other.schema shown.visible; begins = second.spelled })).0

-- a host that was begun over a file holds what the public part holds whose visible image the file is
pub image_held : CatalogsHaveOneSpelling → ImagesAreHeld → (host : Host) (found kept : (file : List ℕ) → Type 0) (held : Holding)
    → AreStarts host.catalog host.starts.items → ((file : List ℕ) → found file → IsImage host.catalog file) → ((file : List ℕ) → found file → kept file)
    → HoldsImage found held → HoldsIn kept held host
image_held laws images host found kept held starts image keeps so =
    let mine = image so.file so.is in
    let same : so.catalog ≡ host.catalog = one_image laws so.file so.spells mine.spells in
    let here : HoldsFile (host_of so.catalog so.public) so.catalog host.starts.items so.file =
    images so.catalog so.public so.file host.starts.items so.spells (subst (λ c. AreStarts c host.starts.items) (sym same) starts) in
    record {
      file = so.file;
      is = keeps so.file so.is;
      holds = subst (λ (h : Holding). HoldsFile h host.catalog host.starts.items so.file) (sym so.holds)
          (subst (λ c. HoldsFile (host_of so.catalog so.public) c host.starts.items so.file) same here);
    }

-- ---- a host that was begun over the file that the words name

abbrev pub InFile : Option Files → (name : List ℕ) → (file : List ℕ) → Type 0
InFile contents name file = file_of contents name ≡ Some file

keeps_file : (old new : Option Files) (name mine file : List ℕ) → new ≡ old → mine ≡ name → InFile old name file → InFile new mine file
keeps_file old new name mine file same named is = subst (λ (c : Option Files). InFile c mine file) (sym same) (subst (λ (n : List ℕ). InFile old n file) (sym named) is)

pub over_file : (Went : Journal → Type 0) (ended : HostStatus) (printed prints : Option (List ℕ)) (before between now : ℕ) (host : Host) (said : Names) (old new : Option Files)
    → CatalogsHaveOneSpelling → ImagesAreHeld → new ≡ old → name_of host ≡ said.visible → AreStarts host.catalog host.starts.items
    → ((file : List ℕ) → InFile old said.visible file → IsImage host.catalog file) → between ≡ before
    → Hosts Went said.at ended printed prints between now (λ held. HoldsIn (InFile new (name_of host)) held host)
    → Hosts Went said.at ended printed prints before now (HoldsImage (InFile old said.visible))
over_file Went ended printed prints before between now host said old new laws images same named starts image calm so =
    subst (λ (n : ℕ). Hosts Went said.at ended printed prints n now (HoldsImage (InFile old said.visible))) calm
    (hosts_as Went said.at ended printed prints between now (λ held. HoldsIn (InFile new (name_of host)) held host) (HoldsImage (InFile old said.visible)) so
    (λ held holds. image_held laws images host (InFile old said.visible) (InFile new (name_of host)) held starts image
    (λ file is. keeps_file old new said.visible (name_of host) file same named is) holds))

-- the words say one thing
pub one_reading : {read : Option Names} (said names : Names) → read ≡ Some said → read ≡ Some names → said ≡ names
one_reading said names first second = cc

pub for_names : {read : Option Names} (Went : Journal → Type 0) (ended : HostStatus) (printed prints : Option (List ℕ)) (before now : ℕ) (contents : Option Files) (said names : Names)
    → read ≡ Some said → read ≡ Some names → Hosts Went said.at ended printed prints before now (HoldsImage (InFile contents said.visible))
    → Hosts Went names.at ended printed prints before now (HoldsImage (InFile contents names.visible))
for_names Went ended printed prints before now contents said names first second so =
    subst (λ (one : Names). Hosts Went one.at ended printed prints before now (HoldsImage (InFile contents one.visible))) (one_reading said names first second) so

pub image_well : (Went : Journal → Type 0) (at : List ℕ) (ended : HostStatus) (printed prints : Option (List ℕ)) (before now : ℕ) (contents : Option Files) (name file : List ℕ)
    (catalog : Catalog) (public : Public) → Hosts Went at ended printed prints before now (HoldsImage (InFile contents name))
    → InFile contents name file → SpellsImage catalog public file → is_early ended ≡ false → (Rose before now → ⊥) → (ended ≡ status.Sink → ⊥)
    → Completes Went (host_of catalog public) ended
image_well Went at ended printed prints before now contents name file catalog public so is spells late calm no_sink =
    completes Went at ended printed prints before now (HoldsImage (InFile contents name)) (host_of catalog public) so late calm no_sink
    (record { file = file; is = is; catalog = catalog; public = public; spells = spells; holds = refl })
