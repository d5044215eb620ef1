-- A look-up in a reply, page by page: what one page tells of an identifier, and which pages are left.
use Rattle.std.specs.Prelude.{◌≡◌, ◌≢◌, ℕ, ◌+◌, ◌-◌, ◌/◌, ◌%◌, ◌*◌, ◌^◌, ◌<◌, ◌≤◌, min, max, ◌⊎◌, ⊤, Bool, true, false, nat_lt, List, [], length, get_or, Option, Some, None, Result, Ok, Err, IfSome, IfOk, IfErr, OnErr, if◌then◌else◌}
use Rattle.ghost_model.specs.forms.Runs as runs
use Rattle.ghost_model.specs.forms.Runs.{cell_in, number_in, per_page, pages_of}
use Rattle.ghost_base.specs.Runs.{run_of}
use Rattle.edge_traits.specs.Devices.{Device, next_if}
use Rattle.flash_pages.specs.Holding.{is_apart}
use Rattle.flash_pages.specs.Cursors.{IsPageOf}
use Rattle.flash_pages.specs.declared.cursor.RunCursor.{RunCursor}
use Rattle.flash_pages.specs.Reads.{WasRead}
use Rattle.flash_pages.specs.declared.fault.PageFault.{PageFault}
use Rattle.flash_pages.specs.declared.fault.PageFault.TheVariants.{Flash, Damaged}
use Rattle.visible_spool.specs.declared.judging.Verdict.{Verdict}
use Rattle.visible_spool.specs.declared.judging.Verdict.TheVariants.{Before, After, At, Nowhere, Wrong}
use Rattle.visible_spool.specs.declared.reply.Reply.{Reply}
use Rattle.visible_spool.specs.declared.search.Known.{Known}
use Rattle.visible_spool.specs.declared.search.Looking.{Looking}
use Rattle.visible_spool.specs.declared.search.Search.{Search}
use Rattle.visible_spool.specs.declared.search.Search.TheVariants.{New, Among}
use Rattle.visible_spool.specs.declared.search.Step.{Step}
use Rattle.visible_spool.specs.declared.search.Step.TheVariants.{More, Found, Beyond}
use Rattle.visible_spool.specs.declared.search.Turn.{Turn}
use Rattle.visible_spool.specs.declared.search.Turn.TheVariants.{Over, Narrowed}
use Rattle.ghost_model.specs.core.Asks.{RowCells}
use Rattle.ghost_model.specs.core.Causes.{Rose}
use Rattle.visible_spool.specs.Replies.{Blames, Finds, HasNone, HoldsRows, IsFlash, IsReadable, IsSound, id_of, may_stand}

-- how many rows a page takes, and how many pages a reply has; the page of a place, counted from the reply's first page
abbrev pub rows_in : Reply → ℕ
rows_in reply = per_page reply.run.width

abbrev pub pages_in : Reply → ℕ
pages_in reply = pages_of reply.run.count reply.run.width

abbrev pub page_of : Reply → (place : ℕ) → ℕ
page_of reply place = place / rows_in reply

-- the bytes of the row at a place, in the bytes of its page, and its identifier
abbrev pub row_at : Reply → (bytes : List ℕ) → (place : ℕ) → List ℕ
row_at reply bytes place = cell_in bytes reply.run.width (place % rows_in reply)

abbrev pub id_at : Reply → (bytes : List ℕ) → (place : ℕ) → ℕ
id_at reply bytes place = number_in (row_at reply bytes place) 0

-- the identifiers at the places from one to another ascend
abbrev pub Ascend : Reply → (bytes : List ℕ) → (first last : ℕ) → Type 0
Ascend reply bytes first last =
    (place later : ℕ) → first ≤ place → place < later → later ≤ last → id_at reply bytes place < id_at reply bytes later

-- where they do, none of them is the one
abbrev pub HasNoneAmong : Reply → (bytes : List ℕ) → (first last identifier : ℕ) → Type 0
HasNoneAmong reply bytes first last identifier =
    Ascend reply bytes first last → (place : ℕ) → first ≤ place → place ≤ last → id_at reply bytes place ≢ identifier

-- What a page's bytes tell of an identifier: it is below that of the first row, or above that of the last one, or it is that of a
-- row, or that of none; or a row may not stand where it does.
abbrev pub IsVerdict : Reply → (bytes : List ℕ) → (first last identifier : ℕ) → Verdict → Type 0
IsVerdict reply bytes first last identifier (Before low) = (low ≡ id_at reply bytes first) × (identifier < low)
IsVerdict reply bytes first last identifier (After high) = (high ≡ id_at reply bytes last) × (high < identifier)
IsVerdict reply bytes first last identifier (At place) =
    (first ≤ place) × (place ≤ last) × (id_at reply bytes place ≡ identifier) × (may_stand reply place (row_at reply bytes place) ≡ true)
IsVerdict reply bytes first last identifier Nowhere =
    (id_at reply bytes first ≤ identifier) × (identifier ≤ id_at reply bytes last) × HasNoneAmong reply bytes first last identifier
IsVerdict reply bytes first last identifier (Wrong place) =
    (first ≤ place) × (place ≤ last) × (may_stand reply place (row_at reply bytes place) ≡ false)

-- The page that is guessed for an identifier between two rows, counted from the reply's first page: identifiers are taken to lie as
-- far from each other as ranks do.
abbrev pub guessed_page : Reply → (below above : Known) → (identifier : ℕ) → ℕ
guessed_page reply below above identifier =
    let passed = (identifier - below.id) * (above.rank - below.rank) / max (above.id - below.id) 1 in
    page_of reply (min (below.rank + passed - 1) reply.run.count)

-- pages are left
abbrev pub is_open : Looking → Bool
is_open looking = nat_lt looking.low looking.high

-- a look-up is one of a reply: it has no more pages left than the reply has
abbrev pub IsSearch : Reply → Search → Type 0
IsSearch reply New = ⊤
IsSearch reply (Among looking) = looking.high ≤ pages_in reply

-- the rows of the pages that are not left have other identifiers
pub record IsSoughtAmong (reply : Reply) (rows : List (List ℕ)) (identifier : ℕ) (looking : Looking) : Type 0 where
  pub below : (place : ℕ) → place < length rows → page_of reply place < looking.low → id_of rows place < identifier
  pub above : (place : ℕ) → place < length rows → looking.high ≤ page_of reply place → identifier < id_of rows place

abbrev pub IsSought : Reply → (rows : List (List ℕ)) → (identifier : ℕ) → Search → Type 0
IsSought reply rows identifier New = ⊤
IsSought reply rows identifier (Among looking) = IsSoughtAmong reply rows identifier looking

-- how many pages are left
abbrev pub width_left : Looking → ℕ
width_left looking = looking.high - looking.low

abbrev pub left_in : Reply → Search → ℕ
left_in reply New = pages_in reply + 1
left_in reply (Among looking) = width_left looking

-- how often a page may still be guessed
abbrev pub guesses_left : Search → ℕ
guesses_left New = 3
guesses_left (Among looking) = looking.guesses

-- Calls: by proportion a page is guessed at most so often; then pages are halved.
pub record LooksLeft (looking : Looking) (left : ℕ) : Type 0 where
  pub halvings : ℕ
  pub below : width_left looking < 2 ^ halvings
  pub enough : looking.guesses + halvings ≤ left

abbrev pub CallsLeft : (k : ℕ) → Search → (left : ℕ) → Type 0
CallsLeft k New left = k + 3 ≤ left
CallsLeft k (Among looking) left = LooksLeft looking left

-- one call fewer is left
pub record IsFewerAmong (looking : Looking) (left : ℕ) : Type 0 where
  pub rest : ℕ
  pub looks_left : LooksLeft looking rest
  pub less : rest + 1 ≤ left

pub record IsFewer (k : ℕ) (search : Search) (left : ℕ) : Type 0 where
  pub rest : ℕ
  pub calls_left : CallsLeft k search rest
  pub less : rest + 1 ≤ left

abbrev pub is_more : Step → Bool
is_more More = true
is_more (Found found) = false
is_more Beyond = false

-- it says that no row has the identifier
abbrev pub IsNowhere : Step → Type 0
IsNowhere More = ⊥
IsNowhere (Found None) = ⊤
IsNowhere (Found (Some place)) = ⊥
IsNowhere Beyond = ⊤

-- a buffer has another page than it had
abbrev pub is_other : (before now : Option ℕ) → Bool
is_other before None = false
is_other before (Some page) = is_apart before page

-- whether a step made a call: the buffer has another page, or a page was read before it was said that no row has the identifier, or
-- the flash failed
abbrev pub step_calls : (before now : Option ℕ) → Result Step PageFault → Bool
step_calls before now (Ok More) = is_other before now
step_calls before now (Ok (Found found)) = is_other before now
step_calls before now (Ok Beyond) = true
step_calls before now (Err Flash) = true
step_calls before now (Err (Damaged number slot found)) = is_other before now

-- how many calls it makes
abbrev pub calls_if : (calls : Bool) → ℕ
calls_if calls = if calls then 1 else 0

-- the row at a place has the identifier, and a page's bytes have it
pub record IsAt (reply : Reply) (rows : List (List ℕ)) (identifier : ℕ) (bytes : List ℕ) (place : ℕ) : Type 0 where
  pub within : place < length rows
  pub number : id_of rows place ≡ identifier
  pub row_is : row_at reply bytes place ≡ get_or rows place []

-- the place that a look-up gives is that of the row, and no row has the identifier where it gives none
abbrev pub IsPlace : Reply → (rows : List (List ℕ)) → (identifier : ℕ) → (bytes : List ℕ) → Option ℕ → Type 0
IsPlace reply rows identifier bytes None = HasNone rows identifier
IsPlace reply rows identifier bytes (Some place) = IsAt reply rows identifier bytes place

-- Whatever the pages have: a buffer is filled from the page of the place that is given, and what it has there is a row with the
-- identifier that may stand there.
pub record LiesHere (reply : Reply) (identifier : ℕ) (held : Option ℕ) (bytes : List ℕ) (place : ℕ) : Type 0 where
  pub within : place < reply.run.count
  pub here : held ≡ Some (runs.page_of (run_of reply.run) place)
  pub size : length bytes ≡ 2048
  pub number : id_at reply bytes place ≡ identifier
  pub may : may_stand reply place (row_at reply bytes place) ≡ true

abbrev pub PlaceLies : Reply → (identifier : ℕ) → (held : Option ℕ) → (bytes : List ℕ) → Option ℕ → Type 0
PlaceLies reply identifier held bytes None = ⊤
PlaceLies reply identifier held bytes (Some place) = LiesHere reply identifier held bytes place

-- and a read gave it there
abbrev pub PlaceStands : (since : ℕ) → Device → Reply → (bytes : List ℕ) → Option ℕ → Type 0
PlaceStands since device reply bytes None = ⊤
PlaceStands since device reply bytes (Some place) = WasRead since device (run_of reply.run) place (row_at reply bytes place)

-- what a step gives, by the buffer that it leaves
abbrev pub StepFinds : Reply → (rows : List (List ℕ)) → (identifier : ℕ) → (bytes : List ℕ) → Step → Type 0
StepFinds reply rows identifier bytes More = ⊤
StepFinds reply rows identifier bytes (Found found) = IsPlace reply rows identifier bytes found
StepFinds reply rows identifier bytes Beyond = HasNone rows identifier

abbrev pub StepLies : Reply → (identifier : ℕ) → (held : Option ℕ) → (bytes : List ℕ) → Step → Type 0
StepLies reply identifier held bytes More = ⊤
StepLies reply identifier held bytes (Found found) = PlaceLies reply identifier held bytes found
StepLies reply identifier held bytes Beyond = ⊤

abbrev pub StepStands : (since : ℕ) → Device → Reply → (bytes : List ℕ) → Step → Type 0
StepStands since device reply bytes More = ⊤
StepStands since device reply bytes (Found found) = PlaceStands since device reply bytes found
StepStands since device reply bytes Beyond = ⊤

-- a buffer has the page that it had, or one of the reply
abbrev pub HoldsOwn : Reply → (before now : Option ℕ) → Type 0
HoldsOwn reply before now = IfSome now (λ number. (before ≡ Some number) ⊎ IsPageOf (run_of reply.run) number)

abbrev pub TurnFinds : Reply → (rows : List (List ℕ)) → (identifier : ℕ) → (bytes : List ℕ) → Turn → Type 0
TurnFinds reply rows identifier bytes (Over found) = IsPlace reply rows identifier bytes found
TurnFinds reply rows identifier bytes (Narrowed looking) = IsSoughtAmong reply rows identifier looking

abbrev pub TurnLies : Reply → (identifier : ℕ) → (held : Option ℕ) → (bytes : List ℕ) → Turn → Type 0
TurnLies reply identifier held bytes (Over found) = PlaceLies reply identifier held bytes found
TurnLies reply identifier held bytes (Narrowed looking) = ⊤

abbrev pub TurnStands : (since : ℕ) → Device → Reply → (bytes : List ℕ) → Turn → Type 0
TurnStands since device reply bytes (Over found) = PlaceStands since device reply bytes found
TurnStands since device reply bytes (Narrowed looking) = ⊤

-- a page among those that were left is no longer left, nor are those on one side of it
pub record IsNarrowed (before now : Looking) (page : ℕ) : Type 0 where
  pub low : before.low ≤ now.low
  pub high : now.high ≤ before.high
  pub guesses : now.guesses ≡ before.guesses
  pub side : (now.high ≤ page) ⊎ (page < now.low)

-- the page that a buffer has is none of those that are left
abbrev pub IsElsewhere : Reply → (held : Option ℕ) → Looking → Type 0
IsElsewhere reply held looking =
    IfSome held (λ number. reply.run.first + looking.low ≤ number → number < reply.run.first + looking.high → ⊥)

pub record LeavesElsewhere (reply : Reply) (held : Option ℕ) (before now : Looking) : Type 0 where
  pub low : before.low ≤ now.low
  pub high : now.high ≤ before.high
  pub guesses : now.guesses ≡ before.guesses
  pub elsewhere : IsElsewhere reply held now

abbrev pub TurnLeaves : Reply → (held : Option ℕ) → (before : Looking) → Turn → Type 0
TurnLeaves reply held before (Over found) = ⊤
TurnLeaves reply held before (Narrowed now) = LeavesElsewhere reply held before now

-- a slot that is blamed stands in the page that a buffer is filled from
abbrev pub BlamedHere : (held : Option ℕ) → PageFault → Type 0
BlamedHere held Flash = ⊤
BlamedHere held (Damaged number slot found) = held ≡ Some number

-- a fault that blames a slot
abbrev pub IsSlot : PageFault → Type 0
IsSlot Flash = ⊥
IsSlot (Damaged number slot found) = ⊤

abbrev pub TurnNarrows : (before : Looking) → (page : ℕ) → Turn → Type 0
TurnNarrows before page (Over found) = ⊤
TurnNarrows before page (Narrowed now) = IsNarrowed before now page

-- an identifier lies between those of rows of the page that a buffer has
pub record IsInHeld (reply : Reply) (rows : List (List ℕ)) (held : Option ℕ) (identifier : ℕ) : Type 0 where
  pub first : ℕ
  pub last : ℕ
  pub order : first ≤ last
  pub within : last < length rows
  pub here : held ≡ Some (reply.run.first + page_of reply first)
  pub same_page : page_of reply last ≡ page_of reply first
  pub from : id_of rows first ≤ identifier
  pub to : identifier ≤ id_of rows last

-- a reply has rows, and an identifier does not lie between those of rows of the page that a buffer has
pub record IsOutside (page : ℕ → List ℕ) (reply : Reply) (held : Option ℕ) (identifier : ℕ) : Type 0 where
  pub some : 0 < reply.run.count
  pub rows : List (List ℕ)
  pub holds : HoldsRows page reply rows
  pub beyond : IsInHeld reply rows held identifier → ⊥

-- where a look at the page that a buffer has decides, the identifier does
abbrev pub TurnIsInHeld : Reply → (rows : List (List ℕ)) → (held : Option ℕ) → (identifier : ℕ) → Turn → Type 0
TurnIsInHeld reply rows held identifier (Over found) = IsInHeld reply rows held identifier
TurnIsInHeld reply rows held identifier (Narrowed looking) = ⊤

-- What a step gives, by the bytes of the pages, whichever rows they have for the reply: the look-up stays one for the identifier,
-- what it finds is the row, and no slot is blamed. Where the identifier lies between those of rows of the page in the buffer,
-- the step decides and nothing is read; where nothing was looked at and it does not, a page is.
pub record GivesStep (before now : Device) (held later : Option ℕ) (bytes : List ℕ) (reply : Reply) (identifier : ℕ) (old new : Search) (result : Result Step PageFault) : Type 0 where
  pub sought : (rows : List (List ℕ)) → HoldsRows before.page reply rows → IsSought reply rows identifier old → IsSought reply rows identifier new
  pub finds :
      (rows : List (List ℕ)) → HoldsRows before.page reply rows → IsSought reply rows identifier old
      → IfOk result (StepFinds reply rows identifier bytes)
  pub whole : (rows : List (List ℕ)) → HoldsRows before.page reply rows → IfErr result IsFlash
  pub decided :
      (rows : List (List ℕ)) → HoldsRows before.page reply rows → IsSought reply rows identifier old → IsInHeld reply rows held identifier
      → IfOk result (λ step. is_more step ≡ false)
  pub at_hand :
      (rows : List (List ℕ)) → HoldsRows before.page reply rows → IsSought reply rows identifier old → IsInHeld reply rows held identifier
      → now ≡ before
  pub reads : old ≡ New → IsOutside before.page reply held identifier → step_calls held later result ≡ true

-- what a read from that count of calls on gave: the row that is found, or what may not stand where it does
abbrev pub StepWas : (since : ℕ) → Device → Reply → (bytes : List ℕ) → Result Step PageFault → Type 0
StepWas since device reply bytes (Ok step) = StepStands since device reply bytes step
StepWas since device reply bytes (Err fault) = Blames since device reply fault

-- Whatever the pages have: the look-up stays one of the reply, as it was after a fault and shorter where it goes on, what it finds
-- or blames stands in the buffer, which has the page that it had or one of the reply, and so many calls are left. How many
-- calls the step makes.
pub record KeepsSearch (before now : Device) (held later : Option ℕ) (bytes : List ℕ) (reply : Reply) (identifier : ℕ) (old new : Search) (result : Result Step PageFault) : Type 0 where
  pub search : IsSearch reply new
  pub failed : OnErr result (new ≡ old)
  pub shorter : IfOk result (λ step. is_more step ≡ true → left_in reply new < left_in reply old)
  pub lies : IfOk result (StepLies reply identifier later bytes)
  pub page : HoldsOwn reply held later
  pub blamed : IfErr result (BlamedHere later)
  pub fewer :
      (k left : ℕ) → reply.run.count < 2 ^ k → CallsLeft k old left
      → IfOk result (λ step. is_more step ≡ true → IsFewer k new left)
  pub some : (k left : ℕ) → reply.run.count < 2 ^ k → CallsLeft k old left → step_calls held later result ≡ true → 1 ≤ left
  pub more : IfOk result (λ step. is_more step ≡ true → step_calls held later result ≡ true)
  pub calls : now.calls ≡ next_if (step_calls held later result) before.calls
  pub readable : IsReadable now reply

-- What a whole look-up gives, by the bytes of the pages. It reads nothing where the identifier lies between those of rows of the
-- page in the buffer, and a page where it does not.
pub record GivesRow (before now : Device) (held : Option ℕ) (reply : Reply) (identifier : ℕ) (result : Result (Option RowCells) PageFault) : Type 0 where
  pub finds : (rows : List (List ℕ)) → HoldsRows before.page reply rows → Finds rows identifier result
  pub at_hand : (rows : List (List ℕ)) → HoldsRows before.page reply rows → IsInHeld reply rows held identifier → now ≡ before
  pub reads : IsOutside before.page reply held identifier → Rose before.calls now.calls

-- a cursor over the identifiers of a reply's rows, at their beginning
pub record IsCursorOf (reply : Reply) (given : ℕ) (cursor : RunCursor) : Type 0 where
  pub lease : cursor.lease ≡ given
  pub rows : cursor.rows ≡ reply.rows
  pub at : cursor.at ≡ 0
  pub last : cursor.last ≡ 0

-- a look-up has no more steps left than a table has rows, and one
abbrev pub SearchesAreShort : Type 0
SearchesAreShort = (reply : Reply) (search : Search) → IsSound reply → IsSearch reply search → left_in reply search ≤ 1000001
