-- How many pages a look-up has read so far, and the row at the place that it gives.
use Rattle.std.proofs.Common.{ℕ, ◌+◌, ◌≤◌, ◌⊎◌, inl, inr, Bool, true, false, ◌≡◌, ◌∙◌, ap, sym, subst, refl, List, Option, arith}
use Rattle.ghost_model.specs.core.Asks.{RowCells, row_in}
use Rattle.ghost_base.specs.Runs.{run_of}
use Rattle.ghost_model.specs.core.Causes.{Rose}
use Rattle.edge_traits.specs.Devices.{Device, next_if}
use Rattle.page_pool.specs.Pools.{Pool, page_at}
use Rattle.flash_pages.specs.Reads.{ReadsPages, WasRead}
use Rattle.visible_spool.specs.declared.reply.Reply.{Reply}
use Rattle.visible_spool.specs.declared.search.Search.{Search}
use Rattle.visible_spool.specs.declared.search.Search.TheVariants.{New}
use Rattle.visible_spool.proofs.Frames.{quiet}
use Rattle.visible_spool.specs.Replies.{IsRowOf, StandsIn}
use Rattle.visible_spool.specs.Searches.{CallsLeft, IsAt, IsOutside, LiesHere, calls_if, row_at}

-- so many were read, and with those that are left they are no more than k + 3
pub record HasFound (told : Bool) (before now : Device) (pool later : Pool) (lease k : ℕ) (search : Search) : Type 0 where
  pub made : ℕ
  pub rest : ℕ
  pub reads : ReadsPages told before now pool later lease made quiet
  pub calls_left : CallsLeft k search rest
  pub enough : made + rest ≤ k + 3

-- some were read
pub record HasRead (told : Bool) (before now : Device) (pool later : Pool) (lease : ℕ) : Type 0 where
  pub made : ℕ
  pub reads : ReadsPages told before now pool later lease made quiet

-- a call that is made is one of those that are left
pub call_left : (calls : Bool) (left : ℕ) → (calls ≡ true → 1 ≤ left) → calls_if calls ≤ left
call_left true left some = some refl
call_left false left some = omega arith

pub one_call : (calls : Bool) → calls_if calls ≤ 1
one_call true = omega arith
one_call false = omega arith

-- the row at the place that a look-up gives
pub row_of_place : (reply : Reply) (rows : List (List ℕ)) (identifier : ℕ) (bytes page row : List ℕ) (place : ℕ) (given : RowCells) {at : ℕ} → IsAt reply rows identifier bytes place
    → given ≡ row_in row → row ≡ row_at reply page at → at ≡ place → page ≡ bytes → IsRowOf rows identifier given
row_of_place reply rows identifier bytes page row place given found is here there same = record {
  place = place;
  within = found.within;
  number = found.number;
  is = is ∙ ap row_in (here ∙ (ap (row_at reply page) there ∙ (ap (λ (b : List ℕ). row_at reply b place) same ∙ found.row_is)));
}

pub place_stands : (since : ℕ) (device : Device) (reply : Reply) (identifier : ℕ) (held : Option ℕ) (bytes page row : List ℕ) (place : ℕ) (given : RowCells) {at : ℕ}
    → LiesHere reply identifier held bytes place → WasRead since device (run_of reply.run) place (row_at reply bytes place)
    → given ≡ row_in row → row ≡ row_at reply page at → at ≡ place → page ≡ bytes → StandsIn since device reply identifier given
place_stands since device reply identifier held bytes page row place given lies read is here there same = record {
  place = place;
  within = lies.within;
  bytes = row_at reply bytes place;
  read = read;
  row_is = is ∙ ap row_in (here ∙ (ap (row_at reply page) there ∙ ap (λ (b : List ℕ). row_at reply b place) same));
  number = lies.number;
  may = lies.may;
}

-- a look-up has made no step, or it has made a call
abbrev pub HasBegun : (before now : Device) (pool later : Pool) (lease : ℕ) (search : Search) → Type 0
HasBegun before now pool later lease search =
    ((search ≡ New) × (now ≡ before) × (page_at later lease ≡ page_at pool lease)) ⊎ Rose before.calls now.calls

rose_by : (before now : ℕ) (made : Bool) → now ≡ next_if made before → made ≡ true → Rose before now
rose_by before now true is it = omega (arith, is)
rose_by before now false is it = absurd (cc (it))

rose_on : (first before now : ℕ) → Rose first before → before ≤ now → Rose first now
rose_on first before now rose up = omega (arith, rose, up)

-- so a step that makes one where nothing was looked at leaves it with one
pub begun_by : (told : Bool) (before here now : Device) (pool later : Pool) (lease identifier : ℕ) (reply : Reply) (sought : Search) (made : Bool)
    → HasBegun before here pool later lease sought → here.calls ≤ now.calls → now.calls ≡ next_if made here.calls
    → (told ≡ true → sought ≡ New → IsOutside here.page reply (page_at later lease) identifier → made ≡ true)
    → told ≡ true → IsOutside before.page reply (page_at pool lease) identifier → Rose before.calls now.calls
begun_by told before here now pool later lease identifier reply sought made (inl (fresh, same, held)) up calls reads it out =
    let outside : IsOutside here.page reply (page_at later lease) identifier =
    subst (λ (d : Device). IsOutside d.page reply (page_at later lease) identifier) (sym same) (subst (λ (o : Option ℕ). IsOutside before.page reply o identifier) (sym held) out) in
    subst (λ (d : Device). Rose d.calls now.calls) same (rose_by here.calls now.calls made calls (reads it fresh outside))
begun_by told before here now pool later lease identifier reply sought made (inr rose) up calls reads it out = rose_on before.calls here.calls now.calls rose up

pub begun_on : (before here now : Device) (pool later : Pool) (lease : ℕ) (sought : Search) (made : Bool)
    → HasBegun before here pool later lease sought → here.calls ≤ now.calls → now.calls ≡ next_if made here.calls → made ≡ true → Rose before.calls now.calls
begun_on before here now pool later lease sought made (inl (fresh, same, held)) up calls it =
    subst (λ (d : Device). Rose d.calls now.calls) same (rose_by here.calls now.calls made calls it)
begun_on before here now pool later lease sought made (inr rose) up calls it = rose_on before.calls here.calls now.calls rose up
