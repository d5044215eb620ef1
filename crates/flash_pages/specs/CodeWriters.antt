-- A run of codes that is being written: its bytes are records of one byte each.
use Rattle.std.specs.Prelude.{◌≡◌, ℕ, ◌+◌, ◌-◌, ◌/◌, Bool, List, [], ◌∷◌, length, map, Result}
use Rattle.ghost_model.specs.forms.Runs.{Run, pages_of}
use Rattle.ghost_model.specs.forms.Gaps.{code_of, filling}
use Rattle.edge_traits.specs.Devices.{Device}
use Rattle.edge_traits.specs.declared.Failed.{Failed}
use Rattle.flash_pages.specs.declared.code_filler.CodeFiller.{CodeFiller}
use Rattle.flash_pages.specs.Filling.{CanFill}
use Rattle.flash_pages.specs.Writers.{HasWritten, Writes}

-- where a number's code comes behind so many bytes, and where it ends
abbrev pub code_begin : (end number : ℕ) → ℕ
code_begin end number = end + length (filling end (code_of number))

abbrev pub code_end : (end number : ℕ) → ℕ
code_end end number = code_begin end number + length (code_of number)

-- these bytes were put
abbrev pub HasCodes : Bool → (ℕ → List ℕ) → List ℕ → CodeFiller → (bytes : List ℕ) → Type 0
HasCodes told page buf codes bytes = HasWritten told page buf codes.filler (map (λ byte. byte ∷ []) bytes)

-- the page of the byte that comes next
abbrev pub page_next : CodeFiller → ℕ
page_next codes = codes.filler.first + codes.filler.count / 2048

-- the pages from there on are blank, up to that of the last byte before an end
abbrev pub CanPut : Device → CodeFiller → (end : ℕ) → Type 0
CanPut device codes end = CanFill device (page_next codes) (pages_of end 1 - codes.filler.count / 2048)

-- those from there on, so many of the file in all, are written, each by one call
abbrev pub WritesUpTo : {T : Type 0} → (before now : Device) → CodeFiller → (pages : ℕ) → Result T Failed → Type 0
WritesUpTo before now codes pages result =
    Writes before now (page_next codes) (codes.filler.first + pages) (pages - codes.filler.count / 2048) result

-- a run of single bytes from the same page on
pub record IsFileOf (codes : CodeFiller) (run : Run) : Type 0 where
  pub first : run.first ≡ codes.filler.first
  pub width : run.width ≡ 1
