-- What a device in memory tells.
use Rattle.std.specs.Prelude.{ℕ, Bool, List, [], ◌∷◌, bytes_eq, if◌then◌else◌, Some, None, vec_len}
use Rattle.edge_traits.specs.Devices.{Device, is_made}
use Rattle.edge_traits.specs.Marks.{is_marked}
use Rattle.edge_traits.specs.Pages.{page_at}
use Rattle.edge_traits.specs.declared.mem_flash.MemFlash.{MemFlash}
use Rattle.edge_traits.specs.declared.named_pages.NamedPages.{NamedPages}

-- the device has that name
abbrev pub is_of : List ℕ → NamedPages → Bool
is_of name one = bytes_eq one.name.items name

-- the pages under a name, where some devices are put aside
unfoldable pub pages_in : List NamedPages → List ℕ → ℕ → List ℕ
pages_in [] name = page_at []
pages_in (one ∷ more) name = if bytes_eq one.name.items name then page_at one.pages.items else pages_in more name

-- the pages under a name: those of the device last made or attached, or of one put aside
abbrev pub named_pages : NamedPages → List NamedPages → List ℕ → ℕ → List ℕ
named_pages last others name = if bytes_eq last.name.items name then page_at last.pages.items else pages_in others name

abbrev pub device_of : MemFlash → Device
device_of flash = record {
  name = if flash.is_open then Some flash.last.name.items else None;
  page_count = if flash.is_open then vec_len flash.last.pages else 0;
  page = page_at flash.last.pages.items;
  others = if flash.is_open then pages_in flash.others.items else named_pages flash.last flash.others.items;
  blank = is_marked flash.last.marks.items;
  calls = flash.script.calls;
  deep_reads = flash.deep_reads;
  faults = flash.script.faults;
  since_fault = flash.since_fault;
  gave = λ at page bytes. is_made flash.script.calls at;
}
