-- What a session is opened over: a script, a catalog whose pages the flash has, and page buffers.
use Rattle.std.specs.Prelude.{◌≡◌, ℕ, ◌≤◌, Bool, true, List, length, Option, Some}
use Rattle.ghost_model.specs.core.Texts.{most_texts, texts_of}
use Rattle.ghost_model.specs.forms.Catalog.{current_version}
use Rattle.edge_traits.specs.Devices.{Device}
use Rattle.edge_traits.specs.Files.{Files}
use Rattle.key_words.specs.Words.{Query}
use Rattle.key_inputs.specs.Openings.{Spelled}
use Rattle.key_inputs.specs.Scripts.{script_opening}
use Rattle.page_pool.specs.Pools.{IsIdle}
use Rattle.flash_layout.specs.Ranges.{Suffices}
use Rattle.key_commands.specs.query.PublicPages.{HasCatalog}
use Rattle.key_commands.specs.declared.query.opening.Opened.{Opened}

-- these are the bytes of the script's file, which keeps every rule
pub record IsScript (contents : Option Files) (name script : List ℕ) : Type 0 where
  pub spelled : (files : Files) → contents ≡ Some files → script_opening files name ≡ Spelled script
  pub few : length (texts_of script) ≤ most_texts

pub record IsOpened (told : Bool) (words : Query) (contents : Option Files) (device : Device) (opened : Opened) : Type 0 where
  pub script : IsScript contents words.script opened.script.items
  pub name : device.name ≡ Some words.flash
  pub catalog : told ≡ true → HasCatalog device opened.cat
  pub current : opened.cat.version ≡ current_version
  pub suffices : Suffices opened.cat device
  -- so many page buffers as the words say, of which none is out
  pub buffers : length opened.pool.pages ≡ words.buffers
  pub idle : IsIdle opened.pool
