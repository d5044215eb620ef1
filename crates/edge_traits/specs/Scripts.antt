-- The script of an object in memory names the calls that are to fail, by their numbers from 1.
use Rattle.std.specs.Prelude.{◌≡◌, ℕ, List, [], Option, is_some, true, Contains}
use Rattle.edge_traits.specs.Files.{Files, file_of}
use Rattle.edge_traits.specs.declared.script.Script.{Script}

-- the script names the call of that number
abbrev pub IsNamed : List ℕ → ℕ → Type 0
IsNamed fails call = Contains fails call

-- the script of an object that was not called yet
pub record IsFresh (named : List ℕ) (script : Script) : Type 0 where
  pub numbers : script.fails.items ≡ named
  pub no_call : script.calls ≡ 0
  pub no_fault : script.faults ≡ 0

-- no call is to fail, and the files that are told have one of that name
pub record IsSure (script : Script) (files : Option Files) (name : List ℕ) : Type 0 where
  pub none_fails : script.fails.items ≡ []
  pub there : is_some (file_of files name) ≡ true
