-- Bytes of a file that were read, and not yet passed.
use Rattle.std.specs.Prelude.{◌≡◌, ℕ, ◌+◌, ◌<◌, Bool, true, false, List, ◌++◌, length, take, drop, Option}
use Rattle.edge_traits.specs.Files.{Files, HasFile}
use Rattle.edge_traits.specs.Written.{Begins}
use Rattle.key_audit.specs.declared.window.Window.{Window}

abbrev pub ahead : Window → List ℕ
ahead window = drop window.from (take window.to window.bytes)

-- a file begins so
pub record HasFront (contents : Option Files) (name front : List ℕ) : Type 0 where
  pub file : List ℕ
  pub is_file : HasFile contents name file
  pub begins : Begins front file

-- these bytes of a file were passed, and those behind them are ahead, as far as any was read
pub record StandsBehind (contents : Option Files) (name passed : List ℕ) (window : Window) : Type 0 where
  pub passed_is : window.passed ≡ length passed
  pub read : 0 < length passed + length (ahead window) → HasFront contents name (passed ++ ahead window)

-- a byte is ahead
pub record HasAhead (contents : Option Files) (name passed : List ℕ) (window : Window) : Type 0 where
  pub stands : StandsBehind contents name passed window
  pub some : 0 < length (ahead window)

-- whether a byte is ahead: where none is, the file ends here
abbrev pub IsAhead : Option Files → (name passed : List ℕ) → Window → Bool → Type 0
IsAhead contents name passed window true = HasAhead contents name passed window
IsAhead contents name passed window false = HasFile contents name passed

-- a front of what is ahead was put at the end of a head, which has 16,640 bytes at most
pub record PutsFront (head before head_after after : List ℕ) : Type 0 where
  pub piece : List ℕ
  pub ahead_is : before ≡ piece ++ after
  pub head_is : head_after ≡ head ++ piece
  pub some : 0 < length before → length head < 16640 → 0 < length piece

-- the first bytes of a file, as many as a catalog has at most
abbrev pub IsHeadOf : (head file : List ℕ) → Type 0
IsHeadOf head file = head ≡ take 16640 file
