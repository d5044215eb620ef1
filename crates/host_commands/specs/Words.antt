-- What the words of the host's program say: the file that it serves, and the address where it listens.
use Rattle.std.specs.Prelude.{ℕ, List, Option, Some, None, codes, option_and_then, if◌then◌else◌}
use Rattle.clap.specs.Words.{Row, Text, matches_of, first_of}
use Rattle.clap.specs.Walk.{is_empty}
use Rattle.clap.specs.Faults.{fault_of}
use Rattle.host_commands.specs.HostApp.{host_app}
use Rattle.host_commands.specs.declared.words.HostWords.{HostWords}

pub record Names : Type 0 where
  pub visible : List ℕ
  pub at : List ℕ

-- what `clap` reads; none where it refuses the words
abbrev pub found : List Text → Option (List Row)
found words = if is_empty (fault_of host_app words) then Some (matches_of host_app words) else None

abbrev pub needs : List Row → Text → (List ℕ → Option Names) → Option Names
needs rows name next = option_and_then next (first_of name rows)

abbrev pub names_in : List Row → Option Names
names_in rows =
    needs rows (codes "visible") (λ visible. needs rows (codes "at") (λ at. Some (record { visible = visible; at = at })))

-- what the words say, none where they are refused
abbrev pub reading : List Text → Option Names
reading words = option_and_then names_in (found words)

-- what the read words stand for
abbrev pub names_of : HostWords → Names
names_of words = record { visible = words.visible.now; at = words.at.now }
