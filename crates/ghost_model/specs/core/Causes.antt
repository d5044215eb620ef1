-- Why a call on an object of the outside may answer that it failed: each such object counts its faults. The count never
-- falls, only a call that answers so raises it, and it counts as risen where it stands at its last value.
use Rattle.std.specs.Prelude.{◌≡◌, ℕ, ◌+◌, ◌-◌, ◌^◌, ◌≤◌, min, Result, OnOk, OnErr}

-- the last value of a count of faults or of calls: it stays there
abbrev pub last_count : ℕ
last_count = 2 ^ 64 - 1

-- a count rose from `before` to `now`, or stands at its last value
abbrev pub Rose : ℕ → ℕ → Type 0
Rose before now = min (before + 1) last_count ≤ now

-- what a call whose only error is a failure does to the count of faults: it rises where the call failed, and else stays
pub record HasCause {T E : Type 0} (before now : ℕ) (result : Result T E) : Type 0 where
  pub never_falls : before ≤ now
  pub failed : OnErr result (Rose before now)
  pub other : OnOk result (now ≡ before)
