-- How the program of the host ends, and its exit code.
use Rattle.std.specs.Prelude.{ℕ, Bool, true, false}
use Rattle.host_exec.specs.declared.serving.BeginFault.{BeginFault}
use Rattle.host_exec.specs.declared.serving.BeginFault.TheVariants as begin
use Rattle.host_exec.specs.declared.session.Served.{Served}
use Rattle.host_exec.specs.declared.session.Served.TheVariants as served
use Rattle.host_commands.specs.declared.words.WordsFault.{WordsFault}
use Rattle.host_commands.specs.declared.words.WordsFault.TheVariants as words
use Rattle.host_commands.specs.declared.status.HostStatus.{HostStatus}
use Rattle.host_commands.specs.declared.status.HostStatus.TheVariants as status

abbrev pub exit_code : HostStatus → ℕ
exit_code status.Ok = 0
exit_code status.Usage = 2
exit_code status.NoMemory = 3
exit_code status.Sink = 9
exit_code status.Depot = 5
exit_code status.Link = 7
exit_code status.BadVisibleFile = 14
exit_code (status.BadRequest kind at) = 15

-- the status of a host whose words were not read
abbrev pub not_read : WordsFault → HostStatus
not_read words.NoMemory = status.NoMemory
not_read words.Usage = status.Usage

-- the status of a host that was not begun
abbrev pub not_begun : BeginFault → HostStatus
not_begun begin.Depot = status.Depot
not_begun begin.BadVisibleFile = status.BadVisibleFile
not_begun begin.NoMemory = status.NoMemory

-- the status of a host whose session ended
abbrev pub after_session : Served → HostStatus
after_session served.Bye = status.Ok
after_session served.Depot = status.Depot
after_session served.Link = status.Link
after_session (served.BadRequest kind at) = status.BadRequest kind at

-- whether a status comes only before the host listens
abbrev pub is_early : HostStatus → Bool
is_early status.Usage = true
is_early status.NoMemory = true
is_early status.BadVisibleFile = true
is_early _ = false

-- whether a status tells that the depot failed, or stands before one that would
abbrev pub may_follow_fault : HostStatus → Bool
may_follow_fault status.Depot = true
may_follow_fault status.Link = true
may_follow_fault (status.BadRequest kind at) = true
may_follow_fault _ = false
