-- Why a text that was accepted has no whole answer.
use Rattle.std.specs.Prelude.{ℕ, List, codes}
use Rattle.ghost_model.specs.core.Printed.{word_line}
use Rattle.key_lines.specs.declared.printer.Fault.{Fault}
use Rattle.key_lines.specs.declared.printer.Fault.TheVariants as fault

abbrev pub fault_word : Fault → List ℕ
fault_word fault.Link = codes "link"
fault_word fault.Protocol = codes "protocol"
fault_word fault.Host = codes "host"
fault_word fault.Flash = codes "flash"
fault_word fault.Damaged = codes "damaged"

abbrev pub fault_line : (number : ℕ) → Fault → List ℕ
fault_line number fault = word_line number (fault_word fault)
