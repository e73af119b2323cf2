-- The faults of a script that is drawn, and the exit status of the program.
use Rattle.std.specs.Prelude.{ℕ, Bool, true, false, Option, Some, None, Result, Ok, Err}
use Rattle.wait_book.specs.declared.steps.MakeRefused.{MakeRefused}
use Rattle.hoare_script.specs.declared.fault.ScriptFault.{ScriptFault}
use Rattle.hoare_script.specs.declared.fault.ScriptFault.TheVariants.{NoHeader, BadHeader, BadLine, Memory}
use Rattle.hoare_script.specs.declared.lines.Command.{Command}
use Rattle.hoare_script.specs.Runs.{status_of}

-- why a monitor isn't made: its header is at fault, or an allocation failed
abbrev pub header_fault : Option MakeRefused → ScriptFault
header_fault None = Memory
header_fault (Some r) = BadHeader 1

-- why a line isn't added: it spells no command, or an allocation failed
abbrev pub line_fault : ℕ → Option Command → ScriptFault
line_fault number None = BadLine number
line_fault number (Some c) = Memory

-- a fault that only a header has
abbrev pub is_header_fault : {X : Type 0} → Result X ScriptFault → Bool
is_header_fault (Err NoHeader) = true
is_header_fault (Err (BadHeader i)) = true
is_header_fault _ = false

-- 0, or the exit status of the fault
abbrev pub status_after : Result (Unit {0}) ScriptFault → ℕ
status_after (Ok u) = 0
status_after (Err f) = status_of f
