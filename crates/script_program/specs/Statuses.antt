-- The exit status of the program.
use Rattle.std.specs.Prelude.{ℕ, Result, Ok, Err}
use Rattle.hoare_script.specs.declared.fault.ScriptFault.{ScriptFault}
use Rattle.hoare_script.specs.Runs.{status_of}

-- 0, or the status of the fault
abbrev pub status_after : Result (Unit {0}) ScriptFault → ℕ
status_after (Ok u) = 0
status_after (Err f) = status_of f
