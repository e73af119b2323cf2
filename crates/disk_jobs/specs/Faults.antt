-- The kinds of faults, and the exit status of each.
use Rattle.std.specs.Prelude.{ℕ, Bool, true, false, Result, Err, ⊤}
use Rattle.disk_jobs.specs.declared.fault.ServiceFault.{ServiceFault}
use Rattle.disk_jobs.specs.declared.fault.ServiceFault.TheVariants as faults

-- 2 if the input is at fault, else 3
abbrev pub status_of : ServiceFault → ℕ
status_of faults.Memory = 3
status_of (faults.BadLine i) = 2
status_of faults.NoHeader = 2
status_of faults.Spawn = 3
status_of faults.Torn = 3
status_of faults.ReadFault = 3
status_of faults.WriteFault = 3

-- a read failed
abbrev pub is_read_fault : {X : Type 0} → Result X ServiceFault → Bool
is_read_fault (Err faults.ReadFault) = true
is_read_fault _ = false

-- a write failed
abbrev pub is_write_fault : {X : Type 0} → Result X ServiceFault → Bool
is_write_fault (Err faults.WriteFault) = true
is_write_fault _ = false

-- the faults that the service itself may report
abbrev pub IsOfService : ServiceFault → Type 0
IsOfService faults.Memory = ⊤
IsOfService faults.Spawn = ⊤
IsOfService faults.Torn = ⊤
IsOfService (faults.BadLine i) = ⊥
IsOfService faults.NoHeader = ⊥
IsOfService faults.ReadFault = ⊥
IsOfService faults.WriteFault = ⊥

-- the faults that reading a job file may report
abbrev pub IsOfReading : ServiceFault → Type 0
IsOfReading faults.Memory = ⊤
IsOfReading faults.Spawn = ⊥
IsOfReading faults.Torn = ⊥
IsOfReading (faults.BadLine i) = ⊤
IsOfReading faults.NoHeader = ⊤
IsOfReading faults.ReadFault = ⊤
IsOfReading faults.WriteFault = ⊥
