-- What a seat keeps.
use Rattle.std.specs.Prelude.{◌≡◌, ℕ, Option, None, Some}
use Rattle.smp_queue.specs.Cpu.{TableValue}
use Rattle.smp_multi.specs.Cpu.{TableValue as StopTableValue, IsAt}
use Rattle.smp_tables_c.specs.SeatValue.{SeatValue}
use Rattle.smp_tables_c.specs.declared.place.CpuPlace.{CpuPlace}
use Rattle.smp_tables_c.specs.declared.place.CpuPlace.TheVariants.{Out, InCall, InStop, Moving}

-- its CPU is one of its tables
abbrev pub IsSeated : TableValue → StopTableValue → CpuPlace → Type 0
IsSeated calls stops (Out c m) = (c.table ≡ calls.table) × IsAt stops m
IsSeated calls stops (InCall s m) = (s.cpu.table ≡ calls.table) × IsAt stops m
IsSeated calls stops (InStop c a) = (c.table ≡ calls.table) × IsAt stops a.cpu
IsSeated calls stops Moving = Unit {0}

-- whether a handle is open, as a number
abbrev pub flag_of : Option SeatValue → ℕ
flag_of None = 0
flag_of (Some s) = 1
