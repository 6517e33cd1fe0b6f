-- What contracts see of a seat.
use Rattle.std.specs.Prelude.{ℕ}
use Rattle.smp_queue.specs.Cpu.{TableValue}
use Rattle.smp_multi.specs.Cpu.{TableValue as StopTableValue}
use Rattle.smp_tables_c.specs.declared.place.CpuPlace.{CpuPlace}

-- its tables, where its CPU is, and the slot of the stop that the CPU has entered last
pub record SeatValue : Type 0 where
  pub calls : TableValue
  pub stops : StopTableValue
  pub place : CpuPlace
  pub slot : ℕ
