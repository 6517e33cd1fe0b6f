-- The state of the model.
use Rattle.std.specs.Prelude.{◌≡◌, ℕ, Bool, true, false, not, ◌&&◌, nat_lt, if◌then◌else◌, List, length, slice_index_or, slice_set, Option, Result, Ok, Err}
use Rattle.smp_labels.specs.declared.words.LabelWords.{LabelWords}
use Rattle.trace_model.specs.declared.call.Place.{Place}
use Rattle.trace_model.specs.declared.call.Place.TheVariants.{Free, Queue, Batch, Run}
use Rattle.trace_model.specs.declared.reason.Reason.{Reason}
use Rattle.trace_model.specs.declared.reason.Reason.TheVariants as reason
use Rattle.trace_model.specs.declared.stop.Stop.{Stop}
use Rattle.trace_model.specs.declared.without.Setting.{Setting}
use Rattle.trace_model.specs.Cpu.{CpuState, fresh_cpu, slipped_from_batch, slipped_from_queue}
use Rattle.trace_model.specs.Stop.{closed}

-- what the trace is of, its CPUs, where each record is, who holds the gate, the stops, and the keys and sites
pub record StateValue : Type 0 where
  pub setting : Setting
  pub cpus : List CpuState
  pub places : List Place
  pub gate : Option ℕ
  pub stops : List Stop
  pub words : LabelWords

-- there are 512 CPUs, 65,536 records and 64 stops
pub record IsState (cpus : List CpuState) (places : List Place) (stops : List Stop) : Type 0 where
  pub cpus_are : length cpus ≡ 512
  pub places_are : length places ≡ 65536
  pub stops_are : length stops ≡ 64

-- a CPU, a stop and a record's place
abbrev pub cpu_at : StateValue → ℕ → CpuState
cpu_at s cpu = slice_index_or s.cpus cpu fresh_cpu

abbrev pub stop_at : StateValue → ℕ → Stop
stop_at s number = slice_index_or s.stops number (closed 0)

abbrev pub place_at : StateValue → ℕ → Place
place_at s id = slice_index_or s.places id Free

-- the same with another one
abbrev pub with_cpu : ℕ → StateValue → CpuState → StateValue
with_cpu cpu s c = record s { cpus = slice_set s.cpus cpu c }

abbrev pub with_stop : ℕ → StateValue → Stop → StateValue
with_stop number s stop = record s { stops = slice_set s.stops number stop }

abbrev pub with_place : ℕ → Place → StateValue → StateValue
with_place id place s = record s { places = slice_set s.places id place }

-- where a record is, which should be elsewhere
abbrev pub place_reason : ℕ → Place → Reason
place_reason id Free = reason.RecordFree id
place_reason id (Queue cpu) = reason.RecordQueued id cpu
place_reason id (Batch cpu) = reason.RecordInBatch id cpu
place_reason id (Run cpu) = reason.RecordRuns id cpu

-- an unlock that is left out has unlocked a record, or not
abbrev pub slip_in : ℕ → StateValue → Bool × CpuState → Bool × StateValue
slip_in cpu s (slipped, c) = (slipped, with_cpu cpu s c)

abbrev pub slipped_at : Bool → ℕ → Place → StateValue → Bool × StateValue
slipped_at true id (Queue cpu) s = if nat_lt cpu 512 then slip_in cpu s (slipped_from_queue id (cpu_at s cpu)) else (false, s)
slipped_at false id (Batch cpu) s = if nat_lt cpu 512 then slip_in cpu s (slipped_from_batch id (cpu_at s cpu)) else (false, s)
slipped_at _ id _ s = (false, s)

abbrev pub slipped : ℕ → Place → StateValue → Bool × StateValue
slipped id place s = if s.setting.without.unlocks then slipped_at s.setting.without.order id place s else (false, s)

abbrev pub freed_by : ℕ → Place → Bool × StateValue → Result StateValue Reason
freed_by id place (true, s) = Ok (with_place id Free s)
freed_by id place (false, s) = Err (place_reason id place)

-- the record is free, or an unlock that is left out has unlocked it
abbrev pub freed_from : ℕ → Place → StateValue → Result StateValue Reason
freed_from id Free s = Ok s
freed_from id place s = freed_by id place (slipped id place s)

abbrev pub freed : ℕ → StateValue → Result StateValue Reason
freed id s = freed_from id (place_at s id) s
