-- What marks tell up to one.
use Rattle.std.specs.Prelude.{ℕ, List, [], ◌∷◌, ◌++◌, Option}
use Rattle.trace_model.specs.declared.event.Event.{Event}
use Rattle.trace_ftrace.specs.declared.kept.Stamp.{Stamp}
use Rattle.trace_ftrace.specs.declared.stops.OpenStop.{OpenStop}
use Rattle.trace_ftrace.specs.declared.told.Told.{Told}

-- the addresses of records by their numbers, the events, the record whose call each CPU runs, how many CPUs there are, the stops
-- that are open, and the numbers of the rendezvous and of the stop of one CPU in which each CPU is
pub record TellingValue : Type 0 where
  pub addresses : List ℕ
  pub told : List Told
  pub running : List (Option ℕ)
  pub cpus : ℕ
  pub stops : List OpenStop
  pub inside : List (Option ℕ)
  pub alone : List (Option ℕ)

-- with an event of the CPU of a line, told by that line
abbrev pub with_event : Stamp → Event → TellingValue → TellingValue
with_event at e t = record t { told = t.told ++ record { line = at.line; cpu = at.cpu; time = at.time; event = e } ∷ [] }
