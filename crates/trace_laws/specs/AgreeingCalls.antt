-- A state of the model of events that agrees with the calls of a machine.
use Rattle.std.specs.Prelude.{◌≡◌, ◌≢◌, ℕ, ◌<◌, Bool, false, List, map, length, Option, Some, None}
use Rattle.smp_words.specs.Size.{cpus, records, owner}
use Rattle.smp_words.specs.declared.call.Call.{Call as MachineCall}
use Rattle.smp_call_steps.specs.Calls.{CallState}
use Rattle.smp_call_steps.specs.Stages.{ControlValue}
use Rattle.smp_call_steps.specs.declared.known.Running.{Running}
use Rattle.smp_call_steps.specs.declared.known.Running.TheVariants.{Nothing, SyncCall, CountedCall, AsyncCall}
use Rattle.smp_call_steps.specs.declared.place.RecPlace.{RecPlace}
use Rattle.smp_call_steps.specs.declared.place.RecPlace.TheVariants as machine
use Rattle.smp_call_steps.specs.declared.post.Posting.{Posting}
use Rattle.smp_call_steps.specs.declared.post.PostStage.{PostStage}
use Rattle.smp_call_steps.specs.declared.post.PostStage.TheVariants as post
use Rattle.smp_call_steps.specs.declared.stage.Stage.{Stage}
use Rattle.smp_call_steps.specs.declared.stage.Stage.TheVariants as stage
use Rattle.trace_model.specs.declared.call.Call.{Call}
use Rattle.trace_model.specs.declared.call.Current.{Current}
use Rattle.trace_model.specs.declared.call.Place.{Place}
use Rattle.trace_model.specs.declared.call.Place.TheVariants.{Free, Queue, Batch, Run}
use Rattle.trace_model.specs.declared.call.Progress.TheVariants.{Runs, Ended}
use Rattle.trace_model.specs.declared.without.Without.{Without}
use Rattle.trace_model.specs.Cpu.{CpuState, at_call}
use Rattle.trace_model.specs.State.{StateValue, cpu_at, place_at}
use Rattle.trace_events.specs.Past.{past_at}
use Rattle.trace_events.specs.declared.past.Past.{Past}
use Rattle.trace_events.specs.declared.past.Post.{Post}

-- a trace leaves out no group of events
abbrev pub nothing_left_out : Without
nothing_left_out = record { gate = false; interrupts = false; order = false; raises = false; switches = false; unlocks = false }

-- a call, as events tell it
abbrev pub told_call : MachineCall → Call
told_call call = record { source = owner call.id; id = call.id; class = call.class; func = call.func; info = call.info }

-- the call that a CPU runs: a SYNC call that is counted has returned, and is locked
abbrev pub current_of : Running → Option Current
current_of Nothing = None
current_of (SyncCall call) = at_call Runs (told_call call)
current_of (CountedCall call) = at_call Ended (told_call call)
current_of (AsyncCall call) = at_call Runs (told_call call)

-- where a record is: one that is held is free, since its lock is told only with the call that it joins a queue with
abbrev pub place_of : RecPlace → Place
place_of machine.Free = Free
place_of machine.Held = Free
place_of (machine.Queued cpu) = Queue cpu
place_of (machine.Batch cpu) = Batch cpu
place_of (machine.Running cpu) = Run cpu

-- the calls of one CPU: those queued for it, those that it has taken, the one that it runs, and its interrupts
pub record CallsOfCpu : Type 0 where
  pub queue : List Call
  pub batch : List Call
  pub current : Option Current
  pub pending : Bool
  pub accepted : Bool

-- in the model of events
abbrev pub calls_in : CpuState → CallsOfCpu
calls_in c = record { queue = c.queue; batch = c.batch; current = c.current; pending = c.pending; accepted = c.accepted }

-- in the machine
abbrev pub calls_of : CallState → ℕ → CallsOfCpu
calls_of a cpu = record {
  queue = map told_call (a.queue cpu);
  batch = map told_call (a.batch cpu);
  current = current_of (a.running cpu);
  pending = a.pending cpu;
  accepted = a.accepted cpu;
}

-- Nothing is left out, and each CPU and each record is as in the calls of the machine. CPUs from 32 on have none.
pub record Follows (online : ℕ) (a : CallState) (s : StateValue) : Type 0 where
  pub whole : s.setting.without ≡ nothing_left_out
  pub online_is : s.setting.online ≡ online
  pub cpus_are : length s.cpus ≡ 512
  pub places_are : length s.places ≡ 65536
  pub calls : (cpu : ℕ) → calls_in (cpu_at s cpu) ≡ calls_of a cpu
  pub places : (id : ℕ) → id < records → place_at s id ≡ place_of (a.place id)

-- what a CPU has kept of its steps is of the call that it runs
abbrev pub BegunIs : Running → Past → Type 0
BegunIs (SyncCall call) p = p.begun ≡ call.id
BegunIs (AsyncCall call) p = p.begun ≡ call.id
BegunIs _ p = Unit {0}

-- what a CPU has stored of the call that it posts, by its next step
abbrev pub PostIsAt : Posting → PostStage → Post → Type 0
PostIsAt q post.LoadFlags p = Unit {0}
PostIsAt q post.Lock p = Unit {0}
PostIsAt q post.StoreFunc p = p.class ≡ q.class
PostIsAt q post.StoreInfo p = (p.class ≡ q.class) × (p.func ≡ q.func)
PostIsAt q _ p = (p.class ≡ q.class) × ((p.func ≡ q.func) × (p.info ≡ q.info))

abbrev pub PostIs : Option Stage → Post → Type 0
PostIs (Some (stage.Post q at)) p = PostIsAt q at p
PostIs _ p = Unit {0}

-- a call goes to another CPU
abbrev pub GoesElsewhere : Option Stage → ℕ → Type 0
GoesElsewhere (Some (stage.Post q at)) me = q.to ≢ me
GoesElsewhere _ me = Unit {0}

-- What each CPU has kept of its steps fits its place in its command.
pub record KeepsPast (a : CallState) (control : ℕ → ControlValue) (pasts : List Past) : Type 0 where
  pub pasts_are : length pasts ≡ 32
  pub begun : (cpu : ℕ) → cpu < cpus → BegunIs (a.running cpu) (past_at pasts cpu)
  pub posts : (cpu : ℕ) → cpu < cpus → PostIs (control cpu).stage (past_at pasts cpu).post
