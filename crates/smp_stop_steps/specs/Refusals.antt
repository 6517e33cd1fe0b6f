-- What a command of the stop half is refused for, said of the state of the stops.
use Rattle.std.specs.Prelude.{◌≡◌, ◌≢◌, ◌⊎◌, ℕ, ◌<◌, true, Option, Some, None, length}
use Rattle.smp_words.specs.Commands.{Refuses}
use Rattle.smp_stop_steps.specs.{Members.BeginRefuses, Names.SmpError, Names.Command, Names.One, State.Setup, Stop.acked, Value.StopShown, Value.setup_of}
use Rattle.smp_stop_steps.specs.{Names.cpus, Start.stop_refusal, State.StopState, Value.StopsValue, Value.stop_control_of}
use Rattle.smp_stop_steps.specs.Names.{EXIT}

-- the CPU is in a stop of several CPUs, and has not acknowledged EXIT there
pub record MayAdvance (p : StopState) (me : ℕ) : Type 0 where
  pub slot : ℕ
  pub inside : p.now.inside me ≡ Some slot
  pub several : (p.now.stop slot).work.kind ≢ One
  pub has_not_left : acked ((p.now.stop slot).standing me) ≢ EXIT

-- it is in a stop of one CPU
pub record MayRun (p : StopState) (me : ℕ) : Type 0 where
  pub slot : ℕ
  pub inside : p.now.inside me ≡ Some slot
  pub one : (p.now.stop slot).work.kind ≡ One

-- it has acknowledged EXIT in a stop of several CPUs, and is in it still
pub record MayFinish (p : StopState) (me : ℕ) : Type 0 where
  pub slot : ℕ
  pub inside : p.now.inside me ≡ Some slot
  pub several : (p.now.stop slot).work.kind ≢ One
  pub has_left : acked ((p.now.stop slot).standing me) ≡ EXIT

-- it is in no stop, and the slot is one of the first eight or that of a CPU
pub record MayEnter (nr : ℕ) (p : StopState) (me slot : ℕ) : Type 0 where
  pub outside : p.now.inside me ≡ None
  pub small : slot < cpus
  pub named : (slot < 8) ⊎ (slot < nr)

-- the refusal of a command by a CPU that is outside a command; none of a command of the other half, but of a handle while
-- interrupts are off
abbrev pub IsRefusal : Setup → ℕ → StopState → ℕ → Command → Option SmpError → Type 0
IsRefusal u nr p me Command.Handle r = Refuses (p.now.irq me ≡ true) SmpError.BadArgument r
IsRefusal u nr p me Command.Ungate r = Refuses (p.gate ≡ Some me) SmpError.BadArgument r
IsRefusal u nr p me (Command.Begin work) r = BeginRefuses (p.gate ≡ Some me) u.online u.keys work (p.now.stop me).is_open r
IsRefusal u nr p me (Command.Enter slot) r = Refuses (MayEnter nr p me slot) SmpError.Stale r
IsRefusal u nr p me (Command.Advance answer) r = Refuses (MayAdvance p me) SmpError.BadArgument r
IsRefusal u nr p me (Command.RunOne answer) r = Refuses (MayRun p me) SmpError.BadArgument r
IsRefusal u nr p me Command.Finish r = Refuses (MayFinish p me) SmpError.BadArgument r
IsRefusal u nr p me Command.Poll r = Refuses ((p.now.stop me).is_open ≡ true) SmpError.BadArgument r
IsRefusal u nr p me (Command.Key k) r = Refuses ((p.now.irq me ≡ true) × (k < u.keys)) SmpError.BadArgument r
IsRefusal u nr p me (Command.Site i) r = Refuses ((p.now.irq me ≡ true) × (i < length u.entries)) SmpError.BadArgument r
IsRefusal u nr p me (Command.Nudge k up) r = Refuses ((p.now.irq me ≡ true) × (k < u.keys)) SmpError.BadArgument r
IsRefusal u nr p me _ r = r ≡ None

-- so each refusal of the half, whatever stops it shows
abbrev pub RefusesByState : StopsValue → StopState → Type 0
RefusesByState v p = (cpu : ℕ) → cpu < cpus → (stop_control_of v.controls cpu).stage ≡ None → (x : Command) →
    IsRefusal (setup_of v.online v.labels) v.nr p cpu x (stop_refusal v cpu x)

abbrev pub RefusalsAreOfTheState : Type 0
RefusalsAreOfTheState = (v : StopsValue) (p : StopState) → StopShown p v → RefusesByState v p
