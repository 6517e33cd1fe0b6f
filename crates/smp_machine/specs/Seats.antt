-- A CPU with its machine, its handler and its stop function: what its calls leave, over the value before and the value after.
use Rattle.std.specs.Prelude.{◌≡◌, ℕ, ℤ, Bool, Result, List}
use Rattle.smp_mask.specs.declared.error.SmpError.{SmpError}
use Rattle.smp_queue.specs.declared.handler.Heard.{Heard}
use Rattle.smp_multi.specs.Names.{OwnMove, Work}
use Rattle.smp_multi.specs.declared.func.Called.{Called}
use Rattle.smp_machine.specs.Counts.{CountsOr}
use Rattle.smp_machine.specs.Keys.{Sets}
use Rattle.smp_machine.specs.Own.{Own}
use Rattle.smp_machine.specs.MachineCpu.{MachineValue, MachineCpuValue}
use Rattle.smp_machine.specs.Polls.{Polls}
use Rattle.smp_machine.specs.Stops.{HasStopped}
use Rattle.smp_machine.specs.Works.{Works}

-- a seat: its machine, its CPU, and the values of its handler and of its stop function
pub record SeatValue (H F : Type 0) : Type 0 where
  pub machine : MachineValue
  pub cpu : MachineCpuValue
  pub handler : H
  pub functions : F

-- it has handled interrupts and taken part in stops, and of what only its own stop calls change this is left
abbrev pub SeatWorks : {H F : Type 0} → (H → Heard → H → Type 0) → (F → Called → F → Type 0) → SeatValue H F → SeatValue H F → Own → Type 0
SeatWorks hears runs old new own = Works hears runs old.cpu old.handler old.functions new.cpu new.handler new.functions own

-- it has made one poll
abbrev pub SeatPolls : {H F : Type 0} → (H → Heard → H → Type 0) → (F → Called → F → Type 0) → SeatValue H F → SeatValue H F → Type 0
SeatPolls hears runs old new = Polls hears runs old.machine old.cpu old.handler old.functions new.cpu new.handler new.functions

-- it has made a stop of this work, with this answer, and with these moves of its own at the gate and at its stop
abbrev pub SeatStopped : {H F : Type 0} → (H → Heard → H → Type 0) → (F → Called → F → Type 0) → (Work → ℕ → List OwnMove) → Work
    → SeatValue H F → SeatValue H F → ℤ → Type 0
SeatStopped hears runs moves work old new answer =
    HasStopped hears runs moves work old.cpu old.handler old.functions new.cpu new.handler new.functions answer

-- it has turned a key on or off, or has found that it is so already
abbrev pub SeatSets : {H F : Type 0} → (H → Heard → H → Type 0) → (F → Called → F → Type 0) → ℕ → Bool → SeatValue H F → SeatValue H F → Bool → Type 0
SeatSets hears runs k on old new turned =
    Sets hears runs old.machine.stops k on old.cpu old.handler old.functions new.cpu new.handler new.functions turned

-- it has counted a key by one, or was refused
abbrev pub SeatCounts : {H F : Type 0} → (H → Heard → H → Type 0) → (F → Called → F → Type 0) → ℕ → Bool → SeatValue H F → SeatValue H F
    → Result Bool SmpError → Type 0
SeatCounts hears runs k up old new result =
    CountsOr hears runs old.machine.stops k up old.cpu old.handler old.functions new.cpu new.handler new.functions result

-- it has read a word of the label table: neither its calls nor its queues have changed, and no function has run
pub record SeatReads {H F : Type 0} (old new : SeatValue H F) : Type 0 where
  pub calls : new.cpu.calls ≡ old.cpu.calls
  pub passes : new.cpu.passes ≡ old.cpu.passes
  pub heard : new.cpu.heard_at ≡ old.cpu.heard_at
  pub handler_kept : new.handler ≡ old.handler
  pub functions_kept : new.functions ≡ old.functions
  pub machine_is : new.machine ≡ old.machine

-- it is still the seat of the same CPU, at the same machine
pub record IsSameSeat {H F : Type 0} (old new : SeatValue H F) : Type 0 where
  pub machine_is : new.machine ≡ old.machine
  pub number_is : new.cpu.calls.number ≡ old.cpu.calls.number
