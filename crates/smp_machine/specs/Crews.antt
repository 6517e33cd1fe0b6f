-- What CPUs have done, each on a thread of its own.
use Rattle.std.specs.Prelude.{◌≡◌, ◌⊎◌, ℕ, None, List}
use Rattle.smp_queue.specs.Laws.{CallsAreShown}
use Rattle.smp_queue.specs.declared.handler.Heard.{Heard}
use Rattle.smp_multi.specs.Laws.{StopsAreShown}
use Rattle.smp_multi.specs.declared.func.Called.{Called}
use Rattle.smp_machine.specs.Members.{AreFor}
use Rattle.smp_machine.specs.Own.{own_of}
use Rattle.smp_machine.specs.MachineCpu.{MachineValue, MachineCpuValue, IsAt, fresh_place}
use Rattle.smp_machine.specs.Seats.{SeatValue}
use Rattle.smp_machine.specs.Works.{Works}
use Rattle.smp_machine.specs.declared.crew.Played.{Played}

-- words of both tables show what it knows, and keep all laws
pub record BothAreShown (p : MachineCpuValue) : Type 0 where
  pub calls : CallsAreShown p.calls
  pub stops : StopsAreShown p.stops

-- what a CPU has come back with, at its machine
abbrev pub seat_of : {H F A : Type 0} → MachineValue → Played H F A → SeatValue H F
seat_of m p = record { machine = m; cpu = p.cpu; handler = p.handler; functions = p.functions }

-- since its part it has polled, and no work is in hand; or it is as it was, where it may leave
abbrev pub HasEnded : {H F : Type 0} → Type 0 → SeatValue H F → SeatValue H F → Type 0
HasEnded MayLeave played ended = (ended.cpu.stops.inside ≡ None) ⊎ (MayLeave × (ended ≡ played))

-- the CPU of this number, of this machine, is back: it has done nothing before its part, has then played that, and has then polled
pub record IsPlayed {H F A : Type 0} (hears : H → Heard → H → Type 0) (runs : F → Called → F → Type 0) (begins : ℕ → H → F → Type 0)
    (plays : SeatValue H F → SeatValue H F → Type 0) (leaves : ℕ → Type 0) (m : MachineValue) (number : ℕ) (p : Played H F A) : Type 0 where
  pub at : IsAt m p.cpu
  pub number_is : p.cpu.calls.number ≡ number
  pub shown : BothAreShown p.cpu
  pub handler : H
  pub functions : F
  pub made : begins number handler functions
  pub played : SeatValue H F
  pub part : plays (record { machine = m; cpu = fresh_place m number; handler = handler; functions = functions }) played
  pub polled : Works hears runs played.cpu played.handler played.functions p.cpu p.handler p.functions (own_of played.cpu)
  pub ended : HasEnded (leaves number) played (seat_of m p)

-- the CPUs of these numbers are back, in this order, each once, and no others
abbrev pub ArePlayed : {H F A : Type 0} → (H → Heard → H → Type 0) → (F → Called → F → Type 0) → (ℕ → H → F → Type 0)
    → (SeatValue H F → SeatValue H F → Type 0) → (ℕ → Type 0) → MachineValue → List ℕ → List (Played H F A) → Type 0
ArePlayed hears runs begins plays leaves m numbers back = AreFor (λ n p. IsPlayed hears runs begins plays leaves m n p) numbers back
