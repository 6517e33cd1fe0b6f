-- What threads are given, and what they give back.
use Rattle.std.specs.Prelude.{◌≡◌, ℕ, true, List, length, vec_len}
use Rattle.smp_mask.specs.Mask.{has, IsLeast}
use Rattle.smp_machine.specs.MachineCpu.{MachineValue, MachineCpuValue, fresh_place}
use Rattle.smp_machine.specs.Members.{AreFor}
use Rattle.smp_machine.specs.declared.crew.Played.{Played}
use Rattle.smp_script.specs.declared.directive.Directive.{Directive}
use Rattle.smp_run.specs.Answers.{Answered}
use Rattle.smp_run.specs.Made.{HasPlayed}
use Rattle.smp_run.specs.Seats.{IsSeated, SeatIsShown, keys_at}
use Rattle.smp_run.specs.Sent.{HasCalled, HasWaited, sent_of, script_calls, script_direct}
use Rattle.smp_run.specs.declared.answer.Answer.{Answer}
use Rattle.smp_run.specs.declared.driver.DrivenSeat.{DrivenSeat}
use Rattle.smp_run.specs.declared.pace.Echo.{Echo}
use Rattle.smp_run.specs.declared.pace.Paced.{Paced}

-- a CPU of this machine, whose waited calls have ended, with room for the answer of each line
pub record IsReady {A B : Type 0} (m : MachineValue) (lines : List Directive) (s : DrivenSeat A B) : Type 0 where
  pub seated : IsSeated m s.cpu
  pub waited : HasWaited s.cpu
  pub sized : vec_len s.answers ≡ length lines

-- since then a CPU has made its own lines, with these answers: the calls and the stops that they ask for, and no others
pub record MakesLines (m : MachineValue) (lines : List Directive) (answers : List Answer) (old new : MachineCpuValue) : Type 0 where
  pub seated : IsSeated m new
  pub waited : HasWaited new
  pub number_is : new.calls.number ≡ old.calls.number
  pub answered : Answered m.calls.online (keys_at m) (λ c. c ≡ old.calls.number) lines answers
  pub sent : HasCalled (script_calls m.calls.online old.calls.number lines) (script_direct old.calls.number lines) old new
  pub played : HasPlayed m lines answers old new

-- a CPU that, since it had done nothing, has sent the calls of its own lines, of which those that wait have ended. It has made
-- as many direct calls as these lines ask for, and their stops with these answers.
pub record HasRunLines (m : MachineValue) (lines : List Directive) (answers : List Answer) (p : MachineCpuValue) : Type 0 where
  pub sent : sent_of p.calls.part.sent ≡ script_calls m.calls.online p.calls.number lines
  pub direct : length p.calls.direct ≡ script_direct p.calls.number lines
  pub waited : HasWaited p
  pub played : HasPlayed m lines answers (fresh_place m p.calls.number) p

-- as the CPU of this number was when its thread gave it back: at its machine, as words of both tables show it, with its lines made
pub record IsBack (m : MachineValue) (lines : List Directive) (answers : List Answer) (cpu : ℕ) : Type 0 where
  pub value : MachineCpuValue
  pub number_is : value.calls.number ≡ cpu
  pub seated : IsSeated m value
  pub shown : SeatIsShown value
  pub run : HasRunLines m lines answers value

-- the CPU of this number as its thread gives it back, with the answers to its lines
pub record IsDriven (m : MachineValue) (lines : List Directive) (cpu : ℕ) (answers : List Answer) (p : MachineCpuValue) : Type 0 where
  pub seated : IsSeated m p
  pub number_is : p.calls.number ≡ cpu
  pub answered : Answered m.calls.online (keys_at m) (λ c. c ≡ cpu) lines answers
  pub run : HasRunLines m lines answers p
  pub shown : SeatIsShown p

-- the CPUs of these numbers, in this order, each with the answers to its lines
abbrev pub AreDriven : {P A : Type 0} → MachineValue → List Directive → List ℕ → List (Played (Paced P A) Echo A) → Type 0
AreDriven m lines numbers back = AreFor (λ n b. IsDriven m lines n b.handler.answers.items b.cpu) numbers back

-- all CPUs that are online are back, with their answers; the lowest of them is this
pub record AreJoined (m : MachineValue) (lines : List Directive) (last : MachineCpuValue) (answers : List Answer) : Type 0 where
  pub seated : IsSeated m last
  pub least : IsLeast (λ c. has m.calls.online c) last.calls.number
  pub run : HasRunLines m lines answers last
  pub answered : Answered m.calls.online (keys_at m) (λ c. has m.calls.online c ≡ true) lines answers
  pub back : (cpu : ℕ) → has m.calls.online cpu ≡ true → IsBack m lines answers cpu
