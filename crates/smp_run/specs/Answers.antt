-- What `do` lines answer.
use Rattle.std.specs.Prelude.{◌≡◌, ℕ, ℤ, pos, ◌<◌, ◌-◌, ◌%◌, ◌^◌, ◌==◌, ◌&&◌, Bool, true, false, nat_lt, if◌then◌else◌, Option, Some, None, Result, Ok, Err}
use Rattle.std.specs.Prelude.{List, length, slice_index_or}
use Rattle.smp_mask.specs.Mask.{has}
use Rattle.smp_mask.specs.declared.error.Edge.{Edge}
use Rattle.smp_mask.specs.declared.error.Edge.TheVariants.{Full, Zero}
use Rattle.smp_mask.specs.declared.error.SmpError.{SmpError}
use Rattle.smp_mask.specs.declared.error.SmpError.TheVariants as error
use Rattle.smp_words.specs.Size.{cpus}
use Rattle.smp_calls.specs.Targets.{is_target, IsAny, HasNone}
use Rattle.smp_multi.specs.declared.func.Called.{Called}
use Rattle.smp_machine.specs.Stops.{IsActiveAlone}
use Rattle.smp_script.specs.declared.request.Which.{Which}
use Rattle.smp_script.specs.declared.request.Which.TheVariants.{All, Even, Odd}
use Rattle.smp_script.specs.declared.request.Request.{Request}
use Rattle.smp_script.specs.declared.request.Request.TheVariants.{Single, User, Any, Many, Cond, One, Two, Machine, Set, Inc, Dec}
use Rattle.smp_script.specs.declared.directive.Directive.{Directive}
use Rattle.smp_script.specs.declared.directive.Directive.TheVariants.{Do}
use Rattle.smp_run.specs.declared.answer.Answer.{Answer}
use Rattle.smp_run.specs.declared.answer.Answer.TheVariants.{Done, Cpu, Cpus, Number, Turned, Refused}

-- the CPUs that a condition holds of
abbrev pub says : Which → ℕ → Bool
says All cpu = true
says Even cpu = cpu % 2 == 0
says Odd cpu = cpu % 2 == 1

-- the answer to a call that was made, or its refusal
abbrev pub answer_of : {X : Type 0} → (X → Answer) → Result X SmpError → Answer
answer_of make (Ok x) = make x
answer_of make (Err e) = Refused e

-- why a call to one CPU is refused, if it is: that is not online
abbrev pub call_refusal : ℕ → ℕ → Option SmpError
call_refusal online dst = if has online dst then None else Some error.NoCpu

-- why a stop of one CPU is: that is not online
abbrev pub one_refusal : ℕ → ℕ → Option SmpError
one_refusal online dst = if has online dst then None else Some error.NoStopper

-- why a stop of two CPUs is: they are the same, or else one of them is not online
abbrev pub two_refusal : ℕ → ℕ → ℕ → Option SmpError
two_refusal online a b = if a == b then Some error.BadArgument else (if has online a && has online b then None else Some error.NoStopper)

-- why a change of a key is: there is no such key
abbrev pub key_refusal : ℕ → ℕ → Option SmpError
key_refusal keys k = if nat_lt k keys then None else Some error.BadArgument

-- this refusal exactly, or where there is none such an answer
abbrev pub IsRefusedOr : Option SmpError → (Answer → Type 0) → Answer → Type 0
IsRefusedOr None Fine answer = Fine answer
IsRefusedOr (Some e) Fine answer = answer ≡ Refused e

abbrev pub IsDone : Answer → Type 0
IsDone answer = answer ≡ Done

-- the CPU called: the caller where the mask has it, else the lowest of the mask that is online; E1 exactly where there is none
abbrev pub IsAnyAnswer : ℕ → ℕ → ℕ → Answer → Type 0
IsAnyAnswer mask online this (Cpu cpu) = IsAny mask online this cpu
IsAnyAnswer mask online this (Refused error.NoCpu) = HasNone mask online this
IsAnyAnswer mask online this _ = ⊥

-- these CPUs were called
abbrev pub IsCpus : (ℕ → Bool) → Answer → Type 0
IsCpus called (Cpus mask) = (c : ℕ) → c < cpus → has mask c ≡ called c
IsCpus called _ = ⊥

-- a number
abbrev pub IsNumber : Answer → Type 0
IsNumber (Number n) = Unit {0}
IsNumber _ = ⊥

-- what the function of a stop answers to this argument: the argument, which is below 2^31 in a script
abbrev pub echo_of : ℕ → ℤ
echo_of arg = pos (if nat_lt arg (2 ^ 31) then arg else 2 ^ 31 - 1)

-- a call of that function
abbrev pub IsEcho : Called → Type 0
IsEcho call = call.answer ≡ echo_of call.arg

-- a number, which is the argument where no other CPU than the caller runs the function
abbrev pub IsStopAnswer : Type 0 → ℕ → Answer → Type 0
IsStopAnswer IsAlone arg answer = IsNumber answer × (IsAlone → answer ≡ Number (pos arg))

-- a truth value
abbrev pub IsTruth : Answer → Type 0
IsTruth (Turned turned) = Unit {0}
IsTruth _ = ⊥

-- a truth value, or E13 of this end of a count's range
abbrev pub IsCount : Edge → Answer → Type 0
IsCount edge (Turned turned) = Unit {0}
IsCount edge (Refused (error.KeyRange e)) = e ≡ edge
IsCount edge _ = ⊥

-- what a call by this CPU answers, of a machine with these CPUs online and this number of keys
abbrev pub IsAnswer : ℕ → ℕ → ℕ → Request → Answer → Type 0
IsAnswer online keys this (Single wait dst func info) answer = IsRefusedOr (call_refusal online dst) IsDone answer
IsAnswer online keys this (User u dst func info) answer = IsRefusedOr (call_refusal online dst) IsDone answer
IsAnswer online keys this (Any wait mask func info) answer = IsAnyAnswer mask online this answer
IsAnswer online keys this (Many wait mask func info) answer = IsCpus (is_target mask online this false) answer
IsAnswer online keys this (Cond which wait mask func info) answer = IsCpus (λ c. is_target mask online this true c && says which c) answer
IsAnswer online keys this (One dst func arg) answer = IsRefusedOr (one_refusal online dst) (IsStopAnswer (dst ≡ this) arg) answer
IsAnswer online keys this (Two a b func arg) answer = IsRefusedOr (two_refusal online a b) (IsStopAnswer (a ≡ this) arg) answer
IsAnswer online keys this (Machine active func arg) answer = IsStopAnswer (IsActiveAlone online active this) arg answer
IsAnswer online keys this (Set k on) answer = IsRefusedOr (key_refusal keys k) IsTruth answer
IsAnswer online keys this (Inc k) answer = IsRefusedOr (key_refusal keys k) (IsCount Full) answer
IsAnswer online keys this (Dec k) answer = IsRefusedOr (key_refusal keys k) (IsCount Zero) answer

-- the CPU that a line is of
abbrev pub cpu_of : Directive → ℕ
cpu_of (Do cpu count request) = cpu
cpu_of _ = 0

-- what a line answers
abbrev pub IsLineAnswer : ℕ → ℕ → Directive → Answer → Type 0
IsLineAnswer online keys (Do cpu count request) answer = IsAnswer online keys cpu request answer
IsLineAnswer online keys _ answer = ⊥

-- of each of the first n lines that are of such a CPU, its answer is at the line's place
abbrev pub AnsweredBelow : ℕ → ℕ → (ℕ → Type 0) → List Directive → List Answer → ℕ → Type 0
AnsweredBelow online keys Mine lines answers n = (i : ℕ) (l : Directive) (a : Answer) → i < n → Mine (cpu_of (slice_index_or lines i l))
    → IsLineAnswer online keys (slice_index_or lines i l) (slice_index_or answers i a)

-- of all lines
pub record Answered (online keys : ℕ) (Mine : ℕ → Type 0) (lines : List Directive) (answers : List Answer) : Type 0 where
  pub sized : length answers ≡ length lines
  pub each : AnsweredBelow online keys Mine lines answers (length lines)

-- of each of the first n lines that are of such a CPU, the answers are the same
abbrev pub Gathers : (ℕ → Type 0) → List Directive → List Answer → List Answer → ℕ → Type 0
Gathers Mine lines from answers n = (i : ℕ) (l : Directive) (a : Answer) → i < n → Mine (cpu_of (slice_index_or lines i l))
    → slice_index_or answers i a ≡ slice_index_or from i a
