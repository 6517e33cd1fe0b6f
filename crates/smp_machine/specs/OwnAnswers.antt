-- What a CPU answers to its own stops.
use Rattle.std.specs.List.{AllByRecursion}
use Rattle.std.specs.Prelude.{◌≡◌, ◌⊎◌, ℕ, ℤ, true, Some, List, [], ◌∷◌, ◌++◌, slice_index_or}
use Rattle.smp_mask.specs.Mask.{has}
use Rattle.smp_stop_steps.specs.Start.{answer_word}
use Rattle.smp_words.specs.declared.phase.TheConstants.{RUN}
use Rattle.smp_multi.specs.Cpu.{CpuValue as StopCpuValue, Inside}
use Rattle.smp_multi.specs.Names.{Work, StopCall, One, Multi, Carries}
use Rattle.smp_multi.specs.Polls.{MayAnswer}

-- this is in the list
abbrev pub IsIn : {A : Type 0} → List A → A → Type 0
IsIn {A} l x = (before : List A) × (after : List A) × (l ≡ before ++ x ∷ after)

-- among these calls is one of this function with this argument, which has given this answer
abbrev pub IsCalled : List StopCall → ℕ → ℕ → ℕ → Type 0
IsCalled calls func arg answer = (call : StopCall) × IsIn calls call × (call.func ≡ func) × (call.arg ≡ arg) × (call.answer ≡ answer)

-- a CPU has to call the function of this work: any of a stop of one CPU, and in a stop of kind Multi one that is active
abbrev pub HasToRun : ℕ → Work → Type 0
HasToRun me work = (work.kind ≡ One) ⊎ ((work.kind ≡ Multi) × (has work.active me ≡ true))

-- it has acknowledged RUN in a stop of this work, which it is to complete with this answer
pub record CarriesFor (c : StopCpuValue) (work : Work) (answer : ℕ) : Type 0 where
  pub stop : Inside
  pub is : c.inside ≡ Some stop
  pub work_is : stop.work ≡ work
  pub at_run : stop.acked ≡ RUN
  pub carries : c.part.calling ≡ Carries answer

-- one of these calls of the function of this work has given this answer, or the CPU carried it before them
abbrev pub IsGiven : StopCpuValue → List StopCall → Work → ℕ → Type 0
IsGiven old calls work answer = IsCalled calls work.func work.arg answer ⊎ CarriesFor old work answer

-- an answer to a stop that was pending, or that is among those begun; where the CPU had to call its function, that has given it
abbrev pub IsOwnAnswer : StopCpuValue → List Work → List StopCall → ℕ → Type 0
IsOwnAnswer old begun calls answer =
    (work : Work) × ((old.pending ≡ Some work) ⊎ IsIn begun work) × (HasToRun old.number work → IsGiven old calls work answer)

-- what a CPU has answered to its own stops since, by the stops that it has begun and the stop functions that it has called since
pub record OwnAnswers (old new : StopCpuValue) : Type 0 where
  pub calls : List StopCall
  pub calls_are : new.part.calls ≡ old.part.calls ++ calls
  pub begun : List Work
  pub begun_are : new.part.begun ≡ old.part.begun ++ begun
  pub pends : (work : Work) → new.pending ≡ Some work → (old.pending ≡ Some work) ⊎ IsIn begun work
  pub answers : List ℕ
  pub answers_are : slice_index_or new.part.answers old.number [] ≡ slice_index_or old.part.answers old.number [] ++ answers
  pub each : AllByRecursion (IsOwnAnswer old begun calls) answers
  pub carried : (work : Work) (answer : ℕ) → HasToRun old.number work → CarriesFor new work answer → IsGiven old calls work answer

-- it has called this function with this argument since, which has given this answer
abbrev pub HasCalledFor : ℕ → ℕ → StopCpuValue → StopCpuValue → ℤ → Type 0
HasCalledFor func arg old new answer =
    (calls : List StopCall) × (new.part.calls ≡ old.part.calls ++ calls) × IsCalled calls func arg (answer_word answer)

-- the CPU's own stop of this work, where it has to call the function and no other CPU that was called may answer: the function
-- was called here, and has given the answer
abbrev pub RunsItself : Work → StopCpuValue → StopCpuValue → ℤ → Type 0
RunsItself work old new answer = HasToRun old.number work → has work.mask old.number ≡ true
    → ((cpu : ℕ) → has work.mask cpu ≡ true → MayAnswer work cpu → cpu ≡ old.number) → HasCalledFor work.func work.arg old new answer
