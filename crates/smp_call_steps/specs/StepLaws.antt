-- What each step that a CPU may make next keeps, beside the calls that it tells.
use Rattle.std.specs.Prelude.{◌≡◌, ◌⊎◌, ℕ, Some}
use Rattle.smp_words.specs.Access.{word_of, at_after, seen_of}
use Rattle.smp_call_steps.specs.Calls.{CallState, tells}
use Rattle.smp_call_steps.specs.Drains.{DrainValue}
use Rattle.smp_call_steps.specs.Functions.{FunctionGoes}
use Rattle.smp_call_steps.specs.Threads.Known.{Sees, MayStep}
use Rattle.smp_call_steps.specs.Notes.{QueueGoes, SaidMeans}
use Rattle.smp_call_steps.specs.Premises.{IsWordOf, MayStoreAt, MayMake}
use Rattle.smp_call_steps.specs.Reached.{IsReached, words_told}
use Rattle.smp_call_steps.specs.Shows.{Shows}
use Rattle.smp_call_steps.specs.Stages.{ControlValue, access_of, outcome_of}
use Rattle.smp_call_steps.specs.Tries.{GoesOnWith}
use Rattle.smp_call_steps.specs.Names.{Word, Seen, Stage}
use Rattle.smp_call_steps.specs.declared.known.KnownCalls.{KnownCalls}

-- what is seen of a step of this CPU at this stage, with its note
abbrev pub seen_then : (Word → ℕ) → DrainValue → ℕ → Stage → Seen
seen_then at d me stage =
    let access = access_of at me stage in
    let found = at (word_of access) in
    seen_of me access found (outcome_of d stage found).note

-- who may make it
abbrev pub IsPremised : CallState → (Word → ℕ) → DrainValue → ℕ → Stage → Type 0
IsPremised a at d me stage = MayMake a at (seen_then at d me stage)

-- a word of a record stays as it is, but where the CPU may store to it
abbrev pub KeepsRecords : CallState → (Word → ℕ) → DrainValue → ℕ → Stage → Type 0
KeepsRecords a at d me stage = (word : Word) (id : ℕ) → IsWordOf id word →
    (at_after at (access_of at me stage) word ≡ at word) ⊎ MayStoreAt (a.place id) a me id

-- what it does of functions
abbrev pub KeepsFunctions : CallState → (Word → ℕ) → DrainValue → ℕ → Stage → Type 0
KeepsFunctions a at d me stage = let seen = seen_then at d me stage in FunctionGoes a (tells a seen) me seen.note

-- what it queues
abbrev pub KeepsQueues : CallState → (Word → ℕ) → DrainValue → ℕ → Stage → Type 0
KeepsQueues a at d me stage = let seen = seen_then at d me stage in QueueGoes a (tells a seen) me seen.note

-- its note says what holds
abbrev pub NoteHolds : CallState → (Word → ℕ) → DrainValue → ℕ → Stage → Type 0
NoteHolds a at d me stage = let seen = seen_then at d me stage in SaidMeans a (tells a seen) me seen.word seen.note

-- what access comes next, until a call is queued, whatever the words are then
abbrev pub TriesGoOn : CallState → (Word → ℕ) → DrainValue → ℕ → Stage → Type 0
TriesGoOn a at d me stage =
    let seen = seen_then at d me stage in
    (next : Stage) → (outcome_of d stage (at (word_of (access_of at me stage)))).next ≡ Some next →
    (at' : Word → ℕ) → GoesOnWith a me seen.act seen.word seen.found seen.put (access_of at' me next)

-- all of them, of the step of a CPU at this stage
pub record KeepsStepLaws (a : CallState) (at : Word → ℕ) (d : DrainValue) (me : ℕ) (stage : Stage) : Type 0 where
  pub premise : IsPremised a at d me stage
  pub records : KeepsRecords a at d me stage
  pub functions : KeepsFunctions a at d me stage
  pub queues : KeepsQueues a at d me stage
  pub says : NoteHolds a at d me stage
  pub tries : TriesGoOn a at d me stage

-- the same of each CPU that is inside a command
abbrev pub StepsKeepLaws : CallState → (Word → ℕ) → (ℕ → ControlValue) → Type 0
StepsKeepLaws a at control = (cpu : ℕ) (stage : Stage) → (control cpu).stage ≡ Some stage → KeepsStepLaws a at (control cpu).drain cpu stage

-- of each step that a CPU may make next, whatever words show calls
abbrev pub OfEachStep : (CallState → (Word → ℕ) → DrainValue → ℕ → Stage → Type 0) → Type 0
OfEachStep P = (a : CallState) (at : Word → ℕ) (control : ℕ → ControlValue) → Shows a at control →
    (me : ℕ) (stage : Stage) → (control me).stage ≡ Some stage → P a at (control me).drain me stage

-- and where threads share the words, at each stage that what the CPU knows leaves open
abbrev pub KnownStepsKeepLaws : Type 0
KnownStepsKeepLaws = (a : CallState) (at : Word → ℕ) (control : ℕ → ControlValue) (v : KnownCalls) → Shows a at control → Sees a control v →
    (stage : Stage) → MayStep v stage → KeepsStepLaws a at v.drain v.number stage

-- and so the step leads from calls and words that are reached to such
abbrev pub ReachesOn : CallState → (Word → ℕ) → DrainValue → ℕ → Stage → Type 0
ReachesOn a at d me stage = let seen = seen_then at d me stage in IsReached a at → IsReached (tells a seen) (words_told at seen)
