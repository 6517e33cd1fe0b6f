-- What the laws of the call half promise, of whatever words show calls.
use Rattle.std.specs.Prelude.{◌≡◌, ℕ, ◌⊎◌, None}
use Rattle.smp_words.specs.Access.{word_of, at_after, seen_of}
use Rattle.smp_call_steps.specs.Calls.{CallState, no_calls}
use Rattle.smp_call_steps.specs.Drains.{no_drain}
use Rattle.smp_call_steps.specs.Headline.{InOnePlace}
use Rattle.smp_call_steps.specs.Histories.{calls_from, calls_to, Recorded, Tallied}
use Rattle.smp_call_steps.specs.Threads.Known.{Sees, MayStep, known_access, known_tells, GoesOn}
use Rattle.smp_call_steps.specs.Order.{of_class, IsPrefix}
use Rattle.smp_call_steps.specs.Shows.{Shows}
use Rattle.smp_call_steps.specs.Stages.{ControlValue}
use Rattle.smp_call_steps.specs.Words.{IsEmpty, IsNoticed, queued_in, ran_in}
use Rattle.smp_call_steps.specs.Names.{Class, Word, Access, Stage}
use Rattle.smp_call_steps.specs.declared.known.KnownCalls.{KnownCalls}

-- words that are all 0, with each CPU outside a command, show that nothing was called
abbrev pub NothingCalled : Type 0
NothingCalled = (at : Word → ℕ) (control : ℕ → ControlValue) → ((w : Word) → at w ≡ 0) →
    ((cpu : ℕ) → control cpu ≡ record { stage = None; drain = no_drain }) → Shows no_calls at control

-- A CPU that may make the step of a stage makes, by its access, the step of the call state that is seen: the words after
-- it show the calls after it, and no other CPU's part has changed.
abbrev pub StepsAreTold : Type 0
StepsAreTold = (a : CallState) (at : Word → ℕ) (control : ℕ → ControlValue) (v : KnownCalls) → Shows a at control → Sees a control v →
    (stage : Stage) → MayStep v stage → (access : Access) → known_access v stage ≡ access →
    GoesOn a at control v.number (at_after at access) (known_tells (a.queue v.number) v (seen_of v.number access (at (word_of access)) None))

-- each record is in exactly one place
abbrev pub KeepThePlaceLaw : Type 0
KeepThePlaceLaw = (a : CallState) (at : Word → ℕ) (control : ℕ → ControlValue) → Shows a at control → InOnePlace a at

-- where a queue is not empty, its CPU has an interrupt pending, has accepted one, or is owed one
abbrev pub KeepTheInterruptLaw : Type 0
KeepTheInterruptLaw = (a : CallState) (at : Word → ℕ) (control : ℕ → ControlValue) → Shows a at control →
    (cpu : ℕ) → IsEmpty (a.queue cpu) ⊎ IsNoticed a.pending a.accepted a.owes cpu

-- what was sent is what was queued, in order and with its marks, and what ran is the drain order of the batches
abbrev pub KeepTheQueueHistory : Type 0
KeepTheQueueHistory = (a : CallState) (at : Word → ℕ) (control : ℕ → ControlValue) → Shows a at control →
    Recorded a.sent a.taken a.queue a.ran a.running a.batch

-- the tally words are the numbers of calls, modulo 2^64
abbrev pub KeepTheTallyLaw : Type 0
KeepTheTallyLaw = (a : CallState) (at : Word → ℕ) (control : ℕ → ControlValue) → Shows a at control →
    Tallied (queued_in at) (ran_in at) a.sent a.held a.ran a.running

-- Each call that was sent runs at most once, on its target, in queue order per class: of each source and class, the
-- calls that have ended at a CPU are the first of those that this source has sent to it.
abbrev pub RunAtMostOnce : Type 0
RunAtMostOnce = (a : CallState) (at : Word → ℕ) (control : ℕ → ControlValue) → Shows a at control → (source cpu : ℕ) (class : Class) →
    IsPrefix (of_class class (calls_from source (a.ran cpu))) (of_class class (calls_to cpu (a.sent source)))
