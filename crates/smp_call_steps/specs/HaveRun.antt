-- The calls by a confirmed record have run.
use Rattle.std.specs.Prelude.{◌≡◌, ℕ, ◌⊎◌, true, List, [], ◌∷◌, ◌++◌}
use Rattle.std.specs.List.{AllByRecursion}
use Rattle.smp_words.specs.Size.{owner}
use Rattle.smp_call_steps.specs.Calls.{CallState}
use Rattle.smp_call_steps.specs.Counts.{calls_by, batches, async_call}
use Rattle.smp_call_steps.specs.Order.{of_class}
use Rattle.smp_call_steps.specs.Shows.{Shows}
use Rattle.smp_call_steps.specs.Stages.{ControlValue}
use Rattle.smp_call_steps.specs.Names.{Call, Class, Sync, Async, Word}

-- Where a source has seen the last call of its record confirmed, all SYNC calls by that record that were ever queued
-- have ended.
abbrev pub ConfirmedSyncCallsEnded : CallState → Type 0
ConfirmedSyncCallsEnded a = (id cpu : ℕ) → a.confirmed (owner id) id ≡ true →
    calls_by id (of_class Sync (batches (a.taken cpu) ++ a.queue cpu)) ≡ calls_by id (of_class Sync (a.ran cpu))

-- the list has this call
abbrev pub HasCall : Call → List Call → Type 0
HasCall call [] = ⊥
HasCall call (other ∷ rest) = (other ≡ call) ⊎ HasCall call rest

-- a call has run at this CPU: it is among those that have ended there, but that an ASYNC call may be the one that runs
abbrev pub HasRunAt : CallState → ℕ → Call → Class → Type 0
HasRunAt a cpu call Sync = HasCall call (a.ran cpu)
HasRunAt a cpu call Async = HasCall call (a.ran cpu ++ async_call (a.running cpu))

-- each call that a source has sent, by a record whose last call it has seen confirmed, has run at its target
abbrev pub ConfirmedCallsHaveRun : CallState → Type 0
ConfirmedCallsHaveRun a = (source : ℕ) →
    AllByRecursion (λ sending. a.confirmed source sending.call.id ≡ true → HasRunAt a sending.to sending.call sending.call.class) (a.sent source)

-- whatever words show calls
abbrev pub ConfirmedRun : Type 0
ConfirmedRun = (a : CallState) (at : Word → ℕ) (control : ℕ → ControlValue) → Shows a at control → ConfirmedCallsHaveRun a

abbrev pub ConfirmedSyncEnd : Type 0
ConfirmedSyncEnd = (a : CallState) (at : Word → ℕ) (control : ℕ → ControlValue) → Shows a at control → ConfirmedSyncCallsEnded a
