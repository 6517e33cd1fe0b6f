-- What a class means for the call that runs.
use Rattle.std.specs.Prelude.{◌≡◌, ℕ}
use Rattle.smp_call_steps.specs.Calls.{CallState, Running, Nothing, SyncCall, CountedCall, AsyncCall}
use Rattle.smp_call_steps.specs.Shows.{Shows}
use Rattle.smp_call_steps.specs.Stages.{ControlValue}
use Rattle.smp_call_steps.specs.Names.{Sync, Async, Word}

-- a call that runs while its record is locked is SYNC, and one that runs while its record is free is ASYNC
abbrev pub RunsByClass : Running → Type 0
RunsByClass Nothing = Unit {0}
RunsByClass (SyncCall call) = call.class ≡ Sync
RunsByClass (CountedCall call) = call.class ≡ Sync
RunsByClass (AsyncCall call) = call.class ≡ Async

-- whatever words show calls
abbrev pub RunByClass : Type 0
RunByClass = (a : CallState) (at : Word → ℕ) (control : ℕ → ControlValue) → Shows a at control → (cpu : ℕ) → RunsByClass (a.running cpu)
