-- What a CPU knows inside handle, after each of its steps.
use Rattle.std.specs.Prelude.{ℕ, Bool, if◌then◌else◌, Option, Some, None, List, [], ◌∷◌, ◌++◌}
use Rattle.smp_call_steps.specs.Calls.{Running, SyncCall, AsyncCall}
use Rattle.smp_call_steps.specs.Threads.Parts.{CallPart, part_accepted, part_taken, part_counted, part_ended}
use Rattle.smp_call_steps.specs.Drains.{DrainValue, no_drain, reverse_on, handle_outcome, drain_after}
use Rattle.smp_call_steps.specs.Names.{Call, Walk, HandleStage, Handle}
use Rattle.smp_call_steps.specs.Names.handle
use Rattle.smp_call_steps.specs.declared.known.KnownCalls.{KnownCalls}

-- all but the first
abbrev pub rest_of : List Call → List Call
rest_of [] = []
rest_of (call ∷ rest) = rest

-- a CPU at this step of handle, which has loaded this
abbrev pub handling : HandleStage → DrainValue → KnownCalls → KnownCalls
handling stage d v = record v { stage = Some (Handle stage); drain = d }

-- a CPU after a step at this stage, by the number found, that tells nothing of the calls
abbrev pub goes_known : HandleStage → ℕ → KnownCalls → KnownCalls
goes_known h found v = record v { stage = (handle_outcome v.drain h found).next; drain = drain_after v.drain h found }

-- a CPU that has found an interrupt, or none
abbrev pub accepted_known : Bool → KnownCalls → KnownCalls
accepted_known pending v = record v {
  stage = Some (Handle (if pending then handle.Take else handle.LeaveIdle));
  part = part_accepted pending v.part;
  asked_after = v.asked_after ++ v.steps ∷ [];
}

-- a CPU that has taken this queue, whose newest record is this
abbrev pub taken_known : List Call → Option ℕ → KnownCalls → KnownCalls
taken_known queue newest v = record v { stage = Some (Handle (reverse_on None newest)); drain = no_drain; part = part_taken queue v.part }

-- a CPU that has left handle
abbrev pub left_known : KnownCalls → KnownCalls
left_known v = record v { stage = None; drain = no_drain }

-- a CPU's part while this call runs, the front of its batch
abbrev pub runs_next : Running → CallPart → CallPart
runs_next running p = record p { batch = rest_of p.batch; running = running }

-- a CPU in whose SYNC call the function runs
abbrev pub begun_sync : Walk → Call → Option ℕ → KnownCalls → KnownCalls
begun_sync walk call next v = record v { stage = Some (Handle (handle.CountSync walk call next)); part = runs_next (SyncCall call) v.part }

-- a CPU that has counted a SYNC call
abbrev pub counted_sync : Walk → Call → Option ℕ → KnownCalls → KnownCalls
counted_sync walk call next v = record v { stage = Some (Handle (handle.EndSync walk call next)); part = part_counted (SyncCall call) v.part }

-- a CPU in whose ASYNC call the function runs
abbrev pub begun_async : Call → Option ℕ → KnownCalls → KnownCalls
begun_async call next v = record v { stage = Some (Handle (handle.CountAsync call next)); part = runs_next (AsyncCall call) v.part }

-- a CPU whose call has ended, and that is there
abbrev pub ended_call : HandleStage → Call → KnownCalls → KnownCalls
ended_call stage call v = record v { stage = Some (Handle stage); part = part_ended call v.part }

-- where a CPU has nothing more to do inside handle
abbrev pub IsLeaving : HandleStage → Type 0
IsLeaving handle.LeaveIdle = Unit {0}
IsLeaving handle.Leave = Unit {0}
IsLeaving _ = ⊥
