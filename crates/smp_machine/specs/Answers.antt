-- What each family answers at a machine, and what it leaves of its CPU and its handler.
use Rattle.std.specs.Prelude.{◌≡◌, ◌≢◌, ◌⊎◌, ◌<◌, ℕ, Bool, true, false, Some, None, [], ◌∷◌, if◌then◌else◌, length, Result, IfOk, IfErr}
use Rattle.smp_mask.specs.Mask.{has, members}
use Rattle.smp_mask.specs.declared.error.SmpError.{SmpError}
use Rattle.smp_mask.specs.declared.error.SmpError.TheVariants as error
use Rattle.smp_words.specs.declared.call.Class.TheVariants.{Sync, Async}
use Rattle.smp_queue.specs.Cpu.{confirmed_at, notes_call}
use Rattle.smp_queue.specs.Handling.{heard}
use Rattle.smp_queue.specs.declared.handler.Heard.{Heard}
use Rattle.smp_calls.specs.Ended.{HaveEnded}
use Rattle.smp_calls.specs.Families.{Awaits, CallsOne, CallsBy, CallsHere, CallsUserHere, CallsMany, QueuesNone, RefusesUser, HandlesNone}
use Rattle.smp_calls.specs.Records.{call_by, many_call, single_record, user_record, class_for}
use Rattle.smp_calls.specs.Rounds.{Picks}
use Rattle.smp_calls.specs.Targets.{IsAny, HasNone, is_target, remote}
use Rattle.smp_calls.specs.Turns.{HasTurns}
use Rattle.smp_calls.specs.Within.{CallsWithin}
use Rattle.smp_calls.specs.declared.many_within.Within.{Within}
use Rattle.smp_machine.specs.Calls.{KeepsStops, RefusedInHand}
use Rattle.smp_machine.specs.MachineCpu.{MachineValue, MachineCpuValue}

-- `call_single`: a call to another CPU was queued there, and one to the CPU itself was run at once; with wait the call has ended.
-- With wait a call to the CPU itself ran with no step before it, and a refusal changes nothing. Without, the async record is
-- confirmed at E1 and after a call to the CPU itself, and it has handled once after each look that found that record busy
pub record SingleAnswers {H : Type 0} (leads : H → Heard → H → Type 0) (m : MachineValue) (old : MachineCpuValue) (before : H) (new : MachineCpuValue)
    (after : H) (dst func info : ℕ) (wait : Bool) (result : Result Unit SmpError) : Type 0 where
  pub free : IfOk result (λ _. old.stops.inside ≡ None)
  pub queued : IfOk result (λ _. dst ≢ old.calls.number → (has m.calls.online dst ≡ true)
      × CallsOne leads old.calls before new.calls after dst func info wait)
  pub here : IfOk result (λ _. dst ≡ old.calls.number → CallsHere leads old.calls before new.calls after func info wait)
  pub at_once : IfOk result (λ _. wait ≡ true → dst ≡ old.calls.number → (new.calls ≡ notes_call old.calls)
      × leads before (heard old.calls.number func info) after)
  pub stays : IfErr result (λ _. wait ≡ true → (new.calls ≡ old.calls) × (after ≡ before))
  pub freed : IfOk result (λ _. wait ≡ false → dst ≡ old.calls.number → confirmed_at new.calls 1 ≡ true)
  pub waits : IfErr result (λ e. e ≡ error.NoCpu → wait ≡ false → (confirmed_at new.calls 1 ≡ true)
      × Awaits 1 old.calls before new.calls after)
  pub refused : IfErr result (λ e. RefusedInHand e old before new after
      ⊎ ((old.stops.inside ≡ None) × (e ≡ error.NoCpu) × (dst ≢ old.calls.number) × (has m.calls.online dst ≡ false)
      × QueuesNone leads old.calls before new.calls after wait))
  pub turns : IfOk result (λ _. dst ≢ old.calls.number → HasTurns old.calls new.calls 1 wait)
  pub ended : IfOk result (λ _. wait ≡ true → dst ≢ old.calls.number →
      HaveEnded new.calls (λ _. call_by old.calls.number (single_record true) Sync func info) (dst ∷ []))
  pub kept : KeepsStops old new

-- `call_async`: the same by a record of the user, with no wait; E4, E2 and E1 in this order
pub record AsyncAnswers {H : Type 0} (leads : H → Heard → H → Type 0) (m : MachineValue) (old : MachineCpuValue) (before : H) (new : MachineCpuValue)
    (after : H) (u dst func info : ℕ) (result : Result Unit SmpError) : Type 0 where
  pub free : IfOk result (λ _. old.stops.inside ≡ None)
  pub record_is : IfOk result (λ _. u < 2)
  pub queued : IfOk result (λ _. dst ≢ old.calls.number → (has m.calls.online dst ≡ true)
      × CallsBy leads old.calls before new.calls after (user_record u) Async dst func info false)
  pub here : IfOk result (λ _. dst ≡ old.calls.number → CallsUserHere leads old.calls before new.calls after u func info)
  pub still : HandlesNone old.calls new.calls
  pub untouched : IfOk result (λ _. dst ≢ old.calls.number → after ≡ before)
  pub called : IfOk result (λ _. dst ≡ old.calls.number → leads before (heard old.calls.number func info) after)
  pub refused : IfErr result (λ e. RefusedInHand e old before new after
      ⊎ ((old.stops.inside ≡ None) × RefusesUser m.calls.online old.calls new.calls u dst e × (after ≡ before)))
  pub kept : KeepsStops old new

-- `call_any`: as `call_single`, to the CPU that it answers, which is this one where the mask has it, else the lowest online; a
-- refusal changes nothing
pub record AnyAnswers {H : Type 0} (leads : H → Heard → H → Type 0) (m : MachineValue) (old : MachineCpuValue) (before : H) (new : MachineCpuValue) (after : H)
    (mask func info : ℕ) (wait : Bool) (result : Result ℕ SmpError) : Type 0 where
  pub free : IfOk result (λ _. old.stops.inside ≡ None)
  pub any : IfOk result (λ cpu. IsAny mask m.calls.online old.calls.number cpu)
  pub queued : IfOk result (λ cpu. cpu ≢ old.calls.number → CallsOne leads old.calls before new.calls after cpu func info wait)
  pub here : IfOk result (λ cpu. cpu ≡ old.calls.number → CallsHere leads old.calls before new.calls after func info wait)
  pub at_once : IfOk result (λ cpu. wait ≡ true → cpu ≡ old.calls.number → (new.calls ≡ notes_call old.calls)
      × leads before (heard old.calls.number func info) after)
  pub freed : IfOk result (λ cpu. wait ≡ false → cpu ≡ old.calls.number → confirmed_at new.calls 1 ≡ true)
  pub refused : IfErr result (λ e. RefusedInHand e old before new after
      ⊎ ((old.stops.inside ≡ None) × (e ≡ error.NoCpu) × HasNone mask m.calls.online old.calls.number
      × (new.calls ≡ old.calls) × (after ≡ before)))
  pub turns : IfOk result (λ cpu. cpu ≢ old.calls.number → HasTurns old.calls new.calls 1 wait)
  pub ended : IfOk result (λ cpu. wait ≡ true → cpu ≢ old.calls.number →
      HaveEnded new.calls (λ _. call_by old.calls.number (single_record true) Sync func info) (cpu ∷ []))
  pub kept : KeepsStops old new

-- `call_many`: a call was queued for each online CPU of the mask but this one, and these are answered; with wait all have ended
pub record ManyAnswers {H : Type 0} (leads : H → Heard → H → Type 0) (m : MachineValue) (old : MachineCpuValue) (before : H) (new : MachineCpuValue) (after : H)
    (mask func info : ℕ) (wait : Bool) (result : Result ℕ SmpError) : Type 0 where
  pub free : IfOk result (λ _. old.stops.inside ≡ None)
  pub targets : IfOk result (λ called. (c : ℕ) → has called c ≡ is_target mask m.calls.online old.calls.number false c)
  pub calls : IfOk result (λ called. CallsMany leads old.calls before new.calls after (members called) (class_for wait) func info None wait)
  pub turns : IfOk result (λ called. HasTurns old.calls new.calls (length (members called)) wait)
  pub ended : IfOk result (λ called. wait ≡ true → HaveEnded new.calls (many_call old.calls.number Sync func info) (members called))
  pub refused : IfErr result (λ e. RefusedInHand e old before new after)
  pub kept : KeepsStops old new

-- `each_cpu_cond`: as `call_many`, to those of which the condition holds, this CPU included, which runs the function at once
pub record CondAnswers {H : Type 0} (leads : H → Heard → H → Type 0) (m : MachineValue) (old : MachineCpuValue) (before : H) (new : MachineCpuValue) (after : H)
    (says : ℕ → Bool → Type 0) (mask func info : ℕ) (wait : Bool) (result : Result ℕ SmpError) : Type 0 where
  pub free : IfOk result (λ _. old.stops.inside ≡ None)
  pub picks : IfOk result (λ called. Picks says (is_target mask m.calls.online old.calls.number true) called)
  pub calls : IfOk result (λ called. CallsMany leads old.calls before new.calls after (remote old.calls.number called) (class_for wait) func info
      (if has called old.calls.number then Some (heard old.calls.number func info) else None) wait)
  pub turns : IfOk result (λ called. HasTurns old.calls new.calls (length (remote old.calls.number called)) wait)
  pub ended : IfOk result (λ called. wait ≡ true → HaveEnded new.calls (many_call old.calls.number Sync func info) (remote old.calls.number called))
  pub refused : IfErr result (λ e. RefusedInHand e old before new after)
  pub kept : KeepsStops old new

-- `on_each_cpu_mask`: as `each_cpu_cond`, to each online CPU of the mask, this CPU included, and these are answered
pub record EachAnswers {H : Type 0} (leads : H → Heard → H → Type 0) (m : MachineValue) (old : MachineCpuValue) (before : H) (new : MachineCpuValue) (after : H)
    (mask func info : ℕ) (wait : Bool) (result : Result ℕ SmpError) : Type 0 where
  pub free : IfOk result (λ _. old.stops.inside ≡ None)
  pub targets : IfOk result (λ called. (c : ℕ) → has called c ≡ is_target mask m.calls.online old.calls.number true c)
  pub calls : IfOk result (λ called. CallsMany leads old.calls before new.calls after (remote old.calls.number called) (class_for wait) func info
      (if has called old.calls.number then Some (heard old.calls.number func info) else None) wait)
  pub turns : IfOk result (λ called. HasTurns old.calls new.calls (length (remote old.calls.number called)) wait)
  pub ended : IfOk result (λ called. wait ≡ true → HaveEnded new.calls (many_call old.calls.number Sync func info) (remote old.calls.number called))
  pub refused : IfErr result (λ e. RefusedInHand e old before new after)
  pub kept : KeepsStops old new

-- `call_many_within`: as `call_many` with wait, with an end of waiting: which CPUs were called, and which have not answered
pub record WithinAnswers {H : Type 0} (leads : H → Heard → H → Type 0) (m : MachineValue) (old : MachineCpuValue) (before : H) (new : MachineCpuValue)
    (after : H) (mask func info polls : ℕ) (result : Result Within SmpError) : Type 0 where
  pub free : IfOk result (λ _. old.stops.inside ≡ None)
  pub calls : IfOk result (λ w. CallsWithin leads old.calls before new.calls after func info (is_target mask m.calls.online old.calls.number false)
      w.called w.silent polls)
  pub refused : IfErr result (λ e. RefusedInHand e old before new after)
  pub kept : KeepsStops old new
