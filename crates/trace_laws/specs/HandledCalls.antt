-- What a CPU does for the calls that it takes, one after the other, and when it has done it all.
use Rattle.std.specs.Prelude.{◌≡◌, ℕ, ◌<◌, true, false, ◌==◌, List, [], ◌∷◌, ◌++◌, map, Option, Some, None}
use Rattle.smp_labels.specs.declared.words.LabelWords.{LabelWords}
use Rattle.smp_words.specs.declared.call.Class.{Class}
use Rattle.smp_words.specs.declared.call.Class.TheVariants.{Sync, Async}
use Rattle.smp_words.specs.declared.phase.TheConstants.{DISABLE_IRQ}
use Rattle.trace_model.specs.Cpu.{CpuState}
use Rattle.trace_model.specs.State.{StateValue, cpu_at}
use Rattle.trace_model.specs.declared.call.Call.{Call}
use Rattle.trace_model.specs.declared.call.Current.{Current}
use Rattle.trace_model.specs.declared.call.Progress.{Progress}
use Rattle.trace_model.specs.declared.call.Progress.TheVariants.{Ended, Runs, Unlocked}
use Rattle.trace_model.specs.declared.event.CallEvent.{CallEvent}
use Rattle.trace_model.specs.declared.event.CallEvent.TheVariants as calls
use Rattle.trace_model.specs.declared.event.Event.{Event}
use Rattle.trace_model.specs.declared.event.Event.TheVariants as event
use Rattle.trace_model.specs.declared.event.StopEvent.TheVariants as stops
use Rattle.trace_model.specs.declared.without.Setting.{Setting}
use Rattle.trace_laws.specs.CallEvents.{begins, ends, id_of, only_if}
use Rattle.trace_laws.specs.LostQueues.{accepted_from}
use Rattle.trace_laws.specs.Traces.{IsTrace, record_of, taken}

-- what an event of this CPU does for a call: it unlocks its record, enters its function or returns from it
abbrev pub act_now : ℕ → ℕ × Event → List CallEvent
act_now cpu (actor, event.Call (calls.Unlock id)) = only_if (actor == cpu) (calls.Unlock id)
act_now cpu (actor, event.Call (calls.Begin id func info)) = only_if (actor == cpu) (calls.Begin id func info)
act_now cpu (actor, event.Call (calls.End id)) = only_if (actor == cpu) (calls.End id)
act_now cpu _ = []

-- what a CPU's events do for calls, in their order
unfoldable pub acts : ℕ → List (ℕ × Event) → List CallEvent
acts cpu [] = []
acts cpu (e ∷ es) = act_now cpu e ++ acts cpu es

-- what is done for a call: a SYNC call's record is unlocked last, an ASYNC call's first
abbrev pub acts_by : Class → Call → List CallEvent
acts_by Sync call = calls.Begin call.id call.func call.info ∷ calls.End call.id ∷ calls.Unlock call.id ∷ []
acts_by Async call = calls.Unlock call.id ∷ calls.Begin call.id call.func call.info ∷ calls.End call.id ∷ []

abbrev pub acts_of : Call → List CallEvent
acts_of call = acts_by call.class call

-- and for each of these calls, one after the other
abbrev pub acts_of_all : List Call → List CallEvent
acts_of_all [] = []
acts_of_all (x ∷ xs) = acts_of x ++ acts_of_all xs

-- what is left to do once a call's function is entered
abbrev pub left_by : Class → Call → List CallEvent
left_by Sync call = calls.End call.id ∷ calls.Unlock call.id ∷ []
left_by Async call = calls.End call.id ∷ []

-- what is left to do for the call that a CPU is at
abbrev pub left_at : Progress → Call → List CallEvent
left_at Unlocked call = calls.Begin call.id call.func call.info ∷ left_by call.class call
left_at Runs call = left_by call.class call
left_at Ended call = calls.Unlock call.id ∷ []

abbrev pub left_with : Option Current → List CallEvent
left_with None = []
left_with (Some x) = left_at x.progress x.call

-- what is left to do for the calls that a CPU has taken
abbrev pub left : CpuState → List CallEvent
left c = left_with c.current ++ acts_of_all c.batch

-- where the order and the unlocks are told, what a CPU has done and what is left to do is, in order, what is done for each call that it has taken
abbrev pub CallActs : Setting → List (ℕ × Event) → StateValue → ℕ → Type 0
CallActs u es t cpu = u.without.order ≡ false → u.without.unlocks ≡ false → acts cpu es ++ left (cpu_at t cpu) ≡ acts_of_all (taken cpu es)

-- A CPU is done: each call that has begun on it has ended. Where the order is told, so has each call that it has taken. Where the unlocks
-- are told too, all is done for each of them.
pub record IsDone (u : Setting) (cpu : ℕ) (es : List (ℕ × Event)) : Type 0 where
  pub begun : map record_of (begins cpu es) ≡ ends cpu es
  pub taken_ended : u.without.order ≡ false → map id_of (taken cpu es) ≡ ends cpu es
  pub all_acts : u.without.order ≡ false → u.without.unlocks ≡ false → acts cpu es ≡ acts_of_all (taken cpu es)

-- A CPU handles nothing: it is done, and has accepted no interrupt.
pub record HandlesNothing (u : Setting) (cpu : ℕ) (es : List (ℕ × Event)) : Type 0 where
  pub done : IsDone u cpu es
  pub none_accepted : accepted_from cpu false es ≡ false

-- An `accept`, an `idle` and an `off` find a CPU that handles nothing, and where switches are left out, so does an `ack` of DISABLE_IRQ.
-- A `take` finds one that is done.
abbrev pub FindsDone : Setting → ℕ → Event → List (ℕ × Event) → Type 0
FindsDone u cpu (event.Call calls.Accept) es = HandlesNothing u cpu es
FindsDone u cpu (event.Call calls.Idle) es = HandlesNothing u cpu es
FindsDone u cpu (event.Call calls.Take) es = IsDone u cpu es
FindsDone u cpu (event.Stop stops.Off) es = HandlesNothing u cpu es
FindsDone u cpu (event.Stop (stops.Ack phase)) es = u.without.switches ≡ true → phase ≡ DISABLE_IRQ → HandlesNothing u cpu es
FindsDone u cpu _ es = Unit {0}

-- each of the 512 CPUs finds that
abbrev pub CallsAreDone : Type 0
CallsAreDone = (u : Setting) (words : LabelWords) (es : List (ℕ × Event)) (t : StateValue) (cpu : ℕ) (e : Event)
    → IsTrace u words (es ++ (cpu, e) ∷ []) t → cpu < 512 → FindsDone u cpu e es
