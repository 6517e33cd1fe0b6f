-- What a CPU does between two points of a call.
use Rattle.std.specs.Prelude.{◌≡◌, ◌≢◌, ℕ, ℤ, Bool, true, false, Some, None, List, [], ◌∷◌, ◌++◌, map}
use Rattle.std.specs.List.{FoldsTo}
use Rattle.smp_stop_steps.specs.Start.{answer_word}
use Rattle.smp_stop_steps.specs.Tells.{first_readings}
use Rattle.smp_words.specs.declared.phase.TheConstants.{EXIT}
use Rattle.smp_queue.specs.Names.{CallPart}
use Rattle.smp_queue.specs.Cpu.{CpuValue as CallCpuValue}
use Rattle.smp_queue.specs.declared.handler.Heard.{Heard}
use Rattle.smp_calls.specs.Handles.{Handles}
use Rattle.smp_multi.specs.Names.{StopPart, StopCall, One}
use Rattle.smp_multi.specs.Advance.{IsInRound, Advances, completes}
use Rattle.smp_multi.specs.Answers.{IsInOne, completes_one}
use Rattle.smp_multi.specs.Cpu.{CpuValue as StopCpuValue, Inside}
use Rattle.smp_multi.specs.Running.{called}
use Rattle.smp_multi.specs.declared.func.Called.{Called}
use Rattle.smp_multi.specs.declared.turn.Turn.{Turn}
use Rattle.smp_multi.specs.declared.turn.Turn.TheVariants.{Same, Left}
use Rattle.smp_machine.specs.Looks.{HearsOn}
use Rattle.smp_machine.specs.Own.{Own, own_of}
use Rattle.smp_machine.specs.OwnAnswers.{OwnAnswers}
use Rattle.smp_machine.specs.MachineCpu.{MachineCpuValue, notes_looks}
use Rattle.smp_machine.specs.Served.{KeepsVisits, IsLater, Serves}

-- a CPU of the calls that has only handled
abbrev pub handled_part : CallPart → CallPart → CallPart
handled_part old new = record old {
  taken = new.taken;
  batch = new.batch;
  running = new.running;
  ran = new.ran;
  accepted = new.accepted;
  asked = new.asked;
}

abbrev pub handled_calls : CallCpuValue → CallCpuValue → CallCpuValue
handled_calls old new = record old { part = handled_part old.part new.part; asked_after = new.asked_after }

-- each look at the interrupt word is listed with the steps that the CPU had made outside handling, which are as many now
pub record ListsLooks (old new : CallCpuValue) : Type 0 where
  pub found : List Bool
  pub asked_is : new.part.asked ≡ old.part.asked ++ found
  pub after_is : new.asked_after ≡ old.asked_after ++ map (λ _. old.steps) found

-- a call of a stop function, as the CPU's part has it
abbrev pub stop_call : Called → StopCall
stop_call c = record { func = c.func; arg = c.arg; answer = answer_word c.answer }

-- these calls, on the CPU of this number, in order and no others, lead a stop function's value from one to the other
abbrev pub HasRunStops : {F : Type 0} → (F → Called → F → Type 0) → ℕ → F → List Called → F → Type 0
HasRunStops leads number before ran after = FoldsTo (λ p call q. (call.cpu ≡ number) × leads p call q) before ran after

-- A CPU has handled interrupts and taken part in stops: its handler has heard just what it has run, and only while interrupts were
-- on; its stop function has run just its calls, the works that it has taken were served, its answers to its own stops were given by
-- these calls, and of what only its own stop calls change this is left.
pub record Works {H F : Type 0} (hears : H → Heard → H → Type 0) (leads : F → Called → F → Type 0) (old : MachineCpuValue) (h : H) (f : F)
    (new : MachineCpuValue) (h' : H) (f' : F) (own : Own) : Type 0 where
  pub calls_kept : new.calls ≡ handled_calls old.calls new.calls
  pub looks : ListsLooks old.calls new.calls
  pub handled : Handles hears old.calls h new.calls h'
  pub heard : HearsOn old new
  pub table_is : new.stops.table ≡ old.stops.table
  pub setting_is : new.stops.setting ≡ old.stops.setting
  pub number_is : new.stops.number ≡ old.stops.number
  pub ran : List Called
  pub calls_are : new.stops.part.calls ≡ old.stops.part.calls ++ map stop_call ran
  pub grows : HasRunStops leads old.stops.number f ran f'
  pub queues_are : new.passes.queues ≡ old.passes.queues
  pub passes_number : new.passes.number ≡ old.passes.number
  pub later : IsLater old.stops new.stops
  pub serves : Serves old new
  pub mine : OwnAnswers old.stops new.stops
  pub own_is : own_of new ≡ own

-- the handler has heard what one look at the interrupt word, or none, has taken, and that is noted; the rest of the CPU is as it was
pub record Hears {H : Type 0} (hears : H → Heard → H → Type 0) (old : MachineCpuValue) (h : H) (new : MachineCpuValue) (h' : H) : Type 0 where
  pub stops_are : new.stops ≡ old.stops
  pub passes_are : new.passes ≡ old.passes
  pub calls_kept : new.calls ≡ handled_calls old.calls new.calls
  pub looks : ListsLooks old.calls new.calls
  pub handled : Handles hears old.calls h new.calls h'
  pub heard_are : new.heard_at ≡ notes_looks old.calls new.calls old.stops old.heard_at

-- it has looked at the interrupt word once more
abbrev pub LooksOnceMore : CallCpuValue → CallCpuValue → Type 0
LooksOnceMore old new = (found : Bool) × (new.part.asked ≡ old.part.asked ++ found ∷ [])

-- or more often
pub record LooksOnceOrMore (old new : CallCpuValue) : Type 0 where
  pub found : Bool
  pub more : List Bool
  pub asked_is : new.part.asked ≡ old.part.asked ++ found ∷ more

-- one look at the interrupt word
pub record LooksOnce {H : Type 0} (hears : H → Heard → H → Type 0) (old : MachineCpuValue) (h : H) (new : MachineCpuValue) (h' : H) : Type 0 where
  pub rest : Hears hears old h new h'
  pub once : LooksOnceMore old.calls new.calls

-- the same where interrupts are on, and nothing where they are off
pub record LooksIfOn {H : Type 0} (hears : H → Heard → H → Type 0) (old : MachineCpuValue) (h : H) (new : MachineCpuValue) (h' : H) : Type 0 where
  pub rest : Hears hears old h new h'
  pub once : old.stops.irq ≡ true → LooksOnceMore old.calls new.calls
  pub off : old.stops.irq ≡ false → (new.calls ≡ old.calls) × (h' ≡ h)

-- a CPU of the stops that has only taken part in the stop that it is in
abbrev pub turned_part : StopPart → StopPart → StopPart
turned_part old new = record old {
  answers = new.answers;
  looks = new.looks;
  calls = new.calls;
  calling = new.calling;
  readings = new.readings;
  patched = new.patched;
}

abbrev pub turned : StopCpuValue → StopCpuValue → StopCpuValue
turned old new = record old { inside = new.inside; irq = new.irq; part = turned_part old.part new.part; steps = new.steps }

-- the same: it has entered none, and lost none; and the stop functions that it has run
pub record StopMoves {F : Type 0} (leads : F → Called → F → Type 0) (old : StopCpuValue) (f : F) (new : StopCpuValue) (f' : F) : Type 0 where
  pub kept : new ≡ turned old new
  pub keeps : KeepsVisits old new
  pub ran : List Called
  pub calls_are : new.part.calls ≡ old.part.calls ++ map stop_call ran
  pub grows : HasRunStops leads old.number f ran f'

-- a stop of one CPU has run, and is completed with the answer of its function
pub record RunsOne {F : Type 0} (leads : F → Called → F → Type 0) (old : StopCpuValue) (f : F) (new : StopCpuValue) (f' : F) : Type 0 where
  pub at : IsInOne old
  pub answer : ℤ
  pub is : new ≡ completes_one at.stop answer old
  pub ran : leads f (called old.number at.stop.work.func at.stop.work.arg answer) f'

-- the CPU completes its stop where the turn is the one in which it has left
abbrev pub completed : Turn → Inside → StopCpuValue → StopCpuValue
completed Left stop c = completes stop.slot c
completed _ stop c = c

-- one turn of a stop of several CPUs, with its completion at the end
pub record GoesRound {F : Type 0} (leads : F → Called → F → Type 0) (old : StopCpuValue) (f : F) (new : StopCpuValue) (f' : F) (turn : Turn) : Type 0 where
  pub at : IsInRound old
  pub advanced : StopCpuValue
  pub advances : Advances leads at.stop old advanced f f' turn
  pub is : new ≡ completed turn at.stop advanced

-- the CPU is still in the same stop, which it has not left
abbrev pub StaysIn : StopCpuValue → StopCpuValue → Type 0
StaysIn old new = (stop : Inside) → old.inside ≡ Some stop → (acked : ℕ) × (acked ≢ EXIT) × (new.inside ≡ Some (record stop { acked = acked }))

-- it has read nothing since it has left the stop of several CPUs that it was in, but the key of its own patch
abbrev pub ReadsAnew : StopCpuValue → StopCpuValue → Type 0
ReadsAnew old new = (stop : Inside) → old.inside ≡ Some stop → stop.work.kind ≢ One → new.part.readings ≡ first_readings old.number stop.slot stop.work

-- one turn of the work in hand, if any
pub record TurnsStop {F : Type 0} (leads : F → Called → F → Type 0) (old : StopCpuValue) (f : F) (new : StopCpuValue) (f' : F) (turn : Turn) : Type 0 where
  pub moves : StopMoves leads old f new f'
  pub none : old.inside ≡ None → (new ≡ old) × (f' ≡ f) × (turn ≡ Same)
  pub one : IsInOne old → RunsOne leads old f new f' × (turn ≡ Left)
  pub round : IsInRound old → GoesRound leads old f new f' turn
  pub left : turn ≡ Left → (old.inside ≢ None) × (new.inside ≡ None)
  pub stays : turn ≢ Left → StaysIn old new
  pub read : turn ≡ Left → ReadsAnew old new
