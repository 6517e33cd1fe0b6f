-- CPUs that are not online, in the stops.
use Rattle.std.specs.Prelude.{◌≡◌, ◌≢◌, ℕ, ◌+◌, Bool, true, false, Option, Some, None, List, []}
use Rattle.smp_mask.specs.Mask.{has}
use Rattle.smp_stop_steps.specs.Threads.Known.{holds_it}
use Rattle.smp_stop_steps.specs.Stages.{stop_outside}
use Rattle.smp_stop_steps.specs.State.{StopState, no_stops, unmoved}
use Rattle.smp_stop_steps.specs.Stop.{Outside}
use Rattle.smp_stop_steps.specs.Table.{stop_number}
use Rattle.smp_stop_steps.specs.Value.{StopShown, StopsValue, stop_control_of}
use Rattle.smp_stop_steps.specs.declared.known.Calling.{Calling}
use Rattle.smp_stop_steps.specs.declared.known.Calling.TheVariants.{Idle}
use Rattle.smp_stop_steps.specs.declared.known.Moved.{Moved}
use Rattle.smp_stop_steps.specs.declared.known.Reading.{Reading}
use Rattle.smp_stop_steps.specs.declared.known.StopCall.{StopCall}
use Rattle.smp_words.specs.declared.field.Field.TheVariants.{Roll}
use Rattle.smp_words.specs.declared.word.Word.TheVariants.{Gate, Slot}
use Rattle.smp_words.specs.declared.work.Work.{Work}

-- all that the state of the stops has of one CPU
pub record StopPart : Type 0 where
  pub holds : Bool
  pub inside : Option ℕ
  pub irq : Bool
  pub readings : List Reading
  pub begun : List Work
  pub collected : List ℕ
  pub answers : ℕ → List ℕ
  pub looks : List ℕ
  pub calls : List StopCall
  pub calling : Calling
  pub nudged : ℕ → Moved
  pub patched : ℕ → Moved

abbrev pub stop_part_of : StopState → ℕ → StopPart
stop_part_of p c = record {
  holds = holds_it p.gate c;
  inside = p.now.inside c;
  irq = p.now.irq c;
  readings = p.now.readings c;
  begun = p.begun c;
  collected = p.collected c;
  answers = p.answers c;
  looks = p.looks c;
  calls = p.calls c;
  calling = p.calling c;
  nudged = p.nudged c;
  patched = p.patched c;
}

-- a stop half shows some stops; a CPU that is not online is outside a command and in no stop, and its part of the stops is that of
-- no stops
pub record AreStopsApart (v : StopsValue) : Type 0 where
  pub stops : StopState
  pub shown : StopShown stops v
  pub outside : (cpu : ℕ) → has v.online cpu ≡ false → stop_control_of v.controls cpu ≡ stop_outside
  pub idle : (cpu : ℕ) → has v.online cpu ≡ false → stop_part_of stops cpu ≡ stop_part_of no_stops cpu

-- a CPU does not hold the gate, and is in no stop and of none; its own stop is shut, and it has begun none; it has looked at no
-- phase, called no function, answered nothing and read nothing, and has moved no key's count
pub record HasNoStop (p : StopState) (cpu : ℕ) : Type 0 where
  pub gate : p.gate ≢ Some cpu
  pub inside : p.now.inside cpu ≡ None
  pub standing : (s : ℕ) → (p.now.stop s).standing cpu ≡ Outside
  pub irq : p.now.irq cpu ≡ true
  pub shut : (p.now.stop cpu).is_open ≡ false
  pub begun : p.begun cpu ≡ []
  pub collected : p.collected cpu ≡ []
  pub answers : (s : ℕ) → p.answers cpu s ≡ []
  pub looks : p.looks cpu ≡ []
  pub calls : p.calls cpu ≡ []
  pub calling : p.calling cpu ≡ Idle
  pub readings : p.now.readings cpu ≡ []
  pub nudged : (k : ℕ) → p.nudged cpu k ≡ unmoved
  pub patched : (k : ℕ) → p.patched cpu k ≡ unmoved

-- CPUs that are not online have no part in these stops
abbrev pub AreInNoStop : ℕ → StopState → Type 0
AreInNoStop online p = (cpu : ℕ) → has online cpu ≡ false → HasNoStop p cpu

-- the words and the stages show stops in which CPUs that are not online have no part; they are outside a command; the gate's word and
-- the rolls have none of them, and each open stop is of CPUs that are online
pub record LeavesOfflineStops (online : ℕ) (v : StopsValue) : Type 0 where
  pub stops : StopState
  pub shown : StopShown stops v
  pub nothing : AreInNoStop online stops
  pub outside : (cpu : ℕ) → has online cpu ≡ false → (stop_control_of v.controls cpu).stage ≡ None
  pub gate : (cpu : ℕ) → has online cpu ≡ false → stop_number v.table Gate ≢ cpu + 1
  pub rolls : (s cpu : ℕ) → has online cpu ≡ false → has (stop_number v.table (Slot s Roll)) cpu ≡ false
  pub members : (s cpu : ℕ) → (stops.now.stop s).is_open ≡ true → has (stops.now.stop s).work.mask cpu ≡ true → has online cpu ≡ true
