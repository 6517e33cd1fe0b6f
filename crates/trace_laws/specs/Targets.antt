-- For whom calls are queued, whose the events of stops are, and of which stops.
use Rattle.std.specs.Prelude.{◌≡◌, ◌≢◌, ℕ, ◌<◌, ◌≤◌, ◌⊎◌, Bool, true, false, List, [], ◌∷◌, ◌++◌}
use Rattle.smp_mask.specs.Mask.{has}
use Rattle.smp_labels.specs.declared.words.LabelWords.{LabelWords}
use Rattle.smp_words.specs.declared.call.Class.{Class}
use Rattle.trace_model.specs.declared.event.Event.{Event}
use Rattle.trace_model.specs.declared.event.Event.TheVariants as event
use Rattle.trace_model.specs.declared.event.CallEvent.TheVariants as calls
use Rattle.trace_model.specs.declared.event.OtherNode.{OtherNode}
use Rattle.trace_model.specs.declared.event.StopEvent.{StopEvent}
use Rattle.trace_model.specs.declared.event.StopEvent.TheVariants as stops
use Rattle.trace_model.specs.declared.without.Setting.{Setting}
use Rattle.trace_model.specs.State.{StateValue}
use Rattle.trace_laws.specs.Traces.{IsTrace}

-- a CPU below 32 that is online, or one from 32 on that there is
abbrev pub IsThere : Setting → ℕ → Type 0
IsThere u cpu = (cpu < 32) × (has u.online cpu ≡ true) ⊎ (32 ≤ cpu) × ((cpu < u.cpus) × (cpu < 512))

-- a call is queued for another CPU, which is there
abbrev pub CallsHaveTargets : Type 0
CallsHaveTargets = (u : Setting) (words : LabelWords) (es : List (ℕ × Event)) (t : StateValue) (cpu id to : ℕ) (class : Class) (func info : ℕ)
    → IsTrace u words (es ++ (cpu, event.Call (calls.Queue id to class func info)) ∷ []) t → (to ≢ cpu) × IsThere u to

-- and so is what is no call
abbrev pub OthersHaveTargets : Type 0
OthersHaveTargets = (u : Setting) (words : LabelWords) (es : List (ℕ × Event)) (t : StateValue) (cpu to : ℕ) (node : OtherNode)
    → IsTrace u words (es ++ (cpu, event.Call (calls.QueueOther to node)) ∷ []) t → (to ≢ cpu) × IsThere u to

-- what a CPU does in a stop: any CPU takes and gives the gate, opens a stop and collects its result
abbrev pub is_inside : StopEvent → Bool
is_inside stops.Gate = false
is_inside stops.Ungate = false
is_inside (stops.Open number task) = false
is_inside (stops.Collect number answer) = false
is_inside _ = true

-- what a CPU does in a stop is of a CPU below 32
abbrev pub StopsAreLow : Type 0
StopsAreLow = (u : Setting) (words : LabelWords) (es : List (ℕ × Event)) (t : StateValue) (cpu : ℕ) (e : StopEvent)
    → IsTrace u words (es ++ (cpu, event.Stop e) ∷ []) t → is_inside e ≡ true → cpu < 32

-- the stop that an event names is one of the 64
abbrev pub NamesStop : StopEvent → Type 0
NamesStop (stops.Open number task) = number < 64
NamesStop (stops.Enter number) = number < 64
NamesStop (stops.Collect number answer) = number < 64
NamesStop _ = Unit {0}

-- a stop that is opened, entered or collected has a number below 64
abbrev pub StopsAreThere : Type 0
StopsAreThere = (u : Setting) (words : LabelWords) (es : List (ℕ × Event)) (t : StateValue) (cpu : ℕ) (e : StopEvent)
    → IsTrace u words (es ++ (cpu, event.Stop e) ∷ []) t → NamesStop e
