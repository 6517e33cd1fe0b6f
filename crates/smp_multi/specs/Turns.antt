-- What one turn of a stop of several CPUs does, by what the CPU knows before and after it.
use Rattle.std.specs.Prelude.{◌≡◌, ◌≢◌, ℕ, ℤ, ◌+◌, ◌==◌, true, false, cond, List}
use Rattle.smp_mask.specs.Mask.{has}
use Rattle.smp_stop_steps.specs.Threads.Known.{carrying, stepped}
use Rattle.smp_multi.specs.Lives.{StopMoment}
use Rattle.smp_stop_steps.specs.Threads.KnownAfter.{counted, looked_known, looked_to}
use Rattle.smp_stop_steps.specs.Labels.{count_set, patch_answer}
use Rattle.smp_stop_steps.specs.Stages.{visit_acked}
use Rattle.smp_stop_steps.specs.declared.known.Moved.{Moved as CountMoved}
use Rattle.smp_words.specs.declared.phase.TheConstants.{DISABLE_IRQ, RUN, EXIT}
use Rattle.smp_stop_steps.specs.declared.stage.Visit.{Visit}
use Rattle.smp_multi.specs.Names.{Key, Work, Kind, One, Multi, Patch, StopRole, KnownStops, Carries}
use Rattle.smp_multi.specs.Places.{work_in}
use Rattle.smp_multi.specs.Rounds.{passed_by, passed_known}
use Rattle.smp_multi.specs.Running.{answered_now, called_by}
use Rattle.smp_multi.specs.StepCounts.{patching}
use Rattle.smp_multi.specs.declared.func.Called.{Called}
use Rattle.smp_multi.specs.declared.turn.Turn.{Turn}
use Rattle.smp_multi.specs.declared.turn.Turn.TheVariants.{Same, Moved, Ran, Left}

-- by how much a patch of this work, which has found this count, has moved each key
abbrev pub patched_with : Work → ℕ → List CountMoved → List CountMoved
patched_with w count l = cond (count == count_set w count) l (counted l w.func count (count_set w count))

-- it has looked at RUN, has made its patch, which has found this count, and has acknowledged RUN with the patch's answer
abbrev pub patched_by : ℕ → StopRole → KnownStops → KnownStops
patched_by count x v = let next = passed_by x (carrying (patch_answer (work_in x) count) v) in
    record next { part = record (next.part) { calling = Carries 0; patched = patched_with (work_in x) count v.part.patched } }

-- an active CPU has acknowledged RUN with its function called, or its patch made
abbrev pub HasRunFunction : {F : Type 0} → (F → Called → F → Type 0) → KnownStops → KnownStops → Visit → Visit → F → F → Kind → Type 0
HasRunFunction leads old new v v' f g One = ⊥
HasRunFunction leads old new v v' f g Multi = (answer : ℤ)
    × (new ≡ stepped 4 (passed_by (looked_to RUN old.seat) (answered_now answer (looked_known RUN old))))
    × (v' ≡ visit_acked v 0 false) × leads f (called_by old answer) g
HasRunFunction leads old new v v' f g Patch =
    (count : ℕ) × StopMoment (stepped 3 (looked_known RUN old)) (Key (work_in old.seat).func) count
    × (new ≡ stepped (5 + patching old.setting (work_in old.seat) count) (patched_by count (looked_to RUN old.seat) (looked_known RUN old)))
    × (v' ≡ visit_acked v 0 false) × (g ≡ f)

-- it looks at one phase more; where that is new it acknowledges it, and at RUN an active CPU has called its function
abbrev pub TurnAnswers : {F : Type 0} → (F → Called → F → Type 0) → KnownStops → KnownStops → Visit → Visit → F → F → Turn → Type 0
TurnAnswers leads old new v v' f g Same = (new ≡ stepped 1 (looked_known v.acked old)) × (v' ≡ v) × (g ≡ f)
TurnAnswers leads old new v v' f g (Moved p) = (p ≡ v.acked + 1) × (p ≢ EXIT) × (p ≡ RUN → has v.active old.number ≡ false)
    × (new ≡ stepped 2 (passed_known p old)) × (v' ≡ visit_acked v 0 false) × (g ≡ f)
TurnAnswers leads old new v v' f g Ran = (v.acked ≡ DISABLE_IRQ) × (has v.active old.number ≡ true) × HasRunFunction leads old new v v' f g v.kind
TurnAnswers leads old new v v' f g Left = (v.acked ≡ RUN) × (new ≡ stepped 2 (passed_known EXIT old))
    × (v' ≡ visit_acked v 0 false) × (g ≡ f)

-- no function is called
abbrev pub no_call : Unit {0} → Called → Unit {0} → Type 0
no_call f call g = ⊥
