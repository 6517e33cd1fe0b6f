-- The laws of the stop half, of any number of CPUs and of any words that show stops.
use Rattle.std.specs.Prelude.{◌≡◌, ◌≢◌, ℕ, ◌<◌, Bool, true, false, if◌then◌else◌, Some, List, [], ◌∷◌, ◌++◌}
use Rattle.std.specs.List.{AllByRecursion}
use Rattle.smp_labels.specs.{Law.IsLawful, Plans.AreEntriesOf}
use Rattle.smp_words.specs.declared.seen.Note.TheVariants.{KeyRange}
use Rattle.smp_stop_steps.specs.Names.{has, is_on, StopStage, Advance, NudgeKey, ExchangeKey, Visit, Patch, Work, Word, Gate, Slot, Key, Site, Field}
use Rattle.smp_stop_steps.specs.Names.{DISABLE_IRQ, RUN}
use Rattle.smp_stop_steps.specs.Labels.{labels_in, Agrees, Change, Whole, Patches, ReadKey, patch_answer}
use Rattle.smp_stop_steps.specs.{Stop.Inside, Laws.PhaseLaw, Laws.FunctionLaw, KeyCounts.CountShows, State.Setup, State.IsSetup, State.StopState}
use Rattle.smp_stop_steps.specs.{State.no_stops, Seats.StopRole, Seats.Free, Sources.Source, Sources.Shut, Shows.StopShows, Stages.StopControlValue}
use Rattle.smp_stop_steps.specs.{Stages.stop_outcome, Carries.CarriesIn, Sits.ControlFits, Sits.IsNudge, Steps.StopStep, Steps.CallStep, Steps.at_then}
use Rattle.smp_stop_steps.specs.{Steps.state_after, Tells.plan_at, Tells.first_readings, declared.stage.RoundStage.TheVariants.Acknowledge}

-- at first: words with all slots and the gate free and a lawful label table with all keys off show that nothing was begun
abbrev pub NothingBegun : Type 0
NothingBegun = (u : Setup) (at : Word → ℕ) → IsSetup u → at Gate ≡ 0 → ((s : ℕ) → at (Slot s Field.Roll) ≡ 0) →
    AreEntriesOf u.entries (labels_in at) → IsLawful (labels_in at) →
    ((k : ℕ) → at (Key k) ≡ 0) → StopShows u no_stops at (λ _. Free) (λ _. Shut)

-- each step of a CPU at any stage keeps what the words show, and what is seen of it tells the stops after it
abbrev pub StepsAreTold : Type 0
StepsAreTold = (u : Setup) (p : StopState) (at : Word → ℕ) (seat : ℕ → StopRole) (source : ℕ → Source) → StopShows u p at seat source →
    (c : StopControlValue) (me : ℕ) → ControlFits u me (at Gate) c (seat me) (source me) → CarriesIn c (p.calling me) →
    (stage : StopStage) → c.stage ≡ Some stage → StopStep u p at seat source c me stage × CallStep u p at c me stage

-- the phase law, of each open stop of several CPUs
abbrev pub KeepThePhaseLaw : Type 0
KeepThePhaseLaw = (u : Setup) (p : StopState) (at : Word → ℕ) (seat : ℕ → StopRole) (source : ℕ → Source) → StopShows u p at seat source →
    (s : ℕ) → (p.now.stop s).is_open ≡ true → (p.now.stop s).phase ≢ 0 → PhaseLaw u.cpus (p.now.stop s) (at (Slot s Field.Ack))

-- the function law: while a CPU has looked at phase 3 and not acknowledged it, every CPU of the mask has acknowledged 2,
-- and has its interrupts off
pub record RunsAlone (p : StopState) (s me : ℕ) : Type 0 where
  pub law : FunctionLaw (p.now.stop s) me
  pub all_off : (c : ℕ) → has (p.now.stop s).work.mask c ≡ true → p.now.irq c ≡ false

abbrev pub KeepTheFunctionLaw : Type 0
KeepTheFunctionLaw = (u : Setup) (p : StopState) (at : Word → ℕ) (seat : ℕ → StopRole) (source : ℕ → Source) → StopShows u p at seat source →
    (s me : ℕ) → (p.now.stop s).standing me ≡ Inside DISABLE_IRQ RUN → RunsAlone p s me

-- the label law, for a CPU that is online and has its interrupts on: the table is lawful, and says all that it has read
pub record ReadsLawful (p : StopState) (at : Word → ℕ) (me : ℕ) : Type 0 where
  pub lawful : IsLawful (labels_in at)
  pub agrees : AllByRecursion (Agrees (labels_in at)) (p.now.readings me)

abbrev pub KeepTheLabelLaw : Type 0
KeepTheLabelLaw = (u : Setup) (p : StopState) (at : Word → ℕ) (seat : ℕ → StopRole) (source : ℕ → Source) → StopShows u p at seat source →
    (me : ℕ) → u.online me ≡ true → p.now.irq me ≡ true → ReadsLawful p at me

-- the count law: each key's word is what all CPUs together have moved it
abbrev pub KeepTheCountLaw : Type 0
KeepTheCountLaw = (u : Setup) (p : StopState) (at : Word → ℕ) (seat : ℕ → StopRole) (source : ℕ → Source) → StopShows u p at seat source →
    (k : ℕ) → CountShows u.cpus p.nudged p.patched k (at (Key k))

-- while a patch runs, every CPU that is online has its interrupts off
abbrev pub IsPatchedAlone : Setup → StopState → Type 0
IsPatchedAlone u p = (c : ℕ) (work : Work) (count : ℕ) (made rest : List Change) → p.now.patching ≡ Patches c work count made rest →
    (me : ℕ) → u.online me ≡ true → p.now.irq me ≡ false

abbrev pub PatchesAlone : Type 0
PatchesAlone = (u : Setup) (p : StopState) (at : Word → ℕ) (seat : ℕ → StopRole) (source : ℕ → Source) → StopShows u p at seat source → IsPatchedAlone u p

-- a law of each CPU, by where it is
abbrev pub OfEachCpu : (Setup → StopState → (Word → ℕ) → StopControlValue → ℕ → Type 0) → Type 0
OfEachCpu law = (u : Setup) (p : StopState) (at : Word → ℕ) (seat : ℕ → StopRole) (source : ℕ → Source) → StopShows u p at seat source →
    (c : StopControlValue) (me : ℕ) → ControlFits u me (at Gate) c (seat me) (source me) → law u p at c me

-- outside a patch no step turns a key on or off, or changes a site
pub record KeysStand (at at' : Word → ℕ) : Type 0 where
  pub keys : (k : ℕ) → is_on (at' (Key k)) ≡ is_on (at (Key k))
  pub sites : (i : ℕ) → at' (Site i) ≡ at (Site i)

abbrev pub KeysStandOutsidePatches : Type 0
KeysStandOutsidePatches = OfEachCpu (λ u p at c me.
    (stage : StopStage) → c.stage ≡ Some stage → p.now.patching ≡ Whole → KeysStand at (at_then u at c me stage))

-- a CPU that is to put one count for another: it is online with its interrupts on, so that nobody patches; the count goes
-- up or down by one, and neither is 0
pub record Nudges (u : Setup) (p : StopState) (me expected new : ℕ) : Type 0 where
  pub online : u.online me ≡ true
  pub irq : p.now.irq me ≡ true
  pub whole : p.now.patching ≡ Whole
  pub nudge : IsNudge expected new
  pub some : (0 < expected) × (0 < new)

abbrev pub NudgesStand : Type 0
NudgesStand = OfEachCpu (λ u p at c me. (k expected new : ℕ) → c.stage ≡ Some (ExchangeKey k expected new) → Nudges u p me expected new)

-- a nudge that is refused at the end of the range: the count is there, and the load has read the key
pub record StandsAtEdge (old new : StopState) (at : Word → ℕ) (me k : ℕ) (up : Bool) : Type 0 where
  pub edge : at (Key k) ≡ (if up then 65535 else 0)
  pub read : new.now.readings me ≡ old.now.readings me ++ ReadKey k up ∷ []

abbrev pub EdgesAreRead : Type 0
EdgesAreRead = OfEachCpu (λ u p at c me.
    (k : ℕ) (up : Bool) → c.stage ≡ Some (NudgeKey k up) → (stop_outcome me c (NudgeKey k up) (at (Key k))).note ≡ Some KeyRange →
    StandsAtEdge p (state_after u p at c me (NudgeKey k up)) at me k up)

-- a patch that is to acknowledge: it has made all stores of its plan, none at the end of the range, where it answers 1
pub record IsPatched (u : Setup) (work : Work) (count : ℕ) (made rest : List Change) (answer : ℕ) (ran : Bool) : Type 0 where
  pub all : made ≡ plan_at u work count
  pub none_left : rest ≡ []
  pub answers : answer ≡ patch_answer work count
  pub runs : ran ≡ true

abbrev pub PatchesAnswer : Type 0
PatchesAnswer = OfEachCpu (λ u p at c me.
    (v : Visit) (answer : ℕ) (ran : Bool) → c.stage ≡ Some (Advance v (Acknowledge answer ran)) →
    (work : Work) (count : ℕ) (made rest : List Change) → p.now.patching ≡ Patches me work count made rest → IsPatched u work count made rest answer ran)

-- what a CPU knows of the key as it leaves its own patch, by the number of the change: nothing where the count went down
pub record ReadsOwnPatch (me : ℕ) (work : Work) : Type 0 where
  pub off : work.arg ≡ 0 → first_readings me me work ≡ ReadKey work.func false ∷ []
  pub on : work.arg ≡ 1 → first_readings me me work ≡ ReadKey work.func true ∷ []
  pub up : work.arg ≡ 2 → first_readings me me work ≡ ReadKey work.func true ∷ []
  pub down : work.arg ≡ 3 → first_readings me me work ≡ []

abbrev pub OwnPatchesAreRead : Type 0
OwnPatchesAreRead = (me : ℕ) (work : Work) → work.kind ≡ Patch → ReadsOwnPatch me work
