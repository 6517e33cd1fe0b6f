-- Where a command of the stop half may begin.
use Rattle.std.specs.Prelude.{◌≡◌, ◌≢◌, ℕ, ◌+◌, ◌<◌, true, false, Some, None, length, slice_set}
use Rattle.smp_stop_steps.specs.Names.{StopStage, TakeGate, OpenGate, Begin, Enter, Advance, Complete, LoadDone, NudgeKey, One, Gate, EXIT, Field, RoundStage}
use Rattle.smp_stop_steps.specs.{State.Setup, Sources.IsWork, Stages.StopControlValue, Stages.stop_goes, Table.stop_number, Value.StopsValue, Value.setup_of}
use Rattle.smp_stop_steps.specs.{Value.stop_control_of, declared.stage.StopStage.TheVariants.ReadKey, declared.stage.StopStage.TheVariants.ReadSite}
use Rattle.smp_stop_steps.specs.Names.completion

-- a CPU outside a command may begin one at this stage; gate is the number in its word
abbrev pub MayBegin : Setup → ℕ → ℕ → StopControlValue → StopStage → Type 0
MayBegin u me gate c TakeGate = Unit {0}
MayBegin u me gate c OpenGate = gate ≡ me + 1
MayBegin u me gate c (Begin work Field.Kind) = (gate ≡ me + 1) × (c.is_open ≡ false) × IsWork u work
MayBegin u me gate c (Enter slot) = (c.visit ≡ None) × (slot < u.cpus)
MayBegin u me gate c (Advance v (RoundStage.Look answer)) = (c.visit ≡ Some v) × (v.kind ≢ One) × (v.acked ≢ EXIT)
MayBegin u me gate c (Complete v (completion.LoadFunc answer)) = (c.visit ≡ Some v) × (v.kind ≡ One)
MayBegin u me gate c (Complete v completion.StoreAnswer) = (c.visit ≡ Some v) × (v.acked ≡ EXIT) × (v.answer ≢ 0)
MayBegin u me gate c (Complete v completion.CountDown) = (c.visit ≡ Some v) × (v.acked ≡ EXIT) × (v.answer ≡ 0)
MayBegin u me gate c LoadDone = c.is_open ≡ true
MayBegin u me gate c (ReadKey k) = (c.interrupts ≡ true) × (k < u.keys)
MayBegin u me gate c (ReadSite i) = (c.interrupts ≡ true) × (i < length u.entries)
MayBegin u me gate c (NudgeKey k up) = (c.interrupts ≡ true) × (u.online me ≡ true) × (k < u.keys)
MayBegin u me gate c _ = ⊥

-- the same, of a stop half
abbrev pub MayBeginAt : StopsValue → ℕ → StopStage → Type 0
MayBeginAt v cpu stage = MayBegin (setup_of v.online v.labels) cpu (stop_number v.table Gate) (stop_control_of v.controls cpu) stage

-- the half with the CPU at this stage
abbrev pub stop_begun : StopsValue → ℕ → StopStage → StopsValue
stop_begun v cpu stage = record v { controls = slice_set v.controls cpu (stop_goes (stop_control_of v.controls cpu) stage).control }
