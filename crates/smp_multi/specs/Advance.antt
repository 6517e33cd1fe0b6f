-- What a turn, and the end of a stop of several CPUs, leave of a CPU.
use Rattle.std.specs.Prelude.{◌≡◌, ◌≢◌, ℕ, ℤ, ◌+◌, nat_lt, Bool, true, false, Some, [], ◌∷◌, ◌++◌, Result, Ok, Err}
use Rattle.smp_mask.specs.Mask.{has}
use Rattle.smp_mask.specs.declared.error.SmpError.{SmpError}
use Rattle.smp_mask.specs.declared.error.SmpError.TheVariants as error
use Rattle.smp_stop_steps.specs.Callings.{answer_in as carried_answer}
use Rattle.smp_stop_steps.specs.Labels.{patch_answer}
use Rattle.smp_stop_steps.specs.Start.{answer_word}
use Rattle.smp_stop_steps.specs.Tells.{first_readings}
use Rattle.smp_words.specs.declared.phase.TheConstants.{DISABLE_IRQ, RUN, EXIT}
use Rattle.smp_multi.specs.Names.{Work, Kind, One, Multi, Patch, Carries}
use Rattle.smp_multi.specs.Answers.{call_of}
use Rattle.smp_multi.specs.Cpu.{CpuValue, Inside, runs, answers, makes}
use Rattle.smp_multi.specs.Laws.{FindsCount}
use Rattle.smp_multi.specs.Running.{called}
use Rattle.smp_multi.specs.StepCounts.{completing, patching}
use Rattle.smp_multi.specs.Turns.{patched_with}
use Rattle.smp_multi.specs.declared.func.Called.{Called}
use Rattle.smp_multi.specs.declared.turn.Turn.{Turn}
use Rattle.smp_multi.specs.declared.turn.Turn.TheVariants.{Same, Moved, Ran, Left}

-- a CPU in a stop of several CPUs, which it has not left
pub record IsInRound (c : CpuValue) : Type 0 where
  pub stop : Inside
  pub is : c.inside ≡ Some stop
  pub several : stop.work.kind ≢ One
  pub not_left : stop.acked ≢ EXIT

-- one that has left it, and has not completed
pub record HasLeft (c : CpuValue) : Type 0 where
  pub stop : Inside
  pub is : c.inside ≡ Some stop
  pub several : stop.work.kind ≢ One
  pub left : stop.acked ≡ EXIT

-- one that has looked at this phase
abbrev pub looks : ℕ → CpuValue → CpuValue
looks p c = record c { part = record (c.part) { looks = c.part.looks ++ p ∷ [] } }

-- one that has looked at this phase and acknowledged it, with its interrupts on or off
abbrev pub acknowledges : Inside → ℕ → Bool → CpuValue → CpuValue
acknowledges stop p on c = record (looks p c) { inside = Some (record stop { acked = p }); irq = on }

-- one that is to complete with this answer
abbrev pub carries : ℕ → CpuValue → CpuValue
carries answer c = record c { part = record (c.part) { calling = Carries answer } }

-- one whose patch has found this count
abbrev pub patches : Work → ℕ → CpuValue → CpuValue
patches w count c = record c { part = record (c.part) { patched = patched_with w count c.part.patched } }

-- one that has left its stop: what it has read is that of its own patch, or nothing
abbrev pub reads_anew : Inside → CpuValue → CpuValue
reads_anew stop c = record c { part = record (c.part) { readings = first_readings c.number stop.slot stop.work } }

-- one that has called the function of its Multi stop at RUN, with this answer
abbrev pub runs_at_run : Inside → ℤ → CpuValue → CpuValue
runs_at_run stop v c = makes 4 (carries (answer_word v) (runs (call_of stop v) (acknowledges stop RUN false c)))

-- an active CPU at RUN: it has called the function of its Multi stop once, or has made its patch, which leads from the count
-- that its load has found in the key
abbrev pub RunsAt : {F : Type 0} → (F → Called → F → Type 0) → Inside → CpuValue → CpuValue → F → F → Kind → Type 0
RunsAt leads stop old new before after One = ⊥
RunsAt leads stop old new before after Multi =
    (answer : ℤ) × (new ≡ runs_at_run stop answer old)
    × leads before (called old.number stop.work.func stop.work.arg answer) after
RunsAt leads stop old new before after Patch =
    (count : ℕ) × (new ≡ makes (5 + patching old.setting stop.work count)
    (carries (patch_answer stop.work count) (patches stop.work count (acknowledges stop RUN false old))))
    × (after ≡ before) × FindsCount (makes 3 (looks RUN old)) stop.work.func count

-- one turn, in this stop. The CPU has looked at one phase more, the last that it has acknowledged at the end: a new one but
-- at Same. Interrupts are off from DISABLE_IRQ until it has left. The two stores of the last to acknowledge are not counted
abbrev pub Advances : {F : Type 0} → (F → Called → F → Type 0) → Inside → CpuValue → CpuValue → F → F → Turn → Type 0
Advances leads stop old new before after Same = (new ≡ makes 1 (looks stop.acked old)) × (after ≡ before)
Advances leads stop old new before after (Moved p) = (p ≡ stop.acked + 1) × (p ≢ EXIT) × (p ≡ RUN → has stop.work.active old.number ≡ false)
    × (new ≡ makes 2 (acknowledges stop p (nat_lt p DISABLE_IRQ) old)) × (after ≡ before)
Advances leads stop old new before after Ran = (stop.acked ≡ DISABLE_IRQ) × (has stop.work.active old.number ≡ true)
    × RunsAt leads stop old new before after stop.work.kind
Advances leads stop old new before after Left = (stop.acked ≡ RUN)
    × (new ≡ makes 2 (reads_anew stop (acknowledges stop EXIT true old))) × (after ≡ before)

-- advance: one turn; refused where the CPU is in no stop of several CPUs, or has left it
abbrev pub AdvanceAnswers : {F : Type 0} → (F → Called → F → Type 0) → CpuValue → CpuValue → F → F → Result Turn SmpError → Type 0
AdvanceAnswers leads old new before after (Ok turn) = (at : IsInRound old) × Advances leads at.stop old new before after turn
AdvanceAnswers leads old new before after (Err error.BadArgument) = (¬ (IsInRound old)) × (new ≡ old) × (after ≡ before)
AdvanceAnswers leads old new before after (Err _) = ⊥

-- one that has left the stop of this slot and has completed with the answer that it carries, or with 0
abbrev pub completes : ℕ → CpuValue → CpuValue
completes slot c = let x = carried_answer c.part.calling in makes (completing x) (answers slot x c)

-- finish: the CPU completes; refused before it has left
abbrev pub FinishAnswers : CpuValue → CpuValue → Result Unit SmpError → Type 0
FinishAnswers old new (Ok u) = (at : HasLeft old) × (new ≡ completes at.stop.slot old)
FinishAnswers old new (Err error.BadArgument) = (¬ (HasLeft old)) × (new ≡ old)
FinishAnswers old new (Err _) = ⊥
