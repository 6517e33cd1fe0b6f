-- The calls of stop functions at running threads: where a CPU is that is to answer, how calls are listed, and that steps by value are those of calls.
use Rattle.std.specs.Prelude.{◌≡◌, ℤ, true, false, Some, [], ◌∷◌, ◌++◌}
use Rattle.smp_mask.specs.Mask.{has}
use Rattle.smp_stop_steps.specs.Start.{answer_word}
use Rattle.smp_words.specs.declared.phase.TheConstants.{DISABLE_IRQ, RUN}
use Rattle.smp_multi.specs.Names.{Kind, One, Multi, Patch, KnownStops, Work}
use Rattle.smp_multi.specs.Advance.{looks, runs_at_run}
use Rattle.smp_multi.specs.Answers.{completes_one}
use Rattle.smp_multi.specs.ByValue.{answers_one, answers_run, begins_call}
use Rattle.smp_multi.specs.Cpu.{AnsweringValue, CpuValue, Inside, makes}
use Rattle.smp_multi.specs.Laws.{StopsAreShown}
use Rattle.smp_multi.specs.Rounds.{AloneWhile}

-- who is to answer in a Multi stop is active, has not acknowledged RUN, and has its interrupts off; as long as it knows this, whatever others do,
-- every CPU of the mask has acknowledged DISABLE_IRQ, and has its interrupts off
abbrev pub CallsThere : Inside → CpuValue → KnownStops → Kind → Type 0
CallsThere stop c v One = Unit {0}
CallsThere stop c v Multi = (stop.acked ≡ DISABLE_IRQ) × (has stop.work.active c.number ≡ true) × (c.irq ≡ false) × AloneWhile v stop.slot
CallsThere stop c v Patch = ⊥

-- it is to call the function of the stop that it is in
pub record CallsAlone (a : AnsweringValue) : Type 0 where
  pub stop : Inside
  pub is : a.cpu.inside ≡ Some stop
  pub func : a.func ≡ stop.work.func
  pub arg : a.arg ≡ stop.work.arg
  pub shown : StopsAreShown a.cpu
  pub there : CallsThere stop a.cpu shown.known stop.work.kind

-- one call more is listed: of the function of this work, with its argument and this answer
abbrev pub ListsCall : Work → ℤ → CpuValue → CpuValue → Type 0
ListsCall w v old new = new.part.calls ≡ old.part.calls ++ record { func = w.func; arg = w.arg; answer = answer_word v } ∷ []

-- so it is at Ran of a Multi stop, at run_one, and at answer
abbrev pub CallsAreListed : Type 0
CallsAreListed = (stop : Inside) (v : ℤ) (c : CpuValue) → ListsCall stop.work v c (runs_at_run stop v c) × ListsCall stop.work v c (completes_one stop v c)
    × ListsCall stop.work v c (answers_run stop v c) × ListsCall stop.work v c (answers_one stop v c)

-- a turn that comes to a call, and its answer, are a turn of advance; begin_one and its answer are run_one
abbrev pub StepsAreCalls : Type 0
StepsAreCalls = (stop : Inside) (v : ℤ) (c : CpuValue) → (answers_run stop v (begins_call stop (makes 3 (looks RUN c))) ≡ runs_at_run stop v c)
    × (answers_one stop v (begins_call stop (makes 2 c)) ≡ completes_one stop v c)
