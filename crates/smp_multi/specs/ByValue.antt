-- A stop step by step, with the CPU by value: what each call hands out, and what the answer of a function leaves.
use Rattle.std.specs.Prelude.{◌≡◌, ℤ, true, false, Some, Result, Ok, Err}
use Rattle.smp_mask.specs.Mask.{has}
use Rattle.smp_stop_steps.specs.Start.{answer_word}
use Rattle.smp_words.specs.declared.phase.TheConstants.{DISABLE_IRQ, RUN}
use Rattle.smp_multi.specs.Names.{Kind, One, Multi, Patch, Calls}
use Rattle.smp_multi.specs.Advance.{Advances, IsInRound, carries, looks}
use Rattle.smp_multi.specs.Answers.{IsInOne, call_of}
use Rattle.smp_multi.specs.Cpu.{AnsweringValue, CpuValue, Inside, answers, call_with, makes, runs}
use Rattle.smp_multi.specs.StepCounts.{completing}
use Rattle.smp_multi.specs.Turns.{no_call}
use Rattle.smp_multi.specs.declared.answering.Turned.{Turned}
use Rattle.smp_multi.specs.declared.answering.Turned.TheVariants as turned
use Rattle.smp_multi.specs.declared.turn.Turn.{Turn}
use Rattle.smp_multi.specs.declared.turn.Turn.TheVariants.{Same, Moved, Ran, Left}

-- a CPU that calls the function of its stop
abbrev pub begins_call : Inside → CpuValue → CpuValue
begins_call stop c = record c { part = record (c.part) { calling = Calls (call_with stop.work 0) } }

-- one that is to answer: this CPU, with the function and the argument of its stop
abbrev pub to_answer : Inside → CpuValue → AnsweringValue
to_answer stop c = record { cpu = begins_call stop c; func = stop.work.func; arg = stop.work.arg }

-- begin_one: the function of the stop of one CPU is to be called
abbrev pub OneAnswers : CpuValue → Result AnsweringValue CpuValue → Type 0
OneAnswers old (Ok a) = (at : IsInOne old) × (a ≡ to_answer at.stop (makes 2 old))
OneAnswers old (Err new) = (¬ (IsInOne old)) × (new ≡ old)

-- this CPU, after a turn that has done this
abbrev pub turned_so : CpuValue → Turn → Turned
turned_so c Same = turned.Same c
turned_so c (Moved p) = turned.Moved c p
turned_so c Ran = turned.Ran c
turned_so c Left = turned.Left c

-- an active CPU is to call the function of its Multi stop: it has looked at RUN, and has loaded the function and its argument
abbrev pub ComesToCall : Inside → CpuValue → AnsweringValue → Type 0
ComesToCall stop old a = (stop.work.kind ≡ Multi) × (stop.acked ≡ DISABLE_IRQ) × (has stop.work.active old.number ≡ true)
    × (a ≡ to_answer stop (makes 3 (looks RUN old)))

-- a turn in this stop: as one of `advance` that calls no function, or it comes to the call of one
abbrev pub TurnsTo : Inside → CpuValue → Turned → Type 0
TurnsTo stop old (turned.Same new) = Advances no_call stop old new tt tt Same
TurnsTo stop old (turned.Moved new p) = Advances no_call stop old new tt tt (Moved p)
TurnsTo stop old (turned.Ran new) = Advances no_call stop old new tt tt Ran
TurnsTo stop old (turned.Left new) = Advances no_call stop old new tt tt Left
TurnsTo stop old (turned.Call a) = ComesToCall stop old a

-- turn
abbrev pub TurnedAnswers : CpuValue → Result Turned CpuValue → Type 0
TurnedAnswers old (Ok r) = (at : IsInRound old) × TurnsTo at.stop old r
TurnedAnswers old (Err new) = (¬ (IsInRound old)) × (new ≡ old)

-- one whose function has given this answer: it has acknowledged RUN, and carries the answer
abbrev pub answers_run : Inside → ℤ → CpuValue → CpuValue
answers_run stop v c = makes 1 (carries (answer_word v) (runs (call_of stop v) (record c { inside = Some (record stop { acked = RUN }); irq = false })))

-- or it has completed its stop of one CPU with the answer
abbrev pub answers_one : Inside → ℤ → CpuValue → CpuValue
answers_one stop v c = let x = answer_word v in makes (completing x) (answers stop.slot x (runs (call_of stop v) c))

abbrev pub Leaves : Inside → ℤ → CpuValue → CpuValue → Kind → Type 0
Leaves stop v old new One = new ≡ answers_one stop v old
Leaves stop v old new Multi = new ≡ answers_run stop v old
Leaves stop v old new Patch = ⊥

-- answer
abbrev pub Answered : AnsweringValue → ℤ → CpuValue → Type 0
Answered a v new = (stop : Inside) × (a.cpu.inside ≡ Some stop) × Leaves stop v a.cpu new stop.work.kind
